-- `stream_drop::each::at_elements` meets its contract: what is left stands in the loop's invariant. Assumes nothing.
use Prim.Native.Nat.{◌-◌}
use mathlib.Core.Path.{◌≡◌}
use lib.ListN.{length}
use Rattle.stream_drop.specs.Each.{held_of, done_from}
use Rattle.stream_drop.proofs.each.at_elements.Given as goal

abbrev pub invariant-loop : goal.invariant-loop
invariant-loop l = (length l.table ≡ length l.initial.table) × (length l.out ≡ length l.initial.out) × (done_from l.minimum l.job (length l.s - l.counter) l.s l.here (held_of l.fine l.table l.out) ≡ done_from l.minimum l.job (length l.s) l.s l.initial.here (held_of l.fn.good l.initial.table l.initial.out))
