-- `stream_drop::passes::down` meets its contract: the records that are left stand in the loop's invariant. Assumes nothing.
use mathlib.Core.Path.{◌≡◌}
use mathlib.Core.Bool.{true}
use lib.ListN.{length}
use Rattle.stream_drop.specs.Each.{held_of}
use Rattle.stream_drop.specs.Passes.{down_from}
use Rattle.stream_drop.proofs.passes.down.Given as goal

abbrev pub invariant-loop-i : goal.invariant-loop-i
invariant-loop-i l = (length l.table ≡ length l.initial.table) × (length l.out ≡ length l.initial.out) × (down_from l.minimum l.s l.i l.end (held_of l.good l.table l.out) ≡ down_from l.minimum l.s l.n (length l.s) (held_of true l.initial.table l.initial.out))

abbrev pub decreases-loop-i : goal.decreases-loop-i
decreases-loop-i l = l.i
