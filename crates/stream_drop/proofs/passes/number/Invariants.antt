-- `stream_drop::passes::number` meets its contract: the entries that are left stand in the loop's invariant. Assumes nothing.
use Prim.Native.Nat.{◌+◌, ◌*◌, ◌-◌, ◌≤◌}
use mathlib.Core.Path.{◌≡◌}
use lib.ListN.{length}
use Rattle.stream_drop.specs.Passes.{numbered_to, number_from}
use Rattle.stream_drop.proofs.passes.number.Given as goal

abbrev pub invariant-loop-i : goal.invariant-loop-i
invariant-loop-i l = (length l.table ≡ length l.initial.table) × (l.k.next ≤ l.minimum + l.i) × (l.k.bytes ≤ 65537 * l.i) × (number_from (l.n - l.i) l.i (numbered_to l.table l.k) ≡ number_from l.n 0 (numbered_to l.initial.table l.initial.k))
