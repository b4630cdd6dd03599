-- `field_put::put_all` meets its contract: what is left to write stands in the loop's invariant. Assumes nothing.
use Prim.Native.Nat.{◌+◌, ◌-◌, ◌≤◌}
use mathlib.Core.Path.{◌≡◌}
use lib.ListN.{length, drop}
use Rattle.field_put.specs.Bytes.{put}
use Rattle.field_put.proofs.put_all.Given as goal

abbrev pub invariant-loop-i : goal.invariant-loop-i
invariant-loop-i l =
    (l.i ≤ length l.xs) × (l.to ≡ l.p + l.i) × (l.p + length l.xs ≤ length l.out) × (length l.out ≡ length l.initial.out) × (put l.initial.out l.p l.xs ≡ put l.out l.to (drop l.i l.xs))

abbrev pub decreases-loop-i : goal.decreases-loop-i
decreases-loop-i l = length l.xs - l.i
