-- `write_pieces::put_part` meets its contract: what is left to write stands in the loop's invariant. Assumes nothing.
use Prim.Native.Nat.{◌+◌, ◌-◌}
use mathlib.Core.Path.{◌≡◌}
use lib.ListN.{length}
use Rattle.field_put.specs.Bytes.{put}
use Rattle.write_layout.specs.Runs.{part_at}
use Rattle.write_pieces.proofs.put_part.Given as goal

abbrev pub invariant-loop-i : goal.invariant-loop-i
invariant-loop-i l = (length l.out ≡ length l.initial.out) × (put l.initial.out l.p (part_at l.text l.q l.n) ≡ put l.out (l.p + l.i) (part_at l.text (l.q + l.i) (l.n - l.i)))
