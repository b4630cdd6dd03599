-- `write_cells::put::put_pads` meets its contract: what is left to write stands in the loop's invariant. Assumes nothing.
use Prim.Native.Nat.{◌+◌, ◌-◌}
use mathlib.Core.Path.{◌≡◌}
use lib.ListN.{length}
use Rattle.field_put.specs.Bytes.{put}
use Rattle.write_layout.specs.Runs.{pads}
use Rattle.write_cells.proofs.put.put_pads.Given as goal

abbrev pub invariant-loop-i : goal.invariant-loop-i
invariant-loop-i l = (length l.out ≡ length l.initial.out) × (put l.initial.out l.p (pads l.n) ≡ put l.out (l.p + l.i) (pads (l.n - l.i)))
