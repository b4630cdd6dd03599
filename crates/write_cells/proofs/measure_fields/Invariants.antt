-- `write_cells::measure_fields` meets its contract: what is left to measure stands in the invariant. Assumes nothing.
use Prim.Native.Nat.{◌+◌, ◌-◌, ◌*◌, ◌≤◌}
use mathlib.Core.Path.{◌≡◌}
use lib.ListN.{length}
use Rattle.write_cells.specs.Cells.{left_bytes}
use Rattle.write_cells.proofs.LoopLaws.{left_at, measure_of}
use Rattle.write_cells.proofs.measure_fields.Given as goal

abbrev pub invariant-loop-rest : goal.invariant-loop-rest
invariant-loop-rest l =
    (l.i ≤ 9) × (length l.row ≡ 27) × (l.n ≤ 2 + 65536 * l.i) × (measure_of (left_bytes 9 l.layout 0 l.text l.row) 2 ≡ measure_of (left_at l.text l.row l.i l.rest l.word) l.n)

abbrev pub decreases-loop-rest : goal.decreases-loop-rest
decreases-loop-rest l = 9 - l.i
