-- `write_cells::put_fields` meets its contract: what is left to write stands in the invariant. Assumes nothing.
use Prim.Native.Nat.{ℕ, ◌-◌, ◌≤◌}
use mathlib.Core.Bool.{true}
use mathlib.Core.List.{List}
use mathlib.Core.Path.{◌≡◌}
use lib.ListN.{length}
use Rattle.field_put.specs.Bytes.{Room, Puts}
use Rattle.write_layout.specs.Fields.{encodes, encoded_bytes}
use Rattle.write_cells.specs.Cells.{left_bytes}
use Rattle.write_cells.proofs.LoopLaws.{left_at}
use Rattle.write_cells.proofs.put_fields.Given as goal

abbrev pub invariant-loop-rest : goal.invariant-loop-rest
invariant-loop-rest l =
    (l.i ≤ 9) × (length l.row ≡ 27) × (encodes (left_at l.text l.row l.i l.rest l.w) ≡ true) × (Room l.out l.to (encoded_bytes (left_at l.text l.row l.i l.rest l.w))) × (length l.out ≡ length l.initial.out)
    × ((r : ℕ) (s : List ℕ) → Puts l.out l.to (encoded_bytes (left_at l.text l.row l.i l.rest l.w)) r s → Puts l.initial.out l.p (encoded_bytes (left_bytes 9 l.layout 0 l.text l.row)) r s)

abbrev pub decreases-loop-rest : goal.decreases-loop-rest
decreases-loop-rest l = 9 - l.i
