-- `write_cells::types_piece` meets its contract. Assumes nothing.
use native.Mathlib.Omega.{arith}
use Prim.Native.Nat.{◌*◌}
use Rattle.write_layout.specs.Fields.{write_field}
use Rattle.write_pieces.proofs.FitLaws.{bad-piece, run-piece}
use Rattle.write_cells.proofs.CellLaws.{is-many, run-bad}
use Rattle.write_cells.proofs.types_piece.Goals as goal

pub returns-then-length-ne0 : goal.returns-then-length-ne0
unfolding write_field
returns-then-length-ne0 c = λ t.
    let a = c.args in
    rw (is-many t a.kind a.place a.length (omega arith), run-bad t a.place a.length (4 * a.w) (omega arith)) (bad-piece t)

pub returns-then-length-w : goal.returns-then-length-w
unfolding write_field
returns-then-length-w c = λ t.
    let a = c.args in
    rw (is-many t a.kind a.place a.length (omega arith), run-bad t a.place a.length (4 * a.w) (omega arith)) (bad-piece t)

pub returns : goal.returns
unfolding write_field
returns c = λ t.
    let a = c.args in
    rw (is-many t a.kind a.place a.length (omega arith)) (run-piece t a.place a.length (4 * a.w) (omega arith))
