-- `write_cells::slots_piece` meets its contract. Assumes nothing.
use native.Mathlib.Omega.{arith}
use Prim.Native.Nat.{◌+◌, ◌/◌}
use Rattle.write_layout.specs.Fields.{write_field}
use Rattle.write_pieces.proofs.FitLaws.{bad-piece, run-piece}
use Rattle.write_cells.proofs.CellLaws.{is-many, run-bad}
use Rattle.write_cells.proofs.slots_piece.Goals as goal

pub returns-then-w-length : goal.returns-then-w-length
unfolding write_field
returns-then-w-length c = λ t.
    let a = c.args in
    rw (is-many t a.kind a.place a.length (omega arith), run-bad t a.place a.length ((a.w + 1) / 2) (omega arith)) (bad-piece t)

pub returns : goal.returns
unfolding write_field
returns c = λ t.
    let a = c.args in
    rw (is-many t a.kind a.place a.length (omega arith)) (run-piece t a.place a.length ((a.w + 1) / 2) (omega arith))
