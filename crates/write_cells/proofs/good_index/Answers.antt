-- `write_cells::good_index` meets its contract. Assumes nothing.
use Prim.Native.Nat.{◌%◌}
use native.Mathlib.Omega.{arith}
use mathlib.Core.Path.{◌≡◌}
use Rattle.write_layout.specs.Fields.{optional_bytes}
use Rattle.write_pieces.proofs.FitLaws.{word_piece}
use Rattle.write_cells.proofs.CellLaws.{is_number, good-optional}
use Rattle.write_cells.proofs.good_index.Goals as goal

pub returns : goal.returns
unfolding optional_bytes
returns c = λ t nones more e.
    let a = c.args in
    let v = a.value in
    let h = good-optional t a.kind v more nones c.if-kind-eq1.false e in
    let m : v % 4294967296 ≡ v = omega (arith, h.2) in
    rw (m, is_number t a.kind v more h.0, h.1) (word_piece t v h.2)
