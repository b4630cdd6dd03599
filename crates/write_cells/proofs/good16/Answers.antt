-- `write_cells::good16` meets its contract. Assumes nothing.
use Prim.Native.Nat.{◌%◌}
use native.Mathlib.Omega.{arith}
use mathlib.Core.Path.{◌≡◌}
use Rattle.write_pieces.proofs.FitLaws.{half-piece}
use Rattle.write_cells.proofs.CellLaws.{is_number, good-number}
use Rattle.write_cells.proofs.good16.Goals as goal

pub returns : goal.returns
returns c = λ t kind more e.
    let v = c.args.value in
    let h = good-number t kind v more 2 e in
    let m : v % 65536 ≡ v = omega (arith, h.1) in
    rw (m, is_number t kind v more h.0) (half-piece t v h.1)
