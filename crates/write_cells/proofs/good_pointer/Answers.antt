-- `write_cells::good_pointer` meets its contract. Assumes nothing.
use Prim.Native.Nat.{◌%◌}
use native.Mathlib.Omega.{arith}
use mathlib.Core.Path.{◌≡◌}
use Rattle.answer.specs.Answer.{both}
use Rattle.record_layout.specs.Layouts.{is_answered}
use Rattle.word_attributes.specs.Pointers.{kind_of, mode_of}
use Rattle.write_layout.specs.Fields.{write_field}
use Rattle.write_pieces.proofs.FitLaws.{word_piece}
use Rattle.write_cells.proofs.CellLaws.{is_number, good-word}
use Rattle.write_cells.proofs.good_pointer.Goals as goal

pub returns : goal.returns
unfolding write_field
returns c = λ t kind more w e.
    let v = c.args.value in
    let h = good-word t kind v more 4 (λ n. both (is_answered (kind_of n)) (is_answered (mode_of n))) e in
    let m : v % 4294967296 ≡ v = omega (arith, h.2) in
    rw (m, is_number t kind v more h.0, h.1) (word_piece t v h.2)
