-- `write_cells::second_piece` meets its contract. Assumes nothing.
use borrow.Author.Tests.{eq-eqb}
use Rattle.write_layout.specs.Fields.{write_field}
use Rattle.write_cells.proofs.second_piece.Goals as goal

pub returns-then-w-eq1 : goal.returns-then-w-eq1
unfolding write_field
returns-then-w-eq1 c = λ t. rw (eq-eqb _ _ c.if-w-eq1.true) (c.text_piece.ensures t c.args.w)
