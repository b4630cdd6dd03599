-- `write_cells::good_piece` meets its contract. Assumes nothing.
use Rattle.answer.specs.Tables.{find}
use Rattle.record_cells.specs.Codes.{codes, field_of}
use Rattle.write_cells.proofs.good_piece.Goals as goal

pub returns-in-11 : goal.returns-in-11
unfolding find codes field_of
returns-in-11 c = λ t e. rw c.in-11.is (c.good_pointer.ensures t c.args.kind c.args.more c.args.w (rw c.in-11.is at e))

pub returns-in-12 : goal.returns-in-12
unfolding find codes field_of
returns-in-12 c = λ t e. rw c.in-12.is (c.gap_piece.ensures t _ _ _)

pub returns-in-13 : goal.returns-in-13
unfolding find codes field_of
returns-in-13 c = λ t e. rw c.in-13.is (c.numeric_piece.ensures t _ _)

pub returns-in-14 : goal.returns-in-14
unfolding find codes field_of
returns-in-14 c = λ t e. rw c.in-14.is (c.size_piece.ensures t _ _)

pub returns-in-15 : goal.returns-in-15
unfolding find codes field_of
returns-in-15 c = λ t e. rw c.in-15.is (c.text_piece.ensures t _)
