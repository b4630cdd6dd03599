-- `write_list::data_member` meets its contract: the pieces are those of its layout. Assumes nothing.
use Rattle.write_layout.specs.Records.{write_leaf}
use Rattle.answer.specs.Tables.{find}
use Rattle.record_layout.specs.Layouts.{member_leaves}
use Rattle.write_list.specs.Rows.{data_member}
use Rattle.write_layout.specs.Fields.{write_fields, write_field, size_bytes}
use Rattle.write_pieces.specs.Pieces.{pieces_of}
use Rattle.write_pieces.proofs.FitLaws.{no-piece}
use Rattle.write_list.proofs.data_member.Goals as goal

pub returns : goal.returns
unfolding pieces_of write_leaf find member_leaves data_member write_fields write_field size_bytes
returns c = λ t. rw (
  c.two_bytes.ensures.1 t,
  c.narrow16.ensures t,
  c.narrow32.ensures t,
  c.natural.ensures.1 t,
  c.part_text.ensures t 0,
  no-piece t,
)
