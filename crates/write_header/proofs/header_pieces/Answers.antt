-- `write_header::header_pieces` meets its contract. Assumes nothing.
use Rattle.write_header.proofs.HeaderLaws.{fields-are}
use Rattle.write_header.proofs.header_pieces.Goals as goal

pub returns : goal.returns
returns c = λ t. fields-are t c.args.h _ _ _ c.offset_bits.ensures c.offset_bits-2.ensures c.offset_bits-3.ensures
