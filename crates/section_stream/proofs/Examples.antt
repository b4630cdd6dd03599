-- The section of stream E's records becomes stream E, byte for byte; and what is refused.
use mathlib.Core.Path.{◌≡◌, refl}
use mathlib.Core.List.{[], ◌∷◌}
use Rattle.answer.specs.Answer.{answered, refused}
use Rattle.field.specs.Fields.{little_at}
use Rattle.field.specs.Bytes.{bytes}
use Rattle.stream_header.specs.Examples.{stream_e}
use Rattle.stream_item.specs.Iterator.{next_of}
use Rattle.write_layout.specs.Runs.{zeros}
use Rattle.write_layout.specs.Buffer.{lay}
use Rattle.write_header.specs.Headers.{header_fields}
use Rattle.section_item.specs.Sections.{section_start, walk_by, last_of, count_of}
use Rattle.section_item.proofs.Examples.{section_e}
use Rattle.section_stream.specs.Streams.{stream_bytes, section_stream}

pub made_e : section_stream section_e ≡ answered stream_e
unfolding section_stream stream_bytes header_fields bytes zeros count_of section_start last_of walk_by next_of little_at
made_e = refl

-- 25 before 19: the buffer has no byte
pub signature2 : lay (section_stream (2 ∷ 0 ∷ 0 ∷ 0 ∷ [])) [] 0 ≡ refused 25 []
unfolding lay section_stream count_of section_start little_at
signature2 = refl

pub no_room : lay (section_stream (4 ∷ 0 ∷ 0 ∷ 0 ∷ [])) (7 ∷ []) 0 ≡ refused 19 []
unfolding lay section_stream stream_bytes header_fields bytes zeros count_of section_start last_of walk_by next_of little_at
no_room = refl
