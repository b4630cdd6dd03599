-- Every line of the list of examples holds, by computing both sides. Assumes nothing.
use mathlib.Core.Path.{◌≡◌, refl}
use mathlib.Core.List.{map}
use Rattle.answer.specs.Tables.{find}
use Rattle.field.specs.Fields.{little_at}
use Rattle.field_text.specs.Texts.{pad, padding_after}
use Rattle.word_primitive.specs.Kinds.{kinds, indirections}
use Rattle.word_primitive.specs.Primitive.{primitive_of}
use Rattle.word_attributes.specs.Pointers.{pointer_kinds, pointer_modes, kind_of, mode_of, size_of}
use Rattle.stream_header.specs.Header.{header_of}
use Rattle.stream_item.specs.Links.{link_at, chain, link_of}
use Rattle.stream_item.specs.Iterator.{iter_of, next_of}
use Rattle.stream_finder.specs.Finder.{begun_by, create_by, max_index_of, look_of}
use Rattle.claim_promises.specs.Examples.{examples, asked, expected_of}

-- every line holds
pub examples-hold : map asked examples ≡ map expected_of examples
unfolding examples iter_of header_of next_of little_at create_by begun_by look_of link_of chain link_at max_index_of kind_of mode_of size_of find pointer_kinds pointer_modes padding_after pad primitive_of kinds indirections
examples-hold = refl
