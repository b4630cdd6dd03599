-- Every line of the list of declarations holds, by computing both sides. Assumes nothing.
use mathlib.Core.Path.{◌≡◌, refl}
use mathlib.Core.List.{map}
use Rattle.answer.specs.Tables.{find, among}
use Rattle.answer.specs.Refusals.{refusals, in_table}
use Rattle.field.specs.Fields.{little_at, fixed_at}
use Rattle.field.specs.Indices.{optional_of, optional_at}
use Rattle.field.specs.Runs.{bytes_after}
use Rattle.field_text.specs.Texts.{to_zero, string_at}
use Rattle.field_number.specs.Numbers.{prefixes, unsigned_at, numeric_at, size_at}
use Rattle.field_number.specs.Forms.{shortest, carried, form_of, numeral_by, sized_by}
use Rattle.word_primitive.specs.Kinds.{kinds, indirections}
use Rattle.word_primitive.specs.Primitive.{primitive_of}
use Rattle.word_attributes.specs.Pointers.{pointer_kinds, pointer_modes, kind_of, mode_of, to_member_of, size_of}
use Rattle.record_layout.specs.Fields.{read_field_by, read_fields_by}
use Rattle.record_layout.specs.Layouts.{type_leaves, read_leaf, leaf_of, record_of}
use Rattle.stream_header.specs.Header.{header_of}
use Rattle.stream_item.specs.Links.{link_at, chain, link_of}
use Rattle.stream_finder.specs.Finder.{begun_by, create_by, look_of}
use Rattle.declare_spelling.specs.Spellings.{kind_text, indirection_text, mode_text, words_of}
use Rattle.declare_type.specs.Looked.{declared_leaves, list_leaves, bytes_seen, record_seen, type_seen, list_seen}
use Rattle.declare_type.specs.Nodes.{classes, sized_in, size_through, extent_of, node_in, node_of, list_of, index_at}
use Rattle.declare_type.specs.Tokens.{decimal, text_of}
use Rattle.declare_type.specs.Steps.{inward_step}
use Rattle.declare_type.specs.Walk.{onto, fixed_then, rest_of, arguments_of, over_arguments, stepped, walk}
use Rattle.declare_type.specs.Declares.{text_in, declare_of}
use Rattle.claim_promises.specs.DeclareExamples.{records, stream_d, declarations, declared, expected}

-- every line holds
pub declarations-hold : map declared declarations ≡ map expected declarations
unfolding records stream_d declarations find among refusals in_table little_at fixed_at optional_of optional_at bytes_after to_zero string_at prefixes unsigned_at numeric_at size_at shortest carried form_of numeral_by sized_by kinds indirections primitive_of pointer_kinds pointer_modes kind_of mode_of to_member_of size_of read_field_by read_fields_by type_leaves read_leaf leaf_of record_of header_of link_at chain link_of begun_by create_by look_of kind_text indirection_text mode_text words_of declared_leaves list_leaves bytes_seen record_seen type_seen list_seen classes sized_in size_through extent_of node_in node_of list_of index_at decimal text_of inward_step onto fixed_then rest_of arguments_of over_arguments stepped walk text_in declare_of
declarations-hold = refl
