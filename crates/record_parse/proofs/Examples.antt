-- Entries of stream E, the marker and a primitive, computed on `parse_of`.
use mathlib.Core.Path.{◌≡◌, refl}
use mathlib.Core.List.{[], ◌∷◌}
use Rattle.answer.specs.Answer.{answered, refused}
use Rattle.answer.specs.Tables.{find}
use Rattle.field.specs.Fields.{little_at, fixed_at}
use Rattle.stream_header.specs.Examples.{stream_e}
use Rattle.word_primitive.specs.Primitive.{primitive_of}
use Rattle.word_primitive.specs.Kinds.{kinds, indirections}
use Rattle.word_primitive.specs.declared.PrimitiveKind.TheVariants.{I32}
use Rattle.word_primitive.specs.declared.Indirection.TheVariants.{Near64}
use Rattle.word_attributes.specs.Pointers.{pointer_kinds, pointer_modes, kind_of, mode_of, to_member_of}
use Rattle.record_layout.specs.Fields.{number, absent, read_field_by, read_fields_by}
use Rattle.record_layout.specs.Layouts.{type_leaves, read_leaf, leaf_of, record_of}
use Rattle.field.specs.declared.index.ItemIndex.TheVariants as index
use Rattle.stream_item.specs.declared.Entry.TheVariants as entry
use Rattle.record_parse.specs.Record.{primitive, type, type_bytes, type_item, type_marker, parse_of}

-- record 4097 of E, payload 68 to 78: a 64-bit pointer to 4096
pub parses-4097 : parse_of stream_e [] (entry.Record (record { index = index.Types (record { 0 = 4097 }); place = 68; length = 10 }))
    ≡ answered (type (number 0x1002 ∷ number 0x1000 ∷ number 0x0001000c ∷ absent ∷ []))
unfolding parse_of type_item type_bytes record_of leaf_of read_leaf little_at fixed_at find read_field_by read_fields_by type_leaves kind_of mode_of to_member_of pointer_kinds pointer_modes
parses-4097 = refl

-- a type item below 0x1000 is a primitive, wherever it is said to lie
pub parses-0674 : parse_of stream_e [] (entry.Record (record { index = index.Types (record { 0 = 0x0674 }); place = 1000; length = 10 }))
    ≡ answered (primitive (record { kind = I32; indirection = Near64 }))
unfolding parse_of type_item primitive_of find kinds indirections
parses-0674 = refl

-- the marker of an id, and of a type from 0x1000 up, gives 10 with 0xffff
pub marker-id : parse_of stream_e [] (entry.Marker (index.Ids (record { 0 = 5 }))) ≡ refused 10 (0xffff ∷ [])
unfolding parse_of
marker-id = refl

pub marker-type : parse_of stream_e [] (entry.Marker (index.Types (record { 0 = 0x1000 }))) ≡ refused 10 (0xffff ∷ [])
unfolding parse_of type_marker
marker-type = refl
