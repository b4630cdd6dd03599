-- References of records, computed.
use Prim.Native.Nat.{ℕ}
use mathlib.Core.Bool.{true, false}
use mathlib.Core.Path.{◌≡◌, refl}
use mathlib.Core.List.{List, [], ◌∷◌}
use Rattle.answer.specs.Answer.{answered, refused}
use Rattle.answer.specs.Tables.{find, among}
use Rattle.field.specs.Fields.{little_at, fixed_at, signed_at}
use Rattle.field.specs.Indices.{optional_of, optional_at}
use Rattle.field.specs.Runs.{bytes_after}
use Rattle.field_text.specs.Texts.{to_zero, string_at, pad, padding_after}
use Rattle.field_number.specs.Numbers.{prefixes, numeric_at, size_at, unsigned_at}
use Rattle.field_number.specs.Forms.{form_of, numeral_by, sized_by}
use Rattle.word_attributes.specs.Words.{introducing}
use Rattle.word_attributes.specs.Pointers.{kind_of, pointer_kinds, mode_of, pointer_modes, to_member_of}
use Rattle.record_layout.specs.Fields.{read_field_by, read_fields_by}
use Rattle.record_layout.specs.Layouts.{type_leaves, member_leaves, read_leaf, read_record}
use Rattle.record_list.specs.Lists.{counted_by, counted_list, counted_step, start_types, method_step, member_step, next_member, step_of}
use Rattle.record_reference.specs.References.{ref, refs_field, refs_fields, refs_leaf, refs_record, refs_at, refs_from, refs_of}

-- a pointer to a member; one whose class is 0xffff, which reads as none; and one of mode 0
pub pointers :
    (refs_of (0x02 ∷ 0x10 ∷ 0x74 ∷ 0 ∷ 0 ∷ 0 ∷ 0x4c ∷ 0 ∷ 0 ∷ 0 ∷ 0x05 ∷ 0x10 ∷ 0 ∷ 0 ∷ []) ≡ answered (ref 2 false 0x74 ∷ ref 10 true 0x1005 ∷ []))
    × (refs_of (0x02 ∷ 0x10 ∷ 0x74 ∷ 0 ∷ 0 ∷ 0 ∷ 0x4c ∷ 0 ∷ 0 ∷ 0 ∷ 0xff ∷ 0xff ∷ 0 ∷ 0 ∷ []) ≡ answered (ref 2 false 0x74 ∷ []))
    × (refs_of (0x02 ∷ 0x10 ∷ 0x74 ∷ 0 ∷ 0 ∷ 0 ∷ 0x0c ∷ 0 ∷ 0 ∷ 0 ∷ []) ≡ answered (ref 2 false 0x74 ∷ []))
unfolding kind_of pointer_kinds mode_of pointer_modes to_member_of little_at fixed_at optional_of optional_at find among type_leaves read_field_by start_types refs_field refs_fields refs_leaf refs_record refs_of
pointers = (refl, refl, refl)

-- arguments; a cut list is refused as its record is
pub arguments :
    (refs_of (0x01 ∷ 0x12 ∷ 2 ∷ 0 ∷ 0 ∷ 0 ∷ 0x74 ∷ 0 ∷ 0 ∷ 0 ∷ 0x03 ∷ 0x10 ∷ 0 ∷ 0 ∷ []) ≡ answered (ref 6 false 0x74 ∷ ref 10 false 0x1003 ∷ []))
    × (refs_of (0x01 ∷ 0x12 ∷ 2 ∷ 0 ∷ 0 ∷ 0 ∷ 0x74 ∷ 0 ∷ 0 ∷ 0 ∷ 0x03 ∷ 0x10 ∷ 0 ∷ []) ≡ refused 1 [])
unfolding little_at fixed_at bytes_after find type_leaves read_field_by read_fields_by counted_by counted_list counted_step start_types step_of refs_field refs_fields refs_leaf refs_record refs_at refs_from refs_of
arguments = (refl, refl)

-- a member at 0 "A", an enumerator, padding, and a virtual base
abbrev field_list : List ℕ
field_list =
    0x03 ∷ 0x12 ∷ 0x0d ∷ 0x15 ∷ 3 ∷ 0 ∷ 0x74 ∷ 0 ∷ 0 ∷ 0 ∷ 0 ∷ 0 ∷ 65 ∷ 0
    ∷ 0x02 ∷ 0x15 ∷ 3 ∷ 0 ∷ 2 ∷ 0 ∷ 66 ∷ 0 ∷ 0xf2 ∷ 0xf1
    ∷ 0x01 ∷ 0x14 ∷ 3 ∷ 0 ∷ 0x02 ∷ 0x10 ∷ 0 ∷ 0 ∷ 0x05 ∷ 0x10 ∷ 0 ∷ 0 ∷ 4 ∷ 0 ∷ 1 ∷ 0 ∷ []

pub members : refs_of field_list ≡ answered (ref 6 false 0x74 ∷ ref 28 false 0x1002 ∷ ref 32 false 0x1005 ∷ [])
unfolding little_at fixed_at signed_at unsigned_at to_zero string_at pad padding_after find prefixes numeric_at size_at form_of numeral_by sized_by type_leaves read_field_by read_fields_by read_leaf read_record member_leaves start_types member_step next_member step_of refs_field refs_fields refs_leaf refs_record refs_at refs_from refs_of
members = refl

-- methods, the first with an offset
pub methods : refs_of (
    0x06 ∷ 0x12 ∷ 0x13 ∷ 0 ∷ 0 ∷ 0 ∷ 0x02 ∷ 0x10 ∷ 0 ∷ 0 ∷ 8 ∷ 0 ∷ 0 ∷ 0 ∷ 3 ∷ 0 ∷ 0 ∷ 0 ∷ 0x04 ∷ 0x10 ∷ 0 ∷ 0 ∷ [])
    ≡ answered (ref 6 false 0x1002 ∷ ref 18 false 0x1004 ∷ [])
unfolding little_at fixed_at among introducing find type_leaves read_field_by read_fields_by start_types method_step step_of refs_field refs_fields refs_leaf refs_record refs_at refs_from refs_of
methods = refl
