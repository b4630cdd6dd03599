-- Examples of lists, computed on the definitions that the contracts cite.
use Prim.Native.Nat.{ℕ}
use mathlib.Core.Bool.{false}
use mathlib.Core.Path.{◌≡◌, refl}
use mathlib.Core.List.{List, [], ◌∷◌}
use lib.IntN.{pos, negsuc}
use Rattle.answer.specs.Answer.{answered, refused}
use Rattle.answer.specs.Tables.{find, among}
use Rattle.word_attributes.specs.Words.{introducing}
use Rattle.field.specs.Fields.{little_at, fixed_at, signed_at}
use Rattle.field.specs.Bytes.{bytes}
use Rattle.field.specs.Runs.{bytes_after}
use Rattle.field_text.specs.Texts.{to_zero, string_at, pad, padding_after}
use Rattle.field_number.specs.Numbers.{prefixes, numeric_at}
use Rattle.field_number.specs.Forms.{Form, shortest, form_of, numeral_by}
use Rattle.record_layout.specs.Fields.{number, numeral, absent, many, read_field_by, read_fields_by}
use Rattle.record_layout.specs.Layouts.{type_leaves, id_leaves, read_leaf, read_record, member_leaves}
use Rattle.field.specs.declared.index.Stream.TheVariants.{Types, Ids}
use Rattle.record_list.specs.Lists.{type_element, id_element, method_element, member_element, counted_by, counted_list, start_types, start_ids, start_of, counted_step, method_step, member_step, next_member, step_of, element_by, element_of}

abbrev in_its_shortest : ℕ → Form
in_its_shortest width = record { width = width; shorter = false }

-- two enumerators, -1 "A" behind 0x8000 with the padding f3 f2 f1, and 2 "B"; there is no third
abbrev enumerators : List ℕ
enumerators = 0x03 ∷ 0x12 ∷ 0x02 ∷ 0x15 ∷ 3 ∷ 0 ∷ 0x00 ∷ 0x80 ∷ 0xff ∷ 65 ∷ 0 ∷ 0xf3 ∷ 0xf2 ∷ 0xf1 ∷ 0x02 ∷ 0x15 ∷ 3 ∷ 0 ∷ 2 ∷ 0 ∷ 66 ∷ 0 ∷ []

pub two-enumerators :
    (element_of Types enumerators 0 ≡ answered (member_element (number 0x1502 ∷ number 3 ∷ numeral (negsuc 0) (in_its_shortest 3) ∷ many (record { place = 9; length = 1 }) ∷ [])))
    × (element_of Types enumerators 1 ≡ answered (member_element (number 0x1502 ∷ number 3 ∷ numeral (pos 2) (in_its_shortest 2) ∷ many (record { place = 20; length = 1 }) ∷ [])))
    × (element_of Types enumerators 2 ≡ refused 15 [])
unfolding little_at fixed_at signed_at to_zero string_at pad padding_after find prefixes numeral_by form_of shortest bytes numeric_at read_field_by read_fields_by read_leaf read_record member_leaves start_of member_step next_member step_of element_by element_of start_types start_ids
two-enumerators = (refl, refl, refl)

-- a continuation at 0x1002 ends the list, whatever stands after it, a cut padding too
pub continuation :
    (element_of Types (0x03 ∷ 0x12 ∷ 0x04 ∷ 0x14 ∷ 0 ∷ 0 ∷ 0x02 ∷ 0x10 ∷ 0 ∷ 0 ∷ 0x02 ∷ 0x15 ∷ 3 ∷ 0 ∷ 2 ∷ 0 ∷ 66 ∷ 0 ∷ []) 0 ≡ answered (member_element (number 0x1404 ∷ absent ∷ number 0x1002 ∷ [])))
    × (element_of Types (0x03 ∷ 0x12 ∷ 0x04 ∷ 0x14 ∷ 0 ∷ 0 ∷ 0x02 ∷ 0x10 ∷ 0 ∷ 0 ∷ 0x02 ∷ 0x15 ∷ 3 ∷ 0 ∷ 2 ∷ 0 ∷ 66 ∷ 0 ∷ []) 1 ≡ refused 15 [])
    × (element_of Types (0x03 ∷ 0x12 ∷ 0x04 ∷ 0x14 ∷ 0 ∷ 0 ∷ 0x02 ∷ 0x10 ∷ 0 ∷ 0 ∷ 0xf2 ∷ []) 1 ≡ refused 15 [])
unfolding little_at fixed_at find read_field_by read_fields_by read_leaf read_record member_leaves start_of member_step next_member step_of element_by element_of start_types start_ids
continuation = (refl, refl, refl)

-- f2 alone after a member passes the end: the member is answered and every later one is 1; after f1, or f2 f1, there is no other
abbrev member_then : List ℕ → List ℕ
member_then bs = 0x03 ∷ 0x12 ∷ 0x02 ∷ 0x15 ∷ 3 ∷ 0 ∷ 2 ∷ 0 ∷ 66 ∷ 0 ∷ bs

pub padding-cut :
    (element_of Types (member_then (0xf2 ∷ [])) 0 ≡ answered (member_element (number 0x1502 ∷ number 3 ∷ numeral (pos 2) (in_its_shortest 2) ∷ many (record { place = 8; length = 1 }) ∷ [])))
    × (element_of Types (member_then (0xf2 ∷ [])) 1 ≡ refused 1 [])
    × (element_of Types (member_then (0xf2 ∷ [])) 2 ≡ refused 1 [])
    × (element_of Types (member_then (0xf1 ∷ [])) 1 ≡ refused 15 [])
    × (element_of Types (member_then (0xf2 ∷ 0xf1 ∷ [])) 1 ≡ refused 15 [])
unfolding little_at fixed_at to_zero string_at pad padding_after find prefixes numeral_by form_of shortest bytes numeric_at read_field_by read_fields_by read_leaf read_record member_leaves start_of member_step next_member step_of element_by element_of start_types start_ids
padding-cut = (refl, refl, refl, refl, refl)

-- padding is skipped after a member, not before the first: f1 is the low byte of a leaf there. A list may have no members
pub padding-first :
    (element_of Types (0x03 ∷ 0x12 ∷ 0xf1 ∷ 0x02 ∷ 0x15 ∷ []) 0 ≡ refused 10 (0x02f1 ∷ []))
    × (element_of Types (0x03 ∷ 0x12 ∷ []) 0 ≡ refused 15 [])
unfolding little_at fixed_at find read_leaf read_record member_leaves start_of member_step next_member step_of element_by element_of start_types start_ids
padding-first = (refl, refl)

-- two methods, the first of property 4 with an offset
abbrev methods : List ℕ
methods = 0x06 ∷ 0x12 ∷ 0x10 ∷ 0 ∷ 0 ∷ 0 ∷ 0x00 ∷ 0x10 ∷ 0 ∷ 0 ∷ 32 ∷ 0 ∷ 0 ∷ 0 ∷ 3 ∷ 0 ∷ 0 ∷ 0 ∷ 0x01 ∷ 0x10 ∷ 0 ∷ 0 ∷ []

pub two-methods :
    (element_of Types methods 0 ≡ answered (method_element (number 16 ∷ absent ∷ number 0x1000 ∷ number 32 ∷ [])))
    × (element_of Types methods 1 ≡ answered (method_element (number 3 ∷ absent ∷ number 0x1001 ∷ absent ∷ [])))
    × (element_of Types methods 2 ≡ refused 15 [])
unfolding little_at fixed_at among introducing read_field_by read_fields_by start_of method_step step_of element_by element_of start_types start_ids
two-methods = (refl, refl, refl)

-- two arguments; the same with a byte too few is 1 for every element; a count of 2^30 is not worked out in 32 bits; a leaf without a list,
-- and one of the other side; less than a leaf
abbrev arguments : List ℕ
arguments = 0x01 ∷ 0x12 ∷ 2 ∷ 0 ∷ 0 ∷ 0 ∷ 0x74 ∷ 0 ∷ 0 ∷ 0 ∷ 0x02 ∷ 0x10 ∷ 0 ∷ 0 ∷ []

pub two-arguments :
    (element_of Types arguments 0 ≡ answered (type_element (number 0x74 ∷ [])))
    × (element_of Types arguments 1 ≡ answered (type_element (number 0x1002 ∷ [])))
    × (element_of Types arguments 2 ≡ refused 15 [])
    × (element_of Types (0x01 ∷ 0x12 ∷ 2 ∷ 0 ∷ 0 ∷ 0 ∷ 0x74 ∷ 0 ∷ 0 ∷ 0 ∷ 0x02 ∷ 0x10 ∷ 0 ∷ []) 0 ≡ refused 1 [])
    × (element_of Types (0x01 ∷ 0x12 ∷ 0 ∷ 0 ∷ 0 ∷ 0x40 ∷ 0x74 ∷ 0 ∷ 0 ∷ 0 ∷ []) 0 ≡ refused 1 [])
unfolding little_at fixed_at bytes_after read_field_by read_fields_by counted_list start_of counted_step step_of element_by element_of start_types start_ids find type_leaves id_leaves counted_by
two-arguments = (refl, refl, refl, refl, refl)

pub without-list :
    (element_of Types (0x0a ∷ 0x00 ∷ 0 ∷ 0 ∷ []) 0 ≡ refused 10 (0x0a ∷ []))
    × (element_of Types (0x03 ∷ 0x16 ∷ 0 ∷ 0 ∷ []) 0 ≡ refused 10 (0x1603 ∷ []))
    × (element_of Ids (0x01 ∷ 0x12 ∷ 0 ∷ 0 ∷ 0 ∷ 0 ∷ []) 0 ≡ refused 10 (0x1201 ∷ []))
    × (element_of Types (0x03 ∷ []) 0 ≡ refused 1 [])
    × (element_of Ids [] 0 ≡ refused 1 [])
unfolding little_at fixed_at start_of element_of start_types start_ids
without-list = (refl, refl, refl, refl, refl)

-- two ids behind a u16, then 15; a type behind a u32
pub two-ids :
    (element_of Ids (0x03 ∷ 0x16 ∷ 2 ∷ 0 ∷ 0x00 ∷ 0x10 ∷ 0 ∷ 0 ∷ 0x01 ∷ 0x10 ∷ 0 ∷ 0 ∷ []) 0 ≡ answered (id_element (number 0x1000 ∷ [])))
    × (element_of Ids (0x03 ∷ 0x16 ∷ 2 ∷ 0 ∷ 0x00 ∷ 0x10 ∷ 0 ∷ 0 ∷ 0x01 ∷ 0x10 ∷ 0 ∷ 0 ∷ []) 1 ≡ answered (id_element (number 0x1001 ∷ [])))
    × (element_of Ids (0x03 ∷ 0x16 ∷ 2 ∷ 0 ∷ 0x00 ∷ 0x10 ∷ 0 ∷ 0 ∷ 0x01 ∷ 0x10 ∷ 0 ∷ 0 ∷ []) 2 ≡ refused 15 [])
    × (element_of Ids (0x04 ∷ 0x16 ∷ 1 ∷ 0 ∷ 0 ∷ 0 ∷ 0x00 ∷ 0x10 ∷ 0 ∷ 0 ∷ []) 0 ≡ answered (type_element (number 0x1000 ∷ [])))
unfolding little_at fixed_at bytes_after read_field_by read_fields_by counted_list counted_step element_by element_of start_of start_types start_ids find type_leaves id_leaves counted_by step_of
two-ids = (refl, refl, refl, refl)
