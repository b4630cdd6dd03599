-- The crate's own test record for 0x1609, the array records of data.rs, and records of document 01, computed on the table.
use Prim.Native.Nat.{ℕ}
use mathlib.Core.Bool.{false}
use mathlib.Core.Path.{◌≡◌, refl}
use mathlib.Core.List.{List, [], ◌∷◌, map}
use lib.IntN.{pos, negsuc}
use Rattle.answer.specs.Answer.{Answer, answered, refused, got}
use Rattle.answer.specs.Tables.{find, among}
use Rattle.field.specs.Fields.{little_at, fixed_at, signed_at}
use Rattle.field.specs.Bytes.{bytes}
use Rattle.field.specs.Indices.{optional_of, optional_at}
use Rattle.field.specs.Runs.{bytes_after}
use Rattle.field_text.specs.Texts.{to_zero, string_at}
use Rattle.field_number.specs.Numbers.{prefixes, numeric_at, size_at, unsigned_at}
use Rattle.field_number.specs.Forms.{Form, shortest, form_of, numeral_by, sized_by}
use Rattle.word_attributes.specs.Pointers.{pointer_kinds, pointer_modes, kind_of, mode_of, to_member_of}
use Rattle.record_layout.specs.Fields.{Shown, number, numeral, absent, many, read_field_by, read_fields_by}
use Rattle.record_layout.specs.Layouts.{type_leaves, member_leaves, id_leaves, read_leaf, read_record, leaf_of, record_of}

-- a number that is itself the leaf
abbrev plain : Form
plain = record { width = 2; shorter = false }

-- data.rs, test kind_1609
abbrev pub kind_1609 : List ℕ
kind_1609 =
    9 ∷ 22 ∷ 0 ∷ 2 ∷ 0 ∷ 0 ∷ 22 ∷ 16 ∷ 0 ∷ 0 ∷ 0 ∷ 0 ∷ 0 ∷ 0 ∷ 0 ∷ 0 ∷ 0 ∷ 0 ∷ 2 ∷ 0 ∷ 6 ∷ 0 ∷ 72 ∷ 95 ∷ 115 ∷ 105 ∷ 122
    ∷ 101 ∷ 0 ∷ 46 ∷ 63 ∷ 65 ∷ 85 ∷ 72 ∷ 95 ∷ 115 ∷ 105 ∷ 122 ∷ 101 ∷ 64 ∷ 64 ∷ 0 ∷ []

-- properties 512, fields 0x1016, no base, no shape, count 2, size 6, "H_size" at 22, ".?AUH_size@@" at 29
pub reads-1609 : record_of type_leaves kind_1609
    ≡ answered (number 0x1609 ∷ number 512 ∷ absent ∷ number 0x1016 ∷ absent ∷ absent ∷ number 2 ∷ numeral (pos 6) plain
    ∷ many (record { place = 22; length = 6 }) ∷ many (record { place = 29; length = 12 }) ∷ [])
unfolding record_of leaf_of read_leaf little_at fixed_at to_zero string_at find prefixes numeric_at size_at numeral_by sized_by form_of shortest bytes among optional_of optional_at read_field_by read_fields_by type_leaves
reads-1609 = refl

-- the twelve array records of data.rs's comment, indexed by 0x23: their sizes, one of them behind 0x8002, no name, padding unread
abbrev arrays : List (List ℕ)
arrays =
    (0x03 ∷ 0x15 ∷ 0xa0 ∷ 0xdc ∷ 0x0b ∷ 0x00 ∷ 0x23 ∷ 0x00 ∷ 0x00 ∷ 0x00 ∷ 0x40 ∷ 0x00 ∷ 0x00 ∷ 0xf1 ∷ [])
    ∷ (0x03 ∷ 0x15 ∷ 0xa0 ∷ 0xdc ∷ 0x0b ∷ 0x00 ∷ 0x23 ∷ 0x00 ∷ 0x00 ∷ 0x00 ∷ 0x50 ∷ 0x00 ∷ 0x00 ∷ 0xf1 ∷ [])
    ∷ (0x03 ∷ 0x15 ∷ 0xa9 ∷ 0x12 ∷ 0x00 ∷ 0x00 ∷ 0x23 ∷ 0x00 ∷ 0x00 ∷ 0x00 ∷ 0x50 ∷ 0x02 ∷ 0x00 ∷ 0xf1 ∷ [])
    ∷ (0x03 ∷ 0x15 ∷ 0xac ∷ 0x12 ∷ 0x00 ∷ 0x00 ∷ 0x23 ∷ 0x00 ∷ 0x00 ∷ 0x00 ∷ 0x6c ∷ 0x00 ∷ 0x00 ∷ 0xf1 ∷ [])
    ∷ (0x03 ∷ 0x15 ∷ 0x14 ∷ 0x10 ∷ 0x00 ∷ 0x00 ∷ 0x23 ∷ 0x00 ∷ 0x00 ∷ 0x00 ∷ 0x80 ∷ 0x00 ∷ 0x00 ∷ 0xf1 ∷ [])
    ∷ (0x03 ∷ 0x15 ∷ 0x75 ∷ 0x00 ∷ 0x00 ∷ 0x00 ∷ 0x23 ∷ 0x00 ∷ 0x00 ∷ 0x00 ∷ 0x28 ∷ 0x00 ∷ 0x00 ∷ 0xf1 ∷ [])
    ∷ (0x03 ∷ 0x15 ∷ 0x14 ∷ 0x10 ∷ 0x00 ∷ 0x00 ∷ 0x23 ∷ 0x00 ∷ 0x00 ∷ 0x00 ∷ 0x70 ∷ 0x0e ∷ 0x00 ∷ 0xf1 ∷ [])
    ∷ (0x03 ∷ 0x15 ∷ 0x31 ∷ 0x14 ∷ 0x00 ∷ 0x00 ∷ 0x23 ∷ 0x00 ∷ 0x00 ∷ 0x00 ∷ 0x04 ∷ 0x02 ∷ 0x00 ∷ 0xf1 ∷ [])
    ∷ (0x03 ∷ 0x15 ∷ 0x31 ∷ 0x14 ∷ 0x00 ∷ 0x00 ∷ 0x23 ∷ 0x00 ∷ 0x00 ∷ 0x00 ∷ 0x0e ∷ 0x03 ∷ 0x00 ∷ 0xf1 ∷ [])
    ∷ (0x03 ∷ 0x15 ∷ 0x77 ∷ 0x13 ∷ 0x00 ∷ 0x00 ∷ 0x23 ∷ 0x00 ∷ 0x00 ∷ 0x00 ∷ 0x02 ∷ 0x80 ∷ 0xbd ∷ 0xda ∷ 0x00 ∷ 0xf3 ∷ 0xf2 ∷ 0xf1 ∷ [])
    ∷ (0x03 ∷ 0x15 ∷ 0xb7 ∷ 0x16 ∷ 0x00 ∷ 0x00 ∷ 0x23 ∷ 0x00 ∷ 0x00 ∷ 0x00 ∷ 0x28 ∷ 0x00 ∷ 0x00 ∷ 0xf1 ∷ [])
    ∷ (0x03 ∷ 0x15 ∷ 0x14 ∷ 0x10 ∷ 0x00 ∷ 0x00 ∷ 0x23 ∷ 0x00 ∷ 0x00 ∷ 0x00 ∷ 0x55 ∷ 0x00 ∷ 0x00 ∷ 0xf1 ∷ [])
    ∷ []

-- none of them has a shorter form
abbrev array_in : ℕ → ℕ → ℕ → ℕ → Answer (List Shown)
array_in width element size place =
    answered (number 0x1503 ∷ number element ∷ number 0x23 ∷ numeral (pos size) (record { width = width; shorter = false })
    ∷ many (record { place = place; length = 0 }) ∷ [])

abbrev array : ℕ → ℕ → ℕ → Answer (List Shown)
array = array_in 2

pub reads-arrays : map (record_of type_leaves) arrays
    ≡ array 0xbdca0 64 12
    ∷ array 0xbdca0 80 12
    ∷ array 0x12a9 592 12
    ∷ array 0x12ac 108 12
    ∷ array 0x1014 128 12
    ∷ array 0x0075 40 12
    ∷ array 0x1014 3696 12
    ∷ array 0x1431 516 12
    ∷ array 0x1431 782 12
    ∷ array_in 4 0x1377 55997 14
    ∷ array 0x16b7 40 12
    ∷ array 0x1014 85 12
    ∷ []
unfolding record_of leaf_of read_leaf little_at fixed_at to_zero string_at find prefixes numeric_at size_at numeral_by sized_by form_of shortest bytes unsigned_at read_field_by read_fields_by type_leaves
reads-arrays = refl

-- the pointer record of stream E; and one of kind 13
pub reads-pointer : record_of type_leaves (0x02 ∷ 0x10 ∷ 0x00 ∷ 0x10 ∷ 0x00 ∷ 0x00 ∷ 0x0c ∷ 0x00 ∷ 0x01 ∷ 0x00 ∷ [])
    ≡ answered (number 0x1002 ∷ number 0x1000 ∷ number 0x0001000c ∷ absent ∷ [])
unfolding record_of leaf_of read_leaf little_at fixed_at find read_field_by read_fields_by type_leaves kind_of mode_of to_member_of pointer_kinds pointer_modes
reads-pointer = refl

pub refuses-kind : record_of type_leaves (0x02 ∷ 0x10 ∷ 0x00 ∷ 0x10 ∷ 0x00 ∷ 0x00 ∷ 0x0d ∷ 0x00 ∷ 0x01 ∷ 0x00 ∷ []) ≡ refused 12 []
unfolding record_of leaf_of read_leaf little_at fixed_at find read_field_by read_fields_by type_leaves kind_of mode_of to_member_of pointer_kinds pointer_modes
refuses-kind = refl

-- a pointer to member of kind 13 whose class is cut off: 12 comes right after the word
pub refuses-first : record_of type_leaves (0x02 ∷ 0x10 ∷ 0x00 ∷ 0x10 ∷ 0x00 ∷ 0x00 ∷ 0x4d ∷ 0x00 ∷ 0x01 ∷ 0x00 ∷ []) ≡ refused 12 []
unfolding record_of leaf_of read_leaf little_at fixed_at find read_field_by read_fields_by type_leaves kind_of mode_of to_member_of pointer_kinds pointer_modes
refuses-first = refl

-- a pointer to member, of mode 2, and its class
pub reads-member-pointer : record_of type_leaves (0x02 ∷ 0x10 ∷ 0x00 ∷ 0x10 ∷ 0x00 ∷ 0x00 ∷ 0x4c ∷ 0x00 ∷ 0x00 ∷ 0x00 ∷ 0x01 ∷ 0x10 ∷ 0x00 ∷ 0x00 ∷ [])
    ≡ answered (number 0x1002 ∷ number 0x1000 ∷ number 0x4c ∷ number 0x1001 ∷ [])
unfolding record_of leaf_of read_leaf little_at fixed_at find among optional_of optional_at read_field_by read_fields_by type_leaves kind_of mode_of to_member_of pointer_kinds pointer_modes
reads-member-pointer = refl

-- a list of one id, counted by a u16
pub reads-build-info : record_of id_leaves (0x03 ∷ 0x16 ∷ 1 ∷ 0 ∷ 0x00 ∷ 0x10 ∷ 0 ∷ 0 ∷ [])
    ≡ answered (number 0x1603 ∷ number 1 ∷ many (record { place = 4; length = 4 }) ∷ [])
unfolding record_of leaf_of read_leaf little_at fixed_at find bytes_after read_field_by read_fields_by id_leaves
reads-build-info = refl

-- a member's leaf is none of the type reader's
pub refuses-member : record_of type_leaves (0x00 ∷ 0x14 ∷ []) ≡ refused 10 (0x1400 ∷ [])
unfolding record_of leaf_of read_leaf little_at fixed_at find type_leaves
refuses-member = refl

-- an enumerator of -1, behind 0x8000, named "a"
pub reads-enumerator : read_record member_leaves (0x02 ∷ 0x15 ∷ 0x03 ∷ 0x00 ∷ 0x00 ∷ 0x80 ∷ 0xff ∷ 0x61 ∷ 0x00 ∷ []) 0
    ≡ got (number 0x1502 ∷ number 3 ∷ numeral (negsuc 0) (record { width = 3; shorter = false }) ∷ many (record { place = 7; length = 1 }) ∷ []) 9
unfolding read_record read_leaf little_at fixed_at signed_at to_zero string_at find prefixes numeric_at size_at numeral_by sized_by form_of shortest bytes read_field_by read_fields_by member_leaves
reads-enumerator = refl
