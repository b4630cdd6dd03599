-- The row of a type record: leaf, count, word, type, list, other, last, size and its form, name and its length, unique name and its length. To be read
-- against type_leaves of record_layout/specs/Layouts.antt.
use Rattle.std.specs.Prelude.{ℕ, List, [], ◌∷◌}
use Rattle.answer.specs.Tables.{Line, ◌is◌}
use Rattle.record_layout.specs.Fields.{Shown}
use Rattle.pane_row.specs.Slots.{Slot, off, one, two, sized, Slots, row_by}

abbrev pub type_count : Slot
type_count = one 1

-- properties, function attributes, the pointer word, the flags of a modifier
abbrev pub type_word : Slot
type_word = one 2

abbrev pub type_type : Slot
type_type = one 3

-- the index of a field list or an argument list
abbrev pub type_list : Slot
type_list = one 4

abbrev pub type_other : Slot
type_other = one 5

abbrev pub type_last : Slot
type_last = one 6

-- a size or an offset: a numeric leaf with its form, or a plain number
abbrev pub type_size : Slot
type_size = sized 7 8

abbrev pub type_plain : Slot
type_plain = one 7

abbrev pub type_name : Slot
type_name = two 9

abbrev pub type_unique : Slot
type_unique = two 11

-- count, properties, fields, derived_from, vtable_shape, size, name, unique_name
abbrev pub class_slots : Slots
class_slots = type_count ∷ type_word ∷ type_list ∷ type_other ∷ type_last ∷ type_size ∷ type_name ∷ type_unique ∷ []

unfoldable pub type_slots : List (Line Slots)
type_slots =
    (0x1001 is (type_type ∷ type_word ∷ []))
    ∷ (0x1002 is (type_type ∷ type_word ∷ type_other ∷ []))
    ∷ (0x1008 is (type_type ∷ type_word ∷ type_count ∷ type_list ∷ []))
    ∷ (0x1009 is (type_type ∷ type_other ∷ type_last ∷ type_word ∷ type_count ∷ type_list ∷ type_plain ∷ []))
    ∷ (0x1205 is (type_type ∷ type_count ∷ type_plain ∷ []))
    ∷ (0x1503 is (type_type ∷ type_other ∷ type_size ∷ type_name ∷ []))
    ∷ (0x1504 is class_slots)
    ∷ (0x1505 is class_slots)
    ∷ (0x1519 is class_slots)
    ∷ (0x1506 is (type_count ∷ type_word ∷ type_list ∷ type_size ∷ type_name ∷ type_unique ∷ []))
    ∷ (0x1507 is (type_count ∷ type_word ∷ type_type ∷ type_list ∷ type_name ∷ type_unique ∷ []))
    ∷ (0x1609 is (type_word ∷ off ∷ type_list ∷ type_other ∷ type_last ∷ type_count ∷ type_size ∷ type_name ∷ type_unique ∷ []))
    ∷ (0x000a is (type_count ∷ type_name ∷ []))
    ∷ (0x1201 is (type_count ∷ type_name ∷ []))
    ∷ (0x1206 is (off ∷ []))
    ∷ (0x1203 is (off ∷ []))
    ∷ []

abbrev pub type_row : List Shown → List ℕ
type_row = row_by type_slots 13
