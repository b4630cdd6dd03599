-- The row of an id record: leaf, count, type, parent, id, file, line, module, name and its length. To be read against id_leaves of
-- record_layout/specs/Layouts.antt.
use Rattle.std.specs.Prelude.{ℕ, List, [], ◌∷◌}
use Rattle.answer.specs.Tables.{Line, ◌is◌}
use Rattle.record_layout.specs.Fields.{Shown}
use Rattle.pane_row.specs.Slots.{Slot, one, two, Slots, row_by}

abbrev pub id_count : Slot
id_count = one 1

-- the type of a function, or the user defined type of a source line
abbrev pub id_type : Slot
id_type = one 2

-- the type that a member function belongs to
abbrev pub id_parent : Slot
id_parent = one 3

-- the scope of a function, or the substrings of a string: an id, 0 where there is none
abbrev pub id_id : Slot
id_id = one 4

-- the name of the source file: an id in 0x1606, a string reference in 0x1607
abbrev pub id_file : Slot
id_file = one 5

abbrev pub id_line : Slot
id_line = one 6

abbrev pub id_module : Slot
id_module = one 7

-- a name, or the indices of a list
abbrev pub id_name : Slot
id_name = two 8

unfoldable pub id_slots : List (Line Slots)
id_slots =
    (0x1601 is (id_id ∷ id_type ∷ id_name ∷ []))
    ∷ (0x1602 is (id_parent ∷ id_type ∷ id_name ∷ []))
    ∷ (0x1603 is (id_count ∷ id_name ∷ []))
    ∷ (0x1604 is (id_count ∷ id_name ∷ []))
    ∷ (0x1605 is (id_id ∷ id_name ∷ []))
    ∷ (0x1606 is (id_type ∷ id_file ∷ id_line ∷ []))
    ∷ (0x1607 is (id_type ∷ id_file ∷ id_line ∷ id_module ∷ []))
    ∷ []

abbrev pub id_row : List Shown → List ℕ
id_row = row_by id_slots 10
