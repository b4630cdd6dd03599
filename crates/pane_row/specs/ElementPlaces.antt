-- The row of a list's element: leaf, word, type, other, value, more, form, more_form, name and its length. To be read against member_leaves and `method` of
-- record_layout/specs/Layouts.antt.
use Rattle.std.specs.Prelude.{ℕ, List, [], ◌∷◌, replicate}
use Rattle.answer.specs.Tables.{Line, ◌is◌}
use Rattle.record_layout.specs.Fields.{Shown}
use Rattle.record_list.specs.Lists.{ElementValues, type_element, id_element, method_element, member_element}
use Rattle.pane_row.specs.Slots.{Slot, off, one, two, sized, three, Slots, puts, row_by}

-- field attributes; of 0x150f the count
abbrev pub step_word : Slot
step_word = one 1

abbrev pub step_type : Slot
step_type = one 2

abbrev pub step_other : Slot
step_other = one 3

-- an offset and its form; the second one of a virtual base class
abbrev pub step_value : Slot
step_value = sized 4 6

abbrev pub step_more : Slot
step_more = sized 5 7

-- a number that may be negative: `more` says whether it is
abbrev pub step_signed : Slot
step_signed = three 4

-- an offset that may be absent: `more` says whether it is there
abbrev pub step_present : Slot
step_present = two 4

abbrev pub step_name : Slot
step_name = two 8

abbrev pub virtual_slots : Slots
virtual_slots = step_word ∷ step_type ∷ step_other ∷ step_value ∷ step_more ∷ []

abbrev pub alone_slots : Slots
alone_slots = off ∷ step_type ∷ []

abbrev pub named_slots : Slots
named_slots = step_word ∷ step_type ∷ step_name ∷ []

unfoldable pub member_slots : List (Line Slots)
member_slots =
    (0x1400 is (step_word ∷ step_type ∷ step_value ∷ []))
    ∷ (0x1401 is virtual_slots)
    ∷ (0x1402 is virtual_slots)
    ∷ (0x1404 is alone_slots)
    ∷ (0x1409 is alone_slots)
    ∷ (0x1502 is (step_word ∷ step_signed ∷ step_name ∷ []))
    ∷ (0x150d is (step_word ∷ step_type ∷ step_value ∷ step_name ∷ []))
    ∷ (0x150e is named_slots)
    ∷ (0x150f is named_slots)
    ∷ (0x1510 is named_slots)
    ∷ (0x1511 is (step_word ∷ step_type ∷ step_present ∷ step_name ∷ []))
    ∷ []

abbrev pub member_row : List Shown → List ℕ
member_row = row_by member_slots 10

-- a method of 0x1206, and an index of a counted list: no leaf
abbrev pub method_slots : Slots
method_slots = step_word ∷ off ∷ step_type ∷ step_present ∷ []

abbrev pub index_slots : Slots
index_slots = step_type ∷ []

unfoldable pub method_row : List Shown → List ℕ
method_row vs = puts (replicate 10 0) method_slots vs

unfoldable pub index_row : List Shown → List ℕ
index_row vs = puts (replicate 10 0) index_slots vs

abbrev pub element_row : ElementValues → List ℕ
element_row (type_element vs) = index_row vs
element_row (id_element vs) = index_row vs
element_row (method_element vs) = method_row vs
element_row (member_element vs) = member_row vs
