-- A row gives the values back, by the tables and nothing else: 0 is absent. For every record that was read; proofs/RowsTellProof.antt
use Rattle.std.specs.Prelude.{Option, None, Some, ℕ, suc, ◌-◌, true, false, ◌≡◌, List, [], ◌∷◌, get_or, eqb, ltb, ℤ, pos, negsuc}
use Rattle.answer.specs.Answer.{answered, pick}
use Rattle.answer.specs.Tables.{Line, find}
use Rattle.field_number.specs.Forms.{Form}
use Rattle.record_layout.specs.Fields.{Shown, number, numeral, absent, many, id}
use Rattle.record_layout.specs.Layouts.{type_index, Layout, Table, type_leaves, id_leaves, member_leaves, method, record_of}
use Rattle.record_list.specs.Lists.{ElementValues, type_element, id_element, method_element, member_element, Step, step_of}
use Rattle.record_list.specs.declared.ListCursor.{ListCursor}
use Rattle.pane_row.specs.Slots.{Slot, off, one, two, sized, three, Slots}
use Rattle.pane_row.specs.Kinds.{Kind, nothing, plain, optional, text, optional_text, present, natural, integer, other, slot_kind}
use Rattle.pane_row.specs.TypePlaces.{type_slots, type_row}
use Rattle.pane_row.specs.IdPlaces.{id_slots, id_row}
use Rattle.pane_row.specs.ElementPlaces.{member_slots, method_slots, index_slots, element_row}

-- a numeric leaf from its bits and whether it is negative, and its form
abbrev pub integer_back : ℕ → ℕ → ℤ
integer_back bits less = pick (eqb less 0) (pos bits) (negsuc (18446744073709551615 - bits))

abbrev pub form_back : ℕ → Form
form_back n = pick (ltb n 256) (record { width = n; shorter = false }) (record { width = n - 256; shorter = true })

-- the value of a field of each kind, from its three numbers
abbrev pub told : Kind → ℕ → ℕ → ℕ → Shown
told nothing a b c = absent
told plain a b c = number a
told optional a b c = pick (ltb 0 a) (number a) absent
told text a b c = many (record { place = a; length = b })
told optional_text a b c = pick (ltb 0 a) (many (record { place = a; length = b })) absent
told present a b c = pick (ltb 0 b) (number a) absent
told natural a b c = numeral (pos a) (form_back c)
told integer a b c = numeral (integer_back a b) (form_back c)
told other a b c = absent

-- the three numbers at the places of a slot, 0 where it has no place
abbrev pub first_at : Slot → List ℕ → ℕ
first_at off row = 0
first_at (one k) row = get_or row k 0
first_at (two k) row = get_or row k 0
first_at (sized k j) row = get_or row k 0
first_at (three k) row = get_or row k 0

abbrev pub second_at : Slot → List ℕ → ℕ
second_at off row = 0
second_at (one k) row = 0
second_at (two k) row = get_or row (suc k) 0
second_at (sized k j) row = 0
second_at (three k) row = get_or row (suc k) 0

abbrev pub third_at : Slot → List ℕ → ℕ
third_at off row = 0
third_at (one k) row = 0
third_at (two k) row = 0
third_at (sized k j) row = get_or row j 0
third_at (three k) row = get_or row (suc (suc k)) 0

unfoldable pub fields_back : Slots → Layout → List ℕ → List Shown
fields_back [] fs row = []
fields_back (k ∷ ks) [] row = []
fields_back (k ∷ ks) (f ∷ fs) row = told (slot_kind f) (first_at k row) (second_at k row) (third_at k row) ∷ fields_back ks fs row

-- by the leaf's line of both tables
abbrev pub line_back : Option Slots → Option Layout → List ℕ → List Shown
line_back None o row = []
line_back (Some ks) None row = []
line_back (Some ks) (Some fs) row = fields_back ks fs row

unfoldable pub back_by : Table → List (Line Slots) → List ℕ → List Shown
back_by table slots row = number (get_or row 0 0) ∷ line_back (find (get_or row 0 0) slots) (find (get_or row 0 0) table) row

-- an element, by the leaf of its list
unfoldable pub element_back : ℕ → List ℕ → ElementValues
element_back leaf row =
    pick (eqb leaf 0x1201) (type_element (fields_back index_slots (type_index ∷ []) row))
    (pick (eqb leaf 0x1206) (method_element (fields_back method_slots method row))
    (pick (eqb leaf 0x1203) (member_element (back_by member_leaves member_slots row))
    (pick (eqb leaf 0x1603) (id_element (fields_back index_slots (id ∷ []) row))
    (type_element (fields_back index_slots (type_index ∷ []) row)))))

pub record RowsTell : Type 0 where
  pub types : (s : List ℕ) (vs : List Shown) → record_of type_leaves s ≡ answered vs → back_by type_leaves type_slots (type_row vs) ≡ vs
  pub ids : (s : List ℕ) (vs : List Shown) → record_of id_leaves s ≡ answered vs → back_by id_leaves id_slots (id_row vs) ≡ vs
  pub elements : (s : List ℕ) (c : ListCursor) (x : Step) → step_of s c ≡ answered x → element_back c.leaf (element_row x.element) ≡ x.element
