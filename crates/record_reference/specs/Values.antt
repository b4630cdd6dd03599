-- The references of what has been read, from the values alone: their places follow from the layout. proofs/ValueLaws.antt has that these are the
-- references of References.antt.
use Rattle.std.specs.Prelude.{Option, None, Some, ℕ, zero, suc, ◌+◌, Bool, true, false, List, [], ◌∷◌, ◌++◌, length, leb, eqb}
use Rattle.answer.specs.Answer.{Answer, answered, refused, pick, both}
use Rattle.answer.specs.Tables.{◌is◌, find}
use Rattle.field_text.specs.Texts.{padding_after}
use Rattle.record_layout.specs.Fields.{Shown, Field, fixed, type, id, string_reference, optional_type, optional_id, word, gap, numeric, size, string, run, methods, members, when}
use Rattle.record_layout.specs.Layouts.{Layout, Table, type_index, member_leaves, method}
use Rattle.record_member.specs.Said.{member_leaf}
use Rattle.record_list.specs.declared.ListCursor.{ListCursor}
use Rattle.record_list.specs.Lists.{ElementValues, type_element, id_element, method_element, member_element}
use Rattle.record_reference.specs.References.{Ref, refs_field}

-- the bytes of a field, where every one takes as many
abbrev pub width_of : Field → Option ℕ
width_of (fixed k) = Some k
width_of type = Some 4
width_of id = Some 4
width_of string_reference = Some 4
width_of optional_type = Some 4
width_of optional_id = Some 4
width_of (word k good) = Some k
width_of (gap k) = Some k
width_of numeric = None
width_of size = None
width_of string = None
width_of (run e) = None
width_of methods = None
width_of members = None
width_of (when there f) = None

-- may the field refer?
abbrev pub refers : Field → Bool
refers type = true
refers optional_type = true
refers (when there f) = refers f
refers (run e) = false
refers id = false
refers string_reference = false
refers optional_id = false
refers (fixed k) = false
refers (word k good) = false
refers (gap k) = false
refers numeric = false
refers size = false
refers string = false
refers methods = false
refers members = false

-- the references of the fields from p on that read as these values, up to the first field of no fixed width
abbrev pub on_by : {A : Type 0} → Option ℕ → (ℕ → List A) → ℕ → List A
on_by None rest p = []
on_by (Some k) rest p = rest (p + k)

unfoldable pub refs_in : Layout → List Shown → ℕ → List Ref
refs_in [] vs p = []
refs_in (f ∷ fs) [] p = []
refs_in (f ∷ fs) (v ∷ vs) p = refs_field f p v ++ on_by (width_of f) (refs_in fs vs) p

-- where that is all of them: nothing refers behind a field of no fixed width
abbrev pub none_refers : Layout → Bool
none_refers [] = true
none_refers (f ∷ fs) = pick (refers f) false (none_refers fs)

abbrev pub or_bare : Option ℕ → Layout → Bool
or_bare None fs = none_refers fs
or_bare (Some k) fs = true

abbrev pub fixed_first : Layout → Bool
fixed_first [] = true
fixed_first (f ∷ fs) = both (or_bare (width_of f) fs) (fixed_first fs)

abbrev pub all_fixed : Table → Bool
all_fixed [] = true
all_fixed ((n is fs) ∷ ls) = both (fixed_first fs) (all_fixed ls)

-- by the leaf that the values begin with; the fields stand at p
abbrev pub behind : List Shown → List Shown
behind [] = []
behind (v ∷ vs) = vs

abbrev pub in_layout : Option Layout → List Shown → ℕ → List Ref
in_layout None vs p = []
in_layout (Some fs) vs p = refs_in fs vs p

unfoldable pub refs_by : Table → List Shown → ℕ → List Ref
refs_by table vs p = in_layout (find (member_leaf vs) table) (behind vs) p

-- The same field by field, for the fields that may refer: what the first of them has, the second, and so on
unfoldable pub slots_in : Layout → List Shown → ℕ → List (List Ref)
slots_in [] vs p = []
slots_in (f ∷ fs) [] p = []
slots_in (f ∷ fs) (v ∷ vs) p =
    pick (refers f) (refs_field f p v ∷ on_by (width_of f) (slots_in fs vs) p) (on_by (width_of f) (slots_in fs vs) p)

abbrev pub in_slots : Option Layout → List Shown → ℕ → List (List Ref)
in_slots None vs p = []
in_slots (Some fs) vs p = slots_in fs vs p

unfoldable pub slots_by : Table → List Shown → ℕ → List (List Ref)
slots_by table vs p = in_slots (find (member_leaf vs) table) (behind vs) p

-- n of them, the last ones empty where there are fewer
unfoldable pub slots : ℕ → List (List Ref) → List (List Ref)
slots zero xs = []
slots (suc n) [] = [] ∷ slots n []
slots (suc n) (x ∷ xs) = x ∷ slots n xs

abbrev pub joined : List (List Ref) → List Ref
joined [] = []
joined (x ∷ xs) = x ++ joined xs

-- of an element; its fields, of a member those after the leaf, stand at p
unfoldable pub element_refs : ElementValues → ℕ → List Ref
element_refs (type_element vs) p = refs_in (type_index ∷ []) vs p
element_refs (id_element vs) p = []
element_refs (method_element vs) p = refs_in method vs p
element_refs (member_element vs) p = refs_by member_leaves vs p

-- where the fields of the element at a cursor stand: at the cursor; a member's behind its leaf, which stands behind the padding
abbrev pub behind_leaf : ℕ → ℕ → ℕ
behind_leaf n q = pick (leb (q + 2) n) (q + 2) 0

abbrev pub or_behind : ℕ → Answer ℕ → ℕ
or_behind n (answered q) = behind_leaf n q
or_behind n (refused m d) = 0

unfoldable pub fields_at : List ℕ → ListCursor → ℕ
fields_at s c = pick (eqb c.leaf 0x1203) (or_behind (length s) (pick c.padded (padding_after s c.at) (answered c.at))) c.at
