-- R-13 of document 02: "references rewritten .. and all other payload bytes kept". The bytes of a payload with each reference's four bytes
-- replaced, what it asks, and the values that are read from it.
use Rattle.std.specs.Prelude.{Option, None, Some, ℕ, ◌+◌, ◌^◌, ◌≤◌, ◌<◌, true, false, ◌⊎◌, ◌≡◌, List, [], ◌∷◌, length, get_or}
use Rattle.answer.specs.Tables.{among, find}
use Rattle.field.specs.Fields.{little_at}
use Rattle.field.specs.Bytes.{bytes}
use Rattle.field.specs.Indices.{no_type}
use Rattle.field_put.specs.Bytes.{put}
use Rattle.record_layout.specs.Fields.{Shown, number, numeral, absent, many, Field, fixed, type, id, string_reference, optional_type, optional_id, word, gap, numeric, size, string, run, methods, members, when}
use Rattle.record_layout.specs.Layouts.{Layout, Table, type_index, member_leaves, method}
use Rattle.record_member.specs.Said.{member_leaf}
use Rattle.record_list.specs.Lists.{ElementValues, type_element, id_element, method_element, member_element, Step}
use Rattle.record_reference.specs.References.{Ref, ref}

-- a reference, renumbered: the same place, optional or not as before
abbrev pub renamed : (ℕ → ℕ) → Ref → Ref
renamed f r = ref r.place r.optional (f r.index)

unfoldable pub renamed_all : (ℕ → ℕ) → List Ref → List Ref
renamed_all f [] = []
renamed_all f (r ∷ rs) = renamed f r ∷ renamed_all f rs

-- the bytes s with those of f index at each reference's place
unfoldable pub rewrite : (ℕ → ℕ) → List ℕ → List Ref → List ℕ
rewrite f s [] = s
rewrite f s (r ∷ rs) = rewrite f (put s r.place (bytes 4 (f r.index))) rs

-- Where references stand: in order from p to e, four bytes each, so that no two overlap
unfoldable pub Within : ℕ → List Ref → ℕ → Type 0
Within p [] e = p ≤ e
Within p (r ∷ rs) e = (p ≤ r.place) × Within (r.place + 4) rs e

-- Place i is none of theirs
unfoldable pub Outside : ℕ → List Ref → Type 0
Outside i [] = Unit
Outside i (r ∷ rs) = (i < r.place ⊎ r.place + 4 ≤ i) × Outside i rs

-- What stands at their places: their indices; and an optional one is not none
pub record StandsOne (s : List ℕ) (r : Ref) : Type 0 where
  pub here : little_at 4 s r.place ≡ r.index
  pub some : r.optional ≡ true → among r.index no_type ≡ false

unfoldable pub Stand : List ℕ → List Ref → Type 0
Stand s [] = Unit
Stand s (r ∷ rs) = StandsOne s r × Stand s rs

-- f changes none of them
unfoldable pub Stays : (ℕ → ℕ) → List Ref → Type 0
Stays f [] = Unit
Stays f (r ∷ rs) = (f r.index ≡ r.index) × Stays f rs

-- What f must do to references: numbers of four bytes, and an optional one does not become none
pub record FitsOne (f : ℕ → ℕ) (r : Ref) : Type 0 where
  pub small : f r.index < 2 ^ 32
  pub some : r.optional ≡ true → among (f r.index) no_type ≡ false

unfoldable pub Fits : (ℕ → ℕ) → List Ref → Type 0
Fits f [] = Unit
Fits f (r ∷ rs) = FitsOne f r × Fits f rs

-- What is left of that in the bytes: s and t have the same bytes from p to e but for the references, and there t has f index
abbrev pub Agree : List ℕ → List ℕ → ℕ → ℕ → Type 0
Agree s t p e = (i : ℕ) → p ≤ i → i < e → get_or t i 0 ≡ get_or s i 0

pub record MovedOne (f : ℕ → ℕ) (s t : List ℕ) (p : ℕ) (r : Ref) : Type 0 where
  pub before : Agree s t p r.place
  pub here : little_at 4 t r.place ≡ f r.index
  pub some : r.optional ≡ true → among (f r.index) no_type ≡ false

unfoldable pub Moved : (ℕ → ℕ) → List ℕ → List ℕ → ℕ → List Ref → ℕ → Type 0
Moved f s t p [] e = Agree s t p e
Moved f s t p (r ∷ rs) e = MovedOne f s t p r × Moved f s t (r.place + 4) rs e

-- Values ---------------------------------------------------------------------------------------------------------------------------

abbrev pub on_number : (ℕ → ℕ) → Shown → Shown
on_number f (number n) = number (f n)
on_number f (numeral z w) = numeral z w
on_number f absent = absent
on_number f (many x) = many x

-- the value of a field: a reference is renumbered, all else stays
unfoldable pub moved_value : (ℕ → ℕ) → Field → Shown → Shown
moved_value f type v = on_number f v
moved_value f optional_type v = on_number f v
moved_value f (when there g) v = moved_value f g v
moved_value f (fixed k) v = v
moved_value f id v = v
moved_value f string_reference v = v
moved_value f optional_id v = v
moved_value f (word k good) v = v
moved_value f (gap k) v = v
moved_value f numeric v = v
moved_value f size v = v
moved_value f string v = v
moved_value f (run e) v = v
moved_value f methods v = v
moved_value f members v = v

unfoldable pub moved_values : (ℕ → ℕ) → Layout → List Shown → List Shown
moved_values f [] vs = vs
moved_values f (g ∷ gs) [] = []
moved_values f (g ∷ gs) (v ∷ vs) = moved_value f g v ∷ moved_values f gs vs

-- of a record: its leaf first, then the fields of the leaf's layout
abbrev pub moved_by : (ℕ → ℕ) → Option Layout → List Shown → List Shown
moved_by f None vs = vs
moved_by f (Some fs) [] = []
moved_by f (Some fs) (v ∷ vs) = v ∷ moved_values f fs vs

unfoldable pub moved_record : (ℕ → ℕ) → Table → List Shown → List Shown
moved_record f table vs = moved_by f (find (member_leaf vs) table) vs

-- of an element of a list
unfoldable pub moved_element : (ℕ → ℕ) → ElementValues → ElementValues
moved_element f (type_element vs) = type_element (moved_values f (type_index ∷ []) vs)
moved_element f (id_element vs) = id_element vs
moved_element f (method_element vs) = method_element (moved_values f method vs)
moved_element f (member_element vs) = member_element (moved_record f member_leaves vs)

abbrev pub moved_step : (ℕ → ℕ) → Step → Step
moved_step f x = record { element = moved_element f x.element; next = x.next }

-- In a buffer --------------------------------------------------------------------------------------------------------------------------

-- references of a payload that stands at place q of a buffer
unfoldable pub shifted : ℕ → List Ref → List Ref
shifted q [] = []
shifted q (r ∷ rs) = ref (q + r.place) r.optional r.index ∷ shifted q rs

-- a payload copied to place q and rewritten there is the rewritten payload at place q
unfoldable pub InPlace : Type 0
InPlace = (f : ℕ → ℕ) (rs : List Ref) (b : List ℕ) (q : ℕ) (p : List ℕ) → q + length p ≤ length b → Within 0 rs (length p)
    → put b q (rewrite f p rs) ≡ rewrite f (put b q p) (shifted q rs)
