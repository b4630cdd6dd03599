-- An answered 0x1002 record has kind and mode answered, and a bad kind or mode is 12. Assumes nothing.
use Rattle.std.specs.Prelude.{Option, None, Some}
use Prim.Native.Nat.{ℕ}
use native.Mathlib.Omega.{arith}
use mathlib.Core.Bool.{Bool, true, false}
use mathlib.Core.Path.{◌≡◌, refl, ap, subst}
use mathlib.Core.List.{List, []}
use Rattle.answer.specs.Answer.{Answer, answered, refused, Got, Read, both}
use Rattle.answer.specs.Tables.{find}
use Rattle.field.specs.Fields.{fixed_at}
use Rattle.word_attributes.specs.Bits.{bits}
use Rattle.word_attributes.specs.Pointers.{good_or_12, kind_of, mode_of, pointer_kinds, pointer_modes}
use Rattle.record_layout.specs.Fields.{Shown, read_field, read_field_by, read_fields_by}
use Rattle.record_layout.specs.Values.{nth, number_in}
use Rattle.record_layout.specs.Layouts.{is_answered, member_class, type_leaves, read_leaf, leaf_of}

-- kind and mode of a word are answered
abbrev pub Good : ℕ → Type 0
Good w = both (is_answered (kind_of w)) (is_answered (mode_of w)) ≡ true

abbrev flag : Answer (List Shown) → ℕ
flag (answered vs) = 1
flag (refused n d) = 0

abbrev word_in : Answer (List Shown) → ℕ
word_in (answered vs) = number_in (nth 2 vs)
word_in (refused n d) = 0

never : {X : Type 0} (n : ℕ) (d : List ℕ) (vs : List Shown) → refused n d ≡ answered vs → X
never n d vs e = let z : ◌≡◌ {A = ℕ} 0 1 = ap flag e in absurd (omega arith)

pub pointer-answered : (s : List ℕ) (p : ℕ) (vs : List Shown) → leaf_of type_leaves 0x1002 s p ≡ answered vs → Good (number_in (nth 2 vs))
unfolding leaf_of read_leaf find type_leaves read_fields_by read_field_by
pointer-answered s p vs e = type-read (fixed_at 4 s p) refl
  where
    class-read : (t w : Got ℕ) → fixed_at 4 s p ≡ answered t → fixed_at 4 s t.next ≡ answered w → Good w.value
        → (a : Read Shown) → read_field member_class w.value s w.next ≡ a → Good (number_in (nth 2 vs))
    class-read t w ht hw good (answered g) h = subst Good (ap word_in (rw (ht, hw, good, h) at e)) good
    class-read t w ht hw good (refused n d) h = never n d vs (rw (ht, hw, good, h) at e)

    word_good : (t w : Got ℕ) → fixed_at 4 s p ≡ answered t → fixed_at 4 s t.next ≡ answered w
        → (b : Bool) → both (is_answered (kind_of w.value)) (is_answered (mode_of w.value)) ≡ b → Good (number_in (nth 2 vs))
    word_good t w ht hw true h = class-read t w ht hw h (read_field member_class w.value s w.next) refl
    word_good t w ht hw false h = never 12 [] vs (rw (ht, hw, h) at e)

    word_read : (t : Got ℕ) → fixed_at 4 s p ≡ answered t → (a : Read ℕ) → fixed_at 4 s t.next ≡ a → Good (number_in (nth 2 vs))
    word_read t ht (answered w) h = word_good t w ht h (both (is_answered (kind_of w.value)) (is_answered (mode_of w.value))) refl
    word_read t ht (refused n d) h = never n d vs (rw (ht, h) at e)

    type-read : (a : Read ℕ) → fixed_at 4 s p ≡ a → Good (number_in (nth 2 vs))
    type-read (answered t) h = word_read t h (fixed_at 4 s t.next) refl
    type-read (refused n d) h = never n d vs (rw h at e)

-- a pointer word whose kind or mode is not in its list is 12
listed-or-12 : {A B : Type 0} (n : ℕ) (d : List ℕ) (o : Option B) → refused n d ≡ good_or_12 o → ◌≡◌ {A = Answer A} (refused n d) (refused 12 [])
listed-or-12 n d None h = cc
listed-or-12 n d (Some b) h = cc

pub bad-kind : {A : Type 0} (n : ℕ) (d : List ℕ) (w : ℕ) → refused n d ≡ kind_of w → ◌≡◌ {A = Answer A} (refused n d) (refused 12 [])
unfolding kind_of
bad-kind n d w = listed-or-12 n d (find (bits 0 4 w) pointer_kinds)

pub bad-mode : {A : Type 0} (n : ℕ) (d : List ℕ) (w : ℕ) → refused n d ≡ mode_of w → ◌≡◌ {A = Answer A} (refused n d) (refused 12 [])
unfolding mode_of
bad-mode n d w = listed-or-12 n d (find (bits 5 7 w) pointer_modes)
