-- The value of a field that was read is told by its three numbers. Assumes nothing.
use Rattle.std.specs.Prelude.{Option, None, Some}
use Prim.Native.Nat.{ℕ, zero, suc, ◌+◌, ◌-◌, ◌*◌, ◌≤◌, ◌<◌, ◌^◌}
use native.Mathlib.Omega.{arith}
use mathlib.Core.Bool.{Bool, true, false}
use mathlib.Core.Path.{◌≡◌, refl, sym, ap, subst}
use mathlib.Core.List.{List, [], ◌∷◌}
use lib.ListN.{length, drop}
use lib.Dec.{leb, ltb}
use lib.IntN.{ℤ, pos, negsuc}
use borrow.Author.Tests.{lt-ltb, le-ltb}
use Rattle.answer.specs.Answer.{answered, refused, Read, got, ended, pick, stop, then, and_then}
use Rattle.answer.specs.Tables.{among}
use Rattle.field.specs.Fields.{little_at, fixed_at, twos}
use Rattle.field.specs.Indices.{no_type, no_id, optional_of, optional_at}
use Rattle.field.specs.Runs.{bytes_after}
use Rattle.field_text.specs.Texts.{Part, to_zero, part_or, string_at}
use Rattle.field_number.specs.Numbers.{numeric_at, natural, size_at}
use Rattle.field_number.specs.Forms.{Form, form_of, numeral_by, sized_by}
use Rattle.field_number.proofs.FormLaws.{Each, Took, of-numeric}
use Rattle.record_layout.specs.Fields.{Shown, number, numeral, absent, many, Field, fixed, type, id, string_reference, optional_type, optional_id, word, gap, numeric, size, string, run, methods, members, when, run_bytes, or_absent, word_after, read_field, read_field_by, read_fields, read_fields_by}
use Rattle.record_layout.specs.Layouts.{type_index, Layout, method}
use Rattle.pane_out.specs.Handed.{bits64, negative}
use Rattle.pane_row.specs.Slots.{form_in, first_of, second_of, third_of}
use Rattle.pane_row.specs.Kinds as kind
use Rattle.pane_row.specs.Kinds.{Kind, maybe, slot_kind}
use Rattle.pane_row.specs.Back.{integer_back, form_back, told}

-- Numeric leaves ---------------------------------------------------------------------------------------------------------------------

form-back : (width : ℕ) (shorter : Bool) → width < 256 → ◌≡◌ {A = Form} (form_back (form_in (record { width = width; shorter = shorter }))) (record { width = width; shorter = shorter })
form-back width true h = rw (le-ltb (256 + width) 256 (omega arith)) (ap (λ (w : ℕ). record { width = w; shorter = true }) (omega arith))
form-back width false h = rw (lt-ltb width 256 h)

-- a number comes back, and its width is below 256: so it is with each of the eight forms
abbrev Back : ℤ → ℕ → Type 0
Back z width = (integer_back (bits64 z) (negative z) ≡ z) × (width < 256)

twos_back : (k x : ℕ) → 2 ^ (8 * k) ≤ 2 ^ 64 → integer_back (bits64 (twos k x)) (negative (twos k x)) ≡ twos k x
twos_back k x h = go (ltb x (2 ^ (8 * k - 1)))
  where
    go : (t : Bool) → integer_back (bits64 (pick t (pos x) (negsuc (2 ^ (8 * k) - suc x)))) (negative (pick t (pos x) (negsuc (2 ^ (8 * k) - suc x)))) ≡ pick t (pos x) (negsuc (2 ^ (8 * k) - suc x))
    go true = refl
    go false = ap negsuc (omega arith)

each_back : (s : List ℕ) → Each Back s
each_back s = record {
  plain = λ x h. (refl, omega arith);
  i8 = λ x h. (twos_back 1 x (omega arith), omega arith);
  i16 = λ x h. (twos_back 2 x (omega arith), omega arith);
  u16 = λ x h. (refl, omega arith);
  i32 = λ x h. (twos_back 4 x (omega arith), omega arith);
  u32 = λ x h. (refl, omega arith);
  i64 = λ x h. (twos_back 8 x (omega arith), omega arith);
  u64 = λ x h. (refl, omega arith);
}

-- What is read ------------------------------------------------------------------------------------------------------------------------

-- of an answer that is given, its value and the place after it
abbrev pub Holds : {A : Type 0} → (A → ℕ → Type 0) → Read A → Type 0
Holds P (answered g) = P g.value g.next
Holds P (refused n d) = Unit

pub after : {A B : Type 0} (P : A → ℕ → Type 0) (Q : B → ℕ → Type 0) (a : Read A) (f : A → ℕ → Read B) → Holds P a → ((v : A) (q : ℕ) → P v q → Holds Q (f v q)) → Holds Q (and_then a f)
after P Q (answered g) f h k = k g.value g.next h
after P Q (refused n d) f h k = tt

-- of the kinds that a table has, a value is told by its three numbers
abbrev pub known : Kind → Bool
known kind.other = false
known kind.nothing = true
known kind.plain = true
known kind.optional = true
known kind.text = true
known kind.optional_text = true
known kind.present = true
known kind.natural = true
known kind.integer = true

abbrev pub Shows : Kind → Shown → Type 0
Shows κ v = known κ ≡ true → told κ (first_of v) (second_of v) (third_of v) ≡ v

-- and what is many bytes stands at p or behind it
abbrev Placed : ℕ → Shown → Type 0
Placed p (many x) = p ≤ x.place
Placed p (number n) = Unit
Placed p (numeral z f) = Unit
Placed p absent = Unit

abbrev Tells : Kind → ℕ → Shown → ℕ → Type 0
Tells κ p v q = Shows κ v × Placed p v × (p ≤ q)

false-true : {X : Type 0} → false ≡ true → X
false-true e = let z : ◌≡◌ {A = ℕ} 0 1 = cc in absurd (omega arith)

-- a field that may be left out
maybe-shows : (κ : Kind) (p : ℕ) (v : Shown) → 0 < p → Shows κ v → Placed p v → Shows (maybe κ) v
maybe-shows kind.nothing p v l h i = h
maybe-shows kind.plain p v l h i = subst (Shows kind.present) (h refl) (λ k. refl)
maybe-shows kind.optional p v l h i = h
maybe-shows kind.text p v l h i =
    let j : p ≤ first_of v = subst (Placed p) (sym (h refl)) i in
    λ k. rw (lt-ltb 0 (first_of v) (omega arith)) (h refl)
maybe-shows kind.optional_text p v l h i = h
maybe-shows kind.present p v l h i = h
maybe-shows kind.natural p v l h i = λ k. false-true k
maybe-shows kind.integer p v l h i = λ k. false-true k
maybe-shows kind.other p v l h i = λ k. false-true k

left_out : (κ : Kind) → Shows (maybe κ) absent
left_out kind.nothing = λ k. refl
left_out kind.plain = λ k. refl
left_out kind.optional = λ k. refl
left_out kind.text = λ k. refl
left_out kind.optional_text = λ k. refl
left_out kind.present = λ k. refl
left_out kind.natural = λ k. false-true k
left_out kind.integer = λ k. false-true k
left_out kind.other = λ k. false-true k

-- an index that is there is not 0
none_or : (b : Bool) (m : ℕ) → Shows kind.optional (or_absent (pick b None (Some (suc m))))
none_or true m = λ k. refl
none_or false m = λ k. rw (lt-ltb 0 (suc m) (omega arith))

type-shows : (n : ℕ) → Shows kind.optional (or_absent (optional_of no_type n))
unfolding optional_of among
type-shows zero = λ k. refl
type-shows (suc m) = none_or (among (suc m) no_type) m

id-shows : (n : ℕ) → Shows kind.optional (or_absent (optional_of no_id n))
unfolding optional_of among
id-shows zero = λ k. refl
id-shows (suc m) = none_or (among (suc m) no_id) m

not-many : (p : ℕ) (o : Option ℕ) → Placed p (or_absent o)
not-many p None = tt
not-many p (Some m) = tt

-- each value of a layout is told by its three numbers
unfoldable pub AllShow : Layout → List Shown → Type 0
AllShow [] [] = Unit
AllShow [] (v ∷ vs) = ⊥
AllShow (f ∷ fs) [] = ⊥
AllShow (f ∷ fs) (v ∷ vs) = Shows (slot_kind f) v × AllShow fs vs

module _ (s : List ℕ) where
  pub fixed_on : (k p : ℕ) → Holds (λ (n : ℕ) (q : ℕ). p + k ≤ q) (fixed_at k s p)
  unfolding fixed_at
  fixed_on k p = go (leb (p + k) (length s))
    where
      go : (b : Bool) → Holds (λ (n : ℕ) (q : ℕ). p + k ≤ q) (pick b (got (little_at k s p) (p + k)) ended)
      go true = omega arith
      go false = tt

  -- a number of k bytes, whatever is made of it
  number-tells : (κ : Kind) (k p : ℕ) (f : ℕ → ℕ → Read Shown) → ((n q : ℕ) → p ≤ q → Holds (Tells κ p) (f n q)) → Holds (Tells κ p) (and_then (fixed_at k s p) f)
  number-tells κ k p f h = after (λ (n : ℕ) (q : ℕ). p + k ≤ q) (Tells κ p) (fixed_at k s p) f (fixed_on k p) (λ n q l. h n q (omega arith))

  -- a numeric leaf
  numeric-holds : (p : ℕ) → Holds (λ (z : ℤ) (q : ℕ). Back z (q - p) × (p ≤ q)) (numeric_at s p)
  numeric-holds p = go (numeric_at s p) refl
    where
      go : (a : Read ℤ) → numeric_at s p ≡ a → Holds (λ (z : ℤ) (q : ℕ). Back z (q - p) × (p ≤ q)) a
      go (answered g) e =
          let t : Took Back p g.value g.next = of-numeric Back s (each_back s) p g.value g.next e in
          let w : g.next - p ≡ t.width = omega (arith, t.behind) in
          ((t.holds.0, rw w t.holds.1), omega (arith, t.behind))
      go (refused n d) e = tt

  size_holds : (p : ℕ) → Holds (λ (n : ℕ) (q : ℕ). (q - p < 256) × (p ≤ q)) (size_at s p)
  unfolding size_at
  size_holds p = after (λ (z : ℤ) (q : ℕ). Back z (q - p) × (p ≤ q)) _ (numeric_at s p) natural (numeric-holds p) go
    where
      go : (z : ℤ) (q : ℕ) → Back z (q - p) × (p ≤ q) → Holds (λ (n : ℕ) (q : ℕ). (q - p < 256) × (p ≤ q)) (natural z q)
      go (pos n) q h = (h.0.1, h.1)
      go (negsuc n) q h = tt

  string-holds : (p : ℕ) → Holds (λ (x : Part) (q : ℕ). (p ≤ x.place) × (p ≤ q)) (string_at s p)
  unfolding string_at
  string-holds p = go (to_zero (drop p s) 0)
    where
      go : (o : Option ℕ) → Holds (λ (x : Part) (q : ℕ). (p ≤ x.place) × (p ≤ q)) (part_or o p)
      go None = tt
      go (Some n) = (omega arith, omega arith)

  integer-shows : (z : ℤ) (width : ℕ) → Back z width → Shows kind.integer (numeral z (form_of z width))
  unfolding form_of
  integer-shows z width h = λ k. rw (h.0, form-back width _ h.1)

  natural-shows : (n width : ℕ) → width < 256 → Shows kind.natural (numeral (pos n) (form_of (pos n) width))
  unfolding form_of
  natural-shows n width h = λ k. rw (form-back width _ h)

  pub field-tells : (f : Field) (w p : ℕ) → 0 < p → Holds (Tells (slot_kind f) p) (read_field f w s p)
  unfolding slot_kind read_field_by numeral_by sized_by bytes_after optional_at
  field-tells (fixed k) w p l = number-tells kind.plain k p _ (λ n q i. (λ h. refl, tt, i))
  field-tells type w p l = number-tells kind.plain 4 p _ (λ n q i. (λ h. refl, tt, i))
  field-tells id w p l = number-tells kind.plain 4 p _ (λ n q i. (λ h. refl, tt, i))
  field-tells string_reference w p l = number-tells kind.plain 4 p _ (λ n q i. (λ h. refl, tt, i))
  field-tells optional_type w p l =
      after (λ (o : Option ℕ) (q : ℕ). Shows kind.optional (or_absent o) × (p ≤ q)) _ (and_then (fixed_at 4 s p) (λ n q. got (optional_of no_type n) q)) _
      (after (λ (n : ℕ) (q : ℕ). p + 4 ≤ q) _ (fixed_at 4 s p) _ (fixed_on 4 p) (λ n q i. (type-shows n, omega arith)))
      (λ o q h. (h.0, not-many p o, h.1))
  field-tells optional_id w p l =
      after (λ (o : Option ℕ) (q : ℕ). Shows kind.optional (or_absent o) × (p ≤ q)) _ (and_then (fixed_at 4 s p) (λ n q. got (optional_of no_id n) q)) _
      (after (λ (n : ℕ) (q : ℕ). p + 4 ≤ q) _ (fixed_at 4 s p) _ (fixed_on 4 p) (λ n q i. (id-shows n, omega arith)))
      (λ o q h. (h.0, not-many p o, h.1))
  field-tells (word k good) w p l = number-tells kind.plain k p _ (λ n q i. go (good n) n q i)
    where
      go : (b : Bool) (n q : ℕ) → p ≤ q → Holds (Tells kind.plain p) (pick b (got {A = Shown} (number n) q) (refused 12 []))
      go true n q i = (λ h. refl, tt, i)
      go false n q i = tt
  field-tells (gap k) w p l = number-tells kind.nothing k p _ (λ n q i. (λ h. refl, tt, i))
  field-tells numeric w p l =
      after (λ x (q : ℕ). Shows kind.integer (numeral x.value x.form) × (p ≤ q)) _ (and_then (numeric_at s p) _) _
      (after (λ (z : ℤ) (q : ℕ). Back z (q - p) × (p ≤ q)) _ (numeric_at s p) _ (numeric-holds p) (λ z q h. (integer-shows z (q - p) h.0, h.1)))
      (λ x q h. (h.0, tt, h.1))
  field-tells size w p l =
      after (λ x (q : ℕ). Shows kind.natural (numeral (pos x.value) x.form) × (p ≤ q)) _ (and_then (size_at s p) _) _
      (after (λ (n : ℕ) (q : ℕ). (q - p < 256) × (p ≤ q)) _ (size_at s p) _ (size_holds p) (λ n q h. (natural-shows n (q - p) h.0, h.1)))
      (λ x q h. (h.0, tt, h.1))
  field-tells string w p l = after (λ (x : Part) (q : ℕ). (p ≤ x.place) × (p ≤ q)) _ (string_at s p) _ (string-holds p) (λ x q h. (λ k. refl, h.0, h.1))
  field-tells (run e) w p l = go (ltb (length s) (p + run_bytes e w))
    where
      go : (b : Bool) → Holds (Tells kind.text p) (then (stop b 1 (answered (p + run_bytes e w))) (λ q. got {A = Shown} (many (record { place = p; length = run_bytes e w })) q))
      go true = tt
      go false = (λ k. refl, omega arith, omega arith)
  field-tells methods w p l = (λ k. refl, tt, omega arith)
  field-tells members w p l = (λ k. refl, tt, omega arith)
  field-tells (when there f) w p l = go (there w) (read_field_by form_of f w s p) (field-tells f w p l)
    where
      go : (b : Bool) (a : Read Shown) → Holds (Tells (slot_kind f) p) a → Holds (Tells (maybe (slot_kind f)) p) (pick b a (got {A = Shown} absent p))
      go true (answered g) h = (maybe-shows (slot_kind f) p g.value l h.0 h.1, h.1, h.2)
      go true (refused n d) h = tt
      go false a h = (left_out (slot_kind f), tt, omega arith)

  -- Each field of a layout in turn ---------------------------------------------------------------------------------------------------

  pub fields-tell : (fs : Layout) (w p : ℕ) → 0 < p → Holds (λ (vs : List Shown) (q : ℕ). AllShow fs vs) (read_fields fs w s p)
  unfolding read_fields_by AllShow
  fields-tell [] w p l = tt
  fields-tell (f ∷ fs) w p l =
      after (Tells (slot_kind f) p) _ (read_field f w s p) _ (field-tells f w p l) (λ v q h.
      after (λ (vs : List Shown) (e : ℕ). AllShow fs vs) _ (read_fields fs (word_after f v w) s q) _ (fields-tell fs (word_after f v w) q (omega (arith, h.2))) (λ vs e i. (h.0, i)))

  -- the same from place 0 on, where the first field is a number
  pub number-first : (f : Field) (fs : Layout) (w p k : ℕ) → 0 < k → Holds (λ (v : Shown) (q : ℕ). Shows (slot_kind f) v × (p + k ≤ q)) (read_field f w s p)
      → Holds (λ (vs : List Shown) (q : ℕ). AllShow (f ∷ fs) vs) (read_fields (f ∷ fs) w s p)
  unfolding read_fields_by AllShow
  number-first f fs w p k l o =
      after (λ (v : Shown) (q : ℕ). Shows (slot_kind f) v × (p + k ≤ q)) _ (read_field f w s p) _ o (λ v q h.
      after (λ (vs : List Shown) (e : ℕ). AllShow fs vs) _ (read_fields fs (word_after f v w) s q) _ (fields-tell fs (word_after f v w) q (omega (arith, h.1))) (λ vs e i. (h.0, i)))

  pub method-tells : (p : ℕ) → Holds (λ (vs : List Shown) (q : ℕ). AllShow method vs) (read_fields method 0 s p)
  unfolding slot_kind read_field_by
  method-tells p = number-first _ _ 0 p 2 (omega arith) (after (λ (n : ℕ) (q : ℕ). p + 2 ≤ q) _ (fixed_at 2 s p) _ (fixed_on 2 p) (λ n q i. (λ h. refl, i)))

  pub type-tells : (p : ℕ) → Holds (λ (vs : List Shown) (q : ℕ). AllShow (type_index ∷ []) vs) (read_fields (type_index ∷ []) 0 s p)
  unfolding slot_kind read_field_by
  type-tells p = number-first type_index [] 0 p 4 (omega arith) (after (λ (n : ℕ) (q : ℕ). p + 4 ≤ q) _ (fixed_at 4 s p) _ (fixed_on 4 p) (λ n q i. (λ h. refl, i)))

  pub id-tells : (p : ℕ) → Holds (λ (vs : List Shown) (q : ℕ). AllShow (id ∷ []) vs) (read_fields (id ∷ []) 0 s p)
  unfolding slot_kind read_field_by
  id-tells p = number-first id [] 0 p 4 (omega arith) (after (λ (n : ℕ) (q : ℕ). p + 4 ≤ q) _ (fixed_at 4 s p) _ (fixed_on 4 p) (λ n q i. (λ h. refl, i)))

  -- the leaf of a record stands before its fields
  pub leaf_first : {A : Type 0} (Q : A → ℕ → Type 0) (p : ℕ) (f : ℕ → ℕ → Read A) → ((leaf q : ℕ) → 0 < q → Holds Q (f leaf q)) → Holds Q (and_then (fixed_at 2 s p) f)
  leaf_first Q p f h = after (λ (n : ℕ) (q : ℕ). p + 2 ≤ q) Q (fixed_at 2 s p) f (fixed_on 2 p) (λ n q i. h n q (omega arith))
