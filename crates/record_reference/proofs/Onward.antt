-- Reading goes on and stays inside: whatever is read at p ends at p or behind it, and not past the end. So each step of a list goes on. Assumes
-- nothing.
use Rattle.std.specs.Prelude.{Option, None, Some}
use Prim.Native.Nat.{ℕ, zero, suc, ◌+◌, ◌-◌, ◌≤◌, ◌<◌}
use native.Mathlib.Omega.{arith}
use mathlib.Core.Bool.{Bool, true, false}
use mathlib.Core.Path.{◌≡◌, refl}
use mathlib.Core.List.{List, [], ◌∷◌}
use lib.ListN.{length, drop, length-drop}
use lib.Dec.{leb, ltb, eqb}
use lib.IntN.{ℤ, pos, negsuc}
use borrow.Author.Tests.{leb-true, ltb-false}
use Rattle.answer.specs.Answer.{Answer, answered, refused, Read, got, ended, pick, stop, then, and_then}
use Rattle.answer.specs.Tables.{find}
use Rattle.field.specs.Fields.{little_at, fixed_at, signed_at}
use Rattle.field.specs.Indices.{no_type, no_id, optional_of, optional_at}
use Rattle.field.specs.Runs.{bytes_after}
use Rattle.field_text.specs.Texts.{to_zero, part_or, string_at, more, pad, padding_after}
use Rattle.field_number.specs.Numbers.{Wide, signed, unsigned, prefixes, unsigned_at, wide_at, numeric_at, natural, size_at}
use Rattle.field_number.specs.Forms.{form_of, numeral_by, sized_by}
use Rattle.record_layout.specs.Fields.{Shown, number, absent, many, Field, fixed, type, id, string_reference, optional_type, optional_id, word, gap, numeric, size, string, run, methods, members, when, run_bytes, word_after, read_field, read_field_by, read_fields, read_fields_by}
use Rattle.record_layout.specs.Layouts.{Layout, Table, type_index, method, member_leaves, by_layout, read_leaf, read_record}
use Rattle.record_list.specs.declared.ListCursor.{ListCursor}
use Rattle.record_list.specs.Lists.{ElementValues, type_element, id_element, method_element, member_element, Step, step_to, in_counted, to_the_end, after_member, counted_step, method_step, left_after, member_step, next_member, step_of}

abbrev pub Onward : {A : Type 0} → List ℕ → ℕ → Read A → Type 0
Onward s p (answered g) = (p ≤ g.next) × (g.next ≤ length s)
Onward s p (refused n d) = Unit

none-some : {X : Type 0} {n : ℕ} → ◌≡◌ {A = Option ℕ} None (Some n) → X
none-some {X} {n} h = let z : ◌≡◌ {A = ℕ} 0 1 = cc in absurd (omega arith)

zero-inside : (xs : List ℕ) (m n : ℕ) → to_zero xs m ≡ Some n → n < m + length xs
unfolding to_zero
zero-inside [] m n h = none-some h
zero-inside (zero ∷ xs) m n h = let e : m ≡ n = cc in omega arith
zero-inside (suc x ∷ xs) m n h = omega (arith, zero-inside xs (suc m) n h)

-- where padding ends
abbrev Between : ℕ → ℕ → Answer ℕ → Type 0
Between p e (answered q) = (p ≤ q) × (q ≤ e)
Between p e (refused n d) = Unit

between-later : (p q e : ℕ) (a : Answer ℕ) → p ≤ q → Between q e a → Between p e a
between-later p q e (answered m) l h = (omega (arith, h.0), h.1)
between-later p q e (refused n d) l h = tt

pad-between : (k p : ℕ) (xs : List ℕ) (e : ℕ) → e ≡ p + length xs → Between p e (pad k p xs)
unfolding pad
pad-between zero p [] e h = (omega arith, omega arith)
pad-between (suc k) p [] e h = tt
pad-between zero p (x ∷ xs) e h = go (leb 0xf0 x) (pad-between (more x) (p + 1) xs e (omega arith))
  where
    go : (b : Bool) → Between (p + 1) e (pad (more x) (p + 1) xs) → Between p e (pick b (pad (more x) (p + 1) xs) (answered p))
    go true i = between-later p (p + 1) e (pad (more x) (p + 1) xs) (omega arith) i
    go false i = (omega arith, omega arith)
pad-between (suc k) p (x ∷ xs) e h = between-later p (p + 1) e (pad k (p + 1) xs) (omega arith) (pad-between k (p + 1) xs e (omega arith))

module _ (s : List ℕ) where
  after : {A B : Type 0} (p : ℕ) (a : Read A) (f : A → ℕ → Read B) → Onward s p a → ((v : A) (q : ℕ) → p ≤ q → q ≤ length s → Onward s p (f v q)) → Onward s p (and_then a f)
  after p (answered g) f h k = k g.value g.next h.0 h.1
  after p (refused n d) f h k = tt

  sooner : {A : Type 0} (p q : ℕ) (a : Read A) → p ≤ q → Onward s q a → Onward s p a
  sooner p q (answered g) l h = (omega (arith, h.0), h.1)
  sooner p q (refused n d) l h = tt

  fixed_on : (k p : ℕ) → Onward s (p + k) (fixed_at k s p)
  unfolding fixed_at
  fixed_on k p = go (leb (p + k) (length s)) refl
    where
      go : (b : Bool) → leb (p + k) (length s) ≡ b → Onward s (p + k) (pick b (got (little_at k s p) (p + k)) ended)
      go true e = (omega arith, leb-true _ _ e)
      go false e = tt

  -- a field of k bytes, whatever is made of it
  made-on : {A : Type 0} (k p : ℕ) (f : ℕ → ℕ → Read A) → ((n q : ℕ) → p + k ≤ q → q ≤ length s → Onward s (p + k) (f n q)) → Onward s (p + k) (and_then (fixed_at k s p) f)
  made-on k p f h = after (p + k) (fixed_at k s p) f (fixed_on k p) h

  number-on : {A : Type 0} (k p : ℕ) (f : ℕ → ℕ → Read A) → ((n q : ℕ) → p + k ≤ q → q ≤ length s → Onward s (p + k) (f n q)) → Onward s p (and_then (fixed_at k s p) f)
  number-on k p f h = sooner p (p + k) (and_then (fixed_at k s p) f) (omega arith) (made-on k p f h)

  wide-on : (o : Option Wide) (p : ℕ) → Onward s p (wide_at o s p)
  unfolding signed_at unsigned_at
  wide-on None p = tt
  wide-on (Some (signed k)) p = number-on k p _ (λ n q l h. (l, h))
  wide-on (Some (unsigned k)) p = number-on k p _ (λ n q l h. (l, h))

  numeric-on : (p : ℕ) → Onward s p (numeric_at s p)
  unfolding numeric_at
  numeric-on p = number-on 2 p _ (λ n q l h. go (ltb n 0x8000) n q l h)
    where
      go : (b : Bool) (n q : ℕ) → p + 2 ≤ q → q ≤ length s → Onward s (p + 2) (pick b (got (pos n) q) (wide_at (find n prefixes) s q))
      go true n q l h = (l, h)
      go false n q l h = sooner (p + 2) q (wide_at (find n prefixes) s q) l (wide-on (find n prefixes) q)

  size-on : (p : ℕ) → Onward s p (size_at s p)
  unfolding size_at
  size-on p = after p (numeric_at s p) natural (numeric-on p) go
    where
      go : (z : ℤ) (q : ℕ) → p ≤ q → q ≤ length s → Onward s p (natural z q)
      go (pos n) q l h = (l, h)
      go (negsuc n) q l h = tt

  string-on : (p : ℕ) → Onward s p (string_at s p)
  unfolding string_at
  string-on p = go (to_zero (drop p s) 0) refl
    where
      go : (o : Option ℕ) → to_zero (drop p s) 0 ≡ o → Onward s p (part_or o p)
      go None e = tt
      go (Some n) e = (omega arith, omega (arith, zero-inside (drop p s) 0 n e, length-drop p s))

  pub padding-on : (p : ℕ) → Between p (length s) (padding_after s p)
  unfolding padding_after
  padding-on p = go (ltb (length s) p) refl
    where
      go : (b : Bool) → ltb (length s) p ≡ b → Between p (length s) (stop b 1 (pad 0 p (drop p s)))
      go true e = tt
      go false e =
          let l : p ≤ length s = ltb-false _ _ e in
          pad-between 0 p (drop p s) (length s) (omega (arith, length-drop p s))

  field-on : (f : Field) (w p : ℕ) → p ≤ length s → Onward s p (read_field f w s p)
  unfolding read_field_by numeral_by sized_by bytes_after optional_at
  field-on (fixed k) w p l = number-on k p _ (λ n q i h. (i, h))
  field-on type w p l = number-on 4 p _ (λ n q i h. (i, h))
  field-on id w p l = number-on 4 p _ (λ n q i h. (i, h))
  field-on string_reference w p l = number-on 4 p _ (λ n q i h. (i, h))
  field-on optional_type w p l = after p (and_then (fixed_at 4 s p) (λ n q. got (optional_of no_type n) q)) _ (number-on 4 p _ (λ n q i h. (i, h))) (λ v q i h. (i, h))
  field-on optional_id w p l = after p (and_then (fixed_at 4 s p) (λ n q. got (optional_of no_id n) q)) _ (number-on 4 p _ (λ n q i h. (i, h))) (λ v q i h. (i, h))
  field-on (word k good) w p l = number-on k p _ (λ n q i h. go (good n) n q i h)
    where
      go : (b : Bool) (n q : ℕ) → p + k ≤ q → q ≤ length s → Onward s (p + k) (pick b (got {A = Shown} (number n) q) (refused 12 []))
      go true n q i h = (i, h)
      go false n q i h = tt
  field-on (gap k) w p l = number-on k p _ (λ n q i h. (i, h))
  field-on numeric w p l = after p (and_then (numeric_at s p) _) _ (after p (numeric_at s p) _ (numeric-on p) (λ v q i h. (i, h))) (λ v q i h. (i, h))
  field-on size w p l = after p (and_then (size_at s p) _) _ (after p (size_at s p) _ (size-on p) (λ v q i h. (i, h))) (λ v q i h. (i, h))
  field-on string w p l = after p (string_at s p) _ (string-on p) (λ v q i h. (i, h))
  field-on (run e) w p l = go (ltb (length s) (p + run_bytes e w)) refl
    where
      go : (b : Bool) → ltb (length s) (p + run_bytes e w) ≡ b
          → Onward s p (then (stop b 1 (answered (p + run_bytes e w))) (λ q. got {A = Shown} (many (record { place = p; length = run_bytes e w })) q))
      go true i = tt
      go false i = (omega arith, ltb-false _ _ i)
  field-on methods w p l = (omega arith, l)
  field-on members w p l = (omega arith, l)
  field-on (when there f) w p l = go (there w) (field-on f w p l)
    where
      go : (b : Bool) → Onward s p (read_field_by form_of f w s p) → Onward s p (pick b (read_field_by form_of f w s p) (got {A = Shown} absent p))
      go true h = h
      go false h = (omega arith, l)

  fields-on : (fs : Layout) (w p : ℕ) → p ≤ length s → Onward s p (read_fields fs w s p)
  unfolding read_fields_by
  fields-on [] w p l = (omega arith, l)
  fields-on (f ∷ fs) w p l =
      after p (read_field f w s p) _ (field-on f w p l) (λ v q i h.
      after p (read_fields fs (word_after f v w) s q) _ (sooner p q (read_fields fs (word_after f v w) s q) i (fields-on fs (word_after f v w) q h)) (λ vs e j k. (j, k)))

  -- with a first field of k bytes it goes on by them
  first_on : (f : Field) (fs : Layout) (w p k : ℕ) → Onward s (p + k) (read_field f w s p) → Onward s (p + k) (read_fields (f ∷ fs) w s p)
  unfolding read_fields_by
  first_on f fs w p k o =
      after (p + k) (read_field f w s p) _ o (λ v q i h.
      after (p + k) (read_fields fs (word_after f v w) s q) _ (sooner (p + k) q (read_fields fs (word_after f v w) s q) i (fields-on fs (word_after f v w) q h)) (λ vs e j k. (j, k)))

  type-on : (p : ℕ) → Onward s (p + 4) (read_fields (type_index ∷ []) 0 s p)
  unfolding read_field_by
  type-on p = first_on type_index [] 0 p 4 (made-on 4 p _ (λ n q i h. (i, h)))

  id-on : (p : ℕ) → Onward s (p + 4) (read_fields (id ∷ []) 0 s p)
  unfolding read_field_by
  id-on p = first_on id [] 0 p 4 (made-on 4 p _ (λ n q i h. (i, h)))

  method-on : (p : ℕ) → Onward s (p + 2) (read_fields method 0 s p)
  unfolding read_field_by
  method-on p = first_on _ _ 0 p 2 (made-on 2 p _ (λ n q i h. (i, h)))

  record-on : (table : Table) (p : ℕ) → Onward s (p + 2) (read_record table s p)
  unfolding read_record read_leaf
  record-on table p = made-on 2 p _ (λ leaf q i h. go (find leaf table) leaf q i h)
    where
      go : (o : Option Layout) (leaf q : ℕ) → p + 2 ≤ q → q ≤ length s → Onward s (p + 2) (by_layout o leaf s q)
      go None leaf q i h = tt
      go (Some fs) leaf q i h = after (p + 2) (read_fields fs 0 s q) _ (sooner (p + 2) q (read_fields fs 0 s q) i (fields-on fs 0 q h)) (λ vs e j k. (j, k))

-- Each step of a list ----------------------------------------------------------------------------------------------------------------

abbrev pub Steps : List ℕ → ℕ → Answer Step → Type 0
Steps s p (answered x) = (p < x.next.at) × (x.next.at ≤ length s)
Steps s p (refused n d) = Unit

module _ (s : List ℕ) where
  read-steps : (b : Bool) (p k : ℕ) (a : Read (List Shown)) (el : List Shown → ElementValues) (nx : List Shown → ℕ → ListCursor) → ((vs : List Shown) (e : ℕ) → (nx vs e).at ≡ e)
      → 0 < k → Onward s (p + k) a → Steps s p (stop b 15 (and_then a (λ vs e. step_to (el vs) (nx vs e))))
  read-steps true p k a el nx at h o = tt
  read-steps false p k (answered g) el nx at h o = (omega (arith, at g.value g.next, o.0), omega (arith, at g.value g.next, o.1))
  read-steps false p k (refused n d) el nx at h o = tt

  member-steps : (p : ℕ) → Steps s p (member_step s p)
  unfolding member_step
  member-steps p = read-steps (leb (length s) p) p 2 (read_record member_leaves s p) member_element (λ vs e. after_member e (left_after vs)) (λ vs e. refl) (omega arith) (record-on s member_leaves p)

  later-steps : (p q : ℕ) (a : Answer Step) → p ≤ q → Steps s q a → Steps s p a
  later-steps p q (answered x) l h = (omega (arith, h.0), h.1)
  later-steps p q (refused n d) l h = tt

  -- a step goes on, inside the bytes
  pub step-on : (c : ListCursor) → Steps s c.at (step_of s c)
  unfolding step_of counted_step method_step next_member
  step-on c = go (eqb c.leaf 0x1201) (eqb c.leaf 0x1206) (eqb c.leaf 0x1203) (eqb c.leaf 0x1603) (eqb c.leaf 0x1604)
    where
      types : (leaf : ℕ) → Steps s c.at (counted_step type_index type_element leaf s c.at c.left)
      types leaf = read-steps (eqb c.left 0) c.at 4 (read_fields (type_index ∷ []) 0 s c.at) type_element (λ vs e. in_counted leaf e (c.left - 1)) (λ vs e. refl) (omega arith) (type-on s c.at)

      padding : (a : Answer ℕ) → Between c.at (length s) a → Steps s c.at (then a (λ q. member_step s q))
      padding (answered q) h = later-steps c.at q (member_step s q) h.0 (member-steps q)
      padding (refused n d) h = tt

      next : (b padded : Bool) → Steps s c.at (stop b 15 (then (pick padded (padding_after s c.at) (answered c.at)) (λ q. member_step s q)))
      next true padded = tt
      next false true = padding (padding_after s c.at) (padding-on s c.at)
      next false false = member-steps c.at

      go : (a b d e g : Bool) → Steps s c.at (pick a (counted_step type_index type_element 0x1201 s c.at c.left) (pick b (method_step s c.at) (pick d (next_member s c.at c.left c.padded)
          (pick e (counted_step id id_element 0x1603 s c.at c.left) (pick g (counted_step type_index type_element 0x1604 s c.at c.left) (refused 10 (c.leaf ∷ [])))))))
      go true b d e g = types 0x1201
      go false true d e g = read-steps (leb (length s) c.at) c.at 2 (read_fields method 0 s c.at) method_element (λ vs e. to_the_end 0x1206 e) (λ vs e. refl) (omega arith) (method-on s c.at)
      go false false true e g = next (eqb c.left 0) c.padded
      go false false false true g = read-steps (eqb c.left 0) c.at 4 (read_fields (id ∷ []) 0 s c.at) id_element (λ vs e. in_counted 0x1603 e (c.left - 1)) (λ vs e. refl) (omega arith) (id-on s c.at)
      go false false false false true = types 0x1604
      go false false false false false = tt
