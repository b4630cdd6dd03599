-- The main law: whatever layout, the bytes with their references moved are read to the same values but for the references, which are
-- renumbered, to the same end, and have the same references, renumbered. Assumes nothing.
use Rattle.std.specs.Prelude.{None, Some}
use Prim.Native.Nat.{ℕ, ◌+◌, ◌≤◌}
use native.Mathlib.Omega.{arith}
use mathlib.Core.Bool.{Bool, true, false}
use mathlib.Core.Path.{◌≡◌, refl, ap, sym, subst}
use mathlib.Core.List.{List, [], ◌∷◌, ◌++◌}
use lib.ListN.{length}
use lib.Dec.{ltb}
use lib.IntN.{pos}
use borrow.Author.Tests.{le-leb, le-ltb, ltb-false}
use Rattle.answer.specs.Answer.{answered, refused, Read, got, pick, stop, then, and_then}
use Rattle.answer.specs.Tables.{among}
use Rattle.field.specs.Fields.{fixed_at}
use Rattle.field.specs.Indices.{no_type, no_id, optional_of, optional_at}
use Rattle.field.specs.Runs.{bytes_after}
use Rattle.field.proofs.FieldLaws.{field-got}
use Rattle.field_text.specs.Texts.{string_at}
use Rattle.field_number.specs.Forms.{form_of, numeral_by, sized_by}
use Rattle.record_layout.specs.Fields.{Shown, number, numeral, absent, many, or_absent, Field, fixed, type, id, string_reference, optional_type, optional_id, word, gap, numeric, size, string, run, methods, members, when, run_bytes, word_after, read_field, read_field_by, read_fields, read_fields_by}
use Rattle.record_layout.specs.Layouts.{Layout}
use Rattle.record_reference.specs.References.{Ref, ref, of_value, refs_field, refs_fields}
use Rattle.record_rewrite.specs.Rewrite.{renamed_all, Within, Stand, Moved, on_number, moved_value, moved_values}
use Rattle.record_reference.proofs.ValueLaws.{no_answer}
use Rattle.record_rewrite.proofs.Taken.{from, same-value, same_place}
use Rattle.record_rewrite.proofs.Settled.{Settled, settled-from, settled_here, settled-map, fixed-settled, string-settled, numeral-settled, sized-settled}
use Rattle.record_rewrite.proofs.Places.{within_both, renamed_both, stand-both, moved-left, moved-right}

pub record Carried {A : Type 0} (f : ℕ → ℕ) (s : List ℕ) (p : ℕ) (v : A) (rs : List Ref) (q : ℕ) (read : List ℕ → Read A) (refs : List ℕ → Read (List Ref)) : Type 0 where
  pub within : Within p rs q
  pub inside : q ≤ length s
  pub stands : Stand s rs
  pub reads : (t : List ℕ) → length t ≡ length s → Moved f s t p rs q → read t ≡ got v q
  pub names : (t : List ℕ) → length t ≡ length s → Moved f s t p rs q → refs t ≡ got (renamed_all f rs) q

-- what does not refer
settled-carried : {A : Type 0} (f : ℕ → ℕ) (s : List ℕ) (p : ℕ) (v : A) (q : ℕ) (read : List ℕ → Read A) → Settled s p v q read
    → Carried f s p v [] q read (λ t. got [] q)
unfolding Within Moved Stand renamed_all
settled-carried f s p v q read h = record { within = h.onward; inside = h.inside; stands = tt; reads = λ t l m. h.alike t l m; names = λ t l m. refl }

-- whatever is said of what is made of a value
with_read : {A B : Type 0} (a : Read A) (g : A → B) (v : B) (q : ℕ) (P : B → Type 0) → and_then a (λ x e. got (g x) e) ≡ got v q → ((x : A) → a ≡ got x q → P (g x)) → P v
with_read (answered x) g v q P h k = subst P (same-value (g x.value) v x.next q h) (k x.value (ap (got x.value) (same_place (g x.value) v x.next q h)))
with_read (refused n d) g v q P h k = no_answer h

false-true : {X : Type 0} → false ≡ true → X
false-true e = let z : ◌≡◌ {A = ℕ} 0 1 = cc in absurd (omega arith)

module _ (f : ℕ → ℕ) (s : List ℕ) (p : ℕ) where
  one-carried : (o : Bool) (n q : ℕ) (read : List ℕ → Read Shown) → (o ≡ true → among n no_type ≡ false) → fixed_at 4 s p ≡ got n q
      → ((t : List ℕ) (m : ℕ) → (o ≡ true → among m no_type ≡ false) → fixed_at 4 t p ≡ got m q → read t ≡ got (number m) q)
      → Carried f s p (number (f n)) (ref p o n ∷ []) q read (λ t. got (ref p o (f n) ∷ []) q)
  unfolding Within Moved Stand renamed_all fixed_at
  one-carried o n q read j h k =
      let g = field-got 4 s p n q h in
      record {
        within = (omega arith, omega (arith, g.next));
        inside = omega (arith, g.next, g.room);
        stands = (record { here = sym g.value; some = j }, tt);
        reads = λ t l m.
            let r : p + 4 ≤ length t = omega (arith, g.room) in
            k t (f n) m.0.some (rw (le-leb _ _ r, m.0.here, g.next));
        names = λ t l m. refl;
      }

  type-carried : (v : Shown) (q : ℕ) → and_then (fixed_at 4 s p) (λ n e. got (number n) e) ≡ got v q
      → Carried f s p (on_number f v) (of_value false p v) q (λ t. and_then (fixed_at 4 t p) (λ n e. got (number n) e)) (λ t. got (of_value false p (on_number f v)) q)
  type-carried v q h =
      with_read (fixed_at 4 s p) number v q
      (λ v. Carried f s p (on_number f v) (of_value false p v) q (λ t. and_then (fixed_at 4 t p) (λ n e. got (number n) e)) (λ t. got (of_value false p (on_number f v)) q)) h
      (λ n e. one-carried false n q _ false-true e (λ t m o i. rw i))

  abbrev optional_read : List ℕ → Read Shown
  optional_read t = and_then (optional_at no_type t p) (λ o e. got (or_absent o) e)

  optional-carried : (v : Shown) (q : ℕ) → optional_read s ≡ got v q
      → Carried f s p (on_number f v) (of_value true p v) q optional_read (λ t. got (of_value true p (on_number f v)) q)
  unfolding optional_at optional_of
  optional-carried v q h =
      with_read (optional_at no_type s p) or_absent v q
      (λ v. Carried f s p (on_number f v) (of_value true p v) q optional_read (λ t. got (of_value true p (on_number f v)) q)) h
      (λ o e. with_read (fixed_at 4 s p) (optional_of no_type) o q
      (λ o. Carried f s p (on_number f (or_absent o)) (of_value true p (or_absent o)) q optional_read (λ t. got (of_value true p (on_number f (or_absent o))) q)) e
      (λ n i. go n i (among n no_type) refl))
    where
      go : (n : ℕ) → fixed_at 4 s p ≡ got n q → (b : Bool) → among n no_type ≡ b
          → Carried f s p (on_number f (or_absent (pick b None (Some n)))) (of_value true p (or_absent (pick b None (Some n)))) q optional_read
          (λ t. got (of_value true p (on_number f (or_absent (pick b None (Some n))))) q)
      go n i true e =
          let a = fixed-settled 4 s p n q i in
          settled-carried f s p absent q optional_read (record { onward = a.onward; inside = a.inside; alike = λ t l m. rw (a.alike t l m, e) })
      go n i false e = one-carried true n q optional_read (λ x. e) i (λ t m o j. rw (j, o refl))

-- a run of elements: its bytes are not looked at
run_settled : (s : List ℕ) (p n : ℕ) (v : Shown) (q : ℕ) → then (bytes_after n s p) (λ e. got (many (record { place = p; length = n })) e) ≡ got v q
    → Settled s p v q (λ t. then (bytes_after n t p) (λ e. got (many (record { place = p; length = n })) e))
unfolding bytes_after
run_settled s p n v q h = go (ltb (length s) (p + n)) refl h
  where
    go : (b : Bool) → ltb (length s) (p + n) ≡ b → then (stop b 1 (answered (p + n))) (λ e. got (many (record { place = p; length = n })) e) ≡ got v q
        → Settled s p v q (λ t. then (stop (ltb (length t) (p + n)) 1 (answered (p + n))) (λ e. got (many (record { place = p; length = n })) e))
    go true e g = no_answer g
    go false e g =
        let r : p + n ≤ length s = ltb-false _ _ e in
        let i : p + n ≡ q = same_place (many (record { place = p; length = n })) v (p + n) q g in
        record { onward = omega arith; inside = omega arith; alike = λ t l m. let k : p + n ≤ length t = omega arith in rw (le-ltb _ _ k) g }

-- Fields ---------------------------------------------------------------------------------------------------------------------------

moved-absent : (f : ℕ → ℕ) (g : Field) → moved_value f g absent ≡ absent
unfolding moved_value
moved-absent f type = refl
moved-absent f optional_type = refl
moved-absent f (when there g) = moved-absent f g
moved-absent f (fixed k) = refl
moved-absent f id = refl
moved-absent f string_reference = refl
moved-absent f optional_id = refl
moved-absent f (word k good) = refl
moved-absent f (gap k) = refl
moved-absent f numeric = refl
moved-absent f size = refl
moved-absent f string = refl
moved-absent f (run e) = refl
moved-absent f methods = refl
moved-absent f members = refl

refs-absent : (g : Field) (p : ℕ) → refs_field g p absent ≡ []
unfolding refs_field
refs-absent type p = refl
refs-absent optional_type p = refl
refs-absent (when there g) p = refs-absent g p
refs-absent (fixed k) p = refl
refs-absent id p = refl
refs-absent string_reference p = refl
refs-absent optional_id p = refl
refs-absent (word k good) p = refl
refs-absent (gap k) p = refl
refs-absent numeric p = refl
refs-absent size p = refl
refs-absent string p = refl
refs-absent (run e) p = refl
refs-absent methods p = refl
refs-absent members p = refl

-- a field that is not there
absent-carried : (f : ℕ → ℕ) (s : List ℕ) (p : ℕ) (g : Field) (v : Shown) (q : ℕ) → p ≤ length s → got absent p ≡ got v q
    → Carried f s p (moved_value f g v) (refs_field g p v) q (λ t. got absent p) (λ t. got (refs_field g p (moved_value f g v)) q)
absent-carried f s p g v q inside h = go v (same-value absent v p q h) h
  where
    go : (v : Shown) → absent ≡ v → got absent p ≡ got v q → Carried f s p (moved_value f g v) (refs_field g p v) q (λ t. got absent p) (λ t. got (refs_field g p (moved_value f g v)) q)
    go v e i = rw (← e, moved-absent f g, refs-absent g p) (settled-carried f s p absent q _ (settled_here s p absent absent q inside (rw (← e) at i)))

module _ (f : ℕ → ℕ) (s : List ℕ) (p : ℕ) (inside : p ≤ length s) where
  plain-number : (k : ℕ) (g : ℕ → ℕ → Shown) (v : Shown) (q : ℕ) → and_then (fixed_at k s p) (λ n e. got (g n e) e) ≡ got v q
      → Carried f s p v [] q (λ t. and_then (fixed_at k t p) (λ n e. got (g n e) e)) (λ t. got [] q)
  plain-number k g v q h = settled-carried f s p v q _ (settled-map s p (λ t. fixed_at k t p) g v q (fixed-settled k s p) h)

  plain-id : (v : Shown) (q : ℕ) → and_then (optional_at no_id s p) (λ o e. got (or_absent o) e) ≡ got v q
      → Carried f s p v [] q (λ t. and_then (optional_at no_id t p) (λ o e. got (or_absent o) e)) (λ t. got [] q)
  unfolding optional_at
  plain-id v q h =
      settled-carried f s p v q _ (settled-map s p (λ t. optional_at no_id t p) (λ o e. or_absent o) v q
      (λ o m i. settled-map s p (λ t. fixed_at 4 t p) (λ n e. optional_of no_id n) o m (fixed-settled 4 s p) i) h)

  plain_word : (k : ℕ) (good : ℕ → Bool) (v : Shown) (q : ℕ) → and_then (fixed_at k s p) (λ n e. pick (good n) (got (number n) e) (refused 12 [])) ≡ got v q
      → Carried f s p v [] q (λ t. and_then (fixed_at k t p) (λ n e. pick (good n) (got (number n) e) (refused 12 []))) (λ t. got [] q)
  plain_word k good v q h =
      settled-carried f s p v q _ (settled-from s p (λ t. fixed_at k t p) (λ t n e. pick (good n) (got (number n) e) (refused 12 [])) v q (fixed-settled k s p)
      (λ n e l g. go n e (good n) l g) h)
    where
      go : (n e : ℕ) (b : Bool) → e ≤ length s → pick b (got (number n) e) (refused 12 []) ≡ got v q → Settled s e v q (λ t. pick b (got (number n) e) (refused 12 []))
      go n e true l g = settled_here s e (number n) v q l g
      go n e false l g = no_answer g

  nothing : (v : Shown) (q : ℕ) → got absent p ≡ got v q → Carried f s p v [] q (λ t. got absent p) (λ t. got [] q)
  nothing v q h = settled-carried f s p v q _ (settled_here s p absent v q inside h)

  pub field-carried : (g : Field) (w : ℕ) (v : Shown) (q : ℕ) → read_field g w s p ≡ got v q
      → Carried f s p (moved_value f g v) (refs_field g p v) q (λ t. read_field g w t p) (λ t. got (refs_field g p (moved_value f g v)) q)
  unfolding read_field_by refs_field moved_value
  field-carried type w v q h = type-carried f s p v q h
  field-carried optional_type w v q h = optional-carried f s p v q h
  field-carried (run e) w v q h = settled-carried f s p v q _ (run_settled s p (run_bytes e w) v q h)
  field-carried (fixed k) w v q h = plain-number k (λ n e. number n) v q h
  field-carried id w v q h = plain-number 4 (λ n e. number n) v q h
  field-carried string_reference w v q h = plain-number 4 (λ n e. number n) v q h
  field-carried optional_id w v q h = plain-id v q h
  field-carried (word k good) w v q h = plain_word k good v q h
  field-carried (gap k) w v q h = plain-number k (λ n e. absent) v q h
  field-carried numeric w v q h =
      settled-carried f s p v q _ (settled-map s p (λ t. numeral_by form_of t p) (λ x e. numeral x.value x.form) v q (numeral-settled s p) h)
  field-carried size w v q h =
      settled-carried f s p v q _ (settled-map s p (λ t. sized_by form_of t p) (λ x e. numeral (pos x.value) x.form) v q (sized-settled s p) h)
  field-carried string w v q h = settled-carried f s p v q _ (settled-map s p (λ t. string_at t p) (λ x e. many x) v q (string-settled s p) h)
  field-carried methods w v q h = nothing v q h
  field-carried members w v q h = nothing v q h
  field-carried (when there g) w v q h = go (there w) h (field-carried g w v q)
    where
      go : (b : Bool) → pick b (read_field_by form_of g w s p) (got absent p) ≡ got v q
          → (read_field_by form_of g w s p ≡ got v q
          → Carried f s p (moved_value f g v) (refs_field g p v) q (λ t. read_field_by form_of g w t p) (λ t. got (refs_field g p (moved_value f g v)) q))
          → Carried f s p (moved_value f g v) (refs_field g p v) q (λ t. pick b (read_field_by form_of g w t p) (got absent p)) (λ t. got (refs_field g p (moved_value f g v)) q)
      go true h ih = ih h
      go false h ih = absent-carried f s p g v q inside h

-- Layouts --------------------------------------------------------------------------------------------------------------------------

-- the word is no reference
pub same_word : (f : ℕ → ℕ) (g : Field) (v : Shown) (w : ℕ) → word_after g (moved_value f g v) w ≡ word_after g v w
unfolding moved_value
same_word f (word k good) v w = refl
same_word f (fixed k) v w = refl
same_word f type v w = refl
same_word f id v w = refl
same_word f string_reference v w = refl
same_word f optional_type v w = refl
same_word f optional_id v w = refl
same_word f (gap k) v w = refl
same_word f numeric v w = refl
same_word f size v w = refl
same_word f string v w = refl
same_word f (run e) v w = refl
same_word f methods v w = refl
same_word f members v w = refl
same_word f (when there g) v w = refl

-- the references of what is read, and what becomes of it; the first k bytes are none of theirs
pub record Owned {A : Type 0} (f : ℕ → ℕ) (s : List ℕ) (k p : ℕ) (v : A) (e : ℕ) (read : List ℕ → Read A) (refs_in : List ℕ → Read (List Ref)) : Type 0 where
  pub refs : List Ref
  pub are : refs_in s ≡ got refs e
  pub free : Within (p + k) refs e
  pub carried : Carried f s p v refs e read refs_in

abbrev pub Fields : (ℕ → ℕ) → Layout → ℕ → List ℕ → ℕ → List Shown → ℕ → Type 0
Fields f fs w s p vs e = Owned f s 0 p (moved_values f fs vs) e (λ t. read_fields fs w t p) (λ t. refs_fields fs w t p)

module _ (f : ℕ → ℕ) (s : List ℕ) where
  fields-of : (fs : Layout) (w p : ℕ) (vs : List Shown) (e : ℕ) (rs : List Ref) → refs_fields fs w s p ≡ got rs e
      → Carried f s p (moved_values f fs vs) rs e (λ t. read_fields fs w t p) (λ t. refs_fields fs w t p) → Fields f fs w s p vs e
  fields-of fs w p vs e rs h c = let z : p + 0 ≡ p = omega arith in record { refs = rs; are = h; free = rw z c.within; carried = c }

  fields-none : (w p : ℕ) → p ≤ length s → Fields f [] w s p [] p
  unfolding read_fields_by refs_fields moved_values
  fields-none w p l = fields-of [] w p [] p [] refl (settled-carried f s p [] p (λ t. got [] p) (settled_here s p [] [] p l refl))

  fields-more : (g : Field) (gs : Layout) (w p : ℕ) (v : Shown) (m : ℕ) (vs : List Shown) (e : ℕ) → p ≤ length s → read_field g w s p ≡ got v m
      → (m ≤ length s → Fields f gs (word_after g v w) s m vs e) → Fields f (g ∷ gs) w s p (v ∷ vs) e
  unfolding read_fields_by refs_fields moved_values
  fields-more g gs w p v m vs e l h k =
      let one = field-carried f s p l g w v m h in
      let rest = k one.inside in
      let more = rest.carried in
      let a = refs_field g p v in
      let b = rest.refs in
      fields-of (g ∷ gs) w p (v ∷ vs) e (a ++ b) (rw (h, rest.are)) (record {
        within = within_both a b p m e one.within more.within;
        inside = more.inside;
        stands = stand-both s a b one.stands more.stands;
        reads = λ t i n.
            rw (
              one.reads t i (moved-left f s t a b p m e one.within more.within n),
              same_word f g v w,
              more.reads t i (moved-right f s t a b p m e one.within n),
            );
        names = λ t i n.
            let left = moved-left f s t a b p m e one.within more.within n in
            let x : refs_field g p (moved_value f g v) ≡ renamed_all f a = same-value _ _ m m (one.names t i left) in
            rw (one.reads t i left, same_word f g v w, more.names t i (moved-right f s t a b p m e one.within n), x, renamed_both f a b);
      })

  pub fields-carried : (fs : Layout) (w p : ℕ) (vs : List Shown) (e : ℕ) → p ≤ length s → read_fields fs w s p ≡ got vs e → Fields f fs w s p vs e
  unfolding read_fields_by
  fields-carried [] w p vs e l h = go vs e (same-value [] vs p e h) (same_place [] vs p e h)
    where
      go : (vs : List Shown) (e : ℕ) → [] ≡ vs → p ≡ e → Fields f [] w s p vs e
      go vs e x y = rw (← x, ← y) (fields-none w p l)
  fields-carried (g ∷ gs) w p vs e l h =
      let u = from (read_field g w s p) (λ v q. and_then (read_fields gs (word_after g v w) s q) (λ vs e. got (v ∷ vs) e)) _ h in
      let t = from (read_fields gs (word_after g u.value w) s u.place) (λ vs e. got (u.value ∷ vs) e) _ u.gives in
      go t.value t.place vs e (same-value (u.value ∷ t.value) vs t.place e t.gives) (same_place (u.value ∷ t.value) vs t.place e t.gives)
      (fields-more g gs w p u.value u.place t.value t.place l u.was
      (λ i. fields-carried gs (word_after g u.value w) u.place t.value t.place i t.was))
    where
      go : {v : Shown} (vs : List Shown) (d : ℕ) (us : List Shown) (e : ℕ) → v ∷ vs ≡ us → d ≡ e → Fields f (g ∷ gs) w s p (v ∷ vs) d → Fields f (g ∷ gs) w s p us e
      go {v} vs d us e x y z = rw (← x, ← y) z
