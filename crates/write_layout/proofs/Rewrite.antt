-- Whatever is read can be written: a field that read as v is not refused, so that 17 is for what no bytes read as. Assumes nothing.
use Rattle.std.specs.Prelude.{Option, None, Some}
use Prim.Native.Nat.{ℕ, zero, suc, ◌+◌, ◌-◌, ◌^◌, ◌≤◌, ◌<◌}
use native.Mathlib.Omega.{arith}
use mathlib.Core.Bool.{Bool, true, false}
use mathlib.Core.Path.{◌≡◌, refl, ap}
use mathlib.Core.List.{List, [], ◌∷◌, ◌++◌, append-nil}
use lib.ListN.{length, take, drop, length-drop}
use lib.Dec.{ltb, eqb}
use lib.IntN.{ℤ, pos, negsuc}
use borrow.Author.Tests.{le-leb, lt-ltb, ltb-false, eq-eqb}
use Rattle.answer.specs.Answer.{Answer, answered, refused, Read, got, pick, stop, then, and_then}
use Rattle.answer.specs.Tables.{find, among}
use Rattle.field.specs.Fields.{fixed_at}
use Rattle.field.specs.Bytes.{bytes}
use Rattle.field.specs.Indices.{no_type, no_id, optional_of, optional_at}
use Rattle.field.specs.Runs.{bytes_after}
use Rattle.field.proofs.FieldLaws.{field-got, little-below}
use Rattle.field_text.specs.Texts.{Part, to_zero, part_or, string_at}
use Rattle.field_number.specs.Numbers.{numeric_at, natural, size_at}
use Rattle.field_number.specs.Forms.{form_of, shortest, Numeral, numeral_by, sized_by, AllBytes}
use Rattle.field_number.proofs.FormLaws.{refusal, read-carried}
use Rattle.record_layout.specs.Fields.{Value, Shown, number, numeral, absent, many, or_absent, Field, fixed, type, id, string_reference, optional_type, optional_id, word, gap, numeric, size, string, run, methods, members, when, run_bytes, word_after, read_field_by, read_fields_by, unsaid}
use Rattle.record_layout.specs.Layouts.{Layout, Table, read_leaf, leaf_of, record_of}
use Rattle.record_layout.specs.Layouts as reading
use Rattle.write_layout.specs.Runs.{part_at, no_zero}
use Rattle.write_layout.specs.Fields.{ToWrite, bytes_in, given, given_all, Encoded, bad, only, of_number, of_numeral, of_absent, of_many, fixed_bytes, optional_bytes, numeric_bytes, size_bytes, string_bytes, write_field, and_also, write_fields}
use Rattle.write_layout.specs.Records.{write_leaf, filled, record_bytes, write_record}
use Rattle.write_layout.specs.RoundTrip.{AllInBytes, WouldRead, Exactly17}
use Rattle.write_layout.proofs.RunLaws.{part_length}
use Rattle.write_layout.proofs.Back.{same_word}
use Rattle.write_layout.proofs.Octets.{Sound, leaf-sound}
use Rattle.write_layout.proofs.RoundTripProof.{leaf-back}

-- bytes, and no refusal
pub record Answers (b : Encoded) : Type 0 where
  pub out : List ℕ
  pub answer : b ≡ answered out

-- what was read first, and what was made of it
pub record From {A B : Type 0} (a : Read A) (f : A → ℕ → Read B) (v : B) (q : ℕ) : Type 0 where
  pub value : A
  pub place : ℕ
  pub was : a ≡ got value place
  pub gives : f value place ≡ got v q

pub from : {A B : Type 0} (a : Read A) (f : A → ℕ → Read B) (v : B) (q : ℕ) → and_then a f ≡ got v q → From a f v q
from (answered g) f v q e = record { value = g.value; place = g.next; was = refl; gives = e }
from (refused n d) f v q e = refusal e

value_in : {B : Type 0} → B → Read B → B
value_in v (answered g) = g.value
value_in v (refused n d) = v

pub same-value : {B : Type 0} (x v : B) (p q : ℕ) → got x p ≡ got v q → x ≡ v
unfolding value_in
same-value x v p q e = ap (value_in x) e

-- the first byte that is zero
pub record Zero (bs : List ℕ) (m n : ℕ) : Type 0 where
  pub count : ℕ
  pub sum : n ≡ m + count
  pub inside : count < length bs
  pub clean : no_zero (take count bs) ≡ true

none-some : {X : Type 0} {n : ℕ} → ◌≡◌ {A = Option ℕ} None (Some n) → X
none-some {X} {n} h = let z : ◌≡◌ {A = ℕ} 0 1 = cc in absurd (omega arith)

zero-at : (bs : List ℕ) (m n : ℕ) → to_zero bs m ≡ Some n → Zero bs m n
unfolding to_zero no_zero
zero-at [] m n e = none-some e
zero-at (zero ∷ bs) m n e = let f : m ≡ n = cc in record { count = 0; sum = omega arith; inside = omega arith; clean = refl }
zero-at (suc b ∷ bs) m n e =
    let z = zero-at bs (suc m) n e in
    record { count = suc z.count; sum = omega (arith, z.sum); inside = omega (arith, z.inside); clean = z.clean }

module _ {W : Type 0} (form : ℤ → ℕ → W) (s : List ℕ) (small : AllBytes s) (p : ℕ) where
  fits : (k n q : ℕ) → fixed_at k s p ≡ got n q → Answers (fixed_bytes k n)
  unfolding fixed_bytes
  fits k n q e =
      let h : n < 256 ^ k = rw (field-got k s p n q e).value (little-below k s p small) in
      record { out = bytes k n; answer = rw (lt-ltb _ _ h) }

  re-fixed : (k : ℕ) (v : Value Part W) (q : ℕ) → and_then (fixed_at k s p) (λ n e. got (number n) e) ≡ got v q → Answers (of_number (given s v) (fixed_bytes k))
  re-fixed k v q h =
      let u = from (fixed_at k s p) (λ n e. got (number n) e) v q h in
      rw (← same-value (number u.value) v u.place q u.gives) (fits k u.value u.place u.was)

  re-optional : (nones : List ℕ) (v : Value Part W) (q : ℕ) → and_then (optional_at nones s p) (λ o e. got (or_absent o) e) ≡ got v q → Answers (optional_bytes nones (given s v))
  unfolding optional_at optional_of optional_bytes
  re-optional nones v q h =
      let u = from (optional_at nones s p) (λ o e. got (or_absent o) e) v q h in
      let t = from (fixed_at 4 s p) (λ n e. got (optional_of nones n) e) u.value u.place u.was in
      go t.value (among t.value nones) refl u.value (same-value (optional_of nones t.value) u.value t.place u.place t.gives)
      (same-value (or_absent u.value) v u.place q u.gives) (fits 4 t.value t.place t.was)
    where
      go : (n : ℕ) (b : Bool) → among n nones ≡ b → (o : Option ℕ) → optional_of nones n ≡ o → or_absent o ≡ v → Answers (fixed_bytes 4 n) → Answers (optional_bytes nones (given s v))
      go n true e o f g a = record { out = bytes 4 0; answer = rw (← g, ← f, e) }
      go n false e o f g a = record { out = a.out; answer = rw (← g, ← f, e) (rw e a.answer) }

  re-word : (k : ℕ) (good : ℕ → Bool) (v : Value Part W) (q : ℕ) → and_then (fixed_at k s p) (λ n e. pick (good n) (got (number n) e) (refused 12 [])) ≡ got v q
      → Answers (of_number (given s v) (λ n. pick (good n) (fixed_bytes k n) bad))
  re-word k good v q h =
      let u = from (fixed_at k s p) (λ n e. pick (good n) (got (number n) e) (refused 12 [])) v q h in
      go u.value u.place (good u.value) refl u.gives (fits k u.value u.place u.was)
    where
      go : (n e : ℕ) (b : Bool) → good n ≡ b → pick b (got (number n) e) (refused 12 []) ≡ got v q → Answers (fixed_bytes k n)
          → Answers (of_number (given s v) (λ n. pick (good n) (fixed_bytes k n) bad))
      go n e true g f a = record { out = a.out; answer = rw (← same-value (number n) v e q f, g) a.answer }
      go n e false g f a = refusal f

  re-gap : (k : ℕ) (v : Value Part W) (q : ℕ) → and_then (fixed_at k s p) (λ n e. got absent e) ≡ got v q → Answers (of_absent (given s v) (answered (bytes k 0)))
  re-gap k v q h =
      let u = from (fixed_at k s p) (λ n e. got absent e) v q h in
      record { out = bytes k 0; answer = rw (← same-value absent v u.place q u.gives) }

  re-absent : (v : Value Part W) (q : ℕ) → got absent p ≡ got v q → Answers (of_absent (given s v) (answered []))
  re-absent v q h = record { out = []; answer = rw (← same-value absent v p q h) }

  -- a numeric leaf is carried
  carries : (z : ℤ) (q : ℕ) → numeric_at s p ≡ got z q → Answers (numeric_bytes z)
  unfolding numeric_bytes
  carries z q h = record { out = shortest z; answer = rw (read-carried s p z q small h) }

  re-numeric : (v : Value Part W) (q : ℕ) → and_then (numeral_by form s p) (λ x e. got (numeral x.value x.form) e) ≡ got v q → Answers (of_numeral (given s v) numeric_bytes)
  unfolding numeral_by
  re-numeric v q h =
      let u = from (numeral_by form s p) (λ x e. got (numeral x.value x.form) e) v q h in
      let t = from (numeric_at s p) (λ z e. got {A = Numeral ℤ W} (record { value = z; form = form z (e - p) }) e) u.value u.place u.was in
      let x = same-value (record { value = t.value; form = form t.value (t.place - p) }) u.value t.place u.place t.gives in
      let y = same-value (numeral u.value.value u.value.form) v u.place q u.gives in
      rw (← y, ← x) (carries t.value t.place t.was)

  re-size : (v : Value Part W) (q : ℕ) → and_then (sized_by form s p) (λ x e. got (numeral (pos x.value) x.form) e) ≡ got v q → Answers (of_numeral (given s v) size_bytes)
  unfolding sized_by size_at size_bytes
  re-size v q h =
      let u = from (sized_by form s p) (λ x e. got (numeral (pos x.value) x.form) e) v q h in
      let t = from (size_at s p) (λ n e. got {A = Numeral ℕ W} (record { value = n; form = form (pos n) (e - p) }) e) u.value u.place u.was in
      let x = same-value (record { value = t.value; form = form (pos t.value) (t.place - p) }) u.value t.place u.place t.gives in
      let y = same-value (numeral (pos u.value.value) u.value.form) v u.place q u.gives in
      let r = from (numeric_at s p) natural t.value t.place t.was in
      rw (← y, ← x) (sign r.value r.place t.value t.place r.gives (carries r.value r.place r.was))
    where
      sign : (z : ℤ) (e n q : ℕ) → natural z e ≡ got n q → Answers (numeric_bytes z) → Answers (numeric_bytes (pos n))
      sign (pos m) e n q f a = rw (← same-value m n e q f) a
      sign (negsuc m) e n q f a = refusal f

  re-string : (v : Value Part W) (q : ℕ) → and_then (string_at s p) (λ x e. got (many x) e) ≡ got v q → Answers (of_many (given s v) string_bytes)
  unfolding string_at string_bytes bytes_in part_at
  re-string v q h =
      let u = from (string_at s p) (λ x e. got (many x) e) v q h in
      go (to_zero (drop p s) 0) refl u.value u.place u.was (same-value (many u.value) v u.place q u.gives)
    where
      go : (o : Option ℕ) → to_zero (drop p s) 0 ≡ o → (x : Part) (e : ℕ) → part_or o p ≡ got x e → many x ≡ v → Answers (of_many (given s v) string_bytes)
      go None f x e g i = refusal g
      go (Some n) f x e g i =
          let z = zero-at (drop p s) 0 n f in
          let j = same-value (record { place = p; length = n }) x (p + n + 1) e g in
          let c : z.count ≡ n = omega (arith, z.sum) in
          let r : p + n ≤ length s = omega (arith, length-drop p s, z.inside) in
          record { out = take n (drop p s) ++ (0 ∷ []); answer = rw (← i, ← j, le-leb _ _ r, ← c, z.clean) }

  re-run : (n : ℕ) (v : Value Part W) (q : ℕ) → then (bytes_after n s p) (λ e. got (many (record { place = p; length = n })) e) ≡ got v q
      → Answers (of_many (given s v) (λ bs. only (eqb (length bs) n) bs))
  unfolding bytes_after bytes_in
  re-run n v q h = go (ltb (length s) (p + n)) refl h
    where
      go : (b : Bool) → ltb (length s) (p + n) ≡ b → then (stop b 1 (answered (p + n))) (λ e. got (many (record { place = p; length = n })) e) ≡ got v q
          → Answers (of_many (given s v) (λ bs. only (eqb (length bs) n) bs))
      go true e f = refusal f
      go false e f =
          let r = ltb-false _ _ e in
          record { out = part_at s p n; answer = rw (← same-value (many (record { place = p; length = n })) v (p + n) q f, le-leb _ _ r, eq-eqb _ _ (part_length s p n r)) }

  re-when : (b : Bool) (f : Field) (w : ℕ) (v : Value Part W) (q : ℕ) → (read_field_by form f w s p ≡ got v q → Answers (write_field f w (given s v)))
      → pick b (read_field_by form f w s p) (got absent p) ≡ got v q → Answers (pick b (write_field f w (given s v)) (of_absent (given s v) (answered [])))
  re-when true f w v q ih h = ih h
  re-when false f w v q ih h = re-absent v q h

  pub re-field : (f : Field) (w : ℕ) (v : Value Part W) (q : ℕ) → read_field_by form f w s p ≡ got v q → Answers (write_field f w (given s v))
  unfolding read_field_by write_field
  re-field (fixed k) w v q h = re-fixed k v q h
  re-field type w v q h = re-fixed 4 v q h
  re-field id w v q h = re-fixed 4 v q h
  re-field string_reference w v q h = re-fixed 4 v q h
  re-field optional_type w v q h = re-optional no_type v q h
  re-field optional_id w v q h = re-optional no_id v q h
  re-field (word k good) w v q h = re-word k good v q h
  re-field (gap k) w v q h = re-gap k v q h
  re-field numeric w v q h = re-numeric v q h
  re-field size w v q h = re-size v q h
  re-field string w v q h = re-string v q h
  re-field (run e) w v q h = re-run (run_bytes e w) v q h
  re-field methods w v q h = re-absent v q h
  re-field members w v q h = re-absent v q h
  re-field (when there f) w v q h = re-when (there w) f w v q (re-field f w v q) h

values-or : {A : Type 0} → A → Answer A → A
values-or v (answered a) = a
values-or v (refused n d) = v

both-answer : (a b : Encoded) → Answers a → Answers b → Answers (and_also a b)
both-answer a b x y = record { out = x.out ++ y.out; answer = rw (x.answer, y.answer) }

pub re-fields : {W : Type 0} (form : ℤ → ℕ → W) (s : List ℕ) → AllBytes s → (fs : List Field) (w p : ℕ) (vs : List (Value Part W)) (q : ℕ) → read_fields_by form fs w s p ≡ got vs q
    → Answers (write_fields fs w (given_all s vs))
unfolding read_fields_by write_fields
re-fields form s small [] w p vs q h = record { out = []; answer = rw (← same-value [] vs p q h) }
re-fields form s small (f ∷ fs) w p vs q h =
    let u = from (read_field_by form f w s p) (λ v e. and_then (read_fields_by form fs (word_after f v w) s e) (λ vs e. got (v ∷ vs) e)) vs q h in
    let v = u.value in
    let t = from (read_fields_by form fs (word_after f v w) s u.place) (λ vs e. got (v ∷ vs) e) vs q u.gives in
    let x = re-field form s small p f w v u.place u.was in
    let y = re-fields form s small fs (word_after f v w) u.place t.value t.place t.was in
    rw (← same-value (v ∷ t.value) vs t.place q t.gives) (both-answer (write_field f w (given s v)) (write_fields fs (word_after f (given s v) w) (given_all s t.value)) x (rw (same_word s f v w) y))

-- Records ---------------------------------------------------------------------------------------------------------------------------

no_answer : {X : Type 0} {A : Type 0} {n : ℕ} {d : List ℕ} {a : A} → ◌≡◌ {A = Answer A} (refused n d) (answered a) → X
no_answer {X} {A} {n} {d} {a} h = let z : ◌≡◌ {A = ℕ} 0 1 = cc in absurd (omega arith)

by_layout : (table : Table) (s : List ℕ) → AllBytes s → (leaf p : ℕ) (l : Option Layout) → find leaf table ≡ l → Answers (fixed_bytes 2 leaf) → (values : List Shown)
    → and_then (reading.by_layout l leaf s p) (λ vs e. answered vs) ≡ answered values → Answers (write_leaf table (given_all s values))
unfolding write_leaf values-or
by_layout table s small leaf p None f a values h = no_answer h
by_layout table s small leaf p (Some fs) f a values h = go (read_fields_by form_of fs 0 s p) refl h
  where
    go : (r : Read (List Shown)) → read_fields_by form_of fs 0 s p ≡ r → and_then (and_then r (λ vs e. got (number leaf ∷ vs) e)) (λ vs e. answered vs) ≡ answered values
        → Answers (write_leaf table (given_all s values))
    go (refused n d) e g = no_answer g
    go (answered x) e g =
        let i : number leaf ∷ x.value ≡ values = ap (λ (r : Answer (List Shown)). values-or values r) g in
        let y = re-fields form_of s small fs 0 p x.value x.next e in
        rw (← i, f) (both-answer (fixed_bytes 2 leaf) (write_fields fs 0 (given_all s x.value)) a y)

pub re-record : (table : Table) (s : List ℕ) → AllBytes s → (values : List Shown) → record_of table s ≡ answered values → Answers (write_leaf table (given_all s values))
unfolding record_of leaf_of read_leaf
re-record table s small values h = go (fixed_at 2 s 0) refl h
  where
    go : (r : Read ℕ) → fixed_at 2 s 0 ≡ r → and_then r (λ leaf p. and_then (reading.by_layout (find leaf table) leaf s p) (λ vs e. answered vs)) ≡ answered values
        → Answers (write_leaf table (given_all s values))
    go (refused n d) e g = no_answer g
    go (answered x) e g = by_layout table s small x.value x.next (find x.value table) refl (fits unsaid s small 0 2 x.value x.next e) values g

-- 17 is for no other values
refused-not : (table : Table) (vs : List ToWrite) → write_record table vs ≡ bad → WouldRead table vs → ⊥
unfolding write_record record_bytes
refused-not table vs h r =
    let a = re-record table r.payload r.small r.values r.read in
    let e : write_leaf table vs ≡ answered a.out = rw (← r.same) a.answer in
    go _ (ltb 65535 (length (filled a.out))) (rw e at h)
  where
    go : (bs : List ℕ) (c : Bool) → ◌≡◌ {A = Encoded} (stop c 18 (answered bs)) bad → ⊥
    go bs true f = let z : ◌≡◌ {A = ℕ} 18 17 = cc in absurd (omega arith)
    go bs false f = let z : ◌≡◌ {A = ℕ} 0 1 = cc in absurd (omega arith)

-- and for all of them: bytes that were written read back
would-read : (table : Table) (vs : List ToWrite) → AllInBytes vs → (WouldRead table vs → ⊥) → write_leaf table vs ≡ bad
would-read table vs i f = go (write_leaf table vs) refl (leaf-sound table vs i)
  where
    go : (b : Encoded) → write_leaf table vs ≡ b → Sound b → b ≡ bad
    go (refused n d) e s = s
    go (answered bs) e s =
        let l = leaf-back table vs bs [] e in
        let n : bs ++ [] ≡ bs = append-nil bs in
        absurd (f (record { payload = bs ++ []; small = rw n s; values = l.values; read = l.read; same = l.shows }))

pub exactly-17 : Exactly17
exactly-17 = record { refuses = refused-not; only = would-read }
