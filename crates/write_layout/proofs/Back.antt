-- What is written by a layout reads back by it: `back`, for every layout at once, whatever is said of a number's form. Assumes nothing.
use Rattle.std.specs.Prelude.{None, Some}
use Prim.Native.Nat.{ℕ, zero, suc, ◌+◌, ◌-◌, ◌^◌}
use native.Mathlib.Omega.{arith}
use native.Mathlib.Nat.{zero-add}
use mathlib.Core.Bool.{Bool, true, false}
use mathlib.Core.Path.{◌≡◌, refl, ap, sym, ◌∙◌}
use mathlib.Core.List.{List, [], ◌∷◌, ◌++◌, append_assoc}
use lib.ListN.{length, drop, length-append}
use lib.Seq.{take-append_seam}
use lib.Dec.{ltb, eqb}
use lib.IntN.{ℤ, pos, negsuc}
use borrow.Author.Tests.{le-leb, le-ltb, ltb-true, eqb-true}
use Rattle.answer.specs.Answer.{answered, refused, Read, got, pick, then, and_then}
use Rattle.answer.specs.Tables.{among}
use Rattle.field.specs.Fields.{fixed_at}
use Rattle.field.specs.Bytes.{bytes}
use Rattle.field.specs.Indices.{no_type, no_id, optional_of, optional_at}
use Rattle.field.specs.Runs.{bytes_after}
use Rattle.field.proofs.ByteLaws.{Stands, first, next, room, fixed_back}
use Rattle.field_put.proofs.PutLaws.{pow_pos}
use Rattle.field_text.specs.Texts.{Part, to_zero, string_at}
use Rattle.field_number.specs.Numbers.{numeric_at, size_at}
use Rattle.field_number.specs.Forms.{shortest, carried, numeral_by, sized_by}
use Rattle.field_number.proofs.FormLaws.{numeric-back}
use Rattle.record_layout.specs.Fields.{Value, number, numeral, absent, many, or_absent, Field, fixed, type, id, string_reference, optional_type, optional_id, word, gap, numeric, size, string, run, methods, members, when, run_bytes, word_after, read_field_by, read_fields_by}
use Rattle.write_layout.specs.Runs.{part_at, no_zero}
use Rattle.write_layout.specs.Fields.{ToWrite, bytes_in, given, given_all, Encoded, bad, only, of_number, of_numeral, of_absent, of_many, fixed_bytes, optional_bytes, numeric_bytes, size_bytes, string_bytes, write_field, and_also, write_fields}
use Rattle.write_layout.specs.RoundTrip.{InShortest, AllInShortest}

-- From an answer back to its tests ------------------------------------------------------------------------------------------

never : {X : Type 0} → false ≡ true → X
never h = let z : ◌≡◌ {A = ℕ} 0 1 = cc in absurd (omega arith)

pub refusal : {X : Type 0} {n : ℕ} {d bs : List ℕ} → ◌≡◌ {A = Encoded} (refused n d) (answered bs) → X
refusal {X} {n} {d} {bs} h = let z : ◌≡◌ {A = ℕ} 0 1 = cc in absurd (omega arith)

-- the test passed, and the bytes are these
pub record Passed (test : Bool) (xs bs : List ℕ) : Type 0 where
  pub test_is : test ≡ true
  pub bytes_are : xs ≡ bs

pub passed : (test : Bool) (xs bs : List ℕ) → only test xs ≡ answered bs → Passed test xs bs
passed true xs bs h = record { test_is = refl; bytes_are = cc }
passed false xs bs h = refusal h

-- both parts were written
pub record Both (a b : Encoded) (bs : List ℕ) : Type 0 where
  pub first_bytes : List ℕ
  pub more_bytes : List ℕ
  pub first_is : a ≡ answered first_bytes
  pub more_is : b ≡ answered more_bytes
  pub all_are : first_bytes ++ more_bytes ≡ bs

pub written_both : (a b : Encoded) (bs : List ℕ) → and_also a b ≡ answered bs → Both a b bs
written_both (answered x) (answered y) bs h = record { first_bytes = x; more_bytes = y; first_is = refl; more_is = refl; all_are = cc }
written_both (answered x) (refused n d) bs h = refusal h
written_both (refused n d) b bs h = refusal h

-- a string
zero-back : (bs ys : List ℕ) (n : ℕ) → no_zero bs ≡ true → to_zero (bs ++ 0 ∷ ys) n ≡ Some (n + length bs)
unfolding to_zero no_zero
zero-back [] ys n h = ap Some (omega arith)
zero-back (zero ∷ bs) ys n h = never h
zero-back (suc b ∷ bs) ys n h = zero-back bs ys (suc n) h ∙ ap Some (omega arith)

-- a part that stands in s shows its bytes
part-back : (s : List ℕ) (p : ℕ) (xs ys : List ℕ) → Stands s p xs ys → bytes_in s (record { place = p; length = length xs }) ≡ Some xs
unfolding bytes_in part_at
part-back s p xs ys st = rw (le-leb _ _ (room s p xs ys st.inside st.here), st.here, take-append_seam xs ys)

-- Fields -----------------------------------------------------------------------------------------------------------------------

-- reading gave a value that shows v, and stands after the bytes bs
pub record Back {W : Type 0} (form : ℤ → ℕ → W) (s : List ℕ) (p : ℕ) (bs : List ℕ) (r : Read (Value Part W)) (v : ToWrite) : Type 0 where
  pub value : Value Part W
  pub read : r ≡ got value (p + length bs)
  pub shows : given s value ≡ v
  pub form_is : InShortest form value

module _ {W : Type 0} (form : ℤ → ℕ → W) (s : List ℕ) (p : ℕ) (bs ys : List ℕ) (st : Stands s p bs ys) where
  fixed-here : (k n : ℕ) → fixed_bytes k n ≡ answered bs → fixed_at k s p ≡ got n (p + length bs)
  unfolding fixed_bytes
  fixed-here k n w =
      let a = passed (ltb n (256 ^ k)) (bytes k n) bs w in
      let st' : Stands s p (bytes k n) ys = rw a.bytes_are st in
      rw (fixed_back k n s p ys (ltb-true _ _ a.test_is) st', a.bytes_are)

  zero-here : (k : ℕ) → answered (bytes k 0) ≡ answered bs → fixed_at k s p ≡ got 0 (p + length bs)
  zero-here k w =
      let e : bytes k 0 ≡ bs = cc in
      let st' : Stands s p (bytes k 0) ys = rw e st in
      rw (fixed_back k 0 s p ys (pow_pos k) st', e)

  -- a number of k bytes, whatever is made of it
  number-back : (k n : ℕ) (f : ℕ → ℕ → Read (Value Part W)) (v : Value Part W) → fixed_bytes k n ≡ answered bs → ((q : ℕ) → f n q ≡ got v q)
      → and_then (fixed_at k s p) f ≡ got v (p + length bs)
  number-back k n f v w g = rw (fixed-here k n w) (g _)

  zero-number-back : (k : ℕ) (f : ℕ → ℕ → Read (Value Part W)) (v : Value Part W) → answered (bytes k 0) ≡ answered bs → ((q : ℕ) → f 0 q ≡ got v q)
      → and_then (fixed_at k s p) f ≡ got v (p + length bs)
  zero-number-back k f v w g = rw (zero-here k w) (g _)

  back-fixed : (k : ℕ) (v : ToWrite) → of_number v (fixed_bytes k) ≡ answered bs → Back form s p bs (and_then (fixed_at k s p) (λ n q. got (number n) q)) v
  back-fixed k (number n) w = record { value = number n; read = number-back k n _ _ w (λ q. refl); shows = refl; form_is = tt }
  back-fixed k (numeral z u) w = refusal w
  back-fixed k absent w = refusal w
  back-fixed k (many x) w = refusal w

  back-optional : (nones : List ℕ) → among 0 nones ≡ true → (v : ToWrite) → optional_bytes nones v ≡ answered bs
      → Back form s p bs (and_then (optional_at nones s p) (λ o q. got (or_absent o) q)) v
  unfolding optional_bytes optional_at optional_of
  back-optional nones z (number n) w = go (among n nones) refl w
    where
      go : (b : Bool) → among n nones ≡ b → pick b bad (fixed_bytes 4 n) ≡ answered bs
          → Back form s p bs (and_then (and_then (fixed_at 4 s p) (λ m q. got (pick (among m nones) None (Some m)) q)) (λ o q. got (or_absent o) q)) (number n)
      go true e f = refusal f
      go false e f = record { value = number n; read = rw (fixed-here 4 n f, e); shows = refl; form_is = tt }
  back-optional nones z (numeral x u) w = refusal w
  back-optional nones z absent w = record { value = absent; read = rw (zero-here 4 w, z); shows = refl; form_is = tt }
  back-optional nones z (many x) w = refusal w

  back-word : (k : ℕ) (good : ℕ → Bool) (v : ToWrite) → of_number v (λ n. pick (good n) (fixed_bytes k n) bad) ≡ answered bs
      → Back form s p bs (and_then (fixed_at k s p) (λ n q. pick (good n) (got (number n) q) (refused 12 []))) v
  back-word k good (number n) w = go (good n) refl w
    where
      go : (b : Bool) → good n ≡ b → pick b (fixed_bytes k n) bad ≡ answered bs
          → Back form s p bs (and_then (fixed_at k s p) (λ m q. pick (good m) (got (number m) q) (refused 12 []))) (number n)
      go true e f = record { value = number n; read = number-back k n _ _ f (λ q. rw e); shows = refl; form_is = tt }
      go false e f = refusal f
  back-word k good (numeral z u) w = refusal w
  back-word k good absent w = refusal w
  back-word k good (many x) w = refusal w

  back-gap : (k : ℕ) (v : ToWrite) → of_absent v (answered (bytes k 0)) ≡ answered bs → Back form s p bs (and_then (fixed_at k s p) (λ n q. got absent q)) v
  back-gap k (number n) w = refusal w
  back-gap k (numeral z u) w = refusal w
  back-gap k absent w = record { value = absent; read = zero-number-back k _ _ w (λ q. refl); shows = refl; form_is = tt }
  back-gap k (many x) w = refusal w

  -- a numeric leaf in its shortest form, and one that may not be negative
  numeric-here : (z : ℤ) → numeric_bytes z ≡ answered bs → (numeric_at s p ≡ got z (p + length bs)) × (length bs ≡ length (shortest z))
  unfolding numeric_bytes
  numeric-here z w =
      let a = passed (carried z) (shortest z) bs w in
      let st' : Stands s p (shortest z) ys = rw a.bytes_are st in
      (rw (numeric-back s p ys z a.test_is st', a.bytes_are), ap length (sym a.bytes_are))

  back-numeric : (v : ToWrite) → of_numeral v numeric_bytes ≡ answered bs
      → Back form s p bs (and_then (numeral_by form s p) (λ x q. got (numeral x.value x.form) q)) v
  unfolding numeral_by
  back-numeric (number n) w = refusal w
  back-numeric (numeral z u) w =
      let a = numeric-here z w in
      let l : p + length bs - p ≡ length (shortest z) = omega (arith, a.1) in
      record { value = numeral z (form z (length (shortest z))); read = rw (a.0, l); shows = refl; form_is = refl }
  back-numeric absent w = refusal w
  back-numeric (many x) w = refusal w

  back-size : (v : ToWrite) → of_numeral v size_bytes ≡ answered bs
      → Back form s p bs (and_then (sized_by form s p) (λ x q. got (numeral (pos x.value) x.form) q)) v
  unfolding sized_by size_at size_bytes
  back-size (number n) w = refusal w
  back-size (numeral (pos n) u) w =
      let a = numeric-here (pos n) w in
      let l : p + length bs - p ≡ length (shortest (pos n)) = omega (arith, a.1) in
      record { value = numeral (pos n) (form (pos n) (length (shortest (pos n)))); read = rw (a.0, l); shows = refl; form_is = refl }
  back-size (numeral (negsuc n) u) w = refusal w
  back-size absent w = refusal w
  back-size (many x) w = refusal w

  back-string : (v : ToWrite) → of_many v string_bytes ≡ answered bs → Back form s p bs (and_then (string_at s p) (λ x q. got (many x) q)) v
  unfolding string_bytes string_at
  back-string (number n) w = refusal w
  back-string (numeral z u) w = refusal w
  back-string absent w = refusal w
  back-string (many None) w = refusal w
  back-string (many (Some xs)) w =
      let a = passed (no_zero xs) (xs ++ (0 ∷ [])) bs w in
      let st' : Stands s p (xs ++ (0 ∷ [])) ys = rw a.bytes_are st in
      let e : drop p s ≡ xs ++ 0 ∷ ys = st'.here ∙ append_assoc xs (0 ∷ []) ys in
      let z : to_zero (drop p s) 0 ≡ Some (length xs) = rw e (zero-back xs ys 0 a.test_is ∙ ap Some (zero-add (length xs))) in
      let l : p + length xs + 1 ≡ p + length bs = omega (arith, length-append xs (0 ∷ []), ap length a.bytes_are) in
      record {
        value = many (record { place = p; length = length xs });
        read = rw (z, l);
        shows = ap many (part-back s p xs (0 ∷ ys) (first s p xs (0 ∷ []) ys st'));
        form_is = tt;
      }

  back-run : (n : ℕ) (v : ToWrite) → of_many v (λ xs. only (eqb (length xs) n) xs) ≡ answered bs
      → Back form s p bs (then (bytes_after n s p) (λ q. got (many (record { place = p; length = n })) q)) v
  unfolding bytes_after
  back-run n (number m) w = refusal w
  back-run n (numeral z u) w = refusal w
  back-run n absent w = refusal w
  back-run n (many None) w = refusal w
  back-run n (many (Some xs)) w =
      let a = passed (eqb (length xs) n) xs bs w in
      let st' : Stands s p xs ys = rw a.bytes_are st in
      let l : length xs ≡ n = eqb-true _ _ a.test_is in
      record {
        value = many (record { place = p; length = n });
        read = rw (← l, le-ltb _ _ (room s p xs ys st'.inside st'.here), a.bytes_are);
        shows = ap many (rw (← l) (part-back s p xs ys st'));
        form_is = tt;
      }

  back-absent : (v : ToWrite) → of_absent v (answered []) ≡ answered bs → Back form s p bs (got absent p) v
  back-absent (number n) w = refusal w
  back-absent (numeral z u) w = refusal w
  back-absent absent w = let e : [] ≡ bs = cc in record { value = absent; read = ap (got absent) (omega (arith, ap length e)); shows = refl; form_is = tt }
  back-absent (many x) w = refusal w

  back-when : (b : Bool) (f : Field) (w : ℕ) (v : ToWrite) → (write_field f w v ≡ answered bs → Back form s p bs (read_field_by form f w s p) v)
      → pick b (write_field f w v) (of_absent v (answered [])) ≡ answered bs → Back form s p bs (pick b (read_field_by form f w s p) (got absent p)) v
  back-when true f w v ih h = ih h
  back-when false f w v ih h = back-absent v h

  -- a field of any kind
  pub back_field : (f : Field) (w : ℕ) (v : ToWrite) → write_field f w v ≡ answered bs → Back form s p bs (read_field_by form f w s p) v
  unfolding write_field read_field_by among
  back_field (fixed k) w v h = back-fixed k v h
  back_field type w v h = back-fixed 4 v h
  back_field id w v h = back-fixed 4 v h
  back_field string_reference w v h = back-fixed 4 v h
  back_field optional_type w v h = back-optional no_type refl v h
  back_field optional_id w v h = back-optional no_id refl v h
  back_field (word k good) w v h = back-word k good v h
  back_field (gap k) w v h = back-gap k v h
  back_field numeric w v h = back-numeric v h
  back_field size w v h = back-size v h
  back_field string w v h = back-string v h
  back_field (run e) w v h = back-run (run_bytes e w) v h
  back_field methods w v h = back-absent v h
  back_field members w v h = back-absent v h
  back_field (when there f) w v h = back-when (there w) f w v (back_field f w v) h

-- Layouts ---------------------------------------------------------------------------------------------------------------------------

-- reading gave values that show vs, and stands after the bytes bs
pub record BackAll {W : Type 0} (form : ℤ → ℕ → W) (s : List ℕ) (p : ℕ) (bs : List ℕ) (r : Read (List (Value Part W))) (vs : List ToWrite) : Type 0 where
  pub values : List (Value Part W)
  pub read : r ≡ got values (p + length bs)
  pub shows : given_all s values ≡ vs
  pub forms : AllInShortest form values

pub same_word : {W : Type 0} (s : List ℕ) (f : Field) (v : Value Part W) (w : ℕ) → word_after f (given s v) w ≡ word_after f v w
same_word s (fixed k) v w = refl
same_word s type v w = refl
same_word s id v w = refl
same_word s string_reference v w = refl
same_word s optional_type v w = refl
same_word s optional_id v w = refl
same_word s (word k good) (number n) w = refl
same_word s (word k good) (numeral z u) w = refl
same_word s (word k good) absent w = refl
same_word s (word k good) (many x) w = refl
same_word s (gap k) v w = refl
same_word s numeric v w = refl
same_word s size v w = refl
same_word s string v w = refl
same_word s (run e) v w = refl
same_word s methods v w = refl
same_word s members v w = refl
same_word s (when there f) v w = refl

-- R-1: what is written by a layout, wherever it stands, reads back as the values written
pub back : {W : Type 0} (form : ℤ → ℕ → W) (fs : List Field) (w : ℕ) (vs : List ToWrite) (s : List ℕ) (p : ℕ) (bs ys : List ℕ) → write_fields fs w vs ≡ answered bs
    → Stands s p bs ys → BackAll form s p bs (read_fields_by form fs w s p) vs
unfolding write_fields read_fields_by AllInShortest
back form [] w [] s p bs ys h st = let e : [] ≡ bs = cc in record { values = []; read = ap (got []) (omega (arith, ap length e)); shows = refl; forms = tt }
back form [] w (v ∷ vs) s p bs ys h st = refusal h
back form (f ∷ fs) w [] s p bs ys h st = refusal h
back form (f ∷ fs) w (v ∷ vs) s p bs ys h st =
    let b = written_both (write_field f w v) (write_fields fs (word_after f v w) vs) bs h in
    let xs = b.first_bytes in
    let zs = b.more_bytes in
    let st' : Stands s p (xs ++ zs) ys = rw b.all_are st in
    let one = back_field form s p xs (zs ++ ys) (first s p xs zs ys st') f w v b.first_is in
    let same : word_after f one.value w ≡ word_after f v w = sym (same_word s f one.value w) ∙ ap (λ (u : ToWrite). word_after f u w) one.shows in
    let more = back form fs (word_after f v w) vs s (p + length xs) zs ys b.more_is (next s p xs zs ys st') in
    let l : p + length xs + length zs ≡ p + length bs = omega (arith, length-append xs zs, ap length b.all_are) in
    record { values = one.value ∷ more.values; read = rw (one.read, same, more.read, l); shows = cc; forms = (one.form_is, more.forms) }
