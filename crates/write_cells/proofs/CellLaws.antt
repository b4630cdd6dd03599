-- What a cell's kind says of its value. Assumes nothing.
use Rattle.std.specs.Prelude.{None, Some}
use Prim.Native.Nat.{ℕ, ◌+◌, ◌<◌, ◌%◌, ◌/◌, ◌^◌}
use native.Mathlib.Omega.{arith}
use mathlib.Core.Bool.{Bool, true, false}
use mathlib.Core.Path.{◌≡◌, refl}
use mathlib.Core.List.{List}
use lib.IntN.{ℤ, pos, negsuc}
use lib.ListN.{length}
use lib.Dec.{eqb, leb, ltb}
use borrow.Author.Tests.{ne_eqb, eqb-true, eqb-false, leb-true, ltb-true}
use Rattle.answer.specs.Answer.{pick}
use Rattle.answer.specs.Tables.{among}
use Rattle.field.specs.Bytes.{bytes}
use Rattle.field_number.specs.Forms.{Form}
use Rattle.record_layout.specs.Fields.{number, numeral, absent, many, number_or}
use Rattle.word_attributes.specs.Pointers.{kind_of, mode_of, to_member_of}
use Rattle.write_layout.specs.Runs.{part_at}
use Rattle.write_layout.specs.Fields.{ToWrite, given, bytes_in, Encoded, bad, only, of_number, of_numeral, of_absent, of_many, fixed_bytes, optional_bytes, size_bytes, encodes}
use Rattle.write_layout.proofs.RunLaws.{part_length}
use Rattle.write_cells.specs.Cells.{cell_in}

never : {X : Type 0} → false ≡ true → X
never h = let z : ◌≡◌ {A = ℕ} 0 1 = cc in absurd (omega arith)

-- a number that is good fits
good-fits : (k n : ℕ) → encodes (fixed_bytes k n) ≡ true → n < 256 ^ k
unfolding fixed_bytes
good-fits k n e = go (ltb n (256 ^ k)) refl e
  where
    go : (b : Bool) → ltb n (256 ^ k) ≡ b → encodes (only b (bytes k n)) ≡ true → n < 256 ^ k
    go true f g = ltb-true n (256 ^ k) f
    go false f g = never g

module _ (t : List ℕ) (kind value more : ℕ) where
  abbrev cell : ToWrite
  cell = cell_in t kind value more

  pub is-absent : kind ≡ 1 → cell ≡ absent
  is-absent e = rw e

  pub is_number : kind ≡ 2 → cell ≡ number value
  is_number e = rw e

  pub is-3 : kind ≡ 3 → cell ≡ numeral (pos value) tt
  is-3 e = rw e

  pub is-4 : kind ≡ 4 → cell ≡ numeral (pos value) tt
  is-4 e = rw e

  pub is-5 : kind ≡ 5 → cell ≡ numeral (negsuc value) tt
  is-5 e = rw e

  pub is-6 : kind ≡ 6 → cell ≡ numeral (negsuc value) tt
  is-6 e = rw e

  pub is-many : 6 < kind → cell ≡ many (bytes_in t (record { place = value; length = more }))
  is-many h =
      rw (ne_eqb kind 1 (omega arith), ne_eqb kind 2 (omega arith), ne_eqb kind 3 (omega arith), ne_eqb kind 4 (omega arith), ne_eqb kind 5 (omega arith), ne_eqb kind 6 (omega arith))

  -- the value by the outcomes of the tests
  abbrev by_tests : Bool → Bool → Bool → Bool → Bool → Bool → ToWrite
  by_tests a b c d e f =
      given {W = Form} t (pick a absent (pick b (number value)
      (pick c (numeral (pos value) (record { width = more; shorter = false })) (pick d (numeral (pos value) (record { width = more; shorter = true }))
      (pick e (numeral (negsuc value) (record { width = more; shorter = false })) (pick f (numeral (negsuc value) (record { width = more; shorter = true }))
      (many (record { place = value; length = more }))))))))

  pub not-number : (kind ≡ 2 → ⊥) → (g : ℕ → Encoded) → of_number cell g ≡ bad
  not-number h g = rw (ne_eqb kind 2 h) (go (eqb kind 1) (eqb kind 3) (eqb kind 4) (eqb kind 5) (eqb kind 6))
    where
      go : (a c d e f : Bool) → of_number (by_tests a false c d e f) g ≡ bad
      go true c d e f = refl
      go false true d e f = refl
      go false false true e f = refl
      go false false false true f = refl
      go false false false false true = refl
      go false false false false false = refl

  pub not-number-or : (kind ≡ 2 → ⊥) → (w : ℕ) → number_or cell w ≡ w
  not-number-or h w = rw (ne_eqb kind 2 h) (go (eqb kind 1) (eqb kind 3) (eqb kind 4) (eqb kind 5) (eqb kind 6))
    where
      go : (a c d e f : Bool) → number_or (by_tests a false c d e f) w ≡ w
      go true c d e f = refl
      go false true d e f = refl
      go false false true e f = refl
      go false false false true f = refl
      go false false false false true = refl
      go false false false false false = refl

  pub not-absent : (kind ≡ 1 → ⊥) → (b : Encoded) → of_absent cell b ≡ bad
  not-absent h b = rw (ne_eqb kind 1 h) (go (eqb kind 2) (eqb kind 3) (eqb kind 4) (eqb kind 5) (eqb kind 6))
    where
      go : (a c d e f : Bool) → of_absent (by_tests false a c d e f) b ≡ bad
      go true c d e f = refl
      go false true d e f = refl
      go false false true e f = refl
      go false false false true f = refl
      go false false false false true = refl
      go false false false false false = refl

  -- what a good field says of its cell
  pub good-number : (k : ℕ) → encodes (of_number cell (fixed_bytes k)) ≡ true → (kind ≡ 2) × (value < 256 ^ k)
  good-number k e = go (eqb kind 2) refl
    where
      go : (b : Bool) → eqb kind 2 ≡ b → (kind ≡ 2) × (value < 256 ^ k)
      go true f = (eqb-true kind 2 f, good-fits k value (rw (is_number (eqb-true kind 2 f)) at e))
      go false f = never (rw (not-number (eqb-false kind 2 f) (fixed_bytes k)) at e)

  pub good-word : (k : ℕ) (test : ℕ → Bool) → encodes (of_number cell (λ n. pick (test n) (fixed_bytes k n) bad)) ≡ true → (kind ≡ 2) × (test value ≡ true) × (value < 256 ^ k)
  good-word k test e = go (eqb kind 2) refl
    where
      by : (b : Bool) → test value ≡ b → encodes (pick b (fixed_bytes k value) bad) ≡ true → (test value ≡ true) × (value < 256 ^ k)
      by true f g = (f, good-fits k value g)
      by false f g = never g

      go : (b : Bool) → eqb kind 2 ≡ b → (kind ≡ 2) × (test value ≡ true) × (value < 256 ^ k)
      go true f =
          let z = by (test value) refl (rw (is_number (eqb-true kind 2 f)) at e) in
          (eqb-true kind 2 f, z.0, z.1)
      go false f = never (rw (not-number (eqb-false kind 2 f) (λ n. pick (test n) (fixed_bytes k n) bad)) at e)

  pub not-optional : (kind ≡ 1 → ⊥) → (kind ≡ 2 → ⊥) → (nones : List ℕ) → optional_bytes nones cell ≡ bad
  unfolding optional_bytes
  not-optional h k nones = rw (ne_eqb kind 1 h, ne_eqb kind 2 k) (go (eqb kind 3) (eqb kind 4) (eqb kind 5) (eqb kind 6))
    where
      go : (c d e f : Bool) → optional_bytes nones (by_tests false false c d e f) ≡ bad
      go true d e f = refl
      go false true e f = refl
      go false false true f = refl
      go false false false true = refl
      go false false false false = refl

  pub good-optional : (nones : List ℕ) → (kind ≡ 1 → ⊥) → encodes (optional_bytes nones cell) ≡ true → (kind ≡ 2) × (among value nones ≡ false) × (value < 256 ^ 4)
  unfolding optional_bytes
  good-optional nones h e = go (eqb kind 2) refl
    where
      by : (b : Bool) → among value nones ≡ b → encodes (pick b bad (fixed_bytes 4 value)) ≡ true → (among value nones ≡ false) × (value < 256 ^ 4)
      by true f g = never g
      by false f g = (f, good-fits 4 value g)

      go : (b : Bool) → eqb kind 2 ≡ b → (kind ≡ 2) × (among value nones ≡ false) × (value < 256 ^ 4)
      go true f =
          let z = by (among value nones) refl (rw (is_number (eqb-true kind 2 f)) at e) in
          (eqb-true kind 2 f, z.0, z.1)
      go false f = never (rw (not-optional h (eqb-false kind 2 f) nones) at e)

  pub not-size : (kind ≡ 3 → ⊥) → (kind ≡ 4 → ⊥) → of_numeral cell size_bytes ≡ bad
  unfolding size_bytes
  not-size h k = rw (ne_eqb kind 3 h, ne_eqb kind 4 k) (go (eqb kind 1) (eqb kind 2) (eqb kind 5) (eqb kind 6))
    where
      go : (a b e f : Bool) → of_numeral (by_tests a b false false e f) size_bytes ≡ bad
      go true b e f = refl
      go false true e f = refl
      go false false true f = refl
      go false false false true = refl
      go false false false false = refl

  pub not-numeral : (kind ≡ 3 → ⊥) → (kind ≡ 4 → ⊥) → (kind ≡ 5 → ⊥) → (kind ≡ 6 → ⊥) → (g : ℤ → Encoded) → of_numeral cell g ≡ bad
  not-numeral h k l m g = rw (ne_eqb kind 3 h, ne_eqb kind 4 k, ne_eqb kind 5 l, ne_eqb kind 6 m) (go (eqb kind 1) (eqb kind 2))
    where
      go : (a b : Bool) → of_numeral (by_tests a b false false false false) g ≡ bad
      go true b = refl
      go false true = refl
      go false false = refl

  pub not-many : 0 < kind → kind < 7 → (g : List ℕ → Encoded) → of_many cell g ≡ bad
  not-many h k g = go (eqb kind 1) (eqb kind 2) (eqb kind 3) (eqb kind 4) (eqb kind 5) (eqb kind 6) refl refl refl refl refl refl
    where
      go : (a b c d e f : Bool) → eqb kind 1 ≡ a → eqb kind 2 ≡ b → eqb kind 3 ≡ c → eqb kind 4 ≡ d → eqb kind 5 ≡ e → eqb kind 6 ≡ f
          → of_many (by_tests a b c d e f) g ≡ bad
      go true b c d e f p q r s u v = refl
      go false true c d e f p q r s u v = refl
      go false false true d e f p q r s u v = refl
      go false false false true e f p q r s u v = refl
      go false false false false true f p q r s u v = refl
      go false false false false false true p q r s u v = refl
      go false false false false false false p q r s u v =
          let x : 1 < kind = omega (arith, eqb-false kind 1 p) in
          let y : 2 < kind = omega (arith, eqb-false kind 2 q) in
          let z : 3 < kind = omega (arith, eqb-false kind 3 r) in
          let w : 4 < kind = omega (arith, eqb-false kind 4 s) in
          let o : 5 < kind = omega (arith, eqb-false kind 5 u) in
          absurd (omega (arith, eqb-false kind 6 v))

-- a run of another length
pub run-bad : (t : List ℕ) (p n k : ℕ) → (n ≡ k → ⊥) → of_many (many (bytes_in t (record { place = p; length = n }))) (λ bs. only (eqb (length bs) k) bs) ≡ bad
unfolding bytes_in
run-bad t p n k h = go (leb (p + n) (length t)) refl
  where
    go : (b : Bool) → leb (p + n) (length t) ≡ b → of_many (many (pick b (Some (part_at t p n)) None)) (λ bs. only (eqb (length bs) k) bs) ≡ bad
    go true f = rw (part_length t p n (leb-true _ _ f), ne_eqb n k h)
    go false f = refl

-- kind and mode of a pointer's word lie in its low half
module _ (w : ℕ) where
  pub low-kind : kind_of (w % 4294967296) ≡ kind_of w
  unfolding kind_of
  low-kind = let e : w % 4294967296 / 1 % 32 ≡ w / 1 % 32 = omega arith in rw e

  pub low-mode : mode_of (w % 4294967296) ≡ mode_of w
  unfolding mode_of
  low-mode = let e : w % 4294967296 / 32 % 8 ≡ w / 32 % 8 = omega arith in rw e

  pub low-member : to_member_of (w % 4294967296) ≡ to_member_of w
  unfolding to_member_of
  low-member = rw low-mode
