-- A places file that was written reads back, and one that was read is written again: numbers, letters, trailer. Assumes nothing.
use Prim.Native.Nat.{ℕ, zero, suc, ◌+◌, ◌*◌, ◌^◌, ◌≤◌, ◌<◌}
use native.Mathlib.Omega.{arith}
use native.Mathlib.Numerals.{add-one}
use mathlib.Core.Path.{◌≡◌, refl, sym, ap, ◌∙◌}
use mathlib.Core.Bool.{Bool, true, false}
use mathlib.Core.List.{List, [], ◌∷◌, ◌++◌, append_assoc}
use lib.ListN.{length, get_or, drop, drop_of_length-le}
use lib.Seq.{drop-cons}
use lib.Dec.{eqb}
use borrow.Author.Tests.{eq-eqb, eqb-true}
use Rattle.answer.specs.Answer.{both}
use Rattle.field.specs.Fields.{little_at}
use Rattle.field_put.specs.Bytes.{bytes, Octets}
use Rattle.field_put.proofs.BackLaws.{head_at, tail_at, after-at, little-back, little-after, bytes_back}
use Rattle.stream_places.specs.File.{FileForm, trailer_size, word_bytes, trailer_bytes, words_at, trailer_at, spells}
use Rattle.stream_places.specs.declared.trailer.Trailer.{Trailer}
use Rattle.stream_places.proofs.FileLaws.{length-word-bytes}

-- ---- numbers of four bytes

-- each of which fits
pub words_back : (xs : List ℕ) (f : List ℕ) (p : ℕ) (ys : List ℕ) → ((i : ℕ) → i < length xs → get_or xs i 0 < 4294967296) → drop p f ≡ word_bytes xs ++ ys → words_at (length xs) f p ≡ xs
unfolding words_at word_bytes
words_back [] f p ys l e = refl
words_back (x ∷ xs) f p ys l e =
    let g : drop p f ≡ bytes 4 x ++ (word_bytes xs ++ ys) = e ∙ append_assoc (bytes 4 x) (word_bytes xs) ys in
    let a : little_at 4 f p ≡ x = little-back 4 x f p (word_bytes xs ++ ys) (l 0 (omega arith)) g in
    let b : words_at (length xs) f (p + 4) ≡ xs = words_back xs f (p + 4) ys (λ i h. l (suc i) (omega arith)) (little-after 4 x f p (word_bytes xs ++ ys) g) in
    rw (a, b)

pub words-again : (n : ℕ) (f : List ℕ) (p : ℕ) → Octets f → p + 4 * n ≤ length f → word_bytes (words_at n f p) ++ drop (p + 4 * n) f ≡ drop p f
unfolding words_at word_bytes
words-again zero f p o l = let e : p + 4 * 0 ≡ p = omega arith in ap (λ (q : ℕ). drop q f) e
words-again (suc n) f p o l =
    let e : p + 4 * suc n ≡ p + 4 + 4 * n = omega arith in
    append_assoc (bytes 4 (little_at 4 f p)) (word_bytes (words_at n f (p + 4))) (drop (p + 4 * suc n) f)
    ∙ ap (λ (q : ℕ). bytes 4 (little_at 4 f p) ++ (word_bytes (words_at n f (p + 4)) ++ drop q f)) e
    ∙ ap (λ (r : List ℕ). bytes 4 (little_at 4 f p) ++ r) (words-again n f (p + 4) o (omega arith))
    ∙ bytes_back 4 f p o (omega arith)

pub words-get : (n : ℕ) (f : List ℕ) (p i : ℕ) → i < n → get_or (words_at n f p) i 0 ≡ little_at 4 f (p + 4 * i)
unfolding words_at
words-get zero f p i l = absurd (omega arith)
words-get (suc n) f p zero l = let e : p + 4 * 0 ≡ p = omega arith in ap (little_at 4 f) (sym e)
words-get (suc n) f p (suc i) l =
    let e : p + 4 + 4 * i ≡ p + 4 * suc i = omega arith in
    words-get n f (p + 4) i (omega arith) ∙ ap (little_at 4 f) e

words-after : (xs : List ℕ) (f : List ℕ) (p : ℕ) (ys : List ℕ) → drop p f ≡ word_bytes xs ++ ys → drop (p + 4 * length xs) f ≡ ys
words-after xs f p ys e = ap (λ (n : ℕ). drop (p + n) f) (sym (length-word-bytes xs)) ∙ after-at f p (word_bytes xs) ys e

-- ---- letters
spells-parts : (b : Bool) (c : Bool) → both b c ≡ true → (b ≡ true) × (c ≡ true)
spells-parts true c e = (refl, e)
spells-parts false c e = let z : ◌≡◌ {A = ℕ} 0 1 = cc in absurd (omega arith)

pub letters-back : (bs f : List ℕ) (p : ℕ) → drop p f ≡ bs → spells f p bs ≡ true
unfolding spells
letters-back [] f p e = refl
letters-back (b ∷ bs) f p e = simp (eq-eqb _ _ (head_at f p b bs e), letters-back bs f (p + 1) (tail_at f p b bs e))

pub letters-again : (bs f : List ℕ) (p : ℕ) → p + length bs ≡ length f → spells f p bs ≡ true → bs ≡ drop p f
unfolding spells
letters-again [] f p l e = sym (drop_of_length-le f {i = p} (omega arith))
letters-again (b ∷ bs) f p l e =
    let h = spells-parts (eqb (get_or f p 0) b) (spells f (p + 1) bs) e in
    let i : bs ≡ drop (p + 1) f = letters-again bs f (p + 1) (omega arith) h.1 in
    ap (λ (r : List ℕ). b ∷ r) (i ∙ ap (λ (q : ℕ). drop q f) (add-one p)) ∙ ap (λ (x : ℕ). x ∷ drop (suc p) f) (sym (eqb-true _ _ h.0)) ∙ sym (drop-cons f p 0 (omega arith))

-- ---- the trailer

-- each field fits
pub record Fits (F : FileForm) (k : Trailer) : Type 0 where
  pub count : k.count < 256 ^ F.width
  pub shift : k.shift < 256
  pub minimum : k.minimum_index < 4294967296
  pub maximum : k.maximum_index < 4294967296
  pub bytes_are : k.stream_length < 4294967296
  pub start : k.header_size < 4294967296
  pub distance : k.distance < 4294967296

pub record Back (F : FileForm) (f : List ℕ) (p : ℕ) (k : Trailer) : Type 0 where
  pub fields : trailer_at F f p ≡ k
  pub zero_byte : little_at 1 f (p + F.width + 1) ≡ 0
  pub ends_in : spells f (p + F.width + 22) F.letters ≡ true

abbrev numbers_of : Trailer → List ℕ
numbers_of k = k.minimum_index ∷ k.maximum_index ∷ k.stream_length ∷ k.header_size ∷ k.distance ∷ []

fit-numbers : (F : FileForm) (k : Trailer) → Fits F k → (i : ℕ) → i < 5 → get_or (numbers_of k) i 0 < 4294967296
fit-numbers F k n zero l = n.minimum
fit-numbers F k n (suc zero) l = n.maximum
fit-numbers F k n (suc (suc zero)) l = n.bytes_are
fit-numbers F k n (suc (suc (suc zero))) l = n.start
fit-numbers F k n (suc (suc (suc (suc zero)))) l = n.distance
fit-numbers F k n (suc (suc (suc (suc (suc i))))) l = absurd (omega arith)

pub trailer-back : (F : FileForm) (f : List ℕ) (p : ℕ) (k : Trailer) → Fits F k → drop p f ≡ trailer_bytes F k → Back F f p k
unfolding trailer_bytes trailer_at
trailer-back F f p k n e =
    let q : ℕ = p + F.width in
    let e₁ = little-after F.width k.count f p _ e in
    let e₂ = little-after 1 k.shift f q _ e₁ in
    let e₃ = little-after 1 0 f (q + 1) _ e₂ in
    let two : q + 1 + 1 ≡ q + 2 = omega arith in
    let e₄ : drop (q + 2) f ≡ word_bytes (numbers_of k) ++ F.letters = ap (λ (x : ℕ). drop x f) (sym two) ∙ e₃ in
    let w : words_at 5 f (q + 2) ≡ numbers_of k = words_back (numbers_of k) f (q + 2) F.letters (fit-numbers F k n) e₄ in
    let at : (i x : ℕ) → i < 5 → q + 2 + 4 * i ≡ x → little_at 4 f x ≡ get_or (numbers_of k) i 0 =
    λ i x l g. ap (little_at 4 f) (sym g) ∙ sym (words-get 5 f (q + 2) i l) ∙ ap (λ (ws : List ℕ). get_or ws i 0) w in
    let last : q + 2 + 4 * 5 ≡ q + 22 = omega arith in
    record {
      fields = rw (
        little-back F.width k.count f p _ n.count e,
        little-back 1 k.shift f q _ n.shift e₁,
        at 0 (q + 2) (omega arith) (omega arith),
        at 1 (q + 6) (omega arith) (omega arith),
        at 2 (q + 10) (omega arith) (omega arith),
        at 3 (q + 14) (omega arith) (omega arith),
        at 4 (q + 18) (omega arith) (omega arith),
      );
      zero_byte = little-back 1 0 f (q + 1) _ (omega arith) e₂;
      ends_in = letters-back F.letters f (q + 22) (ap (λ (x : ℕ). drop x f) (sym last) ∙ words-after (numbers_of k) f (q + 2) F.letters e₄);
    }

-- the five numbers as they stand one after the other
numbers-at : (F : FileForm) (f : List ℕ) (p : ℕ) → numbers_of (trailer_at F f p) ≡ words_at 5 f (p + F.width + 2)
unfolding trailer_at words_at
numbers-at F f p =
    let q : ℕ = p + F.width in
    let a : q + 2 + 4 ≡ q + 6 = omega arith in
    let b : q + 6 + 4 ≡ q + 10 = omega arith in
    let c : q + 10 + 4 ≡ q + 14 = omega arith in
    let d : q + 14 + 4 ≡ q + 18 = omega arith in
    rw (a, b, c, d)

pub trailer-again : (F : FileForm) (f : List ℕ) (p : ℕ) → Octets f → p + trailer_size F ≡ length f → length F.letters ≡ 4 → little_at 1 f (p + F.width + 1) ≡ 0
    → spells f (p + F.width + 22) F.letters ≡ true → trailer_bytes F (trailer_at F f p) ≡ drop p f
unfolding trailer_bytes trailer_at
trailer-again F f p o l four z w =
    let q : ℕ = p + F.width in
    let a₅ : F.letters ≡ drop (q + 22) f = letters-again F.letters f (q + 22) (omega arith) w in
    let r : q + 22 ≡ q + 2 + 4 * 5 = omega arith in
    let a₄ : word_bytes (numbers_of (trailer_at F f p)) ++ F.letters ≡ drop (q + 2) f =
    ap (λ (r : List ℕ). word_bytes (numbers_of (trailer_at F f p)) ++ r) (a₅ ∙ ap (λ (x : ℕ). drop x f) r)
    ∙ ap (λ (ws : List ℕ). word_bytes ws ++ drop (q + 2 + 4 * 5) f) (numbers-at F f p)
    ∙ words-again 5 f (q + 2) o (omega arith) in
    let q₃ : q + 2 ≡ q + 1 + 1 = omega arith in
    let a₃ : bytes 1 0 ++ drop (q + 2) f ≡ drop (q + 1) f =
    ap (λ (x : ℕ). bytes 1 x ++ drop (q + 2) f) (sym z) ∙ ap (λ (x : ℕ). bytes 1 (little_at 1 f (q + 1)) ++ drop x f) q₃ ∙ bytes_back 1 f (q + 1) o (omega arith) in
    let a₂ : bytes 1 (little_at 1 f q) ++ drop (q + 1) f ≡ drop q f = bytes_back 1 f q o (omega arith) in
    ap (λ (r : List ℕ). bytes F.width (little_at F.width f p) ++ (bytes 1 (little_at 1 f q) ++ (bytes 1 0 ++ r))) a₄
    ∙ ap (λ (r : List ℕ). bytes F.width (little_at F.width f p) ++ (bytes 1 (little_at 1 f q) ++ r)) a₃
    ∙ ap (λ (r : List ℕ). bytes F.width (little_at F.width f p) ++ r) a₂
    ∙ bytes_back F.width f p o (omega arith)
