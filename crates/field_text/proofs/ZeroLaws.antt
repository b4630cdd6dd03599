-- Laws of the search of a string: what was passed; the bytes of a word that are zero, by subtraction and masks. Assumes nothing.
use Rattle.std.specs.Prelude.{Some}
use Rattle.std.proofs.Common.{◌≡◌, ℕ, zero, suc, ◌+◌, ◌-◌, ◌*◌, ◌/◌, ◌%◌, ◌^◌, ◌<◌, ◌≤◌, List, [], ◌∷◌, length, get_or, drop, sym, refl, ap, ◌∙◌, subst, ap₂, le_of_suc-le-suc, not-suc-le-zero, add-zero, add-suc, mod-lt, mod-eq_of_lt, zero-lt-suc, mul_assoc, mul_comm, div-lt_iff_lt-mul, suc-add, div-add-mod', zero-add, arith}
use native.Mathlib.Nat.{pow-succ', mul-add-mod_self_right}
use lib.Bits.{bit_and, and_block, and_lt, and_zero_r, shifted_half, shifted_even}
use lib.Count.{count_trailing_zeros, under}
use Rattle.field.specs.Fields.{little_at}
use Rattle.field.proofs.FieldLaws.{little-below}
use Rattle.answer.specs.Answer.{got, ended}
use Rattle.field_text.specs.Texts.{to_zero, string_at}
use Rattle.field_text.specs.Zeros.{Passed, ZeroAt, zero_marks}
use Rattle.field_text.proofs.TextLaws.{goes_on, finds, runs-out, found, lost}

-- byte t is the first of the k bytes at p that is zero
pub record FirstZero (s : List ℕ) (p k t : ℕ) : Type 0 where
  pub within : t < k
  pub passed : Passed s p (p + t)
  pub there : get_or s (p + t) 0 ≡ 0

-- m marks the k bytes at p: it is 0 if none is zero, and else its lowest set bit lies in the first that is
pub record Marks (s : List ℕ) (p k m : ℕ) : Type 0 where
  pub none : m ≡ 0 → Passed s p (p + k)
  pub first : (m ≡ 0 → ⊥) → FirstZero s p k (count_trailing_zeros (8 * k) m / 8)

-- ---- what was passed
module _ (s : List ℕ) (p : ℕ) where
  pub passed_none : (i : ℕ) → p ≡ i → Passed s p i
  passed_none i e = record { low = omega arith; same = λ n. ap₂ (λ (x y : ℕ). to_zero (drop x s) y) e (omega arith) }

  pub passed-one : (i : ℕ) → i ≡ p + 1 → p < length s → (get_or s p 0 ≡ 0 → ⊥) → Passed s p i
  passed-one i e h ne =
      record { low = omega arith; same = λ n. goes_on s p n h ne ∙ ap₂ (λ (x y : ℕ). to_zero (drop x s) y) (sym e) (omega arith) }

  pub passed_then : {i : ℕ} (r : ℕ) → Passed s p i → Passed s i r → Passed s p r
  passed_then r a b =
      record { low = omega arith; same = λ n. a.same n ∙ b.same _ ∙ ap (to_zero (drop r s)) (omega (arith, a.low, b.low)) }

-- ---- the zeros below the lowest set bit, of a number that is shifted
pub trailing-shifted : (j k a : ℕ) → count_trailing_zeros (j + k) (a * 2 ^ j) ≡ j + count_trailing_zeros k a
unfolding count_trailing_zeros
trailing-shifted zero k a =
    let e : 0 + k ≡ k = omega arith in
    let f : a * 1 ≡ a = omega arith in
    let g : 0 + count_trailing_zeros k a ≡ count_trailing_zeros k a = omega arith in
    ap₂ count_trailing_zeros e f ∙ sym g
trailing-shifted (suc j) k a =
    ap (λ (x : ℕ). count_trailing_zeros x (a * 2 ^ suc j)) (suc-add j k)
    ∙ ap₂ (λ (x y : ℕ). under x (count_trailing_zeros (j + k) y)) (shifted_even a j) (shifted_half a j)
    ∙ ap suc (trailing-shifted j k a)
    ∙ sym (suc-add j (count_trailing_zeros k a))

pub trailing_odd : (k a : ℕ) → count_trailing_zeros (suc k) (a * 2 + 1) ≡ 0
unfolding count_trailing_zeros
trailing_odd k a =
    let e : (a * 2 + 1) % 2 ≡ 1 = omega arith in
    ap (λ (x : ℕ). under x (count_trailing_zeros k ((a * 2 + 1) / 2))) e

-- ---- one byte: where it is not zero nothing is marked, which is computed for each
module _ (f : ℕ → ℕ) where
  abbrev said : ℕ → ℕ → List ℕ
  said i zero = []
  said i (suc n) = f i ∷ said (suc i) n

  from : (i n k : ℕ) → k < n → get_or (said i n) k 0 ≡ f (i + k)
  from i zero k h = absurd (not-suc-le-zero h)
  from i (suc n) zero h = ap f (sym (add-zero i))
  from i (suc n) (suc k) h = from (suc i) n k (le_of_suc-le-suc h) ∙ ap f (suc-add i k ∙ sym (add-suc i k))

unmarked : ℕ → ℕ
unmarked b = bit_and (bit_and b (254 - b)) 128

nothing : ℕ → ℕ
nothing b = 0

pub byte-unmarked : (b : ℕ) → b < 255 → bit_and (bit_and b (254 - b)) 128 ≡ 0
unfolding unmarked nothing
byte-unmarked b h = ap unmarked (sym (zero-add b)) ∙ sym (from unmarked 0 255 b h) ∙ from nothing 0 255 b h

-- ---- a word of k bytes, the lowest first: 1 in each byte
unfoldable pub ones : ℕ → ℕ
ones zero = 0
ones (suc k) = 1 + 256 * ones k

-- its marks, one byte apart from the rest
apart : (y n o c d : ℕ) → c < 256 → d < 256
    → bit_and (bit_and (y * 256 + c) (n * 256 + d)) (o * 256 + 128) ≡ bit_and (bit_and y n) o * 256 + bit_and (bit_and c d) 128
apart y n o c d hc hd =
    ap (λ (x : ℕ). bit_and x (o * 256 + 128)) (and_block 8 y n c d hc hd)
    ∙ and_block 8 (bit_and y n) o (bit_and c d) 128 (and_lt 8 c d hc hd) (omega arith)

-- the lowest byte is zero: it is marked, and is the first
first-marked : (s : List ℕ) (p k m a : ℕ) → m ≡ a * 256 + 128 → get_or s p 0 ≡ 0 → Marks s p (suc k) m
first-marked s p k m a e z =
    let w : 8 * suc k ≡ 7 + suc (8 * k) = omega arith in
    let f : m ≡ (a * 2 + 1) * 128 = omega arith in
    let g : count_trailing_zeros (7 + suc (8 * k)) ((a * 2 + 1) * 2 ^ 7) ≡ 7 + 0 =
    trailing-shifted 7 (suc (8 * k)) (a * 2 + 1) ∙ ap (λ (x : ℕ). 7 + x) (trailing_odd (8 * k) a) in
    let t : count_trailing_zeros (8 * suc k) m / 8 ≡ 0 = ap (λ (x : ℕ). x / 8) (ap₂ count_trailing_zeros w f ∙ g) in
    let i : p + 0 ≡ p = omega arith in
    record {
      none = λ h. absurd (omega arith);
      first = λ h. subst (λ (x : ℕ). FirstZero s p (suc k) x) (sym t)
          (record { within = zero-lt-suc k; passed = passed_none s p (p + 0) (sym i); there = ap (λ (x : ℕ). get_or s x 0) i ∙ z });
    }

-- it is not: what is marked is marked above it
more-marked : (s : List ℕ) (p k m a : ℕ) → m ≡ a * 256 → p < length s → (get_or s p 0 ≡ 0 → ⊥) → Marks s (p + 1) k a → Marks s p (suc k) m
more-marked s p k m a e h ne w =
    let v : 8 * suc k ≡ 8 + 8 * k = omega arith in
    let g : count_trailing_zeros (8 * suc k) m ≡ 8 + count_trailing_zeros (8 * k) a = ap₂ count_trailing_zeros v e ∙ trailing-shifted 8 (8 * k) a in
    let t : count_trailing_zeros (8 * suc k) m / 8 ≡ suc (count_trailing_zeros (8 * k) a / 8) = ap (λ (x : ℕ). x / 8) g ∙ omega arith in
    let one = passed-one s p (p + 1) refl h ne in
    record {
      none = λ z. passed_then s p (p + suc k) one (subst (λ (x : ℕ). Passed s (p + 1) x) (omega arith) (w.none (omega arith)));
      first = λ z.
          let f = w.first (λ n. z (omega arith)) in
          let i : p + 1 + count_trailing_zeros (8 * k) a / 8 ≡ p + suc (count_trailing_zeros (8 * k) a / 8) = omega arith in
          subst (λ (x : ℕ). FirstZero s p (suc k) x) (sym t)
          (record {
            within = omega (arith, f.within);
            passed = passed_then s p _ one (subst (λ (x : ℕ). Passed s (p + 1) x) i f.passed);
            there = ap (λ (x : ℕ). get_or s x 0) (sym i) ∙ f.there;
          });
    }

-- the marks of the number of k bytes: y is the number less 1 in each byte
pub marks-of : (k : ℕ) (s : List ℕ) (p y : ℕ) → ((i : ℕ) → get_or s i 0 < 256) → p + k ≤ length s → y < 256 ^ k → (y + ones k) % 256 ^ k ≡ little_at k s p
    → Marks s p k (bit_and (bit_and y (256 ^ k - 1 - little_at k s p)) (128 * ones k))
unfolding ones little_at
marks-of zero s p y bs r h e =
    record { none = λ z. passed_none s p (p + 0) (omega arith); first = λ f. absurd (f (and_zero_r (bit_and y (256 ^ 0 - 1 - little_at 0 s p)))) }
marks-of (suc k) s p y bs r h e = go (get_or s p 0) refl (λ x h' e'. marks-of k s (p + 1) x bs (omega arith) h' e')
  where
    below : little_at k s (p + 1) < 256 ^ k
    below = little-below k s (p + 1) bs

    low : y % 256 < 256
    low = mod-lt y (zero-lt-suc 255)

    both : y / 256 * 256 + y % 256 ≡ y
    both = div-add-mod' y 256

    high : y / 256 < 256 ^ k
    high = (div-lt_iff_lt-mul (zero-lt-suc 255)).1 (rw (pow-succ', mul_comm) at h)

    q : ℕ
    q = (y + (1 + 256 * ones k)) / 256 ^ suc k

    scaled : q * 256 ^ suc k ≡ 256 * (q * 256 ^ k)
    scaled = ap (λ (x : ℕ). q * x) (pow-succ' 256 k) ∙ sym (mul_assoc q 256 (256 ^ k)) ∙ ap (λ (x : ℕ). x * 256 ^ k) (mul_comm q 256) ∙ mul_assoc 256 q (256 ^ k)

    sum : 256 * (q * 256 ^ k) + (get_or s p 0 + 256 * little_at k s (p + 1)) ≡ y / 256 * 256 + y % 256 + (1 + 256 * ones k)
    sum =
        ap₂ (λ (a b : ℕ). a + b) (sym scaled) (sym e) ∙ div-add-mod' (y + (1 + 256 * ones k)) (256 ^ suc k)
        ∙ ap (λ (x : ℕ). x + (1 + 256 * ones k)) (sym both)

    split : bit_and (bit_and y (256 ^ suc k - 1 - (get_or s p 0 + 256 * little_at k s (p + 1)))) (128 * (1 + 256 * ones k))
        ≡ bit_and (bit_and (y / 256) (256 ^ k - 1 - little_at k s (p + 1))) (128 * ones k) * 256 + bit_and (bit_and (y % 256) (255 - get_or s p 0)) 128
    split =
        let n : 256 ^ suc k - 1 - (get_or s p 0 + 256 * little_at k s (p + 1)) ≡ (256 ^ k - 1 - little_at k s (p + 1)) * 256 + (255 - get_or s p 0) =
        omega (arith, pow-succ' 256 k, bs p, below) in
        let o : 128 * (1 + 256 * ones k) ≡ 128 * ones k * 256 + 128 = omega arith in
        ap₂ bit_and (ap₂ bit_and (sym both) n) o ∙ apart (y / 256) _ (128 * ones k) (y % 256) (255 - get_or s p 0) low (omega arith)

    rest : ℕ
    rest = bit_and (bit_and (y / 256) (256 ^ k - 1 - little_at k s (p + 1))) (128 * ones k)

    go : (b : ℕ) → get_or s p 0 ≡ b
        → ((x : ℕ) → x < 256 ^ k → (x + ones k) % 256 ^ k ≡ little_at k s (p + 1) → Marks s (p + 1) k (bit_and (bit_and x (256 ^ k - 1 - little_at k s (p + 1))) (128 * ones k)))
        → Marks s p (suc k) (bit_and (bit_and y (256 ^ suc k - 1 - (get_or s p 0 + 256 * little_at k s (p + 1)))) (128 * (1 + 256 * ones k)))
    go zero eb ih =
        let ec : y % 256 ≡ 255 = omega (arith, sum, low) in
        first-marked s p k _ rest (split ∙ ap₂ (λ (a b : ℕ). rest * 256 + bit_and (bit_and a (255 - b)) 128) ec eb) eb
    go (suc b) eb ih =
        let ec : y % 256 ≡ b = omega (arith, sum, low, bs p) in
        let es : y / 256 + ones k ≡ q * 256 ^ k + little_at k s (p + 1) = omega (arith, sum, low, bs p) in
        let em : (y / 256 + ones k) % 256 ^ k ≡ little_at k s (p + 1) =
        ap (λ (x : ℕ). x % 256 ^ k) es ∙ mul-add-mod_self_right q (256 ^ k) (little_at k s (p + 1)) ∙ mod-eq_of_lt below in
        let en : 255 - get_or s p 0 ≡ 254 - b = omega arith in
        let el : bit_and (bit_and (y % 256) (255 - get_or s p 0)) 128 ≡ 0 =
        ap₂ (λ (x z : ℕ). bit_and (bit_and x z) 128) ec en ∙ byte-unmarked b (omega (arith, bs p)) in
        more-marked s p k _ rest (split ∙ ap (λ (x : ℕ). rest * 256 + x) el ∙ add-zero (rest * 256)) (omega arith) (λ z. omega arith) (ih (y / 256) high em)

-- the same of eight bytes, with the numbers written out
pub word-marks : (s : List ℕ) (p x m : ℕ) → ((i : ℕ) → get_or s i 0 < 256) → p + 8 ≤ length s → x ≡ little_at 8 s p → m ≡ zero_marks x → Marks s p 8 m
unfolding ones zero_marks
word-marks s p x m bs r e h =
    let b : little_at 8 s p < 2 ^ 64 = little-below 8 s p bs in
    let w : ((little_at 8 s p + (2 ^ 64 - 0x0101010101010101)) % 2 ^ 64 + 0x0101010101010101) % 2 ^ 64 ≡ little_at 8 s p = omega (arith, b) in
    subst (Marks s p 8) (sym (h ∙ ap zero_marks e)) (marks-of 8 s p _ bs r (mod-lt _ (zero-lt-suc _)) w)

-- ---- what the search came to is what the string says
module _ (s : List ℕ) (p r : ℕ) (z : ZeroAt s p r) where
  pub came : r < length s → got (record { place = p; length = r - p }) (r + 1) ≡ string_at s p
  came h =
      let e : 0 + (r - p) ≡ r - p = omega arith in
      found s p r z.passed.low (z.passed.same 0 ∙ finds s r _ h (z.there h) ∙ ap Some e)

  pub came-to-none : length s ≤ r → ended ≡ string_at s p
  came-to-none h = lost s p (z.passed.same 0 ∙ runs-out s r _ h)
