-- The digits of a number below 10^k, k of them at most, say that number, the first not being 0 where there are more; a number of 64 bits has at
-- most 20. Assumes nothing.
use Prim.Native.Nat.{ℕ, zero, suc, ◌+◌, ◌-◌, ◌*◌, ◌/◌, ◌%◌, ◌≤◌, ◌<◌}
use native.Mathlib.Omega.{arith}
use mathlib.Core.Bool.{Bool, true, false}
use mathlib.Core.Path.{◌≡◌, refl}
use mathlib.Core.List.{List, [], ◌∷◌, ◌++◌}
use lib.Dec.{ltb}
use borrow.Author.Tests.{ltb-true, ltb-false}
use Rattle.declare_type.specs.Tokens.{decimal}
use Rattle.claim_promises.specs.Digits.{digits, AllDigits, NoLeadingZero, LengthsShown}

-- 10^k
unfoldable tens : ℕ → ℕ
tens zero = 1
tens (suc k) = 10 * tens k

last : (a : ℕ) (l : List ℕ) (d : ℕ) → digits a (l ++ d ∷ []) ≡ 10 * digits a l + (d - 48)
unfolding digits
last a [] d = refl
last a (x ∷ l) d = last (10 * a + (x - 48)) l d

whole : (k n : ℕ) → n < tens k → digits 0 (decimal k n) ≡ n
unfolding decimal digits tens
whole zero n h = omega arith
whole (suc k) n h = go (ltb n 10) refl (λ m. whole k (n / 10) m)
  where
    go : (b : Bool) → ltb n 10 ≡ b → (n / 10 < tens k → digits 0 (decimal k (n / 10)) ≡ n / 10) → digits 0 (decimal (suc k) n) ≡ n
    go true e f = rw e (omega arith)
    go false e f =
        let w : digits 0 (decimal k (n / 10)) ≡ n / 10 = f (omega arith) in
        rw (e, last 0 (decimal k (n / 10)) (48 + n % 10), w) (omega arith)

one_more : (l : List ℕ) (d : ℕ) → AllDigits l → 48 ≤ d → d ≤ 57 → AllDigits (l ++ d ∷ [])
unfolding AllDigits
one_more [] d h a b = (a, b, tt)
one_more (x ∷ l) d h a b = (h.0, h.1, one_more l d h.2 a b)

only-digits : (k n : ℕ) → AllDigits (decimal k n)
unfolding decimal AllDigits
only-digits zero n = tt
only-digits (suc k) n = go (ltb n 10) refl (only-digits k (n / 10))
  where
    go : (b : Bool) → ltb n 10 ≡ b → AllDigits (decimal k (n / 10)) → AllDigits (decimal (suc k) n)
    go true e f =
        let h : n < 10 = ltb-true n 10 e in
        rw e (omega arith, omega arith, tt)
    go false e f = rw e (one_more (decimal k (n / 10)) (48 + n % 10) f (omega arith) (omega arith))

-- the first of the digits is above 48
unfoldable First : List ℕ → Type 0
First [] = ⊥
First (d ∷ l) = 48 < d

first-stays : (l : List ℕ) (d : ℕ) → First l → First (l ++ d ∷ [])
unfolding First
first-stays [] d h = absurd h
first-stays (x ∷ l) d h = h

first : (k n : ℕ) → 0 < n → n < tens k → First (decimal k n)
unfolding decimal First tens
first zero n p h = absurd (omega arith)
first (suc k) n p h = go (ltb n 10) refl (λ q m. first k (n / 10) q m)
  where
    go : (b : Bool) → ltb n 10 ≡ b → (0 < n / 10 → n / 10 < tens k → First (decimal k (n / 10))) → First (decimal (suc k) n)
    go true e f = rw e (omega arith)
    go false e f =
        let m : 10 ≤ n = ltb-false n 10 e in
        rw e (first-stays (decimal k (n / 10)) (48 + n % 10) (f (omega arith) (omega arith)))

not-zero : (l : List ℕ) → First l → NoLeadingZero l
unfolding First NoLeadingZero
not-zero [] h = absurd h
not-zero (d ∷ []) h = tt
not-zero (d ∷ e ∷ l) h = h

no_zero : (k n : ℕ) → n < tens (suc k) → NoLeadingZero (decimal (suc k) n)
unfolding decimal NoLeadingZero
no_zero k zero h = tt
no_zero k (suc m) h = not-zero (decimal (suc k) (suc m)) (first (suc k) (suc m) (omega arith) h)

pub lengths-shown : LengthsShown
unfolding tens
lengths-shown n h = record { value = whole 20 n (omega arith); all_digits = only-digits 20 n; no_leading_zero = no_zero 19 n (omega arith) }
