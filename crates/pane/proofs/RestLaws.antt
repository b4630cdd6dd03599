-- Sums of remainders: the first c of them, by b, are q whole runs from 0 to b − 1 and one from 0 to r − 1. Assumes nothing.
use Prim.Native.Nat.{ℕ, zero, suc, ◌+◌, ◌-◌, ◌*◌, ◌/◌, ◌%◌, ◌<◌}
use mathlib.Core.Bool.{Bool, true, false}
use mathlib.Core.Path.{◌≡◌, refl, sym, ap, ◌∙◌}
use native.Mathlib.Nat.{div-eq_of_lt-le, div-add-mod', mod-lt, zero-div}
use native.Mathlib.Omega.{arith}
use lib.Dec.{eqb}
use borrow.Author.Tests.{eqb-true, eqb-false}

-- 0 + 1 + .. + (n − 1)
abbrev pub sums : ℕ → ℕ
sums zero = 0
sums (suc n) = sums n + n

gauss : (n : ℕ) → suc n * n ≡ sums (suc n) * 2
gauss zero = refl
gauss (suc n) = omega (arith, gauss n)

pub half : (n : ℕ) → n * (n - 1) / 2 ≡ sums n
half zero = refl
half (suc n) =
    let e : suc n - 1 ≡ n = omega arith in
    let g : suc n * n ≡ sums (suc n) * 2 = gauss n in
    ap (λ (x : ℕ). suc n * x / 2) e ∙ div-eq_of_lt-le 2 (omega arith) (omega arith)

-- the sum of d mod b over all d below c
abbrev pub rests : ℕ → ℕ → ℕ
rests b zero = 0
rests b (suc c) = rests b c + c % b

module _ (b : ℕ) (z : 0 < b) where
  -- one number on: in the same block, or at the start of the next
  stays : (c : ℕ) → (suc (c % b) ≡ b → ⊥) → (suc c / b ≡ c / b) × (suc c % b ≡ suc (c % b))
  stays c n =
      let a : c / b * b + c % b ≡ c = div-add-mod' c b in
      let l : c % b < b = mod-lt c z in
      let k : suc (c % b) < b = omega (arith, n) in
      let q : suc c / b ≡ c / b = div-eq_of_lt-le b (omega arith) (omega arith) in
      let m : suc c / b * b ≡ c / b * b = ap (λ (x : ℕ). x * b) q in
      (q, omega (arith, div-add-mod' (suc c) b))

  turns : (c : ℕ) → suc (c % b) ≡ b → (suc c / b ≡ suc (c / b)) × (suc c % b ≡ 0)
  turns c e =
      let a : c / b * b + c % b ≡ c = div-add-mod' c b in
      let q : suc c / b ≡ suc (c / b) = div-eq_of_lt-le b (omega arith) (omega arith) in
      let m : suc c / b * b ≡ suc (c / b) * b = ap (λ (x : ℕ). x * b) q in
      (q, omega (arith, div-add-mod' (suc c) b))

  pub rests-are : (c : ℕ) → rests b c ≡ c / b * sums b + sums (c % b)
  rests-are zero =
      let q : 0 / b ≡ 0 = zero-div b in
      let m : 0 / b * b ≡ 0 * b = ap (λ (x : ℕ). x * b) q in
      let r : 0 % b ≡ 0 = omega (arith, div-add-mod' 0 b) in
      let s : sums (0 % b) ≡ 0 = ap sums r in
      let p : 0 / b * sums b ≡ 0 * sums b = ap (λ (x : ℕ). x * sums b) q in
      omega arith
  rests-are (suc c) = go (eqb (suc (c % b)) b) refl (rests-are c)
    where
      go : (x : Bool) → eqb (suc (c % b)) b ≡ x → rests b c ≡ c / b * sums b + sums (c % b) → rests b c + c % b ≡ suc c / b * sums b + sums (suc c % b)
      go true e h =
          let w : suc (c % b) ≡ b = eqb-true _ _ e in
          let t = turns c w in
          let p : suc c / b * sums b ≡ suc (c / b) * sums b = ap (λ (x : ℕ). x * sums b) t.0 in
          let s : sums (suc c % b) ≡ 0 = ap sums t.1 in
          let u : sums b ≡ sums (c % b) + c % b = ap sums (sym w) in
          omega arith
      go false e h =
          let t = stays c (eqb-false _ _ e) in
          let p : suc c / b * sums b ≡ c / b * sums b = ap (λ (x : ℕ). x * sums b) t.0 in
          let s : sums (suc c % b) ≡ sums (c % b) + c % b = ap sums t.1 in
          omega arith
