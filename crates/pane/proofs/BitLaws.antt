-- The bits of a signed number: as the machine has them, and by `-1 - x`, what fits there and what it gives. Assumes nothing.
use Prim.Native.Nat.{ℕ, suc, ◌-◌, ◌^◌, ◌≤◌, ◌<◌}
use mathlib.Core.Bool.{true, false}
use mathlib.Core.Path.{◌≡◌, refl, sym, ap, ◌∙◌, subst}
use native.Mathlib.Omega.{arith}
use lib.Dec.{T}
use lib.IntN.{ℤ, pos, negsuc, ◌-ℤ◌, nat_abs}
use lib.Signed.{mag, non_neg, lt_z}
use mir.Syntax.{w32, w64}
use mir.Val.{to_z, of_z, SFits, Fits}
use mir.Facts.{to_z-of_z}
use borrow.Author.Tests.{le-ltb, ltb-true}
use Rattle.pane.specs.Out.{bits32}

pub bits_are : (x : ℤ) → of_z w32 x ≡ bits32 x
bits_are (pos n) = refl
bits_are (negsuc n) = omega arith

-- By `-1 - x` --------------------------------------------------------------------------------------------------------------------------

minus : (n : ℕ) → negsuc 0 -ℤ negsuc n ≡ pos n
minus n = rw (le-ltb (suc n) 1 (omega arith)) (ap pos (omega arith))

-- of the number itself
low_fits : (x : ℤ) → lt_z x (pos 0) ≡ true → mag x < 2 ^ 31 → SFits w32 (negsuc 0 -ℤ x)
low_fits (pos n) t g = absurd (omega (arith, ltb-true n 0 t))
low_fits (negsuc n) t g = subst (SFits w32) (sym (minus n)) (record { sfits = g })

low-cast : (x : ℤ) → lt_z x (pos 0) ≡ true → mag x < 2 ^ 31 → T (non_neg (negsuc 0 -ℤ x)) × Fits w64 (nat_abs (negsuc 0 -ℤ x))
low-cast (pos n) t g = absurd (omega (arith, ltb-true n 0 t))
low-cast (negsuc n) t g = subst (λ (z : ℤ). T (non_neg z) × Fits w64 (nat_abs z)) (sym (minus n)) (tt, record { fits = omega arith })

low_small : (x : ℤ) → lt_z x (pos 0) ≡ true → mag x < 2 ^ 31 → nat_abs (negsuc 0 -ℤ x) ≤ 4294967295
low_small (pos n) t g = absurd (omega (arith, ltb-true n 0 t))
low_small (negsuc n) t g = subst (λ (z : ℤ). nat_abs z ≤ 4294967295) (sym (minus n)) (omega arith)

low-is : (x : ℤ) → lt_z x (pos 0) ≡ true → 4294967295 - nat_abs (negsuc 0 -ℤ x) ≡ bits32 x
low-is (pos n) t = absurd (omega (arith, ltb-true n 0 t))
low-is (negsuc n) t = ap (λ (z : ℤ). 4294967295 - nat_abs z) (minus n)

high-cast : (x : ℤ) → lt_z x (pos 0) ≡ false → mag x < 2 ^ 31 → T (non_neg x) × Fits w64 (nat_abs x)
high-cast (pos n) t g = (tt, record { fits = omega arith })
high-cast (negsuc n) t g = let z : ◌≡◌ {A = ℕ} 0 1 = cc in absurd (omega arith)

high_is : (x : ℤ) → lt_z x (pos 0) ≡ false → nat_abs x ≡ bits32 x
high_is (pos n) t = refl
high_is (negsuc n) t = let z : ◌≡◌ {A = ℕ} 0 1 = cc in absurd (omega arith)

-- of the number that its bits are
module _ (x : ℤ) (g : mag x < 2 ^ 31) where
  pub back : to_z w32 (of_z w32 x) ≡ x
  back = to_z-of_z {w = w32} (record { sfits = g })

  module _ (t : lt_z (to_z w32 (of_z w32 x)) (pos 0) ≡ true) where
    low : lt_z x (pos 0) ≡ true
    low = ap (λ (z : ℤ). lt_z z (pos 0)) (sym back) ∙ t

    again : to_z w32 (of_z w32 (negsuc 0 -ℤ to_z w32 (of_z w32 x))) ≡ negsuc 0 -ℤ x
    again = ap (λ (z : ℤ). to_z w32 (of_z w32 (negsuc 0 -ℤ z))) back ∙ to_z-of_z (low_fits x low g)

    pub less-fits : SFits w32 (negsuc 0 -ℤ to_z w32 (of_z w32 x))
    less-fits = subst (λ (z : ℤ). SFits w32 (negsuc 0 -ℤ z)) (sym back) (low_fits x low g)

    pub less-cast : T (non_neg (to_z w32 (of_z w32 (negsuc 0 -ℤ to_z w32 (of_z w32 x))))) × Fits w64 (nat_abs (to_z w32 (of_z w32 (negsuc 0 -ℤ to_z w32 (of_z w32 x)))))
    less-cast = subst (λ (z : ℤ). T (non_neg z) × Fits w64 (nat_abs z)) (sym again) (low-cast x low g)

    pub less-small : nat_abs (to_z w32 (of_z w32 (negsuc 0 -ℤ to_z w32 (of_z w32 x)))) ≤ 4294967295
    less-small = subst (λ (z : ℤ). nat_abs z ≤ 4294967295) (sym again) (low_small x low g)

    pub less-is : 4294967295 - nat_abs (to_z w32 (of_z w32 (negsuc 0 -ℤ to_z w32 (of_z w32 x)))) ≡ bits32 x
    less-is = ap (λ (z : ℤ). 4294967295 - nat_abs z) again ∙ low-is x low

  module _ (t : lt_z (to_z w32 (of_z w32 x)) (pos 0) ≡ false) where
    high : lt_z x (pos 0) ≡ false
    high = ap (λ (z : ℤ). lt_z z (pos 0)) (sym back) ∙ t

    pub same-cast : T (non_neg (to_z w32 (of_z w32 x))) × Fits w64 (nat_abs (to_z w32 (of_z w32 x)))
    same-cast = subst (λ (z : ℤ). T (non_neg z) × Fits w64 (nat_abs z)) (sym back) (high-cast x high g)

    pub same-is : nat_abs (to_z w32 (of_z w32 x)) ≡ bits32 x
    same-is = ap nat_abs back ∙ high_is x high
