-- The laws of a string: a step of its search. Assumes nothing.
use Rattle.std.specs.Prelude.{None, Some}
use Rattle.std.proofs.Common.{◌≡◌, ℕ, zero, suc, ◌+◌, ◌-◌, ◌<◌, ◌≤◌, List, ◌∷◌, length, get_or, drop, refl, add-one, arith, drop_of_length-le, drop-cons}
use Rattle.answer.specs.Answer.{got, ended}
use Rattle.field_text.specs.Texts.{to_zero, string_at}

pub at_zero : (x : ℕ) (bs : List ℕ) (n : ℕ) → x ≡ 0 → to_zero (x ∷ bs) n ≡ Some n
unfolding to_zero
at_zero zero bs n h = refl
at_zero (suc x) bs n h = absurd (omega arith)

pub past : (x : ℕ) (bs : List ℕ) (n : ℕ) → (x ≡ 0 → ⊥) → to_zero (x ∷ bs) n ≡ to_zero bs (suc n)
unfolding to_zero
past zero bs n h = absurd (h refl)
past (suc x) bs n h = refl

-- the search at place i, after the string's n bytes before it: it goes on, finds the end, or runs out
module _ (s : List ℕ) (i n : ℕ) where
  pub goes_on : i < length s → (get_or s i 0 ≡ 0 → ⊥) → to_zero (drop i s) n ≡ to_zero (drop (i + 1) s) (n + 1)
  goes_on h ne = rw (add-one i, add-one n, drop-cons s i 0) (past _ _ _ ne)

  pub finds : i < length s → get_or s i 0 ≡ 0 → to_zero (drop i s) n ≡ Some n
  finds h e = rw (drop-cons s i 0) (at_zero _ _ _ e)

  pub runs-out : length s ≤ i → to_zero (drop i s) n ≡ None
  unfolding to_zero
  runs-out h = rw (drop_of_length-le s h)

pub found : (s : List ℕ) (p i : ℕ) → p ≤ i → to_zero (drop p s) 0 ≡ Some (i - p) → got (record { place = p; length = i - p }) (i + 1) ≡ string_at s p
unfolding string_at
found s p i h e = let f : p + (i - p) ≡ i = omega arith in rw (e, f)

pub lost : (s : List ℕ) (p : ℕ) → to_zero (drop p s) 0 ≡ None → ended ≡ string_at s p
unfolding string_at
lost s p e = rw e
