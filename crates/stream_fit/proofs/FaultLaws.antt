-- The rule that a reference breaks, a law for each outcome. Assumes nothing.
use Prim.Native.Nat.{ℕ, ◌≤◌, ◌<◌}
use native.Mathlib.Omega.{arith}
use mathlib.Core.Bool.{Bool, true, false}
use mathlib.Core.Path.{◌≡◌, refl, ◌∙◌}
use lib.Dec.{ltb}
use borrow.Author.Tests.{le-leb, lt-leb, le-ltb, lt-ltb}
use Rattle.answer.specs.Answer.{pick}
use Rattle.word_primitive.specs.Primitive.{primitive_of}
use Rattle.record_layout.specs.Layouts.{is_answered}
use Rattle.std.specs.Prelude.{Option, None, Some}
use Rattle.stream_fit.specs.Worst.{rule_or_6, fault_of, lesser}
use Rattle.stream_fit.specs.declared.Rule.{Rule}
use Rattle.stream_fit.specs.declared.Rule.TheVariants as rule

swapped : (b : Bool) → pick {A = ℕ} b 6 4 ≡ pick (pick b false true) 4 6
swapped true = refl
swapped false = refl

module _ (minimum index n : ℕ) where
  pub out_of_order : minimum ≤ n → index ≤ n → 3 ≡ fault_of minimum index n
  out_of_order a b = simp (le-leb _ _ a, le-leb _ _ b)

  -- a primitive, below the minimum or not
  pub primitive-high : (r : ℕ) → minimum ≤ n → n < index → n < 0x1000 → r ≡ pick (is_answered (primitive_of n)) 6 4 → r ≡ fault_of minimum index n
  primitive-high r a b h e = e ∙ swapped (is_answered (primitive_of n)) ∙ simp (le-leb _ _ a, lt-leb _ _ b, lt-ltb _ _ h, lt-leb _ _ h)

  pub primitive-low : (r : ℕ) → n < minimum → n < 0x1000 → r ≡ pick (is_answered (primitive_of n)) 6 4 → r ≡ fault_of minimum index n
  primitive-low r a h e = e ∙ swapped (is_answered (primitive_of n)) ∙ simp (lt-leb _ _ a, lt-ltb _ _ h, lt-leb _ _ h)

  pub no-fault : minimum ≤ n → n < index → 0x1000 ≤ n → 6 ≡ fault_of minimum index n
  no-fault a b h = simp (le-leb _ _ a, lt-leb _ _ b, le-ltb _ _ h, le-leb _ _ h, le-ltb _ _ a)

  pub in-the-gap : n < minimum → 0x1000 ≤ n → 5 ≡ fault_of minimum index n
  in-the-gap a h = simp (lt-leb _ _ a, le-ltb _ _ h, le-leb _ _ h, lt-ltb _ _ a)

pub lesser-new : (w b f : ℕ) → b ≡ f → b < w → b ≡ lesser w f
lesser-new w b f e h = e ∙ go (ltb f w) (rw e at (lt-ltb b w h))
  where
    go : (t : Bool) → t ≡ true → f ≡ pick t f w
    go true i = refl
    go false i = let z : ◌≡◌ {A = ℕ} 0 1 = cc in absurd (omega arith)

pub lesser-old : (w b f : ℕ) → b ≡ f → w ≤ b → w ≡ lesser w f
lesser-old w b f e h = go (ltb f w) (rw e at (le-ltb b w h))
  where
    go : (t : Bool) → t ≡ false → w ≡ pick t f w
    go true i = let z : ◌≡◌ {A = ℕ} 0 1 = cc in absurd (omega arith)
    go false i = refl

-- of two rules of the code's, one of them none
pub first-only : (b : Option Rule) → rule_or_6 b ≡ lesser 6 (rule_or_6 b)
first-only None = refl
first-only (Some rule.Count) = refl
first-only (Some rule.Decode) = refl
first-only (Some rule.Order) = refl
first-only (Some rule.Primitive) = refl
first-only (Some rule.Gap) = refl

pub second-none : (a : Option Rule) → rule_or_6 a ≡ lesser (rule_or_6 a) 6
second-none None = refl
second-none (Some rule.Count) = refl
second-none (Some rule.Decode) = refl
second-none (Some rule.Order) = refl
second-none (Some rule.Primitive) = refl
second-none (Some rule.Gap) = refl
