-- What stands behind `out` for an attribute word, from what was computed for it; and that a pointer's kind and mode are named by their numbers. Assumes nothing.
use Rattle.std.specs.Prelude.{Option, None, Some}
use Prim.Native.Nat.{ℕ}
use mathlib.Core.Bool.{Bool}
use mathlib.Core.List.{List, [], ◌∷◌}
use mathlib.Core.Path.{◌≡◌, ap, ◌∙◌}
use native.Mathlib.Omega.{arith}
use Rattle.answer.specs.Answer.{Answer, answered}
use Rattle.answer.specs.Tables.{find}
use Rattle.word_attributes.specs.Bits.{bit, bits}
use Rattle.word_attributes.specs.Pointers.{pointer_kinds, pointer_modes, good_or_12, kind_of, mode_of}
use Rattle.word_attributes.specs.declared.PointerKind.{PointerKind}
use Rattle.word_attributes.specs.declared.PointerMode.{PointerMode}
use Rattle.pane_out.specs.Handed.{mark}
use Rattle.pane_word.specs.Words.{out_properties, or_zero, kind_field, mode_field, KindsNamed}

-- a flag that C gets, of what its method said
pub marked : (r : ℕ) (b x : Bool) → r ≡ mark b → b ≡ x → r ≡ mark x
marked r b x e h = e ∙ ap mark h

pub properties-are : (w x0 x1 x2 x3 x4 x5 x6 x7 x8 x9 x10 x11 x12 x13 : ℕ)
    → x0 ≡ mark (bit 0 w) → x1 ≡ mark (bit 1 w) → x2 ≡ mark (bit 2 w) → x3 ≡ mark (bit 3 w) → x4 ≡ mark (bit 4 w)
    → x5 ≡ mark (bit 5 w) → x6 ≡ mark (bit 6 w) → x7 ≡ mark (bit 7 w) → x8 ≡ mark (bit 8 w) → x9 ≡ mark (bit 9 w)
    → x10 ≡ mark (bit 10 w) → x11 ≡ bits 11 12 w → x12 ≡ mark (bit 13 w) → x13 ≡ bits 14 15 w
    → ◌≡◌ {A = ℕ × List ℕ} (0, 0 ∷ 0 ∷ x0 ∷ x1 ∷ x2 ∷ x3 ∷ x4 ∷ x5 ∷ x6 ∷ x7 ∷ x8 ∷ x9 ∷ x10 ∷ x11 ∷ x12 ∷ x13 ∷ []) (out_properties w)
properties-are w x0 x1 x2 x3 x4 x5 x6 x7 x8 x9 x10 x11 x12 x13 e0 e1 e2 e3 e4 e5 e6 e7 e8 e9 e10 e11 e12 e13 = rw (e0, e1, e2, e3, e4, e5, e6, e7, e8, e9, e10, e11, e12, e13)

-- ---- a good kind or mode stands in its list
listed : {A : Type 0} (o : Option A) (a : A) → good_or_12 o ≡ answered a → o ≡ Some a
listed (Some b) a e = cc
listed None a e = let z : ◌≡◌ {A = ℕ} 0 1 = cc in absurd (omega arith)

kind-named : (w : ℕ) (k : PointerKind) → kind_of w ≡ answered k → find (kind_field w) pointer_kinds ≡ Some k
unfolding kind_of
kind-named w k e = ap (λ (a : Answer PointerKind). find (or_zero (λ k. bits 0 4 w) a) pointer_kinds) e ∙ listed (find (bits 0 4 w) pointer_kinds) k e

mode-named : (w : ℕ) (m : PointerMode) → mode_of w ≡ answered m → find (mode_field w) pointer_modes ≡ Some m
unfolding mode_of
mode-named w m e = ap (λ (a : Answer PointerMode). find (or_zero (λ m. bits 5 7 w) a) pointer_modes) e ∙ listed (find (bits 5 7 w) pointer_modes) m e

pub named : KindsNamed
named = record { kind = kind-named; mode = mode-named }
