-- Padding: what fills to a multiple of four, and that reading skips it. Assumes nothing.
use Prim.Native.Nat.{ℕ, zero, suc, ◌+◌, ◌%◌, ◌≤◌}
use native.Mathlib.Omega.{arith}
use mathlib.Core.Bool.{Bool, true}
use mathlib.Core.Path.{◌≡◌, refl, ap, ◌∙◌}
use mathlib.Core.List.{List, [], ◌∷◌, ◌++◌}
use lib.Dec.{ltb}
use borrow.Author.Tests.{le-ltb, lt-leb, ltb-true}
use Rattle.answer.specs.Answer.{answered}
use Rattle.field.proofs.ByteLaws.{Stands}
use Rattle.field_text.specs.Texts.{pad, padding_after}
use Rattle.write_layout.specs.Runs.{pads}
use Rattle.write_layout.specs.Records.{missing}

-- fewer than four, and with them a multiple of four
pub missing-few : (n : ℕ) → missing n ≤ 3
unfolding missing
missing-few n = omega arith

pub missing-fills : (n : ℕ) → (n + missing n) % 4 ≡ 0
unfolding missing
missing-fills n = omega arith

-- nothing that reads as padding begins here
unfoldable pub quiet : List ℕ → Bool
quiet [] = true
quiet (b ∷ bs) = ltb b 0xf0

stays : (p : ℕ) (ys : List ℕ) → quiet ys ≡ true → pad 0 p ys ≡ answered p
unfolding pad quiet
stays p [] h = refl
stays p (b ∷ bs) h = rw (lt-leb 0xf0 b (ltb-true b 0xf0 h))

-- f3 f2 f1, f2 f1, f1 and nothing are each skipped whole
pads-skip : (k p : ℕ) (ys : List ℕ) → k ≤ 3 → quiet ys ≡ true → pad 0 p (pads k ++ ys) ≡ answered (p + k)
unfolding pad pads
pads-skip zero p ys h e = stays p ys e ∙ ap answered (omega arith)
pads-skip (suc zero) p ys h e = stays (p + 1) ys e
pads-skip (suc (suc zero)) p ys h e = stays (p + 1 + 1) ys e ∙ ap answered (omega arith)
pads-skip (suc (suc (suc zero))) p ys h e = stays (p + 1 + 1 + 1) ys e ∙ ap answered (omega arith)
pads-skip (suc (suc (suc (suc k)))) p ys h e = absurd (omega arith)

-- the padding of a member, or of a record, reads as the place after it
pub padding-back : (s : List ℕ) (p k : ℕ) (ys : List ℕ) → k ≤ 3 → Stands s p (pads k) ys → quiet ys ≡ true → padding_after s p ≡ answered (p + k)
unfolding padding_after
padding-back s p k ys h st e = rw (le-ltb _ _ st.inside, st.here) (pads-skip k p ys h e)
