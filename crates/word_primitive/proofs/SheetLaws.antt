-- The rule of the whole sheet, computed over its 4,096 indices at once: what it has at an index stands for 01's answer. Assumes nothing.
use Prim.Native.Nat.{ℕ, ◌/◌, ◌%◌, ◌≤◌, ◌<◌}
use mathlib.Core.Bool.{Bool, true, false}
use mathlib.Core.Path.{◌≡◌, refl, sym, ◌∙◌, ap}
use mathlib.Core.List.{[], ◌∷◌}
use lib.Dec.{leb}
use borrow.Author.Tests.{le-leb, leb-true, leb-false, ne_eqb}
use Rattle.answer.specs.Answer.{Answer, answered, refused}
use Rattle.answer.specs.Tables.{find}
use Rattle.word_primitive.specs.Kinds.{kinds, indirections}
use Rattle.word_primitive.specs.Primitive.{unknown, primitive_of}
use Rattle.word_primitive.specs.Sheet.{sheet_at, kind_by, indirection_by, answer_by, Sheet}
use Rattle.word_primitive.specs.declared.PrimitiveKind.{PrimitiveKind}
use Rattle.word_primitive.specs.declared.Indirection.{Indirection}
use Rattle.word_primitive.specs.declared.PrimitiveType.{PrimitiveType}
use Rattle.word_primitive.proofs.SheetTable.{follows}

read : ℕ → Answer PrimitiveType
read i = answer_by i (sheet_at i)

-- below 0x1000 the two lists of 4,096 answers are one
below : (i : ℕ) → i < 4096 → answer_by i (sheet_at i) ≡ primitive_of i
unfolding read sheet_at primitive_of find kinds indirections kind_by indirection_by
below i h = sym (follows read 4096 i (unknown 0) h) ∙ follows primitive_of 4096 i (unknown 0) h

above : (i : ℕ) → 4096 ≤ i → answer_by i (sheet_at i) ≡ primitive_of i
unfolding sheet_at primitive_of
above i h = simp (le-leb 0x1000 i h)

pub sheet : Sheet
sheet i = go (leb 4096 i) refl
  where
    go : (b : Bool) → leb 4096 i ≡ b → answer_by i (sheet_at i) ≡ primitive_of i
    go true t = above i (leb-true _ _ t)
    go false t = below i (leb-false _ _ t)

-- a number that refuses, and one that does not
pub refuses : (i e : ℕ) → e ≡ sheet_at i → e ≡ 0xffff → refused 8 (i ∷ []) ≡ primitive_of i
refuses i e s h = sym (ap (answer_by i) (sym s ∙ h)) ∙ sheet i

pub answers : (i e : ℕ) (k : PrimitiveKind) (d : Indirection) → e ≡ sheet_at i → (e ≡ 0xffff → ⊥) → k ≡ kind_by (e % 256) → d ≡ indirection_by (e / 256) → answered (record { kind = k; indirection = d }) ≡ primitive_of i
answers i e k d s h sk sd = simp (sk, sd, sym (sheet i), sym s, ne_eqb e 0xffff h)
