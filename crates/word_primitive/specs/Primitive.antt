-- Document 01, "Indices and primitives": what the primitive reader answers for every index.
use Rattle.std.specs.Prelude.{Option, None, Some, ℕ, ◌/◌, ◌%◌, ◌^◌, [], ◌∷◌, leb}
use Rattle.answer.specs.Answer.{Answer, answered, refused, pick}
use Rattle.answer.specs.Tables.{find}
use Rattle.word_primitive.specs.Kinds.{kinds, indirections}
use Rattle.word_primitive.specs.declared.PrimitiveType.{PrimitiveType}

-- 8, "not found", with the index
abbrev pub unknown : {A : Type 0} → ℕ → Answer A
unknown i = refused 8 (i ∷ [])

-- go on from what a list has; what it has not is unknown
abbrev pub known : {A B : Type 0} → ℕ → Option A → (A → Answer B) → Answer B
known i None f = unknown i
known i (Some a) f = f a

-- "A primitive is an index below 0x1000. Bits 8 to 11 are the indirection, .. else 8. The low byte is one of the 42 kinds, else 8.
-- An index from 0x1000 up given to the primitive reader is 8."
unfoldable pub primitive_of : ℕ → Answer PrimitiveType
primitive_of i =
    pick (leb 0x1000 i) (unknown i)
    (known i (find (i / 2 ^ 8 % 2 ^ 4) indirections) (λ d.
    known i (find (i % 2 ^ 8) kinds) (λ k.
    answered (record { kind = k; indirection = d }))))
