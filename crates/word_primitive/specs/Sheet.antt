-- Document 02, R-8: "Hold the answers in a table of 4,096 numbers, one per primitive index, with its rule shown over the whole table at once."
-- What number stands in the sheet for 01's answer, and what a number stands for.
use Rattle.std.specs.Prelude.{Option, None, Some, ℕ, ◌+◌, ◌*◌, ◌/◌, ◌%◌, ◌^◌, ◌≡◌, eqb}
use Rattle.answer.specs.Answer.{Answer, answered, refused, pick}
use Rattle.answer.specs.Tables.{find}
use Rattle.word_primitive.specs.Kinds.{kinds, indirections}
use Rattle.word_primitive.specs.Primitive.{unknown, primitive_of}
use Rattle.word_primitive.specs.declared.PrimitiveKind.{PrimitiveKind}
use Rattle.word_primitive.specs.declared.PrimitiveKind.TheVariants.{NoType}
use Rattle.word_primitive.specs.declared.Indirection.{Indirection}
use Rattle.word_primitive.specs.declared.Indirection.TheVariants.{Direct}
use Rattle.word_primitive.specs.declared.PrimitiveType.{PrimitiveType}

-- the number for what 01 answers of the index i: the kind's low byte and 256 times the indirection, 0xffff for 8
abbrev pub number_for : ℕ → Answer PrimitiveType → ℕ
number_for i (answered p) = i % 2 ^ 8 + 256 * (i / 2 ^ 8 % 2 ^ 4)
number_for i (refused n d) = 0xffff

-- the sheet: at every index, the number for 01's answer
unfoldable pub sheet_at : ℕ → ℕ
sheet_at i = number_for i (primitive_of i)

-- what a list has for a key, or else its first line
abbrev pub or_else : {A : Type 0} → A → Option A → A
or_else a None = a
or_else a (Some b) = b

-- the kind that a low byte stands for, and the indirection that a high byte stands for; each asked only where the sheet does not refuse
unfoldable pub kind_by : ℕ → PrimitiveKind
kind_by low = or_else NoType (find low kinds)

unfoldable pub indirection_by : ℕ → Indirection
indirection_by high = or_else Direct (find high indirections)

-- what the number e stands for, at the index i
abbrev pub answer_by : ℕ → ℕ → Answer PrimitiveType
answer_by i e = pick (eqb e 0xffff) (unknown i) (answered (record { kind = kind_by (e % 256); indirection = indirection_by (e / 256) }))

-- the rule of the whole sheet: at every index it stands for 01's answer
abbrev pub Sheet : Type 0
Sheet = (i : ℕ) → answer_by i (sheet_at i) ≡ primitive_of i
