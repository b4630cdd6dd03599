-- Document 01's examples of primitives, computed by the definition that the contract cites. Assumes nothing.
use mathlib.Core.Path.{◌≡◌, refl}
use mathlib.Core.List.{[], ◌∷◌}
use Rattle.answer.specs.Answer.{answered, refused}
use Rattle.answer.specs.Tables.{find}
use Rattle.word_primitive.specs.Kinds.{kinds, indirections}
use Rattle.word_primitive.specs.Primitive.{primitive_of}
use Rattle.word_primitive.specs.declared.PrimitiveKind.TheVariants.{I32}
use Rattle.word_primitive.specs.declared.Indirection.TheVariants.{Near64}

pub i32-by-near64 : primitive_of 0x0674 ≡ answered (record { kind = I32; indirection = Near64 })
unfolding primitive_of find kinds indirections
i32-by-near64 = refl

pub indirection-8 : primitive_of 0x0874 ≡ refused 8 (0x0874 ∷ [])
unfolding primitive_of find kinds indirections
indirection-8 = refl

pub no-kind-4 : primitive_of 0x0004 ≡ refused 8 (0x0004 ∷ [])
unfolding primitive_of find kinds indirections
no-kind-4 = refl

pub from-0x1000 : primitive_of 0x1000 ≡ refused 8 (0x1000 ∷ [])
unfolding primitive_of find kinds indirections
from-0x1000 = refl
