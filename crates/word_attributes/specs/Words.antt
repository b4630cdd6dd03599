-- The fields of attribute words that are more than a bit or a field of bits.
use Rattle.std.specs.Prelude.{ℕ, Bool, [], ◌∷◌}
use Rattle.answer.specs.Tables.{among}
use Rattle.word_attributes.specs.Bits.{bits}

abbrev pub method_property : ℕ → ℕ
method_property w = bits 2 4 w

-- "if the method property is 4 or 6"
unfoldable pub introducing : ℕ → Bool
introducing w = among (method_property w) (4 ∷ 6 ∷ [])
