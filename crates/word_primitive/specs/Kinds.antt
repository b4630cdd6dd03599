-- The 42 kinds by the low byte of an index, and the eight indirections by its bits 8 to 11. To compare: a line is an arm of the two matches of
-- primitive.rs, in their order; `(0x74 is I32)` is `0x74 => PrimitiveKind::I32`, `(6 is Near64)` is `0x600 => Some(Indirection::Near64)`, Direct its None.
use Rattle.std.specs.Prelude.{List, [], ◌∷◌}
use Rattle.answer.specs.Tables.{Line, ◌is◌}
use Rattle.word_primitive.specs.declared.PrimitiveKind.{PrimitiveKind}
use Rattle.word_primitive.specs.declared.PrimitiveKind.TheVariants.{NoType, Void, Char, UChar, RChar, WChar, RChar16, RChar32, I8, U8, Short, UShort, I16, U16, Long, ULong, I32, U32, Quad, UQuad, I64, U64, Octa, UOcta, I128, U128, F16, F32, F32PP, F48, F64, F80, F128, Complex32, Complex64, Complex80, Complex128, Bool8, Bool16, Bool32, Bool64, HRESULT}
use Rattle.word_primitive.specs.declared.Indirection.{Indirection}
use Rattle.word_primitive.specs.declared.Indirection.TheVariants.{Direct, Near16, Far16, Huge16, Near32, Far32, Near64, Near128}

unfoldable pub kinds : List (Line PrimitiveKind)
kinds =
    (0x00 is NoType)
    ∷ (0x03 is Void)
    ∷ (0x08 is HRESULT)
    ∷ (0x10 is Char)
    ∷ (0x20 is UChar)
    ∷ (0x68 is I8)
    ∷ (0x69 is U8)
    ∷ (0x70 is RChar)
    ∷ (0x71 is WChar)
    ∷ (0x7a is RChar16)
    ∷ (0x7b is RChar32)
    ∷ (0x11 is Short)
    ∷ (0x21 is UShort)
    ∷ (0x72 is I16)
    ∷ (0x73 is U16)
    ∷ (0x12 is Long)
    ∷ (0x22 is ULong)
    ∷ (0x74 is I32)
    ∷ (0x75 is U32)
    ∷ (0x13 is Quad)
    ∷ (0x23 is UQuad)
    ∷ (0x76 is I64)
    ∷ (0x77 is U64)
    ∷ (0x14 is Octa)
    ∷ (0x24 is UOcta)
    ∷ (0x78 is I128)
    ∷ (0x79 is U128)
    ∷ (0x46 is F16)
    ∷ (0x40 is F32)
    ∷ (0x45 is F32PP)
    ∷ (0x44 is F48)
    ∷ (0x41 is F64)
    ∷ (0x42 is F80)
    ∷ (0x43 is F128)
    ∷ (0x50 is Complex32)
    ∷ (0x51 is Complex64)
    ∷ (0x52 is Complex80)
    ∷ (0x53 is Complex128)
    ∷ (0x30 is Bool8)
    ∷ (0x31 is Bool16)
    ∷ (0x32 is Bool32)
    ∷ (0x33 is Bool64)
    ∷ []

unfoldable pub indirections : List (Line Indirection)
indirections =
    (0 is Direct)
    ∷ (1 is Near16)
    ∷ (2 is Far16)
    ∷ (3 is Huge16)
    ∷ (4 is Near32)
    ∷ (5 is Far32)
    ∷ (6 is Near64)
    ∷ (7 is Near128)
    ∷ []
