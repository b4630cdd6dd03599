-- The sizes of the primitives, 0 where there is none: the columns "size" of docs/SPELLINGS.md.
use Rattle.std.specs.Prelude.{ℕ}
use Rattle.word_primitive.specs.declared.PrimitiveKind.{PrimitiveKind}
use Rattle.word_primitive.specs.declared.PrimitiveKind.TheVariants as kind
use Rattle.word_primitive.specs.declared.Indirection.{Indirection}
use Rattle.word_primitive.specs.declared.Indirection.TheVariants as by

abbrev pub kind_size : PrimitiveKind → ℕ
kind_size kind.NoType = 0
kind_size kind.Void = 0
kind_size kind.Char = 1
kind_size kind.UChar = 1
kind_size kind.RChar = 1
kind_size kind.WChar = 2
kind_size kind.RChar16 = 2
kind_size kind.RChar32 = 4
kind_size kind.I8 = 1
kind_size kind.U8 = 1
kind_size kind.Short = 2
kind_size kind.UShort = 2
kind_size kind.I16 = 2
kind_size kind.U16 = 2
kind_size kind.Long = 4
kind_size kind.ULong = 4
kind_size kind.I32 = 4
kind_size kind.U32 = 4
kind_size kind.Quad = 8
kind_size kind.UQuad = 8
kind_size kind.I64 = 8
kind_size kind.U64 = 8
kind_size kind.Octa = 16
kind_size kind.UOcta = 16
kind_size kind.I128 = 16
kind_size kind.U128 = 16
kind_size kind.F16 = 2
kind_size kind.F32 = 4
kind_size kind.F32PP = 4
kind_size kind.F48 = 6
kind_size kind.F64 = 8
kind_size kind.F80 = 10
kind_size kind.F128 = 16
kind_size kind.Complex32 = 8
kind_size kind.Complex64 = 16
kind_size kind.Complex80 = 20
kind_size kind.Complex128 = 32
kind_size kind.Bool8 = 1
kind_size kind.Bool16 = 2
kind_size kind.Bool32 = 4
kind_size kind.Bool64 = 8
kind_size kind.HRESULT = 4

-- a primitive that is pointed to is as large as the pointer
abbrev pub primitive_size : PrimitiveKind → Indirection → ℕ
primitive_size k by.Direct = kind_size k
primitive_size k by.Near16 = 2
primitive_size k by.Far16 = 4
primitive_size k by.Huge16 = 4
primitive_size k by.Near32 = 4
primitive_size k by.Far32 = 6
primitive_size k by.Near64 = 8
primitive_size k by.Near128 = 16
