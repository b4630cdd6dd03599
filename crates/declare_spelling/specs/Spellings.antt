-- R-5 of document 02: "the house spellings .. of the 42 primitives and seven indirections", those of pointer modes, and the qualifiers.
-- docs/SPELLINGS.md is this table beside the sizes; tools/spellings holds it to this file.
use Rattle.std.specs.Prelude.{ℕ, Bool, true, false, List, [], ◌∷◌, eqb}
use Prim.Native.Char.{code}
use Prim.Native.String.{String}
use Prim.Native.String as string
use Rattle.answer.specs.Answer.{pick}
use Rattle.word_primitive.specs.declared.PrimitiveKind.{PrimitiveKind}
use Rattle.word_primitive.specs.declared.PrimitiveKind.TheVariants as kind
use Rattle.word_primitive.specs.declared.Indirection.{Indirection}
use Rattle.word_primitive.specs.declared.Indirection.TheVariants as by
use Rattle.declare_spelling.specs.declared.Quals.{Quals}

-- the bytes of a quoted text
abbrev pub quoted : String → List ℕ
quoted string.[] = []
quoted (string.◌∷◌ c s) = code c ∷ quoted s

-- the 42 kinds
unfoldable pub kind_text : PrimitiveKind → List ℕ
kind_text kind.NoType = quoted "..."
kind_text kind.Void = quoted "void"
kind_text kind.Char = quoted "signed char"
kind_text kind.UChar = quoted "unsigned char"
kind_text kind.RChar = quoted "char"
kind_text kind.WChar = quoted "wchar_t"
kind_text kind.RChar16 = quoted "char16_t"
kind_text kind.RChar32 = quoted "char32_t"
kind_text kind.I8 = quoted "int8_t"
kind_text kind.U8 = quoted "uint8_t"
kind_text kind.Short = quoted "short"
kind_text kind.UShort = quoted "unsigned short"
kind_text kind.I16 = quoted "int16_t"
kind_text kind.U16 = quoted "uint16_t"
kind_text kind.Long = quoted "long"
kind_text kind.ULong = quoted "unsigned long"
kind_text kind.I32 = quoted "int"
kind_text kind.U32 = quoted "unsigned int"
kind_text kind.Quad = quoted "long long"
kind_text kind.UQuad = quoted "unsigned long long"
kind_text kind.I64 = quoted "int64_t"
kind_text kind.U64 = quoted "uint64_t"
kind_text kind.Octa = quoted "__int128"
kind_text kind.UOcta = quoted "unsigned __int128"
kind_text kind.I128 = quoted "int128_t"
kind_text kind.U128 = quoted "uint128_t"
kind_text kind.F16 = quoted "_Float16"
kind_text kind.F32 = quoted "float"
kind_text kind.F32PP = quoted "__float32pp"
kind_text kind.F48 = quoted "__float48"
kind_text kind.F64 = quoted "double"
kind_text kind.F80 = quoted "long double"
kind_text kind.F128 = quoted "__float128"
kind_text kind.Complex32 = quoted "float _Complex"
kind_text kind.Complex64 = quoted "double _Complex"
kind_text kind.Complex80 = quoted "long double _Complex"
kind_text kind.Complex128 = quoted "__float128 _Complex"
kind_text kind.Bool8 = quoted "bool"
kind_text kind.Bool16 = quoted "__bool16"
kind_text kind.Bool32 = quoted "__bool32"
kind_text kind.Bool64 = quoted "__bool64"
kind_text kind.HRESULT = quoted "HRESULT"

-- the indirections, each as it stands before what the primitive declares
unfoldable pub indirection_text : Indirection → List ℕ
indirection_text by.Direct = []
indirection_text by.Near16 = quoted "__near *"
indirection_text by.Far16 = quoted "__far *"
indirection_text by.Huge16 = quoted "__huge *"
indirection_text by.Near32 = quoted "*"
indirection_text by.Far32 = quoted "__far32 *"
indirection_text by.Near64 = quoted "*"
indirection_text by.Near128 = quoted "__ptr128 *"

-- the modes of a pointer word, 0 to 4: pointer, reference, to a data member, to a member function, rvalue reference
unfoldable pub mode_text : ℕ → List ℕ
mode_text m =
    pick (eqb m 0) (quoted "*")
    (pick (eqb m 1) (quoted "&")
    (pick (eqb m 2) (quoted "::*")
    (pick (eqb m 3) (quoted "::*") (quoted "&&"))))

-- const, volatile, __unaligned, __restrict, in this order, each once
unfoldable pub words_of : Bool → Bool → Bool → Bool → List ℕ
words_of false false false false = []
words_of false false false true = quoted "__restrict"
words_of false false true false = quoted "__unaligned"
words_of false false true true = quoted "__unaligned __restrict"
words_of false true false false = quoted "volatile"
words_of false true false true = quoted "volatile __restrict"
words_of false true true false = quoted "volatile __unaligned"
words_of false true true true = quoted "volatile __unaligned __restrict"
words_of true false false false = quoted "const"
words_of true false false true = quoted "const __restrict"
words_of true false true false = quoted "const __unaligned"
words_of true false true true = quoted "const __unaligned __restrict"
words_of true true false false = quoted "const volatile"
words_of true true false true = quoted "const volatile __restrict"
words_of true true true false = quoted "const volatile __unaligned"
words_of true true true true = quoted "const volatile __unaligned __restrict"

abbrev pub quals_text : Quals → List ℕ
quals_text q = words_of q.constant q.volatile q.unaligned q.restrict
