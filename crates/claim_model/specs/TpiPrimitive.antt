-- tpi/primitive.rs: `type_data_for_primitive`. The number behind a line is the Rust's. The kinds and the indirections go by the port's names, which
-- are the crate's.
use Rattle.std.specs.Prelude.{Option, None, Some, ℕ, List, [], ◌∷◌, ltb}
use Rattle.std.specs.Int.Bits.{bit_and}
use Rattle.answer.specs.Tables.{Line, ◌is◌}
use Rattle.word_primitive.specs.declared.PrimitiveKind.{PrimitiveKind}
use Rattle.word_primitive.specs.declared.PrimitiveKind.TheVariants.{NoType, Void, Char, UChar, RChar, WChar, RChar16, RChar32, I8, U8, Short, UShort, I16, U16, Long, ULong, I32, U32, Quad, UQuad, I64, U64, Octa, UOcta, I128, U128, F16, F32, F32PP, F48, F64, F80, F128, Complex32, Complex64, Complex80, Complex128, Bool8, Bool16, Bool32, Bool64, HRESULT}
use Rattle.word_primitive.specs.declared.Indirection.{Indirection}
use Rattle.word_primitive.specs.declared.Indirection.TheVariants.{Near16, Far16, Huge16, Near32, Far32, Near64, Near128}
use Rattle.claim_model.specs.Rust.{Rust, gives, errs, assert, match, type_not_found, ◌>>=◌, ◌>>◌}

-- 27
pub record PrimitiveType : Type 0 where
  pub kind : PrimitiveKind
  pub indirection : Option Indirection

-- 199 to 206
unfoldable pub indirection_arms : List (Line (Rust (Option Indirection)))
indirection_arms =
    (0x000 is gives None)  -- 199
    ∷ (0x100 is gives (Some Near16))  -- 200
    ∷ (0x200 is gives (Some Far16))  -- 201
    ∷ (0x300 is gives (Some Huge16))  -- 202
    ∷ (0x400 is gives (Some Near32))  -- 203
    ∷ (0x500 is gives (Some Far32))  -- 204
    ∷ (0x600 is gives (Some Near64))  -- 205
    ∷ (0x700 is gives (Some Near128))  -- 206
    ∷ []

-- 214 to 265
unfoldable pub primitive_kind_arms : List (Line (Rust PrimitiveKind))
primitive_kind_arms =
    (0x00 is gives NoType)  -- 214
    ∷ (0x03 is gives Void)  -- 216
    ∷ (0x08 is gives HRESULT)  -- 217
    ∷ (0x10 is gives Char)  -- 219
    ∷ (0x20 is gives UChar)  -- 220
    ∷ (0x68 is gives I8)  -- 221
    ∷ (0x69 is gives U8)  -- 222
    ∷ (0x70 is gives RChar)  -- 224
    ∷ (0x71 is gives WChar)  -- 225
    ∷ (0x7a is gives RChar16)  -- 226
    ∷ (0x7b is gives RChar32)  -- 227
    ∷ (0x11 is gives Short)  -- 229
    ∷ (0x21 is gives UShort)  -- 230
    ∷ (0x72 is gives I16)  -- 231
    ∷ (0x73 is gives U16)  -- 232
    ∷ (0x12 is gives Long)  -- 234
    ∷ (0x22 is gives ULong)  -- 235
    ∷ (0x74 is gives I32)  -- 236
    ∷ (0x75 is gives U32)  -- 237
    ∷ (0x13 is gives Quad)  -- 239
    ∷ (0x23 is gives UQuad)  -- 240
    ∷ (0x76 is gives I64)  -- 241
    ∷ (0x77 is gives U64)  -- 242
    ∷ (0x14 is gives Octa)  -- 244
    ∷ (0x24 is gives UOcta)  -- 245
    ∷ (0x78 is gives I128)  -- 246
    ∷ (0x79 is gives U128)  -- 247
    ∷ (0x46 is gives F16)  -- 249
    ∷ (0x40 is gives F32)  -- 250
    ∷ (0x45 is gives F32PP)  -- 251
    ∷ (0x44 is gives F48)  -- 252
    ∷ (0x41 is gives F64)  -- 253
    ∷ (0x42 is gives F80)  -- 254
    ∷ (0x43 is gives F128)  -- 255
    ∷ (0x50 is gives Complex32)  -- 257
    ∷ (0x51 is gives Complex64)  -- 258
    ∷ (0x52 is gives Complex80)  -- 259
    ∷ (0x53 is gives Complex128)  -- 260
    ∷ (0x30 is gives Bool8)  -- 262
    ∷ (0x31 is gives Bool16)  -- 263
    ∷ (0x32 is gives Bool32)  -- 264
    ∷ (0x33 is gives Bool64)  -- 265
    ∷ []

-- 191
unfoldable pub type_data_for_primitive : ℕ → Rust PrimitiveType
type_data_for_primitive index = do
  assert (ltb index 0x1000)  -- 195
  indirection ← match (bit_and index 0xf00) indirection_arms (errs (type_not_found index))  -- 198, 208
  kind ← match (bit_and index 0xff) primitive_kind_arms (errs (type_not_found index))  -- 213, 268
  gives (record { kind = kind; indirection = indirection })  -- 272
