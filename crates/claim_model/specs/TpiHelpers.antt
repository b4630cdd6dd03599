-- Helpers of tpi/data.rs and tpi/id.rs: optional indices, strings by leaf, padding; and common.rs 590. The number behind a line is the Rust's.
use Rattle.std.specs.Prelude.{Option, None, Some, ℕ, zero, suc, Bool, List, length, ltb, leb, eqb}
use Rattle.std.specs.Int.Bits.{bit_and}
use Rattle.claim_model.specs.Rust.{Rust, gives, panics, if, not, either_true, lessens, ◌>>=◌}
use Rattle.claim_model.specs.ParseBuffer.{ParseBuffer, is_empty, parse, peek, take, parse_cstring, parse_u8_pascal_string}

-- data.rs 439
unfoldable pub parse_optional_type_index : ParseBuffer → Rust (Option ℕ × ParseBuffer)
parse_optional_type_index buf = do
  (index, buf) ← parse 4 buf  -- 440
  if (either_true (eqb index 0) (eqb index 0xffff)) (gives (None, buf)) (gives (Some index, buf))  -- 441, 442, 444

-- id.rs 7
unfoldable pub parse_optional_id_index : ParseBuffer → Rust (Option ℕ × ParseBuffer)
parse_optional_id_index buf = do
  (index, buf) ← parse 4 buf  -- 8
  if (eqb index 0) (gives (None, buf)) (gives (Some index, buf))  -- 9, 10

-- data.rs 449 and id.rs 15
unfoldable pub parse_string : ℕ → ParseBuffer → Rust (List ℕ × ParseBuffer)
parse_string leaf buf = if (ltb 0x1500 leaf) (parse_cstring buf) (parse_u8_pascal_string buf)  -- 450, 451, 453

-- data.rs 460 to 465: what the loop does with a pad byte
unfoldable pub pad_byte : ParseBuffer → Rust ParseBuffer
pad_byte buf = do
  (padding, buf) ← parse 1 buf  -- 460
  if (ltb 0xf0 padding) (do  -- 461
    n ← lessens (bit_and padding 0x0f) 1  -- 464
    (_, buf) ← take buf n
    gives buf) (gives buf)

-- data.rs 459: the loop, for at most n tests of its condition. What it does after them is left open, as a panic is
unfoldable pub padding_loop : ℕ → ParseBuffer → Rust ParseBuffer
padding_loop zero buf = panics
padding_loop (suc n) buf = do
  over ← is_empty buf  -- 459
  if over (gives buf) (do
    byte ← peek 1 buf  -- 459
    if (leb 0xf0 byte) (do
      buf ← pad_byte buf
      padding_loop n buf) (gives buf))

-- data.rs 458: every turn moves on by a byte at least, so that the tests are enough: proofs/HelpersEqual.antt
unfoldable pub parse_padding : ParseBuffer → Rust ParseBuffer
parse_padding buf = padding_loop (suc (length buf.bytes)) buf

-- common.rs 590
abbrev pub is_cross_module : ℕ → Bool
is_cross_module index = not (eqb (bit_and index 0x80000000) 0)  -- 591
