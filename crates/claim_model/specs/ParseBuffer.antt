-- common.rs 685 to 822: `ParseBuffer`, bytes and a position. The number behind a line is the Rust's.
use Rattle.std.specs.Prelude.{Option, None, Some, ℕ, suc, ◌+◌, ◌<◌, List, [], ◌∷◌, Bool, length, get_or, take as front, drop, leb, eqb}
use Rattle.field.specs.Fields.{little_at}
use Rattle.claim_model.specs.Rust.{Rust, gives, errs, if, assert, fits_below, lessens, unexpected_eof, usize_top, ◌>>=◌, ◌>>◌}

-- 685: struct ParseBuffer<'b>(&'b [u8], usize)
pub record ParseBuffer : Type 0 where
  pub bytes : List ℕ
  pub pos : ℕ

abbrev pub at : List ℕ → ℕ → ParseBuffer
at s p = record { bytes = s; pos = p }

-- what a `&[u8]` is: its bytes are below 256, its length is a usize
pub record Bytes (s : List ℕ) : Type 0 where
  pub bytes : (i : ℕ) → get_or s i 0 < 256
  pub sized : length s < usize_top

-- 825: fn from(buf: &'b [u8]) -> Self
abbrev pub from : List ℕ → ParseBuffer
from s = at s 0

-- 712: self.0.len() - self.1
unfoldable pub len : ParseBuffer → Rust ℕ
len buf = lessens (length buf.bytes) buf.pos

-- 718: self.len() == 0
unfoldable pub is_empty : ParseBuffer → Rust Bool
is_empty buf = do
  n ← len buf
  gives (eqb n 0)

-- 764: self.0.gread_with(&mut self.1, LE), a number of k bytes: where fewer are left, scroll errs with BadOffset or TooBig, of which common.rs
-- 204 makes UnexpectedEof
unfoldable pub parse : ℕ → ParseBuffer → Rust (ℕ × ParseBuffer)
parse k buf = if (leb (buf.pos + k) (length buf.bytes)) (gives (little_at k buf.bytes buf.pos, at buf.bytes (buf.pos + k))) (errs unexpected_eof)

-- 703: self.0.pread_with(self.1, LE), the same without moving
unfoldable pub peek : ℕ → ParseBuffer → Rust ℕ
peek k buf = do
  (n, _) ← parse k buf
  gives n

-- 813
unfoldable pub take : ParseBuffer → ℕ → Rust (List ℕ × ParseBuffer)
take buf n = do
  assert (leb buf.pos (length buf.bytes))  -- 814
  let input = drop buf.pos buf.bytes
  if (leb n (length input)) (do  -- 815
    pos ← fits_below usize_top (buf.pos + n)  -- 816
    gives (front n input, at buf.bytes pos)) (errs unexpected_eof)  -- 817, 819

-- one place further on
abbrev pub beyond : Option ℕ → Option ℕ
beyond None = None
beyond (Some n) = Some (suc n)

-- .iter().position(|ch| *ch == 0)
unfoldable pub position : List ℕ → Option ℕ
position [] = None
position (b ∷ bs) = if (eqb b 0) (Some 0) (beyond (position bs))

-- `if let Some(..)`
abbrev pub if_some : {A B : Type 0} → Option A → (A → B) → B → B
if_some (Some a) f b = f a
if_some None f b = b

-- 792
unfoldable pub parse_cstring : ParseBuffer → Rust (List ℕ × ParseBuffer)
parse_cstring buf = do
  assert (leb buf.pos (length buf.bytes))  -- 793
  let input = drop buf.pos buf.bytes
  let null_idx = position input  -- 794
  if_some null_idx (λ idx. do  -- 796
    pos ← fits_below usize_top (buf.pos + (idx + 1))  -- 797
    gives (front idx input, at buf.bytes pos)) (errs unexpected_eof)  -- 798, 800

-- 806
unfoldable pub parse_u8_pascal_string : ParseBuffer → Rust (List ℕ × ParseBuffer)
parse_u8_pascal_string buf = do
  (length, buf) ← parse 1 buf  -- 807
  take buf length  -- 808
