-- tpi/header.rs: `Slice`, `Header`, `Header::empty` and `Header::parse`, and tpi/mod.rs 128 to 148. The number behind a line is the Rust's.
use Rattle.std.specs.Prelude.{ℕ, List, ℤ, ltb, eqb}
use Rattle.std.specs.Int.{w32}
use Rattle.std.proofs.Common.{to_z}
use Rattle.claim_model.specs.Rust.{Rust, gives, if, assert, err_if, lessens, as_u32, invalid_type_information_header, impossibly_small, unreasonably_large, minimum_low, maximum_low, ◌>>=◌, ◌>>◌}
use Rattle.claim_model.specs.ParseBuffer.{ParseBuffer, from, is_empty, parse, take}

-- 12
pub record Slice : Type 0 where
  pub offset : ℤ
  pub size : ℕ

-- 20
pub record Header : Type 0 where
  pub version : ℕ
  pub header_size : ℕ
  pub minimum_index : ℕ
  pub maximum_index : ℕ
  pub gprec_size : ℕ
  pub tpi_hash_stream : ℕ
  pub tpi_hash_pad_stream : ℕ
  pub hash_key_size : ℕ
  pub hash_bucket_size : ℕ
  pub hash_values : Slice
  pub ti_off : Slice
  pub hash_adj : Slice

-- an i32 is the two's complement of its four bytes
abbrev pub slice : ℕ → ℕ → Slice
slice o n = record { offset = to_z w32 o; size = n }

-- 36
abbrev pub empty : Header
empty = record {
  version = 0;
  header_size = 0;
  minimum_index = 0;
  maximum_index = 0;
  gprec_size = 0;
  tpi_hash_stream = 0;
  tpi_hash_pad_stream = 0;
  hash_key_size = 0;
  hash_bucket_size = 0;
  hash_values = slice 0 0;
  ti_off = slice 0 0;
  hash_adj = slice 0 0;
}

-- 65 to 87: the fields of the literal, in the order in which they are written
unfoldable pub fields : ParseBuffer → Rust (Header × ParseBuffer)
fields buf = do
  (version, buf) ← parse 4 buf  -- 66
  (header_size, buf) ← parse 4 buf  -- 67
  (minimum_index, buf) ← parse 4 buf  -- 68
  (maximum_index, buf) ← parse 4 buf  -- 69
  (gprec_size, buf) ← parse 4 buf  -- 70
  (tpi_hash_stream, buf) ← parse 2 buf  -- 71
  (tpi_hash_pad_stream, buf) ← parse 2 buf  -- 72
  (hash_key_size, buf) ← parse 4 buf  -- 73
  (hash_bucket_size, buf) ← parse 4 buf  -- 74
  (values_offset, buf) ← parse 4 buf  -- 76
  (values_size, buf) ← parse 4 buf  -- 77
  (off_offset, buf) ← parse 4 buf  -- 80
  (off_size, buf) ← parse 4 buf  -- 81
  (adj_offset, buf) ← parse 4 buf  -- 84
  (adj_size, buf) ← parse 4 buf  -- 85
  gives (
    record {
      version = version;
      header_size = header_size;
      minimum_index = minimum_index;
      maximum_index = maximum_index;
      gprec_size = gprec_size;
      tpi_hash_stream = tpi_hash_stream;
      tpi_hash_pad_stream = tpi_hash_pad_stream;
      hash_key_size = hash_key_size;
      hash_bucket_size = hash_bucket_size;
      hash_values = slice values_offset values_size;
      ti_off = slice off_offset off_size;
      hash_adj = slice adj_offset adj_size;
    },
    buf,
  )

-- 55
unfoldable pub parse_header : ParseBuffer → Rust (Header × ParseBuffer)
parse_header buf = do
  assert (eqb buf.pos 0)  -- 56, in a debug build
  none ← is_empty buf  -- 58
  if none (gives (empty, buf)) (do  -- 62
    (header, buf) ← fields buf  -- 65
    let bytes_read = as_u32 buf.pos  -- 91
    err_if (ltb header.header_size bytes_read) (invalid_type_information_header impossibly_small)  -- 92
    err_if (ltb 1024 header.header_size) (invalid_type_information_header unreasonably_large)  -- 96
    rest ← lessens header.header_size bytes_read  -- 103
    (_, buf) ← take buf rest
    err_if (ltb header.minimum_index 4096) (invalid_type_information_header minimum_low)  -- 106
    err_if (ltb header.maximum_index header.minimum_index) (invalid_type_information_header maximum_low)  -- 111
    gives (header, buf))  -- 118

-- mod.rs 128
pub record ItemInformation : Type 0 where
  pub stream : List ℕ
  pub header : Header

-- mod.rs 139
unfoldable pub parse_information : List ℕ → Rust ItemInformation
parse_information stream = do
  (header, _) ← parse_header (from stream)  -- 140, 141
  gives (record { stream = stream; header = header })  -- 143
