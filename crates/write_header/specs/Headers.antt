-- R-1: a header as it is written: 56 bytes by document 01's "Header", and zeros up to header_size.
use Rattle.std.specs.Prelude.{ℕ, suc, ◌-◌, ◌^◌, ◌≤◌, ◌<◌, ◌≡◌, List, ◌++◌, length, ltb, ℤ, pos, negsuc}
use Rattle.answer.specs.Answer.{answered, stop}
use Rattle.field.specs.Bytes.{bytes}
use Rattle.stream_header.specs.Header.{header_of, longest}
use Rattle.stream_header.specs.declared.Header.{Header}
use Rattle.write_layout.specs.Runs.{zeros}
use Rattle.write_layout.specs.Fields.{Encoded}

-- an i32 as two's complement
abbrev pub offset_bits : ℤ → ℕ
offset_bits (pos n) = n
offset_bits (negsuc n) = 2 ^ 32 - suc n

-- the fields in order; a pair of i32 offset and u32 size is two
unfoldable pub header_fields : Header → List ℕ
header_fields h =
    bytes 4 h.version ++ (bytes 4 h.header_size ++ (bytes 4 h.minimum_index ++ (bytes 4 h.maximum_index ++ (bytes 4 h.gprec_size
    ++ (bytes 2 h.tpi_hash_stream ++ (bytes 2 h.tpi_hash_pad_stream ++ (bytes 4 h.hash_key_size ++ (bytes 4 h.hash_bucket_size
    ++ (bytes 4 (offset_bits h.hash_values.offset) ++ (bytes 4 h.hash_values.size
    ++ (bytes 4 (offset_bits h.ti_off.offset) ++ (bytes 4 h.ti_off.size
    ++ (bytes 4 (offset_bits h.hash_adj.offset) ++ (bytes 4 h.hash_adj.size
    ++ zeros (h.header_size - 56)))))))))))))))

-- 2, 3, 4, 5 in that order
unfoldable pub header_bytes : Header → Encoded
header_bytes h =
    stop (ltb h.header_size 56) 2
    (stop (ltb 1024 h.header_size) 3
    (stop (ltb h.minimum_index 4096) 4
    (stop (ltb h.maximum_index h.minimum_index) 5
    (answered (header_fields h)))))

-- Reading back ----------------------------------------------------------------------------------------------------------------------

-- -2^31 ≤ z < 2^31
abbrev pub Fits32 : ℤ → Type 0
Fits32 (pos n) = n < 2 ^ 31
Fits32 (negsuc n) = n < 2 ^ 31

-- each field is a number of its width, as those of every `Header` of the program are
pub record Narrow (h : Header) : Type 0 where
  pub version : h.version < 2 ^ 32
  pub size : h.header_size < 2 ^ 32
  pub minimum : h.minimum_index < 2 ^ 32
  pub maximum : h.maximum_index < 2 ^ 32
  pub gprec : h.gprec_size < 2 ^ 32
  pub stream : h.tpi_hash_stream < 2 ^ 16
  pub pad_stream : h.tpi_hash_pad_stream < 2 ^ 16
  pub key : h.hash_key_size < 2 ^ 32
  pub bucket : h.hash_bucket_size < 2 ^ 32
  pub values_offset : Fits32 h.hash_values.offset
  pub values_size : h.hash_values.size < 2 ^ 32
  pub ti_offset : Fits32 h.ti_off.offset
  pub ti_size : h.ti_off.size < 2 ^ 32
  pub adj_offset : Fits32 h.hash_adj.offset
  pub adj_size : h.hash_adj.size < 2 ^ 32

-- R-1: "Reading back gives the fields", with whatever bytes after the header; so writing what was read gives the same bytes
abbrev pub HeaderReadsBack : Type 0
HeaderReadsBack = (h : Header) (bs ys : List ℕ) → header_bytes h ≡ answered bs → Narrow h → length (bs ++ ys) ≤ longest → header_of (bs ++ ys) ≡ answered h
