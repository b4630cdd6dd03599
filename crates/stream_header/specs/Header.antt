-- Document 01, "Header".
use Rattle.std.specs.Prelude.{ℕ, ◌+◌, List, length, ltb, eqb, pos}
use Rattle.answer.specs.Answer.{Answer, answered, pick, stop}
use Rattle.field.specs.Fields.{little_at, twos}
use Rattle.stream_header.specs.declared.Slice.{Slice}
use Rattle.stream_header.specs.declared.Header.{Header}

-- a pair of i32 offset and u32 size
abbrev pub slice_of : List ℕ → ℕ → Slice
slice_of s p = record { offset = twos 4 (little_at 4 s p); size = little_at 4 s (p + 4) }

-- version, header_size, minimum_index, maximum_index, gprec_size (u32 each); two u16 stream numbers; hash_key_size, hash_bucket_size (u32);
-- three pairs of i32 offset and u32 size
abbrev pub fields_of : List ℕ → Header
fields_of s = record {
  version = little_at 4 s 0;
  header_size = little_at 4 s 4;
  minimum_index = little_at 4 s 8;
  maximum_index = little_at 4 s 12;
  gprec_size = little_at 4 s 16;
  tpi_hash_stream = little_at 2 s 20;
  tpi_hash_pad_stream = little_at 2 s 22;
  hash_key_size = little_at 4 s 24;
  hash_bucket_size = little_at 4 s 28;
  hash_values = slice_of s 32;
  ti_off = slice_of s 40;
  hash_adj = slice_of s 48;
}

-- every field zero
abbrev pub zero_header : Header
zero_header = record {
  version = 0;
  header_size = 0;
  minimum_index = 0;
  maximum_index = 0;
  gprec_size = 0;
  tpi_hash_stream = 0;
  tpi_hash_pad_stream = 0;
  hash_key_size = 0;
  hash_bucket_size = 0;
  hash_values = record { offset = pos 0; size = 0 };
  ti_off = record { offset = pos 0; size = 0 };
  hash_adj = record { offset = pos 0; size = 0 };
}

-- a stream, or a cursor's position, may be this long
abbrev pub longest : ℕ
longest = 4294967294

-- checks, in order: 16; empty; 1 for fewer than 56 bytes; 2; 3; 1 for fewer than header_size bytes; 4; 5
unfoldable pub header_of : List ℕ → Answer Header
header_of s =
    stop (ltb longest (length s)) 16
    (pick (eqb (length s) 0) (answered zero_header)
    (stop (ltb (length s) 56) 1
    (stop (ltb (little_at 4 s 4) 56) 2
    (stop (ltb 1024 (little_at 4 s 4)) 3
    (stop (ltb (length s) (little_at 4 s 4)) 1
    (stop (ltb (little_at 4 s 8) 4096) 4
    (stop (ltb (little_at 4 s 12) (little_at 4 s 8)) 5
    (answered (fields_of s)))))))))
