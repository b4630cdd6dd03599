-- R-6 of document 02: "turn it into a TPI stream with E's header, maximum and gprec_size fitted to the records. .. Refusals: 16 (section or
-- stream), 1 below four bytes, 25 signature is not 4, then the iterator's own, then .. 19 (stream)."
use Rattle.std.specs.Prelude.{ℕ, ◌+◌, ◌-◌, List, ◌++◌, length, drop, ltb, pos}
use Rattle.answer.specs.Answer.{answered, stop, then}
use Rattle.stream_header.specs.Header.{longest}
use Rattle.stream_header.specs.declared.Slice.{Slice}
use Rattle.stream_header.specs.declared.Header.{Header}
use Rattle.write_layout.specs.Fields.{Encoded}
use Rattle.write_header.specs.Headers.{header_fields}
use Rattle.section_item.specs.Sections.{count_of}

abbrev pub nothing : Slice
nothing = record { offset = pos 0; size = 0 }

-- E's header for n records that take so many bytes: version 20040203, size 56, minimum 4096, all else zero
abbrev pub header_for : ℕ → ℕ → Header
header_for n size = record {
  version = 20040203;
  header_size = 56;
  minimum_index = 4096;
  maximum_index = 4096 + n;
  gprec_size = size;
  tpi_hash_stream = 0;
  tpi_hash_pad_stream = 0;
  hash_key_size = 0;
  hash_bucket_size = 0;
  hash_values = nothing;
  ti_off = nothing;
  hash_adj = nothing;
}

-- the header, and the records as they are: all of the section but its signature
unfoldable pub stream_bytes : ℕ → List ℕ → List ℕ
stream_bytes n s = header_fields (header_for n (length s - 4)) ++ drop 4 s

-- 16 where the section is too long or its stream would be; 1, 25 and the iterator's own while the records are counted. 19 is what laying the
-- bytes adds (`lay` of crates/write_layout)
unfoldable pub section_stream : List ℕ → Encoded
section_stream s =
    stop (ltb longest (length s + 52)) 16
    (then (count_of s) (λ n. answered (stream_bytes n s)))
