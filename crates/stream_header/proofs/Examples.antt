-- Document 01's examples of headers, computed on `header_of`. Assumes nothing.
use mathlib.Core.Path.{◌≡◌, refl}
use mathlib.Core.List.{[]}
use lib.ListN.{take}
use lib.IntN.{pos}
use Rattle.answer.specs.Answer.{answered, refused}
use Rattle.field.specs.Fields.{little_at}
use Rattle.stream_header.specs.Header.{header_of, zero_header}
use Rattle.stream_header.specs.Examples.{four, header_e, stream_e}

pub header-of-e : header_of stream_e ≡ answered (record {
  version = 20040203;
  header_size = 56;
  minimum_index = 4096;
  maximum_index = 4098;
  gprec_size = 22;
  tpi_hash_stream = 0;
  tpi_hash_pad_stream = 0;
  hash_key_size = 0;
  hash_bucket_size = 0;
  hash_values = record { offset = pos 0; size = 0 };
  ti_off = record { offset = pos 0; size = 0 };
  hash_adj = record { offset = pos 0; size = 0 };
})
unfolding header_of little_at
header-of-e = refl

-- the empty stream is accepted; 55 bytes give 1; header_size 55 gives 2, 1025 gives 3
pub empty-stream : header_of [] ≡ answered zero_header
unfolding header_of
empty-stream = refl

pub fifty-five-bytes : header_of (take 55 stream_e) ≡ refused 1 []
unfolding header_of little_at
fifty-five-bytes = refl

pub size-55 : header_of (header_e (four 55 0)) ≡ refused 2 []
unfolding header_of little_at
size-55 = refl

pub size-1025 : header_of (header_e (four 0x01 0x04)) ≡ refused 3 []
unfolding header_of little_at
size-1025 = refl
