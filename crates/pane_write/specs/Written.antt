-- What C gets of a writer: the place behind what was written, and the buffer after the call.
use Rattle.std.specs.Prelude.{ℕ, List, [], ◌∷◌, ℤ, get_or}
use Rattle.std.specs.Int.{w32}
use Rattle.std.proofs.Common.{to_z}
use Rattle.answer.specs.Answer.{Answer}
use Rattle.stream_header.specs.declared.Header.{Header}
use Rattle.stream_header.specs.declared.Slice.{Slice}
use Rattle.write_layout.specs.Buffer.{Written, place_after, buffer_after}
use Rattle.pane_out.specs.Handed.{handed}

abbrev pub end_field : ℕ → List ℕ
end_field p = p ∷ []

abbrev pub out_write : List ℕ → Answer Written → ℕ × List ℕ × List ℕ
out_write s a = ((handed 1 end_field (place_after a)).0, (handed 1 end_field (place_after a)).1, buffer_after s a)

-- the number whose two's complement these 32 bits are
abbrev pub signed32 : ℕ → ℤ
signed32 n = to_z w32 n

abbrev pub slice_in : ℕ → ℕ → Slice
slice_in offset size = record { offset = signed32 offset; size = size }

-- a header from the numbers that C gives: the thirteen of 32 bits in the order of its bytes, offsets as their bits, and the two stream numbers
abbrev pub header_in : List ℕ → ℕ → ℕ → Header
header_in f stream pad = record {
  version = get_or f 0 0;
  header_size = get_or f 1 0;
  minimum_index = get_or f 2 0;
  maximum_index = get_or f 3 0;
  gprec_size = get_or f 4 0;
  tpi_hash_stream = stream;
  tpi_hash_pad_stream = pad;
  hash_key_size = get_or f 5 0;
  hash_bucket_size = get_or f 6 0;
  hash_values = slice_in (get_or f 7 0) (get_or f 8 0);
  ti_off = slice_in (get_or f 9 0) (get_or f 10 0);
  hash_adj = slice_in (get_or f 11 0) (get_or f 12 0);
}
