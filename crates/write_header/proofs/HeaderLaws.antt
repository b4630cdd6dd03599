-- The ways out of `write_header`. Assumes nothing.
use Prim.Native.Nat.{ℕ, ◌-◌, ◌≤◌, ◌<◌}
use native.Mathlib.Omega.{arith}
use mathlib.Core.Path.{◌≡◌, refl}
use mathlib.Core.List.{List, [], ◌∷◌, append-nil}
use lib.ListN.{length}
use borrow.Author.Tests.{lt-ltb, le-ltb}
use Rattle.answer.specs.Answer.{answered, refused}
use Rattle.field.specs.Bytes.{bytes}
use Rattle.stream_header.specs.declared.Header.{Header}
use Rattle.write_layout.specs.Records.{limited}
use Rattle.write_layout.specs.Buffer.{lay, Writes}
use Rattle.write_layout.proofs.RunLaws.{length-zeros}
use Rattle.write_pieces.specs.declared.Piece.TheVariants as piece
use Rattle.write_pieces.specs.Pieces.{pieces_of, piece_of, fine, raw}
use Rattle.write_header.specs.Headers.{offset_bits, header_fields, header_bytes}

-- header_size bytes
pub header-length : (h : Header) → 56 ≤ h.header_size → length (header_fields h) ≡ h.header_size
unfolding header_fields bytes
header-length h k = omega (arith, length-zeros (h.header_size - 56))

-- its pieces, where a, b and d are the bits of the three offsets
pub fields-are : (t : List ℕ) (h : Header) (a b d : ℕ) → a ≡ offset_bits h.hash_values.offset → b ≡ offset_bits h.ti_off.offset → d ≡ offset_bits h.hash_adj.offset
    → pieces_of t (
    piece.Word h.version ∷ piece.Word h.header_size ∷ piece.Word h.minimum_index ∷ piece.Word h.maximum_index ∷ piece.Word h.gprec_size ∷ piece.Half h.tpi_hash_stream
    ∷ piece.Half h.tpi_hash_pad_stream ∷ piece.Word h.hash_key_size ∷ piece.Word h.hash_bucket_size ∷ piece.Word a ∷ piece.Word h.hash_values.size ∷ piece.Word b
    ∷ piece.Word h.ti_off.size ∷ piece.Word d ∷ piece.Word h.hash_adj.size ∷ piece.Zeros (h.header_size - 56) ∷ []) ≡ answered (header_fields h)
unfolding pieces_of piece_of fine raw header_fields
fields-are t h a b d e f g = rw (e, f, g, append-nil)

module _ (h : Header) (s : List ℕ) (p : ℕ) where
  pub small : h.header_size < 56 → Writes s (lay (header_bytes h) s p) (refused 2 []) s
  unfolding lay header_bytes
  small a = rw (lt-ltb _ _ a) (record { answer = refl; left = refl })

  module _ (a : 56 ≤ h.header_size) where
    pub large : 1024 < h.header_size → Writes s (lay (header_bytes h) s p) (refused 3 []) s
    unfolding lay header_bytes
    large b = rw (le-ltb _ _ a, lt-ltb _ _ b) (record { answer = refl; left = refl })

    module _ (b : h.header_size ≤ 1024) where
      pub low : h.minimum_index < 4096 → Writes s (lay (header_bytes h) s p) (refused 4 []) s
      unfolding lay header_bytes
      low c = rw (le-ltb _ _ a, le-ltb _ _ b, lt-ltb _ _ c) (record { answer = refl; left = refl })

      module _ (c : 4096 ≤ h.minimum_index) where
        pub high : h.maximum_index < h.minimum_index → Writes s (lay (header_bytes h) s p) (refused 5 []) s
        unfolding lay header_bytes
        high d = rw (le-ltb _ _ a, le-ltb _ _ b, le-ltb _ _ c, lt-ltb _ _ d) (record { answer = refl; left = refl })

        -- the checks passed: the fields, which are few enough
        pub all-passed : h.minimum_index ≤ h.maximum_index → limited (answered (header_fields h)) ≡ header_bytes h
        unfolding limited header_bytes
        all-passed d =
            let l : length (header_fields h) ≤ 65535 = omega (arith, header-length h a) in
            rw (le-ltb _ _ a, le-ltb _ _ b, le-ltb _ _ c, le-ltb _ _ d, le-ltb _ _ l)
