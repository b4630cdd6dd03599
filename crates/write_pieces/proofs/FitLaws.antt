-- What the piece of a field stands for, in the words of writing by a layout. Assumes nothing.
use Rattle.std.specs.Prelude.{None, Some}
use Prim.Native.Nat.{ℕ, suc, ◌+◌, ◌-◌, ◌^◌, ◌≤◌, ◌<◌}
use native.Mathlib.Omega.{arith}
use mathlib.Core.Bool.{Bool, true, false}
use mathlib.Core.Path.{◌≡◌, refl, ◌∙◌}
use mathlib.Core.List.{List, [], ◌∷◌, ◌++◌}
use lib.ListN.{length}
use lib.Dec.{leb, eqb}
use lib.IntN.{pos, negsuc}
use borrow.Author.Tests.{lt-ltb, le-ltb, eq-eqb, leb-true}
use Rattle.answer.specs.Answer.{answered, pick, both}
use Rattle.field_number.specs.Forms.{shortest, carried}
use Rattle.record_layout.specs.Fields.{many}
use Rattle.write_layout.specs.Runs.{part_at, no_zero}
use Rattle.write_layout.specs.Fields.{bad, only, fixed_bytes, numeric_bytes, string_bytes, of_many, bytes_in}
use Rattle.write_layout.proofs.RunLaws.{part_length}
use Rattle.write_pieces.specs.declared.Piece.TheVariants as piece
use Rattle.write_pieces.specs.Pieces.{piece_of, fine, raw}
use Rattle.write_pieces.specs.Fit.{natural_piece}

module _ (t : List ℕ) (n : ℕ) where
  pub byte-piece : n < 256 → piece_of t (piece.Byte n) ≡ fixed_bytes 1 n
  unfolding piece_of fine raw fixed_bytes
  byte-piece h = rw (lt-ltb n 256 h)

  pub half-piece : n < 65536 → piece_of t (piece.Half n) ≡ fixed_bytes 2 n
  unfolding piece_of fine raw fixed_bytes
  half-piece h = rw (lt-ltb n 65536 h)

  pub word_piece : n < 4294967296 → piece_of t (piece.Word n) ≡ fixed_bytes 4 n
  unfolding piece_of fine raw fixed_bytes
  word_piece h = rw (lt-ltb n 4294967296 h)

  -- n, in as few bytes as carry it
  pub natural-2 : n < 0x8000 → piece_of t (piece.Half n) ≡ numeric_bytes (pos n)
  unfolding piece_of fine raw numeric_bytes carried shortest
  natural-2 h = rw (lt-ltb n (2 ^ 64) (omega arith), lt-ltb n 0x8000 h)

  pub natural-4 : 0x8000 ≤ n → n < 65536 → piece_of t (piece.Wide16 0x8002 n) ≡ numeric_bytes (pos n)
  unfolding piece_of fine raw numeric_bytes carried shortest
  natural-4 g h = rw (lt-ltb n (2 ^ 64) (omega arith), le-ltb n 0x8000 g, lt-ltb n (2 ^ 16) h)

  pub natural-6 : 65536 ≤ n → n < 4294967296 → piece_of t (piece.Wide32 0x8004 n) ≡ numeric_bytes (pos n)
  unfolding piece_of fine raw numeric_bytes carried shortest
  natural-6 g h = rw (lt-ltb n (2 ^ 64) (omega arith), le-ltb n 0x8000 (omega arith), le-ltb n (2 ^ 16) g, lt-ltb n (2 ^ 32) h)

  pub natural-10 : 4294967296 ≤ n → n < 2 ^ 64 → piece_of t (piece.Wide64 0x800a n) ≡ numeric_bytes (pos n)
  unfolding piece_of fine raw numeric_bytes carried shortest
  natural-10 g h = rw (lt-ltb n (2 ^ 64) h, le-ltb n 0x8000 (omega arith), le-ltb n (2 ^ 16) (omega arith), le-ltb n (2 ^ 32) g)

  -- -1 - n, likewise; x is its two's complement
  module _ (x : ℕ) where
    pub negative-3 : x ≡ 255 - n → n < 128 → piece_of t (piece.Wide8 0x8000 x) ≡ numeric_bytes (negsuc n)
    unfolding piece_of fine raw numeric_bytes carried shortest
    negative-3 e h = let f : x ≡ 256 - suc n = omega arith in rw (lt-ltb n (2 ^ 63) (omega arith), lt-ltb n (2 ^ 7) h, f)

    pub negative-4 : x ≡ 65535 - n → 128 ≤ n → n < 32768 → piece_of t (piece.Wide16 0x8001 x) ≡ numeric_bytes (negsuc n)
    unfolding piece_of fine raw numeric_bytes carried shortest
    negative-4 e g h = let f : x ≡ 65536 - suc n = omega arith in rw (lt-ltb n (2 ^ 63) (omega arith), le-ltb n (2 ^ 7) g, lt-ltb n (2 ^ 15) h, f)

    pub negative-6 : x ≡ 4294967295 - n → 32768 ≤ n → n < 2147483648 → piece_of t (piece.Wide32 0x8003 x) ≡ numeric_bytes (negsuc n)
    unfolding piece_of fine raw numeric_bytes carried shortest
    negative-6 e g h =
        let f : x ≡ 4294967296 - suc n = omega arith in
        rw (lt-ltb n (2 ^ 63) (omega arith), le-ltb n (2 ^ 7) (omega arith), le-ltb n (2 ^ 15) g, lt-ltb n (2 ^ 31) h, f)

    pub negative-10 : x ≡ 18446744073709551615 - n → 2147483648 ≤ n → n < 9223372036854775808 → piece_of t (piece.Wide64 0x8009 x) ≡ numeric_bytes (negsuc n)
    unfolding piece_of fine raw numeric_bytes carried shortest
    negative-10 e g h =
        let f : x ≡ 18446744073709551616 - suc n = omega arith in
        rw (lt-ltb n (2 ^ 63) h, le-ltb n (2 ^ 7) (omega arith), le-ltb n (2 ^ 15) (omega arith), le-ltb n (2 ^ 31) g, f)

  pub negative-bad : 9223372036854775808 ≤ n → piece_of t piece.Bad ≡ numeric_bytes (negsuc n)
  unfolding piece_of fine raw numeric_bytes carried
  negative-bad g = rw (le-ltb n (2 ^ 63) g)

-- parts of the text
pub text-piece : (t : List ℕ) (p n : ℕ) → piece_of t (piece.Text p n) ≡ of_many (many (bytes_in t (record { place = p; length = n }))) string_bytes
unfolding piece_of fine raw bytes_in string_bytes
text-piece t p n = go (leb (p + n) (length t))
  where
    go : (b : Bool) → only (both b (no_zero (part_at t p n))) (part_at t p n ++ (0 ∷ [])) ≡ of_many (many (pick b (Some (part_at t p n)) None)) (λ bs. only (no_zero bs) (bs ++ (0 ∷ [])))
    go true = refl
    go false = refl

pub run-piece : (t : List ℕ) (p n k : ℕ) → n ≡ k
    → piece_of t (piece.Run p n) ≡ of_many (many (bytes_in t (record { place = p; length = n }))) (λ bs. only (eqb (length bs) k) bs)
unfolding piece_of fine raw bytes_in
run-piece t p n k e = go (leb (p + n) (length t)) refl
  where
    go : (b : Bool) → leb (p + n) (length t) ≡ b
        → only b (part_at t p n) ≡ of_many (many (pick b (Some (part_at t p n)) None)) (λ bs. only (eqb (length bs) k) bs)
    go true f = rw (eq-eqb _ _ (part_length t p n (leb-true _ _ f) ∙ e))
    go false f = refl

pub no-piece : (t : List ℕ) → piece_of t piece.Nothing ≡ answered []
unfolding piece_of fine raw
no-piece t = refl

pub bad-piece : (t : List ℕ) → piece_of t piece.Bad ≡ bad
unfolding piece_of fine
bad-piece t = refl

pub too_large : (t : List ℕ) (k n : ℕ) → 256 ^ k ≤ n → piece_of t piece.Bad ≡ fixed_bytes k n
unfolding piece_of fine fixed_bytes
too_large t k n h = rw (le-ltb n (256 ^ k) h)

-- which piece a number is
module _ (n : ℕ) where
  pub is-2 : n < 0x8000 → piece.Half n ≡ natural_piece n
  unfolding natural_piece
  is-2 h = rw (lt-ltb n 0x8000 h)

  pub is-4 : 0x8000 ≤ n → n < 65536 → piece.Wide16 0x8002 n ≡ natural_piece n
  unfolding natural_piece
  is-4 g h = rw (le-ltb n 0x8000 g, lt-ltb n (2 ^ 16) h)

  pub is-6 : 65536 ≤ n → n < 4294967296 → piece.Wide32 0x8004 n ≡ natural_piece n
  unfolding natural_piece
  is-6 g h = rw (le-ltb n 0x8000 (omega arith), le-ltb n (2 ^ 16) g, lt-ltb n (2 ^ 32) h)

  pub is-10 : 4294967296 ≤ n → piece.Wide64 0x800a n ≡ natural_piece n
  unfolding natural_piece
  is-10 g = rw (le-ltb n 0x8000 (omega arith), le-ltb n (2 ^ 16) (omega arith), le-ltb n (2 ^ 32) g)
