-- What a piece of a record is: the bytes that it stands for, or 17.
use Rattle.std.specs.Prelude.{ℕ, ◌+◌, Bool, true, false, List, [], ◌∷◌, ◌++◌, length, leb}
use Rattle.answer.specs.Answer.{answered, both}
use Rattle.field.specs.Bytes.{bytes}
use Rattle.field_number.specs.Forms.{prefixed}
use Rattle.write_layout.specs.Runs.{part_at, no_zero, zeros}
use Rattle.write_layout.specs.Fields.{Encoded, only, and_also}
use Rattle.write_pieces.specs.declared.Piece.{Piece}
use Rattle.write_pieces.specs.declared.Piece.TheVariants as piece

-- the bytes of a piece, where it is fine
unfoldable pub raw : List ℕ → Piece → List ℕ
raw t piece.Nothing = []
raw t piece.Bad = []
raw t (piece.Byte x) = bytes 1 x
raw t (piece.Half x) = bytes 2 x
raw t (piece.Word x) = bytes 4 x
raw t (piece.Wide8 prefix x) = prefixed prefix 1 x
raw t (piece.Wide16 prefix x) = prefixed prefix 2 x
raw t (piece.Wide32 prefix x) = prefixed prefix 4 x
raw t (piece.Wide64 prefix x) = prefixed prefix 8 x
raw t (piece.Text p n) = part_at t p n ++ (0 ∷ [])
raw t (piece.Run p n) = part_at t p n
raw t (piece.Zeros n) = zeros n

-- inside the text, and without a zero byte where it is a string
unfoldable pub fine : List ℕ → Piece → Bool
fine t piece.Nothing = true
fine t piece.Bad = false
fine t (piece.Byte x) = true
fine t (piece.Half x) = true
fine t (piece.Word x) = true
fine t (piece.Wide8 prefix x) = true
fine t (piece.Wide16 prefix x) = true
fine t (piece.Wide32 prefix x) = true
fine t (piece.Wide64 prefix x) = true
fine t (piece.Text p n) = both (leb (p + n) (length t)) (no_zero (part_at t p n))
fine t (piece.Run p n) = leb (p + n) (length t)
fine t (piece.Zeros n) = true

unfoldable pub piece_of : List ℕ → Piece → Encoded
piece_of t x = only (fine t x) (raw t x)

-- one after the other
unfoldable pub pieces_of : List ℕ → List Piece → Encoded
pieces_of t [] = answered []
pieces_of t (x ∷ xs) = and_also (piece_of t x) (pieces_of t xs)

unfoldable pub fine_all : List ℕ → List Piece → Bool
fine_all t [] = true
fine_all t (x ∷ xs) = both (fine t x) (fine_all t xs)

unfoldable pub raw_all : List ℕ → List Piece → List ℕ
raw_all t [] = []
raw_all t (x ∷ xs) = raw t x ++ raw_all t xs
