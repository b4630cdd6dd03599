-- Which piece a field is.
use Rattle.std.specs.Prelude.{ℕ, ◌^◌, ltb}
use Rattle.answer.specs.Answer.{pick}
use Rattle.write_pieces.specs.declared.Piece.{Piece}
use Rattle.write_pieces.specs.declared.Piece.TheVariants as piece

abbrev pub half_piece : ℕ → Piece
half_piece n = piece.Half n

-- a number in as few bytes as carry it
unfoldable pub natural_piece : ℕ → Piece
natural_piece n =
    pick (ltb n 0x8000) (piece.Half n)
    (pick (ltb n (2 ^ 16)) (piece.Wide16 0x8002 n)
    (pick (ltb n (2 ^ 32)) (piece.Wide32 0x8004 n)
    (piece.Wide64 0x800a n)))
