-- `write_cells::narrow32` meets its contract. Assumes nothing.
use native.Mathlib.Omega.{arith}
use Rattle.write_pieces.proofs.FitLaws.{word_piece, too_large}
use Rattle.write_cells.proofs.narrow32.Goals as goal

pub returns-then-x-lt4294967296 : goal.returns-then-x-lt4294967296
returns-then-x-lt4294967296 c = λ t. word_piece t _ (omega arith)

pub returns : goal.returns
returns c = λ t. too_large t 4 _ (omega arith)
