-- `write_cells::narrow16` meets its contract. Assumes nothing.
use native.Mathlib.Omega.{arith}
use Rattle.write_pieces.proofs.FitLaws.{half-piece, too_large}
use Rattle.write_cells.proofs.narrow16.Goals as goal

pub returns-then-x-lt65536 : goal.returns-then-x-lt65536
returns-then-x-lt65536 c = λ t. half-piece t _ (omega arith)

pub returns : goal.returns
returns c = λ t. too_large t 2 _ (omega arith)
