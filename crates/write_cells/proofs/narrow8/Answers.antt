-- `write_cells::narrow8` meets its contract. Assumes nothing.
use native.Mathlib.Omega.{arith}
use Rattle.write_pieces.proofs.FitLaws.{byte-piece, too_large}
use Rattle.write_cells.proofs.narrow8.Goals as goal

pub returns-then-x-lt256 : goal.returns-then-x-lt256
returns-then-x-lt256 c = λ t. byte-piece t _ (omega arith)

pub returns : goal.returns
returns c = λ t. too_large t 1 _ (omega arith)
