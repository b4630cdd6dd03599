-- `write_list::narrow32` meets its contract. Assumes nothing.
use native.Mathlib.Omega.{arith}
use Rattle.write_pieces.proofs.FitLaws.{too_large}
use Rattle.write_list.proofs.narrow32.Goals as goal

pub returns : goal.returns
returns c = λ t. too_large t 4 _ (omega arith)
