-- `write_list::narrow16` meets its contract. Assumes nothing.
use native.Mathlib.Omega.{arith}
use Rattle.write_pieces.proofs.FitLaws.{too_large}
use Rattle.write_list.proofs.narrow16.Goals as goal

pub returns : goal.returns
returns c = λ t. too_large t 2 _ (omega arith)
