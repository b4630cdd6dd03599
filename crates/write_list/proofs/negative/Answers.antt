-- `write_list::negative` meets its contract. Assumes nothing.
use native.Mathlib.Omega.{arith}
use Rattle.write_pieces.proofs.FitLaws.{negative-bad}
use Rattle.write_list.proofs.negative.Goals as goal

pub returns : goal.returns
returns c = λ t. negative-bad t _ (omega arith)
