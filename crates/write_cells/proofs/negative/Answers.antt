-- `write_cells::negative` meets its contract. Assumes nothing.
use native.Mathlib.Omega.{arith}
use mathlib.Core.Path.{refl}
use Rattle.write_pieces.proofs.FitLaws.{negative-3, negative-4, negative-6, negative-10, negative-bad}
use Rattle.write_cells.proofs.negative.Goals as goal

pub returns-then-n-lt128 : goal.returns-then-n-lt128
returns-then-n-lt128 c = λ t. negative-3 t _ _ refl (omega arith)

pub returns-then-n-lt32768 : goal.returns-then-n-lt32768
returns-then-n-lt32768 c = λ t. negative-4 t _ _ refl (omega arith) (omega arith)

pub returns-then-n-lt2147483648 : goal.returns-then-n-lt2147483648
returns-then-n-lt2147483648 c = λ t. negative-6 t _ _ refl (omega arith) (omega arith)

pub returns-then-n-lt9223372036854775808 : goal.returns-then-n-lt9223372036854775808
returns-then-n-lt9223372036854775808 c = λ t. negative-10 t _ _ refl (omega arith) (omega arith)

pub returns : goal.returns
returns c = λ t. negative-bad t _ (omega arith)
