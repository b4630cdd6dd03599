-- `write_pieces::fields::natural` meets its contract. Assumes nothing.
use native.Mathlib.Omega.{arith}
use Rattle.write_pieces.proofs.FitLaws.{natural-2, natural-4, natural-6, natural-10, is-2, is-4, is-6, is-10}
use Rattle.write_pieces.proofs.fields.natural.Goals as goal

pub returns-then-n-lt32768 : goal.returns-then-n-lt32768
returns-then-n-lt32768 c = (is-2 _ (omega arith), λ t. natural-2 t _ (omega arith))

pub returns-then-n-lt65536 : goal.returns-then-n-lt65536
returns-then-n-lt65536 c = (is-4 _ (omega arith) (omega arith), λ t. natural-4 t _ (omega arith) (omega arith))

pub returns-then-n-lt4294967296 : goal.returns-then-n-lt4294967296
returns-then-n-lt4294967296 c = (is-6 _ (omega arith) (omega arith), λ t. natural-6 t _ (omega arith) (omega arith))

pub returns : goal.returns
returns c = (is-10 _ (omega arith), λ t. natural-10 t _ (omega arith) (omega arith))
