-- `write_header::write_header` meets its contract: 2, 3, 4 and 5 first, then what writing the pieces says. Assumes nothing.
use native.Mathlib.Omega.{arith}
use Rattle.write_header.proofs.HeaderLaws.{small, large, low, high}
use Rattle.write_header.proofs.write_header.Goals as goal

pub returns-then-h-lt56 : goal.returns-then-h-lt56
returns-then-h-lt56 c = small _ _ _ (omega arith)

pub returns-then-h-gt1024 : goal.returns-then-h-gt1024
returns-then-h-gt1024 c = large _ _ _ (omega arith) (omega arith)

pub returns-then-h-lt4096 : goal.returns-then-h-lt4096
returns-then-h-lt4096 c = low _ _ _ (omega arith) (omega arith) (omega arith)

pub returns-then-h : goal.returns-then-h
returns-then-h c = high _ _ _ (omega arith) (omega arith) (omega arith) (omega arith)
