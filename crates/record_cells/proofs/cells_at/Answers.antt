-- `record_cells::cells_at` meets its contract: the loop leaves with a full row, with a refused field, or with no field left. Assumes nothing.
use native.Mathlib.Omega.{arith}
use Rattle.record_cells.proofs.FilledLaws.{filling-full, filling-refused, filling-ended}
use Rattle.record_cells.proofs.cells_at.Goals as goal

pub returns-then-k-gt24 : goal.returns-then-k-gt24
returns-then-k-gt24 c = filling-full c.loop-rest.invariant (omega (arith, c.if-k-gt24.true))

pub returns-in_err-c : goal.returns-in_err-c
returns-in_err-c c = filling-refused c.loop-rest.invariant _ _ c.loop-rest-test.true (omega (arith, c.if-k-gt24.false)) c.in_err-c.ensures c.from_residual.ensures.1

pub returns : goal.returns
returns c = filling-ended c.loop-rest.invariant (omega (arith, c.loop-rest-test.false))
