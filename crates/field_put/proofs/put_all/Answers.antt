-- `field_put::put_all` meets its contract: what is left to write stands in the loop's invariant. Assumes nothing.
use native.Mathlib.Omega.{arith}
use mathlib.Core.Path.{◌∙◌}
use lib.ListN.{length-set}
use Rattle.field_put.proofs.PutLaws.{copy-turn}
use Rattle.field_put.proofs.put_all.Goals as goal

pub loop-i-preserved : goal.loop-i-preserved
loop-i-preserved c = (
  omega arith,
  omega arith,
  rw length-set (omega arith),
  rw length-set (omega arith),
  c.loop-i.invariant.4 ∙ copy-turn _ _ _ c.loop-i.i (omega arith),
)
