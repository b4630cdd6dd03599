-- `field_put::store32` meets its contract: the two halves make the whole. Assumes nothing.
use Rattle.field_put.proofs.PutLaws.{puts-both, halves}
use Rattle.field_put.proofs.store32.Goals as goal

pub returns : goal.returns
returns c = rw (← halves 2 2 _) (puts-both _ _ _ _ _ _ _ _ c.store16-q.ensures c.store16.ensures)
