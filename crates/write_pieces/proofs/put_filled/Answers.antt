-- `write_pieces::put_filled` meets its contract: a run of writes. Assumes nothing.
use Rattle.field_put.proofs.PutLaws.{puts-both}
use Rattle.write_pieces.proofs.put_filled.Goals as goal

pub returns : goal.returns
returns c = puts-both _ _ _ _ _ _ _ _ c.put_pieces-q.ensures c.put_pads.ensures
