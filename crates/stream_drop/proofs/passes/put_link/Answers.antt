-- `stream_drop::passes::put_link` meets its contract. Assumes nothing.
use Rattle.stream_drop.proofs.PassLaws.{linked-by}
use Rattle.stream_drop.proofs.passes.put_link.Goals as goal

pub returns : goal.returns
returns c = linked-by _ _ _ _ _ _ _ c.put16.ensures c.put_all.ensures
