-- `stream_drop::each::put_at` meets its contract: what does not fit is not written. Assumes nothing.
use Rattle.stream_drop.proofs.EachLaws.{laid_by}
use Rattle.stream_drop.proofs.each.put_at.Goals as goal

pub returns : goal.returns
returns c = laid_by _ _ _ _ _ c.put32.ensures
