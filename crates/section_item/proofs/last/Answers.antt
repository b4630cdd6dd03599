-- `section_item::last` meets its contract: where no record is left, the walk is over at the cursor. Assumes nothing.
use Rattle.section_item.proofs.SectionLaws.{left-over}
use Rattle.section_item.proofs.last.Goals as goal

pub returns : goal.returns
returns c = left-over _ _ _ c.loop-behind.invariant _ c.in_ok-behind.ensures c.in_default.is
