-- `stream_drop::each::at_one` meets its contract: below the minimum nothing; else what the job does. Assumes nothing.
use Rattle.stream_drop.specs.declared.each.Job.TheVariants as job
use Rattle.stream_drop.proofs.EachLaws.{done-above}
use Rattle.stream_drop.proofs.each.at_one.Goals as goal

pub returns-in-Mark : goal.returns-in-Mark
returns-in-Mark c = rw (c.in-Mark.is, c.raise.ensures) (done-above _ _ _ _ job.Mark _ c.if-index-minimum.false)

pub returns-in-Write : goal.returns-in-Write
returns-in-Write c = rw (c.in-Write.is, c.put_at.ensures, c.entry-n.ensures) (done-above _ _ _ _ (job.Write _) _ c.if-index-minimum.false)
