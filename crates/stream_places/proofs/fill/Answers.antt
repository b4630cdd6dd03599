-- `stream_places::fill` meets its contract: what is left to store stands in the loop's invariant. Assumes nothing.
use native.Mathlib.Omega.{arith}
use mathlib.Core.Path.{◌∙◌}
use lib.ListN.{length-set}
use Rattle.stream_places.proofs.FileLaws.{fill-turn}
use Rattle.stream_places.proofs.fill.Goals as goal

pub loop-i-preserved : goal.loop-i-preserved
loop-i-preserved c = (omega arith, rw length-set (omega arith), rw c.word_at.ensures (c.loop-i.invariant.2 ∙ fill-turn _ _ _ c.loop-i.i (omega arith)))
