-- `stream_index::index_on` meets its contract: the loop's invariant is that so many turns lead from what came in to where the loop stands. Assumes nothing.
use native.Mathlib.Omega.{arith}
use mathlib.Core.Path.{refl, ap, ◌∙◌}
use Rattle.std.specs.Prelude.{Ok}
use Rattle.stream_index.specs.Walk.{none}
use Rattle.stream_index.proofs.WalkLaws.{leads-moved, turns_more}
use Rattle.stream_index.proofs.index_on.Goals as goal

pub loop-g-init : goal.loop-g-init
loop-g-init c = (refl, (0, none))

pub loop-g-preserved : goal.loop-g-preserved
loop-g-preserved c =
    let l = c.loop-g in
    let m = c.in-Ok-Some in
    (omega arith, (_, turns_more _ _ _ _ _ _ _ _ l.invariant.1.1 (leads-moved _ _ _ _ _ _ c.next_and_update.ensures (m.is ∙ ap Ok m.field-0-is))))
