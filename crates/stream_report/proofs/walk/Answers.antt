-- `stream_report::walk` meets its contract: the loop's invariant is that what is left of the walk is what is left from the cursor, and that the
-- table holds the entries so far. Assumes nothing.
use mathlib.Core.Path.{refl, sym, ap, ◌∙◌}
use Rattle.answer.specs.Answer.{answered}
use Rattle.stream_item.specs.Iterator.{next_told}
use Rattle.stream_report.proofs.WalkLaws.{going-first, going_next, going-refused}
use Rattle.stream_report.proofs.walk.Goals as goal

pub loop-item-init : goal.loop-item-init
loop-item-init c = going-first _ _ _ _ _ _ c.requires

pub loop-item-preserved : goal.loop-item-preserved
loop-item-preserved c =
    going_next _ _ _ _ _ _ _ _ _ _ c.loop-item.invariant _ _ (sym c.in-Ok-Some.ensures ∙ ap (λ o. answered (next_told o)) c.in-Ok-Some.field-0-is)
    _ _ c.leaf_at-leaf.ensures.0 refl _ _ c.count_in-count.ensures _ c.larger_of-best.ensures

pub returns-in-Err : goal.returns-in-Err
returns-in-Err c = going-refused _ _ _ _ _ _ _ _ _ _ c.loop-item.invariant _ _ (sym c.in-Err.ensures)
