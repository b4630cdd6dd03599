-- `stream_fit::by_elements` meets its contract: a step takes its own references. Assumes nothing.
use mathlib.Core.Path.{◌∙◌}
use Rattle.stream_fit.proofs.WorstLaws.{from-element}
use Rattle.stream_fit.proofs.by_elements.Goals as goal

pub loop-preserved : goal.loop-preserved
loop-preserved c =
    from-element _ _ _ _ _ _ _ _ _ _ c.loop-test.true c.in-Ok.ensures c.element_references-references.ensures c.by_element-least.ensures ∙ c.loop.invariant
