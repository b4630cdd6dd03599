-- `stream_drop::each::at_elements` meets its contract: a step is done at its own references. Assumes nothing.
use borrow.Author.Rules.{rules}
use mathlib.Core.Path.{◌∙◌}
use Rattle.stream_drop.proofs.EachLaws.{from-element}
use Rattle.stream_drop.proofs.each.at_elements.Goals as goal

pub loop-preserved : goal.loop-preserved
loop-preserved c =
    (search rules, search rules, from-element _ _ _ _ _ _ _ _ _ _ _ c.loop-test.true c.in-Ok.ensures c.element_references-references.ensures c.fields_at-p.ensures c.at_element-fine.ensures ∙ c.loop.invariant.2)
