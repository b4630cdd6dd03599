-- `stream_drop::each::fields_at` meets its contract: at the cursor, or behind a member's leaf. Assumes nothing.
use mathlib.Core.Path.{◌∙◌}
use Rattle.answer.proofs.Told.{told}
use Rattle.stream_drop.proofs.EachLaws.{fields-padded}
use Rattle.stream_drop.proofs.each.fields_at.Goals as goal
use Rattle.answer.specs.Refusals.{itself, said}

pub returns-in-Ok : goal.returns-in-Ok
returns-in-Ok c = c.behind_leaf.ensures ∙ fields-padded _ _ _ c.if-c-ne4611.false c.if-c.true (told (said itself) c.after_padding.ensures c.in-Ok.is)

pub returns-in-Err : goal.returns-in-Err
returns-in-Err c = fields-padded _ _ _ c.if-c-ne4611.false c.if-c.true (told (said itself) c.after_padding.ensures c.in-Err.is)
