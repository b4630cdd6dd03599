-- `declare_type::node::record_in` meets its contract. Assumes nothing.
use mathlib.Core.Path.{sym, ◌∙◌}
use Rattle.answer.proofs.Told.{told}
use Rattle.declare_type.proofs.LookLaws.{passed_on}
use Rattle.declare_type.proofs.node.record_in.Goals as goal
use Rattle.answer.specs.Refusals.{itself, said, said_read}
use Rattle.record_data.specs.Said.{type_values}

pub returns-in-Err : goal.returns-in-Err
returns-in-Err c = (rw ((told (said_read itself) c.u16_at.ensures c.in-Ok.is), (sym c.is_taken.ensures ∙ c.if-is_taken.true), (told (said type_values) c.type_data.ensures c.in-Err.is)) (passed_on _), tt)
