-- `declare_type::node::numbered` meets its contract. Assumes nothing.
use Rattle.answer.proofs.Told.{told}
use Rattle.declare_type.proofs.LookLaws.{passed_on}
use Rattle.declare_type.proofs.node.numbered.Goals as goal
use Rattle.answer.specs.Refusals.{itself, said}

pub returns-in-Err : goal.returns-in-Err
returns-in-Err c = rw (told (said itself) c.primitive.ensures c.in-Err.is) (passed_on _)
