-- `declare_type::write::begin` meets its contract. Assumes nothing.
use Rattle.declare_type.proofs.TokenPutLaws.{puts-two}
use Rattle.declare_type.proofs.write.begin.Goals as goal

pub returns : goal.returns
returns c = puts-two _ _ _ _ _ _ _ _ c.closed-e.ensures c.byte.ensures
