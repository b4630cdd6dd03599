-- `declare_type::write::end` meets its contract. Assumes nothing.
use Rattle.declare_type.proofs.TokenPutLaws.{puts-two}
use Rattle.declare_type.proofs.write.end.Goals as goal

pub returns : goal.returns
returns c = puts-two _ _ _ _ _ _ _ _ c.byte-e.ensures c.behind.ensures
