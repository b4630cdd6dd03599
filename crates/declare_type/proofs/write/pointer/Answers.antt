-- `declare_type::write::pointer` meets its contract. Assumes nothing.
use Rattle.declare_type.proofs.TokenPutLaws.{puts-two}
use Rattle.declare_type.proofs.write.pointer.Goals as goal

pub returns : goal.returns
returns c = puts-two _ _ _ _ _ _ _ _ c.mode-e.ensures c.quals_in.ensures
