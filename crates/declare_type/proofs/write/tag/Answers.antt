-- `declare_type::write::tag` meets its contract. Assumes nothing.
use Rattle.declare_type.proofs.TokenPutLaws.{puts-two}
use Rattle.declare_type.proofs.write.tag.Goals as goal

pub returns : goal.returns
returns c = puts-two _ _ _ _ _ _ _ _ (puts-two _ _ _ _ _ _ _ _ c.quals_in-e.ensures c.name-f.ensures) c.space.ensures
