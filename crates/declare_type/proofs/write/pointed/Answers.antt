-- `declare_type::write::pointed` meets its contract. Assumes nothing.
use Rattle.declare_type.proofs.TokenPutLaws.{puts-two}
use Rattle.declare_type.proofs.write.pointed.Goals as goal

pub returns : goal.returns
returns c = puts-two _ _ _ _ _ _ _ _ (puts-two _ _ _ _ _ _ _ _ (puts-two _ _ _ _ _ _ _ _ c.kind-e.ensures c.byte-f.ensures) c.indirection-g.ensures) c.quals_in.ensures
