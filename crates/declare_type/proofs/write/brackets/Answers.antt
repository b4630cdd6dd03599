-- `declare_type::write::brackets` meets its contract. Assumes nothing.
use Rattle.declare_type.proofs.TokenPutLaws.{puts-two}
use Rattle.declare_type.proofs.write.brackets.Goals as goal

pub returns : goal.returns
returns c = puts-two _ _ _ _ _ _ _ _ (puts-two _ _ _ _ _ _ _ _ (puts-two _ _ _ _ _ _ _ _ c.closed-e.ensures c.byte-f.ensures) c.extent-g.ensures) c.byte.ensures
