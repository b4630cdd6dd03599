-- `declare_type::write::extent` meets its contract. Assumes nothing.
use Rattle.declare_type.proofs.TokenPutLaws.{puts_none}
use Rattle.declare_type.proofs.write.extent.Goals as goal

pub returns-in-None : goal.returns-in-None
returns-in-None c = rw c.in-None.is (puts_none _ _)
