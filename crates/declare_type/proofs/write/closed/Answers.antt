-- `declare_type::write::closed` meets its contract. Assumes nothing.
use Rattle.declare_type.proofs.TokenPutLaws.{puts_none}
use Rattle.declare_type.proofs.write.closed.Goals as goal

pub returns : goal.returns
returns c = rw c.if-c.false (puts_none _ _)
