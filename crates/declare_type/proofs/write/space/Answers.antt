-- `declare_type::write::space` meets its contract. Assumes nothing.
use Rattle.declare_type.proofs.TokenPutLaws.{puts_none}
use Rattle.declare_type.proofs.write.space.Goals as goal

pub returns-then-bare : goal.returns-then-bare
returns-then-bare c = rw c.if-bare.true (puts_none _ _)
