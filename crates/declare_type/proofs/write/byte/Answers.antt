-- `declare_type::write::byte` meets its contract. Assumes nothing.
use Rattle.declare_type.proofs.TokenPutLaws.{byte-puts}
use Rattle.declare_type.proofs.write.byte.Goals as goal

pub returns : goal.returns
returns c = byte-puts _ _ _
