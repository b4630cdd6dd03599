-- `declare_type::node::index_at` meets its contract. Assumes nothing.
use Rattle.answer.proofs.Told.{told}
use Rattle.field.specs.Indices.{said_type}
use Rattle.declare_type.specs.Nodes.{index_at}
use Rattle.declare_type.proofs.node.index_at.Goals as goal

pub returns-in-Ok : goal.returns-in-Ok
unfolding index_at
returns-in-Ok c = rw (told said_type c.type_at.ensures c.in-Ok.is)

pub returns-in-Err : goal.returns-in-Err
unfolding index_at
returns-in-Err c = rw (told said_type c.type_at.ensures c.in-Err.is)
