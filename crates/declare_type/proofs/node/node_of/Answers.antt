-- `declare_type::node::node_of` meets its contract. Assumes nothing.
use Rattle.answer.proofs.Told.{told}
use Rattle.declare_type.specs.Looked.{said_looked}
use Rattle.declare_type.specs.Nodes.{node_of}
use Rattle.declare_type.proofs.node.node_of.Goals as goal

pub returns-in-Numbered : goal.returns-in-Numbered
unfolding node_of
returns-in-Numbered c = rw (told said_looked c.look.ensures.0 c.in-Numbered.is)

pub returns-in-Held : goal.returns-in-Held
unfolding node_of
returns-in-Held c = rw (told said_looked c.look.ensures.0 c.in-Held.is) c.node_in.ensures

pub returns-in-Nothing : goal.returns-in-Nothing
unfolding node_of
returns-in-Nothing c = rw (told said_looked c.look.ensures.0 c.in-Nothing.is)
