-- `declare_type::node::list_of` meets its contract. Assumes nothing.
use borrow.Author.Tests.{lt-ltb, le-ltb}
use Rattle.answer.proofs.Told.{told}
use Rattle.record_data.specs.Said.{type_values}
use Rattle.declare_type.specs.Looked.{said_looked, list_seen}
use Rattle.declare_type.specs.Nodes.{list_of}
use Rattle.declare_type.proofs.NodeLaws.{list_inside}
use Rattle.declare_type.proofs.node.list_of.Goals as goal

pub returns-then-n-lt-FIRST_RECORD : goal.returns-then-n-lt-FIRST_RECORD
unfolding list_of list_seen
returns-then-n-lt-FIRST_RECORD c = (rw (lt-ltb _ _ c.if-n-lt-FIRST_RECORD.true), tt)

pub returns-in-Numbered : goal.returns-in-Numbered
unfolding list_of list_seen
returns-in-Numbered c = (rw (le-ltb _ _ c.if-n-lt-FIRST_RECORD.false, told said_looked c.record_of.ensures.0 c.in-Numbered.is), tt)

pub returns-in-Held : goal.returns-in-Held
unfolding list_of list_seen
returns-in-Held c = (rw (le-ltb _ _ c.if-n-lt-FIRST_RECORD.false, told said_looked c.record_of.ensures.0 c.in-Held.is) c.list_in.ensures, list_inside _ _ _ (type_values c.in-Held.d) _ c.list_in.ensures (rw c.in-Held.is at c.record_of.ensures.1))

pub returns-in-Nothing : goal.returns-in-Nothing
unfolding list_of list_seen
returns-in-Nothing c = (rw (le-ltb _ _ c.if-n-lt-FIRST_RECORD.false, told said_looked c.record_of.ensures.0 c.in-Nothing.is), tt)
