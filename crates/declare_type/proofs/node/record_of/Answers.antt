-- `declare_type::node::record_of` meets its contract. Assumes nothing.
use Rattle.answer.proofs.Told.{told}
use Rattle.stream_finder.specs.Finder.{said_find}
use Rattle.declare_type.specs.Looked.{record_seen}
use Rattle.declare_type.proofs.LookLaws.{passed_on}
use Rattle.declare_type.proofs.node.record_of.Goals as goal

pub returns-in-Err : goal.returns-in-Err
unfolding record_seen
returns-in-Err c = (rw (told said_find c.find_type.ensures c.in-Err.is) (passed_on _), tt)

pub returns-in-Record : goal.returns-in-Record
unfolding record_seen
returns-in-Record c = (rw (told said_find c.find_type.ensures c.in-Ok.is, c.in-Record.is) c.record_at.ensures.0, c.record_at.ensures.1)

pub returns-in-Marker : goal.returns-in-Marker
unfolding record_seen
returns-in-Marker c = (rw (told said_find c.find_type.ensures c.in-Ok.is, c.in-Marker.is), tt)
