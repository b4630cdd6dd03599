-- `declare_type::node::look` meets its contract. Assumes nothing.
use borrow.Author.Tests.{lt-ltb, le-ltb}
use Rattle.word_primitive.specs.Primitive.{primitive_of}
use Rattle.declare_type.specs.Looked.{type_seen}
use Rattle.declare_type.proofs.LookLaws.{primitive-inside}
use Rattle.declare_type.proofs.node.look.Goals as goal

pub returns-then-n-lt-FIRST_RECORD : goal.returns-then-n-lt-FIRST_RECORD
unfolding type_seen
returns-then-n-lt-FIRST_RECORD c = (rw (lt-ltb _ _ c.if-n-lt-FIRST_RECORD.true) c.numbered.ensures, primitive-inside _ c.numbered.result (primitive_of c.args.i.0) c.numbered.ensures)

pub returns : goal.returns
unfolding type_seen
returns c = (rw (le-ltb _ _ c.if-n-lt-FIRST_RECORD.false) c.record_of.ensures.0, c.record_of.ensures.1)
