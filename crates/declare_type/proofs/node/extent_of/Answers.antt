-- `declare_type::node::extent_of` meets its contract. Assumes nothing.
use Rattle.declare_type.proofs.NodeLaws.{extent-none, extent-known, extent-odd}
use Rattle.declare_type.proofs.node.extent_of.Goals as goal

pub returns-then-one-eq0 : goal.returns-then-one-eq0
returns-then-one-eq0 c = extent-none _ _ c.if-one-eq0.true

pub returns-then-all-one-eq0 : goal.returns-then-all-one-eq0
returns-then-all-one-eq0 c = extent-known _ _ c.if-one-eq0.false c.if-all-one-eq0.true

pub returns : goal.returns
returns c = extent-odd _ _ c.if-one-eq0.false c.if-all-one-eq0.false
