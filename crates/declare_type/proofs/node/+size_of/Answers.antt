-- `declare_type::node::size_of`, which calls itself, meets its contract: the types left to go through fall. Assumes nothing.
use native.Mathlib.Omega.{arith}
use mathlib.Core.Path.{◌∙◌}
use Rattle.declare_type.proofs.NodeLaws.{size-known, size-stopped, size-through}
use Rattle.declare_type.proofs.node.+size_of.Goals as goal

pub returns-in-Known : goal.returns-in-Known
returns-in-Known t c = size-known _ _ _ _ _ _ c.size_in.ensures c.look.ensures.0 _ c.in-Known.is

pub returns-then-k-eq0 : goal.returns-then-k-eq0
returns-then-k-eq0 t c = size-stopped _ _ _ _ _ _ c.size_in.ensures c.look.ensures.0 _ c.in-Through.is c.if-k-eq0.true

pub returns-in-Through : goal.returns-in-Through
returns-in-Through t c = c.size_of.ensures ∙ size-through _ _ _ _ _ _ c.size_in.ensures c.look.ensures.0 _ c.in-Through.is (omega arith)
