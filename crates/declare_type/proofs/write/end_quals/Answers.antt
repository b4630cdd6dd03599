-- `declare_type::write::end_quals` meets its contract. Assumes nothing.
use borrow.Author.Tests.{eq-eqb}
use Rattle.declare_type.proofs.TokenPutLaws.{puts_none}
use Rattle.declare_type.proofs.write.end_quals.Goals as goal

pub returns-then-last : goal.returns-then-last
returns-then-last c = rw c.if-last.true (puts_none _ _)

pub returns-then-at-from : goal.returns-then-at-from
returns-then-at-from c = rw (c.if-last.false, eq-eqb _ _ c.if-at-from.true) (puts_none _ _)
