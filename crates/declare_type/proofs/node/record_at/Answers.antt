-- `declare_type::node::record_at` meets its contract. Assumes nothing.
use native.Mathlib.Omega.{arith}
use Rattle.declare_type.proofs.LookLaws.{past_end, in-stream, held_in, part_length}
use Rattle.declare_type.proofs.node.record_at.Goals as goal

pub returns-then-p-s : goal.returns-then-p-s
returns-then-p-s c = (past_end _ _ _ _ (omega arith), tt)

pub returns-then-n-s : goal.returns-then-n-s
returns-then-n-s c = (past_end _ _ _ _ (omega arith), tt)

pub returns : goal.returns
returns c = (in-stream _ _ _ _ _ (omega arith) c.record_in.ensures.0, held_in c.args.s.now c.args.p _ c.record_in.result c.record_in.ensures.1 (part_length c.args.s.now c.args.p c.args.n (omega arith)))
