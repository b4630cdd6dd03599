-- `declare_type::write::name` meets its contract. Assumes nothing.
use native.Mathlib.Omega.{arith}
use mathlib.Core.Path.{sym}
use Rattle.declare_type.proofs.TokenPutLaws.{puts_none, puts-as, name-none}
use Rattle.declare_type.proofs.write.name.Goals as goal

pub returns-then-all-p : goal.returns-then-all-p
returns-then-all-p c = puts-as _ _ _ _ _ _ (sym (name-none c.args.s.now c.args.p c.args.n (omega arith))) (puts_none _ _)
