-- `declare_type::declare` meets its contract. Assumes nothing.
use native.Mathlib.Omega.{arith}
use Rattle.declare_type.proofs.RoomLaws.{fits-within, passed}
use Rattle.declare_type.proofs.DeclareLaws.{whole_room, declares-long, declares-fits, declares-refused}
use Rattle.declare_type.proofs.declare.Goals as goal

pub returns-then-s-gt-LONGEST : goal.returns-then-s-gt-LONGEST
returns-then-s-gt-LONGEST c = declares-long _ _ _ c.args.out.now (omega arith)

pub overflow_add-n : goal.overflow_add-n
overflow_add-n c = omega (arith, fits-within _ _ _ _ (rw c.start-around.ensures at c.in_ok-l.ensures), c.well_formed.1.1.1.1.0.0)

pub write_declarator-requires : goal.write_declarator-requires
write_declarator-requires c = rw c.start-around.ensures (whole_room _ c.args.out.now _ _ (rw c.start-around.ensures at c.in_ok-l.ensures))

pub returns : goal.returns
returns c = declares-fits _ _ _ c.args.out.now (omega arith) _ _ _ _ (rw c.start-around.ensures at c.in_ok-l.ensures) (rw c.start-around.ensures at c.write_declarator.ensures)

pub returns-in_err-l : goal.returns-in_err-l
returns-in_err-l c = rw (passed _ _ c.from_residual.ensures.1) (declares-refused _ _ _ c.args.out.now (omega arith) _ (rw c.start-around.ensures at c.in_err-l.ensures))
