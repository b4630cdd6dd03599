-- `write_list::write_list` meets its contract: 17, 18 and 19 are decided before the first write. Assumes nothing.
use native.Mathlib.Omega.{arith}
use Rattle.std.proofs.Common.{rules}
use Rattle.write_pieces.proofs.RecordLaws.{refuse-by}
use Rattle.write_list.proofs.ElementLaws.{list-bad, list-size, over, small, roomy, done}
use Rattle.write_list.proofs.write_list.Goals as goal

pub returns-in_err-n : goal.returns-in_err-n
returns-in_err-n c = refuse-by _ _ _ _ _ (list-bad _ _ _ (omega arith) _ _ c.in_err-n.ensures) _ (search rules)

pub returns-then-length-gt65535 : goal.returns-then-length-gt65535
returns-then-length-gt65535 c = over _ _ _ (omega arith) _ _ _ (list-size _ _ _ (omega arith) _ c.in_ok-n.ensures) (omega arith)

pub returns-then-out-at : goal.returns-then-out-at
returns-then-out-at c = small _ _ _ (omega arith) _ _ _ (list-size _ _ _ (omega arith) _ c.in_ok-n.ensures) (omega arith) (omega arith)

pub returns-then-out-at-2 : goal.returns-then-out-at-2
returns-then-out-at-2 c = small _ _ _ (omega arith) _ _ _ (list-size _ _ _ (omega arith) _ c.in_ok-n.ensures) (omega arith) (omega arith)

pub put_list-requires : goal.put_list-requires
put_list-requires c =
    let z = (list-size _ _ _ (omega arith) _ c.in_ok-n.ensures) in
    (z.fine, omega (arith, z.count), roomy _ _ _ (omega arith) _ _ _ z (omega arith) (omega arith))

pub returns : goal.returns
returns c = done _ _ _ (omega arith) _ _ _ (list-size _ _ _ (omega arith) _ c.in_ok-n.ensures) (omega arith) (omega arith) _ _ c.put_list.ensures
