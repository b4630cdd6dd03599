-- `write_pieces::write_plain` meets its contract: 17, 18 and 19 are decided before the first write. Assumes nothing.
use native.Mathlib.Omega.{arith}
use Rattle.std.proofs.Common.{rules}
use Rattle.write_pieces.proofs.RecordLaws.{measured-size, plain-bad, plain_over, plain-small, plain_done}
use Rattle.write_pieces.proofs.write_plain.Goals as goal

pub returns-in_err-n : goal.returns-in_err-n
returns-in_err-n c = plain-bad _ _ _ _ _ _ c.in_err-n.ensures _ (search rules)

pub returns-then-n-gt65535 : goal.returns-then-n-gt65535
returns-then-n-gt65535 c = plain_over _ _ _ _ _ (measured-size _ _ _ c.in_ok-n.ensures) c.if-n-gt65535.true

pub returns-then-out-at : goal.returns-then-out-at
returns-then-out-at c = plain-small _ _ _ _ _ (measured-size _ _ _ c.in_ok-n.ensures) (omega arith) (omega arith)

pub returns-then-out-at-2 : goal.returns-then-out-at-2
returns-then-out-at-2 c = plain-small _ _ _ _ _ (measured-size _ _ _ c.in_ok-n.ensures) (omega arith) (omega arith)

pub returns : goal.returns
returns c = plain_done _ _ _ _ _ (measured-size _ _ _ c.in_ok-n.ensures) (omega arith) (omega arith) _ _ c.put_pieces.ensures
