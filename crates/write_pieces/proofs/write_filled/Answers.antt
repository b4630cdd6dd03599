-- `write_pieces::write_filled` meets its contract: 17, 18 and 19 are decided before the first write. Assumes nothing.
use native.Mathlib.Omega.{arith}
use Rattle.std.proofs.Common.{rules}
use Rattle.write_pieces.proofs.RecordLaws.{measured-size, filled-refused, filled-over, filled-small, filled-roomy, filled-done}
use Rattle.write_pieces.proofs.write_filled.Goals as goal

pub returns-in_err-n : goal.returns-in_err-n
returns-in_err-n c = filled-refused _ _ _ _ _ _ c.in_err-n.ensures _ (search rules)

pub returns-then-length-gt65535 : goal.returns-then-length-gt65535
returns-then-length-gt65535 c = filled-over _ _ _ _ _ _ (measured-size _ _ _ c.in_ok-n.ensures) c.pad_count-pad.ensures.0 c.if-length-gt65535.true

pub returns-then-out-at : goal.returns-then-out-at
returns-then-out-at c = filled-small _ _ _ _ _ _ (measured-size _ _ _ c.in_ok-n.ensures) c.pad_count-pad.ensures.0 (omega arith) (omega arith)

pub returns-then-out-at-2 : goal.returns-then-out-at-2
returns-then-out-at-2 c = filled-small _ _ _ _ _ _ (measured-size _ _ _ c.in_ok-n.ensures) c.pad_count-pad.ensures.0 (omega arith) (omega arith)

pub put_filled-requires : goal.put_filled-requires
put_filled-requires c = ((measured-size _ _ _ c.in_ok-n.ensures).fine, c.pad_count-pad.ensures.1, filled-roomy _ _ _ _ _ _ (measured-size _ _ _ c.in_ok-n.ensures) c.pad_count-pad.ensures.0 (omega arith) (omega arith))

pub returns : goal.returns
returns c = filled-done _ _ _ _ _ _ (measured-size _ _ _ c.in_ok-n.ensures) c.pad_count-pad.ensures.0 (omega arith) (omega arith) _ _ c.put_filled.ensures
