-- `write_cells::write_by` meets its contract: 17, 18 and 19 are decided before the first write. Assumes nothing.
use native.Mathlib.Omega.{arith}
use Rattle.std.proofs.Common.{rules}
use Rattle.write_pieces.proofs.RecordLaws.{refuse-bad, refuse-by}
use Rattle.write_cells.specs.Cells.{left_bytes}
use Rattle.write_cells.proofs.RecordLaws.{measured-bad, measured-size, no-layout, bad-fields, over, small, roomy, done}
use Rattle.write_cells.proofs.write_by.Goals as goal

pub returns-then-layout-eq0 : goal.returns-then-layout-eq0
returns-then-layout-eq0 c = let a = c.args in refuse-bad _ _ _ (no-layout a.leaf a.layout a.text.now a.row.now (omega arith) c.if-layout-eq0.true)

pub returns-in_err-n : goal.returns-in_err-n
returns-in_err-n c =
    let a = c.args in
    let e = measured-bad (left_bytes 9 a.layout 0 a.text.now a.row.now) _ _ c.in_err-n.ensures in
    refuse-by _ _ _ _ _ (bad-fields a.leaf a.layout a.text.now a.row.now (omega arith) c.if-layout-eq0.false _ _ e) _ (search rules)

pub returns-then-length-gt65535 : goal.returns-then-length-gt65535
returns-then-length-gt65535 c =
    let a = c.args in
    let z = measured-size (left_bytes 9 a.layout 0 a.text.now a.row.now) _ c.in_ok-n.ensures in
    over a.leaf a.layout a.text.now a.row.now (omega arith) c.if-layout-eq0.false _ _ _ _ z c.pad_count-pad.ensures.0 c.if-length-gt65535.true

pub returns-then-out-at-2 : goal.returns-then-out-at-2
returns-then-out-at-2 c =
    let a = c.args in
    let z = measured-size (left_bytes 9 a.layout 0 a.text.now a.row.now) _ c.in_ok-n.ensures in
    small a.leaf a.layout a.text.now a.row.now (omega arith) c.if-layout-eq0.false _ _ _ _ z c.pad_count-pad.ensures.0 (omega arith) (omega arith)

pub put_record-requires : goal.put_record-requires
put_record-requires c =
    let a = c.args in
    let z = measured-size (left_bytes 9 a.layout 0 a.text.now a.row.now) _ c.in_ok-n.ensures in
    (c.requires, z.fine, c.pad_count-pad.ensures.1, roomy a.leaf a.layout a.text.now a.row.now (omega arith) c.if-layout-eq0.false _ _ _ _ z c.pad_count-pad.ensures.0 (omega arith) (omega arith))

pub returns : goal.returns
returns c =
    let a = c.args in
    let z = measured-size (left_bytes 9 a.layout 0 a.text.now a.row.now) _ c.in_ok-n.ensures in
    done a.leaf a.layout a.text.now a.row.now (omega arith) c.if-layout-eq0.false _ _ _ _ z c.pad_count-pad.ensures.0 (omega arith) (omega arith) _ _ c.put_record.ensures
