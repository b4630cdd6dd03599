-- `stream_report::count_in` meets its contract. Assumes nothing.
use native.Mathlib.Omega.{arith}
use Rattle.stream_report.proofs.TableLaws.{grows-taken, grows-left}
use Rattle.stream_report.proofs.CountLaws.{counts-grown, counts-over, counts-new, counts-full}
use Rattle.stream_report.proofs.count_in.Goals as goal

pub returns-then-grow : goal.returns-then-grow
returns-then-grow c =
    let a = c.args in
    counts-grown a.t.now a.k a.leaf a.n c.row_of-row.result c.requires c.row_of-row.ensures (omega arith) c.grow.new.t
    (grows-taken _ _ _ _ _ c.grow.ensures c.if-grow.true)

pub returns-then-row-rows : goal.returns-then-row-rows
returns-then-row-rows c =
    let a = c.args in
    counts-over a.t.now a.k a.leaf a.n c.row_of-row.result c.requires c.row_of-row.ensures (omega arith)
    (grows-left _ _ _ _ _ c.grow.ensures c.if-grow.false).0 c.grow.new.t (grows-left _ _ _ _ _ c.grow.ensures c.if-grow.false).1

pub returns-then-rows-lt64 : goal.returns-then-rows-lt64
returns-then-rows-lt64 c =
    let a = c.args in
    counts-new a.t.now a.k a.leaf a.n c.row_of-row.result c.requires c.row_of-row.ensures (omega arith) (omega arith) c.enter.new.t c.enter.ensures

pub returns : goal.returns
returns c =
    let a = c.args in
    counts-full a.t.now a.k a.leaf a.n c.row_of-row.result c.requires c.row_of-row.ensures (omega arith) (omega arith)
