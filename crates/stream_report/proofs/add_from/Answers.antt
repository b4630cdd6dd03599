-- `stream_report::add_from` meets its contract: the walk's answer, then the settlement's. Assumes nothing.
use mathlib.Core.Path.{refl}
use Rattle.stream_report.proofs.SettleLaws.{own-fits, added-reports, handed-reports, walk-done, midway-reports}
use Rattle.stream_report.proofs.add_from.Goals as goal

pub records_of-records-requires : goal.records_of-records-requires
records_of-records-requires c =
    let f = walk-done c.args.totals c.args.table.now c.args.s.now c.args.first c.rows_of.result c.rows_of.ensures.0 c.walk.result c.walk.new.t c.walk.ensures c.in-Some.w c.in-Some.is in
    f.up

pub bytes_of-bytes-requires : goal.bytes_of-bytes-requires
bytes_of-bytes-requires c =
    let f = walk-done c.args.totals c.args.table.now c.args.s.now c.args.first c.rows_of.result c.rows_of.ensures.0 c.walk.result c.walk.new.t c.walk.ensures c.in-Some.w c.in-Some.is in
    rw c.records_of-records.ensures (own-fits c.args.totals c.args.table.now c.args.s.now c.args.first c.in-Some.w c.walk.new.t c.sized.ensures.refused f)

pub returns-in_ok-after-in-Some : goal.returns-in_ok-after-in-Some
returns-in_ok-after-in-Some c =
    let f = walk-done c.args.totals c.args.table.now c.args.s.now c.args.first c.rows_of.result c.rows_of.ensures.0 c.walk.result c.walk.new.t c.walk.ensures c.in-Some.w c.in-Some.is in
    added-reports c.args.totals c.args.table.now c.args.s.now c.args.first c.in-Some.w c.walk.new.t c.sized.ensures.refused f _ c.records_of-records.result c.bytes_of-bytes.result c.records_of-records.ensures c.bytes_of-bytes.ensures
    c.in_ok-after-in-Some.ensures _ refl

pub returns-in_err-after-in-Some : goal.returns-in_err-after-in-Some
returns-in_err-after-in-Some c =
    let f = walk-done c.args.totals c.args.table.now c.args.s.now c.args.first c.rows_of.result c.rows_of.ensures.0 c.walk.result c.walk.new.t c.walk.ensures c.in-Some.w c.in-Some.is in
    handed-reports c.args.totals c.args.table.now c.args.s.now c.args.first c.in-Some.w c.walk.new.t c.sized.ensures.refused f c.records_of-records.result c.bytes_of-bytes.result c.records_of-records.ensures c.bytes_of-bytes.ensures
    _ c.in_err-after-in-Some.ensures _ c.from_residual.ensures.1

pub returns-in-None : goal.returns-in-None
returns-in-None c =
    midway-reports c.args.totals c.args.table.now c.args.s.now c.args.first c.rows_of.result c.rows_of.ensures.0 c.walk.result c.walk.new.t c.walk.ensures
    c.in-None.is c.known.ensures c.sized.ensures _ c.refuse.ensures
