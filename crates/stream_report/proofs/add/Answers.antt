-- `stream_report::add` meets its contract where the header is refused. Assumes nothing.
use mathlib.Core.Path.{sym}
use Rattle.stream_report.proofs.SettleLaws.{header-reports}
use Rattle.stream_report.proofs.add.Goals as goal

pub returns-in-Err : goal.returns-in-Err
returns-in-Err c = header-reports _ _ _ _ _ (sym c.in-Err.ensures) c.known.ensures c.sized.ensures _ c.refuse.ensures
