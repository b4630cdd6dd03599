-- `stream_fit::by_record` meets its contract: its own references and then its list's. Assumes nothing.
use Rattle.stream_fit.proofs.WorstLaws.{data-list, data-own}
use Rattle.stream_fit.proofs.by_record.Goals as goal

pub returns-in-Ok-start : goal.returns-in-Ok-start
returns-in-Ok-start c = data-list _ _ _ _ _ _ c.in-Ok.ensures c.record_references.ensures c.by_references-own.ensures _ _ c.in-Ok-start.ensures c.by_elements.ensures

pub returns-in-Err : goal.returns-in-Err
returns-in-Err c = data-own _ _ _ _ _ _ c.in-Ok.ensures c.record_references.ensures c.by_references-own.ensures _ _ c.in-Err.ensures
