-- `write_cells::put_record` meets its contract: a run of writes. Assumes nothing.
use Rattle.field_put.proofs.PutLaws.{puts-both}
use Rattle.write_cells.proofs.put_record.Goals as goal

pub returns : goal.returns
returns c =
    puts-both _ _ _ _ _ _ _ _ c.put16-p.ensures (puts-both _ _ _ _ _ _ _ _ c.put16-q.ensures
    (puts-both _ _ _ _ _ _ _ _ c.put_fields-e.ensures c.put_pads.ensures))
