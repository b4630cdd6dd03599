-- `write_cells::put::put_text` meets its contract. Assumes nothing.
use Rattle.field.specs.Bytes.{bytes}
use Rattle.field_put.proofs.PutLaws.{puts-both}
use Rattle.write_cells.proofs.put.put_text.Goals as goal

pub returns : goal.returns
unfolding bytes
returns c = puts-both _ _ _ _ _ _ _ _ c.put_part-e.ensures c.put8.ensures
