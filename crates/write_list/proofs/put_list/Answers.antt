-- `write_list::put_list` meets its contract: a run of writes. Assumes nothing.
use Rattle.field_put.proofs.PutLaws.{laid, room-first, room_after, puts-both}
use Rattle.write_list.proofs.put_list.Goals as goal

pub returns : goal.returns
returns c =
    let a = c.requires in
    let v = laid _ _ _ _ _ (room-first _ _ _ _ a.2) c.put16-p.ensures in
    let r = room_after _ _ _ _ _ _ a.2 v in
    let w = laid _ _ _ _ _ (room-first _ _ _ _ r) c.put16-q.ensures in
    puts-both _ _ _ _ _ _ _ _ v (puts-both _ _ _ _ _ _ _ _ w c.put_elements.ensures)
