-- `field_put::store16` meets its contract. Assumes nothing.
use native.Mathlib.Omega.{arith}
use lib.ListN.{length-set}
use Rattle.field_put.proofs.PutLaws.{room_of, length-bytes}
use Rattle.field_put.proofs.store16.Goals as goal

pub bounds-out-p-2 : goal.bounds-out-p-2
bounds-out-p-2 c = let r = room_of _ _ _ 2 (length-bytes 2 c.args.x) c.requires in rw length-set (omega arith)
