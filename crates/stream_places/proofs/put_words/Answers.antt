-- `stream_places::put_words` meets its contract: what is left to write stands in the loop's invariant. Assumes nothing.
use native.Mathlib.Omega.{arith}
use mathlib.Core.Path.{refl}
use lib.ListN.{get_or}
use Rattle.field_put.specs.Bytes.{bytes, Puts}
use Rattle.field_put.proofs.PutLaws.{length-bytes, room_for, laid}
use Rattle.stream_places.proofs.FileLaws.{words-room}
use Rattle.stream_places.proofs.put_words.Goals as goal
use Rattle.stream_places.proofs.put_words.Goals.{After-slice_known-in-loop-i-1}

-- what a turn wrote
wrote : (c : After-slice_known-in-loop-i-1) → Puts c.loop-i.out c.loop-i.to (bytes 4 (get_or c.args.t.now c.loop-i.i 0)) c.put32-to.result c.put32-to.new.out
wrote c = laid _ _ _ _ _ (room_for _ _ _ 4 (length-bytes 4 _) (omega arith)) c.put32-to.ensures

pub loop-i-init : goal.loop-i-init
loop-i-init c =
    let r = words-room _ _ _ _ c.requires.0 c.requires.1 in
    (omega arith, omega arith, omega arith, refl, refl)
