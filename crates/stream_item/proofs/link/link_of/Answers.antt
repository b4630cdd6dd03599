-- `stream_item::link::link_of` meets its contract: where the quick walk came to the link and the link is whole, it is link k. Assumes nothing.
use native.Mathlib.Omega.{arith}
use mathlib.Core.Path.{sym}
use Rattle.stream_item.proofs.LinkLaws.{led-to}
use Rattle.stream_item.proofs.link.link_of.Goals as goal

pub returns : goal.returns
returns c =
    let w = c.payload_of-q.ensures in
    sym (led-to _ _ _ _ _ c.length_at-n.ensures.0 w.low (w.came (omega arith)) (omega arith))
