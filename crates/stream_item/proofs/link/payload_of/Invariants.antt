-- `stream_item::link::payload_of` meets its contract. The loop's invariant: the chain of i links has reached the link whose payload is at q, if q is
-- not past the end. Assumes nothing.
use Prim.Native.Nat.{◌≤◌, ◌-◌}
use Rattle.stream_item.specs.Led.{Led}
use Rattle.stream_item.proofs.link.payload_of.Given as goal

abbrev pub invariant-loop-i : goal.invariant-loop-i
invariant-loop-i l = (l.i ≤ l.k) × Led l.s l.p l.i l.q

abbrev pub decreases-loop-i : goal.decreases-loop-i
decreases-loop-i l = l.k - l.i
