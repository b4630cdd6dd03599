-- `stream_item::link::counted` meets its contract. The loop's invariant: the chain of i links from p has reached `at`. Assumes nothing.
use mathlib.Core.Path.{◌≡◌}
use Prim.Native.Nat.{◌≤◌, ◌-◌}
use Rattle.stream_item.specs.Links.{chain, reached}
use Rattle.stream_item.proofs.link.counted.Given as goal

abbrev pub invariant-loop-i : goal.invariant-loop-i
invariant-loop-i l = (l.i ≤ l.k) × (chain l.s l.p l.i ≡ reached l.at)

abbrev pub decreases-loop-i : goal.decreases-loop-i
decreases-loop-i l = l.k - l.i
