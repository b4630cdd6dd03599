-- `stream_places::leads` meets its contract. The loop's invariant: i links from p lead to `at`. Assumes nothing.
use Prim.Native.Nat.{◌-◌, ◌≤◌}
use mathlib.Core.Path.{◌≡◌}
use lib.ListN.{length}
use Rattle.stream_item.specs.Links.{chain, reached}
use Rattle.stream_places.proofs.leads.Given as goal

abbrev pub invariant-loop-i : goal.invariant-loop-i
invariant-loop-i l = (l.i ≤ l.links) × (l.at ≤ length l.s) × (chain l.s l.p l.i ≡ reached l.at)

abbrev pub decreases-loop-i : goal.decreases-loop-i
decreases-loop-i l = l.links - l.i
