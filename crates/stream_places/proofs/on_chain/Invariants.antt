-- `stream_places::on_the_chain` meets its contract: what is left to look at stands in the loop's invariant. Assumes nothing.
use Prim.Native.Nat.{◌-◌, ◌*◌, ◌≤◌}
use mathlib.Core.Path.{◌≡◌}
use lib.ListN.{length}
use Rattle.stream_places.specs.File.{words_at}
use Rattle.stream_places.specs.Places.{follows, on_chain}
use Rattle.stream_places.proofs.on_chain.Given as goal

abbrev pub invariant-loop-i : goal.invariant-loop-i
invariant-loop-i l =
    (1 ≤ l.i) × (l.i ≤ l.n) × (l.p ≤ length l.s) × (on_chain l.s l.links l.start (words_at l.n l.f 0) ≡ follows l.s l.links l.p (words_at (l.n - l.i) l.f (4 * l.i)))

abbrev pub decreases-loop-i : goal.decreases-loop-i
decreases-loop-i l = l.n - l.i
