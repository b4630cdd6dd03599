-- `stream_places::fill` meets its contract: what is left to store stands in the loop's invariant. Assumes nothing.
use Prim.Native.Nat.{◌-◌, ◌*◌, ◌≤◌}
use mathlib.Core.Path.{◌≡◌}
use lib.ListN.{length}
use Rattle.field_put.specs.Bytes.{put}
use Rattle.stream_places.specs.File.{words_at}
use Rattle.stream_places.proofs.fill.Given as goal

abbrev pub invariant-loop-i : goal.invariant-loop-i
invariant-loop-i l = (l.i ≤ l.n) × (length l.t ≡ length l.initial.t) × (put l.initial.t 0 (words_at l.n l.f 0) ≡ put l.t l.i (words_at (l.n - l.i) l.f (4 * l.i)))

abbrev pub decreases-loop-i : goal.decreases-loop-i
decreases-loop-i l = l.n - l.i
