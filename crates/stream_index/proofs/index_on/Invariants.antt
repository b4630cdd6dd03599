-- `stream_index::index_on` meets its contract: the loop's invariant is that so many turns lead from what came in to where the loop stands. Assumes nothing.
use Prim.Native.Nat.{ℕ, ◌-◌}
use mathlib.Core.Path.{◌≡◌}
use lib.ListN.{length}
use Rattle.stream_finder.specs.Finder.{state}
use Rattle.stream_index.specs.Walk.{Turns}
use Rattle.stream_index.proofs.index_on.Given as goal

abbrev pub invariant-loop-g : goal.invariant-loop-g
invariant-loop-g l =
    (length l.t ≡ length l.initial.t) × ((n : ℕ) × Turns l.s l.initial.cursor (state l.initial.finder l.initial.t) n l.cursor (state l.finder l.t))

abbrev pub decreases-loop-g : goal.decreases-loop-g
decreases-loop-g l = length l.s - l.cursor.at
