-- `stream_places::trailer::spelt` meets its contract: what is left to compare stands in the loop's invariant. Assumes nothing.
use Prim.Native.Nat.{◌+◌, ◌-◌, ◌≤◌}
use mathlib.Core.Path.{◌≡◌}
use lib.ListN.{length, drop}
use Rattle.stream_places.specs.File.{spells}
use Rattle.stream_places.proofs.trailer.spelt.Given as goal

abbrev pub invariant-loop-i : goal.invariant-loop-i
invariant-loop-i l = (l.i ≤ length l.text) × (spells l.f l.p l.text ≡ spells l.f (l.p + l.i) (drop l.i l.text))

abbrev pub decreases-loop-i : goal.decreases-loop-i
decreases-loop-i l = length l.text - l.i
