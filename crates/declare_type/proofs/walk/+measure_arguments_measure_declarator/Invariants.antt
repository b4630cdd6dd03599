-- `declare_type::walk::declarator` and `arguments`, which call each other, meet their contracts: the depth that is left falls. Assumes nothing.
use Prim.Native.Nat.{◌≤◌, ◌+◌, ◌*◌, ◌-◌}
use mathlib.Core.Path.{◌≡◌}
use lib.ListN.{length}
use Rattle.stream_finder.specs.Finder.{state}
use Rattle.declare_type.specs.Nodes.{list_of}
use Rattle.declare_type.specs.Steps.{around_first}
use Rattle.declare_type.specs.Walk.{walk, over_arguments, rest_of, capped}
use Rattle.declare_type.proofs.RoomLaws.{grown}
use Rattle.declare_type.proofs.walk.+measure_arguments_measure_declarator.Given as goal

abbrev pub invariant-measure_arguments-loop-left : goal.invariant-measure_arguments-loop-left
invariant-measure_arguments-loop-left l =
    (l.fixed ≤ l.room)
    × (l.at + 4 * l.left ≤ length l.s)
    × (capped l.room (over_arguments (λ j. walk l.s (state l.f l.t) l.d j around_first) l.s (list_of l.s (state l.f l.t) l.g)) ≡ grown 0 l.fixed (capped (l.room - l.fixed) (rest_of (λ j. walk l.s (state l.f l.t) l.d j around_first) l.s l.at l.left)))

abbrev pub decreases-measure_arguments-loop-left : goal.decreases-measure_arguments-loop-left
decreases-measure_arguments-loop-left l = l.left

abbrev pub decreases-measure_arguments : goal.decreases-measure_arguments
decreases-measure_arguments l = 2 * l.d + 1

abbrev pub decreases-measure_declarator : goal.decreases-measure_declarator
decreases-measure_declarator l = 2 * l.d
