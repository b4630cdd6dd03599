-- `declare_type::declarator`, `arguments` and `argument`, which call each other, meet their contracts: the depth that is left falls. Assumes nothing.
use Prim.Native.Nat.{◌≤◌, ◌+◌, ◌*◌}
use lib.ListN.{length}
use Rattle.stream_finder.specs.Finder.{state}
use Rattle.declare_type.specs.Steps.{around_first}
use Rattle.declare_type.specs.Walk.{walk, rest_of}
use Rattle.declare_type.specs.Sides.{Rest}
use Rattle.declare_type.proofs.+write_argument_write_arguments_write_declarator.Given as goal

abbrev pub invariant-write_arguments-loop-left : goal.invariant-write_arguments-loop-left
invariant-write_arguments-loop-left l =
    (l.q + 4 * l.left ≤ length l.s)
    × Rest (rest_of (λ j. walk l.s (state l.f l.t) l.d j around_first) l.s l.q l.left) (rest_of (λ j. walk l.s (state l.f l.t) l.d j around_first) l.s l.initial.q l.initial.left) l.out l.e l.initial.out l.initial.e

abbrev pub decreases-write_arguments-loop-left : goal.decreases-write_arguments-loop-left
decreases-write_arguments-loop-left l = l.left

abbrev pub decreases-write_argument : goal.decreases-write_argument
decreases-write_argument l = 3 * l.d + 1

abbrev pub decreases-write_arguments : goal.decreases-write_arguments
decreases-write_arguments l = 3 * l.d + 2

abbrev pub decreases-write_declarator : goal.decreases-write_declarator
decreases-write_declarator l = 3 * l.d
