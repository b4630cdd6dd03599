-- `record_list::element_from` meets its contract. The loop's invariant: the element wanted is element `k - i` from where the loop stands. Assumes nothing.
use Prim.Native.Nat.{◌-◌}
use mathlib.Core.Path.{◌≡◌}
use Rattle.record_list.specs.Lists.{step_of, element_by}
use Rattle.record_list.proofs.element_from.Given as goal

abbrev pub invariant-loop : goal.invariant-loop
invariant-loop l = element_by (step_of l.s) (l.k - l.counter) l.here ≡ element_by (step_of l.s) l.k l.initial.here
