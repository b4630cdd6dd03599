-- `stream_fit::by_elements` meets its contract: the loop's invariant is what is left: the least rule from where the loop stands is that of the whole list. Assumes nothing.
use Prim.Native.Nat.{◌-◌}
use mathlib.Core.Path.{◌≡◌}
use lib.ListN.{length}
use Rattle.stream_fit.specs.Worst.{rule_or_6, worst_from}
use Rattle.stream_fit.proofs.by_elements.Given as goal

abbrev pub invariant-loop : goal.invariant-loop
invariant-loop l =
    worst_from l.minimum l.index (rule_or_6 l.least) (length l.s - l.counter) l.s l.here ≡ worst_from l.minimum l.index (rule_or_6 l.fn.own) (length l.s) l.s l.initial.here
