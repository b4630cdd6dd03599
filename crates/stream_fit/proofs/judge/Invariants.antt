-- `stream_fit::judge` meets its contract: the loop's invariant is what is left: the verdict from where the loop stands is that of the whole walk. Assumes nothing.
use Prim.Native.Nat.{suc, ◌-◌}
use mathlib.Core.Path.{◌≡◌}
use lib.ListN.{length}
use Rattle.stream_fit.specs.Fit.{judged}
use Rattle.stream_fit.proofs.judge.Given as goal

abbrev pub invariant-loop : goal.invariant-loop
invariant-loop l =
    judged (suc (length l.s) - l.counter) l.s l.minimum l.maximum l.here ≡ judged (suc (length l.s)) l.s l.minimum l.maximum l.initial.here
