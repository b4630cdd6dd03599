-- `field_text::zero_from` meets its contract. The loop's invariant: what lies before `i` is passed. Assumes nothing.
use Rattle.std.proofs.Common.{◌-◌, length}
use Rattle.field_text.specs.Zeros.{Passed}
use Rattle.field_text.proofs.zero_from.Given as goal

abbrev pub invariant-loop-i : goal.invariant-loop-i
invariant-loop-i l = Passed l.s l.p l.i

abbrev pub decreases-loop-i : goal.decreases-loop-i
decreases-loop-i l = length l.s - l.i
