-- `section_item::last` meets its contract: the loop's invariant is that what is left of the walk is what is left from the cursor. Assumes nothing.
use Prim.Native.Nat.{◌-◌}
use lib.ListN.{length}
use Rattle.section_item.proofs.SectionLaws.{Left}
use Rattle.section_item.proofs.last.Given as goal

abbrev pub invariant-loop-behind : goal.invariant-loop-behind
invariant-loop-behind l = Left l.s l.initial.d l.d

abbrev pub decreases-loop-behind : goal.decreases-loop-behind
decreases-loop-behind l = length l.s - l.d.at
