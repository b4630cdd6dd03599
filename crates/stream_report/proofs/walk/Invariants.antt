-- `stream_report::walk` meets its contract: the loop's invariant is that what is left of the walk is what is left from the cursor, and that the
-- table holds the entries so far. Assumes nothing.
use Prim.Native.Nat.{◌-◌}
use lib.ListN.{length}
use Rattle.stream_report.proofs.WalkLaws.{Going}
use Rattle.stream_report.proofs.walk.Given as goal

abbrev pub invariant-loop-item : goal.invariant-loop-item
invariant-loop-item l = Going l.s l.number l.initial.t l.initial.c l.initial.count l.initial.best l.t l.c l.count l.best

abbrev pub decreases-loop-item : goal.decreases-loop-item
decreases-loop-item l = length l.s - l.c.at
