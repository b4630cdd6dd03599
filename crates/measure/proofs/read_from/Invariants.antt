-- Each step of the iterator goes on, and none passes the stream's end.
use Rattle.std.proofs.Common.{◌-◌, length}
use Rattle.measure.proofs.read_from.Given as goal

abbrev pub decreases-loop-i : goal.decreases-loop-i
decreases-loop-i l = length l.s - l.c.at
