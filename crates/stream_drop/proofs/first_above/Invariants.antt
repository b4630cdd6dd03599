-- `stream_drop::first_above` meets its contract: the roots that are left stand in the loop's invariant. Assumes nothing.
use mathlib.Core.Path.{◌≡◌}
use lib.ListN.{drop}
use Rattle.stream_drop.specs.Drop.{first_above}
use Rattle.stream_drop.proofs.first_above.Given as goal

abbrev pub invariant-loop-x : goal.invariant-loop-x
invariant-loop-x l = first_above l.maximum (drop l.x-index l.roots) ≡ first_above l.maximum l.roots
