-- `stream_drop::passes::mark_roots` meets its contract: the roots that are left stand in the loop's invariant. Assumes nothing.
use mathlib.Core.Path.{◌≡◌}
use lib.ListN.{length, drop}
use Rattle.stream_drop.specs.Passes.{roots_in}
use Rattle.stream_drop.proofs.passes.mark_roots.Given as goal

abbrev pub invariant-loop-x : goal.invariant-loop-x
invariant-loop-x l = (length l.table ≡ length l.initial.table) × (roots_in l.minimum (drop l.x-index l.roots) l.table ≡ roots_in l.minimum l.roots l.initial.table)
