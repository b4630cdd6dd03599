-- `stream_drop::passes::lengths` meets its contract: the payloads that are left stand in the loop's invariant. Assumes nothing.
use Prim.Native.Nat.{◌-◌}
use mathlib.Core.Path.{◌≡◌}
use lib.ListN.{length}
use Rattle.stream_prune.specs.Links.{payloads_from}
use Rattle.stream_drop.specs.Passes.{lengths_in}
use Rattle.stream_drop.proofs.passes.lengths.Given as goal

abbrev pub invariant-loop-i : goal.invariant-loop-i
invariant-loop-i l = (length l.table ≡ length l.initial.table) × (lengths_in l.i (payloads_from (l.n - l.i) l.s l.here) l.table ≡ lengths_in 0 (payloads_from l.n l.s l.initial.here) l.initial.table)
