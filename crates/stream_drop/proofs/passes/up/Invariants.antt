-- `stream_drop::passes::up` meets its contract: the payloads that are left stand in the loop's invariant. Assumes nothing.
use Prim.Native.Nat.{◌+◌, ◌*◌, ◌-◌, ◌≤◌}
use mathlib.Core.Bool.{true}
use mathlib.Core.Path.{◌≡◌}
use lib.ListN.{length}
use Rattle.stream_prune.specs.Links.{payloads_from}
use Rattle.stream_drop.specs.Each.{held_of}
use Rattle.stream_drop.specs.Passes.{up_from}
use Rattle.stream_drop.proofs.passes.up.Given as goal

abbrev pub invariant-loop-i : goal.invariant-loop-i
invariant-loop-i l = (l.q ≤ l.start + 65537 * l.i) × (length l.table ≡ length l.initial.table) × (length l.out ≡ length l.initial.out)
    × (up_from l.minimum l.writing l.i l.q (payloads_from (l.n - l.i) l.s l.here) (held_of l.good l.table l.out) ≡ up_from l.minimum l.writing 0 l.start (payloads_from l.n l.s l.initial.here) (held_of true l.initial.table l.initial.out))
