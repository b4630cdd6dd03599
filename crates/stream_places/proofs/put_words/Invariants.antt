-- `stream_places::put_words` meets its contract: what is left to write stands in the loop's invariant. Assumes nothing.
use Prim.Native.Nat.{◌+◌, ◌-◌, ◌*◌, ◌≤◌}
use mathlib.Core.Path.{◌≡◌}
use lib.ListN.{length, take, drop}
use Rattle.field_put.specs.Bytes.{put}
use Rattle.stream_places.specs.File.{word_bytes}
use Rattle.stream_places.proofs.put_words.Given as goal

abbrev pub invariant-loop-i : goal.invariant-loop-i
invariant-loop-i l =
    (l.i ≤ l.n) × (l.to ≡ l.p + 4 * l.i) × (l.p + 4 * l.n ≤ length l.out) × (length l.out ≡ length l.initial.out) × (put l.initial.out l.p (word_bytes (take l.n l.t)) ≡ put l.out l.to (word_bytes (drop l.i (take l.n l.t))))

abbrev pub decreases-loop-i : goal.decreases-loop-i
decreases-loop-i l = l.n - l.i
