-- `write_pieces::put_pieces` meets its contract: what is left to write stands in the invariant. Assumes nothing.
use Prim.Native.Nat.{ℕ}
use mathlib.Core.Bool.{true}
use mathlib.Core.List.{List}
use mathlib.Core.Path.{◌≡◌}
use lib.ListN.{length, drop}
use Rattle.field_put.specs.Bytes.{Room, Puts}
use Rattle.write_pieces.specs.Pieces.{fine_all, raw_all}
use Rattle.write_pieces.proofs.put_pieces.Given as goal

abbrev pub invariant-loop-x : goal.invariant-loop-x
invariant-loop-x l =
    (fine_all l.text (drop l.x-index l.fn.xs) ≡ true) × (Room l.out l.to (raw_all l.text (drop l.x-index l.fn.xs))) × (length l.out ≡ length l.initial.out)
    × ((r : ℕ) (s : List ℕ) → Puts l.out l.to (raw_all l.text (drop l.x-index l.fn.xs)) r s → Puts l.initial.out l.p (raw_all l.text l.fn.xs) r s)
