-- `write_list::put_elements` meets its contract: what is left to write stands in the invariant. Assumes nothing.
use Prim.Native.Nat.{ℕ, ◌≤◌}
use mathlib.Core.Bool.{true}
use mathlib.Core.List.{List}
use mathlib.Core.Path.{◌≡◌}
use lib.ListN.{length, drop}
use Rattle.field_put.specs.Bytes.{Room, Puts}
use Rattle.write_list.specs.Elements.{good_all, held_all}
use Rattle.write_list.proofs.put_elements.Given as goal

abbrev pub invariant-loop-row : goal.invariant-loop-row
invariant-loop-row l =
    (good_all l.leaf l.text (drop l.row-index l.rows) ≡ true) × (length (held_all l.leaf l.text (drop l.row-index l.rows)) ≤ 65535)
    × (Room l.out l.to (held_all l.leaf l.text (drop l.row-index l.rows))) × (length l.out ≡ length l.initial.out)
    × ((r : ℕ) (s : List ℕ) → Puts l.out l.to (held_all l.leaf l.text (drop l.row-index l.rows)) r s → Puts l.initial.out l.p (held_all l.leaf l.text l.rows) r s)
