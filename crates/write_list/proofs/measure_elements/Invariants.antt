-- `write_list::measure_elements` meets its contract: what is left to measure stands in the invariant. Assumes nothing.
use Prim.Native.Nat.{◌≤◌}
use mathlib.Core.Bool.{false}
use mathlib.Core.Path.{◌≡◌}
use lib.ListN.{drop}
use Rattle.write_list.proofs.ElementLaws.{measure_of}
use Rattle.write_list.proofs.measure_elements.Given as goal

abbrev pub invariant-loop-row : goal.invariant-loop-row
invariant-loop-row l = (l.n ≤ 65536) × (measure_of l.leaf l.text false l.rows 0 ≡ measure_of l.leaf l.text l.ended (drop l.row-index l.rows) l.n)
