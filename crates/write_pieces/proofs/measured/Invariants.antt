-- `write_pieces::measured` meets its contract: what is left to measure stands in the invariant. Assumes nothing.
use Prim.Native.Nat.{◌≤◌}
use mathlib.Core.Path.{◌≡◌}
use lib.ListN.{drop}
use Rattle.write_pieces.proofs.PieceLaws.{measure_of}
use Rattle.write_pieces.proofs.measured.Given as goal

abbrev pub invariant-loop-x : goal.invariant-loop-x
invariant-loop-x l = (l.n ≤ 65536) × (measure_of l.text l.fn.xs 0 ≡ measure_of l.text (drop l.x-index l.fn.xs) l.n)
