-- `record_cells::cells_at` meets its contract. The loop's invariant: the row wanted is what is left to do from where the loop stands. Assumes nothing.
use Prim.Native.Nat.{◌-◌}
use Rattle.record_cells.proofs.FilledLaws.{Filling}
use Rattle.record_cells.proofs.cells_at.Given as goal

abbrev pub invariant-loop-rest : goal.invariant-loop-rest
invariant-loop-rest l = Filling l.layout l.s l.at l.initial.out l.out l.row l.k l.rest l.word l.here

abbrev pub decreases-loop-rest : goal.decreases-loop-rest
decreases-loop-rest l = 27 - l.k
