-- `pane_write::pdb_cells` meets its contract: what stands behind `out`, and the cells after the call, are what `out_cells` says of the record. Assumes nothing.
use mathlib.Core.Path.{sym}
use Rattle.std.proofs.Common.{rules}
use Rattle.pane_write.proofs.CellsLaws.{cells_out, cells_refused}
use Rattle.pane_write.proofs.pdb_cells.Goals as goal

pub returns-in-Ok-cells_by : goal.returns-in-Ok-cells_by
returns-in-Ok-cells_by c =
    let u = c.in-Ok-cells_by.ensures in
    rw (← c.is_set.ensures) (cells_out _ _ _ _ _ _ _ (sym c.in-Ok.ensures) (sym u.said) u.filled)

pub returns-in-Err-cells_by : goal.returns-in-Err-cells_by
returns-in-Err-cells_by c =
    let u = c.in-Err-cells_by.ensures in
    rw (← c.is_set.ensures) (cells_refused _ _ _ _ _ _ _ _ _ _ (sym c.in-Ok.ensures) (sym u.said) u.filled c.refused-in-Err-cells_by.ensures (search rules))
