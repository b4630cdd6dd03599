-- What the proofs of this crate cite, by one name. Assumes nothing.
use Rattle.pane_row.proofs.RowLaws.{class-row, virtual-row}

pub ruleset laws = (class-row, virtual-row)
