-- What the proofs of this crate cite, by one name. Assumes nothing.
use Rattle.record_cells.proofs.FilledLaws.{bad-kind-field, bad-mode-field, filling-on}

pub ruleset laws = (bad-kind-field, bad-mode-field, filling-on)
