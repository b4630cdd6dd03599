-- What the proofs of this crate cite, by one name. Assumes nothing.
use Rattle.record_data.proofs.Laws.{bad-pointer-kind, bad-pointer-mode}

pub ruleset laws = (bad-pointer-kind, bad-pointer-mode)
