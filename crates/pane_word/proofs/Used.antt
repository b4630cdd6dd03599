-- What the proofs of this crate cite, by one name. Assumes nothing.
use Rattle.answer.proofs.Told.{told}
use Rattle.pane_word.proofs.WordLaws.{marked, properties-are}

pub ruleset laws = (marked, properties-are, told)
