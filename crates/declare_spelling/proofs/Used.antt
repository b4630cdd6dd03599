-- What the proofs of this crate cite, by one name. Assumes nothing.
use Rattle.declare_spelling.proofs.SpellingLaws.{mode-other}

pub ruleset laws = (mode-other)
