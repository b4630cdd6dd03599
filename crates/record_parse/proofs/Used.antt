-- What the proofs of this crate cite, by one name. Assumes nothing.
use Rattle.answer.proofs.Told.{told}
use borrow.Author.Tests.{le-ltb, lt-ltb}

pub ruleset laws = (le-ltb, lt-ltb, told)
