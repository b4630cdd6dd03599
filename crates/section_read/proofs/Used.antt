-- What the proofs of this crate cite, by one name. Assumes nothing.
use Rattle.answer.proofs.Told.{told}
use borrow.Author.Tests.{eq-eqb, le-ltb, lt-ltb, ne_eqb}

pub ruleset laws = (eq-eqb, le-ltb, lt-ltb, ne_eqb, told)
