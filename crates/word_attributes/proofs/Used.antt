-- What the proofs of this crate cite, by one name. Assumes nothing.
use Rattle.answer.proofs.TableLaws.{missed}
use borrow.Author.Tests.{eq-eqb, ne_eqb}

pub ruleset laws = (eq-eqb, missed, ne_eqb)
