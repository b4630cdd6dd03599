-- What the proofs of this crate cite, by one name. Assumes nothing.
use Rattle.answer.proofs.Told.{told}
use Rattle.pane.proofs.BitLaws.{bits_are}
use Rattle.pane.proofs.HeaderLaws.{header_is, offset-is}

pub ruleset laws = (bits_are, header_is, offset-is, told)
