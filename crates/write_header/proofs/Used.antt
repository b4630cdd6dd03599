-- What the proofs of this crate cite, by one name. Assumes nothing.
use Rattle.write_header.proofs.HeaderLaws.{all-passed}
use Rattle.write_header.proofs.SignLaws.{below, not-below, same-cast, same_bits, turned-bits, turned-cast, turned-fits, turned-small}

pub ruleset laws = (all-passed, below, not-below, same-cast, same_bits, turned-bits, turned-cast, turned-fits, turned-small)
