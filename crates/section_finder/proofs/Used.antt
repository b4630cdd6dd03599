-- What the proofs of this crate cite, by one name. Assumes nothing.
use Rattle.answer.proofs.Told.{told}
use Rattle.section_finder.proofs.FinderLaws.{create-is, maximum-fits}
use Rattle.stream_finder.proofs.FinderLaws.{leaves, leaves-as}
use Rattle.stream_index.proofs.WalkLaws.{leaves-answered, leaves-refused}

pub ruleset laws = (create-is, leaves, leaves-answered, leaves-as, leaves-refused, maximum-fits, told)
