-- What the proofs of this crate cite, by one name. Assumes nothing.
use Rattle.answer.proofs.Told.{told}
use Rattle.stream_finder.proofs.FinderLaws.{begun-in-full, begun-in-none, begun-in-shift, begun-in-some, begun-is, by_number, create-is, due-quotient, due-rest, due-yes, find-above, find-claims, find-held, find-long, find-marker, find-shift, find-unheld, leaves, leaves-as, max-over, max-shift, max-top, max_none, shifted, update-claims, update-foreign, update-full, update-keeps, update-long, update-shift, update-stores}
use Rattle.stream_finder.proofs.LentLaws.{changes-answered, changes-refused}

pub ruleset laws = (begun-in-full, begun-in-none, begun-in-shift, begun-in-some, begun-is, by_number, changes-answered, changes-refused, create-is, due-quotient, due-rest, due-yes, find-above, find-claims, find-held, find-long, find-marker, find-shift, find-unheld, leaves, leaves-as, max-over, max-shift, max-top, max_none, shifted, told, update-claims, update-foreign, update-full, update-keeps, update-long, update-shift, update-stores)
