-- What the proofs of this crate cite, by one name. Assumes nothing.
use Rattle.answer.proofs.Told.{told}
use Rattle.stream_index.proofs.WalkLaws.{create-refused, leads, leads-moved, leads-over, leads-refused, leaves-answered, leaves-refused, turn-further, turn-next, turn-updates, turns_more, walks-to}

pub ruleset laws = (create-refused, leads, leads-moved, leads-over, leads-refused, leaves-answered, leaves-refused, told, turn-further, turn-next, turn-updates, turns_more, walks-to)
