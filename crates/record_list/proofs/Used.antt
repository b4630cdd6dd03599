-- What the proofs of this crate cite, by one name. Assumes nothing.
use Rattle.record_list.proofs.ListLaws.{element-here, element-turn, element-refused}

pub ruleset laws = (element-here, element-turn, element-refused)
