-- What the proofs of this crate cite, by one name. Assumes nothing.
use Rattle.answer.proofs.Told.{told}
use Rattle.field.proofs.FieldLaws.{field-got, never-refused}
use Rattle.section_item.proofs.SectionLaws.{count-is, count-refused, counted-from, further, left-first, left-next, left-refused, start-long, start-short, start-signature, start_first}

pub ruleset laws = (count-is, count-refused, counted-from, field-got, further, left-first, left-next, left-refused, never-refused, start-long, start-short, start-signature, start_first, told)
