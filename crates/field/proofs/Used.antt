-- What the proofs of this crate cite, by one name. Assumes nothing.
use Rattle.answer.proofs.Told.{told}
use Rattle.field.proofs.FieldLaws.{field-ended, field-there, little-eight, little-four, little-one, little-two}
use Rattle.field.proofs.RunLaws.{bytes-there, bytes_past}
use borrow.Author.Tests.{eq-eqb, le-ltb, lt-ltb, ne_eqb}

pub ruleset laws = (bytes-there, bytes_past, eq-eqb, field-ended, field-there, little-eight, little-four, little-two, le-ltb, little-one, lt-ltb, ne_eqb, told)
