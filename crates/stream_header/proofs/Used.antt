-- What the proofs of this crate cite, by one name. Assumes nothing.
use Rattle.answer.proofs.Told.{told}
use Rattle.field.proofs.FieldLaws.{field-got, never-refused}
use Rattle.stream_header.proofs.HeaderLaws.{header-cut, header-empty, header-large, header-long, header-past, header-small, header-whole, maximum-low, minimum-low}
use Rattle.stream_header.proofs.SignLaws.{bits_back, high_fits, high_is}

pub ruleset laws = (bits_back, field-got, header-cut, header-empty, header-large, header-long, header-past, header-small, header-whole, high_fits, high_is, maximum-low, minimum-low, never-refused, told)
