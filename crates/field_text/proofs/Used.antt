-- What the proofs of this crate cite, by one name. Assumes nothing.
use Rattle.answer.proofs.Told.{told}
use Rattle.field.proofs.FieldLaws.{field-got}
use Rattle.field_text.proofs.PadLaws.{pad-cut, pad-end, pad-more, pad-stop}
use Rattle.field_text.proofs.ZeroLaws.{came, came-to-none, passed-one, passed_none, passed_then, word-marks}
use Rattle.std.proofs.Common.{ap, drop, le-leb, le-ltb, length, lt-ltb, refl, sym}
use borrow.Author.Tests.{lt-leb}

pub ruleset laws = (ap, came, came-to-none, drop, field-got, le-leb, le-ltb, length, lt-leb, lt-ltb, pad-cut, pad-end, pad-more, pad-stop, passed-one, passed_none, passed_then, refl, sym, told, word-marks)
