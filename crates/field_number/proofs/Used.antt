-- What the proofs of this crate cite, by one name. Assumes nothing.
use Rattle.answer.proofs.Told.{told}
use Rattle.field_number.proofs.FormLaws.{natural-10, natural-2, natural-4, natural-6, negative-10, negative-3, negative-4, negative-6, plain_form, size-natural, size-negative, size-refused, size-short, wide-refused, wide-upto, wide_form, wide_from}
use borrow.Author.Tests.{le-ltb, lt-ltb, ne_eqb}

pub ruleset laws = (le-ltb, lt-ltb, natural-10, natural-2, natural-4, natural-6, ne_eqb, negative-10, negative-3, negative-4, negative-6, plain_form, size-natural, size-negative, size-refused, size-short, told, wide-refused, wide-upto, wide_form, wide_from)
