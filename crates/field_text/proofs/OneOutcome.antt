-- What an answer of this crate says fixes the answer, so that each contract `said.. r ≡ ..` admits one outcome: every answer is read back
-- from what it says. Assumes nothing.
use Rattle.std.specs.Prelude.{Result, Ok, Err, Option, None, Some}
use mathlib.Core.Path.{ap}
use Rattle.answer.proofs.OneOutcome.{refusal-back, refusal_in, one_of, one_answer}
use Rattle.field_text.specs.declared.RawString.{RawString}
use Rattle.answer.specs.declared.Refusal.{Refusal}
use Rattle.std.proofs.Common.{◌≡◌, ℕ, refl}
use Rattle.answer.specs.Answer.{answered, refused, Read}
use Rattle.field_text.specs.Texts.{Part, string_option, part}
use Rattle.answer.specs.Refusals.{itself, said, said_read}

abbrev hear_optional_string : Option Part → Option RawString
hear_optional_string None = None
hear_optional_string (Some x) = Some (record { place = x.place; length = x.length })

back-optional-string : (r : Option RawString) → hear_optional_string (string_option r) ≡ r
back-optional-string None = refl
back-optional-string (Some t) = refl

pub one-optional-string : (r q : Option RawString) → string_option r ≡ string_option q → r ≡ q
one-optional-string = one_of string_option hear_optional_string back-optional-string

abbrev hear_string : Read Part → Result (RawString × ℕ) Refusal
hear_string (answered g) = Ok (record { place = g.value.place; length = g.value.length }, g.next)
hear_string (refused n d) = Err (refusal_in n d)

back-string : (r : Result (RawString × ℕ) Refusal) → hear_string (said_read part r) ≡ r
back-string (Ok (x, p)) = refl
back-string (Err e) = ap Err (refusal-back e)

pub one-string : (r q : Result (RawString × ℕ) Refusal) → said_read part r ≡ said_read part q → r ≡ q
one-string = one_of (said_read part) hear_string back-string

pub one-after : (r q : Result ℕ Refusal) → said itself r ≡ said itself q → r ≡ q
one-after = one_answer
