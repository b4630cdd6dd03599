-- What an entry's answer says fixes the answer. Assumes nothing.
use Rattle.record_parse.specs.declared.EntryData.TheVariants as entry_data
use Rattle.std.specs.Prelude.{Result, Ok, Err}
use Rattle.record_parse.specs.declared.EntryData.{EntryData}
use Rattle.answer.specs.declared.Refusal.{Refusal}
use mathlib.Core.Path.{◌≡◌, refl, ap}
use Rattle.answer.proofs.OneOutcome.{one_of, heard, heard-no}
use Rattle.record_data.proofs.OneOutcome.{data_in, data-back}
use Rattle.record_id.proofs.OneOutcome.{id_in, id-data-back}
use Rattle.record_parse.specs.Record.{Parsed, primitive, type, id, said_parse}

abbrev hear : Parsed → Result EntryData Refusal
hear (primitive p) = Ok (entry_data.Primitive p)
hear (type vs) = Ok (entry_data.Type (data_in vs))
hear (id vs) = Ok (entry_data.Id (id_in vs))

back : (r : Result EntryData Refusal) → heard hear Err (said_parse r) ≡ r
back (Ok (entry_data.Primitive p)) = refl
back (Ok (entry_data.Type d)) = ap (λ x. Ok (entry_data.Type x)) (data-back d)
back (Ok (entry_data.Id d)) = ap (λ x. Ok (entry_data.Id x)) (id-data-back d)
back (Err e) = heard-no hear Err e

pub one-parse : (r q : Result EntryData Refusal) → said_parse r ≡ said_parse q → r ≡ q
one-parse = one_of said_parse (heard hear Err) back
