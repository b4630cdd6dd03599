-- What an id's answer says fixes the answer: the record is read back from its leaf and its values. Assumes nothing.
use Rattle.std.specs.Prelude.{Result}
use Rattle.answer.specs.declared.Refusal.{Refusal}
use Prim.Native.Nat.{ℕ}
use mathlib.Core.Path.{◌≡◌, refl}
use mathlib.Core.List.{List}
use lib.Dec.{eqb}
use Rattle.answer.specs.Answer.{pick}
use Rattle.answer.proofs.OneOutcome.{one_said}
use Rattle.field.proofs.OneOutcome.{hear_optional_id}
use Rattle.record_layout.specs.Fields.{Shown}
use Rattle.record_layout.specs.Values.{nth, number_in, string_in, option_in}
use Rattle.record_layout.proofs.OneOutcome.{id-back}
use Rattle.record_id.specs.Said.{source_values, id_values}
use Rattle.record_id.specs.declared.UserDefinedTypeSourceFileRef.{UserDefinedTypeSourceFileRef}
use Rattle.record_id.specs.declared.UserDefinedTypeSourceFileRef.TheVariants as file
use Rattle.record_id.specs.declared.IdData.{IdData}
use Rattle.record_id.specs.declared.IdData.TheVariants as id
use Rattle.answer.specs.Refusals.{said}

abbrev pub id_in : List Shown → IdData
id_in vs =
    let leaf = number_in (nth 0 vs) in
    let n1 = number_in (nth 1 vs) in
    let n2 = number_in (nth 2 vs) in
    let n3 = number_in (nth 3 vs) in
    pick (eqb leaf 0x1601) (id.Function (record { scope = hear_optional_id (option_in (nth 1 vs)); function_type = record { 0 = n2 }; name = string_in (nth 3 vs) }))
    (pick (eqb leaf 0x1602) (id.MemberFunction (record { parent = record { 0 = n1 }; function_type = record { 0 = n2 }; name = string_in (nth 3 vs) }))
    (pick (eqb leaf 0x1603) (id.BuildInfo (record { place = (string_in (nth 2 vs)).place; count = n1 }))
    (pick (eqb leaf 0x1604) (id.StringList (record { place = (string_in (nth 2 vs)).place; count = n1 }))
    (pick (eqb leaf 0x1605) (id.String (record { substrings = hear_optional_id (option_in (nth 1 vs)); name = string_in (nth 2 vs) }))
    (pick (eqb leaf 0x1606) (id.UserDefinedTypeSource (record { udt = record { 0 = n1 }; source_file = file.Local (record { 0 = n2 }); line = n3 }))
    (id.UserDefinedTypeSource (record { udt = record { 0 = n1 }; source_file = file.Remote (number_in (nth 4 vs)) (record { 0 = n2 }); line = n3 })))))))

source-back : (udt : ℕ) (f : UserDefinedTypeSourceFileRef) (line : ℕ) → id_in (source_values udt f line) ≡ id.UserDefinedTypeSource (record { udt = record { 0 = udt }; source_file = f; line = line })
source-back udt (file.Local f) line = refl
source-back udt (file.Remote m f) line = refl

pub id-data-back : (d : IdData) → id_in (id_values d) ≡ d
id-data-back (id.Function r) = rw (id-back r.scope)
id-data-back (id.MemberFunction r) = refl
id-data-back (id.BuildInfo r) = refl
id-data-back (id.StringList r) = refl
id-data-back (id.String r) = rw (id-back r.substrings)
id-data-back (id.UserDefinedTypeSource r) = source-back r.udt.0 r.source_file r.line

pub one-id : (r q : Result IdData Refusal) → said id_values r ≡ said id_values q → r ≡ q
one-id = one_said id_values id_in id-data-back
