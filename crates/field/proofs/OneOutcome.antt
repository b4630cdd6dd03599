-- What an answer of this crate says fixes the answer, so that each contract `said.. r ≡ ..` admits one outcome: every answer is read back
-- from what it says. Assumes nothing.
use Rattle.std.specs.Prelude.{Result, Ok, Err, Option, None, Some}
use mathlib.Core.Path.{ap}
use Rattle.answer.proofs.OneOutcome.{refusal-back, refusal_in, one_of, one_read_number}
use Rattle.field.specs.declared.index.IdIndex.{IdIndex}
use Rattle.answer.specs.declared.Refusal.{Refusal}
use Rattle.field.specs.declared.index.StringRef.{StringRef}
use Rattle.field.specs.declared.index.TypeIndex.{TypeIndex}
use Prim.Native.Nat.{ℕ}
use mathlib.Core.Path.{◌≡◌, refl}
use Rattle.answer.specs.Answer.{answered, refused, Read}
use Rattle.field.specs.Indices.{said_type, said_id, said_string_ref, type_option, id_option}
use Rattle.answer.specs.Refusals.{itself, said_read}

-- fields

pub one-u8 : (r q : Result (ℕ × ℕ) Refusal) → said_read itself r ≡ said_read itself q → r ≡ q
one-u8 = one_read_number

pub one-u16 : (r q : Result (ℕ × ℕ) Refusal) → said_read itself r ≡ said_read itself q → r ≡ q
one-u16 = one_read_number

pub one-u32 : (r q : Result (ℕ × ℕ) Refusal) → said_read itself r ≡ said_read itself q → r ≡ q
one-u32 = one_read_number

pub one-u64 : (r q : Result (ℕ × ℕ) Refusal) → said_read itself r ≡ said_read itself q → r ≡ q
one-u64 = one_read_number

-- indices

abbrev hear_type : Read ℕ → Result (TypeIndex × ℕ) Refusal
hear_type (answered g) = Ok (record { 0 = g.value }, g.next)
hear_type (refused n d) = Err (refusal_in n d)

back-type : (r : Result (TypeIndex × ℕ) Refusal) → hear_type (said_type r) ≡ r
back-type (Ok (x, p)) = refl
back-type (Err e) = ap Err (refusal-back e)

pub one_type : (r q : Result (TypeIndex × ℕ) Refusal) → said_type r ≡ said_type q → r ≡ q
one_type = one_of said_type hear_type back-type

abbrev hear_id : Read ℕ → Result (IdIndex × ℕ) Refusal
hear_id (answered g) = Ok (record { 0 = g.value }, g.next)
hear_id (refused n d) = Err (refusal_in n d)

back-id : (r : Result (IdIndex × ℕ) Refusal) → hear_id (said_id r) ≡ r
back-id (Ok (x, p)) = refl
back-id (Err e) = ap Err (refusal-back e)

pub one-id : (r q : Result (IdIndex × ℕ) Refusal) → said_id r ≡ said_id q → r ≡ q
one-id = one_of said_id hear_id back-id

abbrev hear_string_ref : Read ℕ → Result (StringRef × ℕ) Refusal
hear_string_ref (answered g) = Ok (record { 0 = g.value }, g.next)
hear_string_ref (refused n d) = Err (refusal_in n d)

back-string-ref : (r : Result (StringRef × ℕ) Refusal) → hear_string_ref (said_string_ref r) ≡ r
back-string-ref (Ok (x, p)) = refl
back-string-ref (Err e) = ap Err (refusal-back e)

pub one-string-ref : (r q : Result (StringRef × ℕ) Refusal) → said_string_ref r ≡ said_string_ref q → r ≡ q
one-string-ref = one_of said_string_ref hear_string_ref back-string-ref

abbrev pub hear_optional_type : Option ℕ → Option TypeIndex
hear_optional_type None = None
hear_optional_type (Some n) = Some (record { 0 = n })

pub back-optional-type : (r : Option TypeIndex) → hear_optional_type (type_option r) ≡ r
back-optional-type None = refl
back-optional-type (Some x) = refl

pub one-optional-type : (r q : Option TypeIndex) → type_option r ≡ type_option q → r ≡ q
one-optional-type = one_of type_option hear_optional_type back-optional-type

abbrev hear_read_type : Read (Option ℕ) → Result (Option TypeIndex × ℕ) Refusal
hear_read_type (answered g) = Ok (hear_optional_type g.value, g.next)
hear_read_type (refused n d) = Err (refusal_in n d)

back-read-type : (r : Result (Option TypeIndex × ℕ) Refusal) → hear_read_type (said_read type_option r) ≡ r
back-read-type (Ok (x, p)) = rw (back-optional-type x)
back-read-type (Err e) = ap Err (refusal-back e)

pub one-read-type : (r q : Result (Option TypeIndex × ℕ) Refusal) → said_read type_option r ≡ said_read type_option q → r ≡ q
one-read-type = one_of (said_read type_option) hear_read_type back-read-type

abbrev pub hear_optional_id : Option ℕ → Option IdIndex
hear_optional_id None = None
hear_optional_id (Some n) = Some (record { 0 = n })

pub back-optional-id : (r : Option IdIndex) → hear_optional_id (id_option r) ≡ r
back-optional-id None = refl
back-optional-id (Some x) = refl

pub one-optional-id : (r q : Option IdIndex) → id_option r ≡ id_option q → r ≡ q
one-optional-id = one_of id_option hear_optional_id back-optional-id

abbrev hear_read_id : Read (Option ℕ) → Result (Option IdIndex × ℕ) Refusal
hear_read_id (answered g) = Ok (hear_optional_id g.value, g.next)
hear_read_id (refused n d) = Err (refusal_in n d)

back-read-id : (r : Result (Option IdIndex × ℕ) Refusal) → hear_read_id (said_read id_option r) ≡ r
back-read-id (Ok (x, p)) = rw (back-optional-id x)
back-read-id (Err e) = ap Err (refusal-back e)

pub one-read-id : (r q : Result (Option IdIndex × ℕ) Refusal) → said_read id_option r ≡ said_read id_option q → r ≡ q
one-read-id = one_of (said_read id_option) hear_read_id back-read-id
