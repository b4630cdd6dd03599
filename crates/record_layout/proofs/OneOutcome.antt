-- What an answer says fixes the answer: the parts that every record is made of, read back from their values. Assumes nothing.
use Rattle.field.specs.declared.index.IdIndex.{IdIndex}
use Rattle.field.specs.declared.index.TypeIndex.{TypeIndex}
use Rattle.std.specs.Prelude.{Option, None, Some}
use Prim.Native.Nat.{ℕ}
use mathlib.Core.Bool.{false}
use mathlib.Core.Path.{◌≡◌, refl}
use lib.IntN.{ℤ, pos, negsuc}
use Rattle.field.specs.Indices.{type_option, id_option}
use Rattle.field_number.specs.Forms.{Form, Numeral}
use Rattle.field.proofs.OneOutcome.{hear_optional_type, back-optional-type, hear_optional_id, back-optional-id}
use Rattle.field_number.proofs.OneOutcome.{hear_number, back-number}
use Rattle.field_number.specs.declared.Variant.{Variant}
use Rattle.field_number.specs.declared.Size.{Size}
use Rattle.record_layout.specs.Fields.{Shown, number, numeral, absent, many, or_absent}
use Rattle.record_layout.specs.Values.{option_in, variant_value}

-- a numeric leaf, and one that may not be negative, from their values
abbrev numeral_in : Shown → Numeral ℤ Form
numeral_in (numeral z f) = record { value = z; form = f }
numeral_in (number n) = record { value = pos 0; form = record { width = 0; shorter = false } }
numeral_in absent = record { value = pos 0; form = record { width = 0; shorter = false } }
numeral_in (many x) = record { value = pos 0; form = record { width = 0; shorter = false } }

abbrev natural : ℤ → ℕ
natural (pos n) = n
natural (negsuc n) = 0

abbrev pub variant_in : Shown → Variant
variant_in v = let x = numeral_in v in record { value = hear_number x.value; width = x.form.width; shorter = x.form.shorter }

abbrev pub size_in : Shown → Size
size_in v = let x = numeral_in v in record { value = natural x.value; width = x.form.width; shorter = x.form.shorter }

pub option_back : (o : Option ℕ) → option_in (or_absent o) ≡ o
option_back None = refl
option_back (Some n) = refl

-- an optional type index, an optional id index and a numeric leaf, read back from their values
pub type-back : (t : Option TypeIndex) → hear_optional_type (option_in (or_absent (type_option t))) ≡ t
type-back t = rw (option_back (type_option t)) (back-optional-type t)

pub id-back : (i : Option IdIndex) → hear_optional_id (option_in (or_absent (id_option i))) ≡ i
id-back i = rw (option_back (id_option i)) (back-optional-id i)

pub variant_back : (v : Variant) → variant_in (variant_value v) ≡ v
variant_back v = rw (back-number v.value)
