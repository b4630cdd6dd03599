-- A record's values by their number, and what a value holds.
use Rattle.std.specs.Prelude.{Option, None, Some, ℕ, List, get_or, pos}
use Rattle.field_text.specs.declared.RawString.{RawString}
use Rattle.field_number.specs.Numbers.{number_value}
use Rattle.field_number.specs.Forms.{variant_form, size_form}
use Rattle.field_number.specs.declared.Variant.{Variant}
use Rattle.field_number.specs.declared.Size.{Size}
use Rattle.record_layout.specs.Fields.{Shown, number, numeral, absent, many, number_or}

-- value i of a record
abbrev pub nth : ℕ → List Shown → Shown
nth i vs = get_or vs i absent

abbrev pub number_in : Shown → ℕ
number_in v = number_or v 0

abbrev pub string_in : Shown → RawString
string_in (many x) = record { place = x.place; length = x.length }
string_in (number n) = record { place = 0; length = 0 }
string_in (numeral z f) = record { place = 0; length = 0 }
string_in absent = record { place = 0; length = 0 }

abbrev pub option_in : Shown → Option ℕ
option_in (number n) = Some n
option_in (numeral z f) = None
option_in absent = None
option_in (many x) = None

-- the value of a numeric leaf, and of one that may not be negative
abbrev pub variant_value : Variant → Shown
variant_value v = numeral (number_value v.value) (variant_form v)

abbrev pub size_value : Size → Shown
size_value v = numeral (pos v.value) (size_form v)
