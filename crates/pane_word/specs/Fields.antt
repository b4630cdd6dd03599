-- What C gets of a string, padding, a numeric leaf and an optional index, at a place of some bytes.
use Rattle.std.specs.Prelude.{Option, None, Some, ℕ, List, [], ◌∷◌, ℤ}
use Rattle.answer.specs.Answer.{Answer, Got, Read}
use Rattle.field_text.specs.Texts.{Part}
use Rattle.field_number.specs.Forms.{Form, Numeral}
use Rattle.pane_out.specs.Handed.{handed, mark, bits64, negative}

-- a string's place and length, and the place behind it
abbrev pub string_fields : Got Part → List ℕ
string_fields g = g.value.place ∷ g.value.length ∷ g.next ∷ []

abbrev pub out_string : Read Part → ℕ × List ℕ
out_string = handed 3 string_fields

-- the place behind the padding
abbrev pub place_field : ℕ → List ℕ
place_field p = p ∷ []

abbrev pub out_padding : Answer ℕ → ℕ × List ℕ
out_padding = handed 1 place_field

-- R-4's two numbers of a numeric leaf's form, and the place behind it
abbrev pub form_fields : Form → ℕ → List ℕ
form_fields f next = f.width ∷ mark f.shorter ∷ next ∷ []

abbrev pub size_fields : Got (Numeral ℕ Form) → List ℕ
size_fields g = g.value.value ∷ form_fields g.value.form g.next

abbrev pub out_size : Read (Numeral ℕ Form) → ℕ × List ℕ
out_size = handed 4 size_fields

abbrev pub number_fields : Got (Numeral ℤ Form) → List ℕ
number_fields g = bits64 g.value.value ∷ negative g.value.value ∷ form_fields g.value.form g.next

abbrev pub out_number : Read (Numeral ℤ Form) → ℕ × List ℕ
out_number = handed 5 number_fields

-- 1 where an optional index is there, 0 where its number reads as none
abbrev pub present : Option ℕ → ℕ
present None = 0
present (Some i) = 1
