-- Document 01, "Layouts": what the fields of a record are, and what reading them means.
--
-- A layout is a list of fields. `read_fields` reads any layout: fields in order, the first refusal given, bytes after the last not read.
-- Whatever else is said of a record is said of its layout.
use Rattle.std.specs.Prelude.{Option, None, Some, ℕ, ◌+◌, ◌*◌, ◌/◌, Bool, ◌≡◌, List, [], ◌∷◌, map, ℤ, pos}
use Rattle.answer.specs.Answer.{refused, Read, got, pick, then, and_then}
use Rattle.field.specs.Fields.{fixed_at}
use Rattle.field.specs.Indices.{no_type, no_id, optional_at}
use Rattle.field.specs.Runs.{bytes_after}
use Rattle.field_text.specs.Texts.{Part, string_at}
use Rattle.field_number.specs.Forms.{Form, form_of, numeral_by, sized_by}

-- The value of a field. `numeral` is a numeric leaf, with what is said of its form: R-4's width where it is read, nothing where 01 reads or
-- where it is to be written. `absent` is an index that reads as none, a field that is not there, and the elements of 0x1206 and 0x1203, which
-- are taken unread. What is many bytes, a string or the elements of a counted list, is a `Part` where it is read, and the bytes themselves
-- where it is written
pub data Value (S W : Type 0) : Type 0 where
  number : ℕ → Value S W
  numeral : ℤ → W → Value S W
  absent : Value S W
  many : S → Value S W

-- what reading shows
abbrev pub Shown : Type 0
Shown = Value Part Form

abbrev pub number_or : {S W : Type 0} → Value S W → ℕ → ℕ
number_or (number n) w = n
number_or (numeral z f) w = w
number_or absent w = w
number_or (many x) w = w

-- what a run is made of, and how many bytes n of it take
pub data Elements : Type 0 where
  types ids slots : Elements

abbrev pub run_bytes : Elements → ℕ → ℕ
run_bytes types n = 4 * n
run_bytes ids n = 4 * n
run_bytes slots n = (n + 1) / 2

-- Some fields look at a number that was read before them: the properties, the pointer word, the field attributes, the count. No layout has
-- two such numbers, so reading carries one, `the word`
pub data Field : Type 0 where
  -- a number of k bytes
  fixed : ℕ → Field
  -- a type index, an id index, a string reference: four bytes each; an index that may be none
  type id string_reference optional_type optional_id : Field
  -- a number of k bytes that becomes the word; 12 right after it if it fails the test
  word : ℕ → (ℕ → Bool) → Field
  -- k bytes that 01 gives no name: read, and shown as absent
  gap : ℕ → Field
  -- a numeric leaf; one that may not be negative; a string
  numeric size string : Field
  -- as many elements as the word says
  run : Elements → Field
  -- the elements of 0x1206 and of 0x1203, which go to the end of the record
  methods members : Field
  -- this field if the word passes the test, else absent
  when : (ℕ → Bool) → Field → Field

abbrev pub or_absent : {S W : Type 0} → Option ℕ → Value S W
or_absent None = absent
or_absent (Some n) = number n

-- the field at place p of s, where w is the word; `form` is what to say of a number and the bytes that it took
unfoldable pub read_field_by : {W : Type 0} → (ℤ → ℕ → W) → Field → ℕ → List ℕ → ℕ → Read (Value Part W)
read_field_by form (fixed k) w s p = and_then (fixed_at k s p) (λ n q. got (number n) q)
read_field_by form type w s p = and_then (fixed_at 4 s p) (λ n q. got (number n) q)
read_field_by form id w s p = and_then (fixed_at 4 s p) (λ n q. got (number n) q)
read_field_by form string_reference w s p = and_then (fixed_at 4 s p) (λ n q. got (number n) q)
read_field_by form optional_type w s p = and_then (optional_at no_type s p) (λ o q. got (or_absent o) q)
read_field_by form optional_id w s p = and_then (optional_at no_id s p) (λ o q. got (or_absent o) q)
read_field_by form (word k good) w s p = and_then (fixed_at k s p) (λ n q. pick (good n) (got (number n) q) (refused 12 []))
read_field_by form (gap k) w s p = and_then (fixed_at k s p) (λ n q. got absent q)
read_field_by form numeric w s p = and_then (numeral_by form s p) (λ x q. got (numeral x.value x.form) q)
read_field_by form size w s p = and_then (sized_by form s p) (λ x q. got (numeral (pos x.value) x.form) q)
read_field_by form string w s p = and_then (string_at s p) (λ x q. got (many x) q)
read_field_by form (run e) w s p = then (bytes_after (run_bytes e w) s p) (λ q. got (many (record { place = p; length = run_bytes e w })) q)
read_field_by form methods w s p = got absent p
read_field_by form members w s p = got absent p
read_field_by form (when there f) w s p = pick (there w) (read_field_by form f w s p) (got absent p)

-- the word after a field that read as v
abbrev pub word_after : {S W : Type 0} → Field → Value S W → ℕ → ℕ
word_after (word k good) v w = number_or v w
word_after (fixed k) v w = w
word_after type v w = w
word_after id v w = w
word_after string_reference v w = w
word_after optional_type v w = w
word_after optional_id v w = w
word_after (gap k) v w = w
word_after numeric v w = w
word_after size v w = w
word_after string v w = w
word_after (run e) v w = w
word_after methods v w = w
word_after members v w = w
word_after (when there f) v w = w

-- fields in order: their values and the place after the last, or the first refusal
unfoldable pub read_fields_by : {W : Type 0} → (ℤ → ℕ → W) → List Field → ℕ → List ℕ → ℕ → Read (List (Value Part W))
read_fields_by form [] w s p = got [] p
read_fields_by form (f ∷ fs) w s p =
    and_then (read_field_by form f w s p) (λ v q.
    and_then (read_fields_by form fs (word_after f v w) s q) (λ vs e.
    got (v ∷ vs) e))

-- the same with R-4's width and `shorter` beside each numeric leaf: what every reader answers
abbrev pub read_field : Field → ℕ → List ℕ → ℕ → Read Shown
read_field = read_field_by form_of

abbrev pub read_fields : List Field → ℕ → List ℕ → ℕ → Read (List Shown)
read_fields = read_fields_by form_of

-- R-4: "values and refusals of 01 stay". 01 says nothing of a number's form, and reads each layout as before, to the same values, the same
-- place or the same refusal
abbrev pub unsaid : ℤ → ℕ → Unit {0}
unsaid z width = tt

abbrev pub plain : {S W : Type 0} → Value S W → Value S (Unit {0})
plain (number n) = number n
plain (numeral z f) = numeral z tt
plain absent = absent
plain (many x) = many x

abbrev pub AsIn01 : Type 0
AsIn01 = (fs : List Field) (w : ℕ) (s : List ℕ) (p : ℕ) → and_then (read_fields fs w s p) (λ vs q. got (map plain vs) q) ≡ read_fields_by unsaid fs w s p
