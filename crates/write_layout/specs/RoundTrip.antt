-- R-1's promises over the table, once for all leaves: "Reading back gives the fields, and writing those the same bytes", and 17 is for fields
-- that would not read back. proofs/RoundTripProof.antt has them.
use Rattle.std.specs.Prelude.{None, Some, ℕ, ◌+◌, ◌%◌, ◌≤◌, ◌≡◌, false, List, [], ◌∷◌, ◌++◌, length, ℤ}
use Rattle.answer.specs.Answer.{answered, Read, got}
use Rattle.field.specs.Bytes.{bytes}
use Rattle.field_text.specs.Texts.{Part}
use Rattle.field_number.specs.Forms.{shortest, AllBytes}
use Rattle.record_layout.specs.Fields.{Value, Shown, number, numeral, absent, many, Field, read_fields_by}
use Rattle.record_layout.specs.Layouts.{Table, record_of}
use Rattle.write_layout.specs.Fields.{ToWrite, given_all, bad, write_fields}
use Rattle.write_layout.specs.Records.{write_leaf, write_record}

-- of a number that was read back is said what is said of the shortest form
abbrev pub InShortest : {W : Type 0} → (ℤ → ℕ → W) → Value Part W → Type 0
InShortest form (numeral z f) = f ≡ form z (length (shortest z))
InShortest form (number n) = Unit {0}
InShortest form absent = Unit {0}
InShortest form (many x) = Unit {0}

unfoldable pub AllInShortest : {W : Type 0} → (ℤ → ℕ → W) → List (Value Part W) → Type 0
AllInShortest form [] = Unit {0}
AllInShortest form (v ∷ vs) = InShortest form v × AllInShortest form vs

-- reading the bytes s gave values that show vs, and stands at q
pub record ReadAs {W : Type 0} (form : ℤ → ℕ → W) (s : List ℕ) (r : Read (List (Value Part W))) (vs : List ToWrite) (q : ℕ) : Type 0 where
  pub values : List (Value Part W)
  pub read : r ≡ got values q
  pub same : given_all s values ≡ vs
  pub forms : AllInShortest form values

-- what is written by a layout reads back by it, wherever it stands and whatever is said of a number's form
abbrev pub FieldsReadBack : Type 1
FieldsReadBack =
    (W : Type 0) (form : ℤ → ℕ → W) (fs : List Field) (w : ℕ) (vs : List ToWrite) (bs xs ys : List ℕ) → write_fields fs w vs ≡ answered bs
    → ReadAs form (xs ++ (bs ++ ys)) (read_fields_by form fs w (xs ++ (bs ++ ys)) (length xs)) vs (length xs + length bs)

-- R-4 of what was written: no number has a shorter form
abbrev pub NoneShorter : Shown → Type 0
NoneShorter (numeral z f) = f.shorter ≡ false
NoneShorter (number n) = Unit {0}
NoneShorter absent = Unit {0}
NoneShorter (many x) = Unit {0}

unfoldable pub NoShorter : List Shown → Type 0
NoShorter [] = Unit {0}
NoShorter (v ∷ vs) = NoneShorter v × NoShorter vs

-- R-1's sentence, of the bytes rs of a record that was written from vs
pub record ReadsBack (table : Table) (vs : List ToWrite) (rs : List ℕ) : Type 0 where
  -- one link: its length field, and a payload of so many bytes, that ends at a multiple of four from its start
  pub payload : List ℕ
  pub is_link : rs ≡ bytes 2 (length payload) ++ payload
  pub short : length payload ≤ 65535
  pub aligned : length rs % 4 ≡ 0
  -- the payload reads as the values, and these are written as the same bytes
  pub values : List Shown
  pub read : record_of table payload ≡ answered values
  pub same : given_all payload values ≡ vs
  pub again : write_record table (given_all payload values) ≡ answered rs
  pub shortest_forms : NoShorter values

abbrev pub RecordReadsBack : Type 0
RecordReadsBack = (table : Table) (vs : List ToWrite) (rs : List ℕ) → write_record table vs ≡ answered rs → ReadsBack table vs rs

-- bytes that read as values which show vs
pub record WouldRead (table : Table) (vs : List ToWrite) : Type 0 where
  pub payload : List ℕ
  pub small : AllBytes payload
  pub values : List Shown
  pub read : record_of table payload ≡ answered values
  pub same : given_all payload values ≡ vs

-- the bytes of what is to be written are bytes, as those of every `&[u8]` are
abbrev pub InBytes : ToWrite → Type 0
InBytes (many (Some bs)) = AllBytes bs
InBytes (many None) = Unit {0}
InBytes (number n) = Unit {0}
InBytes (numeral z u) = Unit {0}
InBytes absent = Unit {0}

unfoldable pub AllInBytes : List ToWrite → Type 0
AllInBytes [] = Unit {0}
AllInBytes (v ∷ vs) = InBytes v × AllInBytes vs

-- R-1's 17, "fields that would not read back": exactly if no bytes read as these values
pub record Exactly17 : Type 0 where
  pub refuses : (table : Table) (vs : List ToWrite) → write_record table vs ≡ bad → WouldRead table vs → ⊥
  pub only : (table : Table) (vs : List ToWrite) → AllInBytes vs → (WouldRead table vs → ⊥) → write_leaf table vs ≡ bad
