-- "Given exactly when" of what reads a record: numbers, strings, fields of each kind, layouts, records by any table, lists and their elements.
-- "Fields are read in order, the first refusal is given": a record is refused as that field of its layout is which is the first to be refused.
-- `Given n d a P` (Given.antt): a is refused by n exactly when P, and then with the details d; where P is ⊥, it is never refused by n.
use Rattle.std.specs.Prelude.{Option, None, Some, ℕ, ◌+◌, ◌≤◌, ◌<◌, true, false, ◌≡◌, ◌⊎◌, List, [], ◌∷◌, length}
use Rattle.answer.specs.Answer.{got}
use Rattle.answer.specs.Tables.{find}
use Rattle.field.specs.Fields.{little_at}
use Rattle.field_text.specs.Texts.{string_of}
use Rattle.field_number.specs.Numbers.{Wide, signed, unsigned, prefixes, numeric_at}
use Rattle.field_number.specs.Forms.{numeral_at, sized_at}
use Rattle.record_layout.specs.Fields.{Field, fixed, type, id, string_reference, optional_type, optional_id, word, gap, numeric, size, string, run, methods, members, when, run_bytes, word_after, read_field, read_fields, Shown}
use Rattle.record_layout.specs.Layouts.{Layout, Table, read_record, record_of}
use Rattle.claim_promises.specs.Given.{Given}
use Rattle.claim_promises.specs.ExactlyWhen.{NoZero, Negative}

-- ---- words of the conditions

-- how many bytes follow the two of a numeric leaf: "0x8000 i8, 0x8001 i16, .. follow their prefix", and none any other
abbrev pub wide_bytes : Option Wide → ℕ
wide_bytes None = 0
wide_bytes (Some (signed k)) = k
wide_bytes (Some (unsigned k)) = k

abbrev pub CutNumber : List ℕ → ℕ → Type 0
CutNumber s p = length s < p + 2 + wide_bytes (find (little_at 2 s p) prefixes)

-- the prefix is there and unknown
abbrev pub UnknownPrefix : List ℕ → ℕ → Type 0
UnknownPrefix s p = (p + 2 ≤ length s) × (0x8000 ≤ little_at 2 s p) × (find (little_at 2 s p) prefixes ≡ None)

-- 1: the field passes the end, where w is the word
unfoldable pub CutField : Field → ℕ → List ℕ → ℕ → Type 0
CutField (fixed k) w s p = length s < p + k
CutField type w s p = length s < p + 4
CutField id w s p = length s < p + 4
CutField string_reference w s p = length s < p + 4
CutField optional_type w s p = length s < p + 4
CutField optional_id w s p = length s < p + 4
CutField (word k good) w s p = length s < p + k
CutField (gap k) w s p = length s < p + k
CutField numeric w s p = CutNumber s p
CutField size w s p = CutNumber s p
CutField string w s p = NoZero s p
CutField (run e) w s p = length s < p + run_bytes e w
CutField methods w s p = ⊥
CutField members w s p = ⊥
CutField (when there f) w s p = (there w ≡ true) × CutField f w s p

-- 11: a numeric leaf with an unknown prefix, or a negative one where a size is wanted
unfoldable pub BadField : Field → ℕ → List ℕ → ℕ → Type 0
BadField numeric w s p = UnknownPrefix s p
BadField size w s p = UnknownPrefix s p ⊎ Negative (numeric_at s p)
BadField (when there f) w s p = (there w ≡ true) × BadField f w s p
BadField (fixed k) w s p = ⊥
BadField type w s p = ⊥
BadField id w s p = ⊥
BadField string_reference w s p = ⊥
BadField optional_type w s p = ⊥
BadField optional_id w s p = ⊥
BadField (word k good) w s p = ⊥
BadField (gap k) w s p = ⊥
BadField string w s p = ⊥
BadField (run e) w s p = ⊥
BadField methods w s p = ⊥
BadField members w s p = ⊥

-- 12: a word that is there and fails its test
unfoldable pub FailingField : Field → ℕ → List ℕ → ℕ → Type 0
FailingField (word k good) w s p = (p + k ≤ length s) × (good (little_at k s p) ≡ false)
FailingField (when there f) w s p = (there w ≡ true) × FailingField f w s p
FailingField (fixed k) w s p = ⊥
FailingField type w s p = ⊥
FailingField id w s p = ⊥
FailingField string_reference w s p = ⊥
FailingField optional_type w s p = ⊥
FailingField optional_id w s p = ⊥
FailingField (gap k) w s p = ⊥
FailingField numeric w s p = ⊥
FailingField size w s p = ⊥
FailingField string w s p = ⊥
FailingField (run e) w s p = ⊥
FailingField methods w s p = ⊥
FailingField members w s p = ⊥

-- fields are read in order: from the fields fs at place p, w being the word, one comes to the fields gs at q with the word u, all before them read
pub data FieldReached (s : List ℕ) : List Field → ℕ → ℕ → List Field → ℕ → ℕ → Type 0 where
  here : {fs : List Field} {w p : ℕ} → FieldReached s fs w p fs w p
  next : {f : Field} {fs gs : List Field} {w p u r : ℕ} {v : Shown} {q : ℕ} → read_field f w s p ≡ got v q → FieldReached s fs (word_after f v w) q gs u r
      → FieldReached s (f ∷ fs) w p gs u r

-- P of one of the fields, where its reading comes to it
pub record AtField (P : Field → ℕ → List ℕ → ℕ → Type 0) (fs : List Field) (w : ℕ) (s : List ℕ) (p : ℕ) : Type 0 where
  pub field : Field
  pub after : List Field
  pub the_word : ℕ
  pub place : ℕ
  pub reached : FieldReached s fs w p (field ∷ after) the_word place
  pub so : P field the_word s place

-- P of one of the fields of the record at place p, whose leaf the table has
pub record AtLeaf (P : Field → ℕ → List ℕ → ℕ → Type 0) (table : Table) (s : List ℕ) (p : ℕ) : Type 0 where
  pub there : p + 2 ≤ length s
  pub layout : Layout
  pub line : find (little_at 2 s p) table ≡ Some layout
  pub field : AtField P layout 0 s (p + 2)

pub record RecordsWhen : Type 0 where
  -- 1 of a numeric leaf: its two bytes, or those behind its prefix, pass the end; of one where a size is wanted too
  pub numbers_1 : (s : List ℕ) (p : ℕ) → Given 1 [] (numeral_at s p) (CutNumber s p)
  pub sizes_1 : (s : List ℕ) (p : ℕ) → Given 1 [] (sized_at s p) (CutNumber s p)
  -- 1 of a string by its leaf: "at or below 0x1500 it reads a length byte and that many bytes"
  pub strings_by_leaf_1 : (leaf : ℕ) (s : List ℕ) (p : ℕ) → Given 1 [] (string_of leaf s p)
      (((leaf ≤ 0x1500) × (length s < p + 1 + little_at 1 s p)) ⊎ ((0x1500 < leaf) × NoZero s p))
  -- 1, 11 and 12 of a field of each kind
  pub fields_1 : (f : Field) (w : ℕ) (s : List ℕ) (p : ℕ) → Given 1 [] (read_field f w s p) (CutField f w s p)
  pub fields_11 : (f : Field) (w : ℕ) (s : List ℕ) (p : ℕ) → Given 11 [] (read_field f w s p) (BadField f w s p)
  pub fields_12 : (f : Field) (w : ℕ) (s : List ℕ) (p : ℕ) → Given 12 [] (read_field f w s p) (FailingField f w s p)
  -- of a layout, whatever its fields: exactly if one of them is so, all before it read. A method of 0x1206 is such a layout
  pub layouts_1 : (fs : List Field) (w : ℕ) (s : List ℕ) (p : ℕ) → Given 1 [] (read_fields fs w s p) (AtField CutField fs w s p)
  pub layouts_11 : (fs : List Field) (w : ℕ) (s : List ℕ) (p : ℕ) → Given 11 [] (read_fields fs w s p) (AtField BadField fs w s p)
  pub layouts_12 : (fs : List Field) (w : ℕ) (s : List ℕ) (p : ℕ) → Given 12 [] (read_fields fs w s p) (AtField FailingField fs w s p)
  -- of a record by any table: 1 below two bytes, and else by its leaf's fields
  pub records_1 : (table : Table) (s : List ℕ) → Given 1 [] (record_of table s) ((length s < 2) ⊎ AtLeaf CutField table s 0)
  pub records_11 : (table : Table) (s : List ℕ) → Given 11 [] (record_of table s) (AtLeaf BadField table s 0)
  pub records_12 : (table : Table) (s : List ℕ) → Given 12 [] (record_of table s) (AtLeaf FailingField table s 0)
  -- of a member, at its place
  pub members_1 : (table : Table) (s : List ℕ) (p : ℕ) → Given 1 [] (read_record table s p) ((length s < p + 2) ⊎ AtLeaf CutField table s p)
  pub members_11 : (table : Table) (s : List ℕ) (p : ℕ) → Given 11 [] (read_record table s p) (AtLeaf BadField table s p)
  pub members_12 : (table : Table) (s : List ℕ) (p : ℕ) → Given 12 [] (read_record table s p) (AtLeaf FailingField table s p)
