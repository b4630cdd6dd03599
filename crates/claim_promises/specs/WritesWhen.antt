-- "Given exactly when" for the numbers of document 02's R-1, over the definitions that the contracts of the writers cite: "Refusals: 2 to 5 for a
-- header; 17 fields that would not read back .., 18 over 65,535 payload bytes, pads counted, 19 buffer too small, in that order".
-- `Given n d a P` (Given.antt): a is refused by n exactly when P, and then with the details d.
use Rattle.std.specs.Prelude.{ℕ, ◌+◌, ◌≤◌, ◌<◌, false, ◌≡◌, List, [], length}
use Rattle.answer.specs.Answer.{answered}
use Rattle.field_text.specs.Texts.{Part}
use Rattle.field_number.specs.Forms.{AllBytes}
use Rattle.stream_header.specs.declared.Header.{Header}
use Rattle.record_layout.specs.Fields.{Value}
use Rattle.record_layout.specs.Layouts.{Table}
use Rattle.record_list.specs.Lists.{member_element, method_element}
use Rattle.write_layout.specs.Fields.{ToWrite, given_all, Encoded, fixed_bytes, and_also}
use Rattle.write_layout.specs.Records.{write_leaf, filled, write_record}
use Rattle.write_layout.specs.Lists.{members_bytes, field_list_bytes, methods_bytes, method_list_bytes}
use Rattle.write_layout.specs.Buffer.{lay}
use Rattle.write_layout.specs.RoundTrip.{WouldRead, AllInBytes}
use Rattle.write_list.specs.Rows.{member_rows, method_rows}
use Rattle.write_list.specs.ListsBack.{HasElements, EachInBytes}
use Rattle.write_header.specs.Headers.{header_bytes}
use Rattle.claim_promises.specs.Given.{Given}

-- ---- words of the conditions

-- leaf and fields have bytes, and these are more than 65,535, pads counted
pub record TooLong (b : Encoded) : Type 0 where
  pub payload : List ℕ
  pub made : b ≡ answered payload
  pub long : 65535 < length (filled payload)

-- there are bytes to write, and from place p on they pass the end of the buffer o
pub record NoRoom (b : Encoded) (o : List ℕ) (p : ℕ) : Type 0 where
  pub whole : List ℕ
  pub made : b ≡ answered whole
  pub small : length o < p + length whole

-- a header's numbers, in the order in which they are looked at
abbrev pub SizeRight : Header → Type 0
SizeRight h = (56 ≤ h.header_size) × (h.header_size ≤ 1024)

abbrev pub BoundsRight : Header → Type 0
BoundsRight h = (4096 ≤ h.minimum_index) × (h.minimum_index ≤ h.maximum_index)

-- ---- when
pub record WritesWhen : Type 1 where
  -- 17, would not read back: no bytes read as these values. Of a list: no payload has these elements, so that none stands after a continuation
  pub records_17 : (table : Table) (vs : List ToWrite) (o : List ℕ) (p : ℕ) → AllInBytes vs → Given 17 [] (lay (write_record table vs) o p) (WouldRead table vs → ⊥)
  pub field_lists_17 : (vss : List (List ToWrite)) (o : List ℕ) (p : ℕ) → EachInBytes vss → Given 17 [] (lay (field_list_bytes vss) o p) (HasElements 0x1203 member_element vss → ⊥)
  pub method_lists_17 : (vss : List (List ToWrite)) (o : List ℕ) (p : ℕ) → EachInBytes vss → Given 17 [] (lay (method_list_bytes vss) o p) (HasElements 0x1206 method_element vss → ⊥)
  -- the same of what the functions are given: values and rows whose strings are parts of a lent text, which is bytes
  pub texts_17 : (W : Type 0) (table : Table) (t : List ℕ) (vs : List (Value Part W)) (o : List ℕ) (p : ℕ) → AllBytes t
      → Given 17 [] (lay (write_record table (given_all t vs)) o p) (WouldRead table (given_all t vs) → ⊥)
  pub member_rows_17 : (t : List ℕ) (rows : List (List ℕ)) (o : List ℕ) (p : ℕ) → AllBytes t
      → Given 17 [] (lay (field_list_bytes (member_rows t rows)) o p) (HasElements 0x1203 member_element (member_rows t rows) → ⊥)
  pub method_rows_17 : (t : List ℕ) (rows : List (List ℕ)) (o : List ℕ) (p : ℕ) → AllBytes t
      → Given 17 [] (lay (method_list_bytes (method_rows t rows)) o p) (HasElements 0x1206 method_element (method_rows t rows) → ⊥)
  -- 18, record too long: "over 65,535 payload bytes, pads counted"
  pub records_18 : (table : Table) (vs : List ToWrite) (o : List ℕ) (p : ℕ) → Given 18 [] (lay (write_record table vs) o p) (TooLong (write_leaf table vs))
  pub field_lists_18 : (vss : List (List ToWrite)) (o : List ℕ) (p : ℕ)
      → Given 18 [] (lay (field_list_bytes vss) o p) (TooLong (and_also (fixed_bytes 2 0x1203) (members_bytes false vss)))
  pub method_lists_18 : (vss : List (List ToWrite)) (o : List ℕ) (p : ℕ)
      → Given 18 [] (lay (method_list_bytes vss) o p) (TooLong (and_also (fixed_bytes 2 0x1206) (methods_bytes vss)))
  -- 19, no room: "buffer too small"
  pub records_19 : (table : Table) (vs : List ToWrite) (o : List ℕ) (p : ℕ) → Given 19 [] (lay (write_record table vs) o p) (NoRoom (write_record table vs) o p)
  pub field_lists_19 : (vss : List (List ToWrite)) (o : List ℕ) (p : ℕ) → Given 19 [] (lay (field_list_bytes vss) o p) (NoRoom (field_list_bytes vss) o p)
  pub method_lists_19 : (vss : List (List ToWrite)) (o : List ℕ) (p : ℕ) → Given 19 [] (lay (method_list_bytes vss) o p) (NoRoom (method_list_bytes vss) o p)
  -- the header's: 2 to 5 as of a header that is read, and 19
  pub headers_2 : (h : Header) (o : List ℕ) (p : ℕ) → Given 2 [] (lay (header_bytes h) o p) (h.header_size < 56)
  pub headers_3 : (h : Header) (o : List ℕ) (p : ℕ) → Given 3 [] (lay (header_bytes h) o p) (1024 < h.header_size)
  pub headers_4 : (h : Header) (o : List ℕ) (p : ℕ) → Given 4 [] (lay (header_bytes h) o p) (SizeRight h × (h.minimum_index < 4096))
  pub headers_5 : (h : Header) (o : List ℕ) (p : ℕ) → Given 5 [] (lay (header_bytes h) o p) (SizeRight h × (4096 ≤ h.minimum_index) × (h.maximum_index < h.minimum_index))
  pub headers_19 : (h : Header) (o : List ℕ) (p : ℕ) → Given 19 [] (lay (header_bytes h) o p) (SizeRight h × BoundsRight h × (length o < p + h.header_size))
