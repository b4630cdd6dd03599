-- A record's values as a row of numbers in which each role has one place, whatever the leaf. A table of places is 01's table of layouts once more, with the
-- places of each field in the row.
use Rattle.std.specs.Prelude.{Option, None, Some, ℕ, suc, ◌+◌, List, [], ◌∷◌, set, replicate}
use Rattle.answer.specs.Answer.{pick}
use Rattle.answer.specs.Tables.{Line, find}
use Rattle.field_number.specs.Forms.{Form}
use Rattle.pane_out.specs.Handed.{bits64, negative}
use Rattle.record_layout.specs.Fields.{Shown, number, numeral, absent, many}
use Rattle.record_layout.specs.Values.{number_in}

-- R-4's form in one number: the bytes of the numeric leaf, and 256 more where a shorter form carries the number
abbrev pub form_in : Form → ℕ
form_in f = pick f.shorter (256 + f.width) f.width

-- A value is three numbers: a number and 1; the bits of a numeric leaf, 1 if it is negative, and its form; place and length; absent is 0, 0 and 0
abbrev pub first_of : Shown → ℕ
first_of (number n) = n
first_of (numeral z f) = bits64 z
first_of absent = 0
first_of (many x) = x.place

abbrev pub second_of : Shown → ℕ
second_of (number n) = 1
second_of (numeral z f) = negative z
second_of absent = 0
second_of (many x) = x.length

abbrev pub third_of : Shown → ℕ
third_of (number n) = 0
third_of (numeral z f) = form_in f
third_of absent = 0
third_of (many x) = 0

-- Where a field goes: nowhere; its first number at a place; the second right behind it; the first at a place and the third at another; all three in order
pub data Slot : Type 0 where
  off : Slot
  one : ℕ → Slot
  two : ℕ → Slot
  sized : ℕ → ℕ → Slot
  three : ℕ → Slot

abbrev pub Slots : Type 0
Slots = List Slot

abbrev pub put_slot : List ℕ → Slot → Shown → List ℕ
put_slot row off v = row
put_slot row (one k) v = set row k (first_of v)
put_slot row (two k) v = set (set row k (first_of v)) (suc k) (second_of v)
put_slot row (sized k j) v = set (set row k (first_of v)) j (third_of v)
put_slot row (three k) v = set (set (set row k (first_of v)) (suc k) (second_of v)) (suc (suc k)) (third_of v)

unfoldable pub puts : List ℕ → Slots → List Shown → List ℕ
puts row [] vs = row
puts row (k ∷ ks) [] = row
puts row (k ∷ ks) (v ∷ vs) = puts (put_slot row k v) ks vs

-- by a table, the leaf in front: the row has zeros where nothing is put
abbrev pub puts_by : Option Slots → List ℕ → List Shown → List ℕ
puts_by None row vs = row
puts_by (Some ks) row vs = puts row ks vs

unfoldable pub row_by : List (Line Slots) → ℕ → List Shown → List ℕ
row_by table n [] = replicate n 0
row_by table n (leaf ∷ vs) = puts_by (find (number_in leaf) table) (set (replicate n 0) 0 (number_in leaf)) vs
