-- A value of a record as three numbers, and a record's values as a row of them.
use Rattle.std.specs.Prelude.{ℕ, zero, suc, ◌+◌, ◌-◌, ◌*◌, Bool, true, false, List, [], ◌∷◌, ℤ, pos, negsuc, set, eqb}
use Rattle.answer.specs.Answer.{pick}
use Rattle.field_number.specs.Forms.{Form}
use Rattle.record_layout.specs.Fields.{Shown, number, numeral, absent, many}
use Rattle.record_cells.specs.declared.Cell.{Cell}

-- Kinds: 0 no field, 1 absent, 2 a number, 3 and 4 a numeric leaf n, 5 and 6 a numeric leaf -1 - n, the even ones where a shorter form carries it,
-- 7 many bytes
abbrev pub flag : Bool → ℕ
flag true = 1
flag false = 0

abbrev pub numeral_cell : ℤ → Form → Cell
numeral_cell (pos n) f = record { kind = 3 + flag f.shorter; value = n; more = f.width }
numeral_cell (negsuc n) f = record { kind = 5 + flag f.shorter; value = n; more = f.width }

-- the cell of a value: its kind, the number or the place, the width or the length
abbrev pub cell_of : Shown → Cell
cell_of absent = record { kind = 1; value = 0; more = 0 }
cell_of (number n) = record { kind = 2; value = n; more = 0 }
cell_of (numeral z f) = numeral_cell z f
cell_of (many x) = record { kind = 7; value = x.place; more = x.length }

-- a row of n cells: a cell for each value, then zeros
unfoldable pub cells_of : ℕ → List Shown → List ℕ
cells_of zero vs = []
cells_of (suc n) [] = 0 ∷ 0 ∷ 0 ∷ cells_of n []
cells_of (suc n) (v ∷ vs) = (cell_of v).kind ∷ (cell_of v).value ∷ (cell_of v).more ∷ cells_of n vs

-- What a row stands for -----------------------------------------------------------------------------------------------------------

abbrev form : ℕ → Bool → Form
form width shorter = record { width = width; shorter = shorter }

-- the value of a cell
abbrev pub value_in : ℕ → ℕ → ℕ → Shown
value_in kind value more =
    pick (eqb kind 1) absent
    (pick (eqb kind 2) (number value)
    (pick (eqb kind 3) (numeral (pos value) (form more false))
    (pick (eqb kind 4) (numeral (pos value) (form more true))
    (pick (eqb kind 5) (numeral (negsuc value) (form more false))
    (pick (eqb kind 6) (numeral (negsuc value) (form more true))
    (many (record { place = value; length = more })))))))

-- the values of a row of n cells, up to the first that has no field
unfoldable pub values_in : ℕ → List ℕ → List Shown
values_in zero row = []
values_in (suc n) [] = []
values_in (suc n) (a ∷ []) = []
values_in (suc n) (a ∷ b ∷ []) = []
values_in (suc n) (a ∷ b ∷ c ∷ row) = pick (eqb a 0) [] (value_in a b c ∷ values_in n row)

-- Filling a row ----------------------------------------------------------------------------------------------------------------------

-- a cell written into a row, at number k and the two after it
unfoldable pub put_cell : List ℕ → ℕ → Cell → List ℕ
put_cell row k c = set (set (set row k c.kind) (k + 1) c.value) (k + 2) c.more

-- the last n cells of a row of nine, filled one after the other
unfoldable pub fill : ℕ → List ℕ → List Shown → List ℕ
fill zero row vs = row
fill (suc n) row [] = row
fill (suc n) row (v ∷ vs) = fill n (put_cell row (27 - 3 * suc n) (cell_of v)) vs
