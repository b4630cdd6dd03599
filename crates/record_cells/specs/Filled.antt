-- Reading a record's fields into a row.
use Rattle.std.specs.Prelude.{Result, Option, None, Some, ℕ, ◌≤◌, ◌≡◌, List, [], ◌∷◌, length}
use Rattle.answer.specs.declared.Refusal.{Refusal}
use Rattle.answer.specs.Answer.{answered, refused, Got, Read, got, and_then}
use Rattle.answer.specs.Refusals.{itself, said}
use Rattle.answer.specs.Tables.{find}
use Rattle.record_layout.specs.Fields.{Shown, number, Field, read_field, read_fields, word_after}
use Rattle.record_layout.specs.Layouts.{Layout, Table, read_leaf}
use Rattle.record_cells.specs.Codes.{decode, layout_of}
use Rattle.record_cells.specs.Cells.{cell_of, cells_of, values_in, fill}
use Rattle.record_cells.specs.declared.Cell.{Cell}

-- a field that was read: its cell, and the word after it
pub record CellStep : Type 0 where
  pub cell : Cell
  pub word : ℕ

abbrev pub step : Shown → ℕ → CellStep
step v w = record { cell = cell_of v; word = w }

unfoldable pub cell_step_by : Field → ℕ → List ℕ → ℕ → Read CellStep
cell_step_by f w s p = and_then (read_field f w s p) (λ v q. got (step v (word_after f v w)) q)

abbrev pub field_value : Cell × ℕ × ℕ → Got CellStep
field_value (c, w, q) = record { value = record { cell = c; word = w }; next = q }

abbrev pub said_field : Result (Cell × ℕ × ℕ) Refusal → Read CellStep
said_field = said field_value

-- the same for a field that becomes the word, whatever the word was
abbrev pub AnyWord : Result (Cell × ℕ × ℕ) Refusal → Field → List ℕ → ℕ → Type 0
AnyWord r f s p = (w : ℕ) → said_field r ≡ cell_step_by f w s p

-- what is left to do, where at most k fields are left and n is what is left of the layout
unfoldable pub cells_from : ℕ → ℕ → ℕ → List ℕ → ℕ → List ℕ → Read (List ℕ)
cells_from k n w s p cells = and_then (read_fields (decode k n) w s p) (λ vs q. got (fill k cells vs) q)

-- what stands behind `out` after a reading: the row of what it gave; what stood there, if it was refused
abbrev pub cells_after : {A : Type 0} → (A → List ℕ) → Read A → List ℕ → List ℕ
cells_after row (answered g) before = row g.value
cells_after row (refused n d) before = before

pub record FillsCells {A : Type 0} (row : A → List ℕ) (reading : Read A) (r : Result ℕ Refusal) (before after : List ℕ) : Type 0 where
  pub said : (said itself) r ≡ and_then reading (λ x q. answered q)
  pub filled : after ≡ cells_after row reading before

-- by a table: the fields of this leaf; 10 if the table does not have it
abbrev pub fields_by : Option Layout → ℕ → List ℕ → ℕ → Read (List Shown)
fields_by None leaf s p = refused 10 (leaf ∷ [])
fields_by (Some fs) leaf s p = read_fields fs 0 s p

-- A row tells the values that it was filled from, and so does not confuse two records; proofs/CellsTell.antt
pub record CellsTell : Type 0 where
  -- a row is read back
  pub back : (n : ℕ) (vs : List Shown) → length vs ≤ n → values_in n (cells_of n vs) ≡ vs
  pub one_row : (n : ℕ) (vs us : List Shown) → length vs ≤ n → length us ≤ n → cells_of n vs ≡ cells_of n us → vs ≡ us
  -- and nine cells hold what any layout number reads
  pub told : (n : ℕ) (s : List ℕ) (p : ℕ) (vs : List Shown) (q : ℕ) → read_fields (layout_of n) 0 s p ≡ got vs q → values_in 9 (cells_of 9 vs) ≡ vs
  -- with the leaf in front it is what 01's readers answer
  pub as_read : (table : Table) (leaf : ℕ) (s : List ℕ) (p : ℕ)
      → and_then (fields_by (find leaf table) leaf s p) (λ vs e. got (number leaf ∷ vs) e) ≡ read_leaf table leaf s p
