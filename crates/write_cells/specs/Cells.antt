-- A cell of a row as a value to write.
use Rattle.std.specs.Prelude.{Option, ℕ, List, ◌∷◌}
use Rattle.record_layout.specs.Fields.{Shown, number}
use Rattle.record_layout.specs.Layouts.{Layout}
use Rattle.write_layout.specs.Fields.{ToWrite, given, given_all, Encoded, fixed_bytes, and_also, write_fields}
use Rattle.write_layout.specs.Records.{written_by}
use Rattle.record_cells.specs.Codes.{decode}
use Rattle.record_cells.specs.Cells.{value_in, values_in}

-- the value of a cell, with the text that its parts lie in
abbrev pub cell_in : List ℕ → ℕ → ℕ → ℕ → ToWrite
cell_in t kind value more = given t (value_in kind value more)

-- the bytes of what is left of a layout and of a row, at most k fields
unfoldable pub left_bytes : ℕ → ℕ → ℕ → List ℕ → List ℕ → Encoded
left_bytes k n w t cells = write_fields (decode k n) w (given_all t (values_in k cells))

-- the bytes of a record of this leaf, from its row
abbrev pub cell_bytes : Option Layout → ℕ → List ℕ → List ℕ → Encoded
cell_bytes fs leaf t row = and_also (fixed_bytes 2 leaf) (written_by fs (given_all t (values_in 9 row)))

-- a leaf and its row, as the values that a record is written from
abbrev pub cell_values : ℕ → List ℕ → List Shown
cell_values leaf row = number leaf ∷ values_in 9 row
