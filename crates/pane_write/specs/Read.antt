-- What C gets of a record that is read into cells, and which table a layout is of.
use Rattle.std.specs.Prelude.{Option, Some, ℕ, Bool, true, false, List, [], ◌∷◌, eqb, get_or}
use Rattle.answer.specs.Answer.{Answer, answered, refused, pick}
use Rattle.answer.specs.Tables.{find}
use Rattle.record_layout.specs.Fields.{Shown}
use Rattle.record_layout.specs.Layouts.{Layout, Table, type_leaves, id_leaves, member_leaves, method}
use Rattle.record_layout.specs.Values.{number_in}
use Rattle.record_cells.specs.Cells.{cells_of}
use Rattle.record_cells.specs.Codes.{code_in, type_codes, id_codes, member_codes, method_code}

-- the table of ids, or of types
abbrev pub table_of : Bool → Table
table_of true = id_leaves
table_of false = type_leaves

-- the leaf of a record's values, which stands first, and the fields
abbrev leaf_in : List Shown → ℕ
leaf_in [] = 0
leaf_in (leaf ∷ vs) = number_in leaf

abbrev fields_in : List Shown → List Shown
fields_in [] = []
fields_in (leaf ∷ vs) = vs

-- the leaf, and the cells after the call; as they were, where the record is refused
abbrev pub out_cells : List ℕ → Answer (List Shown) → ℕ × List ℕ × List ℕ
out_cells before (answered vs) = (0, 0 ∷ 0 ∷ leaf_in vs ∷ [], cells_of 9 (fields_in vs))
out_cells before (refused n d) = (n, get_or d 0 0 ∷ get_or d 1 0 ∷ 0 ∷ [], before)

-- the layout of a leaf: of types for 0, of ids for 1, of members for 2; of a method for any other
abbrev pub leaves_of : ℕ → ℕ → Option Layout
leaves_of which leaf =
    pick (eqb which 0) (find leaf type_leaves)
    (pick (eqb which 1) (find leaf id_leaves)
    (pick (eqb which 2) (find leaf member_leaves)
    (Some method)))

-- and its number
abbrev pub codes_of : ℕ → ℕ → ℕ
codes_of which leaf =
    pick (eqb which 0) (code_in type_codes leaf)
    (pick (eqb which 1) (code_in id_codes leaf)
    (pick (eqb which 2) (code_in member_codes leaf)
    method_code))
