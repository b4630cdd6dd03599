-- The row of a list's cursor: leaf, place, elements left, and whether the padding behind an element is still to be skipped.
use Rattle.std.specs.Prelude.{ℕ, List, [], ◌∷◌}
use Rattle.record_list.specs.declared.ListCursor.{ListCursor}
use Rattle.pane_out.specs.Handed.{mark}

abbrev pub cursor_row : ListCursor → List ℕ
cursor_row c = c.leaf ∷ c.at ∷ c.left ∷ mark c.padded ∷ []
