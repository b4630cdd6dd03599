-- A finder as C gets it, and the table that was lent.
use Rattle.std.specs.Prelude.{ℕ, List, [], ◌∷◌}
use Rattle.answer.specs.Answer.{Answer}
use Rattle.stream_finder.specs.Finder.{State, finder_of, table_after}
use Rattle.stream_finder.specs.declared.ItemFinder.{ItemFinder}
use Rattle.pane_out.specs.Handed.{handed}

-- a finder; and the table after the call
abbrev pub finder_fields : ItemFinder → List ℕ
finder_fields f = f.minimum_index ∷ f.maximum_index ∷ f.held ∷ f.shift ∷ []

abbrev pub out_finder : List ℕ → Answer State → ℕ × List ℕ × List ℕ
out_finder t a = ((handed 4 finder_fields (finder_of a)).0, (handed 4 finder_fields (finder_of a)).1, table_after t a)
