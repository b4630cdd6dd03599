-- A cursor and a finder as C gives them: plain numbers, and the table that it lends.
use Rattle.std.specs.Prelude.{ℕ, List}
use Rattle.field.specs.declared.index.Stream.TheVariants.{Types}
use Rattle.stream_item.specs.declared.iter.ItemIter.{ItemIter}
use Rattle.stream_finder.specs.Finder.{State, state}
use Rattle.stream_finder.specs.declared.ItemFinder.{ItemFinder}

abbrev pub cursor_at : ℕ → ℕ → ItemIter
cursor_at at i = record { stream = Types; at = at; index = i }

abbrev pub finder_with : ℕ → ℕ → ℕ → ℕ → ItemFinder
finder_with minimum maximum held shift = record { minimum_index = minimum; maximum_index = maximum; held = held; shift = shift }

abbrev pub finder_at : ℕ → ℕ → ℕ → ℕ → List ℕ → State
finder_at minimum maximum held shift t = state (finder_with minimum maximum held shift) t
