-- What a yes is good for: a finder that a whole walk has filled finds every index from the minimum to below the maximum, and what it finds is a
-- record that reads, with every element.
use Rattle.std.specs.Prelude.{Ok, ℕ, ◌+◌, ◌%◌, ◌^◌, ◌≤◌, ◌<◌, ◌≡◌, List}
use Rattle.answer.specs.Answer.{answered}
use Rattle.field.specs.Indices.{index_in}
use Rattle.field.specs.declared.index.Stream.TheVariants as stream
use Rattle.stream_header.specs.Header.{header_of}
use Rattle.stream_header.specs.declared.Header.{Header}
use Rattle.stream_item.specs.declared.Item.{Item}
use Rattle.stream_item.specs.declared.Entry.TheVariants as entry
use Rattle.stream_finder.specs.Finder.{State, state, find_of}
use Rattle.stream_index.specs.Walk.{WholeBy}
use Rattle.stream_index.specs.declared.Tour.{Tour}
use Rattle.stream_fit.specs.Fit.{fit, payload_of, fit_of}
use Rattle.stream_fit.specs.Sentences.{Good}

-- the record at distance d from the minimum is found, past so many links, and is good
pub record Finds (s : List ℕ) (h : Header) (σ : State) (d passed : ℕ) : Type 0 where
  pub item : Item
  pub found : find_of s σ (index_in stream.Types (h.minimum_index + d)) ≡ answered (record { entry = entry.Record item; passed = passed })
  pub good : Good h.minimum_index (h.minimum_index + d) (payload_of s item)

unfoldable pub AfterYes : Type 0
AfterYes =
    (shift : ℕ) → shift ≤ 6 → (s t : List ℕ) (h : Header) (r : Tour) (t' : List ℕ) → header_of s ≡ answered h → fit_of s ≡ answered fit
    → WholeBy shift stream.Types s t r t' → r.end ≡ Ok tt
    → (d : ℕ) → h.minimum_index + d < h.maximum_index → Finds s h (state r.finder t') d (d % 2 ^ shift)
