-- A stream indexed whole, by `index_all_by` of crates/stream_index: demand 3 holds of the finder and the table that it leaves, however its walk ended, N being
-- the records that were walked; and of what is then saved and loaded, each lookup is what it was. Of a section it is `indexed` of
-- crates/section_finder/specs/Demand.antt.
use Rattle.std.specs.Prelude.{Ok, ℕ, ◌+◌, ◌-◌, ◌/◌, ◌^◌, ◌≤◌, ◌<◌, ◌≡◌, List, length, take, ltb, eqb}
use Rattle.answer.specs.Answer.{Answer, answered}
use Rattle.field.specs.Indices.{index_in}
use Rattle.field.specs.declared.index.Stream.{Stream}
use Rattle.field_put.specs.Bytes.{Octets}
use Rattle.stream_header.specs.Header.{header_of}
use Rattle.stream_header.specs.declared.Header.{Header}
use Rattle.stream_finder.specs.Finder.{State, state, holding, find_of}
use Rattle.stream_finder.specs.Demand.{Premises, looked, number_given}
use Rattle.stream_finder.specs.Shared.{Serves}
use Rattle.stream_index.specs.Walk.{IndexesBy}
use Rattle.stream_index.specs.declared.Tour.{Tour}
use Rattle.stream_places.specs.Places.{load_of, load_wide_of, save_of, save_wide_of, file_buffer_after}

-- the records that a tour has walked: as many as its cursor is above the minimum
abbrev pub walked_by : Header → Tour → ℕ
walked_by h r = r.cursor.index - h.minimum_index

-- what σ is saved as is loaded, into any table with room, as a finder of the same numbers, and every lookup gives what it gave
abbrev pub KeptBy : (List ℕ → State → ℕ → Answer (List ℕ)) → (List ℕ → List ℕ → List ℕ → Answer State) → Stream → List ℕ → Header → State → Type 0
KeptBy save load tag s h σ =
    (o u f : List ℕ) → Octets s → save s σ (length o) ≡ answered f → σ.finder.held ≤ length u
    → (τ : State) × (load s (take (length f) (file_buffer_after o (save s σ (length o)))) u ≡ answered τ) × (τ.finder ≡ σ.finder)
    × ((d : ℕ) → h.minimum_index + d ≤ h.maximum_index → find_of s τ (index_in tag (h.minimum_index + d)) ≡ find_of s σ (index_in tag (h.minimum_index + d)))

-- of the tour r and the table t' that indexing an accepted stream has left
pub record Indexed (shift : ℕ) (tag : Stream) (s : List ℕ) (h : Header) (t : List ℕ) (r : Tour) (t' : List ℕ) : Type 0 where
  -- every place is the chain's start of its block, a lookup is 9 exactly if its block is not held, and else as in demand 3
  pub serves : Serves tag s h (state r.finder t')
  -- demand 3's premises, where the stream counts a record
  pub premises : h.minimum_index < h.maximum_index → (d : ℕ) → h.minimum_index + d ≤ h.maximum_index
      → Premises shift tag s h t (walked_by h r) (state r.finder t') d
  -- so its own words
  pub lookups : h.minimum_index < h.maximum_index → (d : ℕ) → h.minimum_index + d ≤ h.maximum_index
      → find_of s (state r.finder t') (index_in tag (h.minimum_index + d))
      ≡ looked tag s h.header_size (holding h shift (1 + walked_by h r / 2 ^ shift)) d
  pub not_indexed : h.minimum_index < h.maximum_index → (d : ℕ) → h.minimum_index + d ≤ h.maximum_index
      → eqb (number_given (find_of s (state r.finder t') (index_in tag (h.minimum_index + d)))) 9
      ≡ ltb (walked_by h r / 2 ^ shift) (d / 2 ^ shift)
  -- index, save, load: R-3's pair of functions, and R-10's
  pub kept : KeptBy save_of load_of tag s h (state r.finder t')
  pub kept_wide : KeptBy save_wide_of load_wide_of tag s h (state r.finder t')

unfoldable pub StreamsIndexed : Type 0
StreamsIndexed =
    (shift : ℕ) (tag : Stream) (s t : List ℕ) (h : Header) (r : Tour) (t' : List ℕ)
    → header_of s ≡ answered h
    → IndexesBy shift tag s t (Ok r) t'
    → Indexed shift tag s h t r t'
