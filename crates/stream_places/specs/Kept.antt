-- R-3 of document 02, what is promised: loading "yields a finder for which demand 3 reads with N = 8 × (places − 1)", by R-7 N = 2^s × (places − 1);
-- what `save` wrote is loaded again as it was; and a file that is loaded is what `save` writes of the finder and the table that it yields, so
-- that there is one file for them. R-10's pair of functions keeps the same promises, of both forms together, so that a table has one file and not one
-- of each form; and the two loaders agree on R-3's files.
use Rattle.std.specs.Prelude.{ℕ, ◌+◌, ◌-◌, ◌*◌, ◌/◌, ◌^◌, ◌≤◌, ◌<◌, ◌≡◌, true, List, [], length, take, eqb, ltb}
use Rattle.answer.specs.Answer.{Answer, answered, refused, then}
use Rattle.field_put.specs.Bytes.{put, Octets}
use Rattle.stream_header.specs.Header.{header_of}
use Rattle.stream_header.specs.declared.Header.{Header}
use Rattle.field.specs.Indices.{index_in}
use Rattle.field.specs.declared.index.Stream.{Stream}
use Rattle.stream_finder.specs.Finder.{State, state, holding, find_of}
use Rattle.stream_finder.specs.Places.{Placed}
use Rattle.stream_finder.specs.Demand.{looked, number_given}
use Rattle.stream_finder.specs.Shared.{Serves}
use Rattle.stream_places.specs.File.{narrow, wide, spells}
use Rattle.stream_places.specs.Places.{load_of, load_wide_of, save_of, save_wide_of, file_buffer_after}

-- ---- lookups of a loaded finder

-- the N of demand 3: 2^shift × (places − 1), and 0 without places
abbrev pub records_of : State → ℕ
records_of τ = 2 ^ τ.finder.shift * (τ.finder.held - 1)

-- what is true of the state τ that a file for the stream s yields, h being the stream's header
pub record Loaded (tag : Stream) (s : List ℕ) (h : Header) (τ : State) : Type 0 where
  -- every place is the chain's start of its block, a lookup is 9 exactly if its block is not held, and else as in demand 3
  pub serves : Serves tag s h τ
  -- there is a place if the stream counts a record
  pub some : h.minimum_index < h.maximum_index → 0 < τ.finder.held
  -- demand 3's own words, with this N: the whole answer, and when it is 9
  pub lookups : h.minimum_index < h.maximum_index → (d : ℕ) → h.minimum_index + d ≤ h.maximum_index
      → find_of s τ (index_in tag (h.minimum_index + d))
      ≡ looked tag s h.header_size (holding h τ.finder.shift (1 + records_of τ / 2 ^ τ.finder.shift)) d
  pub not_indexed : h.minimum_index < h.maximum_index → (d : ℕ) → h.minimum_index + d ≤ h.maximum_index
      → eqb (number_given (find_of s τ (index_in tag (h.minimum_index + d)))) 9
      ≡ ltb (records_of τ / 2 ^ τ.finder.shift) (d / 2 ^ τ.finder.shift)

-- of a loader
unfoldable pub Serving : (List ℕ → List ℕ → List ℕ → Answer State) → Type 0
Serving load =
    (tag : Stream) (s f t : List ℕ) (h : Header) (τ : State)
    → header_of s ≡ answered h
    → load s f t ≡ answered τ
    → Loaded tag s h τ

abbrev pub LoadServes : Type 0
LoadServes = Serving load_of

abbrev pub WideServes : Type 0
WideServes = Serving load_wide_of

-- ---- what was saved is loaded

-- of a finder whose places are on the chain, and that has one if the stream counts a record: the first bytes of the buffer after `save` are
-- loaded into any table with room for them, as the same finder with the same places
unfoldable pub TripOf : (List ℕ → State → ℕ → Answer (List ℕ)) → (List ℕ → List ℕ → List ℕ → Answer State) → Type 0
TripOf save load =
    (s o t : List ℕ) (h : Header) (σ : State) (f : List ℕ)
    → Octets s
    → header_of s ≡ answered h
    → Placed s h.header_size σ
    → (h.minimum_index < h.maximum_index → 0 < σ.finder.held)
    → save s σ (length o) ≡ answered f
    → σ.finder.held ≤ length t
    → load s (take (length f) (file_buffer_after o (save s σ (length o)))) t
    ≡ answered (state σ.finder (put t 0 (take σ.finder.held σ.table)))

abbrev pub RoundTrip : Type 0
RoundTrip = TripOf save_of load_of

abbrev pub WideTrip : Type 0
WideTrip = TripOf save_wide_of load_wide_of

-- ---- one encoding

-- what was loaded is saved as the same file, into any buffer that has room for it
unfoldable pub Encoding : (List ℕ → List ℕ → List ℕ → Answer State) → (List ℕ → State → ℕ → Answer (List ℕ)) → Type 0
Encoding load save =
    (s f t : List ℕ) (τ : State) (room : ℕ)
    → Octets f
    → load s f t ≡ answered τ
    → length f ≤ room
    → save s τ room ≡ answered f

abbrev pub OneEncoding : Type 0
OneEncoding = Encoding load_of save_of

-- over both forms together
abbrev pub OneEncodingWide : Type 0
OneEncodingWide = Encoding load_wide_of save_wide_of

-- ---- the two loaders

-- on a file that ends in PTIX they agree, in the answer and so in the table; one that ends in PTIY is 20 to the old one, behind the stream's own
pub record LoadersAgree : Type 0 where
  pub on_narrow : (s f t : List ℕ) → spells f (length f - 4) narrow.letters ≡ true → load_wide_of s f t ≡ load_of s f t
  pub on_wide : (s f t : List ℕ) → spells f (length f - 4) wide.letters ≡ true → load_of s f t ≡ then (header_of s) (λ h. refused 20 [])
