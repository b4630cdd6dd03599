-- A whole use, in the crate and in the port: the header, a fresh finder, a fresh iterator, at most n records with an update behind each, then
-- one lookup.
use Rattle.std.specs.Prelude.{ℕ, zero, suc, ◌+◌, ◌*◌, ◌≤◌, ◌<◌, ◌≡◌, List, length}
use Rattle.answer.specs.Answer.{Answer, answered, then}
use Rattle.stream_header.specs.Header.{longest, header_of}
use Rattle.stream_header.specs.declared.Header.{Header}
use Rattle.field.specs.Indices.{index_in}
use Rattle.stream_item.specs.Iterator.{iter_of, Next, done, yielded, next_of}
use Rattle.field.specs.declared.index.Stream.{Stream}
use Rattle.stream_item.specs.declared.iter.ItemIter.{ItemIter}
use Rattle.stream_finder.specs.Finder.{State, create_of, update_of, Found, find_of}
use Rattle.claim_model.specs.Rust.{Rust, ◌>>=◌}
use Rattle.claim_model.specs.ParseBuffer.{Bytes}
use Rattle.claim_model.specs.TpiHeader.{parse_information}
use Rattle.claim_model.specs.TpiItems.{Item, iter, finder, tour, finder_find}
use Rattle.claim_model.specs.Equal.{Equal, Same}
use Rattle.claim_model.specs.Shown.{unlinked, Roomy}

unfoldable pub crate_turns : List ℕ → ℕ → ℕ → Rust Item
crate_turns s n i = do
  info ← parse_information s
  type_finder ← finder info
  types ← iter info
  (types, type_finder) ← tour n types type_finder
  finder_find type_finder i

-- what follows a step: nothing after the end; after a record, the update with the cursor behind it, and the rest
abbrev pub followed : ItemIter → State → (ItemIter → State → Answer (ItemIter × State)) → Next → Answer (ItemIter × State)
followed c σ rest done = answered (c, σ)
followed c σ rest (yielded i d) = then (update_of σ d) (rest d)

unfoldable pub turns : List ℕ → ℕ → ItemIter → State → Answer (ItemIter × State)
turns s zero c σ = answered (c, σ)
turns s (suc n) c σ = then (next_of s c) (followed c σ (λ d τ. turns s n d τ))

-- t is the lent table; the tag says which stream the bytes are
unfoldable pub port_turns : Stream → List ℕ → List ℕ → ℕ → ℕ → Answer Found
port_turns tag s t n i =
    then (create_of s t) λ σ.
    then (iter_of tag s) λ c.
    then (turns s n c σ) λ (d, τ).
    find_of s τ (index_in tag i)

-- a stream: bytes, and not over-long
pub record Lent (s : List ℕ) : Type 0 where
  pub bytes : Bytes s
  pub short : length s ≤ longest

-- demand 2 for a whole use. The domain: the Rust neither panics nor wraps (`Equal`), each stops at its iterator's first refusal (the uses
-- themselves), every update comes from an iterator that has not refused (the uses again), and the lent table never lacks room (`Roomy`)
unfoldable pub TurnsEqual : Type 0
TurnsEqual =
    (tag : Stream) (s t : List ℕ) (n i : ℕ) → Lent s → Roomy (port_turns tag s t n i)
    → Equal (crate_turns s n i) (unlinked s (port_turns tag s t n i))

-- and how far the domain reaches: where eight times one more than the turns, and the minimum, fit a u32, the crate's use neither panics nor wraps
unfoldable pub TurnsSame : Type 0
TurnsSame =
    (tag : Stream) (s t : List ℕ) (n i : ℕ) → Lent s → Roomy (port_turns tag s t n i)
    → ((h : Header) → header_of s ≡ answered h → h.minimum_index + 8 * (1 + n) < 4294967296)
    → Same (crate_turns s n i) (unlinked s (port_turns tag s t n i))
