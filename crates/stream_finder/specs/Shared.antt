-- R-11 of document 02: "any order of updates to a finder fresh on this stream, from any number of cursors that were each started fresh on this
-- stream and advanced only by `next`, refused calls included, leaves every held place the chain's start of its block. A lookup from the
-- minimum to the maximum then is 'not indexed' exactly if its block is not held, and otherwise answers as in demand 3."
use Rattle.std.specs.Prelude.{ℕ, ◌≤◌, ◌≡◌, List}
use Rattle.answer.specs.Answer.{answered}
use Rattle.stream_header.specs.Header.{header_of}
use Rattle.stream_header.specs.declared.Header.{Header}
use Rattle.stream_item.specs.Iterator.{iter_of, next_of}
use Rattle.field.specs.declared.index.Stream.{Stream}
use Rattle.stream_item.specs.declared.iter.ItemIter.{ItemIter}
use Rattle.stream_finder.specs.Finder.{State, header_records, create_by, update_of, after}
use Rattle.stream_finder.specs.OfRecords.{iter_after, ServesIn}

-- a cursor that was started fresh on the stream and advanced by `next` alone
pub data Roamed (s : List ℕ) : ItemIter → Type 0 where
  begun : (tag : Stream) {c : ItemIter} → iter_of tag s ≡ answered c → Roamed s c
  called : {c : ItemIter} → Roamed s c → Roamed s (iter_after c (next_of s c))

-- what any such cursors, in any order, made of a state: a refused update leaves it
pub data Updated (s : List ℕ) (σ : State) : State → Type 0 where
  untouched : Updated s σ σ
  by : {τ : State} {c : ItemIter} → Updated s σ τ → Roamed s c → Updated s σ (after τ (update_of τ c))

-- what is then true of the state, h being the stream's header
abbrev pub Serves : Stream → List ℕ → Header → State → Type 0
Serves tag s h = ServesIn tag s (header_records h)

unfoldable pub SharedBy : ℕ → Type 0
SharedBy shift =
    (tag : Stream) (s : List ℕ) (h : Header) (t : List ℕ) (σ τ : State)
    → header_of s ≡ answered h
    → create_by shift s t ≡ answered σ
    → Updated s σ τ
    → Serves tag s h τ

-- for every shift from 0 to 6
unfoldable pub Shared : Type 0
Shared = (shift : ℕ) → shift ≤ 6 → SharedBy shift
