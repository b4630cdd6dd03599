-- Demand 3 and R-11 of any records: they need where link 0 starts, the least index and the one behind the last, and nothing else of a
-- header. A stream's are its header's (Demand.antt, Shared.antt: the customer's words of streams); a section of an object file has 4, 4096 and
-- 4096 plus its records (R-6 of document 02).
use Rattle.std.specs.Prelude.{ℕ, ◌+◌, ◌/◌, ◌^◌, ◌≤◌, ◌<◌, ◌≡◌, List, length, leb, ltb, eqb}
use Rattle.answer.specs.Answer.{Answer, answered, refused}
use Rattle.stream_header.specs.Header.{longest}
use Rattle.field.specs.Indices.{index_in}
use Rattle.stream_item.specs.Iterator.{Next, done, yielded, next_of}
use Rattle.field.specs.declared.index.Stream.{Stream}
use Rattle.stream_item.specs.declared.iter.ItemIter.{ItemIter}
use Rattle.stream_finder.specs.Finder.{State, block_of, holding_in, begun_in, update_of, after, find_of}
use Rattle.stream_finder.specs.Places.{Placed}
use Rattle.stream_finder.specs.Demand.{Walked, looked, number_given}
use Rattle.stream_finder.specs.declared.Records.{Records}

-- the fresh cursor of these records
abbrev pub start_in : Stream → Records → ItemIter
start_in tag r = record { stream = tag; at = r.start; index = r.minimum }

-- ---- demand 3

-- the premises, for a finder that was begun with this shift
pub record PremisesIn (shift : ℕ) (tag : Stream) (s : List ℕ) (r : Records) (t : List ℕ) (N : ℕ) (τ : State) (d : ℕ) : Type 0 where
  pub short : length s ≤ longest
  pub counts : r.minimum < r.maximum
  pub room : 1 + N / 2 ^ shift ≤ length t
  pub fresh : State
  pub created : begun_in shift t r ≡ answered fresh
  pub cursor : ItemIter
  pub walked : Walked s (start_in tag r) fresh N cursor τ
  pub upto : r.minimum + d ≤ r.maximum

-- the whole answer, details and links passed included
unfoldable pub Demand3In : ℕ → Type 0
Demand3In shift =
    (tag : Stream) (s : List ℕ) (r : Records) (t : List ℕ) (N : ℕ) (τ : State) (d : ℕ)
    → PremisesIn shift tag s r t N τ d
    → find_of s τ (index_in tag (r.minimum + d)) ≡ looked tag s r.start (holding_in r shift (1 + N / 2 ^ shift)) d

-- "not indexed" exactly if d / 2^shift exceeds N / 2^shift
unfoldable pub NotIndexedIn : ℕ → Type 0
NotIndexedIn shift =
    (tag : Stream) (s : List ℕ) (r : Records) (t : List ℕ) (N : ℕ) (τ : State) (d : ℕ)
    → PremisesIn shift tag s r t N τ d
    → eqb (number_given (find_of s τ (index_in tag (r.minimum + d)))) 9 ≡ ltb (N / 2 ^ shift) (d / 2 ^ shift)

-- ---- R-11

-- where a call of `next` leaves its cursor: behind the record that was yielded, and where it was if there was none or the call was refused
abbrev pub iter_after : ItemIter → Answer Next → ItemIter
iter_after c (answered done) = c
iter_after c (answered (yielded i d)) = d
iter_after c (refused n x) = c

-- a cursor that was started fresh on the records and advanced by `next` alone
pub data RoamedIn (s : List ℕ) (r : Records) : ItemIter → Type 0 where
  begun : (tag : Stream) → RoamedIn s r (start_in tag r)
  called : {c : ItemIter} → RoamedIn s r c → RoamedIn s r (iter_after c (next_of s c))

-- what any such cursors, in any order, made of a state: a refused update leaves it
pub data UpdatedIn (s : List ℕ) (r : Records) (σ : State) : State → Type 0 where
  untouched : UpdatedIn s r σ σ
  by : {τ : State} {c : ItemIter} → UpdatedIn s r σ τ → RoamedIn s r c → UpdatedIn s r σ (after τ (update_of τ c))

-- what is then true of the state
pub record ServesIn (tag : Stream) (s : List ℕ) (r : Records) (τ : State) : Type 0 where
  -- every held place is the chain's start of its block
  pub placed : Placed s r.start τ
  -- a lookup from the minimum to the maximum: the whole answer, and that it is 9 exactly if its block is not held
  pub lookups : (d : ℕ) → r.minimum + d ≤ r.maximum → find_of s τ (index_in tag (r.minimum + d)) ≡ looked tag s r.start τ.finder d
  pub not_indexed : (d : ℕ) → r.minimum + d ≤ r.maximum
      → eqb (number_given (find_of s τ (index_in tag (r.minimum + d)))) 9 ≡ leb τ.finder.held (d / block_of τ.finder)

unfoldable pub SharedIn : ℕ → Type 0
SharedIn shift =
    (tag : Stream) (s : List ℕ) (r : Records) (t : List ℕ) (σ τ : State)
    → length s ≤ longest
    → begun_in shift t r ≡ answered σ
    → UpdatedIn s r σ τ
    → ServesIn tag s r τ

-- ---- all of it, for every shift from 0 to 6
pub record OfRecords : Type 0 where
  pub demand3 : (shift : ℕ) → shift ≤ 6 → Demand3In shift
  pub not_indexed : (shift : ℕ) → shift ≤ 6 → NotIndexedIn shift
  pub shared : (shift : ℕ) → shift ≤ 6 → SharedIn shift
