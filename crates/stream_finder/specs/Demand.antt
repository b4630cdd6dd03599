-- Demand 3. "Take an accepted stream counting at least one record, a fresh finder with room for 1 + N/8 places (rounded down), and a fresh
-- iterator over the same bytes that has yielded N records, the finder updated after each and by nothing else. A lookup from the minimum to
-- the maximum index, at distance d, is 'not indexed' exactly if d/8 exceeds N/8, both rounded down. Otherwise it gives link d of the chain
-- counted by lengths alone, having skipped d mod 8 links, or 'ended' if that chain breaks first."
-- R-7 of document 02: the finder has a shift s from 0 to 6, and "demand 3 read[s] 2^s for 8 throughout". So the statement is over the shift, and
-- the sentence above is its case 3.
use Rattle.std.specs.Prelude.{ℕ, suc, ◌+◌, ◌-◌, ◌*◌, ◌/◌, ◌%◌, ◌^◌, ◌≤◌, ◌<◌, ◌≡◌, List, [], ◌∷◌, length, leb, ltb, eqb}
use Rattle.answer.specs.Answer.{Answer, answered, refused, pick}
use Rattle.stream_header.specs.Header.{header_of}
use Rattle.stream_header.specs.declared.Header.{Header}
use Rattle.field.specs.Indices.{index_in}
use Rattle.stream_item.specs.Links.{link_of}
use Rattle.stream_item.specs.Iterator.{iter_of, yielded, next_of}
use Rattle.field.specs.declared.index.Stream.{Stream}
use Rattle.stream_item.specs.declared.Item.{Item}
use Rattle.field.specs.declared.index.ItemIndex.{ItemIndex}
use Rattle.stream_item.specs.declared.Entry.TheVariants as entry
use Rattle.stream_item.specs.declared.iter.ItemIter.{ItemIter}
use Rattle.stream_item.specs.declared.link.Hit.{Hit}
use Rattle.stream_item.specs.declared.link.Hit.TheVariants.{Landed, Missed}
use Rattle.stream_finder.specs.Finder.{State, block_of, holding, create_by, update_of, after, Found, max_index_of, find_of}
use Rattle.stream_finder.specs.declared.ItemFinder.{ItemFinder}

-- from cursor c and state σ, n times: a record is yielded, and the finder updated with the cursor behind it; a refused update changes nothing
pub data Walked (s : List ℕ) (c : ItemIter) (σ : State) : ℕ → ItemIter → State → Type 0 where
  none : Walked s c σ 0 c σ
  more : {n : ℕ} {d : ItemIter} {τ : State} {i : Item} {d' : ItemIter}
      → Walked s c σ n d τ → next_of s d ≡ answered (yielded i d') → Walked s c σ (suc n) d' (after τ (update_of τ d'))

-- link d of the whole chain as an answer: index i, k links skipped, and where the chain breaks, those passed since the first `from` links
abbrev pub gives : ItemIndex → ℕ → ℕ → Hit → Answer Found
gives i k from (Landed p n) = answered (record { entry = entry.Record (record { index = i; place = p; length = n }); passed = k })
gives i k from (Missed j) = refused 1 ((j - from) ∷ [])

-- what a lookup at distance d answers, of a finder f over the chain from place p: not indexed where d / 2^shift is not held, else link d,
-- having skipped d mod 2^shift links
abbrev pub looked : Stream → List ℕ → ℕ → ItemFinder → ℕ → Answer Found
looked tag s p f d =
    pick (leb f.held (d / block_of f))
    (refused 9 ((f.minimum_index + d) ∷ max_index_of f ∷ []))
    (gives (index_in tag (f.minimum_index + d)) (d % block_of f) (d / block_of f * block_of f) (link_of s p d))

-- the premises, for a finder that was created with this shift
pub record Premises (shift : ℕ) (tag : Stream) (s : List ℕ) (h : Header) (t : List ℕ) (N : ℕ) (τ : State) (d : ℕ) : Type 0 where
  pub accepted : header_of s ≡ answered h
  pub counts : h.minimum_index < h.maximum_index
  pub room : 1 + N / 2 ^ shift ≤ length t
  pub fresh : State
  pub created : create_by shift s t ≡ answered fresh
  pub first : ItemIter
  pub begun : iter_of tag s ≡ answered first
  pub cursor : ItemIter
  pub walked : Walked s first fresh N cursor τ
  pub upto : h.minimum_index + d ≤ h.maximum_index

-- the whole answer, details and links passed included
unfoldable pub Demand3By : ℕ → Type 0
Demand3By shift =
    (tag : Stream) (s : List ℕ) (h : Header) (t : List ℕ) (N : ℕ) (τ : State) (d : ℕ)
    → Premises shift tag s h t N τ d
    → find_of s τ (index_in tag (h.minimum_index + d)) ≡ looked tag s h.header_size (holding h shift (1 + N / 2 ^ shift)) d

-- for every shift from 0 to 6
unfoldable pub Demand3Every : Type 0
Demand3Every = (shift : ℕ) → shift ≤ 6 → Demand3By shift

-- the customer's own words: 2 ^ 3 is 8
unfoldable pub Demand3 : Type 0
Demand3 = Demand3By 3

-- the number that a lookup gives back: 0 where it is answered, else the one it is refused by
abbrev pub number_given : Answer Found → ℕ
number_given (answered a) = 0
number_given (refused n d) = n

-- "not indexed" exactly if d / 2^shift exceeds N / 2^shift
unfoldable pub NotIndexedBy : ℕ → Type 0
NotIndexedBy shift =
    (tag : Stream) (s : List ℕ) (h : Header) (t : List ℕ) (N : ℕ) (τ : State) (d : ℕ)
    → Premises shift tag s h t N τ d
    → eqb (number_given (find_of s τ (index_in tag (h.minimum_index + d)))) 9 ≡ ltb (N / 2 ^ shift) (d / 2 ^ shift)

unfoldable pub NotIndexedEvery : Type 0
NotIndexedEvery = (shift : ℕ) → shift ≤ 6 → NotIndexedBy shift

unfoldable pub NotIndexed : Type 0
NotIndexed = NotIndexedBy 3
