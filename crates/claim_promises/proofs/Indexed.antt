-- A stream indexed whole: its walk is one of R-11's, and it meets the premises of demand 3. Assumes nothing.
use Rattle.std.specs.Prelude.{Ok}
use Prim.Native.Nat.{ℕ, zero, suc, ◌+◌, ◌/◌, ◌^◌, ◌≤◌, ◌<◌}
use mathlib.Core.Path.{◌≡◌, refl, sym, ap, subst, ◌∙◌}
use mathlib.Core.List.{List, [], ◌∷◌}
use native.Mathlib.Omega.{arith}
use lib.ListN.{length, take}
use lib.Dec.{ltb}
use borrow.Author.Tests.{ltb-false}
use Rattle.answer.specs.Answer.{Answer, answered}
use Rattle.field.specs.Fields.{little_at}
use Rattle.field.specs.declared.index.Stream.{Stream}
use Rattle.field.specs.declared.index.Stream.TheVariants.{Types}
use Rattle.field_put.specs.Bytes.{put}
use Rattle.stream_header.specs.Header.{header_of, fields_of}
use Rattle.stream_header.specs.Examples.{stream_e}
use Rattle.stream_header.specs.declared.Header.{Header}
use Rattle.stream_item.specs.Iterator.{iter_of, next_of}
use Rattle.stream_item.specs.declared.iter.ItemIter.{ItemIter}
use Rattle.stream_item.proofs.NextLaws.{Yields, yields, passed}
use Rattle.stream_item.proofs.Examples.{cursor}
use Rattle.stream_finder.specs.Finder.{State, state, header_records, begun_in, begun_by, create_by, update_of, after}
use Rattle.stream_finder.specs.declared.ItemFinder.{ItemFinder}
use Rattle.stream_finder.specs.Demand.{Premises, Demand3By, Demand3Every, NotIndexedBy, NotIndexedEvery}
use Rattle.stream_finder.specs.Shared.{Roamed, begun, called, Updated, untouched, by, Serves, SharedBy, Shared}
use Rattle.stream_finder.specs.OfRecords.{iter_after}
use Rattle.stream_finder.proofs.DemandProof.{created-in, fresh-iter, demand3-every, not-indexed-every}
use Rattle.stream_finder.proofs.SharedProof.{shared}
use Rattle.stream_finder.proofs.Examples.{finder_to}
use Rattle.stream_index.specs.Walk.{turn_of, Turns, none, more, WholeBy, IndexesBy}
use Rattle.stream_index.specs.declared.Tour.{Tour}
use Rattle.stream_index.proofs.WalkLaws.{Moves, turn-back}
use Rattle.stream_index.proofs.WalkedWhole.{walk-holds, walk-premises}
use Rattle.stream_places.specs.Places.{load_of, load_wide_of, save_of, save_wide_of, file_buffer_after}
use Rattle.stream_places.specs.Kept.{Loaded, Serving, TripOf}
use Rattle.stream_places.proofs.KeptProof.{load-serves, wide-serves, round_trip, wide-trip}
use Rattle.claim_promises.specs.Indexed.{walked_by, KeptBy, Indexed, StreamsIndexed}

-- ---- turns are R-11's calls: each is `next` and the update with the cursor behind it
record Went (s : List ℕ) (σ : State) (d : ItemIter) (τ : State) : Type 0 where
  pub roamed : Roamed s d
  pub updated : Updated s σ τ

went : (s : List ℕ) (c : ItemIter) (σ : State) (n : ℕ) (d : ItemIter) (τ : State) → Roamed s c → Turns s c σ n d τ → Went s σ d τ
went s c σ zero d τ g none = record { roamed = g; updated = untouched }
went s c σ (suc n) d τ g (more {d = d₀} {τ = τ₀} w e) =
    let k = went s c σ n d₀ τ₀ g w in
    let m : Moves s τ₀ d₀ τ d = turn-back s τ₀ d₀ τ d e in
    let on : Roamed s d = subst (Roamed s) (ap (iter_after d₀) m.yield) (called k.roamed) in
    record { roamed = on; updated = subst (Updated s σ) (ap (after τ₀) m.update) (by k.updated on) }

-- ---- and each is one index further
turns-index : (s : List ℕ) (c : ItemIter) (σ : State) (n : ℕ) (d : ItemIter) (τ : State) → Turns s c σ n d τ → d.index ≡ c.index + n
turns-index s c σ zero d τ none = omega arith
turns-index s c σ (suc n) d τ (more {d = d₀} {τ = τ₀} w e) =
    let m : Moves s τ₀ d₀ τ d = turn-back s τ₀ d₀ τ d e in
    let y : Yields s d₀ m.item d = yields s d₀ m.item d m.yield in
    omega (arith, y.index, turns-index s c σ n d₀ τ₀ w)

-- ---- what is saved is loaded, and serves as it did
module _ (tag : Stream) (s : List ℕ) (h : Header) (σ : State) (e : header_of s ≡ answered h) (v : Serves tag s h σ) (some : h.minimum_index < h.maximum_index → 0 < σ.finder.held) where
  kept_by : (save : List ℕ → State → ℕ → Answer (List ℕ)) (load : List ℕ → List ℕ → List ℕ → Answer State) → TripOf save load → Serving load → KeptBy save load tag s h σ
  unfolding TripOf Serving
  kept_by save load trip serving o u f small saved room =
      let τ : State = state σ.finder (put u 0 (take σ.finder.held σ.table)) in
      let l = trip s o u h σ f small e v.placed some saved room in
      let g : Loaded tag s h τ = serving tag s (take (length f) (file_buffer_after o (save s σ (length o)))) u h τ e l in
      (τ, l, refl, λ d b. g.serves.lookups d b ∙ sym (v.lookups d b))

-- ---- of a whole walk
module _ (shift : ℕ) (tag : Stream) (s t : List ℕ) (h : Header) (r : Tour) (t' : List ℕ) (e : header_of s ≡ answered h) (w : WholeBy shift tag s t r t') where
  small : shift ≤ 6
  small =
      let q : begun_in shift t (header_records h) ≡ answered w.fresh = created-in shift s h t w.fresh e w.created in
      ltb-false 6 shift (passed (ltb 6 shift) 26 _ _ q).0

  serves : Serves tag s h (state r.finder t')
  unfolding Shared SharedBy
  serves = shared shift small tag s h t w.fresh (state r.finder t') e w.created
      (went s w.first w.fresh w.walks.turns r.cursor (state r.finder t') (begun tag w.begun) w.walks.led).updated

  -- its records are its turns
  turns-are : w.walks.turns ≡ walked_by h r
  turns-are =
      let i : r.cursor.index ≡ w.first.index + w.walks.turns =
      turns-index s w.first w.fresh w.walks.turns r.cursor (state r.finder t') w.walks.led in
      let f : h.minimum_index ≡ w.first.index = ap (λ (c : ItemIter). c.index) (fresh-iter tag s h w.first e w.begun) in
      omega arith

  premises : h.minimum_index < h.maximum_index → (d : ℕ) → h.minimum_index + d ≤ h.maximum_index → Premises shift tag s h t (walked_by h r) (state r.finder t') d
  premises l d u = subst (λ (n : ℕ). Premises shift tag s h t n (state r.finder t') d) turns-are (walk-premises shift small tag s t h r t' e l w d u)

  some : h.minimum_index < h.maximum_index → 0 < r.finder.held
  some l = let f : r.finder.held ≡ 1 + w.walks.turns / 2 ^ shift = ap (λ (g : ItemFinder). g.held) (walk-holds shift small tag s t h r t' e l w) in omega arith

  indexed : Indexed shift tag s h t r t'
  unfolding Demand3Every Demand3By NotIndexedEvery NotIndexedBy
  indexed = record {
    serves = serves;
    premises = premises;
    lookups = λ l d u. demand3-every shift small tag s h t (walked_by h r) (state r.finder t') d (premises l d u);
    not_indexed = λ l d u. not-indexed-every shift small tag s h t (walked_by h r) (state r.finder t') d (premises l d u);
    kept = kept_by tag s h (state r.finder t') e serves some save_of load_of round_trip load-serves;
    kept_wide = kept_by tag s h (state r.finder t') e serves some save_wide_of load_wide_of wide-trip wide-serves;
  }

pub streams-indexed : StreamsIndexed
unfolding StreamsIndexed
streams-indexed shift tag s t h r t' e w = indexed shift tag s t h r t' e w

-- ---- stream E meets the premise: two records are walked, and the finder holds one place
abbrev tour_e : Tour
tour_e = record { finder = finder_to 4098 1; cursor = cursor 78 4098; end = Ok tt }

walked_e : IndexesBy 3 Types stream_e (0 ∷ []) (Ok tour_e) (56 ∷ [])
unfolding create_by begun_by header_of iter_of turn_of next_of update_of little_at
walked_e = record {
  fresh = state (finder_to 4098 1) (56 ∷ []);
  created = refl;
  first = cursor 56 4096;
  begun = refl;
  walks = record { turns = 2; led = more (more none refl) refl; ended = refl };
}

pub indexed_e : Indexed 3 Types stream_e (fields_of stream_e) (0 ∷ []) tour_e (56 ∷ [])
unfolding header_of little_at
indexed_e = indexed 3 Types stream_e (0 ∷ []) (fields_of stream_e) tour_e (56 ∷ []) refl walked_e
