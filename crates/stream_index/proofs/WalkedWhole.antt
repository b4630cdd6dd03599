-- What a walk leaves is what demand 3 speaks of: each turn is a record yielded and the finder updated, and none was answered without room. So after
-- any walk, however it ended, demand 3 says what each lookup answers. Assumes nothing.
use Prim.Native.Nat.{ℕ, zero, suc, ◌+◌, ◌/◌, ◌^◌, ◌≤◌, ◌<◌}
use mathlib.Core.Path.{◌≡◌, ap, subst}
use mathlib.Core.List.{List}
use native.Mathlib.Nat.{zero-div}
use native.Mathlib.Omega.{arith}
use lib.ListN.{length}
use Rattle.answer.specs.Answer.{answered}
use Rattle.stream_header.specs.Header.{longest, header_of}
use Rattle.stream_header.specs.declared.Header.{Header}
use Rattle.field.specs.declared.index.Stream.{Stream}
use Rattle.stream_item.specs.declared.iter.ItemIter.{ItemIter}
use Rattle.stream_finder.specs.Finder.{State, state, header_records, holding_in, holding, begun_in, update_of, after}
use Rattle.stream_finder.specs.Demand as demand
use Rattle.stream_finder.specs.Demand.{Walked, Premises}
use Rattle.stream_finder.specs.OfRecords.{start_in, PremisesIn}
use Rattle.stream_finder.specs.declared.Records.{Records}
use Rattle.stream_finder.proofs.Accepted.{accepted}
use Rattle.stream_finder.proofs.DemandProof.{Stage, stage-first, turn, turn-room, fresh-room, fresh-iter, created-in}
use Rattle.stream_index.specs.Walk.{Turns, none, more, Walks, WholeBy}
use Rattle.stream_index.specs.declared.Tour.{Tour}
use Rattle.stream_index.proofs.WalkLaws.{Moves, turn-back}

-- the state after an update that was answered
settled : (τ ρ : State) (d : ItemIter) → update_of τ d ≡ answered ρ → after τ (update_of τ d) ≡ ρ
settled τ ρ d e = ap (after τ) e

pub turns-walked : (s : List ℕ) (c : ItemIter) (σ : State) (n : ℕ) (d : ItemIter) (τ : State) → Turns s c σ n d τ → Walked s c σ n d τ
turns-walked s c σ zero d τ none = demand.none
turns-walked s c σ (suc n) d τ (more {d = d₀} {τ = τ₀} w e) =
    let m : Moves s τ₀ d₀ τ d = turn-back s τ₀ d₀ τ d e in
    subst (λ (ρ : State). Walked s c σ (suc n) d ρ) (settled τ₀ τ d m.update) (demand.more (turns-walked s c σ n d₀ τ₀ w) m.yield)

-- after n turns, with the room that they had
record Stood (shift : ℕ) (s : List ℕ) (r : Records) (t : List ℕ) (n : ℕ) (c : ItemIter) (τ : State) : Type 0 where
  pub stage : Stage shift s r t n c τ
  pub room : 1 + n / 2 ^ shift ≤ length t

stood : (shift : ℕ) (small : shift ≤ 6) (s : List ℕ) (r : Records) (t : List ℕ) (c : ItemIter) (σ : State) (n : ℕ) (d : ItemIter) (τ : State)
    → Stood shift s r t 0 c σ → Turns s c σ n d τ → Stood shift s r t n d τ
stood shift small s r t c σ zero d τ g none = g
stood shift small s r t c σ (suc n) d τ g (more {d = d₀} {τ = τ₀} w e) = step (stood shift small s r t c σ n d₀ τ₀ g w) (turn-back s τ₀ d₀ τ d e)
  where
    step : Stood shift s r t n d₀ τ₀ → Moves s τ₀ d₀ τ d → Stood shift s r t (suc n) d τ
    step k m =
        let o : 1 + suc n / 2 ^ shift ≤ length t = turn-room shift small s r t n d₀ τ₀ m.item d τ k.room k.stage m.yield m.update in
        record {
          stage = subst (λ (ρ : State). Stage shift s r t (suc n) d ρ) (settled τ₀ τ d m.update) (turn shift small s r t n d₀ τ₀ m.item d o k.stage m.yield);
          room = o;
        }

-- ---- the two theorems, over a walk of any records from what is fresh, with any shift from 0 to 6
module _ (shift : ℕ) (small : shift ≤ 6) (tag : Stream) (s t : List ℕ) (r : Records) (σ : State) (q : Tour) (t' : List ℕ)
    (short : length s ≤ longest) (l : r.minimum < r.maximum) (new : begun_in shift t r ≡ answered σ) (w : Walks s (start_in tag r) σ q t') where
  first-stood : Stood shift s r t 0 (start_in tag r) σ
  first-stood =
      let room : 0 < length t = fresh-room shift r t σ small l new in
      record { stage = stage-first shift small tag s r t σ l room new; room = omega (arith, zero-div (2 ^ shift)) }

  last-stood : Stood shift s r t w.turns q.cursor (state q.finder t')
  last-stood = stood shift small s r t (start_in tag r) σ w.turns q.cursor (state q.finder t') first-stood w.led

  -- a walk of N turns holds 1 + N / 2^shift places
  pub records-hold : q.finder ≡ holding_in r shift (1 + w.turns / 2 ^ shift)
  records-hold = last-stood.stage.finder

  -- and meets the premises of demand 3
  pub records-premises : (d : ℕ) → r.minimum + d ≤ r.maximum → PremisesIn shift tag s r t w.turns (state q.finder t') d
  records-premises d u = record {
    short = short;
    counts = l;
    room = last-stood.room;
    fresh = σ;
    created = new;
    cursor = q.cursor;
    walked = turns-walked s (start_in tag r) σ w.turns q.cursor (state q.finder t') w.led;
    upto = u;
  }

-- ---- of a stream: its records are its header's
module _ (shift : ℕ) (small : shift ≤ 6) (tag : Stream) (s t : List ℕ) (h : Header) (r : Tour) (t' : List ℕ)
    (e : header_of s ≡ answered h) (l : h.minimum_index < h.maximum_index) (w : WholeBy shift tag s t r t') where
  new : begun_in shift t (header_records h) ≡ answered w.fresh
  new = created-in shift s h t w.fresh e w.created

  short : length s ≤ longest
  short = (accepted s h e l).short

  -- a walk of N turns holds 1 + N / 2^shift places
  pub walk-holds : r.finder ≡ holding h shift (1 + w.walks.turns / 2 ^ shift)
  walk-holds = subst (λ (c : ItemIter). (v : Walks s c w.fresh r t') → r.finder ≡ holding h shift (1 + v.turns / 2 ^ shift)) (fresh-iter tag s h w.first e w.begun)
      (λ v. records-hold shift small tag s t (header_records h) w.fresh r t' short l new v) w.walks

  -- and meets the premises of demand 3
  pub walk-premises : (d : ℕ) → h.minimum_index + d ≤ h.maximum_index → Premises shift tag s h t w.walks.turns (state r.finder t') d
  walk-premises d u = record {
    accepted = e;
    counts = l;
    room = subst (λ (c : ItemIter). (v : Walks s c w.fresh r t') → 1 + v.turns / 2 ^ shift ≤ length t) (fresh-iter tag s h w.first e w.begun)
        (λ v. (records-premises shift small tag s t (header_records h) w.fresh r t' short l new v d u).room) w.walks;
    fresh = w.fresh;
    created = w.created;
    first = w.first;
    begun = w.begun;
    cursor = r.cursor;
    walked = turns-walked s w.first w.fresh w.walks.turns r.cursor (state r.finder t') w.walks.led;
    upto = u;
  }
