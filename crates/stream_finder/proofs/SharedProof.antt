-- Cursors that share a finder, over the shift and the records: the invariant is that of demand 3 without the count. Assumes nothing.
use Prim.Native.Nat.{ℕ, ◌+◌, ◌*◌, ◌/◌, ◌%◌, ◌≤◌, ◌<◌}
use mathlib.Core.Bool.{Bool, true, false}
use mathlib.Core.Path.{◌≡◌, refl, sym, ap, subst, ◌∙◌}
use mathlib.Core.List.{List}
use native.Mathlib.Omega.{arith}
use lib.ListN.{length, length-set}
use lib.Dec.{eqb, leb, ltb}
use borrow.Author.Tests.{ltb-true, ltb-false}
use Rattle.answer.specs.Answer.{Answer, answered, refused}
use Rattle.stream_header.specs.Header.{longest, header_of}
use Rattle.stream_header.specs.declared.Header.{Header}
use Rattle.field.specs.Indices.{index_in}
use Rattle.stream_item.specs.Links.{link_of}
use Rattle.stream_item.specs.Iterator.{Next, done, yielded, next_of}
use Rattle.stream_item.specs.declared.iter.ItemIter.{ItemIter}
use Rattle.stream_item.proofs.NextLaws.{passed}
use Rattle.stream_finder.specs.Finder.{State, state, block_of, header_records, holding_in, begun_in, update_of, after, max_index_of, Found, find_of}
use Rattle.stream_finder.specs.Places.{Placed}
use Rattle.stream_finder.specs.Demand.{looked, number_given}
use Rattle.stream_finder.specs.OfRecords as any
use Rattle.stream_finder.specs.OfRecords.{iter_after, RoamedIn, UpdatedIn, SharedIn, OfRecords}
use Rattle.stream_finder.specs.Shared.{Roamed, begun, called, Updated, untouched, by, SharedBy, Shared}
use Rattle.stream_finder.specs.declared.Records.{Records}
use Rattle.stream_finder.proofs.FinderLaws.{begun-in-none}
use Rattle.stream_finder.proofs.PlaceLaws.{OnChain, update-ind, placed-update, on-start, on-next, find-placed}
use Rattle.stream_finder.proofs.DemandProof.{looked-number, begun-placed, fresh-finder, fresh-room, fresh-iter, created-in, demand3-in, not-indexed-in}

-- ---- cursors stay on the chain

on_call : (s : List ℕ) (p m : ℕ) (c : ItemIter) (a : Answer Next) → next_of s c ≡ a → OnChain s p m c → OnChain s p m (iter_after c a)
on_call s p m c (answered done) e on = on
on_call s p m c (answered (yielded i d)) e on = on-next s p m c i d on e
on_call s p m c (refused n x) e on = on

roamed : (s : List ℕ) (r : Records) (c : ItemIter) → RoamedIn s r c → OnChain s r.start r.minimum c
roamed s r c (any.begun tag) = on-start tag s r.start r.minimum
roamed s r c (any.called {c = d} w) = on_call s r.start r.minimum d (next_of s d) refl (roamed s r d w)

-- ---- what every update keeps

pub record Kept (shift : ℕ) (s : List ℕ) (r : Records) (τ : State) : Type 0 where
  pub minimum : τ.finder.minimum_index ≡ r.minimum
  pub maximum : τ.finder.maximum_index ≡ r.maximum
  pub shift_is : τ.finder.shift ≡ shift
  pub held : τ.finder.held ≤ length τ.table
  pub placed : Placed s r.start τ

updated : (shift : ℕ) (s : List ℕ) (r : Records) (σ τ : State) → Kept shift s r σ → UpdatedIn s r σ τ → Kept shift s r τ
updated shift s r σ τ k any.untouched = k
updated shift s r σ τ k (any.by {τ = ρ} {c = c} w o) = step (updated shift s r σ ρ k w)
  where
    step : Kept shift s r ρ → Kept shift s r (after ρ (update_of ρ c))
    step g = record {
      minimum = update-ind ρ c (λ (x : State). x.finder.minimum_index ≡ r.minimum) g.minimum (λ st. g.minimum);
      maximum = update-ind ρ c (λ (x : State). x.finder.maximum_index ≡ r.maximum) g.maximum (λ st. g.maximum);
      shift_is = update-ind ρ c (λ (x : State). x.finder.shift ≡ shift) g.shift_is (λ st. g.shift_is);
      held = update-ind ρ c (λ (x : State). x.finder.held ≤ length x.table) g.held (λ st. simp length-set (omega (arith, st.room)));
      placed = placed-update s r.start ρ c g.placed (subst (λ (m : ℕ). OnChain s r.start m c) (sym g.minimum) (roamed s r c o));
    }

-- ---- what is fresh: one place, or none where there is no record

module _ (shift : ℕ) (s : List ℕ) (r : Records) (t : List ℕ) (σ : State) (small : shift ≤ 6) (new : begun_in shift t r ≡ answered σ) where
  some-kept : r.minimum < r.maximum → Kept shift s r σ
  some-kept l =
      let room : 0 < length t = fresh-room shift r t σ small l new in
      subst (λ (ρ : State). Kept shift s r ρ) (fresh-finder shift r t σ small l room new)
      (record { minimum = refl; maximum = refl; shift_is = refl; held = simp length-set room; placed = begun-placed shift small s r t room })

  none_kept : r.maximum ≤ r.minimum → Kept shift s r σ
  none_kept l =
      let b : state (holding_in r shift 0) t ≡ σ = cc (begun-in-none shift t r small l) in
      subst (λ (ρ : State). Kept shift s r ρ) b
      (record { minimum = refl; maximum = refl; shift_is = refl; held = omega arith; placed = λ k lt. absurd (omega arith) })

  fresh_kept : Kept shift s r σ
  fresh_kept = go (ltb r.minimum r.maximum) refl
    where
      go : (b : Bool) → ltb r.minimum r.maximum ≡ b → Kept shift s r σ
      go true q = some-kept (ltb-true _ _ q)
      go false q = none_kept (ltb-false _ _ q)

-- ---- R-11 of any records

pub shared-in : (shift : ℕ) → shift ≤ 6 → SharedIn shift
unfolding SharedIn
shared-in shift small tag s r t σ τ short new w = record {
  placed = k.placed;
  lookups = looks;
  not_indexed = λ d u.
      ap (λ (a : Answer Found). eqb (number_given a) 9) (looks d u)
      ∙ looked-number (leb τ.finder.held (d / block_of τ.finder)) (τ.finder.minimum_index + d) (max_index_of τ.finder) (index_in tag (τ.finder.minimum_index + d)) (d % block_of τ.finder) (d / block_of τ.finder * block_of τ.finder) (link_of s r.start d);
}
  where
    k : Kept shift s r τ
    k = updated shift s r σ τ (fresh_kept shift s r t σ small new) w

    looks : (d : ℕ) → r.minimum + d ≤ r.maximum → find_of s τ (index_in tag (r.minimum + d)) ≡ looked tag s r.start τ.finder d
    looks d u =
        subst (λ (m : ℕ). find_of s τ (index_in tag (m + d)) ≡ looked tag s r.start τ.finder d) k.minimum
        (find-placed tag s r.start τ d (record { short = short; shift = omega (arith, k.shift_is); held = k.held }) k.placed (omega (arith, k.minimum, k.maximum)))

-- ---- R-11 of a stream: its cursors are those of its header's records

roamed-in : (s : List ℕ) (h : Header) (c : ItemIter) → header_of s ≡ answered h → Roamed s c → RoamedIn s (header_records h) c
roamed-in s h c e (begun tag q) = subst (λ (x : ItemIter). RoamedIn s (header_records h) x) (fresh-iter tag s h c e q) (any.begun tag)
roamed-in s h c e (called {c = d} w) = any.called (roamed-in s h d e w)

updated-in : (s : List ℕ) (h : Header) (σ τ : State) → header_of s ≡ answered h → Updated s σ τ → UpdatedIn s (header_records h) σ τ
updated-in s h σ τ e untouched = any.untouched
updated-in s h σ τ e (by {τ = ρ} {c = c} w o) = any.by (updated-in s h σ ρ e w) (roamed-in s h c e o)

accepted-short : (s : List ℕ) (h : Header) → header_of s ≡ answered h → length s ≤ longest
unfolding header_of
accepted-short s h e = ltb-false _ _ (passed (ltb longest (length s)) 16 _ _ e).0

pub shared : Shared
unfolding Shared SharedBy SharedIn
shared shift small tag s h t σ τ e new w =
    shared-in shift small tag s (header_records h) t σ τ (accepted-short s h e) (created-in shift s h t σ e new) (updated-in s h σ τ e w)

pub of-records : OfRecords
of-records = record { demand3 = demand3-in; not_indexed = not-indexed-in; shared = shared-in }
