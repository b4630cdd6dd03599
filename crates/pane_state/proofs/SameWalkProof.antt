-- A walk as a function says what the contract says, without a bound on its turns, and of both streams the same but for the cursor's tag, which C does not get. Assumes nothing.
use Prim.Native.Nat.{ℕ, zero, suc, ◌+◌}
use mathlib.Core.Bool.{Bool, true, false}
use mathlib.Core.Path.{◌≡◌, refl, ap, ◌∙◌}
use mathlib.Core.List.{List}
use lib.Dec.{leb, ltb}
use lib.ListN.{length}
use Rattle.answer.specs.Answer.{Answer, answered, refused, pick, stop, then}
use Rattle.field.specs.Fields.{little_at}
use Rattle.field.specs.declared.index.Stream.{Stream}
use Rattle.field.specs.declared.index.Stream.TheVariants.{Types, Ids}
use Rattle.stream_header.specs.Header.{longest, header_of}
use Rattle.stream_header.specs.declared.Header.{Header}
use Rattle.stream_item.specs.Iterator.{iter_of, Next, done, over_record, next_of}
use Rattle.stream_item.specs.declared.iter.ItemIter.{ItemIter}
use Rattle.stream_finder.specs.Finder.{State, create_by, update_of}
use Rattle.stream_index.specs.Walk.{Turn, over, moved, updating, turn_of}
use Rattle.pane_state.specs.Given.{cursor_at}
use Rattle.pane_state.specs.Walk.{Arrived, arrived, after_turn, walk_up_to, walk_of, index_all_by, out_walk, SameWalk}
use Rattle.pane_state.proofs.WalkLaws.{walk_is, walk-back, walk-enough}

abbrev tagged : Stream → ItemIter → ItemIter
tagged tag c = record { stream = tag; at = c.at; index = c.index }

-- a turn's answer, the cursor's tag another
abbrev as_turn : Stream → Answer Turn → Answer Turn
as_turn tag (answered over) = answered over
as_turn tag (answered (moved τ d)) = answered (moved τ (tagged tag d))
as_turn tag (refused n x) = refused n x

-- what C gets of a walk does not tell the tag
abbrev got : List ℕ → Arrived → ℕ × List ℕ × List ℕ
got t a = out_walk t (answered a)

module _ (s : List ℕ) (σ : State) (tag : Stream) where
  updated : (c : ItemIter) (a : Answer State) → then a (λ τ. answered (moved τ (tagged tag c))) ≡ as_turn tag (then a (λ τ. answered (moved τ c)))
  updated c (answered τ) = refl
  updated c (refused n x) = refl

  update-as : (c : ItemIter) → update_of σ (tagged tag c) ≡ update_of σ c
  unfolding update_of
  update-as c = refl

  abbrev Alike : Answer Next → Answer Next → Type 0
  Alike a b = then a (updating σ) ≡ as_turn tag (then b (updating σ))

  stop-alike : (x : Bool) (n : ℕ) (a b : Answer Next) → Alike a b → Alike (stop x n a) (stop x n b)
  stop-alike true n a b e = refl
  stop-alike false n a b e = e

  done-alike : (x : Bool) (a b : Answer Next) → Alike a b → Alike (pick x (answered done) a) (pick x (answered done) b)
  done-alike true a b e = refl
  done-alike false a b e = e

  record-alike : (c : ItemIter) (n : ℕ) → Alike (answered (over_record (tagged tag c) n)) (answered (over_record c n))
  record-alike c n =
      let d : ItemIter = record { stream = c.stream; at = c.at + 2 + n; index = c.index + 1 } in
      ap (λ (a : Answer State). then a (λ τ. answered (moved τ (tagged tag d)))) (update-as d) ∙ updated d (update_of σ d)

  turn-as : (c : ItemIter) → turn_of s σ (tagged tag c) ≡ as_turn tag (turn_of s σ c)
  unfolding turn_of next_of
  turn-as c =
      stop-alike (ltb longest (length s)) 16 _ _
      (stop-alike (ltb (length s) c.at) 1 _ _
      (done-alike (leb (length s) c.at) _ _
      (stop-alike (ltb (length s) (c.at + 2)) 1 _ _
      (stop-alike (ltb (little_at 2 s c.at) 2) 6 _ _
      (stop-alike (ltb (length s) (c.at + 2 + little_at 2 s c.at)) 1 _ _
      (stop-alike (leb 4294967295 c.index) 7 _ _
      (record-alike c (little_at 2 s c.at))))))))

module _ (t s : List ℕ) (tag : Stream) where
  ends_as : (c : ItemIter) (σ : State) (e : Answer Turn) → got t (arrived (tagged tag c) σ (as_turn tag e)) ≡ got t (arrived c σ e)
  ends_as c σ (answered over) = refl
  ends_as c σ (answered (moved τ d)) = refl
  ends_as c σ (refused n x) = refl

  walk-as : (n : ℕ) (c : ItemIter) (σ : State) → got t (walk_up_to n s (tagged tag c) σ) ≡ got t (walk_up_to n s c σ)
  unfolding walk_up_to
  walk-as zero c σ = ap (λ (e : Answer Turn). got t (arrived (tagged tag c) σ e)) (turn-as s σ tag c) ∙ ends_as c σ (turn_of s σ c)
  walk-as (suc n) c σ = ap (λ (e : Answer Turn). got t (after_turn (walk_up_to n s) (tagged tag c) σ e)) (turn-as s σ tag c) ∙ step (λ d τ. walk-as n d τ) (turn_of s σ c)
    where
      step : ((d : ItemIter) (τ : State) → got t (walk_up_to n s (tagged tag d) τ) ≡ got t (walk_up_to n s d τ))
          → (e : Answer Turn) → got t (after_turn (walk_up_to n s) (tagged tag c) σ (as_turn tag e)) ≡ got t (after_turn (walk_up_to n s) c σ e)
      step h (answered over) = refl
      step h (answered (moved τ d)) = h d τ
      step h (refused m x) = refl

-- a fresh cursor, and the walk from it
begun : (s t : List ℕ) (σ : State) (a : Answer Header)
    → out_walk t (then (then {B = ItemIter} a (λ h. answered (record { stream = Ids; at = h.header_size; index = h.minimum_index }))) (λ c. answered (walk_of s c σ)))
    ≡ out_walk t (then (then {B = ItemIter} a (λ h. answered (cursor_at h.header_size h.minimum_index))) (λ c. answered (walk_of s c σ)))
begun s t σ (answered h) = walk-as t s Ids (length s) (cursor_at h.header_size h.minimum_index) σ
begun s t σ (refused n x) = refl

index-ids : (shift : ℕ) (s t : List ℕ) → out_walk t (index_all_by shift Ids s t) ≡ out_walk t (index_all_by shift Types s t)
unfolding index_all_by iter_of
index-ids shift s t = go (create_by shift s t)
  where
    go : (a : Answer State) → out_walk t (then a (λ σ. then (iter_of Ids s) (λ c. answered (walk_of s c σ)))) ≡ out_walk t (then a (λ σ. then (iter_of Types s) (λ c. answered (walk_of s c σ))))
    go (answered σ) = begun s t σ (header_of s)
    go (refused n x) = refl

pub same-walk : SameWalk
same-walk = record { contract = walk_is; back = walk-back; enough = walk-enough; of_ids = index-ids }
