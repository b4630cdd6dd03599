-- After a yes every index of the stream is found, by demand 3 and the count. Assumes nothing.
use Prim.Native.Nat.{ℕ, zero, suc, ◌+◌, ◌-◌, ◌*◌, ◌/◌, ◌%◌, ◌^◌, ◌≤◌, ◌<◌}
use native.Mathlib.Nat.{div-mul-le_self, le-div_iff_mul-le}
use native.Mathlib.Omega.{arith}
use mathlib.Core.Path.{◌≡◌, refl, ap, sym, ◌∙◌}
use mathlib.Core.List.{List}
use lib.Pow.{pow_pos}
use borrow.Author.Tests.{lt-leb}
use Rattle.answer.specs.Answer.{Answer, answered, refused, then}
use Rattle.field.specs.Indices.{index_in}
use Rattle.field.specs.declared.index.Stream.TheVariants as stream
use Rattle.stream_item.specs.Links.{reached, chain, link_of}
use Rattle.stream_item.specs.Iterator.{Next, done, yielded, next_of}
use Rattle.stream_item.specs.declared.Item.{Item}
use Rattle.stream_item.specs.declared.iter.ItemIter.{ItemIter}
use Rattle.stream_item.specs.declared.link.Hit.TheVariants.{Landed}
use Rattle.stream_item.proofs.LinkLaws.{chain-none, chain-pass, link_of-landed}
use Rattle.stream_item.proofs.NextLaws.{yields}
use Rattle.stream_finder.specs.Finder.{State, state, holding, update_of, find_of}
use Rattle.stream_finder.specs.Demand.{looked, Demand3By, Demand3Every}
use Rattle.stream_finder.proofs.DemandProof.{demand3-every}
use Rattle.stream_index.specs.Walk.{Turn, over, moved, updating, turn_of, Turns, none, more, said_end}
use Rattle.stream_index.proofs.WalkLaws.{turn-back}
use Rattle.stream_index.proofs.WalkedWhole.{walk-premises}
use Rattle.record_reference.proofs.ValueLaws.{no_answer}
use Rattle.stream_fit.specs.Fit.{payload_of}
use Rattle.stream_fit.specs.Sentences.{Good, Visits, stays, goes, Fit}
use Rattle.stream_fit.specs.After.{Finds, AfterYes}
use Rattle.stream_fit.proofs.SentenceLaws.{visits-index, first-index, first-at, sentences}

-- a walk, one record longer at its end
visits-more : (s : List ℕ) (c : ItemIter) (n : ℕ) (d : ItemIter) (i : Item) (e : ItemIter) → Visits s c n d → next_of s d ≡ answered (yielded i e) → Visits s c (suc n) e
visits-more s c n d i e stays f = goes f stays
visits-more s c n d i e (goes {d = x} {n = k} g v) f = goes g (visits-more s x k d i e v f)

turns-visit : (s : List ℕ) (c : ItemIter) (σ : State) (n : ℕ) (d : ItemIter) (τ : State) → Turns s c σ n d τ → Visits s c n d
turns-visit s c σ zero d τ none = stays
turns-visit s c σ (suc n) d τ (more {d = x} {τ = ρ} w e) = let m = turn-back s ρ x τ d e in visits-more s c n x m.item d (turns-visit s c σ n x ρ w) m.yield

-- the record that a walk passes at step k
record Passes (s : List ℕ) (c : ItemIter) (k : ℕ) : Type 0 where
  cursor : ItemIter
  visited : Visits s c k cursor
  item : Item
  next : ItemIter
  yield : next_of s cursor ≡ answered (yielded item next)

passes : (s : List ℕ) (c : ItemIter) (n k : ℕ) (e : ItemIter) → Visits s c n e → k < n → Passes s c k
passes s c n k e stays l = absurd (omega arith)
passes s c n zero e (goes {d = x} {i = i} f v) l = record { cursor = c; visited = stays; item = i; next = x; yield = f }
passes s c n (suc k) e (goes {d = x} {n = m} f v) l =
    let p = passes s x m k e v (omega arith) in
    record { cursor = p.cursor; visited = goes f p.visited; item = p.item; next = p.next; yield = p.yield }

-- a walk goes along the chain
along : (s : List ℕ) (p j : ℕ) (c : ItemIter) (k : ℕ) (x : ItemIter) → chain s p j ≡ reached c.at → Visits s c k x → chain s p (j + k) ≡ reached x.at
along s p j c k x h stays = let z : j + 0 ≡ j = omega arith in rw z h
along s p j c k x h (goes {d = d} {i = i} {n = m} f v) =
    let y = yields s c i d f in
    let z : j + suc m ≡ j + 1 + m = omega arith in
    rw z (along s p (j + 1) d m x (chain-pass s p j c.at i.place i.length h y.whole ∙ ap reached (sym y.at)) v)

-- a turn that is over is a walk that is done
over_done : (s : List ℕ) (σ : State) (c : ItemIter) → turn_of s σ c ≡ answered over → next_of s c ≡ answered done
unfolding turn_of
over_done s σ c e = go (next_of s c) refl e
  where
    apart : {X : Type 0} {τ : State} {d : ItemIter} → ◌≡◌ {A = Answer Turn} (answered (moved τ d)) (answered over) → X
    apart {X} {τ} {d} h = let z : ◌≡◌ {A = ℕ} 0 1 = cc in absurd (omega arith)

    stored : (x : ItemIter) (a : Answer State) → then a (λ ρ. answered (moved ρ x)) ≡ answered over → next_of s c ≡ answered done
    stored x (answered ρ) g = apart g
    stored x (refused n d) g = no_answer g

    go : (a : Answer Next) → next_of s c ≡ a → then a (updating σ) ≡ answered over → next_of s c ≡ answered done
    go (answered done) f g = f
    go (answered (yielded i x)) f g = stored x (update_of σ x) g
    go (refused n d) f g = no_answer g

block-le : (shift d N : ℕ) → d ≤ N → d / 2 ^ shift ≤ N / 2 ^ shift
block-le shift d N l =
    let h : d / 2 ^ shift * 2 ^ shift ≤ N = omega (arith, div-mul-le_self d (2 ^ shift)) in
    (le-div_iff_mul-le (pow_pos shift)).1 h

pub after-yes : AfterYes
unfolding AfterYes Demand3Every Demand3By
after-yes shift small s t h r t' e y w whole d l =
    let v = turns-visit s w.first w.fresh w.walks.turns r.cursor (state r.finder t') w.walks.led in
    let f : Fit s h w.first = sentences.sound s h w.first e w.begun y in
    let o : next_of s r.cursor ≡ answered done = over_done s (state r.finder t') r.cursor (sym w.walks.ended ∙ ap said_end whole) in
    let n : w.walks.turns ≡ h.maximum_index - h.minimum_index = f.count w.walks.turns r.cursor v o in
    let p = passes s w.first w.walks.turns d r.cursor v (omega (arith, n)) in
    let i : p.cursor.index ≡ h.minimum_index + d = visits-index s w.first d p.cursor p.visited ∙ ap (λ x. x + d) (first-index s h w.first e w.begun) in
    let c : chain s h.header_size (0 + d) ≡ reached p.cursor.at = along s h.header_size 0 w.first d p.cursor (chain-none s h.header_size ∙ ap reached (first-at s h w.first e w.begun)) p.visited in
    let z : 0 + d ≡ d = omega arith in
    let k : link_of s h.header_size d ≡ Landed p.item.place p.item.length =
    link_of-landed s h.header_size d p.cursor.at p.item.place p.item.length (rw z at c) (yields s p.cursor p.item p.next p.yield).whole in
    found p i w.walks.turns (demand3-every shift small stream.Types s h t w.walks.turns (state r.finder t') d (walk-premises shift small stream.Types s t h r t' e (omega arith) w d (omega arith))) k
    (block-le shift d w.walks.turns (omega (arith, n))) (f.records d p.cursor p.visited p.item p.next p.yield)
  where
    found : (p : Passes s w.first d) → p.cursor.index ≡ h.minimum_index + d → (N : ℕ)
        → find_of s (state r.finder t') (index_in stream.Types (h.minimum_index + d)) ≡ looked stream.Types s h.header_size (holding h shift (1 + N / 2 ^ shift)) d
        → link_of s h.header_size d ≡ Landed p.item.place p.item.length → d / 2 ^ shift ≤ N / 2 ^ shift
        → Good h.minimum_index p.cursor.index (payload_of s p.item) → Finds s h (state r.finder t') d (d % 2 ^ shift)
    found p i N g k b good =
        let q : d / 2 ^ shift < 1 + N / 2 ^ shift = omega arith in
        record {
          item = record { index = index_in stream.Types (h.minimum_index + d); place = p.item.place; length = p.item.length };
          found = g ∙ rw (lt-leb _ _ q, k);
          good = rw (← i) good;
        }
