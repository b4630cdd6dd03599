-- The contracts of `index_on`, `index_all` and `index_all_by` admit one outcome: turns follow one another in one way, and a walk ends at the first that does not move.
-- Assumes nothing.
use Rattle.std.specs.Prelude.{Result, Ok, Err}
use Prim.Native.Nat.{ℕ, zero, suc, ◌≤◌, ◌<◌}
use mathlib.Core.Path.{◌≡◌, refl, sym, ap, ◌∙◌, subst}
use mathlib.Core.Logic.{⊎_elim}
use mathlib.Core.List.{List}
use mathlib.Core.Bool.{Bool, true, false}
use native.Mathlib.Nat.{eq-or-lt_of_le}
use native.Mathlib.Omega.{arith}
use lib.Dec.{ltb}
use borrow.Author.Tests.{ltb-true, ltb-false}
use Rattle.answer.specs.Answer.{Answer, answered}
use Rattle.answer.specs.Refusals.{no}
use Rattle.answer.proofs.OneOutcome.{one-refusal}
use Rattle.answer.specs.declared.Refusal.{Refusal}
use Rattle.field.specs.declared.index.Stream.{Stream}
use Rattle.stream_item.specs.declared.iter.ItemIter.{ItemIter}
use Rattle.stream_finder.specs.Finder.{State, state}
use Rattle.stream_finder.specs.declared.ItemFinder.{ItemFinder}
use Rattle.stream_index.specs.Walk.{moved, turn_of, Turns, none, more, said_end, Walks, IndexesBy}
use Rattle.stream_index.proofs.OneOutcome.{one_end}
use Rattle.stream_index.specs.declared.Tour.{Tour}

-- the turn from there moves
record Still (s : List ℕ) (τ : State) (d : ItemIter) : Type 0 where
  pub to : State
  pub cursor : ItemIter
  pub moves : turn_of s τ d ≡ answered (moved to cursor)

module _ (s : List ℕ) (c : ItemIter) (σ : State) where
  pub turns_same : (n : ℕ) (d e : ItemIter) (τ ρ : State) → Turns s c σ n d τ → Turns s c σ n e ρ → (d ≡ e) × (τ ≡ ρ)
  turns_same zero d e τ ρ none none = (refl, refl)
  turns_same (suc n) d e τ ρ (more {d = d₀} {τ = τ₀} w p) (more {d = e₀} {τ = ρ₀} v q) =
      let h : (d₀ ≡ e₀) × (τ₀ ≡ ρ₀) = turns_same n d₀ e₀ τ₀ ρ₀ w v in
      let x : d₀ ≡ e₀ = h.0 in
      let y : τ₀ ≡ ρ₀ = h.1 in
      (cc, cc)

  still : (m n : ℕ) (d e : ItemIter) (τ ρ : State) → n < m → Turns s c σ n d τ → Turns s c σ m e ρ → Still s τ d
  still zero n d e τ ρ l w v = absurd (omega arith)
  still (suc m) n d e τ ρ l w (more {d = e₀} {τ = ρ₀} v q) =
      ⊎_elim
      (λ h. here (subst (λ (k : ℕ). Turns s c σ k d τ) h w))
      (λ h. still m n d e₀ τ ρ₀ h w v)
      (eq-or-lt_of_le (below l))
    where
      below : n < suc m → n ≤ m
      below h = omega arith

      here : Turns s c σ m d τ → Still s τ d
      here u =
          let h = turns_same m d e₀ τ ρ₀ u v in
          let x : d ≡ e₀ = h.0 in
          let y : τ ≡ ρ₀ = h.1 in
          record { to = ρ; cursor = e; moves = ap (turn_of s τ) x ∙ ap (λ (ω : State). turn_of s ω e₀) y ∙ q }

unmoved : (x : Result Unit Refusal) (τ : State) (d : ItemIter) → said_end x ≡ answered (moved τ d) → ⊥
unmoved (Ok tt) τ d e = let z : ◌≡◌ {A = ℕ} 0 1 = cc in omega arith
unmoved (Err r) τ d e = let z : ◌≡◌ {A = ℕ} 0 1 = cc in omega arith

tours : (f g : ItemFinder) (c d : ItemIter) (x y : Result Unit Refusal) → f ≡ g → c ≡ d → x ≡ y → ◌≡◌ {A = Tour} (record { finder = f; cursor = c; end = x }) (record { finder = g; cursor = d; end = y })
tours f g c d x y p q r = cc

pub one-walks : (s : List ℕ) (c : ItemIter) (σ : State) (r q : Tour) (t u : List ℕ) → Walks s c σ r t → Walks s c σ q u → (r ≡ q) × (t ≡ u)
one-walks s c σ r q t u w v = go (ltb w.turns v.turns) refl
  where
    later : (r q : Tour) (t u : List ℕ) (w : Walks s c σ r t) (v : Walks s c σ q u) → w.turns < v.turns → (r ≡ q) × (t ≡ u)
    later r q t u w v l =
        let m : Still s (state r.finder t) r.cursor = still s c σ v.turns w.turns r.cursor q.cursor (state r.finder t) (state q.finder u) l w.led v.led in
        absurd (unmoved r.end m.to m.cursor (w.ended ∙ m.moves))

    same : v.turns ≡ w.turns → (r ≡ q) × (t ≡ u)
    same e =
        let h = turns_same s c σ w.turns r.cursor q.cursor (state r.finder t) (state q.finder u) w.led (subst (λ (n : ℕ). Turns s c σ n q.cursor (state q.finder u)) e v.led) in
        let x : r.cursor ≡ q.cursor = h.0 in
        let f : r.finder ≡ q.finder = ap (λ (ω : State). ω.finder) h.1 in
        let g : t ≡ u = ap (λ (ω : State). ω.table) h.1 in
        let z : said_end r.end ≡ said_end q.end =
        w.ended ∙ ap (turn_of s (state r.finder t)) x ∙ ap (λ (ω : State). turn_of s ω q.cursor) h.1 ∙ sym v.ended in
        (tours r.finder q.finder r.cursor q.cursor r.end q.end f x (one_end r.end q.end z), g)

    go : (x : Bool) → ltb w.turns v.turns ≡ x → (r ≡ q) × (t ≡ u)
    go true l = later r q t u w v (ltb-true _ _ l)
    go false l = ⊎_elim (λ e. same e) (λ k. let x = later q r u t v w k in (sym x.0, sym x.1)) (eq-or-lt_of_le (ltb-false _ _ l))

refusals : (a b : Refusal) → ◌≡◌ {A = Answer State} (no a) (no b) → a ≡ b
refusals a b e = one-refusal a b (cc) (cc)

pub one-indexes : (shift : ℕ) (tag : Stream) (s t : List ℕ) (r q : Result Tour Refusal) (u v : List ℕ) → IndexesBy shift tag s t r u → IndexesBy shift tag s t q v → (r ≡ q) × (u ≡ v)
one-indexes shift tag s t (Ok r) (Ok q) u v w x =
    let f : w.fresh ≡ x.fresh = cc in
    let c : w.first ≡ x.first = cc in
    let h = one-walks s x.first x.fresh r q u v
    (subst (λ (σ : State). Walks s x.first σ r u) f (subst (λ (d : ItemIter). Walks s d w.fresh r u) c w.walks)) x.walks in
    (ap (λ (z : Tour). Ok z) h.0, h.1)
one-indexes shift tag s t (Ok r) (Err e) u v w x = let z : ◌≡◌ {A = ℕ} 0 1 = cc in absurd (omega arith)
one-indexes shift tag s t (Err e) (Ok q) u v w x = let z : ◌≡◌ {A = ℕ} 0 1 = cc in absurd (omega arith)
one-indexes shift tag s t (Err e) (Err f) u v w x = (ap (λ (z : Refusal). Err z) (refusals e f (sym w.0 ∙ x.0)), w.1 ∙ sym x.1)
