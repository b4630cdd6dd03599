-- A walk by its contract in stream_index, so many turns and then none, ends where `walk_of` says; and where `walk_of` ends, so many turns have led. Assumes nothing.
use Rattle.std.specs.Prelude.{Result, Ok, Err}
use Prim.Native.Nat.{ℕ, zero, suc, ◌+◌, ◌-◌, ◌≤◌}
use mathlib.Core.Bool.{false}
use mathlib.Core.Path.{◌≡◌, refl, sym, ap, ◌∙◌}
use mathlib.Core.List.{List}
use native.Mathlib.Omega.{arith}
use lib.ListN.{length}
use Rattle.answer.specs.Answer.{Answer, answered, refused, then}
use Rattle.answer.specs.declared.Refusal.{Refusal}
use Rattle.field.specs.declared.index.Stream.{Stream}
use Rattle.stream_item.specs.Iterator.{iter_of}
use Rattle.stream_item.specs.declared.iter.ItemIter.{ItemIter}
use Rattle.stream_finder.specs.Finder.{State, state}
use Rattle.stream_index.specs.Walk.{Turn, over, moved, turn_of, Turns, none, more, said_end, Walks, IndexesBy}
use Rattle.stream_index.specs.declared.Tour.{Tour}
use Rattle.stream_index.proofs.WalkLaws.{Further, turn-further}
use Rattle.pane_out.specs.Handed.{refused_out}
use Rattle.pane_state.specs.Walk.{Arrived, arrived, after_turn, walk_up_to, walk_of, index_all_by, said_index, tour_out, out_walk, moves, LedTo}

-- ---- there are no more turns than bytes
turns-on : (s : List ℕ) (c : ItemIter) (σ : State) (n : ℕ) (d : ItemIter) (τ : State) → Turns s c σ n d τ → c.at + n ≤ d.at
turns-on s c σ zero d τ none = omega arith
turns-on s c σ (suc n) d τ (more {d = d₀} {τ = τ₀} w e) =
    let m : Further s d₀ d = turn-further s τ₀ d₀ τ d e in
    let h : c.at + n ≤ d₀.at = turns-on s c σ n d₀ τ₀ w in
    omega (arith, m.on)

turns-inside : (s : List ℕ) (c : ItemIter) (σ : State) (n : ℕ) (d : ItemIter) (τ : State) → Turns s c σ n d τ → n ≤ length s
turns-inside s c σ zero d τ none = omega arith
turns-inside s c σ (suc n) d τ (more {d = d₀} {τ = τ₀} w e) =
    let m : Further s d₀ d = turn-further s τ₀ d₀ τ d e in
    let h : c.at + n ≤ d₀.at = turns-on s c σ n d₀ τ₀ w in
    omega (arith, m.on, m.inside)

-- ---- a walk goes through its turns, and ends where there is none
walk_turn : (m : ℕ) (s : List ℕ) (c : ItemIter) (σ : State) (τ : State) (d : ItemIter) → turn_of s σ c ≡ answered (moved τ d) → walk_up_to (suc m) s c σ ≡ walk_up_to m s d τ
unfolding walk_up_to
walk_turn m s c σ τ d e = ap (after_turn (walk_up_to m s) c σ) e

walk-turns : (m : ℕ) (s : List ℕ) (c : ItemIter) (σ : State) (n : ℕ) (d : ItemIter) (τ : State) → Turns s c σ n d τ → walk_up_to (n + m) s c σ ≡ walk_up_to m s d τ
walk-turns m s c σ zero d τ none = ap (λ (k : ℕ). walk_up_to k s d τ) (omega arith)
walk-turns m s c σ (suc n) d τ (more {d = d₀} {τ = τ₀} w e) =
    ap (λ (k : ℕ). walk_up_to k s c σ) (omega arith) ∙ walk-turns (suc m) s c σ n d₀ τ₀ w ∙ walk_turn m s d₀ τ₀ τ d e

walk_ends : (m : ℕ) (s : List ℕ) (c : ItemIter) (σ : State) (x : Result Unit Refusal) → turn_of s σ c ≡ said_end x → walk_up_to m s c σ ≡ arrived c σ (said_end x)
unfolding walk_up_to
walk_ends zero s c σ x e = ap (arrived c σ) e
walk_ends (suc m) s c σ (Ok tt) e = ap (after_turn (walk_up_to m s) c σ) e
walk_ends (suc m) s c σ (Err r) e = ap (after_turn (walk_up_to m s) c σ) e

pub walk_is : (s : List ℕ) (c : ItemIter) (σ : State) (r : Tour) (t' : List ℕ) → Walks s c σ r t' → walk_of s c σ ≡ arrived r.cursor (state r.finder t') (said_end r.end)
walk_is s c σ r t' w =
    let h : w.turns ≤ length s = turns-inside s c σ w.turns r.cursor (state r.finder t') w.led in
    let k : length s ≡ w.turns + (length s - w.turns) = omega arith in
    ap (λ (n : ℕ). walk_up_to n s c σ) k
    ∙ walk-turns (length s - w.turns) s c σ w.turns r.cursor (state r.finder t') w.led
    ∙ walk_ends (length s - w.turns) s r.cursor (state r.finder t') r.end (sym w.ended)

-- ---- m turns are enough where so many bytes or fewer are left, since a turn goes over some
module _ (s : List ℕ) where
  no-turn : (c : ItemIter) (σ τ : State) (d : ItemIter) → length s ≤ c.at → turn_of s σ c ≡ answered (moved τ d) → ⊥
  no-turn c σ τ d l e =
      let m : Further s c d = turn-further s σ c τ d e in
      omega (arith, m.on, m.inside)

  at-end : (k : ℕ) (c : ItemIter) (σ : State) → length s ≤ c.at → walk_up_to k s c σ ≡ walk_up_to 0 s c σ
  unfolding walk_up_to
  at-end zero c σ l = refl
  at-end (suc k) c σ l = go (turn_of s σ c) refl
    where
      go : (a : Answer Turn) → turn_of s σ c ≡ a → after_turn (walk_up_to k s) c σ a ≡ arrived c σ a
      go (answered over) e = refl
      go (answered (moved τ d)) e = absurd (no-turn c σ τ d l e)
      go (refused n x) e = refl

  with-more : (m k : ℕ) (c : ItemIter) (σ : State) → length s ≤ c.at + m → walk_up_to (m + k) s c σ ≡ walk_up_to m s c σ
  unfolding walk_up_to
  with-more zero k c σ l =
      let e : 0 + k ≡ k = omega arith in
      ap (λ (n : ℕ). walk_up_to n s c σ) e ∙ at-end k c σ (omega arith)
  with-more (suc m) k c σ l =
      let e : suc m + k ≡ suc (m + k) = omega arith in
      ap (λ (n : ℕ). walk_up_to n s c σ) e ∙ go (λ d τ h. with-more m k d τ h) (turn_of s σ c) refl
    where
      go : ((d : ItemIter) (τ : State) → length s ≤ d.at + m → walk_up_to (m + k) s d τ ≡ walk_up_to m s d τ)
          → (a : Answer Turn) → turn_of s σ c ≡ a → after_turn (walk_up_to (m + k) s) c σ a ≡ after_turn (walk_up_to m s) c σ a
      go h (answered over) e = refl
      go h (answered (moved τ d)) e =
          let f : Further s c d = turn-further s σ c τ d e in
          h d τ (omega (arith, f.on))
      go h (refused n x) e = refl

  pub walk-enough : (c : ItemIter) (σ : State) (n : ℕ) → length s ≤ n → walk_up_to n s c σ ≡ walk_of s c σ
  walk-enough c σ n l =
      let k : n ≡ length s + (n - length s) = omega arith in
      ap (λ (m : ℕ). walk_up_to m s c σ) k ∙ with-more (length s) (n - length s) c σ (omega arith)

-- ---- and back: where it ends so many turns have led
module _ (s : List ℕ) (c : ItemIter) (σ : State) where
  walk-led : (m n : ℕ) (d : ItemIter) (τ : State) → Turns s c σ n d τ → length s ≤ d.at + m → LedTo s c σ (walk_up_to m s d τ)
  unfolding walk_up_to
  walk-led zero n d τ w l = record { turns = n; led = w; ended = refl; still = go (turn_of s τ d) refl }
    where
      go : (a : Answer Turn) → turn_of s τ d ≡ a → moves a ≡ false
      go (answered over) e = refl
      go (answered (moved ρ x)) e = absurd (no-turn s d τ ρ x (omega arith) e)
      go (refused k x) e = refl
  walk-led (suc m) n d τ w l = go (λ k x ρ v h. walk-led m k x ρ v h) (turn_of s τ d) refl
    where
      go : ((k : ℕ) (x : ItemIter) (ρ : State) → Turns s c σ k x ρ → length s ≤ x.at + m → LedTo s c σ (walk_up_to m s x ρ))
          → (a : Answer Turn) → turn_of s τ d ≡ a → LedTo s c σ (after_turn (walk_up_to m s) d τ a)
      go h (answered over) e = record { turns = n; led = w; ended = e; still = refl }
      go h (answered (moved ρ x)) e =
          let f : Further s d x = turn-further s τ d ρ x e in
          h (suc n) x ρ (more w e) (omega (arith, f.on))
      go h (refused k x) e = record { turns = n; led = w; ended = e; still = refl }

  pub walk-back : LedTo s c σ (walk_of s c σ)
  walk-back = walk-led (length s) 0 c σ none (omega arith)

-- ---- a whole stream's
pub index_done : (shift : ℕ) (tag : Stream) (s t : List ℕ) (r : Tour) (t' : List ℕ) → IndexesBy shift tag s t (Ok r) t' → index_all_by shift tag s t ≡ said_index (Ok r) t'
unfolding index_all_by
index_done shift tag s t r t' w =
    ap (λ (a : Answer State). then a (λ σ. then (iter_of tag s) (λ c. answered (walk_of s c σ)))) w.created
    ∙ ap (λ (a : Answer ItemIter). then a (λ c. answered (walk_of s c w.fresh))) w.begun
    ∙ ap (λ (a : Arrived). answered a) (walk_is s w.first w.fresh r t' w.walks)

pub index_refused : (shift : ℕ) (tag : Stream) (s t : List ℕ) (e : Refusal) (t' : List ℕ) → IndexesBy shift tag s t (Err e) t' → index_all_by shift tag s t ≡ said_index (Err e) t'
unfolding index_all_by
index_refused shift tag s t e t' w = ap (λ (a : Answer State). then a (λ σ. then (iter_of tag s) (λ c. answered (walk_of s c σ)))) w.0

-- ---- what C gets of a walk with the answer a, m being what stands behind `out`; a refused one leaves the table
pub out-done : (a : Answer Arrived) (t : List ℕ) (r : Tour) (m t' : List ℕ) → a ≡ said_index (Ok r) t' → m ≡ tour_out r → (0, m, t') ≡ out_walk t a
out-done a t r m t' w h = ap (λ (x : List ℕ). (0, x, t')) h ∙ ap (out_walk t) (sym w)

pub out-refused : (a : Answer Arrived) (t : List ℕ) (e : Refusal) (n k : ℕ) (m t' : List ℕ)
    → a ≡ said_index (Err e) t' → t' ≡ t → (n, m) ≡ refused_out k e → k ≡ 11 → (n, m, t') ≡ out_walk t a
out-refused a t e n k m t' w u h l =
    ap (λ (x : ℕ × List ℕ). (x.0, x.1, t')) (h ∙ ap (λ (j : ℕ). refused_out j e) l)
    ∙ ap (λ (v : List ℕ). ((refused_out 11 e).0, (refused_out 11 e).1, v)) u
    ∙ ap (out_walk t) (sym w)
