-- The outcomes of a turn, a law for each, and how far a turn goes. Assumes nothing.
use Rattle.std.specs.Prelude.{Result, Ok, Err, Option, Some, None}
use Prim.Native.Nat.{ℕ, ◌+◌, ◌≤◌, ◌<◌}
use mathlib.Core.Path.{◌≡◌, refl, sym, ap, ◌∙◌, subst}
use mathlib.Core.List.{List}
use native.Mathlib.Numerals.{add-one}
use native.Mathlib.Omega.{arith}
use lib.ListN.{length}
use Rattle.answer.specs.Answer.{Answer, answered, refused, then}
use Rattle.answer.specs.Refusals.{no, itself, said}
use Rattle.answer.specs.declared.Refusal.{Refusal}
use Rattle.stream_header.specs.Header.{header_of}
use Rattle.stream_header.specs.declared.Header.{Header}
use Rattle.stream_item.specs.Iterator.{iter_of, Next, done, yielded, next_of}
use Rattle.stream_item.proofs.LinkLaws.{WholeAt, whole_is}
use Rattle.stream_item.proofs.NextLaws.{Yields, yields}
use Rattle.field.specs.declared.index.Stream.{Stream}
use Rattle.stream_item.specs.declared.Item.{Item}
use Rattle.stream_item.specs.declared.iter.ItemIter.{ItemIter}
use Rattle.stream_finder.specs.Finder.{State, state, create_by, update_of, finder_of, table_after, Fills}
use Rattle.stream_finder.proofs.FinderLaws.{create-is}
use Rattle.stream_finder.specs.declared.ItemFinder.{ItemFinder}
use Rattle.stream_index.specs.Walk.{Turn, over, moved, updating, turn_of, said_turn, turn_table, Leads, Turns, more, said_end, Walks}

-- ---- what a function that is lent the table has told of its definition
pub leaves-answered : (t : List ℕ) (a : Answer State) (r : Result ItemFinder Refusal) (t' : List ℕ) (g : ItemFinder) → Fills t a r t' → r ≡ Ok g → a ≡ answered (state g t')
leaves-answered t a r t' g l e = go a (sym (ap (said itself) e) ∙ l.answer) l.table
  where
    go : (a : Answer State) → answered g ≡ finder_of a → t' ≡ table_after t a → a ≡ answered (state g t')
    go (answered τ) p q = let f : g ≡ τ.finder = cc in ap (λ (x : ItemFinder). answered (state x τ.table)) (sym f) ∙ ap (λ (u : List ℕ). answered (state g u)) (sym q)
    go (refused n d) p q = let z : ◌≡◌ {A = ℕ} 0 1 = cc in absurd (omega arith)

pub leaves-refused : (t : List ℕ) (a : Answer State) (r : Result ItemFinder Refusal) (t' : List ℕ) (e : Refusal) → Fills t a r t' → r ≡ Err e → (a ≡ no e) × (t' ≡ t)
leaves-refused t a r t' e l h = go a (sym (ap (said itself) h) ∙ l.answer) l.table
  where
    go : (a : Answer State) → no e ≡ finder_of a → t' ≡ table_after t a → (a ≡ no e) × (t' ≡ t)
    go (answered τ) p q = let z : ◌≡◌ {A = ℕ} 0 1 = cc in absurd (omega arith)
    go (refused n d) p q = (cc, q)

-- ---- a turn
module _ (s : List ℕ) (σ : State) (c : ItemIter) where
  pub turn-next : (a : Answer Next) → next_of s c ≡ a → turn_of s σ c ≡ then a (updating σ)
  unfolding turn_of
  turn-next a e = rw e

  pub turn-updates : (i : Item) (d : ItemIter) (a : Answer State) → next_of s c ≡ answered (yielded i d) → update_of σ d ≡ a
      → turn_of s σ c ≡ then a (λ τ. answered (moved τ d))
  turn-updates i d a e h = turn-next (answered (yielded i d)) e ∙ ap (λ (x : Answer State). then x (λ τ. answered (moved τ d))) h

-- the contract from the case that holds
pub leads : (t : List ℕ) (x : Answer Turn) (r : Result (Option (ItemFinder × ItemIter)) Refusal) (t' : List ℕ) (a : Answer Turn) → x ≡ a → said_turn r t' ≡ a → t' ≡ turn_table t a → Leads t x r t'
leads t x r t' a e p q = record { answer = p ∙ sym e; table = q ∙ ap (turn_table t) (sym e) }

pub leads-moved : (t : List ℕ) (a : Answer Turn) (r : Result (Option (ItemFinder × ItemIter)) Refusal) (t' : List ℕ) (g : ItemFinder) (d : ItemIter) → Leads t a r t' → r ≡ Ok (Some (g, d))
    → a ≡ answered (moved (state g t') d)
leads-moved t a r t' g d l e = sym l.answer ∙ ap (λ (x : Result (Option (ItemFinder × ItemIter)) Refusal). said_turn x t') e

pub leads-over : (t : List ℕ) (a : Answer Turn) (r : Result (Option (ItemFinder × ItemIter)) Refusal) (t' : List ℕ) → Leads t a r t' → r ≡ Ok None → (a ≡ answered over) × (t' ≡ t)
leads-over t a r t' l e =
    let h : a ≡ answered over = sym l.answer ∙ ap (λ (x : Result (Option (ItemFinder × ItemIter)) Refusal). said_turn x t') e in
    (h, l.table ∙ ap (turn_table t) h)

pub leads-refused : (t : List ℕ) (a : Answer Turn) (r : Result (Option (ItemFinder × ItemIter)) Refusal) (t' : List ℕ) (e : Refusal) → Leads t a r t' → r ≡ Err e → (a ≡ no e) × (t' ≡ t)
leads-refused t a r t' e l q =
    let h : a ≡ no e = sym l.answer ∙ ap (λ (x : Result (Option (ItemFinder × ItemIter)) Refusal). said_turn x t') q in
    (h, l.table ∙ ap (turn_table t) h)

-- ---- back: a turn that moved was a record yielded and an update answered
pub record Moves (s : List ℕ) (σ : State) (c : ItemIter) (τ : State) (d : ItemIter) : Type 0 where
  pub item : Item
  pub yield : next_of s c ≡ answered (yielded item d)
  pub update : update_of σ d ≡ answered τ

pub turn-back : (s : List ℕ) (σ : State) (c : ItemIter) (τ : State) (d : ItemIter) → turn_of s σ c ≡ answered (moved τ d) → Moves s σ c τ d
unfolding turn_of
turn-back s σ c τ d e = go (next_of s c) refl e
  where
    stored : (i : Item) (x : ItemIter) → next_of s c ≡ answered (yielded i x) → (a : Answer State) → update_of σ x ≡ a
        → then a (λ ρ. answered (moved ρ x)) ≡ answered (moved τ d) → Moves s σ c τ d
    stored i x n (answered ρ) u q =
        let xd : x ≡ d = cc in
        let ρτ : ρ ≡ τ = cc in
        record { item = i; yield = n ∙ ap (λ (y : ItemIter). answered (yielded i y)) xd; update = sym (ap (update_of σ) xd) ∙ u ∙ ap (λ (ω : State). answered ω) ρτ }
    stored i x n (refused m y) u q = let z : ◌≡◌ {A = ℕ} 0 1 = cc in absurd (omega arith)

    go : (a : Answer Next) → next_of s c ≡ a → then a (updating σ) ≡ answered (moved τ d) → Moves s σ c τ d
    go (answered done) n q = let z : ◌≡◌ {A = ℕ} 0 1 = cc in absurd (omega arith)
    go (answered (yielded i x)) n q = stored i x n (update_of σ x) refl q
    go (refused m y) n q = let z : ◌≡◌ {A = ℕ} 0 1 = cc in absurd (omega arith)

-- a turn goes on, and stays inside
pub record Further (s : List ℕ) (c d : ItemIter) : Type 0 where
  pub on : c.at < d.at
  pub inside : d.at ≤ length s

pub turn-further : (s : List ℕ) (σ : State) (c : ItemIter) (τ : State) (d : ItemIter) → turn_of s σ c ≡ answered (moved τ d) → Further s c d
turn-further s σ c τ d e =
    let m : Moves s σ c τ d = turn-back s σ c τ d e in
    let y : Yields s c m.item d = yields s c m.item d m.yield in
    let w : WholeAt s c.at m.item.place m.item.length = whole_is s c.at m.item.place m.item.length y.whole in
    record { on = omega arith; inside = y.inside }

-- ---- a walk
pub turns_more : (s : List ℕ) (c : ItemIter) (σ : State) (n : ℕ) (d : ItemIter) (τ : State) (e : ItemIter) (ρ : State)
    → Turns s c σ n d τ → turn_of s τ d ≡ answered (moved ρ e) → Turns s c σ (n + 1) e ρ
turns_more s c σ n d τ e ρ w h = subst (λ (x : ℕ). Turns s c σ x e ρ) (sym (add-one n)) (more w h)

pub walks-to : (s : List ℕ) (c : ItemIter) (σ : State) (n : ℕ) (f : ItemFinder) (d : ItemIter) (u : List ℕ) (x : Result Unit Refusal) (t' : List ℕ)
    → Turns s c σ n d (state f u) → turn_of s (state f u) d ≡ said_end x → t' ≡ u
    → Walks s c σ (record { finder = f; cursor = d; end = x }) t'
walks-to s c σ n f d u x t' w e q =
    subst (λ (v : List ℕ). Walks s c σ (record { finder = f; cursor = d; end = x }) v) (sym q) (record { turns = n; led = w; ended = sym e })

-- what refuses a fresh iterator refuses the creation, by the same header
pub create-refused : (tag : Stream) (shift : ℕ) (s t : List ℕ) (n : ℕ) (x : List ℕ) → iter_of tag s ≡ refused n x → create_by shift s t ≡ refused n x
unfolding iter_of
create-refused tag shift s t n x e = go (header_of s) refl e
  where
    go : (a : Answer Header) → header_of s ≡ a
        → then {B = ItemIter} a (λ h. answered (record { stream = tag; at = h.header_size; index = h.minimum_index })) ≡ refused n x
        → create_by shift s t ≡ refused n x
    go (answered h) a q = let z : ◌≡◌ {A = ℕ} 0 1 = cc in absurd (omega arith)
    go (refused m y) a q = create-is shift s t (refused m y) a ∙ cc
