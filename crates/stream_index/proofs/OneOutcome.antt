-- What each answer of this crate says fixes the answer; so a turn has one answer and one table after. Assumes nothing.
use Prim.Native.Nat.{ℕ}
use mathlib.Core.Path.{◌≡◌, refl, sym, ap, ◌∙◌}
use mathlib.Core.List.{List}
use Rattle.std.specs.Prelude.{Result, Option, Some, None}
use Rattle.answer.specs.declared.Refusal.{Refusal}
use Rattle.answer.specs.Answer.{Answer}
use Rattle.answer.proofs.OneOutcome.{one_said}
use Rattle.stream_item.specs.declared.iter.ItemIter.{ItemIter}
use Rattle.stream_finder.specs.declared.ItemFinder.{ItemFinder}
use Rattle.stream_index.specs.Walk.{Turn, over, moved, turn_in, said_turn, Leads, said_end}

abbrev taken : Turn → Option (ItemFinder × ItemIter)
taken over = None
taken (moved τ d) = Some (τ.finder, d)

turn-back : (t' : List ℕ) (o : Option (ItemFinder × ItemIter)) → taken (turn_in t' o) ≡ o
turn-back t' None = refl
turn-back t' (Some (g, d)) = refl

pub one-turn : (t' : List ℕ) (r q : Result (Option (ItemFinder × ItemIter)) Refusal) → said_turn r t' ≡ said_turn q t' → r ≡ q
one-turn t' = one_said (turn_in t') taken (turn-back t')

pub one-leads : (t : List ℕ) (a : Answer Turn) (r q : Result (Option (ItemFinder × ItemIter)) Refusal) (u v : List ℕ) → Leads t a r u → Leads t a q v → (r ≡ q) × (u ≡ v)
one-leads t a r q u v l k =
    let e : u ≡ v = l.table ∙ sym k.table in
    (one-turn u r q (l.answer ∙ sym (ap (said_turn q) e ∙ k.answer)), e)

pub one_end : (r q : Result Unit Refusal) → said_end r ≡ said_end q → r ≡ q
one_end = one_said {A = Unit {0}} (λ x. over) (λ x. tt) (λ x. refl)
