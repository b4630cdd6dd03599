-- What each answer of this crate says fixes the answer; and a function that is lent the table has one answer and one table after. Assumes
-- nothing.
use Prim.Native.Nat.{ℕ}
use mathlib.Core.Path.{◌≡◌, refl, sym, ◌∙◌}
use mathlib.Core.List.{List}
use Rattle.std.specs.Prelude.{Result}
use Rattle.answer.specs.declared.Refusal.{Refusal}
use Rattle.answer.specs.Answer.{Answer}
use Rattle.answer.specs.Refusals.{itself, said}
use Rattle.answer.proofs.OneOutcome.{one_said, one_answer}
use Rattle.stream_item.specs.declared.Entry.{Entry}
use Rattle.stream_finder.specs.Finder.{State, found, said_find, Fills}
use Rattle.stream_finder.specs.Lent.{Changes}
use Rattle.stream_finder.specs.declared.ItemFinder.{ItemFinder}

pub one-finder : (r q : Result ItemFinder Refusal) → said itself r ≡ said itself q → r ≡ q
one-finder = one_answer

pub one-find : (r q : Result (Entry × ℕ) Refusal) → said_find r ≡ said_find q → r ≡ q
one-find = one_said found (λ a. (a.entry, a.passed)) (λ x. refl)

pub one-fills : (t : List ℕ) (a : Answer State) (r q : Result ItemFinder Refusal) (u v : List ℕ) → Fills t a r u → Fills t a q v → (r ≡ q) × (u ≡ v)
one-fills t a r q u v l k = (one-finder r q (l.answer ∙ sym k.answer), l.table ∙ sym k.table)

-- an update in place: one answer, and one state after it
pub one-update : (r q : Result Unit Refusal) → said itself r ≡ said itself q → r ≡ q
one-update = one_answer

pub one-change : (σ : State) (a : Answer State) (r q : Result Unit Refusal) (τ υ : State) → Changes σ a r τ → Changes σ a q υ → (r ≡ q) × (τ ≡ υ)
one-change σ a r q τ υ x y = (one-update r q (x.answer ∙ sym y.answer), x.left ∙ sym y.left)
