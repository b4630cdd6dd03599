-- From the contract of an update by value to that of one in place, an answer and a refusal. Assumes nothing.
use Rattle.std.specs.Prelude.{Result, Ok, Err}
use Prim.Native.Nat.{ℕ}
use mathlib.Core.Path.{◌≡◌, refl, sym, ap, ◌∙◌}
use mathlib.Core.List.{List}
use native.Mathlib.Omega.{arith}
use Rattle.answer.specs.Answer.{Answer, answered, refused}
use Rattle.answer.specs.Refusals.{no, itself, said}
use Rattle.answer.specs.declared.Refusal.{Refusal}
use Rattle.stream_finder.specs.Finder.{State, state, finder_of, table_after, Fills}
use Rattle.stream_finder.specs.Lent.{Changes}
use Rattle.stream_finder.specs.declared.ItemFinder.{ItemFinder}

abbrev finder_in : ItemFinder → Answer ItemFinder → ItemFinder
finder_in f (answered g) = g
finder_in f (refused n d) = f

abbrev bare : Answer ItemFinder → Answer (Unit {0})
bare (answered f) = answered tt
bare (refused n d) = refused n d

answered-with : (σ : State) (a : Answer State) (g : ItemFinder) (t' : List ℕ) → answered g ≡ finder_of a → t' ≡ table_after σ.table a
    → Changes σ a (Ok tt) (state g t')
answered-with σ (answered τ) g t' p q = record { answer = refl; left = λ i. state (finder_in g (p i)) (q i) }
answered-with σ (refused n d) g t' p q = let z : ◌≡◌ {A = ℕ} 0 1 = cc in absurd (omega arith)

refused-with : (σ : State) (a : Answer State) (e : Refusal) (t' : List ℕ) → no e ≡ finder_of a → t' ≡ table_after σ.table a
    → Changes σ a (Err e) (state σ.finder t')
refused-with σ (answered τ) e t' p q = let z : ◌≡◌ {A = ℕ} 0 1 = cc in absurd (omega arith)
refused-with σ (refused n d) e t' p q = record { answer = ap bare p; left = λ i. state σ.finder (q i) }

module _ (σ : State) (a : Answer State) (r : Result ItemFinder Refusal) (t' : List ℕ) (l : Fills σ.table a r t') where
  pub changes-answered : (g : ItemFinder) → r ≡ Ok g → Changes σ a (Ok tt) (state g t')
  changes-answered g e = answered-with σ a g t' (ap (said itself) (sym e) ∙ l.answer) l.table

  pub changes-refused : (e : Refusal) → r ≡ Err e → Changes σ a (Err e) (state σ.finder t')
  changes-refused e h = refused-with σ a e t' (ap (said itself) (sym h) ∙ l.answer) l.table
