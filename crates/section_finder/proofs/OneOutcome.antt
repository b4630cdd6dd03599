-- Indexing a section has one answer and one table after. Assumes nothing.
use Rattle.std.specs.Prelude.{Result, Ok, Err}
use Prim.Native.Nat.{ℕ}
use mathlib.Core.Path.{◌≡◌, sym, ap, ◌∙◌, subst}
use mathlib.Core.List.{List}
use native.Mathlib.Omega.{arith}
use Rattle.answer.specs.Answer.{Answer}
use Rattle.answer.specs.Refusals.{no}
use Rattle.answer.specs.declared.Refusal.{Refusal}
use Rattle.answer.proofs.OneOutcome.{one-refusal}
use Rattle.stream_finder.specs.Finder.{State}
use Rattle.stream_index.specs.Walk.{Walks}
use Rattle.stream_index.specs.declared.Tour.{Tour}
use Rattle.stream_index.proofs.OneWalk.{one-walks}
use Rattle.section_item.specs.Sections.{first}
use Rattle.section_finder.specs.Finders.{SectionIndexesBy}

refusals : (a b : Refusal) → ◌≡◌ {A = Answer State} (no a) (no b) → a ≡ b
refusals a b e = one-refusal a b (cc) (cc)

pub one-indexes : (shift : ℕ) (s t : List ℕ) (r q : Result Tour Refusal) (u v : List ℕ) → SectionIndexesBy shift s t r u → SectionIndexesBy shift s t q v → (r ≡ q) × (u ≡ v)
one-indexes shift s t (Ok r) (Ok q) u v w x =
    let f : w.fresh ≡ x.fresh = cc in
    let h = one-walks s first x.fresh r q u v (subst (λ (σ : State). Walks s first σ r u) f w.walks) x.walks in
    (ap (λ (z : Tour). Ok z) h.0, h.1)
one-indexes shift s t (Ok r) (Err e) u v w x = let z : ◌≡◌ {A = ℕ} 0 1 = cc in absurd (omega arith)
one-indexes shift s t (Err e) (Ok q) u v w x = let z : ◌≡◌ {A = ℕ} 0 1 = cc in absurd (omega arith)
one-indexes shift s t (Err e) (Err f) u v w x = (ap (λ (z : Refusal). Err z) (refusals e f (sym w.0 ∙ x.0)), w.1 ∙ sym x.1)
