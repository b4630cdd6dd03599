-- The tally of a section: its finder has 4096 for its minimum, and keeps it and its shift through every update. Assumes nothing.
use Prim.Native.Nat.{ℕ, zero, suc}
use native.Mathlib.Omega.{arith}
use mathlib.Core.Path.{◌≡◌, ap, subst}
use mathlib.Core.List.{List}
use Rattle.answer.specs.Answer.{Answer, answered, refused, then}
use Rattle.field.specs.declared.index.Stream.TheVariants.{Types}
use Rattle.stream_item.specs.declared.iter.ItemIter.{ItemIter}
use Rattle.stream_finder.specs.Finder.{State, state, begun_in, after}
use Rattle.stream_finder.specs.OfRecords.{UpdatedIn, untouched, by}
use Rattle.stream_finder.specs.declared.Records.{Records}
use Rattle.stream_index.specs.Walk.{Turns, none, more}
use Rattle.stream_index.proofs.WalkLaws.{Moves, turn-back}
use Rattle.section_item.specs.Sections.{first, count_of}
use Rattle.section_finder.specs.Finders.{section_records, section_create_by}
use Rattle.pane.proofs.TallyProof.{Kept, tallied, update-kept, begun_kept}
use Rattle.claim_promises.specs.Paged.{SectionTally}

created-kept : (shift : ℕ) (s t : List ℕ) (σ : State) → section_create_by shift s t ≡ answered σ → Kept 4096 shift σ
unfolding section_create_by
created-kept shift s t σ e = go (count_of s) e
  where
    go : (a : Answer ℕ) → then a (λ n. begun_in shift t (section_records n)) ≡ answered σ → Kept 4096 shift σ
    go (answered n) q = begun_kept shift t (section_records n) σ q
    go (refused n d) q = let z : ◌≡◌ {A = ℕ} 0 1 = cc in absurd (omega arith)

updated-kept : (m shift : ℕ) (s : List ℕ) (r : Records) (σ τ : State) → Kept m shift σ → UpdatedIn s r σ τ → Kept m shift τ
updated-kept m shift s r σ τ k untouched = k
updated-kept m shift s r σ τ k (by {τ = ρ} {c = c} w g) = update-kept m shift ρ c (updated-kept m shift s r σ ρ k w)

turns-kept : (m shift : ℕ) (s : List ℕ) (c : ItemIter) (σ : State) (n : ℕ) (d : ItemIter) (τ : State) → Kept m shift σ → Turns s c σ n d τ → Kept m shift τ
turns-kept m shift s c σ zero d τ k none = k
turns-kept m shift s c σ (suc n) d τ k (more {d = d₀} {τ = τ₀} w e) =
    let v : Moves s τ₀ d₀ τ d = turn-back s τ₀ d₀ τ d e in
    subst (Kept m shift) (ap (after τ₀) v.update) (update-kept m shift τ₀ d (turns-kept m shift s c σ n d₀ τ₀ k w))

pub section-tally : SectionTally
section-tally = record {
  shared = λ shift s n t σ τ c e new u f. tallied Types s τ 4096 shift c (updated-kept 4096 shift s (section_records n) σ τ (created-kept shift s t σ new) u) f;
  indexed = λ shift s t r t' c w f.
      tallied Types s (state r.finder t') 4096 shift c
      (turns-kept 4096 shift s first w.fresh w.walks.turns r.cursor (state r.finder t') (created-kept shift s t w.fresh w.created) w.walks.led) f;
}
