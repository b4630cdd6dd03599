-- A whole section indexed, by its contract in section_finder, ends where `section_index_by` says. Assumes nothing.
use Rattle.std.specs.Prelude.{Ok, Err}
use Rattle.stream_index.specs.declared.Tour.{Tour}
use Prim.Native.Nat.{ℕ}
use mathlib.Core.Path.{◌≡◌, ap, ◌∙◌}
use mathlib.Core.List.{List}
use Rattle.answer.specs.Answer.{Answer, answered, then}
use Rattle.answer.specs.declared.Refusal.{Refusal}
use Rattle.stream_finder.specs.Finder.{State}
use Rattle.section_item.specs.Sections.{first}
use Rattle.section_finder.specs.Finders.{SectionIndexesBy}
use Rattle.pane_state.specs.Walk.{Arrived, walk_of, said_index}
use Rattle.pane_state.proofs.WalkLaws.{walk_is}
use Rattle.pane_section.specs.Out.{section_index_by}

pub index_done : (shift : ℕ) (s t : List ℕ) (r : Tour) (t' : List ℕ) → SectionIndexesBy shift s t (Ok r) t' → section_index_by shift s t ≡ said_index (Ok r) t'
unfolding section_index_by
index_done shift s t r t' w =
    ap (λ (a : Answer State). then a (λ σ. answered (walk_of s first σ))) w.created
    ∙ ap (λ (a : Arrived). answered a) (walk_is s first w.fresh r t' w.walks)

pub index_refused : (shift : ℕ) (s t : List ℕ) (e : Refusal) (t' : List ℕ) → SectionIndexesBy shift s t (Err e) t' → section_index_by shift s t ≡ said_index (Err e) t'
unfolding section_index_by
index_refused shift s t e t' w = ap (λ (a : Answer State). then a (λ σ. answered (walk_of s first σ))) w.0
