-- R-14's tally of a section's finder (R-6 of document 02): crates/pane/specs/Tally.antt has it of any finder, and of a stream's.
use Rattle.std.specs.Prelude.{Ok, ℕ, ◌^◌, ◌≡◌, List}
use Rattle.answer.specs.Answer.{answered}
use Rattle.field.specs.declared.index.Stream.TheVariants.{Types}
use Rattle.stream_finder.specs.Finder.{State, state}
use Rattle.stream_finder.specs.OfRecords.{UpdatedIn}
use Rattle.stream_index.specs.declared.Tour.{Tour}
use Rattle.section_item.specs.Sections.{count_of}
use Rattle.section_finder.specs.Finders.{section_records, section_create_by, SectionIndexesBy}
use Rattle.pane.specs.Tally.{AllFound, passed_up, tally}

pub record SectionTally : Type 0 where
  -- of one that any number of cursors has updated in any order
  pub shared : (shift : ℕ) (s : List ℕ) (n : ℕ) (t : List ℕ) (σ τ : State) (c : ℕ)
      → count_of s ≡ answered n
      → section_create_by shift s t ≡ answered σ
      → UpdatedIn s (section_records n) σ τ
      → AllFound Types s τ 4096 c
      → passed_up Types s τ 4096 c ≡ tally (2 ^ shift) c
  -- of one that `index_all_by` has left, however its walk ended
  pub indexed : (shift : ℕ) (s t : List ℕ) (r : Tour) (t' : List ℕ) (c : ℕ)
      → SectionIndexesBy shift s t (Ok r) t'
      → AllFound Types s (state r.finder t') 4096 c
      → passed_up Types s (state r.finder t') 4096 c ≡ tally (2 ^ shift) c
