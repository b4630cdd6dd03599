-- R-6 of document 02: "Demand 3 holds of the section with 4 for header_size, 4096 for the minimum and 4096 plus the records for the maximum." So
-- do "not indexed exactly if" and R-11. They are the streams' own theorems, of crates/stream_finder/specs/OfRecords.antt, at those three numbers.
use Rattle.std.specs.Prelude.{ℕ, ◌+◌, ◌/◌, ◌^◌, ◌≤◌, ◌<◌, ◌≡◌, List, length, ltb, eqb}
use Rattle.answer.specs.Answer.{answered}
use Rattle.field.specs.Indices.{index_in}
use Rattle.field.specs.declared.index.Stream.TheVariants.{Types}
use Rattle.stream_item.specs.declared.iter.ItemIter.{ItemIter}
use Rattle.stream_finder.specs.Finder.{State, state, holding_in, find_of}
use Rattle.stream_finder.specs.Demand.{Walked, looked, number_given}
use Rattle.stream_finder.specs.OfRecords.{UpdatedIn, ServesIn}
use Rattle.stream_index.specs.declared.Tour.{Tour}
use Rattle.section_item.specs.Sections.{first, section_start, count_of}
use Rattle.section_finder.specs.Finders.{section_records, section_create_by, SectionWholeBy}

-- the premises: a section of n records, at least one, a fresh finder with room, and a fresh iterator over the same bytes that has yielded N
-- records, the finder updated after each and by nothing else
pub record SectionPremises (shift : ℕ) (s : List ℕ) (n : ℕ) (t : List ℕ) (N : ℕ) (τ : State) (d : ℕ) : Type 0 where
  pub accepted : count_of s ≡ answered n
  pub counts : 0 < n
  pub room : 1 + N / 2 ^ shift ≤ length t
  pub fresh : State
  pub created : section_create_by shift s t ≡ answered fresh
  pub begun : section_start s ≡ answered first
  pub cursor : ItemIter
  pub walked : Walked s first fresh N cursor τ
  pub upto : d ≤ n

-- a lookup from 4096 to 4096 plus the records, at distance d
unfoldable pub SectionDemand3 : Type 0
SectionDemand3 =
    (shift : ℕ) → shift ≤ 6 → (s : List ℕ) (n : ℕ) (t : List ℕ) (N : ℕ) (τ : State) (d : ℕ)
    → SectionPremises shift s n t N τ d
    → find_of s τ (index_in Types (4096 + d)) ≡ looked Types s 4 (holding_in (section_records n) shift (1 + N / 2 ^ shift)) d

unfoldable pub SectionNotIndexed : Type 0
SectionNotIndexed =
    (shift : ℕ) → shift ≤ 6 → (s : List ℕ) (n : ℕ) (t : List ℕ) (N : ℕ) (τ : State) (d : ℕ)
    → SectionPremises shift s n t N τ d
    → eqb (number_given (find_of s τ (index_in Types (4096 + d)))) 9 ≡ ltb (N / 2 ^ shift) (d / 2 ^ shift)

-- any order of updates, from any number of cursors that started fresh on the section
unfoldable pub SectionShared : Type 0
SectionShared =
    (shift : ℕ) → shift ≤ 6 → (s : List ℕ) (n : ℕ) (t : List ℕ) (σ τ : State)
    → count_of s ≡ answered n
    → section_create_by shift s t ≡ answered σ
    → UpdatedIn s (section_records n) σ τ
    → ServesIn Types s (section_records n) τ

-- after `index_all_by`, however its walk ended, the premises are met with its turns for N
unfoldable pub SectionIndexed : Type 0
SectionIndexed =
    (shift : ℕ) → shift ≤ 6 → (s t : List ℕ) (n : ℕ) (r : Tour) (t' : List ℕ)
    → count_of s ≡ answered n → 0 < n → (w : SectionWholeBy shift s t r t')
    → (d : ℕ) → d ≤ n → SectionPremises shift s n t w.walks.turns (state r.finder t') d

pub record OfSections : Type 0 where
  pub demand3 : SectionDemand3
  pub not_indexed : SectionNotIndexed
  pub shared : SectionShared
  pub indexed : SectionIndexed
