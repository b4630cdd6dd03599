-- R-6 of document 02: the finder over a section. "Refusals: 16 .., 1 below four bytes, 25 signature is not 4, then the iterator's own, then 13",
-- and 26 right before 13, as R-7 says.
use Rattle.std.specs.Prelude.{Result, Ok, Err, ℕ, ◌+◌, ◌≡◌, List}
use Rattle.answer.specs.declared.Refusal.{Refusal}
use Rattle.answer.specs.Answer.{Answer, answered, then}
use Rattle.answer.specs.Refusals.{no}
use Rattle.stream_finder.specs.Finder.{State, begun_in}
use Rattle.stream_finder.specs.declared.Records.{Records}
use Rattle.stream_index.specs.Walk.{Walks}
use Rattle.stream_index.specs.declared.Tour.{Tour}
use Rattle.section_item.specs.Sections.{first, count_of}

-- "4 for header_size, 4096 for the minimum and 4096 plus the records for the maximum"
abbrev pub section_records : ℕ → Records
section_records n = record { start = 4; minimum = 4096; maximum = 4096 + n }

-- 16, 1, 25 and the iterator's own, while the records are counted; then a fresh finder of them: 26, 13
unfoldable pub section_create_by : ℕ → List ℕ → List ℕ → Answer State
section_create_by shift s t = then (count_of s) (λ n. begun_in shift t (section_records n))

-- without a shift it is 3
abbrev pub section_create_of : List ℕ → List ℕ → Answer State
section_create_of = section_create_by 3

-- a walk from a fresh finder of this shift and a fresh cursor
pub record SectionWholeBy (shift : ℕ) (s t : List ℕ) (r : Tour) (t' : List ℕ) : Type 0 where
  pub fresh : State
  pub created : section_create_by shift s t ≡ answered fresh
  pub walks : Walks s first fresh r t'

-- refused as the creation is; else a whole walk
abbrev pub SectionIndexesBy : ℕ → List ℕ → List ℕ → Result Tour Refusal → List ℕ → Type 0
SectionIndexesBy shift s t (Ok r) t' = SectionWholeBy shift s t r t'
SectionIndexesBy shift s t (Err e) t' = (section_create_by shift s t ≡ no e) × (t' ≡ t)

abbrev pub SectionIndexes : List ℕ → List ℕ → Result Tour Refusal → List ℕ → Type 0
SectionIndexes = SectionIndexesBy 3
