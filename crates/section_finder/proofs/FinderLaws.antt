-- A section's creation by what its count is. Assumes nothing.
use Prim.Native.Nat.{ℕ, ◌+◌, ◌≤◌}
use mathlib.Core.Path.{◌≡◌, sym, ◌∙◌}
use mathlib.Core.List.{List}
use Rattle.answer.specs.Answer.{Answer, answered, then}
use Rattle.stream_finder.specs.Finder.{State, begun_in}
use Rattle.section_item.specs.Sections.{count_of}
use Rattle.section_item.proofs.SectionLaws.{counted}
use Rattle.section_finder.specs.Finders.{section_records, section_create_by}

pub create-is : (shift : ℕ) (s t : List ℕ) (a : Answer ℕ) → count_of s ≡ a → section_create_by shift s t ≡ then a (λ n. begun_in shift t (section_records n))
unfolding section_create_by
create-is shift s t a e = rw e

-- a counted section's creation is that of its records
pub created-in : (shift : ℕ) (s t : List ℕ) (n : ℕ) (σ : State) → count_of s ≡ answered n → section_create_by shift s t ≡ answered σ → begun_in shift t (section_records n) ≡ answered σ
created-in shift s t n σ e c = sym (create-is shift s t (answered n) e) ∙ c

-- 4096 plus the records is a u32
pub maximum-fits : (s : List ℕ) (n : ℕ) → count_of s ≡ answered n → 4096 + n ≤ 4294967295
maximum-fits s n e = (counted s n e).small
