-- R-1 of document 02, what the writers of type records write: the records of 01's type leaves but for 0x1203 and 0x1206. These two have elements, and crates/write_list writes
-- them with their elements; here they are 17, so that nobody's list is written empty without a word.
use Rattle.std.specs.Prelude.{ℕ, true, false, ◌≡◌, List, [], ◌∷◌}
use Rattle.answer.specs.Answer.{answered, pick}
use Rattle.answer.specs.Tables.{◌is◌, among}
use Rattle.record_layout.specs.Fields.{number}
use Rattle.record_layout.specs.Layouts.{Table, type_leaves}
use Rattle.write_layout.specs.Fields.{ToWrite, bad}
use Rattle.write_layout.specs.Records.{write_record}

-- the lines of a table whose leaf is none of these
unfoldable pub without : List ℕ → Table → Table
without leaves [] = []
without leaves ((leaf is fs) ∷ lines) = pick (among leaf leaves) (without leaves lines) ((leaf is fs) ∷ without leaves lines)

-- a method list and a field list: what these records have is elements
abbrev pub element_leaves : List ℕ
element_leaves = 0x1206 ∷ 0x1203 ∷ []

unfoldable pub written_leaves : Table
written_leaves = without element_leaves type_leaves

-- so of a list 17, and of any other leaf what the whole table gives: reading back and all else that is said of every table is said of it
pub record TypesWritten : Type 0 where
  pub lists : (leaf : ℕ) (vs : List ToWrite) → among leaf element_leaves ≡ true → write_record written_leaves (number leaf ∷ vs) ≡ bad
  pub others : (leaf : ℕ) (vs : List ToWrite) → among leaf element_leaves ≡ false → write_record written_leaves (number leaf ∷ vs) ≡ write_record type_leaves (number leaf ∷ vs)
  pub same : (vs : List ToWrite) (rs : List ℕ) → write_record written_leaves vs ≡ answered rs → write_record type_leaves vs ≡ answered rs
