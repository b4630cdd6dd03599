-- How an entry's data go over the C boundary: the result, and the numbers behind `out`.
use Rattle.std.specs.Prelude.{ℕ, ◌/◌, ◌%◌, ◌^◌, List, ◌∷◌, ◌++◌, replicate}
use Rattle.answer.specs.Answer.{Answer}
use Rattle.field.specs.declared.index.ItemIndex.TheVariants as index
use Rattle.stream_item.specs.declared.Entry.{Entry}
use Rattle.stream_item.specs.declared.Entry.TheVariants as entry
use Rattle.record_parse.specs.Record.{Parsed, primitive, type, id}
use Rattle.pane_out.specs.Handed.{handed}
use Rattle.pane_row.specs.TypePlaces.{type_row}
use Rattle.pane_row.specs.IdPlaces.{id_row}

-- a record of the section; an object file numbers types and ids in one run, so that its tag says nothing
abbrev pub record_at : ℕ → ℕ → ℕ → Entry
record_at i p n = entry.Record (record { index = index.Types (record { 0 = i }); place = p; length = n })

-- 0 and the row of a type record; 1 and that of an id record, three zeros behind it; 2 and the two numbers of a primitive, as pdb_primitive has them: the
-- low byte of the index, which names the kind, and bits 8 to 11, which name the indirection
abbrev pub parsed_fields : ℕ → Parsed → List ℕ
parsed_fields i (type vs) = 0 ∷ type_row vs
parsed_fields i (id vs) = 1 ∷ (id_row vs ++ replicate 3 0)
parsed_fields i (primitive p) = 2 ∷ (i % 2 ^ 8) ∷ (i / 2 ^ 8 % 2 ^ 4) ∷ replicate 11 0

abbrev pub out_read : ℕ → Answer Parsed → ℕ × List ℕ
out_read i = handed 14 (parsed_fields i)
