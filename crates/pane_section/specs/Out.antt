-- How what is said of a section goes over the C boundary: the result, and the numbers behind `out`.
use Rattle.std.specs.Prelude.{ℕ, List, [], ◌∷◌}
use Rattle.answer.specs.Answer.{Answer, answered, then}
use Rattle.stream_item.specs.declared.iter.ItemIter.{ItemIter}
use Rattle.section_item.specs.Sections.{first}
use Rattle.section_finder.specs.Finders.{section_create_by}
use Rattle.write_layout.specs.Buffer.{Written, place_after, buffer_after}
use Rattle.record_list.specs.declared.ListCursor.{ListCursor}
use Rattle.pane_out.specs.Handed.{handed, size_field}
use Rattle.pane_state.specs.Walk.{Arrived, walk_of}
use Rattle.pane_row.specs.ListPlaces.{cursor_row}

abbrev pub start_fields : ItemIter → List ℕ
start_fields c = c.at ∷ c.index ∷ []

abbrev pub out_start : Answer ItemIter → ℕ × List ℕ
out_start = handed 2 start_fields

abbrev pub out_count : Answer ℕ → ℕ × List ℕ
out_count = handed 1 size_field

-- a whole walk: refused as the creation is; else from a fresh finder and a fresh cursor
unfoldable pub section_index_by : ℕ → List ℕ → List ℕ → Answer Arrived
section_index_by shift s t = then (section_create_by shift s t) (λ σ. answered (walk_of s first σ))

-- how many bytes the stream has, which starts at place 0; and the buffer after the call
abbrev pub out_stream : List ℕ → Answer Written → ℕ × List ℕ × List ℕ
out_stream b a = ((handed 1 size_field (place_after a)).0, (handed 1 size_field (place_after a)).1, buffer_after b a)

abbrev pub out_section_list : Answer ListCursor → ℕ × List ℕ
out_section_list = handed 4 cursor_row
