-- How a parsed record, a list and an element of it go over the C boundary: the result, and the numbers behind `out`.
use Rattle.std.specs.Prelude.{ℕ, List, ◌∷◌}
use Rattle.answer.specs.Answer.{Answer, pick}
use Rattle.field.specs.declared.index.Stream.{Stream}
use Rattle.field.specs.declared.index.Stream.TheVariants as stream
use Rattle.record_layout.specs.Fields.{Shown}
use Rattle.record_list.specs.Lists.{Step}
use Rattle.record_list.specs.declared.ListCursor.{ListCursor}
use Rattle.pane_out.specs.Handed.{handed, is_set, mark}
use Rattle.pane_row.specs.TypePlaces.{type_row}
use Rattle.pane_row.specs.IdPlaces.{id_row}
use Rattle.pane_row.specs.ListPlaces.{cursor_row}
use Rattle.pane_row.specs.ElementPlaces.{element_row}

-- ---- what C gives

-- the reader that takes a record: the id side's where `ids` is set
abbrev pub stream_at : ℕ → Stream
stream_at ids = pick (is_set ids) stream.Ids stream.Types

abbrev pub list_cursor_at : ℕ → ℕ → ℕ → ℕ → ListCursor
list_cursor_at leaf at left padded = record { leaf = leaf; at = at; left = left; padded = is_set padded }

-- ---- what C gets

abbrev pub out_type : Answer (List Shown) → ℕ × List ℕ
out_type = handed 13 type_row

abbrev pub out_id : Answer (List Shown) → ℕ × List ℕ
out_id = handed 10 id_row

abbrev pub out_list : Answer ListCursor → ℕ × List ℕ
out_list = handed 4 cursor_row

-- the cursor behind the element, without the leaf, which stays; and the element
abbrev pub step_fields : Step → List ℕ
step_fields x = x.next.at ∷ x.next.left ∷ mark x.next.padded ∷ element_row x.element

abbrev pub out_step : Answer Step → ℕ × List ℕ
out_step = handed 13 step_fields
