-- What C gets of a finder's stream: an entry's bytes and its leaf, and the places of a finder in a file.
use Rattle.std.specs.Prelude.{ℕ, List, [], ◌∷◌}
use Rattle.answer.specs.Answer.{Answer}
use Rattle.field_text.specs.Texts.{Part}
use Rattle.stream_places.specs.Places.{file_size, file_buffer_after}
use Rattle.pane_out.specs.Handed.{handed, size_field}

-- where an entry's bytes lie
abbrev pub part_fields : Part → List ℕ
part_fields a = a.place ∷ a.length ∷ []

abbrev pub out_view : Answer Part → ℕ × List ℕ
out_view = handed 2 part_fields

-- the leaf that they start with
abbrev pub leaf_field : ℕ → List ℕ
leaf_field k = k ∷ []

abbrev pub out_kind : Answer ℕ → ℕ × List ℕ
out_kind = handed 1 leaf_field

-- how many bytes a file has; and the buffer after the call
abbrev pub out_save : List ℕ → Answer (List ℕ) → ℕ × List ℕ × List ℕ
out_save o a = ((handed 1 size_field (file_size a)).0, (handed 1 size_field (file_size a)).1, file_buffer_after o a)
