-- What C gets of a declaration.
use Rattle.std.specs.Prelude.{ℕ, List}
use Rattle.answer.specs.Answer.{Answer}
use Rattle.declare_type.specs.Declares.{text_length, text_buffer_after}
use Rattle.pane_out.specs.Handed.{handed, size_field}

-- how many bytes the text has; and the buffer after the call
abbrev pub out_declare : List ℕ → Answer (List ℕ) → ℕ × List ℕ × List ℕ
out_declare l a = ((handed 1 size_field (text_length a)).0, (handed 1 size_field (text_length a)).1, text_buffer_after l a)
