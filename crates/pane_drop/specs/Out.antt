-- What C gets of a dropping.
use Rattle.std.specs.Prelude.{ℕ, List}
use Rattle.stream_drop.specs.Drop.{Outcome, answer_of, drop_table_after, drop_buffer_after}
use Rattle.pane_out.specs.Handed.{handed, size_field}

-- how many bytes the new stream has; and the table and the buffer after the call
abbrev pub out_drop : List ℕ → List ℕ → Outcome → ℕ × List ℕ × List ℕ × List ℕ
out_drop t b o = ((handed 1 size_field (answer_of o)).0, (handed 1 size_field (answer_of o)).1, drop_table_after t o, drop_buffer_after b o)
