-- Document 01, "Header": the record count is maximum minus minimum; 16 and the header's refusals come first.
use Rattle.std.specs.Prelude.{ℕ, ◌-◌, List, Bool, eqb}
use Rattle.answer.specs.Answer.{Answer, answered, then}
use Rattle.stream_header.specs.Header.{header_of}

unfoldable pub len_of : List ℕ → Answer ℕ
len_of s = then (header_of s) (λ h. answered (h.maximum_index - h.minimum_index))

unfoldable pub is_empty_of : List ℕ → Answer Bool
is_empty_of s = then (len_of s) (λ n. answered (eqb n 0))
