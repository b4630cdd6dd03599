-- R-1: what was written, at a place of a lent buffer; and the contract of every writer.
use Rattle.std.specs.Prelude.{ℕ, ◌+◌, ◌≡◌, List, length, ltb}
use Rattle.answer.specs.Answer.{Answer, answered, refused, stop, then}
use Rattle.field_put.specs.Bytes.{put}
use Rattle.write_layout.specs.Fields.{Encoded}

-- a buffer, and the place after what was written
pub record Written : Type 0 where
  pub buffer : List ℕ
  pub next : ℕ

-- these bytes at place p of the buffer s; 19 if they pass its end
unfoldable pub lay : Encoded → List ℕ → ℕ → Answer Written
lay b s p = then b (λ bs. stop (ltb (length s) (p + length bs)) 19 (answered (record { buffer = put s p bs; next = p + length bs })))

-- the buffer after an answer: as it was, where it is a refusal
abbrev pub buffer_after : List ℕ → Answer Written → List ℕ
buffer_after s (answered w) = w.buffer
buffer_after s (refused n d) = s

abbrev pub place_after : Answer Written → Answer ℕ
place_after (answered w) = answered w.next
place_after (refused n d) = refused n d

-- The contract of a function that writes into the buffer s: w is the definition's answer, r what the function's answer says, s' the buffer
-- after it
pub record Writes (s : List ℕ) (w : Answer Written) (r : Answer ℕ) (s' : List ℕ) : Type 0 where
  pub answer : r ≡ place_after w
  pub left : s' ≡ buffer_after s w
