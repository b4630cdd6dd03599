-- R-5 of document 02: what is answered, and what is in the buffer then.
use Rattle.std.specs.Prelude.{Result, ℕ, ◌≡◌, List, ◌++◌, length, drop, ltb}
use Rattle.answer.specs.declared.Refusal.{Refusal}
use Rattle.answer.specs.Answer.{Answer, answered, refused, stop}
use Rattle.answer.specs.Refusals.{no, itself, said}
use Rattle.stream_header.specs.Header.{longest}
use Rattle.stream_finder.specs.Finder.{State}
use Rattle.declare_type.specs.Walk.{Spelled, printed, stopped, declaration_of}

-- In a room of bytes: the text of the definition with no limit on room, or its first refusal; "19 exactly if the bytes that the walk has fixed
-- pass the room before another is met"
unfoldable pub text_in : ℕ → Spelled → Answer (List ℕ)
text_in room (printed l r) = stop (ltb room (length (l ++ r))) 19 (answered (l ++ r))
text_in room (stopped fixed e) = stop (ltb room fixed) 19 (no e)

-- 16 first of all
unfoldable pub declare_of : List ℕ → State → ℕ → ℕ → Answer (List ℕ)
declare_of s σ i room = stop (ltb longest (length s)) 16 (text_in room (declaration_of s σ i))

-- what the answer says: how many bytes

abbrev pub text_length : Answer (List ℕ) → Answer ℕ
text_length (answered text) = answered (length text)
text_length (refused n d) = refused n d

-- the text over the first bytes of the buffer l; unchanged at a refusal
abbrev pub text_buffer_after : List ℕ → Answer (List ℕ) → List ℕ
text_buffer_after l (answered text) = text ++ drop (length text) l
text_buffer_after l (refused n d) = l

-- the contract: a is the definition's answer, l the buffer, r what the function answers, l' the buffer after it
pub record Declares (a : Answer (List ℕ)) (l : List ℕ) (r : Result ℕ Refusal) (l' : List ℕ) : Type 0 where
  pub answer : (said itself) r ≡ text_length a
  pub buffer : l' ≡ text_buffer_after l a
