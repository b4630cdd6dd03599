-- R-13 of document 02: "Given a stream and a list of root indices, write a stream with exactly the records reached from the roots through type
-- references". What is answered, what the lent table holds after it, and what the lent buffer. Which records are reached, and the stream made of
-- them, are definitions of stream_prune.
use Rattle.std.specs.Prelude.{Result, Option, None, Some, ℕ, suc, ◌+◌, Bool, true, false, ◌≡◌, List, [], ◌∷◌, length, get_or, leb, ltb, eqb}
use Rattle.answer.specs.declared.Refusal.{Refusal}
use Rattle.answer.specs.Answer.{Answer, answered, refused, pick, both}
use Rattle.answer.specs.Refusals.{itself, said}
use Rattle.field.specs.declared.index.Stream.TheVariants as stream
use Rattle.field_put.specs.Bytes.{put}
use Rattle.stream_header.specs.Header.{header_of}
use Rattle.stream_header.specs.declared.Header.{Header}
use Rattle.stream_item.specs.Iterator.{iter_of}
use Rattle.record_reference.specs.References.{Ref, refs_of}
use Rattle.stream_fit.specs.Fit.{Verdict, fit, unfit, fit_of}
use Rattle.stream_prune.specs.Links.{payloads_from}
use Rattle.stream_prune.specs.Pruned.{numbers, new_index, or_nothing, new_stream}
use Rattle.stream_prune.specs.Dropped.{marks_of}

-- Refused with everything as it was; refused by a number once the table holds old to new; or written: old to new, and the stream
pub data Outcome : Type 0 where
  stays : ℕ → List ℕ → Outcome
  numbers_only : ℕ → List ℕ → Outcome
  written : List ℕ → List ℕ → Outcome

abbrev pub unless : {A : Type 0} → Answer A → (A → Outcome) → Outcome
unless (answered a) f = f a
unless (refused n d) f = stays n d

-- The roots: 8 with the first that is at or above the maximum
unfoldable pub first_above : ℕ → List ℕ → Option ℕ
first_above maximum [] = None
first_above maximum (x ∷ xs) = pick (leb maximum x) (Some x) (first_above maximum xs)

abbrev pub unless_above : Option ℕ → Outcome → Outcome
unless_above None o = o
unless_above (Some x) o = stays 8 (x ∷ [])

-- 30: an optional reference of a kept record would become 0xffff
unfoldable pub one_reads_as_none : ℕ → List ℕ → List Ref → Bool
one_reads_as_none minimum t [] = false
one_reads_as_none minimum t (r ∷ rs) = pick (both r.optional (eqb (new_index minimum t r.index) 0xffff)) true (one_reads_as_none minimum t rs)

unfoldable pub some_read_as_none : ℕ → List ℕ → ℕ → List (List ℕ) → Bool
some_read_as_none minimum t i [] = false
some_read_as_none minimum t i (p ∷ ps) = pick (both (eqb (get_or t i 0) 1) (one_reads_as_none minimum t (or_nothing (refs_of p)))) true (some_read_as_none minimum t (i + 1) ps)

-- 30, then 19, of these new numbers and this stream
abbrev pub settled : List ℕ → Bool → List ℕ → ℕ → Outcome
settled entries reads new room = pick reads (numbers_only 30 entries) (pick (ltb room (length new)) (numbers_only 19 entries) (written entries new))

-- of a fit stream with this header and these payloads: 8, 13, 30, 19
unfoldable pub dropped_of : List ℕ → Header → List (List ℕ) → List ℕ → ℕ → ℕ → Outcome
dropped_of s h ps roots places room =
    unless_above (first_above h.maximum_index roots)
    (pick (ltb places (length ps)) (stays 13 [])
    (settled (numbers h.minimum_index (marks_of h.minimum_index ps roots))
    (some_read_as_none h.minimum_index (marks_of h.minimum_index ps roots) 0 ps)
    (new_stream s h (marks_of h.minimum_index ps roots) ps) room))

-- 29: R-9 says no
abbrev pub unless_unfit : Verdict → Outcome → Outcome
unless_unfit fit o = o
unless_unfit (unfit i rule) o = stays 29 []

-- of a table with so many places and a buffer with so much room: the header's refusals, 29, and those above
unfoldable pub drop_of : List ℕ → List ℕ → ℕ → ℕ → Outcome
drop_of s roots places room =
    unless (header_of s) (λ h.
    unless (iter_of stream.Types s) (λ c.
    unless (fit_of s) (λ v.
    unless_unfit v (dropped_of s h (payloads_from (suc (length s)) s c) roots places room))))

-- What the caller sees -------------------------------------------------------------------------------------------------------------------

-- the answer is the new stream's length
abbrev pub answer_of : Outcome → Answer ℕ
answer_of (stays n d) = refused n d
answer_of (numbers_only n entries) = refused n []
answer_of (written entries new) = answered (length new)

abbrev pub drop_table_after : List ℕ → Outcome → List ℕ
drop_table_after t (stays n d) = t
drop_table_after t (numbers_only n entries) = put t 0 entries
drop_table_after t (written entries new) = put t 0 entries

abbrev pub drop_buffer_after : List ℕ → Outcome → List ℕ
drop_buffer_after b (stays n d) = b
drop_buffer_after b (numbers_only n entries) = b
drop_buffer_after b (written entries new) = put b 0 new

-- the contract: the answer, the table after the call, and the buffer after it
pub record Drops (t b : List ℕ) (o : Outcome) (r : Result ℕ Refusal) (t' b' : List ℕ) : Type 0 where
  pub says : said itself r ≡ answer_of o
  pub table : t' ≡ drop_table_after t o
  pub buffer : b' ≡ drop_buffer_after b o
