-- R-3 of document 02: keeping the places of a finder, and loading them again. "Loading checks that place 0 is header_size and that each later
-- place is one block of links after its predecessor, then yields a finder. [..] No places is 20 unless the stream counts no records. Refusals:
-- 20 trailer or length wrong, 21 made for another stream, 22 a place is not on the chain, 13 when count passes 65,535 or the lent table is
-- short; the order is the stream's own, 20, 21, 13, 22. The writer gives the stream's own, 21 for a finder with other bounds, 13, then 19."
-- With R-7: a block is 2^shift links, and 26 comes right before the writer's 13.
-- R-10: "A table that fits the old form is still written in the old form [..]. The new loader takes both; an old loader meets PTIY with 20 and shows
-- nothing. Refusals: 13 now stands for more than 65,535 only in the old writer; the new writer gives it when the distance passes 4,294,967,295."
use Rattle.std.specs.Prelude.{Result, ℕ, ◌+◌, ◌*◌, ◌^◌, ◌≡◌, Bool, true, false, not, List, [], ◌∷◌, ◌++◌, length, take, ltb, eqb}
use Rattle.answer.specs.declared.Refusal.{Refusal}
use Rattle.answer.specs.Answer.{Answer, answered, refused, pick, stop, both, then}
use Rattle.answer.specs.Refusals.{itself, said}
use Rattle.field_put.specs.Bytes.{put}
use Rattle.stream_header.specs.Header.{header_of}
use Rattle.stream_header.specs.declared.Header.{Header}
use Rattle.stream_item.specs.Links.{Walk, reached, broke, chain}
use Rattle.stream_finder.specs.Finder.{State, state, holding}
use Rattle.stream_places.specs.File.{FileForm, narrow, wide, trailer_size, word_bytes, trailer_bytes, words_at, trailer_by, file_form_of}
use Rattle.stream_places.specs.declared.trailer.Trailer.{Trailer}

-- ---- places on the chain

-- whether a walk led to place q
abbrev pub ends : Walk → ℕ → Bool
ends (reached r) q = eqb r q
ends (broke j) q = false

-- whether each of the places is b links after the one before it, p being the one before the first
unfoldable pub follows : List ℕ → ℕ → ℕ → List ℕ → Bool
follows s b p [] = true
follows s b p (q ∷ qs) = both (ends (chain s p b) q) (follows s b q qs)

-- and the first of them is the start
unfoldable pub on_chain : List ℕ → ℕ → ℕ → List ℕ → Bool
on_chain s b start [] = true
on_chain s b start (q ∷ qs) = both (eqb q start) (follows s b q qs)

-- the contract of a function that is lent the table t and stores the places ws first in it if the test b passes: r is the test, t' the table after it
pub record Takes (t : List ℕ) (b : Bool) (ws : List ℕ) (r : Bool) (t' : List ℕ) : Type 0 where
  pub test : r ≡ b
  pub table : t' ≡ pick b (put t 0 ws) t

-- ---- loading

-- of a stream s with the header h and a file f with the trailer k: 20 for no places though there are records; 21; 13; 22; else the finder, and
-- the table with these places first, all else of it as before
unfoldable pub load_for : List ℕ → List ℕ → List ℕ → Header → Trailer → Answer State
load_for s f t h k =
    stop (both (eqb k.count 0) (ltb h.minimum_index h.maximum_index)) 20
    (stop (not (eqb k.minimum_index h.minimum_index)) 21
    (stop (not (eqb k.maximum_index h.maximum_index)) 21
    (stop (not (eqb k.stream_length (length s))) 21
    (stop (not (eqb k.header_size h.header_size)) 21
    (stop (ltb (length t) k.count) 13
    (stop (not (on_chain s (2 ^ k.shift) h.header_size (words_at k.count f 0))) 22
    (answered (state (holding h k.shift k.count) (put t 0 (words_at k.count f 0))))))))))

-- the stream's own, then the file's, then those of both
unfoldable pub load_by : FileForm → List ℕ → List ℕ → List ℕ → Answer State
load_by form s f t = then (header_of s) (λ h. then (trailer_by form f) (load_for s f t h))

abbrev pub load_of : List ℕ → List ℕ → List ℕ → Answer State
load_of = load_by narrow

abbrev pub load_wide_of : List ℕ → List ℕ → List ℕ → Answer State
load_wide_of s f t = load_by (file_form_of f) s f t

-- ---- saving

-- the trailer for n places of shift, of a stream of so many bytes with the header h
abbrev pub trailer_for : FileForm → Header → ℕ → ℕ → ℕ → Trailer
trailer_for form h bytes shift n = record {
  count = n;
  shift = shift;
  minimum_index = h.minimum_index;
  maximum_index = h.maximum_index;
  stream_length = bytes;
  header_size = h.header_size;
  distance = 4 * n + trailer_size form;
}

-- the file of a finder's places
unfoldable pub file_of : FileForm → Header → ℕ → State → List ℕ
file_of form h bytes σ =
    word_bytes (take σ.finder.held σ.table) ++ trailer_bytes form (trailer_for form h bytes σ.finder.shift σ.finder.held)

-- of a stream of so many bytes with the header h, into a buffer of `room` bytes: 21 (the bounds), 26, 13 (the claim, or more places than the form
-- has), 19
unfoldable pub save_for : FileForm → ℕ → State → ℕ → Header → Answer (List ℕ)
save_for form bytes σ room h =
    stop (not (eqb σ.finder.minimum_index h.minimum_index)) 21
    (stop (not (eqb σ.finder.maximum_index h.maximum_index)) 21
    (stop (ltb 6 σ.finder.shift) 26
    (stop (ltb (length σ.table) σ.finder.held) 13
    (stop (ltb form.most σ.finder.held) 13
    (stop (ltb room (4 * σ.finder.held + trailer_size form)) 19
    (answered (file_of form h bytes σ)))))))

unfoldable pub save_by : FileForm → List ℕ → State → ℕ → Answer (List ℕ)
save_by form s σ room = then (header_of s) (save_for form (length s) σ room)

abbrev pub save_of : List ℕ → State → ℕ → Answer (List ℕ)
save_of = save_by narrow

-- "a table that fits the old form is still written in the old form"
abbrev pub form_for : ℕ → FileForm
form_for n = pick (ltb 65535 n) wide narrow

abbrev pub save_wide_of : List ℕ → State → ℕ → Answer (List ℕ)
save_wide_of s σ room = save_by (form_for σ.finder.held) s σ room

-- ---- what the answers say

-- how many bytes a file takes
abbrev pub file_size : Answer (List ℕ) → Answer ℕ
file_size (answered bs) = answered (length bs)
file_size (refused n d) = refused n d

-- the buffer o after it: the file in its first bytes, all else as before
abbrev pub file_buffer_after : List ℕ → Answer (List ℕ) → List ℕ
file_buffer_after o (answered bs) = put o 0 bs
file_buffer_after o (refused n d) = o

-- the contract of a function that is lent the buffer o: a is the definition's answer, r the function's, o' the buffer after it
pub record Saves (o : List ℕ) (a : Answer (List ℕ)) (r : Result ℕ Refusal) (o' : List ℕ) : Type 0 where
  pub answer : said itself r ≡ file_size a
  pub buffer : o' ≡ file_buffer_after o a
