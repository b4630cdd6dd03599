-- "Given exactly when" for the numbers of document 02's R-3 and R-10: 19 to 22, and the writers' 26 and 13, over the definitions that the contracts of
-- `load`, `save`, `load_wide` and `save_wide` cite. Said of any form of a file: R-3's is `narrow`; of R-10's loader it is `form_of f`, which the file's last
-- letters say, and of its writer `form_for`, which the number of places says. `Given n d a P` (Given.antt): a is refused by n exactly when P, and then with
-- the details d. The fields of a file stand here by their places from its end, where both forms have the same but for the count.
use Rattle.std.specs.Prelude.{ℕ, suc, ◌+◌, ◌-◌, ◌*◌, ◌^◌, ◌≤◌, ◌<◌, ◌≡◌, ◌⊎◌, List, [], ◌∷◌, length, get_or}
use Rattle.answer.specs.Answer.{answered}
use Rattle.field.specs.Fields.{little_at}
use Rattle.stream_header.specs.Header.{header_of}
use Rattle.stream_header.specs.declared.Header.{Header}
use Rattle.stream_item.specs.Links.{chain, reached}
use Rattle.field_put.specs.Bytes.{put}
use Rattle.stream_finder.specs.Finder.{State, state, holding}
use Rattle.stream_places.specs.File.{FileForm, trailer_size, words_at, trailer_by}
use Rattle.stream_places.specs.Places.{file_of, load_by, save_by}
use Rattle.claim_promises.specs.ByTable.{Refuses}
use Rattle.claim_promises.specs.Given.{Given, RefusedAs}

-- ---- words of the conditions

-- how many places the file says it has
abbrev pub count_in : FileForm → List ℕ → ℕ
count_in form f = little_at form.width f (length f - trailer_size form)

-- a file that is right by itself: 28 or 30 bytes at least, the letters at its end, the zero byte, a shift of at most 6, twice its own length, and no
-- fewer places than its form is for
pub record Right (form : FileForm) (f : List ℕ) : Type 0 where
  pub long : trailer_size form ≤ length f
  pub spelt : (i : ℕ) → i < length form.letters → get_or f (length f - 4 + i) 0 ≡ get_or form.letters i 0
  pub zero_byte : little_at 1 f (length f - 25) ≡ 0
  pub shift : little_at 1 f (length f - 26) ≤ 6
  pub distance : little_at 4 f (length f - 8) ≡ length f
  pub whole : length f ≡ 4 * count_in form f + trailer_size form
  pub many : form.least ≤ count_in form f

-- and for a stream with the header h: it has a place if the stream counts a record
pub record RightFor (form : FileForm) (f : List ℕ) (h : Header) : Type 0 where
  pub right : Right form f
  pub some : h.minimum_index < h.maximum_index → 0 < count_in form f

-- it was made for the stream s with the header h
pub record MadeFor (s f : List ℕ) (h : Header) : Type 0 where
  pub minimum : little_at 4 f (length f - 24) ≡ h.minimum_index
  pub maximum : little_at 4 f (length f - 20) ≡ h.maximum_index
  pub bytes_are : little_at 4 f (length f - 16) ≡ length s
  pub start : little_at 4 f (length f - 12) ≡ h.header_size

-- place 0 is header_size, and each later place is one block of links after its predecessor
pub record Onward (form : FileForm) (s f : List ℕ) (h : Header) : Type 0 where
  pub first : 0 < count_in form f → little_at 4 f 0 ≡ h.header_size
  pub later : (k : ℕ) → suc k < count_in form f → chain s (little_at 4 f (4 * k)) (2 ^ little_at 1 f (length f - 26)) ≡ reached (little_at 4 f (4 * suc k))

-- a finder has the stream's bounds
pub record Bounded (σ : State) (h : Header) : Type 0 where
  pub minimum : σ.finder.minimum_index ≡ h.minimum_index
  pub maximum : σ.finder.maximum_index ≡ h.maximum_index

-- ---- when
pub record PlacesWhen (form : FileForm) : Type 0 where
  -- "the order is the stream's own, 20, 21, 13, 22": by the header's numbers both are refused exactly as the header is
  pub loads_own : (s f t : List ℕ) → RefusedAs (16 ∷ 1 ∷ 2 ∷ 3 ∷ 4 ∷ 5 ∷ []) (load_by form s f t) (header_of s)
  pub saves_own : (s : List ℕ) (σ : State) (room : ℕ) → RefusedAs (16 ∷ 1 ∷ 2 ∷ 3 ∷ 4 ∷ 5 ∷ []) (save_by form s σ room) (header_of s)
  -- 20, file wrong: "trailer or length wrong"; "no places is 20 unless the stream counts no records"; R-10: "PTIY with a count up to 65,535 is 20"
  pub trailers_20 : (f : List ℕ) → Given 20 [] (trailer_by form f) (Right form f → ⊥)
  pub loads_20 : (s f t : List ℕ) (h : Header) → header_of s ≡ answered h → Given 20 [] (load_by form s f t) (RightFor form f h → ⊥)
  -- 21, another stream: "made for another stream"; "for a finder with other bounds"
  pub loads_21 : (s f t : List ℕ) (h : Header) → header_of s ≡ answered h → Given 21 [] (load_by form s f t) (RightFor form f h × (MadeFor s f h → ⊥))
  pub saves_21 : (s : List ℕ) (σ : State) (room : ℕ) (h : Header) → header_of s ≡ answered h → Given 21 [] (save_by form s σ room) (Bounded σ h → ⊥)
  -- 13, table full: "when count passes 65,535 or the lent table is short"; R-10: "only in the old writer; the new writer gives it when the distance passes
  -- 4,294,967,295"
  pub loads_13 : (s f t : List ℕ) (h : Header) → header_of s ≡ answered h → Given 13 [] (load_by form s f t) (RightFor form f h × MadeFor s f h × (length t < count_in form f))
  pub saves_13 : (s : List ℕ) (σ : State) (room : ℕ) (h : Header) → header_of s ≡ answered h
      → Given 13 [] (save_by form s σ room) (Bounded σ h × (σ.finder.shift ≤ 6) × ((length σ.table < σ.finder.held) ⊎ (form.most < σ.finder.held)))
  -- 22, off the chain: "a place is not on the chain"
  pub loads_22 : (s f t : List ℕ) (h : Header) → header_of s ≡ answered h
      → Given 22 [] (load_by form s f t) (RightFor form f h × MadeFor s f h × (count_in form f ≤ length t) × (Onward form s f h → ⊥))
  -- 26, shift: "right before the first 13 at .. R-3's writer"
  pub saves_26 : (s : List ℕ) (σ : State) (room : ℕ) (h : Header) → header_of s ≡ answered h → Given 26 [] (save_by form s σ room) (Bounded σ h × (6 < σ.finder.shift))
  -- 19, no room: "buffer too small"
  pub saves_19 : (s : List ℕ) (σ : State) (room : ℕ) (h : Header) → header_of s ≡ answered h
      → Given 19 [] (save_by form s σ room)
      (Bounded σ h × (σ.finder.shift ≤ 6) × (σ.finder.held ≤ length σ.table) × (σ.finder.held ≤ form.most) × (room < 4 * σ.finder.held + trailer_size form))
  -- ---- and nothing else: where the header is accepted, there is an answer or one of these four, so that each outcome is fixed by the lines above

  pub loads_else : (s f t : List ℕ) (h : Header) → header_of s ≡ answered h → Refuses (20 ∷ 21 ∷ 13 ∷ 22 ∷ []) (load_by form s f t)
  pub saves_else : (s : List ℕ) (σ : State) (room : ℕ) (h : Header) → header_of s ≡ answered h → Refuses (21 ∷ 26 ∷ 13 ∷ 19 ∷ []) (save_by form s σ room)
  -- the answers: a finder of the stream with the file's shift, and its places first in the table; the finder's file
  pub loads : (s f t : List ℕ) (h : Header) → header_of s ≡ answered h → RightFor form f h → MadeFor s f h → count_in form f ≤ length t → Onward form s f h
      → load_by form s f t ≡ answered (state (holding h (little_at 1 f (length f - 26)) (count_in form f)) (put t 0 (words_at (count_in form f) f 0)))
  pub saves : (s : List ℕ) (σ : State) (room : ℕ) (h : Header) → header_of s ≡ answered h → Bounded σ h → σ.finder.shift ≤ 6 → σ.finder.held ≤ length σ.table
      → σ.finder.held ≤ form.most → 4 * σ.finder.held + trailer_size form ≤ room → save_by form s σ room ≡ answered (file_of form h (length s) σ)
