-- R-3 of document 02, the file: "the places as u32, then a trailer of 28 bytes: count u16, block shift u8 (3), a zero byte, minimum u32,
-- maximum u32, stream length u32, header size u32, and distance back from the file's end to the first place u32. The last four bytes are the
-- letters PTIX. The distance equals the file's length."
-- R-10, a second form of it: "Counts become u32 under the tag PTIY, which makes that trailer 30 bytes. [..] PTIY with a count up to 65,535 is 20, so
-- each table has one encoding." What follows goes by the form; R-3's and R-10's are two values of it.
use Rattle.std.specs.Prelude.{ℕ, zero, suc, ◌+◌, ◌-◌, ◌*◌, Bool, true, not, List, [], ◌∷◌, ◌++◌, length, get_or, ltb, eqb}
use Rattle.answer.specs.Answer.{Answer, answered, pick, stop, both}
use Rattle.field.specs.Fields.{little_at}
use Rattle.field_put.specs.Bytes.{bytes}
use Rattle.stream_places.specs.declared.trailer.Trailer.{Trailer}
use Rattle.stream_places.specs.declared.Width.{Width}
use Rattle.stream_places.specs.declared.Width.TheVariants as width

-- ---- the two forms

-- how many bytes the count has, the letters, and the least and the most places that a file of this form has
pub record FileForm : Type 0 where
  pub width : ℕ
  pub letters : List ℕ
  pub least : ℕ
  pub most : ℕ

-- R-3's: PTIX
abbrev pub narrow : FileForm
narrow = record { width = 2; letters = 0x50 ∷ 0x54 ∷ 0x49 ∷ 0x58 ∷ []; least = 0; most = 65535 }

-- R-10's: PTIY; one place more, and the distance would pass 4,294,967,295
abbrev pub wide : FileForm
wide = record { width = 4; letters = 0x50 ∷ 0x54 ∷ 0x49 ∷ 0x59 ∷ []; least = 65536; most = 1073741816 }

-- the bytes of a trailer: 28, and 30
abbrev pub trailer_size : FileForm → ℕ
trailer_size form = form.width + 26

-- which of the two the code goes by
abbrev pub file_form_in : Width → FileForm
file_form_in width.Narrow = narrow
file_form_in width.Wide = wide

-- ---- written

-- numbers of four bytes, one after the other
unfoldable pub word_bytes : List ℕ → List ℕ
word_bytes [] = []
word_bytes (x ∷ xs) = bytes 4 x ++ word_bytes xs

unfoldable pub trailer_bytes : FileForm → Trailer → List ℕ
trailer_bytes form k =
    bytes form.width k.count
    ++ (bytes 1 k.shift
    ++ (bytes 1 0
    ++ (word_bytes (k.minimum_index ∷ k.maximum_index ∷ k.stream_length ∷ k.header_size ∷ k.distance ∷ [])
    ++ form.letters)))

-- ---- read

-- n numbers of four bytes from place p on
unfoldable pub words_at : ℕ → List ℕ → ℕ → List ℕ
words_at zero f p = []
words_at (suc n) f p = little_at 4 f p ∷ words_at n f (p + 4)

unfoldable pub trailer_at : FileForm → List ℕ → ℕ → Trailer
trailer_at form f p = record {
  count = little_at form.width f p;
  shift = little_at 1 f (p + form.width);
  minimum_index = little_at 4 f (p + form.width + 2);
  maximum_index = little_at 4 f (p + form.width + 6);
  stream_length = little_at 4 f (p + form.width + 10);
  header_size = little_at 4 f (p + form.width + 14);
  distance = little_at 4 f (p + form.width + 18);
}

-- whether these bytes stand at place p
unfoldable pub spells : List ℕ → ℕ → List ℕ → Bool
spells f p [] = true
spells f p (b ∷ bs) = both (eqb (get_or f p 0) b) (spells f (p + 1) bs)

-- a trailer at place p, behind the letters, is 20 if its zero byte, its shift, its distance or its count is wrong
unfoldable pub checked : FileForm → List ℕ → ℕ → Trailer → Answer Trailer
checked form f p k =
    stop (not (eqb (little_at 1 f (p + form.width + 1)) 0)) 20
    (stop (ltb 6 k.shift) 20
    (stop (not (eqb k.distance (length f))) 20
    (stop (not (eqb (length f) (4 * k.count + trailer_size form))) 20
    (stop (ltb k.count form.least) 20
    (answered k)))))

-- 20 if the file is shorter than a trailer or does not end in the letters; nothing of it is believed before
unfoldable pub trailer_by : FileForm → List ℕ → Answer Trailer
trailer_by form f =
    stop (ltb (length f) (trailer_size form)) 20
    (stop (not (spells f (length f - 4) form.letters)) 20
    (checked form f (length f - trailer_size form) (trailer_at form f (length f - trailer_size form))))

-- R-3's loader takes the one form
abbrev pub trailer_of : List ℕ → Answer Trailer
trailer_of = trailer_by narrow

-- R-10's takes both: the last four letters say which
abbrev pub file_form_of : List ℕ → FileForm
file_form_of f = pick (spells f (length f - 4) wide.letters) wide narrow

abbrev pub trailer_of_either : List ℕ → Answer Trailer
trailer_of_either f = trailer_by (file_form_of f) f
