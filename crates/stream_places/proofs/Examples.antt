-- Stream E and its places, saved and loaded: the premises of the promises are met, at the shift 3 and at 0, and each refusal is given.
use Prim.Native.Nat.{ℕ, zero, suc}
use mathlib.Core.Path.{◌≡◌, refl}
use mathlib.Core.List.{List, [], ◌∷◌, ◌++◌}
use lib.ListN.{replicate}
use native.Mathlib.Omega.{arith}
use Rattle.answer.specs.Answer.{answered, refused}
use Rattle.field.specs.Fields.{little_at}
use Rattle.field_put.specs.Bytes.{bytes, put}
use Rattle.stream_header.specs.Header.{header_of}
use Rattle.stream_header.specs.Examples.{stream_e}
use Rattle.stream_item.specs.Links.{link_at, chain}
use Rattle.stream_finder.specs.Finder.{state}
use Rattle.stream_finder.specs.Places.{Placed}
use Rattle.stream_finder.proofs.Examples.{finder_by, finder_to}
use Rattle.stream_places.specs.File.{wide, word_bytes, trailer_bytes, words_at, trailer_at, spells, checked, trailer_by}
use Rattle.stream_places.specs.Places.{follows, on_chain, load_for, load_by, load_of, load_wide_of, file_of, save_for, save_by, save_of, save_wide_of}

abbrev word : ℕ → ℕ → List ℕ
word low high = low ∷ high ∷ 0 ∷ 0 ∷ []

-- the 28 bytes for so many places of this shift, the distance as its lowest byte
abbrev tail_e : ℕ → ℕ → ℕ → List ℕ
tail_e count shift distance =
    (count ∷ 0 ∷ shift ∷ 0 ∷ [])
    ++ (word 0x00 0x10 ++ (word 0x02 0x10 ++ (word 78 0 ++ (word 56 0 ++ (word distance 0 ++ (0x50 ∷ 0x54 ∷ 0x49 ∷ 0x58 ∷ []))))))

-- one place at the shift 3; a place for each record, and the one behind the last, at 0
abbrev file3 : List ℕ
file3 = word 56 0 ++ tail_e 1 3 32

abbrev file0 : List ℕ
file0 = word 56 0 ++ (word 66 0 ++ (word 78 0 ++ tail_e 3 0 40))

pub saved3 : save_of stream_e (state (finder_to 4098 1) (56 ∷ [])) 32 ≡ answered file3
unfolding save_by save_for file_of word_bytes trailer_bytes bytes header_of little_at
saved3 = refl

pub saved0 : save_of stream_e (state (finder_by 0 4098 3) (56 ∷ 66 ∷ 78 ∷ 7 ∷ [])) 40 ≡ answered file0
unfolding save_by save_for file_of word_bytes trailer_bytes bytes header_of little_at
saved0 = refl

pub loaded3 : load_of stream_e file3 (1 ∷ 2 ∷ []) ≡ answered (state (finder_to 4098 1) (56 ∷ 2 ∷ []))
unfolding load_by load_for trailer_by checked trailer_at spells words_at on_chain follows chain link_at put header_of little_at
loaded3 = refl

pub loaded0 : load_of stream_e file0 (1 ∷ 2 ∷ 3 ∷ 4 ∷ []) ≡ answered (state (finder_by 0 4098 3) (56 ∷ 66 ∷ 78 ∷ 4 ∷ []))
unfolding load_by load_for trailer_by checked trailer_at spells words_at on_chain follows chain link_at put header_of little_at
loaded0 = refl

-- a place one link on is 22, where the table has room, else 13
pub off-the-chain : load_of stream_e (word 66 0 ++ tail_e 1 3 32) (1 ∷ []) ≡ refused 22 []
unfolding load_by load_for trailer_by checked trailer_at spells words_at on_chain follows chain link_at put header_of little_at
off-the-chain = refl

pub short-table : load_of stream_e (word 66 0 ++ tail_e 1 3 32) [] ≡ refused 13 []
unfolding load_by load_for trailer_by checked trailer_at spells words_at header_of little_at
short-table = refl

-- no places, though E counts records
pub no-places : load_of stream_e (tail_e 0 3 28) [] ≡ refused 20 []
unfolding load_by load_for trailer_by checked trailer_at spells header_of little_at
no-places = refl

-- the empty stream has none: a file of its trailer alone
pub nothing : load_of [] ((0 ∷ 0 ∷ 3 ∷ 0 ∷ []) ++ (replicate 16 0 ++ (word 28 0 ++ (0x50 ∷ 0x54 ∷ 0x49 ∷ 0x58 ∷ [])))) [] ≡ answered (state (record { minimum_index = 0; maximum_index = 0; held = 0; shift = 3 }) [])
unfolding load_by load_for trailer_by checked trailer_at spells words_at on_chain put header_of little_at
nothing = refl

-- the places that were saved are on the chain
pub placed0 : Placed stream_e 56 (state (finder_by 0 4098 3) (56 ∷ 66 ∷ 78 ∷ 7 ∷ []))
unfolding chain link_at little_at
placed0 zero l = refl
placed0 (suc zero) l = refl
placed0 (suc (suc zero)) l = refl
placed0 (suc (suc (suc k))) l = absurd (omega arith)

-- ---- R-10's form

-- the 30 bytes for so many places of the shift 3, all four bytes of the count, the distance as its lowest byte
abbrev tail_wide : List ℕ → ℕ → List ℕ
tail_wide count distance =
    count ++ ((3 ∷ 0 ∷ []) ++ (word 0x00 0x10 ++ (word 0x02 0x10 ++ (word 78 0 ++ (word 56 0 ++ (word distance 0 ++ (0x50 ∷ 0x54 ∷ 0x49 ∷ 0x59 ∷ [])))))))

-- the trailer of 65,536 places, one more than the old form counts
pub trailer-wide : trailer_bytes wide (record {
  count = 65536;
  shift = 3;
  minimum_index = 4096;
  maximum_index = 4098;
  stream_length = 78;
  header_size = 56;
  distance = 34;
}) ≡ tail_wide (0 ∷ 0 ∷ 1 ∷ 0 ∷ []) 34
unfolding trailer_bytes word_bytes bytes
trailer-wide = refl

-- one place under the new letters is 20 to both loaders: it fits the old form
abbrev few_e : List ℕ
few_e = word 56 0 ++ tail_wide (word 1 0) 34

pub few-wide : (load_wide_of stream_e few_e (1 ∷ []) ≡ refused 20 []) × (load_of stream_e few_e (1 ∷ []) ≡ refused 20 [])
unfolding load_by trailer_by checked trailer_at spells header_of little_at
few-wide = (refl, refl)

-- an old file is written and taken as it was
pub still-old : (save_wide_of stream_e (state (finder_to 4098 1) (56 ∷ [])) 32 ≡ answered file3)
    × (load_wide_of stream_e file3 (1 ∷ 2 ∷ []) ≡ answered (state (finder_to 4098 1) (56 ∷ 2 ∷ [])))
unfolding save_by save_for file_of word_bytes trailer_bytes bytes load_by load_for trailer_by checked trailer_at spells words_at on_chain follows chain link_at put header_of little_at
still-old = (refl, refl)
