-- Document 01, "Examples": lookups in stream E and in the empty stream.
use Prim.Native.Nat.{ℕ}
use mathlib.Core.Path.{◌≡◌, refl}
use mathlib.Core.List.{[], ◌∷◌, map}
use Rattle.answer.specs.Answer.{Answer, answered, refused}
use Rattle.field.specs.Fields.{little_at}
use Rattle.stream_header.specs.Header.{header_of}
use Rattle.stream_header.specs.Examples.{stream_e}
use Rattle.field.specs.Indices.{index_in}
use Rattle.stream_item.specs.Links.{link_at, chain, link_of}
use Rattle.stream_item.specs.Iterator.{item_at}
use Rattle.stream_item.proofs.Examples.{cursor}
use Rattle.field.specs.declared.index.Stream.TheVariants.{Types, Ids}
use Rattle.stream_item.specs.declared.Entry.TheVariants.{Record, Marker}
use Rattle.stream_finder.specs.Finder.{state, begun_by, create_by, Found, look_of, create_of, update_of, find_of, max_index_of}
use Rattle.stream_finder.specs.declared.ItemFinder.{ItemFinder}

-- a finder from 4096 to a maximum that holds so many places, of a shift, and of the shift 3
abbrev pub finder_by : ℕ → ℕ → ℕ → ItemFinder
finder_by shift maximum n = record { minimum_index = 4096; maximum_index = maximum; held = n; shift = shift }

abbrev pub finder_to : ℕ → ℕ → ItemFinder
finder_to = finder_by 3

abbrev pub found : ℕ → ℕ → ℕ → ℕ → Answer Found
found i p n k = answered (record { entry = Record (item_at Types i p n); passed = k })

-- a fresh finder of E stores 56 in place 0, and leaves the others
pub created : map (create_of stream_e) ([] ∷ (7 ∷ 7 ∷ []) ∷ []) ≡ refused 13 [] ∷ answered (state (finder_to 4098 1) (56 ∷ 7 ∷ [])) ∷ []
unfolding create_by begun_by header_of little_at
created = refl

-- 4097 passes 1 link; 4098 gives 1 with 2 passed; 4099 gives 8; 4095 the marker
pub finds : map (λ (i : ℕ). find_of stream_e (state (finder_to 4098 1) (56 ∷ [])) (index_in Types i)) (4096 ∷ 4097 ∷ 4098 ∷ 4099 ∷ 4095 ∷ [])
    ≡ found 4096 58 8 0
    ∷ found 4097 68 10 1
    ∷ refused 1 (2 ∷ [])
    ∷ refused 8 (4099 ∷ [])
    ∷ answered (record { entry = Marker (index_in Types 4095); passed = 0 })
    ∷ []
unfolding look_of link_of chain link_at little_at max_index_of
finds = refl

-- the empty stream: 0 gives 9 with 0 and 0; 1 gives 8
abbrev empty_finder : ItemFinder
empty_finder = record { minimum_index = 0; maximum_index = 0; held = 0; shift = 3 }

pub empty-created : create_of [] [] ≡ answered (state empty_finder [])
unfolding create_by begun_by header_of
empty-created = refl

pub empty-finds : map (λ (i : ℕ). find_of [] (state empty_finder []) (index_in Ids i)) (0 ∷ 1 ∷ []) ≡ refused 9 (0 ∷ 0 ∷ []) ∷ refused 8 (1 ∷ []) ∷ []
unfolding look_of link_of chain link_at little_at max_index_of
empty-finds = refl

-- an update where no place is due; where the next block starts; where there is no room for it; by a foreign cursor; and a claim past the table
pub updates : map (update_of (state (finder_to 5000 1) (56 ∷ 0 ∷ []))) (cursor 90 4097 ∷ cursor 91 4104 ∷ cursor 92 4112 ∷ cursor 93 4095 ∷ [])
    ≡ answered (state (finder_to 5000 1) (56 ∷ 0 ∷ []))
    ∷ answered (state (finder_to 5000 2) (56 ∷ 91 ∷ []))
    ∷ answered (state (finder_to 5000 1) (56 ∷ 0 ∷ []))
    ∷ refused 14 []
    ∷ []
unfolding update_of
updates = refl

pub full : update_of (state (finder_to 5000 1) (56 ∷ [])) (cursor 91 4104) ≡ refused 13 []
unfolding update_of
full = refl

pub claim : update_of (state (finder_to 5000 2) (56 ∷ [])) (cursor 91 4097) ≡ refused 13 []
unfolding update_of
claim = refl

-- the highest index is held at 4,294,967,295
pub highest : map max_index_of (finder_to 5000 0 ∷ finder_to 5000 1 ∷ finder_to 5000 600000000 ∷ []) ≡ 0 ∷ 4103 ∷ 4294967295 ∷ []
unfolding max_index_of
highest = refl

-- ---- R-7: the finder's own shift

-- creation: 0 to 6 are taken and 7 is 26, also where there is no room, and where the empty stream counts no record; a refused header comes first
pub created-by : map (λ (shift : ℕ). create_by shift stream_e (7 ∷ [])) (0 ∷ 6 ∷ 7 ∷ 255 ∷ [])
    ≡ answered (state (finder_by 0 4098 1) (56 ∷ []))
    ∷ answered (state (finder_by 6 4098 1) (56 ∷ []))
    ∷ refused 26 []
    ∷ refused 26 []
    ∷ []
unfolding create_by begun_by header_of little_at
created-by = refl

pub created-26 : create_by 7 stream_e [] ∷ create_by 7 [] [] ∷ create_by 7 (1 ∷ []) [] ∷ [] ≡ refused 26 [] ∷ refused 26 [] ∷ refused 1 [] ∷ []
unfolding create_by begun_by header_of little_at
created-26 = refl

-- shift 0 has a place for each record, and a lookup passes no link; shift 1 passes one to 4097; a finder of shift 7 is 26 for every index,
-- whatever it claims
pub finds-by : map (λ (i : ℕ). find_of stream_e (state (finder_by 0 4098 2) (56 ∷ 66 ∷ [])) (index_in Types i)) (4096 ∷ 4097 ∷ 4098 ∷ [])
    ≡ found 4096 58 8 0 ∷ found 4097 68 10 0 ∷ refused 9 (4098 ∷ 4097 ∷ []) ∷ []
unfolding look_of link_of chain link_at little_at max_index_of
finds-by = refl

pub finds-26 : map (λ (i : ℕ). find_of stream_e (state (finder_by 7 4098 2) (56 ∷ [])) (index_in Types i)) (0 ∷ 4096 ∷ 4099 ∷ []) ≡ refused 26 [] ∷ refused 26 [] ∷ refused 26 [] ∷ []
unfolding look_of
finds-26 = refl

-- at shift 0 a place is due at each record, at shift 6 at the 64th; a shift of 7 is 26 before the claim and the foreign cursor
pub updates-by :
    update_of (state (finder_by 0 5000 1) (56 ∷ 0 ∷ [])) (cursor 90 4097) ∷ update_of (state (finder_by 6 5000 1) (56 ∷ 0 ∷ [])) (cursor 90 4159)
    ∷ update_of (state (finder_by 6 5000 1) (56 ∷ 0 ∷ [])) (cursor 91 4160) ∷ update_of (state (finder_by 7 5000 2) (56 ∷ [])) (cursor 90 0) ∷ []
    ≡ answered (state (finder_by 0 5000 2) (56 ∷ 90 ∷ []))
    ∷ answered (state (finder_by 6 5000 1) (56 ∷ 0 ∷ []))
    ∷ answered (state (finder_by 6 5000 2) (56 ∷ 91 ∷ []))
    ∷ refused 26 []
    ∷ []
unfolding update_of
updates-by = refl

-- one place serves 2^shift records; with a shift above 6 none
pub highest-by : map (λ (shift : ℕ). max_index_of (finder_by shift 5000 1)) (0 ∷ 1 ∷ 2 ∷ 3 ∷ 4 ∷ 5 ∷ 6 ∷ 7 ∷ []) ≡ 4096 ∷ 4097 ∷ 4099 ∷ 4103 ∷ 4111 ∷ 4127 ∷ 4159 ∷ 0 ∷ []
unfolding max_index_of
highest-by = refl
