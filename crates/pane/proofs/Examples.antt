-- What C gets of a call, computed: of `pdb_header` every field of a header that has another number in each, of `pdb_next` a record, the end and a refusal, of
-- `pdb_update` a place stored and one for which there is no room, of `pdb_primitive` a kind with its indirection and an index that is none.
use Prim.Native.Nat.{ℕ}
use mathlib.Core.Path.{◌≡◌, refl}
use mathlib.Core.List.{List, [], ◌∷◌, map}
use lib.ListN.{take}
use Rattle.answer.specs.Tables.{find}
use Rattle.field.specs.Fields.{little_at}
use Rattle.stream_header.specs.Header.{header_of}
use Rattle.stream_header.specs.Examples.{stream_e}
use Rattle.stream_item.specs.Iterator.{next_of}
use Rattle.stream_finder.specs.Finder.{update_of}
use Rattle.word_primitive.specs.Kinds.{kinds, indirections}
use Rattle.word_primitive.specs.Primitive.{primitive_of}
use Rattle.pane_state.specs.Given.{cursor_at, finder_at}
use Rattle.pane.specs.Out.{out_header, out_next, out_update, out_primitive}

-- a header whose fields differ, with an offset of −1
abbrev header_x : List ℕ
header_x =
    0x0b ∷ 0xca ∷ 0x31 ∷ 0x01 ∷ 56 ∷ 0 ∷ 0 ∷ 0 ∷ 0 ∷ 0x10 ∷ 0 ∷ 0 ∷ 2 ∷ 0x10 ∷ 0 ∷ 0 ∷ 22 ∷ 0 ∷ 0 ∷ 0
    ∷ 7 ∷ 0 ∷ 8 ∷ 0 ∷ 4 ∷ 0 ∷ 0 ∷ 0 ∷ 9 ∷ 0 ∷ 0 ∷ 0
    ∷ 0xff ∷ 0xff ∷ 0xff ∷ 0xff ∷ 11 ∷ 0 ∷ 0 ∷ 0 ∷ 12 ∷ 0 ∷ 0 ∷ 0 ∷ 13 ∷ 0 ∷ 0 ∷ 0 ∷ 14 ∷ 0 ∷ 0 ∷ 0 ∷ 15 ∷ 0 ∷ 0 ∷ 0 ∷ []

pub headers : map (λ (s : List ℕ). out_header (header_of s)) (header_x ∷ take 55 header_x ∷ [])
    ≡ (0, 0 ∷ 0 ∷ 20040203 ∷ 56 ∷ 4096 ∷ 4098 ∷ 22 ∷ 7 ∷ 8 ∷ 4 ∷ 9 ∷ 4294967295 ∷ 11 ∷ 12 ∷ 13 ∷ 14 ∷ 15 ∷ 2 ∷ [])
    ∷ (1, 0 ∷ 0 ∷ 0 ∷ 0 ∷ 0 ∷ 0 ∷ 0 ∷ 0 ∷ 0 ∷ 0 ∷ 0 ∷ 0 ∷ 0 ∷ 0 ∷ 0 ∷ 0 ∷ 0 ∷ 0 ∷ [])
    ∷ []
unfolding header_of little_at
headers = refl

-- E's second record, its end, and a place past it
pub nexts :
    (out_next (next_of stream_e (cursor_at 66 4097)) ≡ (0, 0 ∷ 0 ∷ 1 ∷ 4097 ∷ 68 ∷ 10 ∷ 78 ∷ 4098 ∷ []))
    × (out_next (next_of stream_e (cursor_at 78 4098)) ≡ (0, 0 ∷ 0 ∷ 0 ∷ 0 ∷ 0 ∷ 0 ∷ 0 ∷ 0 ∷ []))
    × (out_next (next_of stream_e (cursor_at 79 4098)) ≡ (1, 0 ∷ 0 ∷ 0 ∷ 0 ∷ 0 ∷ 0 ∷ 0 ∷ 0 ∷ []))
unfolding next_of little_at
nexts = (refl, refl, refl)

-- 4104 starts block 1: its place is stored behind the one that is held, and with a table of one it is 13 and the table stays
pub updates :
    (out_update (56 ∷ 0 ∷ []) (update_of (finder_at 4096 5000 1 3 (56 ∷ 0 ∷ [])) (cursor_at 91 4104)) ≡ (0, 0 ∷ 0 ∷ 2 ∷ [], 56 ∷ 91 ∷ []))
    × (out_update (56 ∷ []) (update_of (finder_at 4096 5000 1 3 (56 ∷ [])) (cursor_at 91 4104)) ≡ (13, 0 ∷ 0 ∷ 0 ∷ [], 56 ∷ []))
unfolding update_of
updates = (refl, refl)

-- 0x0674 is I32 by Near64: 0x74 and 6. 0x0874 is 8, with the index
pub primitives :
    (out_primitive 0x0674 (primitive_of 0x0674) ≡ (0, 0 ∷ 0 ∷ 0x74 ∷ 6 ∷ []))
    × (out_primitive 0x0874 (primitive_of 0x0874) ≡ (8, 0x0874 ∷ 0 ∷ 0 ∷ 0 ∷ []))
unfolding primitive_of kinds indirections find
primitives = (refl, refl)
