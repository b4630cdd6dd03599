-- `stream_places::put_trailer` meets its contract: what it writes, one after the other, is the trailer. Assumes nothing.
use Rattle.field_put.proofs.PutLaws.{laid, room-first, room_after, puts-both}
use Rattle.stream_places.specs.File.{trailer_bytes}
use Rattle.stream_places.proofs.put_trailer.Goals as goal

pub returns : goal.returns
unfolding trailer_bytes
returns c =
    let r₀ = c.requires.0 in
    let w₁ = c.put_count-p1.ensures in
    let r₁ = room_after _ _ _ _ _ _ r₀ w₁ in
    let w₂ = laid _ _ _ _ _ (room-first _ _ _ _ r₁) c.put8-p2.ensures in
    let r₂ = room_after _ _ _ _ _ _ r₁ w₂ in
    let w₃ = laid _ _ _ _ _ (room-first _ _ _ _ r₂) c.put8-p3.ensures in
    let r₃ = room_after _ _ _ _ _ _ r₂ w₃ in
    let w₄ = c.put_words-p4.ensures in
    let w₅ = laid _ _ _ _ _ (room_after _ _ _ _ _ _ r₃ w₄) (rw c.letters_of-letters.ensures at c.put_all.ensures) in
    puts-both _ _ _ _ _ _ _ _ w₁ (puts-both _ _ _ _ _ _ _ _ w₂ (puts-both _ _ _ _ _ _ _ _ w₃ (puts-both _ _ _ _ _ _ _ _ w₄ w₅)))
