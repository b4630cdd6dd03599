-- `stream_places::saved` meets its contract: each return is an outcome of `save_for`. Assumes nothing.
use native.Mathlib.Omega.{arith}
use native.Mathlib.Nat.{min-eq_left}
use Prim.Native.Nat.{◌+◌, ◌*◌, ◌≤◌}
use mathlib.Core.Path.{◌≡◌, ap, ◌∙◌}
use mathlib.Core.List.{List}
use Prim.Native.Nat.{ℕ}
use lib.ListN.{length, take, length-take}
use Rattle.answer.specs.Answer.{answered}
use Rattle.field_put.proofs.PutLaws.{room_for, puts-both, puts-length}
use Rattle.stream_places.specs.File.{file_form_in, trailer_size}
use Rattle.stream_places.proofs.FileLaws.{four-letters, length-trailer, length-word-bytes, room-words}
use Rattle.stream_places.proofs.PlacesLaws.{save-done, file-by, saves-file}
use Rattle.stream_places.proofs.saved.Goals as goal

pub put_words-p-requires : goal.put_words-p-requires
put_words-p-requires c =
    let a = c.args in
    let l : a.f.held ≤ length a.t.now = omega arith in
    let r : 0 + 4 * a.f.held ≤ length a.out.now = omega arith in
    (l, room-words a.out.now 0 a.f.held a.t.now l r)

pub put_trailer-requires : goal.put_trailer-requires
put_trailer-requires c =
    let a = c.args in
    let w = c.put_words-p.ensures in
    let e : length (take a.f.held a.t.now) ≡ a.f.held = length-take a.f.held a.t.now ∙ min-eq_left (omega arith) in
    (room_for _ _ _ (trailer_size (file_form_in a.w)) (length-trailer _ _ (four-letters a.w)) (omega (arith, w.next, length-word-bytes (take a.f.held a.t.now), puts-length _ _ _ _ _ w)), omega arith)

pub returns : goal.returns
returns c =
    saves-file _ _ _ _ _
    (save-done _ _ _ _ _ (omega arith) (omega arith) (omega arith) (omega arith) (omega arith) ∙ ap (λ (bs : List ℕ). answered bs) (file-by _ _ _ _ _ (omega arith)))
    (puts-both _ _ _ _ _ _ _ _ c.put_words-p.ensures c.put_trailer.ensures)
