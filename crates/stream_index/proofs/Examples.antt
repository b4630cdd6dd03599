-- Stream E walked whole: two turns, and then it is over; with a table that is full, the walk stops at the turn that needs a place.
use mathlib.Core.Path.{◌≡◌, refl}
use mathlib.Core.List.{[], ◌∷◌}
use Rattle.answer.specs.Answer.{answered, refused}
use Rattle.field.specs.Fields.{little_at}
use Rattle.stream_header.specs.Examples.{stream_e}
use Rattle.stream_item.specs.Iterator.{next_of}
use Rattle.stream_item.proofs.Examples.{cursor}
use Rattle.stream_finder.specs.Finder.{State, state, update_of}
use Rattle.stream_finder.proofs.Examples.{finder_by, finder_to}
use Rattle.stream_index.specs.Walk.{over, turn_of, Turns, none, more}

abbrev fresh : State
fresh = state (finder_to 4098 1) (56 ∷ [])

pub turns_e : Turns stream_e (cursor 56 4096) fresh 2 (cursor 78 4098) fresh
unfolding turn_of next_of update_of little_at
turns_e = more (more none refl) refl

pub over_e : turn_of stream_e fresh (cursor 78 4098) ≡ answered over
unfolding turn_of next_of
over_e = refl

-- the record at 56 as the last of a block: a place is due behind it, and there is no room
pub full_e : turn_of stream_e fresh (cursor 56 4103) ≡ refused 13 []
unfolding turn_of next_of update_of little_at
full_e = refl

-- with a place for each record: each turn stores one
pub turns_e-0 : Turns stream_e (cursor 56 4096) (state (finder_by 0 4098 1) (56 ∷ 0 ∷ 0 ∷ [])) 2 (cursor 78 4098) (state (finder_by 0 4098 3) (56 ∷ 66 ∷ 78 ∷ []))
unfolding turn_of next_of update_of little_at
turns_e-0 = more (more none refl) refl

-- a finder of shift 7 ends the walk at its first turn
pub shift_e : turn_of stream_e (state (finder_by 7 4098 1) (56 ∷ [])) (cursor 56 4096) ≡ refused 26 []
unfolding turn_of next_of update_of little_at
shift_e = refl
