-- What the proofs of this crate cite, by one name. Assumes nothing.
use Rattle.field_put.proofs.PutLaws.{copy-end, copy-turn, halves, lays, lays-none, length-bytes, put_one, put_two, puts-both, puts_of, room-first, room_after, room_for, room_of}

pub ruleset laws = (copy-end, copy-turn, halves, lays, lays-none, length-bytes, put_one, put_two, puts-both, puts_of, room-first, room_after, room_for, room_of)
