-- What the proofs of this crate cite, by one name. Assumes nothing.
use Rattle.field_put.proofs.PutLaws.{laid, puts-both, puts-length, room-first, room_after}
use Rattle.write_list.proofs.ElementLaws.{good-head, good-tail, held-done, held-length, held_cons, measure-all, measure-done, measure-late, measure-stop, measure-turn, measure_of}
use Rattle.write_list.proofs.ListLaws.{members-are, methods-are}
use Rattle.write_pieces.proofs.FitLaws.{bad-piece, half-piece, negative-10, negative-3, negative-4, negative-6, no-piece, text-piece, too_large, word_piece}
use borrow.Author.Tests.{eq-eqb, ne_eqb}

pub ruleset laws = (bad-piece, eq-eqb, good-head, good-tail, half-piece, held-done, held-length, held_cons, laid, measure-all, measure-done, measure-late, measure-stop, measure-turn, measure_of, members-are, methods-are, ne_eqb, negative-10, negative-3, negative-4, negative-6, no-piece, puts-both, puts-length, room-first, room_after, text-piece, too_large, word_piece)
