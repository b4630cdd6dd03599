-- What the proofs of this crate cite, by one name. Assumes nothing.
use Rattle.answer.proofs.TableLaws.{missed}
use Rattle.field_put.proofs.PutLaws.{halves, length-bytes, put-none, put_one, put_two, puts-both, puts-length, puts_of, room-first, room_after, room_of}
use Rattle.write_cells.proofs.CellLaws.{is-3, is-4, is-5, is-6, is-absent, is-many, is_number, low-kind, low-member, low-mode, not-absent, not-many, not-number, not-number-or, not-numeral, not-optional, not-size}
use Rattle.write_cells.proofs.LoopLaws.{fields-done, left_at, measure-bad, measure-none, measure_of, missing-value, no_value, over-nine, puts_none, size-next, value-left}
use Rattle.write_cells.proofs.RecordLaws.{measured-size, small}
use Rattle.write_layout.proofs.RunLaws.{length-pads, length-zeros, mid-put, pads-are, part-is, part_length, zeros-are}
use Rattle.write_layout.proofs.TypeLaws.{types-written}
use Rattle.write_pieces.proofs.FitLaws.{bad-piece, byte-piece, half-piece, no-piece, run-piece, text-piece, word_piece}
use Rattle.write_pieces.proofs.PieceLaws.{run-outside, run_in, run_inside, run_length, size-bad, size_is, text-by, text-length, text-outside, text_in}
use borrow.Author.Tests.{eq-eqb, ne_eqb}

pub ruleset laws = (bad-piece, byte-piece, eq-eqb, fields-done, half-piece, halves, is-3, is-4, is-5, is-6, is-absent, is-many, is_number, left_at, length-bytes, length-pads, length-zeros, low-kind, low-member, low-mode, measure-bad, measure-none, measure_of, measured-size, mid-put, missed, missing-value, ne_eqb, no-piece, no_value, not-absent, not-many, not-number, not-number-or, not-numeral, not-optional, not-size, over-nine, pads-are, part-is, part_length, put-none, put_one, put_two, puts-both, puts-length, puts_none, puts_of, room-first, room_after, room_of, run-outside, run-piece, run_in, run_inside, run_length, size-bad, size-next, size_is, small, text-by, text-length, text-outside, text-piece, text_in, types-written, value-left, word_piece, zeros-are)
