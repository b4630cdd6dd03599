-- What the proofs of this crate cite, by one name. Assumes nothing.
use Rattle.field_put.proofs.PutLaws.{halves, laid, put-none, puts-both, puts-length, room-first, room_after, room_of}
use Rattle.write_layout.proofs.RunLaws.{length-pads, length-zeros, mid-put, pads-are, part-is, part_length, zeros-are}
use Rattle.write_pieces.proofs.PieceLaws.{fine-tail, measure-all, measure-done, measure-stop, measure-turn, measure_of, raw-cons, raw-done, run-outside, run_in, run_inside, run_length, size-bad, size_is, text-by, text-length, text-outside, text_in}
use Rattle.write_pieces.proofs.RecordLaws.{measured-size, plain-roomy}

pub ruleset laws = (fine-tail, halves, laid, length-pads, length-zeros, measure-all, measure-done, measure-stop, measure-turn, measure_of, measured-size, mid-put, pads-are, part-is, part_length, plain-roomy, put-none, puts-both, puts-length, raw-cons, raw-done, room-first, room_after, room_of, run-outside, run_in, run_inside, run_length, size-bad, size_is, text-by, text-length, text-outside, text_in, zeros-are)
