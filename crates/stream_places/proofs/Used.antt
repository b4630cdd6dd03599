-- What the proofs of this crate cite, by one name. Assumes nothing.
use Rattle.answer.proofs.Told.{told}
use Rattle.field.proofs.FieldLaws.{little-one}
use Rattle.field_put.proofs.PutLaws.{laid, length-bytes, puts-both, puts-length, room-first, room_after, room_for}
use Rattle.stream_item.proofs.LinkLaws.{chain-none, chain-pass, link-whole}
use Rattle.stream_places.proofs.FileLaws.{checked-distance, checked-few, checked-length, checked-right, checked-shift, checked_zero, either-inside, fill-turn, fill_end, form-narrow, form-wide, four-letters, length-trailer, length-word-bytes, room-words, spells-by, spells-end, spells-miss, spells-short, spells-start, spells-turn, trailed, trailer-by, trailer-letters, trailer-short, words-all, words-room, write-end, write-turn}
use Rattle.stream_places.proofs.PlacesLaws.{block-cut, block-end, block_inside, chain-empty, chain-other, chain_first, file-by, follows-end, follows-miss, follows-turn, header-inside, header-short, load-bytes, load-done, load-lacks, load-maximum, load-minimum, load-off, load-start, load_full, save-by, save-claims, save-done, save-header, save-many, save-maximum, save-minimum, save-room, save-shift, saves, saves-as, saves-file, taken-all, taken_none, takes, takes_none}
use borrow.Author.Tests.{eq-eqb, le-ltb, lt-ltb, ne_eqb, not-false, not-true}

pub ruleset laws = (block-cut, block-end, block_inside, chain-empty, chain-none, chain-other, chain-pass, chain_first, checked-distance, checked-few, checked-length, checked-right, checked-shift, checked_zero, either-inside, eq-eqb, file-by, fill-turn, fill_end, follows-end, follows-miss, follows-turn, form-narrow, form-wide, four-letters, header-inside, header-short, laid, le-ltb, length-bytes, length-trailer, length-word-bytes, link-whole, little-one, load-bytes, load-done, load-lacks, load-maximum, load-minimum, load-off, load-start, load_full, lt-ltb, ne_eqb, not-false, not-true, puts-both, puts-length, room-first, room-words, room_after, room_for, save-by, save-claims, save-done, save-header, save-many, save-maximum, save-minimum, save-room, save-shift, saves, saves-as, saves-file, spells-by, spells-end, spells-miss, spells-short, spells-start, spells-turn, taken-all, taken_none, takes, takes_none, told, trailed, trailer-by, trailer-letters, trailer-short, words-all, words-room, write-end, write-turn)
