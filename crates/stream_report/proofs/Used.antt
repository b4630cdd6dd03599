-- What the proofs of this crate cite, by one name. Assumes nothing.
use Rattle.answer.proofs.Told.{told}
use Rattle.stream_report.proofs.CountLaws.{counts-full, counts-grown, counts-new, counts-over}
use Rattle.stream_report.proofs.SettleLaws.{added-reports, begins, full-reports, header-reports, midway-reports, own-fits, refused-answered, refused-refused, refused-taken, walk-done}
use Rattle.stream_report.proofs.TableLaws.{grows, grows-left, grows-not, grows-not-bytes, grows-taken}
use Rattle.stream_report.proofs.WalkLaws.{further, going-first, going-refused, going_done, going_next}
use borrow.Author.Tests.{le-ltb, lt-ltb, ltb-false}

pub ruleset laws = (added-reports, begins, counts-full, counts-grown, counts-new, counts-over, full-reports, further, going-first, going-refused, going_done, going_next, grows, grows-left, grows-not, grows-not-bytes, grows-taken, header-reports, le-ltb, lt-ltb, ltb-false, midway-reports, own-fits, refused-answered, refused-refused, refused-taken, told, walk-done)
