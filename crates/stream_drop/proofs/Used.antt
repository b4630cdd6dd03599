-- What the proofs of this crate cite, by one name. Assumes nothing.
use Rattle.answer.proofs.Told.{told}
use Rattle.stream_drop.proofs.DropLaws.{by-fit, by-header, by-iter, by-yes, few-places, no_room, not-fit, nothing-there, ordered, reads-as-none, root-above, size_fits, wrote}
use Rattle.stream_drop.proofs.EachLaws.{asked-none, asked-plain, asked-some, behind-past, behind-there, data-list, data-own, done-above, done-four, done_below, element-inside, fields-first, fields-padded, fields-plain, from-element, from-none, from-refused, laid-past, laid_by, of-refused, one-fits, raised-here, raised-marked, raised-past, two_fits}
use Rattle.stream_drop.proofs.PassLaws.{down-end, down_turn, first-is, lengths-turn, lengths_none, linked-by, number-end, number-turn, numbered-dropped, numbered-kept, payloads-done, payloads-more, payloads-out, payloads-refused, rooted-above, rooted-below, roots-end, roots-turn, up-asked, up-dropped, up-written, up_none, up_turn, visited-marked, visited-not}
use Rattle.stream_drop.proofs.StepLaws.{above-here, above-later, above-none, asked-high, asked_low, marked_by, written-by}
use borrow.Author.Tests.{eq-eqb, ne_eqb, not-false, not-true}

pub ruleset laws = (above-here, above-later, above-none, asked-high, asked-none, asked-plain, asked-some, asked_low, behind-past, behind-there, by-fit, by-header, by-iter, by-yes, data-list, data-own, done-above, done-four, done_below, down-end, down_turn, element-inside, eq-eqb, few-places, fields-first, fields-padded, fields-plain, first-is, from-element, from-none, from-refused, laid-past, laid_by, lengths-turn, lengths_none, linked-by, marked_by, ne_eqb, no_room, not-false, not-fit, not-true, nothing-there, number-end, number-turn, numbered-dropped, numbered-kept, of-refused, one-fits, ordered, payloads-done, payloads-more, payloads-out, payloads-refused, raised-here, raised-marked, raised-past, reads-as-none, root-above, rooted-above, rooted-below, roots-end, roots-turn, size_fits, told, two_fits, up-asked, up-dropped, up-written, up_none, up_turn, visited-marked, visited-not, written-by, wrote)
