-- What the proofs of this crate cite, by one name. Assumes nothing.
use Rattle.answer.proofs.Told.{told}
use Rattle.stream_fit.proofs.FaultLaws.{first-only, in-the-gap, lesser-new, lesser-old, no-fault, out_of_order, primitive-high, primitive-low, second-none}
use Rattle.stream_fit.proofs.JudgeLaws.{judged-count, judged-on, judged-rule, judged-short, judged-stopped, judged-yes}
use Rattle.stream_fit.proofs.WorstLaws.{data-list, data-own, from-element, from-none, from-refused, from_end, of-refused, worst-four}

pub ruleset laws = (data-list, data-own, first-only, from-element, from-none, from-refused, from_end, in-the-gap, judged-count, judged-on, judged-rule, judged-short, judged-stopped, judged-yes, lesser-new, lesser-old, no-fault, of-refused, out_of_order, primitive-high, primitive-low, second-none, told, worst-four)
