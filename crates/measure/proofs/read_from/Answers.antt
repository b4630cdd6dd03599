-- What was yielded lies in the stream, so the cursor behind it is nearer to the end.
use Rattle.std.proofs.Common.{arith, sym, ap, ◌∙◌}
use Rattle.answer.specs.Answer.{answered}
use Rattle.stream_item.specs.Iterator.{next_told}
use Rattle.stream_item.proofs.LinkLaws.{whole_is}
use Rattle.stream_item.proofs.NextLaws.{yields}
use Rattle.measure.proofs.read_from.Goals as goal

pub loop-i-smaller : goal.loop-i-smaller
loop-i-smaller c =
    let y = yields _ _ _ _ (sym c.in-Ok-Some.ensures ∙ ap (λ o. answered (next_told o)) c.in-Ok-Some.field-0-is) in
    let w = whole_is _ _ _ _ y.whole in
    omega arith
