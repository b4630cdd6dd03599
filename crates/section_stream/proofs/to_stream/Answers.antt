-- `section_stream::to_stream` meets its contract: 16, then the count's own refusal, or the stream of so many records. Assumes nothing.
use native.Mathlib.Omega.{arith}
use mathlib.Core.Path.{refl, sym}
use Rattle.std.proofs.Common.{rules}
use Rattle.section_item.proofs.SectionLaws.{counted}
use Rattle.section_stream.proofs.StreamLaws.{stream-long, stream-is, writes-refused}
use Rattle.section_stream.proofs.to_stream.Goals as goal

pub returns-then-s : goal.returns-then-s
returns-then-s c = writes-refused _ _ _ _ (stream-long _ (omega arith)) _ refl

pub put_stream-requires : goal.put_stream-requires
put_stream-requires c =
    let k = counted _ _ (sym c.in_ok-n.ensures) in
    (k.begun.four, omega arith, k.small)

pub returns : goal.returns
returns c =
    rw (stream-is _ _ (omega arith) (sym c.in_ok-n.ensures))
    c.put_stream.ensures

pub returns-in_err-n : goal.returns-in_err-n
returns-in_err-n c = writes-refused _ _ _ _ (stream-is _ _ (omega arith) (sym c.in_err-n.ensures)) _ (search rules)
