-- `section_stream::put_stream` meets its contract: 19 first, then the header and the records after it. Assumes nothing.
use native.Mathlib.Omega.{arith}
use Rattle.section_stream.proofs.StreamLaws.{rest-whole, no_room, stream-written, never-refused}
use Rattle.section_stream.proofs.put_stream.Goals as goal

pub returns-then-out-s : goal.returns-then-out-s
returns-then-out-s c = no_room _ _ _ (omega arith) (omega arith)

pub returns : goal.returns
returns c =
    stream-written _ _ _ (omega arith) (omega arith) _ c.header-h.ensures _ _
    c.write_header.ensures
    _ c.in_ok-p.was _ _ _ (rest-whole c.args.s.now) c.put_all.ensures

pub returns-in_err-p : goal.returns-in_err-p
returns-in_err-p c =
    let a = c.args in
    absurd (never-refused a.s.now a.n a.out.now (omega arith) (omega arith) _ c.header-h.ensures _ _
    c.write_header.ensures _ c.in_err-p.was)
