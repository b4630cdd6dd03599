-- `write_cells::measure_fields` meets its contract: a field that is refused refuses the record. Assumes nothing.
use native.Mathlib.Omega.{arith}
use Prim.Native.Nat.{◌<◌}
use mathlib.Core.Path.{◌≡◌, ◌∙◌, sym}
use Rattle.std.proofs.Common.{rules}
use Rattle.answer.specs.Refusals.{no, itself, said}
use Rattle.write_cells.proofs.LoopLaws.{size-stop}
use Rattle.write_cells.proofs.measure_fields.Goals as goal

pub returns-in_err-size : goal.returns-in_err-size
returns-in_err-size c =
    let a = c.args in
    let l = c.loop-rest in
    let h : l.i < 9 = omega (arith, l.invariant.0, c.if-i-eq9.false) in
    let e : said itself c.from_residual.result ≡ no c.in_err-size.field-0.0 = search rules in
    let f = size-stop a.text.now a.row.now l.i l.rest l.word l.invariant.1 h c.loop-rest-test.true (omega arith) _ (c.field_piece-x.ensures a.text.now) l.n _ _ c.in_err-size.ensures in
    e ∙ f ∙ sym l.invariant.3
