-- `write_cells::put_fields` meets its contract: what is left to write stands in the invariant. Assumes nothing.
use Prim.Native.Nat.{◌<◌}
use native.Mathlib.Omega.{arith}
use mathlib.Core.Path.{◌∙◌, refl}
use Rattle.field_put.proofs.PutLaws.{room-first, room_after, puts-both, puts-length}
use Rattle.write_cells.proofs.LoopLaws.{value_there, this-good, next-good, this-fine, next-held}
use Rattle.write_cells.proofs.put_fields.Goals as goal

pub put_piece-to-requires : goal.put_piece-to-requires
put_piece-to-requires c =
    let a = c.args in
    let l = c.loop-rest in
    let h : l.i < 9 = omega (arith, l.invariant.0, c.if-i-eq9.false) in
    let g = c.loop-rest-test.true in
    let k = value_there a.text.now a.row.now l.i l.rest l.w l.invariant.1 h g l.invariant.2 in
    let x = c.good_piece-x.ensures a.text.now (this-good a.text.now a.row.now l.i l.rest l.w l.invariant.1 h g k l.invariant.2) in
    (this-fine a.text.now a.row.now l.i l.rest l.w l.invariant.1 h g k _ x _ refl l.invariant.2, room-first _ _ _ _ (rw (next-held a.text.now a.row.now l.i l.rest l.w l.invariant.1 h g k _ x _ refl l.invariant.2) at l.invariant.3))

pub loop-rest-preserved : goal.loop-rest-preserved
loop-rest-preserved c =
    let a = c.args in
    let l = c.loop-rest in
    let h : l.i < 9 = omega (arith, l.invariant.0, c.if-i-eq9.false) in
    let g = c.loop-rest-test.true in
    let k = value_there a.text.now a.row.now l.i l.rest l.w l.invariant.1 h g l.invariant.2 in
    let x = c.good_piece-x.ensures a.text.now (this-good a.text.now a.row.now l.i l.rest l.w l.invariant.1 h g k l.invariant.2) in
    let u = c.word_after-w.ensures a.text.now _ in
    let f = next-held a.text.now a.row.now l.i l.rest l.w l.invariant.1 h g k _ x _ u l.invariant.2 in
    let w = c.put_piece-to.ensures in (
      omega arith,
      l.invariant.1,
      next-good a.text.now a.row.now l.i l.rest l.w l.invariant.1 h g k _ x _ u l.invariant.2,
      room_after _ _ _ _ _ _ (rw f at l.invariant.3) w,
      puts-length _ _ _ _ _ w ∙ l.invariant.4,
      λ r s v. l.invariant.5 r s (rw f (puts-both _ _ _ _ _ _ _ _ w v)),
    )
