-- `write_pieces::put_pieces` meets its contract: what is left to write stands in the invariant. Assumes nothing.
use Prim.Native.Nat.{◌<◌}
use Rattle.write_pieces.specs.declared.Piece.TheVariants as piece
use native.Mathlib.Omega.{arith}
use mathlib.Core.Path.{◌∙◌}
use lib.ListN.{length}
use Rattle.field_put.proofs.PutLaws.{room-first, room_after, puts-both, puts-length}
use Rattle.write_pieces.proofs.PieceLaws.{raw-cons, fine-head, fine-tail}
use Rattle.write_pieces.proofs.put_pieces.Goals as goal

pub put_piece-to-requires : goal.put_piece-to-requires
put_piece-to-requires c =
    let a = c.args in
    let l = c.loop-x in
    let h : l.x-index < length a.xs = omega arith in
    (fine-head _ _ _ _ h l.invariant.0, room-first _ _ _ _ (rw (raw-cons a.text.now a.xs l.x-index piece.Nothing h) at l.invariant.1))

pub loop-x-preserved : goal.loop-x-preserved
loop-x-preserved c =
    let a = c.args in
    let l = c.loop-x in
    let h : l.x-index < length a.xs = omega arith in
    let w = c.put_piece-to.ensures in
    let e = raw-cons a.text.now a.xs l.x-index piece.Nothing h in (
      fine-tail a.text.now a.xs l.x-index piece.Nothing h l.invariant.0,
      room_after _ _ _ _ _ _ (rw e at l.invariant.1) w,
      puts-length _ _ _ _ _ w ∙ l.invariant.2,
      λ r s v. l.invariant.3 r s (rw e (puts-both _ _ _ _ _ _ _ _ w v)),
    )
