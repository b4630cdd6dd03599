-- `write_list::put_elements` meets its contract: what is left to write stands in the invariant. Assumes nothing.
use Prim.Native.Nat.{◌<◌}
use native.Mathlib.Omega.{arith}
use mathlib.Core.List.{[]}
use mathlib.Core.Path.{◌∙◌}
use lib.ListN.{length}
use Rattle.field_put.proofs.PutLaws.{room_after, puts-both, puts-length}
use Rattle.write_list.proofs.ElementLaws.{held_cons, held-length, good-tail}
use Rattle.write_list.proofs.put_elements.Goals as goal

pub loop-row-preserved : goal.loop-row-preserved
loop-row-preserved c =
    let a = c.args in
    let l = c.loop-row in
    let h : l.row-index < length a.rows.now = omega arith in
    let w = c.put_element-to.ensures in
    let e = held_cons a.leaf a.text.now a.rows.now l.row-index [] h in (
      good-tail a.leaf a.text.now a.rows.now l.row-index [] h l.invariant.0,
      omega (arith, held-length a.leaf a.text.now a.rows.now l.row-index [] h, l.invariant.1),
      room_after _ _ _ _ _ _ (rw e at l.invariant.2) w,
      puts-length _ _ _ _ _ w ∙ l.invariant.3,
      λ r s v. l.invariant.4 r s (rw e (puts-both _ _ _ _ _ _ _ _ w v)),
    )
