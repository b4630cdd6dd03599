-- `write_pieces::put_part` meets its contract: what is left to write stands in the loop's invariant. Assumes nothing.
use Prim.Native.Nat.{◌+◌, ◌-◌}
use native.Mathlib.Omega.{arith}
use mathlib.Core.Path.{◌≡◌, ◌∙◌, sym}
use lib.ListN.{length-set}
use Rattle.field_put.proofs.PutLaws.{put-none}
use Rattle.write_layout.proofs.RunLaws.{part_none, part_length, copy-turn}
use Rattle.write_pieces.proofs.put_part.Goals as goal

pub loop-i-preserved : goal.loop-i-preserved
loop-i-preserved c =
    let a = c.args in
    let l = c.loop-i in
    let e : a.p + (l.i + 1) ≡ a.p + l.i + 1 = omega arith in
    let f : a.q + (l.i + 1) ≡ a.q + l.i + 1 = omega arith in
    let g : a.n - (l.i + 1) ≡ a.n - l.i - 1 = omega arith in
    (rw length-set l.invariant.0, l.invariant.1 ∙ rw (e, f, g) (copy-turn _ _ a.text.now (a.q + l.i) (a.n - l.i) (omega arith) (omega arith)))

pub returns : goal.returns
returns c =
    let a = c.args in
    let l = c.loop-i in
    let z : a.n - l.i ≡ 0 = omega arith in
    record { next = rw (part_length a.text.now a.q a.n (omega arith)); left = sym (l.invariant.1 ∙ rw (z, part_none) (put-none _ _)) }
