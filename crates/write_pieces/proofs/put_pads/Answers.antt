-- `write_pieces::put_pads` meets its contract: what is left to write stands in the loop's invariant. Assumes nothing.
use Prim.Native.Nat.{◌+◌, ◌-◌}
use native.Mathlib.Omega.{arith}
use mathlib.Core.Path.{◌≡◌, ◌∙◌, sym}
use lib.ListN.{length-set}
use Rattle.field_put.proofs.PutLaws.{put-none}
use Rattle.write_layout.specs.Runs.{pads}
use Rattle.write_layout.proofs.RunLaws.{length-pads, pad-turn}
use Rattle.write_pieces.proofs.put_pads.Goals as goal

pub loop-i-preserved : goal.loop-i-preserved
loop-i-preserved c =
    let a = c.args in
    let l = c.loop-i in
    let e : a.p + (l.i + 1) ≡ a.p + l.i + 1 = omega arith in
    let g : a.n - (l.i + 1) ≡ a.n - l.i - 1 = omega arith in
    (rw length-set l.invariant.0, l.invariant.1 ∙ rw (e, g) (pad-turn _ _ (a.n - l.i) (omega arith)))

pub returns : goal.returns
unfolding pads
returns c =
    let a = c.args in
    let l = c.loop-i in
    let z : a.n - l.i ≡ 0 = omega arith in
    record { next = rw (length-pads a.n); left = sym (l.invariant.1 ∙ rw z (put-none _ _)) }
