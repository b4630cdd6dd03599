-- `stream_places::leads` meets its contract. The loop's invariant: i links from p lead to `at`. Assumes nothing.
use native.Mathlib.Omega.{arith}
use Prim.Native.Nat.{ℕ, ◌+◌, ◌≤◌}
use mathlib.Core.Path.{sym, ap, ◌∙◌}
use lib.ListN.{length}
use Rattle.stream_item.specs.Links.{reached}
use Rattle.stream_item.proofs.LinkLaws.{link-whole, chain-pass}
use Rattle.stream_places.proofs.PlacesLaws.{block-cut}
use Rattle.stream_places.proofs.leads.Goals as goal

pub returns-then-place-s : goal.returns-then-place-s
returns-then-place-s c = let l = c.loop-i in block-cut _ _ _ l.i l.at _ l.invariant.2 (omega arith) (omega arith)

pub loop-i-preserved : goal.loop-i-preserved
loop-i-preserved c =
    let l = c.loop-i in
    let e = c.half_at.ensures in
    let w : l.at + 2 + c.half_at.result ≤ length c.args.s.now = omega arith in
    (omega arith, w, chain-pass _ _ _ _ _ _ l.invariant.2 (link-whole _ l.at (omega (arith, e))) ∙ ap reached (ap (λ (n : ℕ). l.at + 2 + n) (sym e)))
