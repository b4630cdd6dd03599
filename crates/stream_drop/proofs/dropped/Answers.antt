-- `stream_drop::dropped` meets its contract: each outcome is a law of proofs/DropLaws.antt. Assumes nothing.
use native.Mathlib.Omega.{arith}
use mathlib.Core.Path.{sym, ◌∙◌}
use Rattle.field_put.specs.Bytes.{Octets}
use Rattle.stream_drop.proofs.DropLaws.{root-above, few-places, nothing-there, size_fits, reads-as-none, no_room, wrote}
use Rattle.stream_drop.proofs.dropped.Goals as goal

pub returns-in-Some : goal.returns-in-Some
returns-in-Some c = root-above _ _ _ _ _ _ _ (sym c.first_above.ensures ∙ c.in-Some.is)

pub returns-then-table-n : goal.returns-then-table-n
returns-then-table-n c =
    let p = c.requires in
    few-places _ _ _ _ _ _ p.0 p.1 p.2 (sym c.first_above.ensures ∙ c.in-None.is) c.if-table-n.true

pub returns-then-s-eq0 : goal.returns-then-s-eq0
returns-then-s-eq0 c =
    let p = c.requires in
    nothing-there _ _ _ _ _ _ p.0 p.1 p.2 (sym c.first_above.ensures ∙ c.in-None.is) c.if-s-eq0.true

pub returns-then-not-asked : goal.returns-then-not-asked
unfolding Octets
returns-then-not-asked c =
    let p = c.requires in
    let e = c.renumber-k.ensures in
    reads-as-none _ _ _ _ _ _ p.0 p.1 p.2 (sym c.first_above.ensures ∙ c.in-None.is) (λ i. omega (arith, c.type_inv.s i)) (omega arith) c.if-table-n.false
    _ _ _ e.0 e.1 _ _ _ c.asked.ensures c.if-not-asked.true

pub overflow_add-size : goal.overflow_add-size
unfolding Octets
overflow_add-size c =
    let p = c.requires in
    let e = c.renumber-k.ensures in
    omega (arith, size_fits _ _ _ _ _ _ p.0 p.1 p.2 (sym c.first_above.ensures ∙ c.in-None.is) (λ i. omega (arith, c.type_inv.s i)) (omega arith) c.if-table-n.false _ _ _ e.0 e.1)

pub returns-then-out-size : goal.returns-then-out-size
unfolding Octets
returns-then-out-size c =
    let p = c.requires in
    let e = c.renumber-k.ensures in
    no_room _ _ _ _ _ _ p.0 p.1 p.2 (sym c.first_above.ensures ∙ c.in-None.is) (λ i. omega (arith, c.type_inv.s i)) (omega arith) c.if-table-n.false
    _ _ _ e.0 e.1 _ _ _ c.asked.ensures c.if-not-asked.false c.if-out-size.true

pub returns-else-out-size : goal.returns-else-out-size
unfolding Octets
returns-else-out-size c =
    let p = c.requires in
    let e = c.renumber-k.ensures in
    wrote _ _ _ _ _ _ p.0 p.1 p.2 (sym c.first_above.ensures ∙ c.in-None.is) (λ i. omega (arith, c.type_inv.s i)) (omega arith) c.if-table-n.false
    _ _ _ e.0 e.1 _ _ _ c.asked.ensures _ _ _ c.if-not-asked.false c.if-out-size.false c.write.ensures
