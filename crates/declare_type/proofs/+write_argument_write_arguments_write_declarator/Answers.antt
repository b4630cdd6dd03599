-- `declare_type::declarator`, `arguments` and `argument`, which call each other, meet their contracts: the depth that is left falls. Assumes nothing.
use native.Mathlib.Omega.{arith}
use mathlib.Core.Path.{sym, ◌∙◌}
use Rattle.stream_finder.specs.Finder.{state}
use Rattle.declare_type.specs.Steps.{around_first}
use Rattle.declare_type.specs.Walk.{walk}
use Rattle.declare_type.proofs.WriteLaws.{room_as, both-as, no_room, deep-eq, refused-eq, last-eq, inward-eq, call-eq, last-small, last_fits, last-both, left-small, left-fits, right-fits, inner_room, inner-both, args-room, close-fits, after-room, after_both, argument-fits, argument-sides, argument-puts, argument-never}
use Rattle.declare_type.proofs.ArgumentLaws.{never-refused, void-room, void-puts, argument-room, argument-rest, argument-all, rest_all, comma-fits, next-room, next-rest}
use Rattle.declare_type.proofs.+write_argument_write_arguments_write_declarator.Goals as goal

pub write_argument-overflow_add-m : goal.write_argument-overflow_add-m
write_argument-overflow_add-m t c = omega (arith, argument-fits _ _ _ c.requires _ _ (rw c.start-around.ensures at (sym c.in-Ok.is ∙ c.measure_declarator.ensures)), c.well_formed.1.1.1.1.1.0.0)

pub write_argument-write_declarator-requires : goal.write_argument-write_declarator-requires
write_argument-write_declarator-requires t c = (omega (arith, c.decreases), rw c.start-around.ensures (argument-sides _ _ _ c.requires _ _ (rw c.start-around.ensures at (sym c.in-Ok.is ∙ c.measure_declarator.ensures))))

pub write_argument-returns-in-Ok : goal.write_argument-returns-in-Ok
write_argument-returns-in-Ok t c = argument-puts _ _ _ c.requires _ _ _ _ (rw c.start-around.ensures at (sym c.in-Ok.is ∙ c.measure_declarator.ensures)) (rw c.start-around.ensures at c.write_declarator.ensures)

pub write_argument-returns-in-Err : goal.write_argument-returns-in-Err
write_argument-returns-in-Err t c = argument-never _ _ _ c.requires _ (rw c.start-around.ensures at (sym c.in-Err.is ∙ c.measure_declarator.ensures))

pub write_arguments-write_token-requires : goal.write_arguments-write_token-requires
write_arguments-write_token-requires t c = void-room (λ j. walk c.args.s.now (state c.args.f c.args.t.now) c.args.d j around_first) _ _ _ _ _ _ c.list_of.ensures.0 c.requires _ _ c.in-Ok.is c.if-n-eq0.true

pub write_arguments-returns-then-n-eq0 : goal.write_arguments-returns-then-n-eq0
write_arguments-returns-then-n-eq0 t c = void-puts (λ j. walk c.args.s.now (state c.args.f c.args.t.now) c.args.d j around_first) _ _ _ _ _ _ c.list_of.ensures.0 c.requires _ _ c.in-Ok.is _ _ c.if-n-eq0.true c.write_token.ensures

pub write_arguments-write_argument-e-requires : goal.write_arguments-write_argument-e-requires
write_arguments-write_argument-e-requires t c = (omega (arith, c.decreases), rw c.index_at-first.ensures (argument-room (λ j. walk c.args.s.now (state c.args.f c.args.t.now) c.args.d j around_first) _ _ _ _ _ _ c.list_of.ensures.0 c.requires _ _ c.in-Ok.is (omega arith)))

pub write_arguments-loop-left-init : goal.write_arguments-loop-left-init
write_arguments-loop-left-init t c = (omega (arith, (rw c.in-Ok.is at c.list_of.ensures.1)), argument-rest (λ j. walk c.args.s.now (state c.args.f c.args.t.now) c.args.d j around_first) _ _ _ _ _ _ c.list_of.ensures.0 c.requires _ _ c.in-Ok.is _ _ (omega arith) (rw c.index_at-first.ensures at c.write_argument-e.ensures))

pub write_arguments-write_token-k-requires : goal.write_arguments-write_token-k-requires
write_arguments-write_token-k-requires t c = comma-fits (λ j. walk c.args.s.now (state c.args.f c.args.t.now) c.args.d j around_first) _ _ _ _ _ _ _ _ c.loop-left.invariant.1 (omega arith)

pub write_arguments-write_argument-e-requires-in-loop-left : goal.write_arguments-write_argument-e-requires-in-loop-left
write_arguments-write_argument-e-requires-in-loop-left t c = (omega (arith, c.decreases), rw c.index_at-next.ensures (next-room (λ j. walk c.args.s.now (state c.args.f c.args.t.now) c.args.d j around_first) _ _ _ _ _ _ _ _ c.loop-left.invariant.1 _ _ (omega arith) c.write_token-k.ensures))

pub write_arguments-loop-left-preserved : goal.write_arguments-loop-left-preserved
write_arguments-loop-left-preserved t c = (omega arith, next-rest (λ j. walk c.args.s.now (state c.args.f c.args.t.now) c.args.d j around_first) _ _ _ _ _ _ _ _ c.loop-left.invariant.1 _ _ _ _ (omega arith) c.write_token-k.ensures (rw c.index_at-next.ensures at c.write_argument-e-in-loop-left.ensures))

pub write_arguments-returns-in-Ok : goal.write_arguments-returns-in-Ok
write_arguments-returns-in-Ok t c = argument-all (λ j. walk c.args.s.now (state c.args.f c.args.t.now) c.args.d j around_first) _ _ _ _ _ _ c.list_of.ensures.0 c.requires _ _ c.in-Ok.is _ _ (omega arith) (rw c.index_at-first.ensures at c.write_argument-e.ensures) _ _ (rest_all (λ j. walk c.args.s.now (state c.args.f c.args.t.now) c.args.d j around_first) _ _ _ _ _ _ _ _ c.loop-left.invariant.1 (omega arith))

pub write_arguments-returns-in-Err : goal.write_arguments-returns-in-Err
write_arguments-returns-in-Err t c = never-refused (λ j. walk c.args.s.now (state c.args.f c.args.t.now) c.args.d j around_first) _ _ _ _ _ _ c.list_of.ensures.0 c.requires _ c.in-Err.is

pub write_declarator-returns-then-d-eq0 : goal.write_declarator-returns-then-d-eq0
write_declarator-returns-then-d-eq0 t c = no_room _ _ _ _ _ _ (deep-eq _ _ c.args.d _ _ c.if-d-eq0.true) c.requires

pub write_declarator-overflow_sub-at : goal.write_declarator-overflow_sub-at
write_declarator-overflow_sub-at t c = omega (arith, last-small _ _ _ _ _ c.requires (last-eq _ _ c.args.d _ _ (omega (arith, c.if-d-eq0.false)) _ c.step_of.ensures _ c.in-Last.is))

pub write_declarator-write_token-requires : goal.write_declarator-write_token-requires
write_declarator-write_token-requires t c = last_fits _ _ _ _ _ c.requires (last-eq _ _ c.args.d _ _ (omega (arith, c.if-d-eq0.false)) _ c.step_of.ensures _ c.in-Last.is) _ c.len-n.ensures

pub write_declarator-returns-in-Last : goal.write_declarator-returns-in-Last
write_declarator-returns-in-Last t c = last-both _ _ _ _ _ c.requires (last-eq _ _ c.args.d _ _ (omega (arith, c.if-d-eq0.false)) _ c.step_of.ensures _ c.in-Last.is) _ _ _ c.len-n.ensures c.write_token.ensures

pub write_declarator-overflow_sub-at-in-Inward : goal.write_declarator-overflow_sub-at-in-Inward
write_declarator-overflow_sub-at-in-Inward t c = omega (arith, left-small _ _ _ _ _ _ (room_as _ _ _ _ _ (inward-eq _ _ c.args.d _ _ (omega (arith, c.if-d-eq0.false)) _ c.step_of.ensures _ _ _ _ c.in-Inward.is) c.requires))

pub write_declarator-write_token-requires-in-Inward : goal.write_declarator-write_token-requires-in-Inward
write_declarator-write_token-requires-in-Inward t c = left-fits _ _ _ _ _ _ (room_as _ _ _ _ _ (inward-eq _ _ c.args.d _ _ (omega (arith, c.if-d-eq0.false)) _ c.step_of.ensures _ _ _ _ c.in-Inward.is) c.requires) _ c.len-n-in-Inward.ensures

pub write_declarator-write_token-e-requires : goal.write_declarator-write_token-e-requires
write_declarator-write_token-e-requires t c = right-fits _ _ _ _ _ _ (room_as _ _ _ _ _ (inward-eq _ _ c.args.d _ _ (omega (arith, c.if-d-eq0.false)) _ c.step_of.ensures _ _ _ _ c.in-Inward.is) c.requires) _ _ _ c.len-n-in-Inward.ensures c.write_token-in-Inward.ensures

pub write_declarator-write_declarator-requires : goal.write_declarator-write_declarator-requires
write_declarator-write_declarator-requires t c = (omega (arith, c.decreases), inner_room _ _ _ _ _ _ (room_as _ _ _ _ _ (inward-eq _ _ c.args.d _ _ (omega (arith, c.if-d-eq0.false)) _ c.step_of.ensures _ _ _ _ c.in-Inward.is) c.requires) _ _ _ c.len-n-in-Inward.ensures c.write_token-in-Inward.ensures _ _ c.write_token-e.ensures)

pub write_declarator-returns-in-Inward : goal.write_declarator-returns-in-Inward
write_declarator-returns-in-Inward t c = both-as _ _ _ _ _ _ _ (inward-eq _ _ c.args.d _ _ (omega (arith, c.if-d-eq0.false)) _ c.step_of.ensures _ _ _ _ c.in-Inward.is) (inner-both _ _ _ _ _ _ (room_as _ _ _ _ _ (inward-eq _ _ c.args.d _ _ (omega (arith, c.if-d-eq0.false)) _ c.step_of.ensures _ _ _ _ c.in-Inward.is) c.requires) _ _ _ c.len-n-in-Inward.ensures c.write_token-in-Inward.ensures _ _ c.write_token-e.ensures _ _ c.write_declarator.ensures)

pub write_declarator-overflow_sub-at-in-Call : goal.write_declarator-overflow_sub-at-in-Call
write_declarator-overflow_sub-at-in-Call t c = omega (arith, left-small _ _ _ _ _ _ (room_as _ _ _ _ _ (call-eq _ _ c.args.d _ _ (omega (arith, c.if-d-eq0.false)) _ c.step_of.ensures _ _ _ _ _ _ c.in-Call.is) c.requires))

pub write_declarator-write_token-requires-in-Call : goal.write_declarator-write_token-requires-in-Call
write_declarator-write_token-requires-in-Call t c = left-fits _ _ _ _ _ _ (room_as _ _ _ _ _ (call-eq _ _ c.args.d _ _ (omega (arith, c.if-d-eq0.false)) _ c.step_of.ensures _ _ _ _ _ _ c.in-Call.is) c.requires) _ c.len-n-in-Call.ensures

pub write_declarator-write_token-e-requires-in-Call : goal.write_declarator-write_token-e-requires-in-Call
write_declarator-write_token-e-requires-in-Call t c = right-fits _ _ _ _ _ _ (room_as _ _ _ _ _ (call-eq _ _ c.args.d _ _ (omega (arith, c.if-d-eq0.false)) _ c.step_of.ensures _ _ _ _ _ _ c.in-Call.is) c.requires) _ _ _ c.len-n-in-Call.ensures c.write_token-in-Call.ensures

pub write_declarator-write_arguments-k-requires : goal.write_declarator-write_arguments-k-requires
write_declarator-write_arguments-k-requires t c = (omega (arith, c.decreases), args-room _ _ _ _ _ _ (inner_room _ _ _ _ _ _ (room_as _ _ _ _ _ (call-eq _ _ c.args.d _ _ (omega (arith, c.if-d-eq0.false)) _ c.step_of.ensures _ _ _ _ _ _ c.in-Call.is) c.requires) _ _ _ c.len-n-in-Call.ensures c.write_token-in-Call.ensures _ _ c.write_token-e-in-Call.ensures))

pub write_declarator-write_token-c-requires : goal.write_declarator-write_token-c-requires
write_declarator-write_token-c-requires t c = close-fits _ _ _ _ _ _ (inner_room _ _ _ _ _ _ (room_as _ _ _ _ _ (call-eq _ _ c.args.d _ _ (omega (arith, c.if-d-eq0.false)) _ c.step_of.ensures _ _ _ _ _ _ c.in-Call.is) c.requires) _ _ _ c.len-n-in-Call.ensures c.write_token-in-Call.ensures _ _ c.write_token-e-in-Call.ensures) _ _ c.write_arguments-k.ensures

pub write_declarator-write_declarator-requires-in-Call : goal.write_declarator-write_declarator-requires-in-Call
write_declarator-write_declarator-requires-in-Call t c = (omega (arith, c.decreases), after-room _ _ _ _ _ _ (inner_room _ _ _ _ _ _ (room_as _ _ _ _ _ (call-eq _ _ c.args.d _ _ (omega (arith, c.if-d-eq0.false)) _ c.step_of.ensures _ _ _ _ _ _ c.in-Call.is) c.requires) _ _ _ c.len-n-in-Call.ensures c.write_token-in-Call.ensures _ _ c.write_token-e-in-Call.ensures) _ _ c.write_arguments-k.ensures _ _ c.write_token-c.ensures)

pub write_declarator-returns-in-Call : goal.write_declarator-returns-in-Call
write_declarator-returns-in-Call t c = both-as _ _ _ _ _ _ _ (call-eq _ _ c.args.d _ _ (omega (arith, c.if-d-eq0.false)) _ c.step_of.ensures _ _ _ _ _ _ c.in-Call.is) (inner-both _ _ _ _ _ _ (room_as _ _ _ _ _ (call-eq _ _ c.args.d _ _ (omega (arith, c.if-d-eq0.false)) _ c.step_of.ensures _ _ _ _ _ _ c.in-Call.is) c.requires) _ _ _ c.len-n-in-Call.ensures c.write_token-in-Call.ensures _ _ c.write_token-e-in-Call.ensures _ _ (after_both _ _ _ _ _ _ (inner_room _ _ _ _ _ _ (room_as _ _ _ _ _ (call-eq _ _ c.args.d _ _ (omega (arith, c.if-d-eq0.false)) _ c.step_of.ensures _ _ _ _ _ _ c.in-Call.is) c.requires) _ _ _ c.len-n-in-Call.ensures c.write_token-in-Call.ensures _ _ c.write_token-e-in-Call.ensures) _ _ c.write_arguments-k.ensures _ _ c.write_token-c.ensures _ _ c.write_declarator-in-Call.ensures))

pub write_declarator-returns-in-Refused : goal.write_declarator-returns-in-Refused
write_declarator-returns-in-Refused t c = no_room _ _ _ _ _ _ (refused-eq _ _ c.args.d _ _ (omega (arith, c.if-d-eq0.false)) _ c.step_of.ensures _ c.in-Refused.is) c.requires
