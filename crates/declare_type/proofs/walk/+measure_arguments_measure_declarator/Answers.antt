-- `declare_type::walk::declarator` and `arguments`, which call each other, meet their contracts: the depth that is left falls. Assumes nothing.
use Rattle.std.specs.Prelude.{Ok, Err}
use native.Mathlib.Omega.{arith}
use mathlib.Core.Path.{refl, ◌∙◌}
use Rattle.declare_type.proofs.RoomLaws.{fits-within, passed}
use Rattle.declare_type.proofs.WalkLaws.{too-deep, refused-is, last-over, last_fits, inward-over, inward-is, call-over, call-refused, call-shut, call-is, call_fits, list-refused, void-over, void-fits, first-refused, first_fits, rest-done, rest_over, rest-refused, rest_more}
use Rattle.declare_type.proofs.walk.+measure_arguments_measure_declarator.Goals as goal

pub measure_arguments-returns-in_err-p : goal.measure_arguments-returns-in_err-p
measure_arguments-returns-in_err-p t c = passed _ _ c.from_residual.ensures.1 ∙ list-refused _ _ _ _ _ _ c.in_err-p.ensures.0 _ refl

pub measure_arguments-returns-then-room-lt4 : goal.measure_arguments-returns-then-room-lt4
measure_arguments-returns-then-room-lt4 t c = void-over _ _ _ _ _ _ c.in_ok-p.ensures.0 _ _ refl c.if-n-eq0.true (omega arith)

pub measure_arguments-returns-then-n-eq0 : goal.measure_arguments-returns-then-n-eq0
measure_arguments-returns-then-n-eq0 t c = void-fits _ _ _ _ _ _ c.in_ok-p.ensures.0 _ _ refl c.if-n-eq0.true (omega arith)

pub measure_arguments-returns-in_err-u : goal.measure_arguments-returns-in_err-u
measure_arguments-returns-in_err-u t c = passed _ _ c.from_residual-in_err-u.ensures.1 ∙ first-refused _ _ _ _ _ _ c.in_ok-p.ensures.0 _ _ refl _ (omega arith) (rw (c.index_at-first.ensures, c.start-around.ensures) at c.in_err-u.ensures)

pub measure_arguments-overflow_add-fixed : goal.measure_arguments-overflow_add-fixed
measure_arguments-overflow_add-fixed t c = omega (arith, fits-within _ _ _ _ c.in_ok-u.ensures, c.ranges.room)

pub measure_arguments-loop-left-init : goal.measure_arguments-loop-left-init
measure_arguments-loop-left-init t c = (omega (arith, fits-within _ _ _ _ c.in_ok-u.ensures), omega (arith, c.in_ok-p.ensures.1), first_fits _ _ _ _ _ _ c.in_ok-p.ensures.0 _ _ refl _ _ (omega arith) (rw (c.index_at-first.ensures, c.start-around.ensures) at c.in_ok-u.ensures))

pub measure_arguments-returns-then-more-lt2 : goal.measure_arguments-returns-then-more-lt2
measure_arguments-returns-then-more-lt2 t c = rest_over _ _ _ _ _ _ _ c.loop-left.invariant.2 (omega arith) (omega arith)

pub measure_arguments-returns-in_err-x : goal.measure_arguments-returns-in_err-x
measure_arguments-returns-in_err-x t c = passed _ _ c.from_residual-in_err-x.ensures.1 ∙ rest-refused _ _ _ _ _ _ _ c.loop-left.invariant.2 _ (omega arith) (omega arith) (rw (c.index_at-next.ensures, c.start-bare.ensures) at c.in_err-x.ensures)

pub measure_arguments-overflow_add-fixed-in-loop-left : goal.measure_arguments-overflow_add-fixed-in-loop-left
measure_arguments-overflow_add-fixed-in-loop-left t c = omega (arith, fits-within _ _ _ _ c.in_ok-x.ensures, c.ranges.room)

pub measure_arguments-overflow_add-fixed-in-loop-left-2 : goal.measure_arguments-overflow_add-fixed-in-loop-left-2
measure_arguments-overflow_add-fixed-in-loop-left-2 t c = omega (arith, fits-within _ _ _ _ c.in_ok-x.ensures, c.ranges.room)

pub measure_arguments-overflow_add-fixed-in-loop-left-3 : goal.measure_arguments-overflow_add-fixed-in-loop-left-3
measure_arguments-overflow_add-fixed-in-loop-left-3 t c = omega (arith, fits-within _ _ _ _ c.in_ok-x.ensures, c.ranges.room)

pub measure_arguments-loop-left-preserved : goal.measure_arguments-loop-left-preserved
measure_arguments-loop-left-preserved t c = (omega (arith, fits-within _ _ _ _ c.in_ok-x.ensures), omega arith, rest_more _ _ _ _ _ _ _ c.loop-left.invariant.2 _ _ (omega arith) (omega arith) (rw (c.index_at-next.ensures, c.start-bare.ensures) at c.in_ok-x.ensures))

pub measure_arguments-returns : goal.measure_arguments-returns
measure_arguments-returns t c = rest-done _ _ _ _ _ _ _ c.loop-left.invariant.2 (omega arith)

pub measure_declarator-returns-then-d-eq0 : goal.measure_declarator-returns-then-d-eq0
measure_declarator-returns-then-d-eq0 t c = too-deep _ _ _ _ _ _ c.if-d-eq0.true

pub measure_declarator-returns-then-room-n : goal.measure_declarator-returns-then-room-n
measure_declarator-returns-then-room-n t c = last-over _ _ _ _ _ _ (omega arith) _ c.step_of.ensures _ c.in-Last.is (omega arith)

pub measure_declarator-returns-in-Last : goal.measure_declarator-returns-in-Last
measure_declarator-returns-in-Last t c = last_fits _ _ _ _ _ _ (omega arith) _ c.step_of.ensures _ _ c.in-Last.is c.len-n.ensures (omega arith)

pub measure_declarator-returns-then-room-x : goal.measure_declarator-returns-then-room-x
measure_declarator-returns-then-room-x t c = inward-over _ _ _ _ _ _ (omega arith) _ c.step_of.ensures _ _ _ _ c.in-Inward.is (omega arith)

pub measure_declarator-returns-then-room-x-2 : goal.measure_declarator-returns-then-room-x-2
measure_declarator-returns-then-room-x-2 t c = inward-over _ _ _ _ _ _ (omega arith) _ c.step_of.ensures _ _ _ _ c.in-Inward.is (omega arith)

pub measure_declarator-returns-in_err-m-in-Inward : goal.measure_declarator-returns-in_err-m-in-Inward
measure_declarator-returns-in_err-m-in-Inward t c = passed _ _ c.from_residual.ensures.1 ∙ inward-is _ _ _ _ _ _ (omega arith) _ c.step_of.ensures _ _ _ _ c.in-Inward.is _ _ (Err _) c.len-x.ensures c.len-y.ensures (omega arith) c.in_err-m-in-Inward.ensures

pub measure_declarator-overflow_add-left : goal.measure_declarator-overflow_add-left
measure_declarator-overflow_add-left t c = omega (arith, fits-within _ _ _ _ c.in_ok-m-in-Inward.ensures, c.ranges.room)

pub measure_declarator-overflow_add-right : goal.measure_declarator-overflow_add-right
measure_declarator-overflow_add-right t c = omega (arith, fits-within _ _ _ _ c.in_ok-m-in-Inward.ensures, c.ranges.room)

pub measure_declarator-returns-in-Inward : goal.measure_declarator-returns-in-Inward
measure_declarator-returns-in-Inward t c = inward-is _ _ _ _ _ _ (omega arith) _ c.step_of.ensures _ _ _ _ c.in-Inward.is _ _ (Ok (_, _)) c.len-x.ensures c.len-y.ensures (omega arith) c.in_ok-m-in-Inward.ensures

pub measure_declarator-returns-then-room-x-3 : goal.measure_declarator-returns-then-room-x-3
measure_declarator-returns-then-room-x-3 t c = call-over _ _ _ _ _ _ (omega arith) _ c.step_of.ensures _ _ _ _ _ _ c.in-Call.is (omega arith)

pub measure_declarator-returns-then-room-x-4 : goal.measure_declarator-returns-then-room-x-4
measure_declarator-returns-then-room-x-4 t c = call-over _ _ _ _ _ _ (omega arith) _ c.step_of.ensures _ _ _ _ _ _ c.in-Call.is (omega arith)

pub measure_declarator-returns-in_err-u-in-Call : goal.measure_declarator-returns-in_err-u-in-Call
measure_declarator-returns-in_err-u-in-Call t c = passed _ _ c.from_residual-in_err-u-in-Call.ensures.1 ∙ call-refused _ _ _ _ _ _ (omega arith) _ c.step_of.ensures _ _ _ _ _ _ c.in-Call.is _ _ c.len-x-in-Call.ensures c.len-y-in-Call.ensures (omega arith) _ c.in_err-u-in-Call.ensures

pub measure_declarator-overflow_add-w : goal.measure_declarator-overflow_add-w
measure_declarator-overflow_add-w t c = omega (arith, fits-within _ _ _ _ c.in_ok-u-in-Call.ensures, c.ranges.room)

pub measure_declarator-overflow_sub-more-in-Call-2 : goal.measure_declarator-overflow_sub-more-in-Call-2
measure_declarator-overflow_sub-more-in-Call-2 t c = omega (arith, fits-within _ _ _ _ c.in_ok-u-in-Call.ensures, c.ranges.room)

pub measure_declarator-returns-then-more-z : goal.measure_declarator-returns-then-more-z
measure_declarator-returns-then-more-z t c = call-shut _ _ _ _ _ _ (omega arith) _ c.step_of.ensures _ _ _ _ _ _ c.in-Call.is _ _ c.len-x-in-Call.ensures c.len-y-in-Call.ensures (omega arith) _ _ c.in_ok-u-in-Call.ensures (omega (arith, c.len-z.ensures))

pub measure_declarator-returns-in_err-m-in-Call : goal.measure_declarator-returns-in_err-m-in-Call
measure_declarator-returns-in_err-m-in-Call t c = passed _ _ c.from_residual-in_err-m-in-Call.ensures.1 ∙ call-is _ _ _ _ _ _ (omega arith) _ c.step_of.ensures _ _ _ _ _ _ c.in-Call.is _ _ c.len-x-in-Call.ensures c.len-y-in-Call.ensures (omega arith) _ _ c.in_ok-u-in-Call.ensures _ (Err _) c.len-z.ensures (omega arith) c.in_err-m-in-Call.ensures

pub measure_declarator-overflow_add-left-in-Call : goal.measure_declarator-overflow_add-left-in-Call
measure_declarator-overflow_add-left-in-Call t c = omega (arith, fits-within _ _ _ _ c.in_ok-u-in-Call.ensures, fits-within _ _ _ _ c.in_ok-m-in-Call.ensures, c.ranges.room)

pub measure_declarator-overflow_add-right-in-Call : goal.measure_declarator-overflow_add-right-in-Call
measure_declarator-overflow_add-right-in-Call t c = omega (arith, fits-within _ _ _ _ c.in_ok-u-in-Call.ensures, fits-within _ _ _ _ c.in_ok-m-in-Call.ensures, c.ranges.room)

pub measure_declarator-overflow_add-right-in-Call-2 : goal.measure_declarator-overflow_add-right-in-Call-2
measure_declarator-overflow_add-right-in-Call-2 t c = omega (arith, fits-within _ _ _ _ c.in_ok-u-in-Call.ensures, fits-within _ _ _ _ c.in_ok-m-in-Call.ensures, c.ranges.room)

pub measure_declarator-overflow_add-right-in-Call-3 : goal.measure_declarator-overflow_add-right-in-Call-3
measure_declarator-overflow_add-right-in-Call-3 t c = omega (arith, fits-within _ _ _ _ c.in_ok-u-in-Call.ensures, fits-within _ _ _ _ c.in_ok-m-in-Call.ensures, c.ranges.room)

pub measure_declarator-returns-in-Call : goal.measure_declarator-returns-in-Call
measure_declarator-returns-in-Call t c = call_fits _ _ _ _ _ _ (omega arith) _ c.step_of.ensures _ _ _ _ _ _ c.in-Call.is _ _ c.len-x-in-Call.ensures c.len-y-in-Call.ensures (omega arith) _ _ c.in_ok-u-in-Call.ensures _ _ _ c.len-z.ensures (omega arith) c.in_ok-m-in-Call.ensures

pub measure_declarator-returns-in-Refused : goal.measure_declarator-returns-in-Refused
measure_declarator-returns-in-Refused t c = refused-is _ _ _ _ _ _ (omega arith) _ c.step_of.ensures _ c.in-Refused.is
