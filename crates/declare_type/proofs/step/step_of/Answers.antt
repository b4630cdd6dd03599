-- `declare_type::step::step_of` meets its contract. Assumes nothing.
use mathlib.Core.Path.{refl, ap}
use Rattle.declare_type.specs.declared.step.Step.TheVariants as step
use Rattle.declare_type.proofs.StepLaws.{step_is}
use Rattle.declare_type.proofs.step.step_of.Goals as goal

pub returns-in-Primitive : goal.returns-in-Primitive
returns-in-Primitive c = step_is _ _ _ _ _ _ _ c.node_of.ensures c.in-Primitive.is (ap step.Last c.primitive_token-base.ensures)

pub returns-in-Named : goal.returns-in-Named
returns-in-Named c = step_is _ _ _ _ _ _ _ c.node_of.ensures c.in-Named.is (refl)

pub returns-in-Pointer : goal.returns-in-Pointer
returns-in-Pointer c = step_is _ _ _ _ _ _ _ c.node_of.ensures c.in-Pointer.is (rw (c.no_quals.ensures, c.union_of-all.ensures))

pub returns-in-Modifier : goal.returns-in-Modifier
returns-in-Modifier c = step_is _ _ _ _ _ _ _ c.node_of.ensures c.in-Modifier.is (rw c.union_of-all-in-Modifier.ensures)

pub returns-in-Array : goal.returns-in-Array
returns-in-Array c = step_is _ _ _ _ _ _ _ c.node_of.ensures c.in-Array.is (rw c.open-left.ensures)

pub returns-in-Procedure : goal.returns-in-Procedure
returns-in-Procedure c = step_is _ _ _ _ _ _ _ c.node_of.ensures c.in-Procedure.is (rw (c.open-left-in-Procedure.ensures, c.no_quals-in-Procedure.ensures))

pub returns-in-Refused : goal.returns-in-Refused
returns-in-Refused c = step_is _ _ _ _ _ _ _ c.node_of.ensures c.in-Refused.is (refl)
