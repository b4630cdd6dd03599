-- `declare_type::node::is_taken` meets its contract. Assumes nothing.
use Rattle.answer.specs.Tables.{among}
use Rattle.declare_type.specs.Looked.{declared_leaves, list_leaves}
use Rattle.declare_type.proofs.LookLaws.{test-is, not_taken}
use Rattle.declare_type.proofs.node.is_taken.Goals as goal

pub returns-then-list : goal.returns-then-list
unfolding among declared_leaves list_leaves
returns-then-list c = rw c.if-list.true (test-is _)

pub returns-then-leaf-eq-LF_MODIFIER : goal.returns-then-leaf-eq-LF_MODIFIER
unfolding among declared_leaves list_leaves
returns-then-leaf-eq-LF_MODIFIER c = rw (c.if-list.false, c.if-leaf-eq-LF_MODIFIER.true)

pub returns-then-leaf-eq-LF_POINTER : goal.returns-then-leaf-eq-LF_POINTER
unfolding among declared_leaves list_leaves
returns-then-leaf-eq-LF_POINTER c = rw (c.if-list.false, c.if-leaf-eq-LF_POINTER.true)

pub returns-then-leaf-eq-LF_PROCEDURE : goal.returns-then-leaf-eq-LF_PROCEDURE
unfolding among declared_leaves list_leaves
returns-then-leaf-eq-LF_PROCEDURE c = rw (c.if-list.false, c.if-leaf-eq-LF_PROCEDURE.true)

pub returns-then-leaf-eq-LF_ARRAY : goal.returns-then-leaf-eq-LF_ARRAY
unfolding among declared_leaves list_leaves
returns-then-leaf-eq-LF_ARRAY c = rw (c.if-list.false, c.if-leaf-eq-LF_ARRAY.true)

pub returns-then-leaf-eq-LF_CLASS : goal.returns-then-leaf-eq-LF_CLASS
unfolding among declared_leaves list_leaves
returns-then-leaf-eq-LF_CLASS c = rw (c.if-list.false, c.if-leaf-eq-LF_CLASS.true)

pub returns-then-leaf-eq-LF_STRUCTURE : goal.returns-then-leaf-eq-LF_STRUCTURE
unfolding among declared_leaves list_leaves
returns-then-leaf-eq-LF_STRUCTURE c = rw (c.if-list.false, c.if-leaf-eq-LF_STRUCTURE.true)

pub returns-then-leaf-eq-LF_INTERFACE : goal.returns-then-leaf-eq-LF_INTERFACE
unfolding among declared_leaves list_leaves
returns-then-leaf-eq-LF_INTERFACE c = rw (c.if-list.false, c.if-leaf-eq-LF_INTERFACE.true)

pub returns-then-leaf-eq-LF_UNION : goal.returns-then-leaf-eq-LF_UNION
unfolding among declared_leaves list_leaves
returns-then-leaf-eq-LF_UNION c = rw (c.if-list.false, c.if-leaf-eq-LF_UNION.true)

pub returns-then-leaf-eq-LF_ENUM : goal.returns-then-leaf-eq-LF_ENUM
unfolding among declared_leaves list_leaves
returns-then-leaf-eq-LF_ENUM c = rw (c.if-list.false, c.if-leaf-eq-LF_ENUM.true)

pub returns-then-leaf-eq-LF_STRUCTURE19 : goal.returns-then-leaf-eq-LF_STRUCTURE19
unfolding among declared_leaves list_leaves
returns-then-leaf-eq-LF_STRUCTURE19 c = rw (c.if-list.false, c.if-leaf-eq-LF_STRUCTURE19.true)

pub returns : goal.returns
returns c = rw c.if-list.false (not_taken c.args.leaf c.if-leaf-eq-LF_MODIFIER.false c.if-leaf-eq-LF_POINTER.false c.if-leaf-eq-LF_PROCEDURE.false c.if-leaf-eq-LF_ARRAY.false c.if-leaf-eq-LF_CLASS.false c.if-leaf-eq-LF_STRUCTURE.false c.if-leaf-eq-LF_INTERFACE.false c.if-leaf-eq-LF_UNION.false c.if-leaf-eq-LF_ENUM.false c.if-leaf-eq-LF_STRUCTURE19.false)
