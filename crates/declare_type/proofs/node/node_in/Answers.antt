-- `declare_type::node::node_in` meets its contract. Assumes nothing.
use mathlib.Core.Path.{refl, ◌∙◌}
use mathlib.Core.List.{[], ◌∷◌}
use Rattle.answer.specs.Tables.{find, among}
use Rattle.declare_type.specs.Nodes.{node_in, classes}
use Rattle.declare_type.proofs.NodeLaws.{class-name}
use Rattle.record_data.proofs.Tags.{leaf_tags, not-leaf}
use Rattle.declare_type.proofs.node.node_in.Goals as goal

pub returns-in-Modifier : goal.returns-in-Modifier
unfolding node_in among classes
returns-in-Modifier c = rw (c.in-Modifier.is, c.modifier_quals.ensures)

pub returns-in-Pointer : goal.returns-in-Pointer
unfolding node_in among classes
returns-in-Pointer c = rw (c.in-Pointer.is, c.pointer_quals.ensures)

pub returns-in-Procedure : goal.returns-in-Procedure
unfolding node_in among classes
returns-in-Procedure c = rw (c.in-Procedure.is, c.or_none.ensures)

pub returns-in-Array : goal.returns-in-Array
unfolding node_in among classes
returns-in-Array c = rw (c.in-Array.is, c.extent_of.ensures, c.size_of-one.ensures)

pub returns-in-Class : goal.returns-in-Class
returns-in-Class c = rw c.in-Class.is (c.name_at.ensures ∙ class-name _ _ _ _ c.in-Class.r.kind c.in-Class.r)

pub returns-in-Union : goal.returns-in-Union
unfolding node_in among classes
returns-in-Union c = rw c.in-Union.is c.name_at-in-Union.ensures

pub returns-in-Enumeration : goal.returns-in-Enumeration
unfolding node_in among classes
returns-in-Enumeration c = rw c.in-Enumeration.is c.name_at-in-Enumeration.ensures

pub returns-in_default : goal.returns-in_default
unfolding find node_in among classes leaf_tags
returns-in_default c =
    let no = not-leaf (0 ∷ 2 ∷ 3 ∷ 4 ∷ 5 ∷ 6 ∷ 7 ∷ []) c.args.d c.in_default.in_default-own.keys8 in
    rw (
      no 0x1001 4 refl tt,
      no 0x1002 3 refl tt,
      no 0x1008 2 refl tt,
      no 0x1503 6 refl tt,
      no 0x1506 7 refl tt,
      no 0x1507 5 refl tt,
      no 0x1609 0 refl tt,
      no 0x1504 0 refl tt,
      no 0x1505 0 refl tt,
      no 0x1519 0 refl tt,
    )
