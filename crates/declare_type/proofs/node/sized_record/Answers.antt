-- `declare_type::node::sized_record` meets its contract. Assumes nothing.
use Rattle.answer.proofs.Told.{told}
use mathlib.Core.Path.{refl}
use mathlib.Core.List.{[], ◌∷◌}
use Rattle.answer.specs.Tables.{find, among}
use Rattle.declare_type.specs.Nodes.{sized_in, classes}
use Rattle.declare_type.proofs.NodeLaws.{class-size}
use Rattle.record_data.proofs.Tags.{leaf_tags, not-leaf}
use borrow.Enum.Refused.{opened}
use Rattle.declare_type.proofs.node.sized_record.Goals as goal
use Rattle.answer.specs.Refusals.{itself, said}

pub returns-in-Class : goal.returns-in-Class
returns-in-Class c = rw c.in-Class.is (class-size c.in-Class.r.kind c.in-Class.r)

pub returns-in-Union : goal.returns-in-Union
unfolding sized_in among classes
returns-in-Union c = rw c.in-Union.is

pub returns-in-Array : goal.returns-in-Array
unfolding sized_in among classes
returns-in-Array c = rw c.in-Array.is

pub returns-in-Modifier : goal.returns-in-Modifier
unfolding sized_in among classes
returns-in-Modifier c = rw c.in-Modifier.is

pub returns-in-Enumeration : goal.returns-in-Enumeration
unfolding sized_in among classes
returns-in-Enumeration c = rw c.in-Enumeration.is

pub returns-in-Ok : goal.returns-in-Ok
unfolding sized_in among classes
returns-in-Ok c = rw (c.in-Pointer.is, told (said itself) c.size.ensures c.in-Ok.is)

pub returns-in-Err : goal.returns-in-Err
unfolding sized_in among classes
returns-in-Err c = rw (c.in-Pointer.is, told (said itself) c.size.ensures c.in-Err.is)

pub returns-in_default : goal.returns-in_default
unfolding find sized_in among classes leaf_tags
returns-in_default c =
    let no = not-leaf (0 ∷ 3 ∷ 4 ∷ 5 ∷ 6 ∷ 7 ∷ []) c.args.d (opened c.in_default.in_default-own.keys7) in
    rw (
      no 0x1001 4 refl tt,
      no 0x1507 5 refl tt,
      no 0x1002 3 refl tt,
      no 0x1503 6 refl tt,
      no 0x1506 7 refl tt,
      no 0x1609 0 refl tt,
      no 0x1504 0 refl tt,
      no 0x1505 0 refl tt,
      no 0x1519 0 refl tt,
    )
