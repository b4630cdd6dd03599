-- The name of a virtual base class: its leaf is one of two, and neither is named. Assumes nothing.
use Rattle.std.specs.Prelude.{None}
use mathlib.Core.Bool.{Bool, true, false}
use mathlib.Core.Path.{◌≡◌, refl}
use mathlib.Core.List.{List, ◌∷◌}
use Rattle.answer.specs.Tables.{among}
use Rattle.record_layout.specs.Fields.{number, Shown}
use Rattle.record_member.specs.Said.{virtual_leaf, named_leaves, member_name}

-- a virtual base class has none, direct or not
pub virtual-unnamed : (direct : Bool) (vs : List Shown) → member_name (number (virtual_leaf direct) ∷ vs) ≡ None
unfolding among member_name named_leaves
virtual-unnamed true vs = refl
virtual-unnamed false vs = refl
