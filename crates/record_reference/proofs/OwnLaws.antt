-- Records whose leaf is one of several have their references at the same places. Assumes nothing.
use Prim.Native.Nat.{ℕ}
use mathlib.Core.Bool.{Bool, true, false}
use mathlib.Core.List.{List, [], ◌∷◌}
use mathlib.Core.Path.{◌≡◌, refl}
use Rattle.answer.specs.Tables.{find}
use Rattle.field.specs.Indices.{type_option}
use Rattle.record_layout.specs.Fields.{Shown, number, or_absent}
use Rattle.record_layout.specs.Layouts.{type_leaves, member_leaves, virtual_base}
use Rattle.record_data.specs.Said.{kind_values, type_values}
use Rattle.record_data.specs.declared.TypeData.{TypeData}
use Rattle.record_data.specs.declared.TypeData.TheVariants as type
use Rattle.record_data.specs.declared.ClassKind.{ClassKind}
use Rattle.record_data.specs.declared.ClassKind.TheVariants as kind
use Rattle.record_data.specs.declared.ClassType.{ClassType}
use Rattle.record_member.specs.Said.{virtual_leaf}
use Rattle.record_reference.specs.References.{of_value, refs_field}
use Rattle.record_reference.specs.Values.{refs_in, refs_by, slots_in, slots_by, slots, joined}

-- class, structure and interface, of either layout
pub class-own : (k : ClassKind) (r : ClassType) → slots 4 (slots_by type_leaves (kind_values k r) 2)
    ≡ of_value true 6 (or_absent (type_option r.fields)) ∷ of_value true 10 (or_absent (type_option r.derived_from)) ∷ of_value true 14 (or_absent (type_option r.vtable_shape)) ∷ [] ∷ []
unfolding find type_leaves refs_field slots_in slots_by slots
class-own kind.Class r = refl
class-own kind.Struct r = refl
class-own kind.Interface r = refl
class-own kind.Struct19 r = refl

-- a virtual base class, direct or not
pub virtual-own : (direct : Bool) (p : ℕ) (vs : List Shown) → refs_by member_leaves (number (virtual_leaf direct) ∷ vs) p ≡ refs_in virtual_base vs p
unfolding find member_leaves refs_by
virtual-own true p vs = refl
virtual-own false p vs = refl

-- What the slots of a record hold, one after the other, are its references
class-joined : (k : ClassKind) (r : ClassType) → joined (slots 4 (slots_by type_leaves (kind_values k r) 2)) ≡ refs_by type_leaves (kind_values k r) 2
unfolding find type_leaves refs_field refs_in refs_by slots_in slots_by slots
class-joined kind.Class r = refl
class-joined kind.Struct r = refl
class-joined kind.Interface r = refl
class-joined kind.Struct19 r = refl

pub own-joined : (d : TypeData) → joined (slots 4 (slots_by type_leaves (type_values d) 2)) ≡ refs_by type_leaves (type_values d) 2
unfolding find type_leaves refs_field refs_in refs_by slots_in slots_by slots
own-joined (type.Class r) = class-joined r.kind r
own-joined (type.MemberFunction r) = refl
own-joined (type.Procedure r) = refl
own-joined (type.Pointer r) = refl
own-joined (type.Modifier r) = refl
own-joined (type.Enumeration r) = refl
own-joined (type.Array r) = refl
own-joined (type.Union r) = refl
own-joined (type.Bitfield r) = refl
own-joined (type.VirtualTableShape r) = refl
own-joined type.FieldList = refl
own-joined (type.ArgumentList r) = refl
own-joined type.MethodList = refl
