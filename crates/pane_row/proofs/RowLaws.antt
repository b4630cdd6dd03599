-- The row of a class, whatever its kind, and of a virtual base class, direct or not. Assumes nothing.
use Prim.Native.Nat.{ℕ}
use mathlib.Core.Bool.{Bool, true, false}
use mathlib.Core.Path.{◌≡◌, refl}
use mathlib.Core.List.{List, [], ◌∷◌}
use lib.IntN.{pos}
use Rattle.answer.specs.Tables.{find}
use Rattle.field.specs.Indices.{type_option}
use Rattle.field_number.specs.Forms.{Form, size_form}
use Rattle.record_layout.specs.Fields.{number, numeral, or_absent}
use Rattle.record_data.specs.Said.{kind_leaf, kind_values, string_value}
use Rattle.record_data.specs.declared.ClassKind.{ClassKind}
use Rattle.record_data.specs.declared.ClassKind.TheVariants as kind
use Rattle.record_data.specs.declared.ClassType.{ClassType}
use Rattle.record_member.specs.Said.{virtual_leaf}
use Rattle.pane_row.specs.Slots.{form_in, first_of, second_of, puts, row_by}
use Rattle.pane_row.specs.TypePlaces.{type_slots, type_row}
use Rattle.pane_row.specs.ElementPlaces.{member_slots, member_row}

abbrev pub class_row : ClassKind → ClassType → List ℕ
class_row k d =
    kind_leaf k ∷ d.count ∷ d.properties.0 ∷ 0 ∷ first_of (or_absent {W = Form} (type_option d.fields)) ∷ first_of (or_absent {W = Form} (type_option d.derived_from))
    ∷ first_of (or_absent {W = Form} (type_option d.vtable_shape)) ∷ d.size.value ∷ form_in (size_form d.size) ∷ d.name.place ∷ d.name.length
    ∷ first_of (string_value d.unique_name) ∷ second_of (string_value d.unique_name) ∷ []

pub class-row : (k : ClassKind) (d : ClassType) → type_row (kind_values k d) ≡ class_row k d
unfolding find type_slots row_by puts
class-row kind.Class d = refl
class-row kind.Struct d = refl
class-row kind.Interface d = refl
class-row kind.Struct19 d = refl

pub virtual-row : (b : Bool) (a t p x y : ℕ) (f g : Form)
    → member_row (number (virtual_leaf b) ∷ number a ∷ number t ∷ number p ∷ numeral (pos x) f ∷ numeral (pos y) g ∷ [])
    ≡ virtual_leaf b ∷ a ∷ t ∷ p ∷ x ∷ y ∷ form_in f ∷ form_in g ∷ 0 ∷ 0 ∷ []
unfolding find member_slots row_by puts
virtual-row true a t p x y f g = refl
virtual-row false a t p x y f g = refl
