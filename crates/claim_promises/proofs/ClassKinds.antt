-- A structure's record is answered as a structure, and an interface's as an interface, though they have one layout: the same bytes but for the leaf, computed.
use Rattle.std.specs.Prelude.{Result, Ok, None, Some}
use Rattle.answer.specs.declared.Refusal.{Refusal}
use Rattle.record_data.specs.declared.TypeData.{TypeData}
use Prim.Native.Nat.{ℕ}
use mathlib.Core.Path.{◌≡◌, refl}
use mathlib.Core.Bool.{false}
use mathlib.Core.List.{List, [], ◌∷◌}
use Rattle.answer.specs.Tables.{find, among}
use Rattle.field.specs.Fields.{little_at, fixed_at}
use Rattle.field.specs.Bytes.{bytes}
use Rattle.field.specs.Indices.{optional_of, optional_at}
use Rattle.field_text.specs.Texts.{to_zero, string_at}
use Rattle.field_number.specs.Numbers.{numeric_at, size_at}
use Rattle.field_number.specs.Forms.{shortest, form_of, sized_by}
use Rattle.record_layout.specs.Fields.{read_field_by, read_fields_by}
use Rattle.record_layout.specs.Layouts.{type_leaves, read_leaf, leaf_of, record_of}
use Rattle.record_data.specs.Said.{class_kinds, type_values}
use Rattle.record_data.specs.declared.ClassKind.{ClassKind}
use Rattle.record_data.specs.declared.ClassKind.TheVariants as kind
use Rattle.record_data.specs.declared.TypeData.TheVariants as type
use Rattle.answer.specs.Refusals.{said}

-- a record of two bytes and the name S, without members, behind this leaf
abbrev of_leaf : ℕ → List ℕ
of_leaf low = low ∷ 0x15 ∷ 0 ∷ 0 ∷ 0 ∷ 0 ∷ 0 ∷ 0 ∷ 0 ∷ 0 ∷ 0 ∷ 0 ∷ 0 ∷ 0 ∷ 0 ∷ 0 ∷ 0 ∷ 0 ∷ 2 ∷ 0 ∷ 0x53 ∷ 0 ∷ []

abbrev of_kind : ClassKind → Result TypeData Refusal
of_kind k = Ok (type.Class (record {
  kind = k;
  count = 0;
  properties = record { 0 = 0 };
  fields = None;
  derived_from = None;
  vtable_shape = None;
  size = record { value = 2; width = 2; shorter = false };
  name = record { place = 20; length = 1 };
  unique_name = None;
}))

pub kinds :
    (said type_values (of_kind kind.Class) ≡ record_of type_leaves (of_leaf 0x04))
    × (said type_values (of_kind kind.Struct) ≡ record_of type_leaves (of_leaf 0x05))
    × (said type_values (of_kind kind.Interface) ≡ record_of type_leaves (of_leaf 0x19))
unfolding record_of leaf_of read_leaf find among bytes type_leaves read_fields_by read_field_by fixed_at little_at optional_at optional_of sized_by size_at numeric_at form_of shortest string_at to_zero
kinds = (refl, refl, refl)

-- what `class_kind` answers by; 0x1609 has a layout of its own
pub class-kinds :
    (find 0x1504 class_kinds ≡ Some kind.Class) × (find 0x1505 class_kinds ≡ Some kind.Struct) × (find 0x1519 class_kinds ≡ Some kind.Interface) × (find 0x1609 class_kinds ≡ None)
unfolding find class_kinds
class-kinds = (refl, refl, refl, refl)
