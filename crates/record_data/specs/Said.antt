-- What a type record says: its leaf, and the values of its layout in the layout's order. To be read against the table type_leaves of
-- record_layout/specs/Layouts.antt.
use Rattle.std.specs.Prelude.{Option, None, Some, ℕ, suc, ◌+◌, ◌*◌, ◌/◌, ◌≡◌, List, [], ◌∷◌}
use Rattle.field_text.specs.declared.RawString.{RawString}
use Rattle.field.specs.declared.index.TypeIndex.{TypeIndex}
use Rattle.answer.specs.Answer.{Answer, answered, and_then}
use Rattle.answer.specs.Tables.{Line, ◌is◌, find}
use Rattle.field_text.specs.Texts.{part}
use Rattle.field.specs.Indices.{type_option}
use Rattle.record_layout.specs.Fields.{number, absent, many, or_absent, Shown}
use Rattle.record_layout.specs.Layouts.{class, by_layout}
use Rattle.record_layout.specs.Values.{nth, number_in, size_value}
use Rattle.record_data.specs.declared.ClassKind.{ClassKind}
use Rattle.record_data.specs.declared.ClassKind.TheVariants as kind
use Rattle.record_data.specs.declared.ClassType.{ClassType}
use Rattle.record_data.specs.declared.TypeData.{TypeData}
use Rattle.record_data.specs.declared.TypeData.TheVariants as type

-- a string that may be absent
abbrev pub string_value : Option RawString → Shown
string_value None = absent
string_value (Some t) = many (part t)

-- a pointer's class that may be absent
abbrev pub class_value : Option TypeIndex → Shown
class_value t = or_absent (type_option t)

-- count, properties, O, O, O, N, S, and a second S
abbrev pub class_values : ClassType → List Shown
class_values r =
    number r.count ∷ number r.properties.0 ∷ or_absent (type_option r.fields) ∷ or_absent (type_option r.derived_from) ∷ or_absent (type_option r.vtable_shape)
    ∷ size_value r.size ∷ many (part r.name) ∷ string_value r.unique_name ∷ []

-- the leaf of each kind
abbrev pub kind_leaf : ClassKind → ℕ
kind_leaf kind.Class = 0x1504
kind_leaf kind.Struct = 0x1505
kind_leaf kind.Interface = 0x1519
kind_leaf kind.Struct19 = 0x1609

-- and its values: 0x1609 has its properties first, in a u32, and its count after the indices
abbrev pub kind_values : ClassKind → ClassType → List Shown
kind_values kind.Class r = number 0x1504 ∷ class_values r
kind_values kind.Struct r = number 0x1505 ∷ class_values r
kind_values kind.Interface r = number 0x1519 ∷ class_values r
kind_values kind.Struct19 r =
    number 0x1609 ∷ number r.properties.0 ∷ absent ∷ or_absent (type_option r.fields) ∷ or_absent (type_option r.derived_from) ∷ or_absent (type_option r.vtable_shape)
    ∷ number r.count ∷ size_value r.size ∷ many (part r.name) ∷ string_value r.unique_name ∷ []

-- the three kinds that have one layout, by their leaves
unfoldable pub class_kinds : List (Line ClassKind)
class_kinds = (0x1504 is kind.Class) ∷ (0x1505 is kind.Struct) ∷ (0x1519 is kind.Interface) ∷ []

-- a kind whose record says its leaf and then the values of a class in their order: all but 0x1609
abbrev pub Plain : ClassKind → Type 0
Plain k = (r : ClassType) → kind_values k r ≡ number (kind_leaf k) ∷ class_values r

-- what a record with such a leaf says, its fields at p: all the values of a class's layout, wherever the last one ends
abbrev pub class_of : ℕ → List ℕ → ℕ → Answer (List Shown)
class_of leaf s p = and_then (by_layout (Some class) leaf s p) (λ vs e. answered vs)

abbrev pub type_values : TypeData → List Shown
type_values (type.Class r) = kind_values r.kind r
type_values (type.MemberFunction r) =
    number 0x1009 ∷ number r.return_type.0 ∷ number r.class_type.0 ∷ or_absent (type_option r.this_pointer_type) ∷ number r.attributes.0
    ∷ number r.parameter_count ∷ number r.argument_list.0 ∷ number r.this_adjustment ∷ []
type_values (type.Procedure r) =
    number 0x1008 ∷ or_absent (type_option r.return_type) ∷ number r.attributes.0 ∷ number r.parameter_count ∷ number r.argument_list.0 ∷ []
type_values (type.Pointer r) = number 0x1002 ∷ number r.underlying_type.0 ∷ number r.attributes.0 ∷ or_absent (type_option r.containing_class) ∷ []
type_values (type.Modifier r) = number 0x1001 ∷ number r.underlying_type.0 ∷ number r.flags.0 ∷ []
type_values (type.Enumeration r) =
    number 0x1507 ∷ number r.count ∷ number r.properties.0 ∷ number r.underlying_type.0 ∷ number r.fields.0 ∷ many (part r.name) ∷ string_value r.unique_name ∷ []
type_values (type.Array r) = number 0x1503 ∷ number r.element_type.0 ∷ number r.indexing_type.0 ∷ size_value r.size ∷ many (part r.name) ∷ []
type_values (type.Union r) =
    number 0x1506 ∷ number r.count ∷ number r.properties.0 ∷ number r.fields.0 ∷ size_value r.size ∷ many (part r.name) ∷ string_value r.unique_name ∷ []
type_values (type.Bitfield r) = number 0x1205 ∷ number r.underlying_type.0 ∷ number r.length ∷ number r.position ∷ []
type_values (type.VirtualTableShape r) = number 0x000a ∷ number r.count ∷ many (record { place = r.place; length = (r.count + 1) / 2 }) ∷ []
type_values type.FieldList = number 0x1203 ∷ absent ∷ []
type_values (type.ArgumentList r) = number 0x1201 ∷ number r.count ∷ many (record { place = r.place; length = 4 * r.count }) ∷ []
type_values type.MethodList = number 0x1206 ∷ absent ∷ []

-- Names ------------------------------------------------------------------------------------------------------------------------

-- the leaves whose name the crate's `name` gives, and at which place of its line in type_leaves it stands, counted from 0; 0x1503 has one, and it
-- does not give it
unfoldable pub name_places : List (Line ℕ)
name_places = (0x1504 is 6) ∷ (0x1505 is 6) ∷ (0x1519 is 6) ∷ (0x1506 is 4) ∷ (0x1507 is 4) ∷ (0x1609 is 7) ∷ []

-- value k of a line stands behind the leaf and k values
abbrev pub name_by : Option ℕ → List Shown → Shown
name_by None vs = absent
name_by (Some k) vs = nth (suc k) vs

-- the name of a type, by the leaf that its values begin with
unfoldable pub type_data_name : List Shown → Shown
type_data_name vs = name_by (find (number_in (nth 0 vs)) name_places) vs
