-- What a type's answer says fixes the answer: the record is read back from its leaf and its values. Assumes nothing.
use Rattle.std.specs.Prelude.{Result, Option, None, Some}
use Rattle.field_text.specs.declared.RawString.{RawString}
use Rattle.answer.specs.declared.Refusal.{Refusal}
use Rattle.field.specs.declared.index.TypeIndex.{TypeIndex}
use mathlib.Core.Path.{◌≡◌, refl}
use mathlib.Core.List.{List, [], ◌∷◌}
use Rattle.answer.specs.Tables.{Line, ◌is◌, find}
use Rattle.answer.proofs.OneOutcome.{one_of, one_said}
use Rattle.field.proofs.OneOutcome.{hear_optional_type}
use Rattle.record_layout.specs.Fields.{number, numeral, absent, many, Shown}
use Rattle.record_layout.specs.Values.{nth, number_in, string_in, option_in}
use Rattle.record_layout.proofs.OneOutcome.{size_in, type-back}
use Rattle.record_data.specs.Said.{string_value, kind_values, type_values}
use Rattle.record_data.specs.declared.ClassKind.{ClassKind}
use Rattle.record_data.specs.declared.ClassKind.TheVariants as kind
use Rattle.record_data.specs.declared.ClassType.{ClassType}
use Rattle.record_data.specs.declared.TypeData.{TypeData}
use Rattle.record_data.specs.declared.TypeData.TheVariants as type
use Rattle.answer.specs.Refusals.{said}

abbrev opt_in : Shown → Option RawString
opt_in (many x) = Some (record { place = x.place; length = x.length })
opt_in (number n) = None
opt_in (numeral z f) = None
opt_in absent = None

opt-back : (t : Option RawString) → opt_in (string_value t) ≡ t
opt-back None = refl
opt-back (Some t) = refl

pub one_name : (r q : Option RawString) → string_value r ≡ string_value q → r ≡ q
one_name = one_of string_value opt_in opt-back

abbrev type_in : Shown → Option TypeIndex
type_in v = hear_optional_type (option_in v)

abbrev class_in : ClassKind → List Shown → TypeData
class_in k vs = type.Class (record {
  kind = k;
  count = number_in (nth 1 vs);
  properties = record { 0 = number_in (nth 2 vs) };
  fields = type_in (nth 3 vs);
  derived_from = type_in (nth 4 vs);
  vtable_shape = type_in (nth 5 vs);
  size = size_in (nth 6 vs);
  name = string_in (nth 7 vs);
  unique_name = opt_in (nth 8 vs);
})

-- how the values behind a leaf lead back to its record
unfoldable pub backs : List (Line (List Shown → TypeData))
backs =
    (0x1504 is class_in kind.Class)
    ∷ (0x1505 is class_in kind.Struct)
    ∷ (0x1519 is class_in kind.Interface)
    ∷ (0x1609 is (λ vs. type.Class (record {
      kind = kind.Struct19;
      count = number_in (nth 6 vs);
      properties = record { 0 = number_in (nth 1 vs) };
      fields = type_in (nth 3 vs);
      derived_from = type_in (nth 4 vs);
      vtable_shape = type_in (nth 5 vs);
      size = size_in (nth 7 vs);
      name = string_in (nth 8 vs);
      unique_name = opt_in (nth 9 vs);
    })))
    ∷ (0x1002 is (λ vs. type.Pointer (record {
      underlying_type = record { 0 = number_in (nth 1 vs) };
      attributes = record { 0 = number_in (nth 2 vs) };
      containing_class = type_in (nth 3 vs);
    })))
    ∷ (0x000a is (λ vs. type.VirtualTableShape (record { place = (string_in (nth 2 vs)).place; count = number_in (nth 1 vs) })))
    ∷ (0x1201 is (λ vs. type.ArgumentList (record { place = (string_in (nth 2 vs)).place; count = number_in (nth 1 vs) })))
    ∷ (0x1206 is (λ vs. type.MethodList))
    ∷ (0x1009 is (λ vs. type.MemberFunction (record { return_type = record { 0 = number_in (nth 1 vs) }; class_type = record { 0 = number_in (nth 2 vs) }; this_pointer_type = type_in (nth 3 vs); attributes = record { 0 = number_in (nth 4 vs) }; parameter_count = number_in (nth 5 vs); argument_list = record { 0 = number_in (nth 6 vs) }; this_adjustment = number_in (nth 7 vs) })))
    ∷ (0x1008 is (λ vs. type.Procedure (record { return_type = type_in (nth 1 vs); attributes = record { 0 = number_in (nth 2 vs) }; parameter_count = number_in (nth 3 vs); argument_list = record { 0 = number_in (nth 4 vs) } })))
    ∷ (0x1001 is (λ vs. type.Modifier (record { underlying_type = record { 0 = number_in (nth 1 vs) }; flags = record { 0 = number_in (nth 2 vs) } })))
    ∷ (0x1507 is (λ vs. type.Enumeration (record { count = number_in (nth 1 vs); properties = record { 0 = number_in (nth 2 vs) }; underlying_type = record { 0 = number_in (nth 3 vs) }; fields = record { 0 = number_in (nth 4 vs) }; name = string_in (nth 5 vs); unique_name = opt_in (nth 6 vs) })))
    ∷ (0x1503 is (λ vs. type.Array (record { element_type = record { 0 = number_in (nth 1 vs) }; indexing_type = record { 0 = number_in (nth 2 vs) }; size = size_in (nth 3 vs); name = string_in (nth 4 vs) })))
    ∷ (0x1506 is (λ vs. type.Union (record { count = number_in (nth 1 vs); properties = record { 0 = number_in (nth 2 vs) }; fields = record { 0 = number_in (nth 3 vs) }; size = size_in (nth 4 vs); name = string_in (nth 5 vs); unique_name = opt_in (nth 6 vs) })))
    ∷ (0x1205 is (λ vs. type.Bitfield (record { underlying_type = record { 0 = number_in (nth 1 vs) }; length = number_in (nth 2 vs); position = number_in (nth 3 vs) })))
    ∷ []

abbrev back_by : Option (List Shown → TypeData) → List Shown → TypeData
back_by None vs = type.FieldList
back_by (Some f) vs = f vs

abbrev pub data_in : List Shown → TypeData
data_in vs = back_by (find (number_in (nth 0 vs)) backs) vs

abbrev with_kind : ClassKind → ClassType → ClassType
with_kind k r = record {
  kind = k;
  count = r.count;
  properties = r.properties;
  fields = r.fields;
  derived_from = r.derived_from;
  vtable_shape = r.vtable_shape;
  size = r.size;
  name = r.name;
  unique_name = r.unique_name;
}

class_back : (k : ClassKind) (r : ClassType) → data_in (kind_values k r) ≡ type.Class (with_kind k r)
unfolding find backs
class_back kind.Class r = rw (type-back r.fields, type-back r.derived_from, type-back r.vtable_shape, opt-back r.unique_name)
class_back kind.Struct r = rw (type-back r.fields, type-back r.derived_from, type-back r.vtable_shape, opt-back r.unique_name)
class_back kind.Interface r = rw (type-back r.fields, type-back r.derived_from, type-back r.vtable_shape, opt-back r.unique_name)
class_back kind.Struct19 r = rw (type-back r.fields, type-back r.derived_from, type-back r.vtable_shape, opt-back r.unique_name)

pub data-back : (d : TypeData) → data_in (type_values d) ≡ d
unfolding find backs
data-back (type.Class r) = class_back r.kind r
data-back (type.MemberFunction r) = rw (type-back r.this_pointer_type)
data-back (type.Procedure r) = rw (type-back r.return_type)
data-back (type.Pointer r) = rw (type-back r.containing_class)
data-back (type.Modifier r) = refl
data-back (type.Enumeration r) = rw (opt-back r.unique_name)
data-back (type.Array r) = refl
data-back (type.Union r) = rw (opt-back r.unique_name)
data-back (type.Bitfield r) = refl
data-back (type.VirtualTableShape r) = refl
data-back type.FieldList = refl
data-back (type.ArgumentList r) = refl
data-back type.MethodList = refl

pub one-type-data : (r q : Result TypeData Refusal) → said type_values r ≡ said type_values q → r ≡ q
one-type-data = one_said type_values data_in data-back
