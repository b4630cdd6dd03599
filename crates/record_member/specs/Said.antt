-- What a member and a method of a list say: the leaf of the member, and the values of its layout in the layout's order. To be read against
-- the table member_leaves of record_layout/specs/Layouts.antt.
use Rattle.std.specs.Prelude.{Option, None, Some, ℕ, Bool, List, [], ◌∷◌}
use Rattle.answer.specs.Answer.{pick}
use Rattle.answer.specs.Tables.{among}
use Rattle.field_text.specs.Texts.{Part, part}
use Rattle.record_layout.specs.Fields.{number, numeral, absent, many, number_or, or_absent, Shown}
use Rattle.record_layout.specs.Values.{variant_value, size_value}
use Rattle.record_member.specs.declared.Member.{Member}
use Rattle.record_member.specs.declared.Member.TheVariants as a
use Rattle.record_member.specs.declared.MethodListEntry.{MethodListEntry}

abbrev pub offset_option : Option ℕ → Option ℕ
offset_option o = o

abbrev pub offset_value : Option ℕ → Shown
offset_value o = or_absent (offset_option o)

-- a virtual base class is direct or indirect
abbrev pub virtual_leaf : Bool → ℕ
virtual_leaf direct = pick direct 0x1401 0x1402

abbrev pub member_values : Member → List Shown
member_values (a.BaseClass m) = number 0x1400 ∷ number m.attributes.0 ∷ number m.base_class.0 ∷ size_value m.offset ∷ []
member_values (a.VirtualBaseClass m) =
    number (virtual_leaf m.direct) ∷ number m.attributes.0 ∷ number m.base_class.0 ∷ number m.base_pointer.0
    ∷ size_value m.base_pointer_offset ∷ size_value m.virtual_base_offset ∷ []
member_values (a.Continuation t) = number 0x1404 ∷ absent ∷ number t.0 ∷ []
member_values (a.VirtualFunctionTablePointer m) = number 0x1409 ∷ absent ∷ number m.table.0 ∷ []
member_values (a.Enumerate m) = number 0x1502 ∷ number m.attributes.0 ∷ variant_value m.value ∷ many (part m.name) ∷ []
member_values (a.Member m) =
    number 0x150d ∷ number m.attributes.0 ∷ number m.field_type.0 ∷ size_value m.offset ∷ many (part m.name) ∷ []
member_values (a.StaticMember m) = number 0x150e ∷ number m.attributes.0 ∷ number m.field_type.0 ∷ many (part m.name) ∷ []
member_values (a.OverloadedMethod m) = number 0x150f ∷ number m.count ∷ number m.method_list.0 ∷ many (part m.name) ∷ []
member_values (a.Nested m) = number 0x1510 ∷ number m.attributes.0 ∷ number m.nested_type.0 ∷ many (part m.name) ∷ []
member_values (a.Method m) =
    number 0x1511 ∷ number m.attributes.0 ∷ number m.method_type.0 ∷ or_absent (offset_option m.vtable_offset)
    ∷ many (part m.name) ∷ []

abbrev pub entry_values : MethodListEntry → List Shown
entry_values m = number m.attributes.0 ∷ absent ∷ number m.method_type.0 ∷ or_absent (offset_option m.vtable_offset) ∷ []

-- Names ------------------------------------------------------------------------------------------------------------------------

-- the leaf that the values of a member begin with
abbrev pub member_leaf : List Shown → ℕ
member_leaf [] = 0
member_leaf (v ∷ vs) = number_or v 0

-- the members whose name the crate's `name` gives; 0x1511 has one, and it does not give it
unfoldable pub named_leaves : List ℕ
named_leaves = 0x1502 ∷ 0x150d ∷ 0x150e ∷ 0x150f ∷ 0x1510 ∷ []

-- the first string among the values
unfoldable pub string_among : List Shown → Option Part
string_among [] = None
string_among (many x ∷ vs) = Some x
string_among (number n ∷ vs) = string_among vs
string_among (numeral z f ∷ vs) = string_among vs
string_among (absent ∷ vs) = string_among vs

unfoldable pub member_name : List Shown → Option Part
member_name vs = pick (among (member_leaf vs) named_leaves) (string_among vs) None
