-- A member of a field list as a row of eight numbers: its leaf, then the numbers of its fields in the layout's order, then zeros that are not
-- looked at. A string is two numbers, place and length; a number that may be negative is a sign, 0 or not, and n or -1 - n; an offset that may be
-- absent is a mark, 0 or not, and the offset. A method of a method list likewise, without a leaf.
use Rattle.std.specs.Prelude.{Option, Some, None, ℕ, ◌≡◌, List, [], ◌∷◌, map, get_or, eqb, ℤ, pos, negsuc}
use Rattle.answer.specs.Answer.{pick}
use Rattle.field_text.specs.Texts.{Part}
use Rattle.field_number.specs.declared.Number.{Number}
use Rattle.field_number.specs.declared.Number.TheVariants as a_number
use Rattle.record_layout.specs.Fields.{Value, number, numeral, absent, many, plain}
use Rattle.record_member.specs.Said.{virtual_leaf, member_values, entry_values}
use Rattle.record_member.specs.declared.Member.{Member}
use Rattle.record_member.specs.declared.Member.TheVariants as a
use Rattle.record_member.specs.declared.MethodListEntry.{MethodListEntry}
use Rattle.write_layout.specs.Fields.{ToWrite, given_all}

-- What a row stands for -----------------------------------------------------------------------------------------------------------

-- a value without a form: nobody can give one
abbrev pub Bare : Type 0
Bare = Value Part (Unit {0})

-- number k of a row
abbrev pub slot_at : ℕ → List ℕ → ℕ
slot_at k row = get_or row k 0

-- a size; a sign, 0 or not, before n or -1 - n; a mark, 0 or not, before a number that may be absent; a string
abbrev pub size_to_write : ℕ → Bare
size_to_write n = numeral (pos n) tt

abbrev pub signed_of : ℕ → ℕ → ℤ
signed_of sign n = pick (eqb sign 0) (pos n) (negsuc n)

abbrev pub present_of : ℕ → ℕ → Bare
present_of present n = pick (eqb present 0) absent (number n)

abbrev pub text_to_write : ℕ → ℕ → Bare
text_to_write p n = many (record { place = p; length = n })

unfoldable pub base_class : List ℕ → List Bare
base_class row = number 0x1400 ∷ number (slot_at 1 row) ∷ number (slot_at 2 row) ∷ size_to_write (slot_at 3 row) ∷ []

unfoldable pub direct_base : List ℕ → List Bare
direct_base row = number 0x1401 ∷ number (slot_at 1 row) ∷ number (slot_at 2 row) ∷ number (slot_at 3 row) ∷ size_to_write (slot_at 4 row) ∷ size_to_write (slot_at 5 row) ∷ []

unfoldable pub indirect_base : List ℕ → List Bare
indirect_base row = number 0x1402 ∷ number (slot_at 1 row) ∷ number (slot_at 2 row) ∷ number (slot_at 3 row) ∷ size_to_write (slot_at 4 row) ∷ size_to_write (slot_at 5 row) ∷ []

unfoldable pub continuation : List ℕ → List Bare
continuation row = number 0x1404 ∷ absent ∷ number (slot_at 1 row) ∷ []

unfoldable pub table_pointer : List ℕ → List Bare
table_pointer row = number 0x1409 ∷ absent ∷ number (slot_at 1 row) ∷ []

unfoldable pub enumerate : List ℕ → List Bare
enumerate row = number 0x1502 ∷ number (slot_at 1 row) ∷ numeral (signed_of (slot_at 2 row) (slot_at 3 row)) tt ∷ text_to_write (slot_at 4 row) (slot_at 5 row) ∷ []

unfoldable pub data_member : List ℕ → List Bare
data_member row = number 0x150d ∷ number (slot_at 1 row) ∷ number (slot_at 2 row) ∷ size_to_write (slot_at 3 row) ∷ text_to_write (slot_at 4 row) (slot_at 5 row) ∷ []

unfoldable pub static_member : List ℕ → List Bare
static_member row = number 0x150e ∷ number (slot_at 1 row) ∷ number (slot_at 2 row) ∷ text_to_write (slot_at 3 row) (slot_at 4 row) ∷ []

unfoldable pub overloads : List ℕ → List Bare
overloads row = number 0x150f ∷ number (slot_at 1 row) ∷ number (slot_at 2 row) ∷ text_to_write (slot_at 3 row) (slot_at 4 row) ∷ []

unfoldable pub nested : List ℕ → List Bare
nested row = number 0x1510 ∷ number (slot_at 1 row) ∷ number (slot_at 2 row) ∷ text_to_write (slot_at 3 row) (slot_at 4 row) ∷ []

unfoldable pub one_method : List ℕ → List Bare
one_method row = number 0x1511 ∷ number (slot_at 1 row) ∷ number (slot_at 2 row) ∷ present_of (slot_at 3 row) (slot_at 4 row) ∷ text_to_write (slot_at 5 row) (slot_at 6 row) ∷ []

-- no values, which no layout takes, for a leaf that is not here
unfoldable pub row_values : List ℕ → List Bare
row_values row =
    pick (eqb (slot_at 0 row) 0x1400) (base_class row)
    (pick (eqb (slot_at 0 row) 0x1401) (direct_base row)
    (pick (eqb (slot_at 0 row) 0x1402) (indirect_base row)
    (pick (eqb (slot_at 0 row) 0x1404) (continuation row)
    (pick (eqb (slot_at 0 row) 0x1409) (table_pointer row)
    (pick (eqb (slot_at 0 row) 0x1502) (enumerate row)
    (pick (eqb (slot_at 0 row) 0x150d) (data_member row)
    (pick (eqb (slot_at 0 row) 0x150e) (static_member row)
    (pick (eqb (slot_at 0 row) 0x150f) (overloads row)
    (pick (eqb (slot_at 0 row) 0x1510) (nested row)
    (pick (eqb (slot_at 0 row) 0x1511) (one_method row)
    []))))))))))

unfoldable pub list_method : List ℕ → List Bare
list_method row = number (slot_at 0 row) ∷ absent ∷ number (slot_at 1 row) ∷ present_of (slot_at 2 row) (slot_at 3 row) ∷ []

-- rows as values to write, with the text that their strings lie in
unfoldable pub member_rows : List ℕ → List (List ℕ) → List (List ToWrite)
member_rows t [] = []
member_rows t (row ∷ rows) = given_all t (row_values row) ∷ member_rows t rows

unfoldable pub method_rows : List ℕ → List (List ℕ) → List (List ToWrite)
method_rows t [] = []
method_rows t (row ∷ rows) = given_all t (list_method row) ∷ method_rows t rows

-- The row of a member, and of a method ---------------------------------------------------------------------------------------------------

abbrev pub sign : Number → ℕ
sign (a_number.Natural n) = 0
sign (a_number.Negative n) = 1

abbrev pub magnitude : Number → ℕ
magnitude (a_number.Natural n) = n
magnitude (a_number.Negative n) = n

abbrev pub offset_mark : Option ℕ → ℕ
offset_mark None = 0
offset_mark (Some n) = 1

abbrev pub offset_or_0 : Option ℕ → ℕ
offset_or_0 None = 0
offset_or_0 (Some n) = n

abbrev pub row_of_member : Member → List ℕ
row_of_member (a.BaseClass m) = 0x1400 ∷ m.attributes.0 ∷ m.base_class.0 ∷ m.offset.value ∷ 0 ∷ 0 ∷ 0 ∷ 0 ∷ []
row_of_member (a.VirtualBaseClass m) =
    virtual_leaf m.direct ∷ m.attributes.0 ∷ m.base_class.0 ∷ m.base_pointer.0 ∷ m.base_pointer_offset.value ∷ m.virtual_base_offset.value
    ∷ 0 ∷ 0 ∷ []
row_of_member (a.Continuation t) = 0x1404 ∷ t.0 ∷ 0 ∷ 0 ∷ 0 ∷ 0 ∷ 0 ∷ 0 ∷ []
row_of_member (a.VirtualFunctionTablePointer m) = 0x1409 ∷ m.table.0 ∷ 0 ∷ 0 ∷ 0 ∷ 0 ∷ 0 ∷ 0 ∷ []
row_of_member (a.Enumerate m) = 0x1502 ∷ m.attributes.0 ∷ sign m.value.value ∷ magnitude m.value.value ∷ m.name.place ∷ m.name.length ∷ 0 ∷ 0 ∷ []
row_of_member (a.Member m) = 0x150d ∷ m.attributes.0 ∷ m.field_type.0 ∷ m.offset.value ∷ m.name.place ∷ m.name.length ∷ 0 ∷ 0 ∷ []
row_of_member (a.StaticMember m) = 0x150e ∷ m.attributes.0 ∷ m.field_type.0 ∷ m.name.place ∷ m.name.length ∷ 0 ∷ 0 ∷ 0 ∷ []
row_of_member (a.OverloadedMethod m) = 0x150f ∷ m.count ∷ m.method_list.0 ∷ m.name.place ∷ m.name.length ∷ 0 ∷ 0 ∷ 0 ∷ []
row_of_member (a.Nested m) = 0x1510 ∷ m.attributes.0 ∷ m.nested_type.0 ∷ m.name.place ∷ m.name.length ∷ 0 ∷ 0 ∷ 0 ∷ []
row_of_member (a.Method m) =
    0x1511 ∷ m.attributes.0 ∷ m.method_type.0 ∷ offset_mark m.vtable_offset ∷ offset_or_0 m.vtable_offset ∷ m.name.place ∷ m.name.length ∷ 0 ∷ []

abbrev pub row_of_method : MethodListEntry → List ℕ
row_of_method m = m.attributes.0 ∷ m.method_type.0 ∷ offset_mark m.vtable_offset ∷ offset_or_0 m.vtable_offset ∷ 0 ∷ 0 ∷ 0 ∷ 0 ∷ []

-- the row of a member stands for the member's values, but for their forms, and that of a method for the method's; proofs/RowLaws.antt
pub record RowsShow : Type 0 where
  pub of_member : (m : Member) → row_values (row_of_member m) ≡ map plain (member_values m)
  pub of_method : (m : MethodListEntry) → list_method (row_of_method m) ≡ map plain (entry_values m)
