-- The row of a member or method stands for its values. Assumes nothing.
use Rattle.std.specs.Prelude.{ℕ, Option, Some, None}
use mathlib.Core.Bool.{Bool, true, false}
use mathlib.Core.Path.{◌≡◌, refl}
use mathlib.Core.List.{map}
use Rattle.field_number.specs.declared.Number.{Number}
use Rattle.field_number.specs.declared.Number.TheVariants as a_number
use Rattle.record_layout.specs.Fields.{plain}
use Rattle.record_member.specs.Said.{member_values, entry_values}
use Rattle.record_member.specs.declared.Member.{Member}
use Rattle.record_member.specs.declared.Member.TheVariants as a
use Rattle.record_member.specs.declared.MethodListEntry.{MethodListEntry}
use Rattle.write_list.specs.Rows.{base_class, direct_base, indirect_base, continuation, table_pointer, enumerate, data_member, static_member, overloads, nested, one_method, row_values, list_method, row_of_member, row_of_method, RowsShow}

member-shows : (m : Member) → row_values (row_of_member m) ≡ map plain (member_values m)
unfolding row_values base_class direct_base indirect_base continuation table_pointer enumerate data_member static_member overloads nested one_method
member-shows (a.BaseClass m) = refl
member-shows (a.VirtualBaseClass m) = go m.direct refl
  where
    go : (b : Bool) → m.direct ≡ b → row_values (row_of_member (a.VirtualBaseClass m)) ≡ map plain (member_values (a.VirtualBaseClass m))
    go true e = rw e
    go false e = rw e
member-shows (a.Continuation t) = refl
member-shows (a.VirtualFunctionTablePointer m) = refl
member-shows (a.Enumerate m) = go m.value.value refl
  where
    go : (n : Number) → m.value.value ≡ n → row_values (row_of_member (a.Enumerate m)) ≡ map plain (member_values (a.Enumerate m))
    go (a_number.Natural n) e = rw e
    go (a_number.Negative n) e = rw e
member-shows (a.Member m) = refl
member-shows (a.StaticMember m) = refl
member-shows (a.OverloadedMethod m) = refl
member-shows (a.Nested m) = refl
member-shows (a.Method m) = go m.vtable_offset refl
  where
    go : (o : Option ℕ) → m.vtable_offset ≡ o → row_values (row_of_member (a.Method m)) ≡ map plain (member_values (a.Method m))
    go None e = rw e
    go (Some n) e = rw e

method-shows : (m : MethodListEntry) → list_method (row_of_method m) ≡ map plain (entry_values m)
unfolding list_method
method-shows m = go m.vtable_offset refl
  where
    go : (o : Option ℕ) → m.vtable_offset ≡ o → list_method (row_of_method m) ≡ map plain (entry_values m)
    go None e = rw e
    go (Some n) e = rw e

pub rows-show : RowsShow
rows-show = record { of_member = member-shows; of_method = method-shows }
