-- What an answer of the member readers says fixes the answer: the member is read back from its leaf and its values. Assumes nothing.
use Rattle.std.specs.Prelude.{Result}
use Rattle.answer.specs.declared.Refusal.{Refusal}
use Prim.Native.Nat.{ℕ}
use mathlib.Core.Bool.{Bool, true, false}
use mathlib.Core.Path.{◌≡◌, refl}
use mathlib.Core.List.{List}
use lib.Dec.{eqb}
use Rattle.answer.specs.Answer.{pick}
use Rattle.answer.proofs.OneOutcome.{one_read}
use Rattle.record_layout.specs.Fields.{Shown}
use Rattle.record_layout.specs.Values.{nth, number_in, string_in, option_in}
use Rattle.record_layout.proofs.OneOutcome.{variant_in, size_in, option_back, variant_back}
use Rattle.record_member.specs.Said.{member_values, entry_values}
use Rattle.record_member.specs.declared.VirtualBaseClassType.{VirtualBaseClassType}
use Rattle.record_member.specs.declared.Member.{Member}
use Rattle.record_member.specs.declared.Member.TheVariants as a
use Rattle.record_member.specs.declared.MethodListEntry.{MethodListEntry}
use Rattle.answer.specs.Refusals.{said_read}

-- a virtual base class, direct or not
abbrev virtual_in : Bool → List Shown → VirtualBaseClassType
virtual_in direct vs =
    record {
      direct = direct;
      attributes = record { 0 = number_in (nth 1 vs) };
      base_class = record { 0 = number_in (nth 2 vs) };
      base_pointer = record { 0 = number_in (nth 3 vs) };
      base_pointer_offset = size_in (nth 4 vs);
      virtual_base_offset = size_in (nth 5 vs);
    }

abbrev pub member_in : List Shown → Member
member_in vs =
    let leaf = number_in (nth 0 vs) in
    let n1 = number_in (nth 1 vs) in
    let n2 = number_in (nth 2 vs) in
    let x3 = string_in (nth 3 vs) in
    let x4 = string_in (nth 4 vs) in
    pick (eqb leaf 0x1400) (a.BaseClass (record { attributes = record { 0 = n1 }; base_class = record { 0 = n2 }; offset = size_in (nth 3 vs) }))
    (pick (eqb leaf 0x1401) (a.VirtualBaseClass (virtual_in true vs))
    (pick (eqb leaf 0x1402) (a.VirtualBaseClass (virtual_in false vs))
    (pick (eqb leaf 0x1404) (a.Continuation (record { 0 = n2 }))
    (pick (eqb leaf 0x1409) (a.VirtualFunctionTablePointer (record { table = record { 0 = n2 } }))
    (pick (eqb leaf 0x1502) (a.Enumerate (record { attributes = record { 0 = n1 }; value = variant_in (nth 2 vs); name = x3 }))
    (pick (eqb leaf 0x150d) (a.Member (record { attributes = record { 0 = n1 }; field_type = record { 0 = n2 }; offset = size_in (nth 3 vs); name = x4 }))
    (pick (eqb leaf 0x150e) (a.StaticMember (record { attributes = record { 0 = n1 }; field_type = record { 0 = n2 }; name = x3 }))
    (pick (eqb leaf 0x150f) (a.OverloadedMethod (record { count = n1; method_list = record { 0 = n2 }; name = x3 }))
    (pick (eqb leaf 0x1510) (a.Nested (record { attributes = record { 0 = n1 }; nested_type = record { 0 = n2 }; name = x3 }))
    (a.Method (record { attributes = record { 0 = n1 }; method_type = record { 0 = n2 }; vtable_offset = option_in (nth 3 vs); name = x4 })))))))))))

virtual-back : (m : VirtualBaseClassType) (direct : Bool) → m.direct ≡ direct → member_in (member_values (a.VirtualBaseClass m)) ≡ a.VirtualBaseClass m
virtual-back m true e = rw e
virtual-back m false e = rw e

pub member_back : (m : Member) → member_in (member_values m) ≡ m
member_back (a.BaseClass m) = refl
member_back (a.VirtualBaseClass m) = virtual-back m m.direct refl
member_back (a.Continuation t) = refl
member_back (a.VirtualFunctionTablePointer m) = refl
member_back (a.Enumerate m) = rw (variant_back m.value)
member_back (a.Member m) = refl
member_back (a.StaticMember m) = refl
member_back (a.OverloadedMethod m) = refl
member_back (a.Nested m) = refl
member_back (a.Method m) = rw (option_back m.vtable_offset)

pub one-member : (r q : Result (Member × ℕ) Refusal) → said_read member_values r ≡ said_read member_values q → r ≡ q
one-member = one_read member_values member_in member_back

abbrev pub entry_in : List Shown → MethodListEntry
entry_in vs = record { attributes = record { 0 = number_in (nth 0 vs) }; method_type = record { 0 = number_in (nth 2 vs) }; vtable_offset = option_in (nth 3 vs) }

pub entry-back : (m : MethodListEntry) → entry_in (entry_values m) ≡ m
entry-back m = rw (option_back m.vtable_offset)

pub one_entry : (r q : Result (MethodListEntry × ℕ) Refusal) → said_read entry_values r ≡ said_read entry_values q → r ≡ q
one_entry = one_read entry_values entry_in entry-back
