-- Examples of members, computed on the definitions that the contracts cite.
use Rattle.std.specs.Prelude.{None, Some}
use Prim.Native.Nat.{ℕ}
use mathlib.Core.Bool.{false}
use mathlib.Core.Path.{◌≡◌, refl}
use mathlib.Core.List.{[], ◌∷◌}
use lib.IntN.{pos, negsuc}
use Rattle.answer.specs.Answer.{refused, got}
use Rattle.answer.specs.Tables.{find, among}
use Rattle.word_attributes.specs.Words.{introducing}
use Rattle.field.specs.Fields.{little_at, fixed_at, signed_at}
use Rattle.field.specs.Bytes.{bytes}
use Rattle.field_text.specs.Texts.{to_zero, string_at}
use Rattle.field_number.specs.Numbers.{prefixes, numeric_at, size_at, unsigned_at}
use Rattle.field_number.specs.Forms.{Form, shortest, form_of, numeral_by, sized_by}
use Rattle.record_layout.specs.Fields.{number, numeral, absent, many, read_fields, read_field_by, read_fields_by}
use Rattle.record_layout.specs.Layouts.{read_record, read_leaf, member_leaves, method}
use Rattle.record_member.specs.Said.{named_leaves, string_among, member_name}

abbrev in_its_shortest : ℕ → Form
in_its_shortest width = record { width = width; shorter = false }

-- 0x1502 with value ff behind 0x8000 is -1; where a size is wanted, as in 0x1400, it is 11
pub minus_one : read_record member_leaves (0x02 ∷ 0x15 ∷ 3 ∷ 0 ∷ 0x00 ∷ 0x80 ∷ 0xff ∷ 65 ∷ 0 ∷ []) 0
    ≡ got (number 0x1502 ∷ number 3 ∷ numeral (negsuc 0) (in_its_shortest 3) ∷ many (record { place = 7; length = 1 }) ∷ []) 9
unfolding read_record read_leaf find member_leaves read_fields_by read_field_by fixed_at little_at numeral_by form_of shortest bytes numeric_at signed_at prefixes string_at to_zero
minus_one = refl

pub no-offset : read_record member_leaves (0x00 ∷ 0x14 ∷ 0 ∷ 0 ∷ 0 ∷ 0 ∷ 0 ∷ 0 ∷ 0x00 ∷ 0x80 ∷ 0xff ∷ []) 0 ≡ refused 11 []
unfolding read_record read_leaf find member_leaves read_fields_by read_field_by fixed_at little_at sized_by size_at numeral_by form_of shortest bytes numeric_at signed_at prefixes
no-offset = refl

-- an offset of 2^55 is not cut to 32 bits
pub long-offset : read_record member_leaves (0x00 ∷ 0x14 ∷ 0 ∷ 0 ∷ 0 ∷ 0 ∷ 0 ∷ 0 ∷ 0x0a ∷ 0x80 ∷ 0 ∷ 0 ∷ 0 ∷ 0 ∷ 0 ∷ 0 ∷ 0x80 ∷ 0 ∷ []) 0
    ≡ got (number 0x1400 ∷ number 0 ∷ number 0 ∷ numeral (pos 36028797018963968) (in_its_shortest 10) ∷ []) 18
unfolding read_record read_leaf find member_leaves read_fields_by read_field_by fixed_at little_at sized_by size_at numeral_by form_of shortest bytes numeric_at unsigned_at prefixes
long-offset = refl

-- 0x1510's word is shown; 0x1512, 0x151a and 0x1516 are not taken, nor a leaf of another table
pub nested-word : read_record member_leaves (0x10 ∷ 0x15 ∷ 0x00 ∷ 0xff ∷ 0 ∷ 0 ∷ 0 ∷ 0 ∷ 0 ∷ []) 0
    ≡ got (number 0x1510 ∷ number 0xff00 ∷ number 0 ∷ many (record { place = 8; length = 0 }) ∷ []) 9
unfolding read_record read_leaf find member_leaves read_fields_by read_field_by fixed_at little_at string_at to_zero
nested-word = refl

pub not_taken :
    (read_record member_leaves (0x12 ∷ 0x15 ∷ []) 0 ≡ refused 10 (0x1512 ∷ []))
    × (read_record member_leaves (0x1a ∷ 0x15 ∷ []) 0 ≡ refused 10 (0x151a ∷ []))
    × (read_record member_leaves (0x16 ∷ 0x15 ∷ []) 0 ≡ refused 10 (0x1516 ∷ []))
    × (read_record member_leaves (0x01 ∷ 0x10 ∷ []) 0 ≡ refused 10 (0x1001 ∷ []))
unfolding read_record read_leaf find member_leaves fixed_at little_at
not_taken = (refl, refl, refl, refl)

-- a method of property 6 has an offset, one of property 5 has none
pub with-offset : read_fields method 0 (0x18 ∷ 0 ∷ 0 ∷ 0 ∷ 0x00 ∷ 0x10 ∷ 0 ∷ 0 ∷ 32 ∷ 0 ∷ 0 ∷ 0 ∷ []) 0
    ≡ got (number 24 ∷ absent ∷ number 0x1000 ∷ number 32 ∷ []) 12
unfolding read_fields_by read_field_by fixed_at little_at introducing among
with-offset = refl

pub without-offset : read_fields method 0 (0x14 ∷ 0 ∷ 0 ∷ 0 ∷ 0x00 ∷ 0x10 ∷ 0 ∷ 0 ∷ 32 ∷ 0 ∷ 0 ∷ 0 ∷ []) 0
    ≡ got (number 20 ∷ absent ∷ number 0x1000 ∷ absent ∷ []) 8
unfolding read_fields_by read_field_by fixed_at little_at introducing among
without-offset = refl

-- the name of an enumerator is given, that of a method is not
pub names :
    (member_name (number 0x1502 ∷ number 3 ∷ numeral (pos 2) (in_its_shortest 2) ∷ many (record { place = 7; length = 1 }) ∷ []) ≡ Some (record { place = 7; length = 1 }))
    × (member_name (number 0x1511 ∷ number 3 ∷ number 0x1000 ∷ absent ∷ many (record { place = 7; length = 1 }) ∷ []) ≡ None)
unfolding member_name among named_leaves string_among
names = (refl, refl)
