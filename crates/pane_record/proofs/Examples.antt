-- What C gets of a call, computed: of `pdb_type` the crate's own test record for 0x1609, one that ends early and a leaf that is no type's, of `pdb_id` a source
-- line with another number in each field and a function without a scope, of `pdb_list` and `pdb_step` a list of two members, the first −1 in ten bytes. Assumes
-- nothing.
use Prim.Native.Nat.{ℕ}
use mathlib.Core.Path.{◌≡◌, refl}
use mathlib.Core.List.{List, [], ◌∷◌, map}
use lib.ListN.{take}
use Rattle.answer.specs.Tables.{find, among}
use Rattle.field.specs.Bytes.{bytes}
use Rattle.field.specs.Fields.{little_at, fixed_at, signed_at}
use Rattle.field.specs.Indices.{optional_of, optional_at}
use Rattle.field_text.specs.Texts.{to_zero, string_at, pad, padding_after}
use Rattle.field_number.specs.Numbers.{prefixes, numeric_at, size_at}
use Rattle.field_number.specs.Forms.{shortest, form_of, numeral_by, sized_by}
use Rattle.record_layout.specs.Fields.{read_field_by, read_fields_by}
use Rattle.record_layout.specs.Layouts.{type_leaves, id_leaves, member_leaves, read_leaf, read_record, leaf_of, record_of}
use Rattle.record_layout.proofs.Examples.{kind_1609}
use Rattle.record_list.specs.Lists.{start_of, start_types, start_ids, step_of, next_member, member_step}
use Rattle.pane_row.specs.Slots.{puts, row_by}
use Rattle.pane_row.specs.TypePlaces.{type_slots}
use Rattle.pane_row.specs.IdPlaces.{id_slots}
use Rattle.pane_row.specs.ElementPlaces.{member_slots}
use Rattle.pane_record.specs.Out.{stream_at, list_cursor_at, out_type, out_id, out_list, out_step}

pub type-rows : map (λ (s : List ℕ). out_type (record_of type_leaves s)) (kind_1609 ∷ take 28 kind_1609 ∷ (0x06 ∷ 0x16 ∷ []) ∷ [])
    ≡ (0, 0 ∷ 0 ∷ 0x1609 ∷ 2 ∷ 512 ∷ 0 ∷ 0x1016 ∷ 0 ∷ 0 ∷ 6 ∷ 2 ∷ 22 ∷ 6 ∷ 29 ∷ 12 ∷ [])
    ∷ (1, 0 ∷ 0 ∷ 0 ∷ 0 ∷ 0 ∷ 0 ∷ 0 ∷ 0 ∷ 0 ∷ 0 ∷ 0 ∷ 0 ∷ 0 ∷ 0 ∷ 0 ∷ [])
    ∷ (10, 0x1606 ∷ 0 ∷ 0 ∷ 0 ∷ 0 ∷ 0 ∷ 0 ∷ 0 ∷ 0 ∷ 0 ∷ 0 ∷ 0 ∷ 0 ∷ 0 ∷ 0 ∷ [])
    ∷ []
unfolding record_of leaf_of read_leaf little_at fixed_at to_zero string_at find prefixes numeric_at size_at numeral_by sized_by form_of shortest bytes among optional_of optional_at read_field_by read_fields_by type_leaves type_slots row_by puts
type-rows = refl

-- line 12 of module 3, of type 0x1005 in file 7; "f" of type 0x1008
pub id-rows : map (λ (s : List ℕ). out_id (record_of id_leaves s))
    ((0x07 ∷ 0x16 ∷ 5 ∷ 0x10 ∷ 0 ∷ 0 ∷ 7 ∷ 0 ∷ 0 ∷ 0 ∷ 12 ∷ 0 ∷ 0 ∷ 0 ∷ 3 ∷ 0 ∷ []) ∷ (0x01 ∷ 0x16 ∷ 0 ∷ 0 ∷ 0 ∷ 0 ∷ 8 ∷ 0x10 ∷ 0 ∷ 0 ∷ 0x66 ∷ 0 ∷ []) ∷ [])
    ≡ (0, 0 ∷ 0 ∷ 0x1607 ∷ 0 ∷ 0x1005 ∷ 0 ∷ 0 ∷ 7 ∷ 12 ∷ 3 ∷ 0 ∷ 0 ∷ []) ∷ (0, 0 ∷ 0 ∷ 0x1601 ∷ 0 ∷ 0x1008 ∷ 0 ∷ 0 ∷ 0 ∷ 0 ∷ 0 ∷ 10 ∷ 1 ∷ []) ∷ []
unfolding record_of leaf_of read_leaf little_at fixed_at to_zero string_at find among optional_of optional_at read_field_by read_fields_by id_leaves id_slots row_by puts
id-rows = refl

-- a list with an enumerator "a" of −1 in ten bytes, two of padding, and a table of virtual functions of type 0x1009
abbrev members : List ℕ
members =
    0x03 ∷ 0x12 ∷ 0x02 ∷ 0x15 ∷ 3 ∷ 0 ∷ 0x09 ∷ 0x80 ∷ 0xff ∷ 0xff ∷ 0xff ∷ 0xff ∷ 0xff ∷ 0xff ∷ 0xff ∷ 0xff ∷ 0x61 ∷ 0 ∷ 0xf2 ∷ 0xf1
    ∷ 0x09 ∷ 0x14 ∷ 0 ∷ 0 ∷ 9 ∷ 0x10 ∷ 0 ∷ 0 ∷ []

pub starts :
    (out_list (start_of (stream_at 0) members) ≡ (0, 0 ∷ 0 ∷ 0x1203 ∷ 2 ∷ 1 ∷ 0 ∷ []))
    × (out_list (start_of (stream_at 1) members) ≡ (10, 0x1203 ∷ 0 ∷ 0 ∷ 0 ∷ 0 ∷ 0 ∷ []))
unfolding start_of start_types start_ids little_at fixed_at
starts = (refl, refl)

pub steps :
    (out_step (step_of members (list_cursor_at 0x1203 2 1 0)) ≡ (0, 0 ∷ 0 ∷ 18 ∷ 1 ∷ 1 ∷ 0x1502 ∷ 3 ∷ 0 ∷ 0 ∷ 18446744073709551615 ∷ 1 ∷ 266 ∷ 0 ∷ 16 ∷ 1 ∷ []))
    × (out_step (step_of members (list_cursor_at 0x1203 18 1 1)) ≡ (0, 0 ∷ 0 ∷ 28 ∷ 1 ∷ 1 ∷ 0x1409 ∷ 0 ∷ 0x1009 ∷ 0 ∷ 0 ∷ 0 ∷ 0 ∷ 0 ∷ 0 ∷ 0 ∷ []))
    × (out_step (step_of members (list_cursor_at 0x1203 28 1 1)) ≡ (15, 0 ∷ 0 ∷ 0 ∷ 0 ∷ 0 ∷ 0 ∷ 0 ∷ 0 ∷ 0 ∷ 0 ∷ 0 ∷ 0 ∷ 0 ∷ 0 ∷ 0 ∷ []))
unfolding step_of next_member member_step read_record read_leaf little_at fixed_at signed_at to_zero string_at pad padding_after find prefixes numeric_at size_at numeral_by sized_by form_of shortest bytes read_field_by read_fields_by member_leaves member_slots row_by puts
steps = (refl, refl, refl)
