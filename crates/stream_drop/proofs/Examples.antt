-- Droppings, computed: a record dropped and a reference moved, nothing dropped, no root, each refusal, and the empty stream. Assumes nothing.
use Prim.Native.Nat.{ℕ}
use mathlib.Core.Path.{◌≡◌, refl}
use mathlib.Core.List.{List, [], ◌∷◌, ◌++◌}
use lib.ListN.{replicate}
use Rattle.answer.specs.Tables.{find, among}
use Rattle.field.specs.Bytes.{bytes}
use Rattle.field.specs.Fields.{little_at, fixed_at}
use Rattle.field.specs.Indices.{optional_of, optional_at}
use Rattle.field.specs.Runs.{bytes_at, bytes_after}
use Rattle.field_text.specs.Texts.{to_zero, string_at, pad, padding_after}
use Rattle.field_number.specs.Numbers.{prefixes, numeric_at, size_at, unsigned_at}
use Rattle.field_number.specs.Forms.{form_of, sized_by}
use Rattle.field_put.specs.Bytes.{put}
use Rattle.word_attributes.specs.Pointers.{kind_of, pointer_kinds, mode_of, pointer_modes, to_member_of}
use Rattle.word_primitive.specs.Kinds.{kinds, indirections}
use Rattle.word_primitive.specs.Primitive.{primitive_of}
use Rattle.stream_header.specs.Header.{header_of}
use Rattle.stream_header.specs.Examples.{four}
use Rattle.stream_item.specs.Iterator.{iter_of, next_of}
use Rattle.record_layout.specs.Fields.{read_field_by, read_fields_by}
use Rattle.record_layout.specs.Layouts.{type_leaves, member_leaves, read_leaf, read_record}
use Rattle.record_list.specs.Lists.{counted_by, counted_list, counted_step, start_types, member_step, next_member, step_of}
use Rattle.record_reference.specs.References.{refs_field, refs_fields, refs_leaf, refs_record, refs_at, refs_from, refs_of}
use Rattle.record_rewrite.specs.Rewrite.{rewrite}
use Rattle.stream_fit.specs.Fit.{some_ref, rule_of, judged, fit_of}
use Rattle.stream_prune.specs.Links.{link, links, payloads_from}
use Rattle.stream_prune.specs.Pruned.{rank, numbers, new_index, renumbered, kept_from, new_head, new_stream}
use Rattle.stream_prune.specs.Dropped.{mark_all, visit, pass, marks, numbers_of, roots_from, names_of, marks_of}
use Rattle.stream_drop.specs.Drop.{stays, numbers_only, written, first_above, one_reads_as_none, some_read_as_none, dropped_of, drop_of}

-- a header of 56 bytes, with the four bytes of its minimum and of its maximum
abbrev head : List ℕ → List ℕ → List ℕ
head minimum maximum = (0x0b ∷ 0xca ∷ 0x31 ∷ 0x01 ∷ []) ++ (four 56 0 ++ (minimum ++ (maximum ++ (four 22 0 ++ replicate 36 0))))

-- a modifier of this primitive
abbrev modifier : ℕ → List ℕ
modifier of = 0x01 ∷ 0x10 ∷ of ∷ 0 ∷ 0 ∷ 0 ∷ 1 ∷ 0 ∷ []

-- a pointer to the index with these four bytes
abbrev pointer : List ℕ → List ℕ
pointer to = 0x02 ∷ 0x10 ∷ (to ++ (0x0c ∷ 0 ∷ 1 ∷ 0 ∷ []))

-- two modifiers, and a pointer to the second of them
abbrev three : List ℕ
three = head (four 0x00 0x10) (four 0x03 0x10) ++ links (modifier 0x74 ∷ modifier 0x75 ∷ pointer (four 0x01 0x10) ∷ [])

-- without the first
abbrev two : List ℕ
two = head (four 0x00 0x10) (four 0x02 0x10) ++ links (modifier 0x75 ∷ pointer (four 0x00 0x10) ∷ [])

-- the pointer is the root, from a table and a buffer that are just enough; with more of both, in another order and twice. Then the first modifier
-- too, and nothing changes
pub reached :
    (drop_of three (0x1002 ∷ []) 3 78 ≡ written (0 ∷ 0x1000 ∷ 0x1001 ∷ []) two)
    × (drop_of three (0x1002 ∷ 0x74 ∷ 0x1001 ∷ 0x1002 ∷ []) 9 99 ≡ written (0 ∷ 0x1000 ∷ 0x1001 ∷ []) two)
    × (drop_of three (0x1000 ∷ 0x1002 ∷ []) 3 88 ≡ written (0x1000 ∷ 0x1001 ∷ 0x1002 ∷ []) three)
unfolding bytes find among little_at fixed_at optional_of optional_at bytes_at put kind_of pointer_kinds mode_of pointer_modes to_member_of kinds indirections primitive_of header_of iter_of next_of read_field_by type_leaves start_types refs_field refs_fields refs_leaf refs_record refs_of rewrite some_ref rule_of judged fit_of link links payloads_from rank numbers new_index renumbered kept_from new_head new_stream mark_all visit pass marks numbers_of roots_from names_of marks_of first_above one_reads_as_none some_read_as_none dropped_of drop_of
reached = (refl, refl, refl)

-- no root, or roots below the minimum only: the header alone
pub unreached :
    (drop_of three [] 3 56 ≡ written (0 ∷ 0 ∷ 0 ∷ []) (head (four 0x00 0x10) (four 0x00 0x10)))
    × (drop_of three (0x74 ∷ 0xfff ∷ 0 ∷ []) 3 56 ≡ written (0 ∷ 0 ∷ 0 ∷ []) (head (four 0x00 0x10) (four 0x00 0x10)))
unfolding bytes find among little_at fixed_at optional_of optional_at bytes_at put kind_of pointer_kinds mode_of pointer_modes to_member_of kinds indirections primitive_of header_of iter_of next_of read_field_by type_leaves start_types refs_field refs_fields refs_leaf refs_record refs_of rewrite some_ref rule_of judged fit_of link links payloads_from rank numbers new_index renumbered kept_from new_head new_stream mark_all visit pass marks numbers_of roots_from names_of marks_of first_above one_reads_as_none some_read_as_none dropped_of drop_of
unreached = (refl, refl)

-- a pointer that names itself
abbrev unbound : List ℕ
unbound = head (four 0x00 0x10) (four 0x01 0x10) ++ links (pointer (four 0x00 0x10) ∷ [])

-- 1 of the header, which has no 56 bytes; 29 before 8; 8 before 13, with the first such root, the maximum among them; 13 before 19; and 19, a byte
-- short, when the table has the new numbers
pub refusals :
    (drop_of (0x0b ∷ 0xca ∷ []) (0x1000 ∷ []) 3 78 ≡ stays 1 [])
    × (drop_of unbound (0x1001 ∷ []) 0 0 ≡ stays 29 [])
    × (drop_of three (0x1002 ∷ 0x1005 ∷ 0x1003 ∷ []) 2 0 ≡ stays 8 (0x1005 ∷ []))
    × (drop_of three (0x1003 ∷ 0x1005 ∷ []) 3 78 ≡ stays 8 (0x1003 ∷ []))
    × (drop_of three (0x1002 ∷ []) 2 0 ≡ stays 13 [])
    × (drop_of three (0x1002 ∷ []) 3 77 ≡ numbers_only 19 (0 ∷ 0x1000 ∷ 0x1001 ∷ []))
unfolding bytes find among little_at fixed_at optional_of optional_at bytes_at put kind_of pointer_kinds mode_of pointer_modes to_member_of kinds indirections primitive_of header_of iter_of next_of read_field_by type_leaves start_types refs_field refs_fields refs_leaf refs_record refs_of rewrite some_ref rule_of judged fit_of link links payloads_from rank numbers new_index renumbered kept_from new_head new_stream mark_all visit pass marks numbers_of roots_from names_of marks_of first_above one_reads_as_none some_read_as_none dropped_of drop_of
refusals = (refl, refl, refl, refl, refl, refl)

-- Elements ------------------------------------------------------------------------------------------------------------------------------------------

-- two arguments, and the two types of a virtual base
abbrev arguments : List ℕ → List ℕ → List ℕ
arguments a b = 0x01 ∷ 0x12 ∷ 2 ∷ 0 ∷ 0 ∷ 0 ∷ (a ++ b)

abbrev base : List ℕ → List ℕ → List ℕ
base a b = 0x03 ∷ 0x12 ∷ 0x01 ∷ 0x14 ∷ 3 ∷ 0 ∷ (a ++ (b ++ (4 ∷ 0 ∷ 1 ∷ 0 ∷ [])))

-- three modifiers and another record
abbrev before : List ℕ → List ℕ
before p = head (four 0x00 0x10) (four 0x04 0x10) ++ links (modifier 0x74 ∷ modifier 0x75 ∷ modifier 0x10 ∷ p ∷ [])

-- each element's references are followed, and moved
pub elements :
    (drop_of (before (arguments (four 0x02 0x10) (four 0x01 0x10))) (0x1003 ∷ []) 4 92
    ≡ written (0 ∷ 0x1000 ∷ 0x1001 ∷ 0x1002 ∷ []) (head (four 0x00 0x10) (four 0x03 0x10) ++ links (modifier 0x75 ∷ modifier 0x10 ∷ arguments (four 0x01 0x10) (four 0x00 0x10) ∷ [])))
    × (drop_of (before (base (four 0x00 0x10) (four 0x02 0x10))) (0x1003 ∷ []) 4 96
    ≡ written (0x1000 ∷ 0 ∷ 0x1001 ∷ 0x1002 ∷ []) (head (four 0x00 0x10) (four 0x03 0x10) ++ links (modifier 0x74 ∷ modifier 0x10 ∷ base (four 0x00 0x10) (four 0x01 0x10) ∷ [])))
unfolding bytes find among little_at fixed_at optional_of optional_at bytes_at put kind_of pointer_kinds mode_of pointer_modes to_member_of kinds indirections primitive_of header_of iter_of next_of read_field_by type_leaves start_types refs_field refs_fields refs_leaf refs_record refs_of rewrite some_ref rule_of judged fit_of link links payloads_from rank numbers new_index renumbered kept_from new_head new_stream mark_all visit pass marks numbers_of roots_from names_of marks_of first_above one_reads_as_none some_read_as_none dropped_of drop_of bytes_after to_zero string_at pad padding_after prefixes numeric_at size_at unsigned_at form_of sized_by read_fields_by read_leaf read_record member_leaves counted_by counted_list counted_step member_step next_member step_of refs_at refs_from
elements = (refl, refl)

-- 0xffff ------------------------------------------------------------------------------------------------------------------------------------------

-- the index 0x10000, or so many after it
abbrev high : ℕ → List ℕ
high n = n ∷ 0 ∷ 1 ∷ 0 ∷ []

-- a procedure that returns what these four bytes name, an optional index
abbrev procedure : List ℕ → List ℕ
procedure returns = 0x08 ∷ 0x10 ∷ (returns ++ (0 ∷ 0 ∷ 0 ∷ 0 ∷ four 0x74 0))

-- two modifiers, 0xffff and 0x10000, and another record
abbrev past : List ℕ → List ℕ
past p = head (four 0xff 0xff) (high 2) ++ links (modifier 0x74 ∷ modifier 0x75 ∷ p ∷ [])

-- 30 before 19: without the first, the second becomes 0xffff, which the procedure would read as none. A pointer would not, nor does the procedure if
-- the first is kept too. One that returns 0xffff names no record: it keeps its bytes
pub reads-as-none :
    (drop_of (past (procedure (high 0))) (0x10001 ∷ []) 3 0 ≡ numbers_only 30 (0 ∷ 0xffff ∷ 0x10000 ∷ []))
    × (drop_of (past (pointer (high 0))) (0x10001 ∷ []) 3 78
    ≡ written (0 ∷ 0xffff ∷ 0x10000 ∷ []) (head (four 0xff 0xff) (high 1) ++ links (modifier 0x75 ∷ pointer (four 0xff 0xff) ∷ [])))
    × (drop_of (past (procedure (high 0))) (0x10001 ∷ 0xffff ∷ []) 3 92 ≡ written (0xffff ∷ 0x10000 ∷ 0x10001 ∷ []) (past (procedure (high 0))))
    × (drop_of (past (procedure (four 0xff 0xff))) (0x10001 ∷ []) 3 72 ≡ written (0 ∷ 0 ∷ 0xffff ∷ []) (head (four 0xff 0xff) (high 0) ++ links (procedure (four 0xff 0xff) ∷ [])))
unfolding bytes find among little_at fixed_at optional_of optional_at bytes_at put kind_of pointer_kinds mode_of pointer_modes to_member_of kinds indirections primitive_of header_of iter_of next_of read_field_by type_leaves start_types refs_field refs_fields refs_leaf refs_record refs_of rewrite some_ref rule_of judged fit_of link links payloads_from rank numbers new_index renumbered kept_from new_head new_stream mark_all visit pass marks numbers_of roots_from names_of marks_of first_above one_reads_as_none some_read_as_none dropped_of drop_of
reads-as-none = (refl, refl, refl, refl)

-- The empty stream ----------------------------------------------------------------------------------------------------------------------------------

pub nothing : (drop_of [] [] 0 0 ≡ written [] []) × (drop_of [] (0x74 ∷ 0x1000 ∷ []) 9 9 ≡ stays 8 (0x74 ∷ []))
unfolding bytes find among little_at fixed_at optional_of optional_at bytes_at put kind_of pointer_kinds mode_of pointer_modes to_member_of kinds indirections primitive_of header_of iter_of next_of read_field_by type_leaves start_types refs_field refs_fields refs_leaf refs_record refs_of rewrite some_ref rule_of judged fit_of link links payloads_from rank numbers new_index renumbered kept_from new_head new_stream mark_all visit pass marks numbers_of roots_from names_of marks_of first_above one_reads_as_none some_read_as_none dropped_of drop_of
nothing = (refl, refl)
