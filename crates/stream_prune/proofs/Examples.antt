-- A dropping, computed: of two modifiers and a pointer to the second of them, the pointer is the root. Assumes nothing.
use Prim.Native.Nat.{ℕ, suc}
use mathlib.Core.Path.{◌≡◌, refl}
use mathlib.Core.List.{List, [], ◌∷◌, ◌++◌}
use lib.ListN.{length, set}
use Rattle.answer.specs.Answer.{answered}
use Rattle.answer.specs.Tables.{find, among}
use Rattle.field.specs.Bytes.{bytes}
use Rattle.field.specs.Fields.{little_at, fixed_at}
use Rattle.field.specs.Indices.{optional_of, optional_at}
use Rattle.field.specs.Runs.{bytes_at}
use Rattle.field.specs.declared.index.Stream.TheVariants as stream
use Rattle.field_put.specs.Bytes.{put}
use Rattle.word_attributes.specs.Pointers.{kind_of, pointer_kinds, mode_of, pointer_modes, to_member_of}
use Rattle.word_primitive.specs.Kinds.{kinds, indirections}
use Rattle.word_primitive.specs.Primitive.{primitive_of}
use Rattle.stream_header.specs.Header.{fields_of, header_of}
use Rattle.stream_header.specs.Examples.{four, header_e}
use Rattle.stream_item.specs.Iterator.{iter_of, next_of}
use Rattle.record_layout.specs.Fields.{read_field_by}
use Rattle.record_layout.specs.Layouts.{type_leaves}
use Rattle.record_list.specs.Lists.{start_types}
use Rattle.record_reference.specs.References.{refs_field, refs_fields, refs_leaf, refs_record, refs_of}
use Rattle.record_rewrite.specs.Rewrite.{rewrite}
use Rattle.stream_fit.specs.Fit.{fit, some_ref, rule_of, judged, fit_of}
use Rattle.stream_prune.specs.Links.{link, links, payloads_from}
use Rattle.stream_prune.specs.Pruned.{rank, numbers, new_index, renumbered, kept_from, link_bytes, new_head, new_stream}
use Rattle.stream_prune.specs.Dropped.{mark_all, visit, pass, marks, numbers_of, roots_from, names_of, marks_of}

-- a modifier of this primitive
abbrev modifier : ℕ → List ℕ
modifier of = 0x01 ∷ 0x10 ∷ of ∷ 0 ∷ 0 ∷ 0 ∷ 1 ∷ 0 ∷ []

-- a pointer to the record 0x1000, or so many after it
abbrev pointer : ℕ → List ℕ
pointer to = 0x02 ∷ 0x10 ∷ to ∷ 0x10 ∷ 0 ∷ 0 ∷ 0x0c ∷ 0 ∷ 1 ∷ 0 ∷ []

abbrev old : List (List ℕ)
old = modifier 0x74 ∷ modifier 0x75 ∷ pointer 1 ∷ []

-- a header that counts three records, and they
abbrev three : List ℕ
three = set (header_e (four 56 0)) 12 0x03 ++ links old

-- it is fit, and these are its payloads
pub is-fit :
    (fit_of three ≡ answered fit)
    × (payloads_from (suc (length three)) three (record { stream = stream.Types; at = 56; index = 0x1000 }) ≡ old)
unfolding bytes find among little_at fixed_at optional_of optional_at bytes_at kind_of pointer_kinds mode_of pointer_modes to_member_of kinds indirections primitive_of header_of iter_of next_of read_field_by type_leaves start_types refs_field refs_fields refs_leaf refs_record refs_of some_ref rule_of judged fit_of link links payloads_from
is-fit = (refl, refl)

-- the first modifier is dropped, though a root below the minimum stands beside the pointer; and the table from old to new
pub marked : (marks_of 0x1000 old (0x1002 ∷ 0x74 ∷ []) ≡ 0 ∷ 1 ∷ 1 ∷ []) × (numbers 0x1000 (0 ∷ 1 ∷ 1 ∷ []) ≡ 0 ∷ 0x1000 ∷ 0x1001 ∷ [])
unfolding find among little_at fixed_at optional_of optional_at kind_of pointer_kinds mode_of pointer_modes to_member_of read_field_by type_leaves start_types refs_field refs_fields refs_leaf refs_record refs_of numbers mark_all visit pass marks numbers_of roots_from names_of marks_of
marked = (refl, refl)

-- the new stream counts two records, and the pointer names the first of them
pub dropped :
    (new_stream three (fields_of three) (0 ∷ 1 ∷ 1 ∷ []) old ≡ header_e (four 56 0) ++ links (modifier 0x75 ∷ pointer 0 ∷ []))
    × (link_bytes (0 ∷ 1 ∷ 1 ∷ []) 0 old ≡ 22)
unfolding bytes put find among little_at fixed_at optional_of optional_at kind_of pointer_kinds mode_of pointer_modes to_member_of read_field_by type_leaves start_types refs_field refs_fields refs_leaf refs_record refs_of rewrite link links rank new_index renumbered kept_from link_bytes new_head new_stream
dropped = (refl, refl)
