-- Which reader takes which leaf; and one record of each kind, read from one section.
use mathlib.Core.Path.{◌≡◌, refl}
use Prim.Native.Nat.{ℕ}
use mathlib.Core.List.{List, [], ◌∷◌, map}
use Rattle.answer.specs.Answer.{answered, refused}
use Rattle.answer.specs.Tables.{find}
use Rattle.field.specs.declared.index.Stream.TheVariants.{Types, Ids}
use Rattle.field.specs.Fields.{little_at, fixed_at}
use Rattle.field.specs.Runs.{bytes_after}
use Rattle.record_layout.specs.Fields.{read_field_by, read_fields_by}
use Rattle.record_layout.specs.Layouts.{type_leaves, id_leaves}
use Rattle.record_list.specs.Lists.{in_counted, to_the_end, counted_by, counted_list, start_types, start_ids, start_of}
use Rattle.section_read.specs.Readers.{reader_of, reader_at}

-- the seven id leaves, and 0x1609, a structure that stands behind them
pub seven : (reader_of 0x1601 ≡ Ids) × (reader_of 0x1602 ≡ Ids) × (reader_of 0x1603 ≡ Ids) × (reader_of 0x1604 ≡ Ids) × (reader_of 0x1605 ≡ Ids) × (reader_of 0x1606 ≡ Ids) × (reader_of 0x1607 ≡ Ids)
unfolding reader_of find id_leaves
seven = (refl, refl, refl, refl, refl, refl, refl)

pub others : (reader_of 0x1001 ≡ Types) × (reader_of 0x1503 ≡ Types) × (reader_of 0x1609 ≡ Types) × (reader_of 0xffff ≡ Types)
unfolding reader_of find id_leaves
others = (refl, refl, refl, refl)

-- where `start` stands: arguments, by the type reader, and substrings, by the id reader, two of each; a field list behind its leaf; 10 for a leaf without a
-- list, and 1 where there is none
pub starts : map (λ (b : List ℕ). start_of (reader_at b 0) b)
    ((0x01 ∷ 0x12 ∷ 2 ∷ 0 ∷ 0 ∷ 0 ∷ 0x74 ∷ 0 ∷ 0 ∷ 0 ∷ 0x75 ∷ 0 ∷ 0 ∷ 0 ∷ [])
    ∷ (0x04 ∷ 0x16 ∷ 2 ∷ 0 ∷ 0 ∷ 0 ∷ 0x00 ∷ 0x10 ∷ 0 ∷ 0 ∷ 0x01 ∷ 0x10 ∷ 0 ∷ 0 ∷ [])
    ∷ (0x03 ∷ 0x12 ∷ [])
    ∷ (0x05 ∷ 0x16 ∷ [])
    ∷ (0x03 ∷ [])
    ∷ [])
    ≡ answered (in_counted 0x1201 6 2) ∷ answered (in_counted 0x1604 6 2) ∷ answered (to_the_end 0x1203 2) ∷ refused 10 (0x1605 ∷ []) ∷ refused 1 [] ∷ []
unfolding start_of start_types start_ids counted_list counted_by reader_at reader_of find type_leaves id_leaves read_fields_by read_field_by fixed_at little_at bytes_after
starts = refl
