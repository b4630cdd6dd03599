-- Verdicts, computed: a yes, and each of the five noes.
use mathlib.Core.Path.{◌≡◌, refl}
use mathlib.Core.List.{[]}
use lib.ListN.{set}
use Rattle.answer.specs.Answer.{answered}
use Rattle.answer.specs.Tables.{find, among}
use Rattle.field.specs.Fields.{little_at, fixed_at}
use Rattle.field.specs.Indices.{optional_of, optional_at}
use Rattle.field.specs.Runs.{bytes_at}
use Rattle.word_attributes.specs.Pointers.{kind_of, pointer_kinds, mode_of, pointer_modes, to_member_of}
use Rattle.word_primitive.specs.Kinds.{kinds, indirections}
use Rattle.word_primitive.specs.Primitive.{primitive_of}
use Rattle.stream_header.specs.Header.{header_of}
use Rattle.stream_header.specs.Examples.{stream_e}
use Rattle.stream_item.specs.Iterator.{iter_of, next_of}
use Rattle.record_layout.specs.Fields.{read_field_by}
use Rattle.record_layout.specs.Layouts.{type_leaves}
use Rattle.record_list.specs.Lists.{start_types}
use Rattle.record_reference.specs.References.{refs_field, refs_fields, refs_leaf, refs_record, refs_of}
use Rattle.stream_fit.specs.Fit.{fit, unfit, some_ref, rule_of, judged, fit_of}

-- The empty stream and E are fit. A count too high; a record cut short; a pointer that names itself; 0x04, which is no primitive; and, with a minimum
-- of 4097, a reference to 0x1000
pub judged-e :
    (fit_of [] ≡ answered fit)
    × (fit_of stream_e ≡ answered fit)
    × (fit_of (set stream_e 12 0x03) ≡ answered (unfit 0 1))
    × (fit_of (set stream_e 66 0xff) ≡ answered (unfit 4097 2))
    × (fit_of (set stream_e 70 0x01) ≡ answered (unfit 4097 3))
    × (fit_of (set stream_e 60 0x04) ≡ answered (unfit 4096 4))
    × (fit_of (set stream_e 8 0x01) ≡ answered (unfit 4098 5))
unfolding find among little_at fixed_at optional_of optional_at bytes_at kind_of pointer_kinds mode_of pointer_modes to_member_of kinds indirections primitive_of header_of iter_of next_of read_field_by type_leaves start_types refs_field refs_fields refs_leaf refs_record refs_of some_ref rule_of judged fit_of
judged-e = (refl, refl, refl, refl, refl, refl, refl)
