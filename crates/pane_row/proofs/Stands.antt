-- The tables of places stand beside 01's, and no field is laid over another. Assumes nothing.
use mathlib.Core.Path.{refl}
use Rattle.answer.specs.Tables.{among}
use Rattle.record_layout.specs.Layouts.{type_leaves, id_leaves, member_leaves}
use Rattle.pane_row.specs.Kinds.{slot_kind, fitting}
use Rattle.pane_row.specs.TypePlaces.{type_slots}
use Rattle.pane_row.specs.IdPlaces.{id_slots}
use Rattle.pane_row.specs.ElementPlaces.{member_slots}
use Rattle.pane_row.specs.Stand.{places_of, apart, stands, lined, SlotsStand}

pub slots-stand : SlotsStand
unfolding among type_leaves id_leaves member_leaves type_slots id_slots member_slots slot_kind fitting places_of apart stands lined
slots-stand = record {
  types_lined = refl;
  ids_lined = refl;
  members_lined = refl;
  types_apart = refl;
  ids_apart = refl;
  members_apart = refl;
  methods_fitting = refl;
  methods_apart = refl;
}
