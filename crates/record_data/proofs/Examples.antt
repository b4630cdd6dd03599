-- Names of records, computed on the definition that the contract of `name` cites.
use mathlib.Core.Path.{◌≡◌, refl}
use mathlib.Core.List.{[], ◌∷◌}
use Rattle.answer.specs.Tables.{find}
use Rattle.record_layout.specs.Fields.{number, absent, many}
use Rattle.record_data.specs.Said.{type_data_name, name_places}

-- a union's name is the first of its two strings, an enumeration's the one that it has; an array's name is not given
pub names :
    (type_data_name (number 0x1506 ∷ number 2 ∷ number 0x0200 ∷ number 0x1003 ∷ number 8 ∷ many (record { place = 12; length = 1 }) ∷ many (record { place = 14; length = 9 }) ∷ []) ≡ many (record { place = 12; length = 1 }))
    × (type_data_name (number 0x1507 ∷ number 3 ∷ number 0 ∷ number 0x74 ∷ number 0x1003 ∷ many (record { place = 14; length = 6 }) ∷ absent ∷ []) ≡ many (record { place = 14; length = 6 }))
    × (type_data_name (number 0x1503 ∷ number 0x74 ∷ number 0x23 ∷ number 8 ∷ many (record { place = 12; length = 1 }) ∷ []) ≡ absent)
unfolding type_data_name name_places find
names = (refl, refl, refl)
