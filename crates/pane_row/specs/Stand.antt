-- What keeps the tables of places honest: each leaf of 01's tables has its line, in their order, with a slot for each field
-- that keeps its value; within a leaf no two
-- fields share a place, none stands on the leaf's, and all stand in the row. proofs/Stands.antt
use Rattle.std.specs.Prelude.{ℕ, suc, Bool, true, false, ◌≡◌, List, [], ◌∷◌, ◌++◌, eqb, ltb}
use Rattle.answer.specs.Answer.{pick, both}
use Rattle.answer.specs.Tables.{Line, ◌is◌, among}
use Rattle.record_layout.specs.Layouts.{Layout, type_leaves, id_leaves, member_leaves, method}
use Rattle.pane_row.specs.Slots.{Slot, off, one, two, sized, three, Slots}
use Rattle.pane_row.specs.Kinds.{fitting}
use Rattle.pane_row.specs.TypePlaces.{type_slots}
use Rattle.pane_row.specs.IdPlaces.{id_slots}
use Rattle.pane_row.specs.ElementPlaces.{member_slots, method_slots}

abbrev pub places_in : Slot → List ℕ
places_in off = []
places_in (one k) = k ∷ []
places_in (two k) = k ∷ suc k ∷ []
places_in (sized k j) = k ∷ j ∷ []
places_in (three k) = k ∷ suc k ∷ suc (suc k) ∷ []

unfoldable pub places_of : Slots → List ℕ
places_of [] = []
places_of (k ∷ ks) = places_in k ++ places_of ks

-- each below n, and each once
unfoldable pub apart : ℕ → List ℕ → Bool
apart n [] = true
apart n (k ∷ ks) = both (ltb k n) (pick (among k ks) false (apart n ks))

unfoldable pub stands : ℕ → List (Line Slots) → Bool
stands n [] = true
stands n ((leaf is ks) ∷ ls) = both (apart n (0 ∷ places_of ks)) (stands n ls)

unfoldable pub lined : List (Line Layout) → List (Line Slots) → Bool
lined [] [] = true
lined [] (l ∷ ls) = false
lined (l ∷ ls) [] = false
lined ((m is fs) ∷ ls) ((n is ks) ∷ ks') = both (eqb m n) (both (fitting ks fs) (lined ls ks'))

pub record SlotsStand : Type 0 where
  pub types_lined : lined type_leaves type_slots ≡ true
  pub ids_lined : lined id_leaves id_slots ≡ true
  pub members_lined : lined member_leaves member_slots ≡ true
  pub types_apart : stands 13 type_slots ≡ true
  pub ids_apart : stands 10 id_slots ≡ true
  pub members_apart : stands 10 member_slots ≡ true
  pub methods_fitting : fitting method_slots method ≡ true
  pub methods_apart : apart 10 (0 ∷ places_of method_slots) ≡ true
