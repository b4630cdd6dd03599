-- The two lists as one, for the private functions that measure and write them: the leaf, 0x1203 or 0x1206, says which it is. No public contract
-- names what stands here.
use Rattle.std.specs.Prelude.{ℕ, Bool, true, false, List, [], ◌∷◌, ◌++◌, eqb}
use Rattle.answer.specs.Answer.{answered, pick, both}
use Rattle.record_layout.specs.Layouts.{member_leaves, method}
use Rattle.write_layout.specs.Fields.{ToWrite, given, given_all, Encoded, bad, encodes, encoded_bytes, write_fields, and_also}
use Rattle.write_layout.specs.Records.{write_leaf}
use Rattle.write_layout.specs.Lists.{filled_member, filled_each}
use Rattle.write_list.specs.Rows.{Bare, slot_at, row_values, list_method}

abbrev pub given_bare : List ℕ → Bare → ToWrite
given_bare t v = given t v

-- the bytes of a row's element, before they are filled
unfoldable pub element_bytes : ℕ → List ℕ → List ℕ → Encoded
element_bytes leaf t row = pick (eqb leaf 0x1203) (write_leaf member_leaves (given_all t (row_values row))) (write_fields method 0 (given_all t (list_method row)))

unfoldable pub ends_after : ℕ → List ℕ → Bool
ends_after leaf row = both (eqb leaf 0x1203) (eqb (slot_at 0 row) 0x1404)

unfoldable pub elements_bytes : ℕ → List ℕ → Bool → List (List ℕ) → Encoded
elements_bytes leaf t ended [] = answered []
elements_bytes leaf t true (row ∷ rows) = bad
elements_bytes leaf t false (row ∷ rows) = and_also (filled_each (element_bytes leaf t row)) (elements_bytes leaf t (ends_after leaf row) rows)

-- every row is good, and the bytes of all of them
unfoldable pub good_all : ℕ → List ℕ → List (List ℕ) → Bool
good_all leaf t [] = true
good_all leaf t (row ∷ rows) = both (encodes (element_bytes leaf t row)) (good_all leaf t rows)

unfoldable pub held_all : ℕ → List ℕ → List (List ℕ) → List ℕ
held_all leaf t [] = []
held_all leaf t (row ∷ rows) = filled_member (encoded_bytes (element_bytes leaf t row)) ++ held_all leaf t rows
