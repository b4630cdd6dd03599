-- R-1: the records whose elements go to their end, with all their elements: a field list, 0x1203, of members, each filled to a multiple of four
-- bytes, and a method list, 0x1206, of methods.
use Rattle.std.specs.Prelude.{ℕ, Bool, true, false, List, [], ◌∷◌, ◌++◌, length, eqb}
use Rattle.answer.specs.Answer.{answered, then}
use Rattle.record_layout.specs.Fields.{number_or}
use Rattle.record_layout.specs.Layouts.{member_leaves, method}
use Rattle.write_layout.specs.Runs.{pads}
use Rattle.write_layout.specs.Fields.{ToWrite, Encoded, bad, fixed_bytes, and_also, write_fields}
use Rattle.write_layout.specs.Records.{write_leaf, missing, record_bytes}

-- The first member begins at 4, the length field counted, and each is filled, so that a member's own length decides
unfoldable pub filled_member : List ℕ → List ℕ
filled_member bs = bs ++ pads (missing (length bs))

unfoldable pub filled_each : Encoded → Encoded
filled_each b = then b (λ bs. answered (filled_member bs))

unfoldable pub member_bytes : List ToWrite → Encoded
member_bytes vs = filled_each (write_leaf member_leaves vs)

-- 0x1404 ends the list
unfoldable pub ends_list : List ToWrite → Bool
ends_list [] = false
ends_list (v ∷ vs) = eqb (number_or v 0) 0x1404

-- members in order; 17 for one after a continuation
unfoldable pub members_bytes : Bool → List (List ToWrite) → Encoded
members_bytes ended [] = answered []
members_bytes true (vs ∷ vss) = bad
members_bytes false (vs ∷ vss) = and_also (member_bytes vs) (members_bytes (ends_list vs) vss)

unfoldable pub field_list_bytes : List (List ToWrite) → Encoded
field_list_bytes vss = record_bytes (and_also (fixed_bytes 2 0x1203) (members_bytes false vss))

-- methods in order: eight or twelve bytes each, so that none wants pads
unfoldable pub methods_bytes : List (List ToWrite) → Encoded
methods_bytes [] = answered []
methods_bytes (vs ∷ vss) = and_also (write_fields method 0 vs) (methods_bytes vss)

unfoldable pub method_list_bytes : List (List ToWrite) → Encoded
method_list_bytes vss = record_bytes (and_also (fixed_bytes 2 0x1206) (methods_bytes vss))
