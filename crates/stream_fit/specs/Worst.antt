-- The rule that a record breaks, as the code finds it: the references one after the other, with the least rule so far, 6 where there is none.
-- proofs/WorstLaws.antt has that it is `rule_of`.
use Rattle.std.specs.Prelude.{Option, None, Some, ℕ, Bool, List, [], ◌∷◌, ltb, eqb}
use Rattle.answer.specs.Answer.{Answer, answered, refused, pick}
use Rattle.record_list.specs.declared.ListCursor.{ListCursor}
use Rattle.record_reference.specs.References.{Ref, refs_from, refs_of}
use Rattle.stream_fit.specs.Fit.{disorderly, bad_primitive, in_gap, rule_number}
use Rattle.stream_fit.specs.declared.Rule.{Rule}

-- the number of a rule of the code's, 6 for none
abbrev pub rule_or_6 : Option Rule → ℕ
rule_or_6 None = 6
rule_or_6 (Some r) = rule_number r

-- the least rule of three faults
abbrev pub least_rule : Bool → Bool → Bool → ℕ
least_rule order primitive gap = pick order 3 (pick primitive 4 (pick gap 5 6))

-- that a reference to n breaks
abbrev pub fault_of : ℕ → ℕ → ℕ → ℕ
fault_of minimum index n = least_rule (disorderly minimum index n) (bad_primitive n) (in_gap minimum n)

abbrev pub lesser : ℕ → ℕ → ℕ
lesser a b = pick (ltb b a) b a

-- that these break, where w is the least so far
unfoldable pub worst : ℕ → ℕ → ℕ → List Ref → ℕ
worst minimum index w [] = w
worst minimum index w (r ∷ rs) = worst minimum index (lesser w (fault_of minimum index r.index)) rs

abbrev pub worst_in : ℕ → ℕ → ℕ → Answer (List Ref) → ℕ
worst_in minimum index w (answered rs) = worst minimum index w rs
worst_in minimum index w (refused n d) = 2

-- of the elements from the cursor on, at most n, and of a payload
unfoldable pub worst_from : ℕ → ℕ → ℕ → ℕ → List ℕ → ListCursor → ℕ
worst_from minimum index w n s c = worst_in minimum index w (refs_from n s c)

unfoldable pub worst_of : ℕ → ℕ → List ℕ → ℕ
worst_of minimum index payload = worst_in minimum index 6 (refs_of payload)

abbrev pub as_rule : ℕ → Option ℕ
as_rule n = pick (eqb n 6) None (Some n)
