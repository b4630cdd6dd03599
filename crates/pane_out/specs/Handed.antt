-- How an answer goes over the C boundary: the result, and the numbers behind `out`. "In a refusal every answer field but number and detail is zero."
use Rattle.std.specs.Prelude.{ℕ, ◌-◌, Bool, true, false, List, [], ◌∷◌, eqb, get_or, replicate, set, ℤ, pos, negsuc}
use Rattle.answer.specs.declared.Refusal.{Refusal}
use Rattle.answer.specs.Answer.{Answer, answered, refused, pick}
use Rattle.answer.specs.Refusals.{number_of, details_of}

-- what C gets: the number, and behind `out` two details and w fields. An answer has no details, a refusal no fields
abbrev pub handed : {A : Type 0} → ℕ → (A → List ℕ) → Answer A → ℕ × List ℕ
handed w fields (answered a) = (0, 0 ∷ 0 ∷ fields a)
handed w fields (refused n d) = (n, get_or d 0 0 ∷ get_or d 1 0 ∷ replicate w 0)

-- of a refusal, where so many numbers stand behind `out`
abbrev pub refused_out : ℕ → Refusal → ℕ × List ℕ
refused_out n e = (number_of e, set (set (replicate n 0) 0 (get_or (details_of e) 0 0)) 1 (get_or (details_of e) 1 0))

-- a number of bytes: how many were written
abbrev pub size_field : ℕ → List ℕ
size_field n = n ∷ []

-- a yes or no that C gives: any number but 0 is a yes
abbrev pub is_set : ℕ → Bool
is_set n = pick (eqb n 0) false true

-- and one that C gets
abbrev pub mark : Bool → ℕ
mark true = 1
mark false = 0

-- a number that may be negative: its 64 bits, and 1 where it is negative
abbrev pub bits64 : ℤ → ℕ
bits64 (pos n) = n
bits64 (negsuc n) = 18446744073709551615 - n

abbrev pub negative : ℤ → ℕ
negative (pos n) = 0
negative (negsuc n) = 1
