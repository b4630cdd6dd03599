-- What private functions tell each other: lengths as the code counts them.
use Rattle.std.specs.Prelude.{ℕ, ◌+◌, Bool, true, false, List, [], ◌∷◌, eqb}
use Rattle.answer.specs.Answer.{pick}

-- what stands behind a pointer's qualifiers: nothing if they are the last or there are none, else a space
abbrev pub ending : Bool → Bool → List ℕ
ending true b = []
ending false true = []
ending false false = 32 ∷ []

-- of a text of n bytes, and a space beside it if there is a text
abbrev pub spaced_length : ℕ → ℕ
spaced_length n = pick (eqb n 0) 0 (n + 1)

abbrev pub quals_length : Bool → ℕ → ℕ
quals_length true n = n
quals_length false n = spaced_length n
