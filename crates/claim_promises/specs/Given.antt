-- "Given exactly when", the third column of document 01's table of numbers, as a word: a number is given exactly when.
use Rattle.std.specs.Prelude.{Option, None, Some, ℕ, Bool, true, false, ◌≡◌, List, eqb}
use Rattle.answer.specs.Answer.{Answer, answered, refused}
use Rattle.answer.specs.Tables.{among}

-- is the answer a refusal by number n?
abbrev pub by : {A : Type 0} → ℕ → Answer A → Bool
by n (answered a) = false
by n (refused m d) = eqb m n

-- number n is given by the answer a exactly when P, and with the details d
pub record Given (n : ℕ) (d : List ℕ) {A : Type 0} (a : Answer A) (P : Type 0) : Type 0 where
  pub when : P → a ≡ refused n d
  pub only : by n a ≡ true → P

-- by the numbers ns the answer a is refused exactly as b is, with b's details: what refuses b refuses a first, and by these numbers nothing else does
pub record RefusedAs (ns : List ℕ) {A B : Type 0} (a : Answer A) (b : Answer B) : Type 0 where
  pub when : (n : ℕ) (d : List ℕ) → b ≡ refused n d → a ≡ refused n d
  pub only : (n : ℕ) (d : List ℕ) → among n ns ≡ true → a ≡ refused n d → b ≡ refused n d

-- why an answer is refused, if it is
abbrev pub refusal_of : {A : Type 0} → Answer A → Option (ℕ × List ℕ)
refusal_of (answered a) = None
refusal_of (refused n d) = Some (n, d)
