-- Demand 1's words: an answer that is refused, if at all, by one of some numbers of document 01's table, with the details that the table gives
-- the number.
use Rattle.std.specs.Prelude.{ℕ, Bool, true, ◌≡◌, List, length, eqb}
use Rattle.answer.specs.Answer.{Answer, answered, refused, pick, both}
use Rattle.answer.specs.Tables.{among}
use Rattle.answer.specs.Refusals.{listed}

-- 1 has links passed, from `find` only
pub data Links : Type 0 where
  from_find elsewhere : Links

abbrev pub links_fit : Links → ℕ → List ℕ → Bool
links_fit from_find n d = pick (eqb n 1) (eqb (length d) 1) true
links_fit elsewhere n d = pick (eqb n 1) (eqb (length d) 0) true

-- the refusal by n with the details d: n is one of these numbers, the table has it with as many details, and 1 has links passed or not
unfoldable pub fits : Links → List ℕ → ℕ → List ℕ → Bool
fits l ns n d = both (among n ns) (both (listed n d) (links_fit l n d))

-- answered, or refused by one of these numbers
pub data By (l : Links) (ns : List ℕ) {A : Type 0} : Answer A → Type 0 where
  gives : {a : A} → By l ns (answered a)
  refuses : {n : ℕ} {d : List ℕ} → fits l ns n d ≡ true → By l ns (refused n d)

-- of every function but `find`; and of `find`
abbrev pub Refuses : {A : Type 0} → List ℕ → Answer A → Type 0
Refuses ns a = By elsewhere ns a

abbrev pub FindRefuses : {A : Type 0} → List ℕ → Answer A → Type 0
FindRefuses ns a = By from_find ns a
