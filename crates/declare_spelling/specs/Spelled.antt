-- How a text of R-5 of document 02 stands in a spelling, 40 bytes.
use Rattle.std.specs.Prelude.{ℕ, zero, suc, ◌-◌, ◌≡◌, List, [], ◌∷◌, ◌++◌, length}
use Rattle.declare_spelling.specs.declared.Spelling.{Spelling}

unfoldable pub spaces : ℕ → List ℕ
spaces zero = []
spaces (suc n) = 32 ∷ spaces n

-- a spelling's text: its first n bytes; spaces stand behind it
pub record Spells (w : Spelling) (text : List ℕ) : Type 0 where
  pub all : length w.bytes ≡ 40
  pub count : w.n ≡ length text
  pub whole : w.bytes ≡ text ++ spaces (40 - length text)
