-- R-5 of document 02: the length of an array is printed whole, whatever it is.
use Rattle.std.specs.Prelude.{Some, ℕ, ◌+◌, ◌-◌, ◌*◌, ◌≤◌, ◌<◌, ◌≡◌, List, [], ◌∷◌}
use Rattle.declare_type.specs.Tokens.{extent_text}

-- the number that digits say, with a before them
unfoldable pub digits : ℕ → List ℕ → ℕ
digits a [] = a
digits a (d ∷ l) = digits (10 * a + (d - 48)) l

-- each byte is one of the ten digits, 48 to 57
unfoldable pub AllDigits : List ℕ → Type 0
AllDigits [] = Unit
AllDigits (d ∷ l) = (48 ≤ d) × (d ≤ 57) × AllDigits l

-- there is a digit, and where there are more the first is not 0
unfoldable pub NoLeadingZero : List ℕ → Type 0
NoLeadingZero [] = ⊥
NoLeadingZero (d ∷ []) = Unit
NoLeadingZero (d ∷ e ∷ l) = 48 < d

-- a text is n in decimal: only one text is
pub record InDecimal (n : ℕ) (text : List ℕ) : Type 0 where
  pub value : digits 0 text ≡ n
  pub all_digits : AllDigits text
  pub no_leading_zero : NoLeadingZero text

-- of every number of 64 bits
abbrev pub LengthsShown : Type 0
LengthsShown = (n : ℕ) → n ≤ 18446744073709551615 → InDecimal n (extent_text (Some n))
