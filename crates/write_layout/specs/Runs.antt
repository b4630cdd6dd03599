-- Runs of bytes that are written: a part of a lent text, zeros, pad bytes; and whether a string has a zero byte.
use Rattle.std.specs.Prelude.{ℕ, zero, suc, ◌+◌, Bool, true, false, List, [], ◌∷◌, take, drop}

-- n bytes of t from place p on
unfoldable pub part_at : List ℕ → ℕ → ℕ → List ℕ
part_at t p n = take n (drop p t)

-- no byte is zero
unfoldable pub no_zero : List ℕ → Bool
no_zero [] = true
no_zero (zero ∷ bs) = false
no_zero (suc b ∷ bs) = no_zero bs

-- R-1: "pad bytes f3 f2 f1 counting down"
unfoldable pub pads : ℕ → List ℕ
pads zero = []
pads (suc k) = (0xf0 + suc k) ∷ pads k

unfoldable pub zeros : ℕ → List ℕ
zeros zero = []
zeros (suc k) = 0 ∷ zeros k
