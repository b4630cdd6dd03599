-- Bytes that are written: a list of them at a place of a buffer, and the contract of a function that writes. A number in k bytes is `bytes` of
-- field/specs/Bytes.antt.
use Rattle.std.specs.Prelude.{ℕ, ◌+◌, ◌≤◌, ◌<◌, ◌≡◌, List, [], ◌∷◌, length, get_or, set, leb}
use Rattle.answer.specs.Answer.{pick}
unfoldable pub use Rattle.field.specs.Bytes.{bytes}

-- the list s with xs at place p: all else as before
unfoldable pub put : List ℕ → ℕ → List ℕ → List ℕ
put s p [] = s
put s p (x ∷ xs) = put (set s p x) (p + 1) xs

-- what a `&[u8]` holds
unfoldable pub Octets : List ℕ → Type 0
Octets s = (i : ℕ) → get_or s i 0 < 256

-- there is room for the bytes bs at place p
pub record Room (s : List ℕ) (p : ℕ) (bs : List ℕ) : Type 0 where
  pub room : p + length bs ≤ length s

-- they stand there after the call, and r is the place after them
pub record Puts (s : List ℕ) (p : ℕ) (bs : List ℕ) (r : ℕ) (s' : List ℕ) : Type 0 where
  pub next : r ≡ p + length bs
  pub left : s' ≡ put s p bs

-- the contract of a function that writes: so where there is room, else the buffer is as it was and r is p
pub record Lays (s : List ℕ) (p : ℕ) (bs : List ℕ) (r : ℕ) (s' : List ℕ) : Type 0 where
  pub next : r ≡ pick (leb (p + length bs) (length s)) (p + length bs) p
  pub left : s' ≡ pick (leb (p + length bs) (length s)) (put s p bs) s
