-- How the search of a string goes, for the private functions that search: what it has passed, where it ends, and the marks of a word.
use Rattle.std.specs.Prelude.{◌≡◌, ℕ, ◌+◌, ◌-◌, ◌%◌, ◌^◌, ◌<◌, ◌≤◌, List, length, drop, bit_and, slice_index}
use Rattle.field_text.specs.Texts.{to_zero}

-- the search from p is the search from i, i - p bytes on
pub record Passed (s : List ℕ) (p i : ℕ) : Type 0 where
  pub low : p ≤ i
  pub same : (n : ℕ) → to_zero (drop p s) n ≡ to_zero (drop i s) (n + (i - p))

-- the search from p comes to r, which is a zero byte or past the end
pub record ZeroAt (s : List ℕ) (p r : ℕ) : Type 0 where
  pub passed : Passed s p r
  pub there : r < length s → slice_index s r ≡ 0

-- the marks of a word of eight bytes: the word less 1 in each byte, wrapped, and not the word, and the highest bit of each byte
unfoldable pub zero_marks : ℕ → ℕ
zero_marks x = bit_and (bit_and ((x + (2 ^ 64 - 0x0101010101010101)) % 2 ^ 64) (2 ^ 64 - 1 - x)) 0x8080808080808080
