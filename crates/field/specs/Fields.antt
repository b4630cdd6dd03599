-- Fields of a fixed width at a place of a list of bytes, little-endian, each over the width: k is 1, 2, 4 or 8 bytes.
use Rattle.std.specs.Prelude.{ℕ, zero, suc, ◌+◌, ◌-◌, ◌*◌, ◌^◌, List, length, get_or, leb, ltb, ℤ, pos, negsuc}
use Rattle.answer.specs.Answer.{Read, got, ended, pick, and_then}

-- the number that k bytes at place p make, lowest byte first
unfoldable pub little_at : ℕ → List ℕ → ℕ → ℕ
little_at zero s p = 0
little_at (suc k) s p = get_or s p 0 + 256 * little_at k s (p + 1)

-- the field of k bytes at place p, and the place after it; 1 if it passes the end
unfoldable pub fixed_at : ℕ → List ℕ → ℕ → Read ℕ
fixed_at k s p = pick (leb (p + k) (length s)) (got (little_at k s p) (p + k)) ended

-- the number x of k bytes as two's complement
abbrev pub twos : ℕ → ℕ → ℤ
twos k x = pick (ltb x (2 ^ (8 * k - 1))) (pos x) (negsuc (2 ^ (8 * k) - suc x))

-- the signed field of k bytes at place p
unfoldable pub signed_at : ℕ → List ℕ → ℕ → Read ℤ
signed_at k s p = and_then (fixed_at k s p) (λ x q. got (twos k x) q)
