-- Document 01, "Strings, padding, numeric leaves": strings and padding.
use Rattle.std.specs.Prelude.{Option, None, Some, ℕ, zero, suc, ◌+◌, ◌-◌, ◌%◌, List, [], ◌∷◌, length, drop, nat_le, nat_lt}
use Rattle.answer.specs.Answer.{Answer, answered, Read, got, ended, pick, stop, then, and_then}
use Rattle.field.specs.Fields.{fixed_at}
use Rattle.field.specs.Runs.{bytes_after}
use Rattle.field_text.specs.declared.RawString.{RawString}

-- a part of the bytes: its place and its length
pub record Part : Type 0 where
  pub place : ℕ
  pub length : ℕ

-- n and how many bytes stand before the first zero byte; none without a zero byte
unfoldable pub to_zero : List ℕ → ℕ → Option ℕ
to_zero [] n = None
to_zero (zero ∷ bs) n = Some n
to_zero (suc b ∷ bs) n = to_zero bs (suc n)

abbrev pub part_or : Option ℕ → ℕ → Read Part
part_or None p = ended
part_or (Some n) p = got (record { place = p; length = n }) (p + n + 1)

-- a string is the part up to a zero byte, which is consumed and not shown; none found is 1
unfoldable pub string_at : List ℕ → ℕ → Read Part
string_at s p = part_or (to_zero (drop p s) 0) p

-- a length byte and that many bytes
unfoldable pub counted_string_at : List ℕ → ℕ → Read Part
counted_string_at s p =
    and_then (fixed_at 1 s p) (λ n q.
    then (bytes_after n s q) (λ e.
    got (record { place = q; length = n }) e))

-- the helper takes a leaf: at or below 0x1500 it reads a length byte and that many bytes
unfoldable pub string_of : ℕ → List ℕ → ℕ → Read Part
string_of leaf s p = pick (nat_le leaf 0x1500) (counted_string_at s p) (string_at s p)

-- how many bytes a pad byte takes beside itself: none for 0xf0, and else its low four bits less one
abbrev pub more : ℕ → ℕ
more b = b % 16 - 1

-- the place after the padding at p, where bs is what is left there and k bytes of it are still to be passed
unfoldable pub pad : ℕ → ℕ → List ℕ → Answer ℕ
pad zero p [] = answered p
pad (suc k) p [] = ended
pad zero p (b ∷ bs) = pick (nat_le 0xf0 b) (pad (more b) (p + 1) bs) (answered p)
pad (suc k) p (b ∷ bs) = pad k (p + 1) bs

-- the place after the padding at p; 1 where it passes the end, or p is past the end
unfoldable pub padding_after : List ℕ → ℕ → Answer ℕ
padding_after s p = stop (nat_lt (length s) p) 1 (pad 0 p (drop p s))

-- what the answers say
abbrev pub part : RawString → Part
part t = record { place = t.place; length = t.length }

abbrev pub string_option : Option RawString → Option Part
string_option None = None
string_option (Some t) = Some (part t)
