-- Document 01, "Strings, padding, numeric leaves": numeric leaves.
use Rattle.std.specs.Prelude.{Option, None, Some, ℕ, List, [], ◌∷◌, ltb, ℤ, pos, negsuc}
use Rattle.answer.specs.Answer.{refused, Read, got, pick, and_then}
use Rattle.answer.specs.Tables.{Line, ◌is◌, find}
use Rattle.field.specs.Fields.{fixed_at, signed_at}
use Rattle.field_number.specs.declared.Number.{Number}
use Rattle.field_number.specs.declared.Number.TheVariants as number

-- what follows a prefix: a number of so many bytes
pub data Wide : Type 0 where
  signed : ℕ → Wide
  unsigned : ℕ → Wide

-- i8, i16, u16, i32, u32, i64, u64 follow their prefix
unfoldable pub prefixes : List (Line Wide)
prefixes =
    (0x8000 is signed 1)
    ∷ (0x8001 is signed 2)
    ∷ (0x8002 is unsigned 2)
    ∷ (0x8003 is signed 4)
    ∷ (0x8004 is unsigned 4)
    ∷ (0x8009 is signed 8)
    ∷ (0x800a is unsigned 8)
    ∷ []

unfoldable pub unsigned_at : ℕ → List ℕ → ℕ → Read ℤ
unsigned_at k s p = and_then (fixed_at k s p) (λ x q. got (pos x) q)

-- 11 for an unknown prefix
abbrev pub wide_at : Option Wide → List ℕ → ℕ → Read ℤ
wide_at None s p = refused 11 []
wide_at (Some (signed k)) s p = signed_at k s p
wide_at (Some (unsigned k)) s p = unsigned_at k s p

-- a numeric leaf below 0x8000 is itself
unfoldable pub numeric_at : List ℕ → ℕ → Read ℤ
numeric_at s p =
    and_then (fixed_at 2 s p) (λ n q.
    pick (ltb n 0x8000) (got (pos n) q) (wide_at (find n prefixes) s q))

-- 11 for a negative number where a size or an offset is wanted
abbrev pub natural : ℤ → ℕ → Read ℕ
natural (pos n) q = got n q
natural (negsuc n) q = refused 11 []

unfoldable pub size_at : List ℕ → ℕ → Read ℕ
size_at s p = and_then (numeric_at s p) natural

-- what a number of the code is
abbrev pub number_value : Number → ℤ
number_value (number.Natural n) = pos n
number_value (number.Negative n) = negsuc n
