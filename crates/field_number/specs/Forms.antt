-- R-4 of document 02: "how many bytes it used and whether a shorter form existed under R-1's rule"; R-1: "the shortest form that carries the
-- number, unsigned before signed at equal length".
use Rattle.std.specs.Prelude.{Option, None, Some, ℕ, suc, ◌+◌, ◌-◌, ◌^◌, ◌≤◌, ◌<◌, Bool, true, false, ◌≡◌, List, ◌++◌, length, get_or, ltb, ℤ, pos, negsuc}
use Rattle.answer.specs.Answer.{Read, got, pick, and_then}
use Rattle.answer.specs.Tables.{find}
use Rattle.field.specs.Fields.{little_at}
use Rattle.field.specs.Bytes.{bytes}
use Rattle.field_number.specs.Numbers.{Wide, signed, unsigned, prefixes, numeric_at, size_at, number_value}
use Rattle.field_number.specs.declared.Variant.{Variant}
use Rattle.field_number.specs.declared.Size.{Size}

-- a prefix, and the number in k bytes behind it
abbrev pub prefixed : ℕ → ℕ → ℕ → List ℕ
prefixed prefix k n = bytes 2 prefix ++ bytes k n

-- n, and -1 - n, in as few bytes as carry it, unsigned first
unfoldable pub shortest : ℤ → List ℕ
shortest (pos n) =
    pick (ltb n 0x8000) (bytes 2 n)
    (pick (ltb n (2 ^ 16)) (prefixed 0x8002 2 n)
    (pick (ltb n (2 ^ 32)) (prefixed 0x8004 4 n)
    (prefixed 0x800a 8 n)))
shortest (negsuc n) =
    pick (ltb n (2 ^ 7)) (prefixed 0x8000 1 (2 ^ 8 - suc n))
    (pick (ltb n (2 ^ 15)) (prefixed 0x8001 2 (2 ^ 16 - suc n))
    (pick (ltb n (2 ^ 31)) (prefixed 0x8003 4 (2 ^ 32 - suc n))
    (prefixed 0x8009 8 (2 ^ 64 - suc n))))

-- some form carries it: from -2^63 to 2^64 - 1
unfoldable pub carried : ℤ → Bool
carried (pos n) = ltb n (2 ^ 64)
carried (negsuc n) = ltb n (2 ^ 63)

-- The form in which a number stood: the bytes of its numeric leaf, prefix and all, and whether the shortest form has fewer
pub record Form : Type 0 where
  pub width : ℕ
  pub shorter : Bool

unfoldable pub form_of : ℤ → ℕ → Form
form_of z width = record { width = width; shorter = ltb (length (shortest z)) width }

-- A number and what is said of its form. Values, places and refusals are 01's, whatever `form` says of a number and its width
pub record Numeral (A W : Type 0) : Type 0 where
  pub value : A
  pub form : W

unfoldable pub numeral_by : {W : Type 0} → (ℤ → ℕ → W) → List ℕ → ℕ → Read (Numeral ℤ W)
numeral_by form s p = and_then (numeric_at s p) (λ z q. got (record { value = z; form = form z (q - p) }) q)

unfoldable pub sized_by : {W : Type 0} → (ℤ → ℕ → W) → List ℕ → ℕ → Read (Numeral ℕ W)
sized_by form s p = and_then (size_at s p) (λ n q. got (record { value = n; form = form (pos n) (q - p) }) q)

-- a numeric leaf, and one where a size or an offset is wanted, with width and `shorter`
abbrev pub numeral_at : List ℕ → ℕ → Read (Numeral ℤ Form)
numeral_at = numeral_by form_of

abbrev pub sized_at : List ℕ → ℕ → Read (Numeral ℕ Form)
sized_at = sized_by form_of

-- what the answers say
abbrev pub variant_form : Variant → Form
variant_form v = record { width = v.width; shorter = v.shorter }

abbrev pub size_form : Size → Form
size_form v = record { width = v.width; shorter = v.shorter }

abbrev pub variant_told : Variant → Numeral ℤ Form
variant_told v = record { value = number_value v.value; form = variant_form v }

abbrev pub size_told : Size → Numeral ℕ Form
size_told v = record { value = v.value; form = size_form v }

-- The rule, as promises; proofs/FormsProof.antt has them ----------------------------------------------------------------------------

abbrev pub AllBytes : List ℕ → Type 0
AllBytes s = (i : ℕ) → get_or s i 0 < 256

abbrev pub is_signed : Option Wide → Bool
is_signed (Some (signed k)) = true
is_signed (Some (unsigned k)) = false
is_signed None = false

-- these bytes, all of them, read as the number z
pub record Reads (bs : List ℕ) (z : ℤ) : Type 0 where
  pub small : AllBytes bs
  pub read : numeric_at bs 0 ≡ got z (length bs)

pub record ShortestForm : Type 0 where
  -- it carries the number, wherever it stands
  pub carries : (z : ℤ) (xs ys : List ℕ) → carried z ≡ true
      → numeric_at (xs ++ (shortest z ++ ys)) (length xs) ≡ got z (length xs + length (shortest z))
  -- no form with fewer bytes does
  pub fewest : (s : List ℕ) (p : ℕ) (z : ℤ) (q : ℕ) → AllBytes s → numeric_at s p ≡ got z q → p + length (shortest z) ≤ q
  -- a natural number has no signed prefix, so that unsigned comes first where both are as long
  pub unsigned_first : (n : ℕ) → is_signed (find (little_at 2 (shortest (pos n)) 0) prefixes) ≡ false

-- R-4's answer, for every numeric leaf that reads: the width is the bytes from its first to the place behind it, and a shorter form is said
-- exactly where fewer bytes read as the same number
pub record WidthSaid : Type 0 where
  pub width_is : (s : List ℕ) (p : ℕ) (x : Numeral ℤ Form) (q : ℕ) → numeral_at s p ≡ got x q → p + x.form.width ≡ q
  pub said : (s : List ℕ) (p : ℕ) (x : Numeral ℤ Form) (q : ℕ) → AllBytes s → numeral_at s p ≡ got x q → x.form.shorter ≡ true
      → Reads (shortest x.value) x.value × (length (shortest x.value) < x.form.width)
  pub only : (s : List ℕ) (p : ℕ) (x : Numeral ℤ Form) (q : ℕ) (bs : List ℕ) → numeral_at s p ≡ got x q
      → Reads bs x.value → length bs < x.form.width → x.form.shorter ≡ true

-- Values, places and refusals are those of 01 as before
pub record AsBefore : Type 0 where
  pub numerals : (s : List ℕ) (p : ℕ) → and_then (numeral_at s p) (λ x q. got x.value q) ≡ numeric_at s p
  pub sizes : (s : List ℕ) (p : ℕ) → and_then (sized_at s p) (λ x q. got x.value q) ≡ size_at s p
