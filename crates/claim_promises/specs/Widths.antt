-- R-4 of document 02 of a size or an offset: "say of a numeric leaf .. how many bytes it used and whether a shorter form existed under R-1's rule". Of a
-- number that may be negative it is crates/field_number/specs/Forms.antt, `WidthSaid`; here it is what a size is read by.
use Rattle.std.specs.Prelude.{ℕ, ◌+◌, ◌<◌, true, ◌≡◌, List, length, pos}
use Rattle.answer.specs.Answer.{got}
use Rattle.field_number.specs.Numbers.{size_at}
use Rattle.field_number.specs.Forms.{shortest, Form, Numeral, sized_at, AllBytes}

-- these bytes, all of them, read as the size n
pub record ReadsSize (bs : List ℕ) (n : ℕ) : Type 0 where
  pub small : AllBytes bs
  pub read : size_at bs 0 ≡ got n (length bs)

-- the width is the bytes from the leaf's first to the place behind it, and a shorter form is said exactly where fewer bytes read as the same size
pub record SizeWidthSaid : Type 0 where
  pub width_is : (s : List ℕ) (p : ℕ) (x : Numeral ℕ Form) (q : ℕ) → sized_at s p ≡ got x q → p + x.form.width ≡ q
  pub said : (s : List ℕ) (p : ℕ) (x : Numeral ℕ Form) (q : ℕ) → AllBytes s → sized_at s p ≡ got x q → x.form.shorter ≡ true
      → ReadsSize (shortest (pos x.value)) x.value × (length (shortest (pos x.value)) < x.form.width)
  pub only : (s : List ℕ) (p : ℕ) (x : Numeral ℕ Form) (q : ℕ) (bs : List ℕ) → sized_at s p ≡ got x q
      → ReadsSize bs x.value → length bs < x.form.width → x.form.shorter ≡ true
