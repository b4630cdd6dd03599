-- What is said of a size's form is what is said of the number's. Assumes nothing.
use Prim.Native.Nat.{ℕ, ◌-◌}
use native.Mathlib.Omega.{arith}
use mathlib.Core.Path.{◌≡◌, ap}
use mathlib.Core.List.{List}
use lib.ListN.{length}
use lib.IntN.{ℤ, pos, negsuc}
use Rattle.answer.specs.Answer.{answered, refused, Read, got, and_then}
use Rattle.field_number.specs.Numbers.{numeric_at, natural, size_at}
use Rattle.field_number.specs.Forms.{shortest, Form, form_of, Numeral, numeral_by, numeral_at, sized_by, sized_at, Reads}
use Rattle.field_number.proofs.FormsProof.{width-said}
use Rattle.claim_promises.specs.Widths.{ReadsSize, SizeWidthSaid}

-- a size as the number that it is
abbrev as_number : Numeral ℕ Form → Numeral ℤ Form
as_number x = record { value = pos x.value; form = x.form }

abbrev as_numbers : Read (Numeral ℕ Form) → Read (Numeral ℤ Form)
as_numbers a = and_then a (λ x q. got (as_number x) q)

-- a number that is read as a size is read as itself
abbrev sized : ℕ → Read ℕ → Read (Numeral ℕ Form)
sized p a = and_then a (λ n q. got (record { value = n; form = form_of (pos n) (q - p) }) q)

abbrev numbered : ℕ → Read ℤ → Read (Numeral ℤ Form)
numbered p a = and_then a (λ z q. got (record { value = z; form = form_of z (q - p) }) q)

number_of : (s : List ℕ) (p : ℕ) (x : Numeral ℕ Form) (q : ℕ) → sized_at s p ≡ got x q → numeral_at s p ≡ got (as_number x) q
unfolding sized_by size_at numeral_by
number_of s p x q h = go (numeric_at s p) h
  where
    natural-of : (z : ℤ) (r : ℕ) → sized p (natural z r) ≡ got x q → numbered p (got z r) ≡ got (as_number x) q
    natural-of (pos n) r e = ap as_numbers e
    natural-of (negsuc n) r e = let z : ◌≡◌ {A = ℕ} 0 1 = cc in absurd (omega arith)

    go : (a : Read ℤ) → sized p (and_then a natural) ≡ got x q → numbered p a ≡ got (as_number x) q
    go (answered g) e = natural-of g.value g.next e
    go (refused n d) e = let z : ◌≡◌ {A = ℕ} 0 1 = cc in absurd (omega arith)

-- and the other way
size-of : (s : List ℕ) (p n q : ℕ) → numeric_at s p ≡ got (pos n) q → size_at s p ≡ got n q
unfolding size_at
size-of s p n q h = rw h

numeric-of : (s : List ℕ) (p n q : ℕ) → size_at s p ≡ got n q → numeric_at s p ≡ got (pos n) q
unfolding size_at
numeric-of s p n q h = go (numeric_at s p) h
  where
    natural-of : (z : ℤ) (r : ℕ) → natural z r ≡ got n q → ◌≡◌ {A = Read ℤ} (got z r) (got (pos n) q)
    natural-of (pos m) r e = ap (λ (a : Read ℕ). and_then a (λ k o. got (pos k) o)) e
    natural-of (negsuc m) r e = let z : ◌≡◌ {A = ℕ} 0 1 = cc in absurd (omega arith)

    go : (a : Read ℤ) → and_then a natural ≡ got n q → a ≡ got (pos n) q
    go (answered g) e = natural-of g.value g.next e
    go (refused m d) e = let z : ◌≡◌ {A = ℕ} 0 1 = cc in absurd (omega arith)

as-size : (bs : List ℕ) (n : ℕ) → Reads bs (pos n) → ReadsSize bs n
as-size bs n r = record { small = r.small; read = size-of bs 0 n (length bs) r.read }

as-number : (bs : List ℕ) (n : ℕ) → ReadsSize bs n → Reads bs (pos n)
as-number bs n r = record { small = r.small; read = numeric-of bs 0 n (length bs) r.read }

pub size-width-said : SizeWidthSaid
size-width-said = record {
  width_is = λ s p x q h. width-said.width_is s p (as_number x) q (number_of s p x q h);
  said = λ s p x q b h t.
      let (r, l) = width-said.said s p (as_number x) q b (number_of s p x q h) t in
      (as-size (shortest (pos x.value)) x.value r, l);
  only = λ s p x q bs h r l. width-said.only s p (as_number x) q bs (number_of s p x q h) (as-number bs x.value r) l;
}
