-- The statements of specs/Forms.antt. Assumes nothing.
use Rattle.std.specs.Prelude.{None}
use Prim.Native.Nat.{ℕ, zero, ◌+◌, ◌*◌, ◌/◌, ◌%◌, ◌-◌, ◌<◌, ◌^◌, suc}
use native.Mathlib.Omega.{arith}
use native.Mathlib.Nat.{zero-add}
use mathlib.Core.Bool.{Bool, true, false}
use mathlib.Core.Path.{◌≡◌, refl, ap, sym, ◌∙◌}
use mathlib.Core.List.{List, [], ◌∷◌, ◌++◌, append-nil}
use lib.ListN.{length}
use lib.Dec.{ltb}
use lib.IntN.{ℤ, pos, negsuc}
use borrow.Author.Tests.{lt-ltb, ltb-true, ne_eqb}
use Rattle.answer.specs.Answer.{answered, refused, Read, got, pick, and_then}
use Rattle.answer.specs.Tables.{find}
use Rattle.field.specs.Fields.{little_at}
use Rattle.field.specs.Bytes.{bytes}
use Rattle.field.proofs.ByteLaws.{Stands, stands, bytes_small}
use Rattle.field_number.specs.Numbers.{prefixes, numeric_at}
use Rattle.field_number.specs.Forms.{prefixed, shortest, carried, Form, form_of, Numeral, numeral_by, numeral_at, AllBytes, is_signed, Reads, ShortestForm, WidthSaid, AsBefore}
use Rattle.field_number.proofs.FormLaws.{refusal, fewest, read-carried, numeric-took, numeric-back, numerals-before, sizes-before}

-- Unsigned first -----------------------------------------------------------------------------------------------------------------

-- a number below 0x8000 is no prefix
no-prefix : (n : ℕ) → n < 0x8000 → find n prefixes ≡ None
unfolding find prefixes
no-prefix n h = rw (
  ne_eqb n 0x8000 (λ e. absurd (omega arith)),
  ne_eqb n 0x8001 (λ e. absurd (omega arith)),
  ne_eqb n 0x8002 (λ e. absurd (omega arith)),
  ne_eqb n 0x8003 (λ e. absurd (omega arith)),
  ne_eqb n 0x8004 (λ e. absurd (omega arith)),
  ne_eqb n 0x8009 (λ e. absurd (omega arith)),
  ne_eqb n 0x800a (λ e. absurd (omega arith)),
)

plain-first : (n : ℕ) → n < 0x8000 → is_signed (find (little_at 2 (bytes 2 n) 0) prefixes) ≡ false
unfolding little_at bytes
plain-first n h = let e : n % 256 + 256 * (n / 256 % 256 + 256 * 0) ≡ n = omega arith in rw (e, no-prefix n h)

unsigned-first : (n : ℕ) → is_signed (find (little_at 2 (shortest (pos n)) 0) prefixes) ≡ false
unfolding shortest little_at bytes find prefixes
unsigned-first n = go (ltb n 0x8000) refl (ltb n (2 ^ 16)) (ltb n (2 ^ 32))
  where
    go : (a : Bool) → ltb n 0x8000 ≡ a → (b c : Bool)
        → is_signed (find (little_at 2 (pick a (bytes 2 n) (pick b (prefixed 0x8002 2 n) (pick c (prefixed 0x8004 4 n) (prefixed 0x800a 8 n)))) 0) prefixes) ≡ false
    go true e b c = plain-first n (ltb-true n 0x8000 e)
    go false e true c = refl
    go false e false true = refl
    go false e false false = refl

-- The shortest form is bytes -----------------------------------------------------------------------------------------------------

both_small : (xs ys : List ℕ) → AllBytes xs → AllBytes ys → AllBytes (xs ++ ys)
both_small [] ys f g i = g i
both_small (x ∷ xs) ys f g zero = f 0
both_small (x ∷ xs) ys f g (suc i) = both_small xs ys (λ j. f (suc j)) g i

wide-small : (prefix k n : ℕ) → AllBytes (prefixed prefix k n)
wide-small prefix k n = both_small (bytes 2 prefix) (bytes k n) (bytes_small 2 prefix) (bytes_small k n)

four : (a b c : Bool) (w x y z : List ℕ) → AllBytes w → AllBytes x → AllBytes y → AllBytes z → AllBytes (pick a w (pick b x (pick c y z)))
four true b c w x y z f g h i = f
four false true c w x y z f g h i = g
four false false true w x y z f g h i = h
four false false false w x y z f g h i = i

shortest-small : (z : ℤ) → AllBytes (shortest z)
unfolding shortest
shortest-small (pos n) =
    four (ltb n 0x8000) (ltb n (2 ^ 16)) (ltb n (2 ^ 32)) _ _ _ _
    (bytes_small 2 n) (wide-small 0x8002 2 n) (wide-small 0x8004 4 n) (wide-small 0x800a 8 n)
shortest-small (negsuc n) =
    four (ltb n (2 ^ 7)) (ltb n (2 ^ 15)) (ltb n (2 ^ 31)) _ _ _ _
    (wide-small 0x8000 1 (2 ^ 8 - suc n)) (wide-small 0x8001 2 (2 ^ 16 - suc n)) (wide-small 0x8003 4 (2 ^ 32 - suc n)) (wide-small 0x8009 8 (2 ^ 64 - suc n))

-- What a numeral says of the number that was read ----------------------------------------------------------------------------------------

abbrev Numerals : Type 0
Numerals = Read (Numeral ℤ Form)

number_in : Numerals → ℤ
number_in (answered g) = g.value.value
number_in (refused n d) = pos 0

form_in : Numerals → Form
form_in (answered g) = g.value.form
form_in (refused n d) = record { width = 0; shorter = false }

behind-in : Numerals → ℕ
behind-in (answered g) = g.next
behind-in (refused n d) = 0

pub record FromNumeric (s : List ℕ) (p : ℕ) (x : Numeral ℤ Form) (q : ℕ) : Type 0 where
  pub number_read : numeric_at s p ≡ got x.value q
  pub form_is : x.form ≡ form_of x.value (q - p)

from-numeric : (s : List ℕ) (p : ℕ) (x : Numeral ℤ Form) (q : ℕ) → numeral_at s p ≡ got x q → FromNumeric s p x q
unfolding numeral_by number_in form_in behind-in
from-numeric s p x q h = go (numeric_at s p) refl h
  where
    go : (a : Read ℤ) → numeric_at s p ≡ a → and_then a (λ z e. got {A = Numeral ℤ Form} (record { value = z; form = form_of z (e - p) }) e) ≡ got x q
        → FromNumeric s p x q
    go (answered g) r e =
        let v : g.value ≡ x.value = ap number_in e in
        let n : g.next ≡ q = ap behind-in e in
        let f : form_of g.value (g.next - p) ≡ x.form = ap form_in e in
        record { number_read = r ∙ rw (v, n); form_is = sym f ∙ rw (v, n) }
    go (refused n d) r e = refusal e

pub shortest-form : ShortestForm
shortest-form = record {
  carries = λ z xs ys h. numeric-back (xs ++ (shortest z ++ ys)) (length xs) ys z h (stands xs (shortest z) ys);
  fewest = fewest;
  unsigned_first = unsigned-first;
}

shorter-is : (s : List ℕ) (p : ℕ) (x : Numeral ℤ Form) (q : ℕ) → numeral_at s p ≡ got x q → x.form.shorter ≡ ltb (length (shortest x.value)) x.form.width
unfolding form_of
shorter-is s p x q h = let f = from-numeric s p x q h in rw f.form_is

alone : (z : ℤ) → carried z ≡ true → Reads (shortest z) z
alone z h =
    let at-start : Stands (shortest z) 0 (shortest z) [] = record { inside = omega arith; here = sym (append-nil (shortest z)) } in
    record { small = shortest-small z; read = numeric-back (shortest z) 0 [] z h at-start ∙ rw (zero-add (length (shortest z))) }

pub width-said : WidthSaid
unfolding form_of
width-said = record {
  width_is = λ s p x q h. let f = from-numeric s p x q h in let t = numeric-took s p x.value q f.number_read in rw f.form_is (omega (arith, t.behind));
  said = λ s p x q b h t.
      (alone x.value (read-carried s p x.value q b (from-numeric s p x q h).number_read), ltb-true _ _ (sym (shorter-is s p x q h) ∙ t));
  only = λ s p x q bs h r l.
      let k = fewest bs 0 x.value (length bs) r.small r.read in
      shorter-is s p x q h ∙ lt-ltb (length (shortest x.value)) x.form.width (omega arith);
}

pub as_before : AsBefore
as_before = record { numerals = numerals-before form_of; sizes = sizes-before form_of }
