-- What an answer of this crate says fixes the answer, so that each contract `said.. r ≡ ..` admits one outcome: every answer is read back
-- from what it says. Assumes nothing.
use Rattle.std.specs.Prelude.{Result}
use Rattle.answer.specs.Refusals.{said_read}
use Rattle.answer.specs.declared.Refusal.{Refusal}
use Rattle.field_number.specs.declared.Size.{Size}
use Rattle.field_number.specs.declared.Variant.{Variant}
use Prim.Native.Nat.{ℕ}
use mathlib.Core.Path.{◌≡◌, refl}
use lib.IntN.{ℤ, pos, negsuc}
use Rattle.answer.proofs.OneOutcome.{one_of, one_read}
use Rattle.field_number.specs.Numbers.{number_value}
use Rattle.field_number.specs.Forms.{Form, Numeral, variant_told, size_told}
use Rattle.field_number.specs.declared.Number.{Number}
use Rattle.field_number.specs.declared.Number.TheVariants as number

abbrev pub hear_number : ℤ → Number
hear_number (pos n) = number.Natural n
hear_number (negsuc n) = number.Negative n

pub back-number : (r : Number) → hear_number (number_value r) ≡ r
back-number (number.Natural n) = refl
back-number (number.Negative n) = refl

pub one_number : (r q : Number) → number_value r ≡ number_value q → r ≡ q
one_number = one_of number_value hear_number back-number

abbrev hear_variant : Numeral ℤ Form → Variant
hear_variant x = record { value = hear_number x.value; width = x.form.width; shorter = x.form.shorter }

back_variant : (v : Variant) → hear_variant (variant_told v) ≡ v
back_variant v = rw (back-number v.value)

pub one-variant : (r q : Result (Variant × ℕ) Refusal) → said_read variant_told r ≡ said_read variant_told q → r ≡ q
one-variant = one_read variant_told hear_variant back_variant

abbrev hear_size : Numeral ℕ Form → Size
hear_size x = record { value = x.value; width = x.form.width; shorter = x.form.shorter }

pub one_size : (r q : Result (Size × ℕ) Refusal) → said_read size_told r ≡ said_read size_told q → r ≡ q
one_size = one_read size_told hear_size (λ v. refl)
