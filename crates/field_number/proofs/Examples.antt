-- Examples of document 01 and of its slips, computed on the definitions that the contracts cite.
use mathlib.Core.Bool.{true, false}
use mathlib.Core.Path.{◌≡◌, refl}
use mathlib.Core.List.{[], ◌∷◌}
use lib.IntN.{pos, negsuc}
use Rattle.answer.specs.Answer.{refused, got}
use Rattle.answer.specs.Tables.{find}
use Rattle.field.specs.Fields.{little_at, fixed_at, signed_at}
use Rattle.field.specs.Bytes.{bytes}
use Rattle.field_number.specs.Numbers.{numeric_at, size_at, prefixes, unsigned_at}
use Rattle.field_number.specs.Forms.{shortest, form_of, numeral_by, numeral_at, sized_by, sized_at}

-- 0x8001 ff ff is -1 for an enumerator, and 11 where a size is wanted; cut, it is 1 before its sign is looked at
pub minus_one : numeric_at (0x01 ∷ 0x80 ∷ 0xff ∷ 0xff ∷ []) 0 ≡ got (negsuc 0) 4
unfolding numeric_at fixed_at signed_at little_at find prefixes
minus_one = refl

pub no_size : size_at (0x01 ∷ 0x80 ∷ 0xff ∷ 0xff ∷ []) 0 ≡ refused 11 []
unfolding size_at numeric_at fixed_at signed_at little_at find prefixes
no_size = refl

pub cut-size : size_at (0x01 ∷ 0x80 ∷ 0xff ∷ []) 0 ≡ refused 1 []
unfolding size_at numeric_at fixed_at signed_at little_at find prefixes
cut-size = refl

-- the largest and the smallest number that a leaf holds
pub largest : numeric_at (0x0a ∷ 0x80 ∷ 0xff ∷ 0xff ∷ 0xff ∷ 0xff ∷ 0xff ∷ 0xff ∷ 0xff ∷ 0xff ∷ []) 0 ≡ got (pos 18446744073709551615) 10
unfolding numeric_at fixed_at unsigned_at little_at find prefixes
largest = refl

pub smallest : numeric_at (0x09 ∷ 0x80 ∷ 0 ∷ 0 ∷ 0 ∷ 0 ∷ 0 ∷ 0 ∷ 0 ∷ 0x80 ∷ []) 0 ≡ got (negsuc 9223372036854775807) 10
unfolding numeric_at fixed_at signed_at little_at find prefixes
smallest = refl

-- 0x8005 is no prefix
pub unknown-prefix : numeric_at (0x05 ∷ 0x80 ∷ 0 ∷ []) 0 ≡ refused 11 []
unfolding numeric_at fixed_at little_at find prefixes
unknown-prefix = refl

-- R-4: "a size of 5 stored behind a prefix against a size of 5 stored plain"
pub five-plain : sized_at (5 ∷ 0 ∷ []) 0 ≡ got (record { value = 5; form = record { width = 2; shorter = false } }) 2
unfolding sized_by size_at numeric_at fixed_at little_at form_of shortest bytes
five-plain = refl

pub five-behind-8002 : sized_at (0x02 ∷ 0x80 ∷ 5 ∷ 0 ∷ []) 0 ≡ got (record { value = 5; form = record { width = 4; shorter = true } }) 4
unfolding sized_by size_at numeric_at fixed_at unsigned_at little_at find prefixes form_of shortest bytes
five-behind-8002 = refl

-- 0x10000 behind 0x8003, which R-1 would write behind 0x8004: no shorter form
pub equally-long : numeral_at (0x03 ∷ 0x80 ∷ 0 ∷ 0 ∷ 1 ∷ 0 ∷ []) 0 ≡ got (record { value = pos 0x10000; form = record { width = 6; shorter = false } }) 6
unfolding numeral_by numeric_at fixed_at signed_at little_at find prefixes form_of shortest bytes
equally-long = refl

-- -1 behind 0x8000 is as short as it gets; behind 0x8001 it is not
pub minus-one-in-3 : numeral_at (0x00 ∷ 0x80 ∷ 0xff ∷ []) 0 ≡ got (record { value = negsuc 0; form = record { width = 3; shorter = false } }) 3
unfolding numeral_by numeric_at fixed_at signed_at little_at find prefixes form_of shortest bytes
minus-one-in-3 = refl

pub minus-one-in-4 : numeral_at (0x01 ∷ 0x80 ∷ 0xff ∷ 0xff ∷ []) 0 ≡ got (record { value = negsuc 0; form = record { width = 4; shorter = true } }) 4
unfolding numeral_by numeric_at fixed_at signed_at little_at find prefixes form_of shortest bytes
minus-one-in-4 = refl
