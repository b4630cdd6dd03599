-- Examples of document 01 and of its slips, computed on the definitions that the contracts cite.
use Rattle.std.proofs.Common.{◌≡◌, [], ◌∷◌, refl}
use Rattle.answer.specs.Answer.{answered, refused, got}
use Rattle.field.specs.Fields.{little_at, fixed_at}
use Rattle.field.specs.Runs.{bytes_after}
use Rattle.field_text.specs.Texts.{pad, padding_after, to_zero, string_at, counted_string_at, string_of}

-- padding f3 f2 f1 consumes 3; f0 41 consumes 1; f2 alone gives 1
pub padding-three : padding_after (0xf3 ∷ 0xf2 ∷ 0xf1 ∷ []) 0 ≡ answered 3
unfolding padding_after pad
padding-three = refl

pub padding-one : padding_after (0xf0 ∷ 0x41 ∷ []) 0 ≡ answered 1
unfolding padding_after pad
padding-one = refl

pub padding-cut : padding_after (0xf2 ∷ []) 0 ≡ refused 1 []
unfolding padding_after pad
padding-cut = refl

-- "ab" up to a zero byte from leaf 0x1501 up, and behind a length byte below it
pub up_to_zero : string_of 0x1501 (0x61 ∷ 0x62 ∷ 0 ∷ []) 0 ≡ got (record { place = 0; length = 2 }) 3
unfolding string_of string_at to_zero
up_to_zero = refl

pub by_length : string_of 0x1500 (2 ∷ 0x61 ∷ 0x62 ∷ []) 0 ≡ got (record { place = 1; length = 2 }) 3
unfolding string_of counted_string_at bytes_after fixed_at little_at
by_length = refl
