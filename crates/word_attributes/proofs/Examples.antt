-- Document 01's example of pointer words, and words on which cvinfo.h and the crate differ, computed by the definitions that the contracts cite.
-- Assumes nothing.
use mathlib.Core.Path.{◌≡◌, refl}
use mathlib.Core.Bool.{true, false}
use mathlib.Core.List.{[], ◌∷◌, map}
use Rattle.answer.specs.Answer.{answered, refused}
use Rattle.answer.specs.Tables.{find}
use Rattle.word_attributes.specs.Bits.{bit, bits}
use Rattle.word_attributes.specs.Pointers.{pointer_kinds, pointer_modes, kind_of, mode_of, size_of}
use Rattle.word_attributes.specs.declared.PointerKind.TheVariants.{Ptr64}
use Rattle.word_attributes.specs.declared.PointerMode.TheVariants.{Pointer}

pub kind-12 : kind_of 0x0001000c ≡ answered Ptr64
unfolding kind_of find pointer_kinds
kind-12 = refl

pub mode-0 : mode_of 0x0001000c ≡ answered Pointer
unfolding mode_of find pointer_modes
mode-0 = refl

pub size-8 : size_of 0x0001000c ≡ answered 8
unfolding size_of kind_of find pointer_kinds
size-8 = refl

pub no-kind-13 : kind_of 0x0d ≡ refused 12 []
unfolding kind_of find pointer_kinds
no-kind-13 = refl

pub no-size-13 : size_of 0x0d ≡ refused 12 []
unfolding size_of kind_of find pointer_kinds
no-size-13 = refl

-- ---- R-2: hfa is bits 11 and 12, intrinsic_type bit 13, mocom bits 14 and 15
pub hfas : map (bits 11 12) (0x0800 ∷ 0x1000 ∷ 0x1800 ∷ 0x2000 ∷ []) ≡ 1 ∷ 2 ∷ 3 ∷ 0 ∷ []
hfas = refl

-- no homogeneous float aggregate is intrinsic by that alone
pub intrinsics : map (bit 13) (0x0800 ∷ 0x1000 ∷ 0x1800 ∷ 0x2000 ∷ []) ≡ false ∷ false ∷ false ∷ true ∷ []
intrinsics = refl

pub mocoms : map (bits 14 15) (0x2000 ∷ 0x4000 ∷ 0x8000 ∷ 0xc000 ∷ []) ≡ 0 ∷ 1 ∷ 2 ∷ 3 ∷ []
mocoms = refl

-- a size of 32 bytes is no MoCOM pointer, and a MoCOM pointer has its kind's size
pub size_32 : size_of 0x4000a ≡ answered 32
unfolding size_of kind_of find pointer_kinds
size_32 = refl

pub mocom-size : size_of 0x8000a ≡ answered 4
unfolding size_of kind_of find pointer_kinds
mocom-size = refl

pub mocom-pointers : map (bit 19) (0x4000a ∷ 0x8000a ∷ []) ≡ false ∷ true ∷ []
mocom-pointers = refl
