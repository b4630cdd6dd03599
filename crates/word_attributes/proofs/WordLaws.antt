-- The fields of a word stand side by side: the word is their sum, so no bit of it is in two of them. Assumes nothing.
use Prim.Native.Nat.{ℕ, ◌+◌, ◌*◌, ◌/◌, ◌^◌, ◌<◌}
use mathlib.Core.Path.{◌≡◌}
use native.Mathlib.Omega.{arith}
use Rattle.word_attributes.specs.Bits.{bits}

-- the eleven flags, hfa, intrinsic_type, mocom
pub properties-apart : (w : ℕ) → w < 2 ^ 16 → w ≡ bits 0 10 w + bits 11 12 w * 2 ^ 11 + bits 13 13 w * 2 ^ 13 + bits 14 15 w * 2 ^ 14
properties-apart w h =
    sum (bits 0 10 w) (bits 11 12 w) (bits 13 13 w) (bits 14 15 w) w (w / 2 ^ 11) (w / 2 ^ 13) (w / 2 ^ 14)
    (omega arith) (omega arith) (omega arith) (omega arith)
  where
    sum : (a b c d w x y z : ℕ) → w ≡ a + x * 2 ^ 11 → x ≡ b + y * 2 ^ 2 → y ≡ c + z * 2 → z ≡ d → w ≡ a + b * 2 ^ 11 + c * 2 ^ 13 + d * 2 ^ 14
    sum a b c d w x y z e f g i = omega arith

-- kind, mode and flags; size; is_mocom; what 01 does not name
pub pointer-apart : (w : ℕ) → w < 2 ^ 32 → w ≡ bits 0 12 w + bits 13 18 w * 2 ^ 13 + bits 19 19 w * 2 ^ 19 + bits 20 31 w * 2 ^ 20
pointer-apart w h =
    sum (bits 0 12 w) (bits 13 18 w) (bits 19 19 w) (bits 20 31 w) w (w / 2 ^ 13) (w / 2 ^ 19) (w / 2 ^ 20)
    (omega arith) (omega arith) (omega arith) (omega arith)
  where
    sum : (a b c d w x y z : ℕ) → w ≡ a + x * 2 ^ 13 → x ≡ b + y * 2 ^ 6 → y ≡ c + z * 2 → z ≡ d → w ≡ a + b * 2 ^ 13 + c * 2 ^ 19 + d * 2 ^ 20
    sum a b c d w x y z e f g i = omega arith
