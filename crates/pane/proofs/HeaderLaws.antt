-- What stands behind `out` for a header, from what was computed for it: a field that is signed is held as its bits. Assumes nothing.
use Prim.Native.Nat.{ℕ, ◌-◌, ◌^◌, ◌<◌}
use mathlib.Core.Path.{◌≡◌, ap, ◌∙◌}
use mathlib.Core.List.{[], ◌∷◌}
use lib.IntN.{ℤ}
use lib.Signed.{mag}
use mir.Syntax.{w32}
use mir.Val.{to_z, of_z}
use mir.Facts.{to_z-of_z}
use Rattle.stream_header.specs.declared.Header.{Header}
use Rattle.pane.specs.Out.{bits32, header_numbers}

pub offset-is : (x : ℤ) (n : ℕ) → mag x < 2 ^ 31 → n ≡ bits32 (to_z w32 (of_z w32 x)) → n ≡ bits32 x
offset-is x n g e = e ∙ ap bits32 (to_z-of_z {w = w32} {z = x} (record { sfits = g }))

pub header_is : (h : Header) (x y z n : ℕ) → x ≡ bits32 h.hash_values.offset → y ≡ bits32 h.ti_off.offset → z ≡ bits32 h.hash_adj.offset
    → n ≡ h.maximum_index - h.minimum_index
    → 0 ∷ 0 ∷ h.version ∷ h.header_size ∷ h.minimum_index ∷ h.maximum_index ∷ h.gprec_size ∷ h.tpi_hash_stream ∷ h.tpi_hash_pad_stream
    ∷ h.hash_key_size ∷ h.hash_bucket_size ∷ x ∷ h.hash_values.size ∷ y ∷ h.ti_off.size ∷ z ∷ h.hash_adj.size ∷ n ∷ []
    ≡ 0 ∷ 0 ∷ header_numbers h
header_is h x y z n p q r s = rw (p, q, r, s)
