-- Payloads rewritten, computed. Assumes nothing.
use Prim.Native.Nat.{ℕ, ◌+◌}
use mathlib.Core.Bool.{true, false}
use mathlib.Core.Path.{◌≡◌, refl}
use mathlib.Core.List.{[], ◌∷◌}
use Rattle.field.specs.Bytes.{bytes}
use Rattle.field_put.specs.Bytes.{put}
use Rattle.record_reference.specs.References.{ref}
use Rattle.record_rewrite.specs.Rewrite.{rewrite, shifted}

-- so much higher that three bytes of a reference change
abbrev higher : ℕ → ℕ
higher n = n + 0x10203

-- a pointer to a member: its type and its class, and nothing else
pub pointer : rewrite higher (0x02 ∷ 0x10 ∷ 0x74 ∷ 0 ∷ 0 ∷ 0 ∷ 0x4c ∷ 0 ∷ 0 ∷ 0 ∷ 0x05 ∷ 0x10 ∷ 0 ∷ 0 ∷ []) (ref 2 false 0x74 ∷ ref 10 true 0x1005 ∷ [])
    ≡ 0x02 ∷ 0x10 ∷ 0x77 ∷ 2 ∷ 1 ∷ 0 ∷ 0x4c ∷ 0 ∷ 0 ∷ 0 ∷ 0x08 ∷ 0x12 ∷ 1 ∷ 0 ∷ []
unfolding rewrite put bytes
pointer = refl

-- two arguments: the elements, and not their count
pub arguments : rewrite higher (0x01 ∷ 0x12 ∷ 2 ∷ 0 ∷ 0 ∷ 0 ∷ 0x74 ∷ 0 ∷ 0 ∷ 0 ∷ 0x03 ∷ 0x10 ∷ 0 ∷ 0 ∷ []) (ref 6 false 0x74 ∷ ref 10 false 0x1003 ∷ [])
    ≡ 0x01 ∷ 0x12 ∷ 2 ∷ 0 ∷ 0 ∷ 0 ∷ 0x77 ∷ 2 ∷ 1 ∷ 0 ∷ 0x06 ∷ 0x12 ∷ 1 ∷ 0 ∷ []
unfolding rewrite put bytes
arguments = refl

-- a modifier at place 2 of a buffer
pub buffered : rewrite higher (9 ∷ 9 ∷ 0x01 ∷ 0x10 ∷ 0x74 ∷ 0 ∷ 0 ∷ 0 ∷ 1 ∷ 0 ∷ 9 ∷ []) (shifted 2 (ref 2 false 0x74 ∷ []))
    ≡ 9 ∷ 9 ∷ 0x01 ∷ 0x10 ∷ 0x77 ∷ 2 ∷ 1 ∷ 0 ∷ 1 ∷ 0 ∷ 9 ∷ []
unfolding rewrite shifted put bytes
buffered = refl
