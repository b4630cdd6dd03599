-- A function that writes has one place to answer and one buffer after it. Assumes nothing.
use Prim.Native.Nat.{ℕ}
use mathlib.Core.Path.{◌≡◌, sym, ◌∙◌}
use mathlib.Core.List.{List}
use Rattle.field_put.specs.Bytes.{Lays}

pub one-lays : (s : List ℕ) (p : ℕ) (bs : List ℕ) (r q : ℕ) (u v : List ℕ) → Lays s p bs r u → Lays s p bs q v → (r ≡ q) × (u ≡ v)
one-lays s p bs r q u v x y = (x.next ∙ sym y.next, x.left ∙ sym y.left)
