-- That a part lies inside the bytes it is a part of: what one private function tells the next.
use Rattle.std.specs.Prelude.{Result, Ok, Err, ℕ, ◌+◌, ◌*◌, ◌≤◌, ◌≡◌, List, length}
use Rattle.answer.specs.declared.Refusal.{Refusal}
use Rattle.declare_type.specs.declared.node.Looked.{Looked}
use Rattle.declare_type.specs.declared.node.Looked.TheVariants as looked

-- a list's indices are there
abbrev pub ListInside : List ℕ → Result (ℕ × ℕ) Refusal → Type 0
ListInside s (Ok (p, n)) = p + 4 * n ≤ length s
ListInside s (Err e) = Unit

-- a record's bytes are there
abbrev pub HeldAt : ℕ → ℕ → Looked → Type 0
HeldAt p n (looked.Numbered q) = Unit
HeldAt p n (looked.Held q m d) = (q ≡ p) × (m ≡ n)
HeldAt p n (looked.Nothing e) = Unit

abbrev pub HeldInside : List ℕ → Looked → Type 0
HeldInside s (looked.Numbered q) = Unit
HeldInside s (looked.Held p n d) = p + n ≤ length s
HeldInside s (looked.Nothing e) = Unit
