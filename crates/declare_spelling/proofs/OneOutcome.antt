-- A contract `Spells w text` admits one outcome: the text fixes how many bytes there are, and the bytes. Assumes nothing.
use Prim.Native.Nat.{ℕ}
use mathlib.Core.Path.{◌≡◌, sym, ◌∙◌, ap}
use mathlib.Core.List.{List}
use Rattle.declare_spelling.specs.Spelled.{Spells}
use Rattle.declare_spelling.specs.declared.Spelling.{Spelling}

pub one-spells : (text : List ℕ) (r q : Spelling) → Spells r text → Spells q text → r ≡ q
one-spells text r q a b =
    ap (λ (n : ℕ). record { bytes = r.bytes; n = n }) (a.count ∙ sym b.count)
    ∙ ap (λ (l : List ℕ). record { bytes = l; n = q.n }) (a.whole ∙ sym b.whole)
