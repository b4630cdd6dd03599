-- What a spelling of a text has; and a mode that is none of the first four is the fifth. Assumes nothing.
use Prim.Native.Nat.{ℕ, zero, suc, ◌+◌, ◌-◌, ◌≤◌}
use mathlib.Core.Path.{◌≡◌, refl, ◌∙◌, ap}
use mathlib.Core.List.{List, [], ◌∷◌, ◌++◌}
use lib.ListN.{length, take, length-append}
use borrow.Author.Tests.{ne_eqb}
use native.Mathlib.Omega.{arith}
use Rattle.declare_spelling.specs.Spellings.{quoted, mode_text}
use Rattle.declare_spelling.specs.Spelled.{spaces, Spells}
use Rattle.declare_spelling.specs.declared.Spelling.{Spelling}

take_all : (a b : List ℕ) → take (length a) (a ++ b) ≡ a
take_all [] b = refl
take_all (x ∷ a) b = ap (λ (l : List ℕ). x ∷ l) (take_all a b)

length-spaces : (n : ℕ) → length (spaces n) ≡ n
unfolding spaces
length-spaces zero = refl
length-spaces (suc n) = ap suc (length-spaces n)

-- its first n bytes are the text
pub says : (w : Spelling) (text : List ℕ) → Spells w text → take w.n w.bytes ≡ text
says w text s =
    ap (λ (n : ℕ). take n w.bytes) s.count ∙ ap (take (length text)) s.whole ∙ take_all text (spaces (40 - length text))

pub short : (w : Spelling) (text : List ℕ) → Spells w text → w.n ≤ 40
short w text s =
    let parts : length (text ++ spaces (40 - length text)) ≡ length text + length (spaces (40 - length text)) = length-append text (spaces (40 - length text)) in
    let rest : length (spaces (40 - length text)) ≡ 40 - length text = length-spaces (40 - length text) in
    let bytes : length w.bytes ≡ length (text ++ spaces (40 - length text)) = ap length s.whole in
    omega (arith, parts, rest, bytes, s.all, s.count)

pub mode-other : (m : ℕ) → (m ≡ 0 → ⊥) → (m ≡ 1 → ⊥) → (m ≡ 2 → ⊥) → (m ≡ 3 → ⊥) → mode_text m ≡ quoted "&&"
unfolding mode_text
mode-other m a b c d = rw (ne_eqb m 0 a, ne_eqb m 1 b, ne_eqb m 2 c, ne_eqb m 3 d)
