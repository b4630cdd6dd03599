-- The first root above, and the passes together, as the code goes. Assumes nothing.
use Rattle.std.specs.Prelude.{None, Some}
use Prim.Native.Nat.{ℕ, suc, ◌+◌, ◌≤◌, ◌<◌}
use native.Mathlib.Omega.{arith}
use mathlib.Core.Bool.{true, false}
use mathlib.Core.List.{List}
use mathlib.Core.Path.{◌≡◌}
use lib.ListN.{length, get_or, drop, drop_of_length-le}
use lib.Seq.{drop-cons}
use borrow.Author.Tests.{le-leb, lt-leb}
use Rattle.field.specs.Bytes.{bytes}
use Rattle.field.specs.Runs.{bytes_at}
use Rattle.field_put.specs.Bytes.{Lays}
use Rattle.stream_drop.specs.Each.{Held, held_of, laid}
use Rattle.stream_drop.specs.Passes.{lengths_in, roots_in, down_from, up_from, marked_in, asked_in, written_in}
use Rattle.stream_drop.specs.Drop.{first_above}
use Rattle.stream_drop.proofs.EachLaws.{laid_by}

module _ (maximum j : ℕ) (roots : List ℕ) where
  pub above-here : j < length roots → maximum ≤ get_or roots j 0 → Some (get_or roots j 0) ≡ first_above maximum (drop j roots)
  unfolding first_above
  above-here l h = rw (drop-cons roots j 0 l, le-leb maximum (get_or roots j 0) h)

  pub above-later : j < length roots → get_or roots j 0 < maximum → first_above maximum (drop (j + 1) roots) ≡ first_above maximum (drop j roots)
  unfolding first_above
  above-later l h = let z : j + 1 ≡ suc j = omega arith in rw (drop-cons roots j 0 l, z, lt-leb maximum (get_or roots j 0) h)

  pub above-none : length roots ≤ j → None ≡ first_above maximum (drop j roots)
  unfolding first_above
  above-none l = rw (drop_of_length-le roots {i = j} l)

-- the table and the buffer after lengths, roots, and the pass down
pub marked_by : (minimum : ℕ) (s : List ℕ) (n : ℕ) (ps : List (List ℕ)) (roots t b t₁ t₂ : List ℕ) (x : Held) → t₁ ≡ lengths_in 0 ps t → t₂ ≡ roots_in minimum roots t₁
    → x ≡ down_from minimum s n (length s) (held_of true t₂ b) → x ≡ marked_in minimum s n ps roots t b
unfolding marked_in
marked_by minimum s n ps roots t b t₁ t₂ x e f g = rw (← e, ← f) g

module _ (minimum next start : ℕ) (ps : List (List ℕ)) (x : Held) where
  pub asked_low : next ≤ 0xffff → x ≡ asked_in minimum next start ps x
  unfolding asked_in
  asked_low h = rw (le-leb next 0xffff h)

  pub asked-high : (x' : Held) → 0xffff < next → x' ≡ up_from minimum false 0 start ps x → x' ≡ asked_in minimum next start ps x
  unfolding asked_in
  asked-high x' h e = rw (lt-leb next 0xffff h) e

pub written-by : (minimum next start : ℕ) (s : List ℕ) (ps : List (List ℕ)) (t b p b₁ b₂ : List ℕ) (r₁ r₂ : ℕ) (x : Held) → p ≡ bytes_at start s 0 → Lays b 0 p r₁ b₁
    → Lays b₁ 12 (bytes 4 next) r₂ b₂ → x ≡ up_from minimum true 0 start ps (held_of true t b₂) → x ≡ written_in minimum next start s ps t b
unfolding written_in
written-by minimum next start s ps t b p b₁ b₂ r₁ r₂ x e f g k =
    let a : b₁ ≡ laid b 0 p = laid_by _ _ _ _ _ f in
    let d : b₂ ≡ laid b₁ 12 (bytes 4 next) = laid_by _ _ _ _ _ g in
    rw (← e, ← a, ← d) k
