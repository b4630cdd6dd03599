-- `write_cells::put::no_zero` meets its contract: a string is found exactly where a byte is zero. Assumes nothing.
use Prim.Native.Nat.{ℕ, zero, suc}
use native.Mathlib.Omega.{arith}
use native.Mathlib.Nat.{add-sub_cancel_left}
use mathlib.Core.Bool.{true, false}
use mathlib.Core.Path.{◌≡◌, refl}
use mathlib.Core.List.{List, [], ◌∷◌}
use Rattle.answer.specs.Answer.{refused, got}
use Rattle.field_text.specs.Texts.{Part, to_zero, part_or, string_at}
use Rattle.write_layout.specs.Runs.{part_at, no_zero}
use Rattle.write_cells.proofs.put.no_zero.Goals as goal

none_found : (bs : List ℕ) (n k : ℕ) (d : List ℕ) → refused k d ≡ part_or (to_zero bs n) 0 → true ≡ no_zero bs
unfolding to_zero no_zero
none_found [] n k d e = refl
none_found (zero ∷ bs) n k d e = let z : ◌≡◌ {A = ℕ} 0 1 = cc in absurd (omega arith)
none_found (suc b ∷ bs) n k d e = none_found bs (suc n) k d e

one_found : (bs : List ℕ) (n : ℕ) (x : Part) (p : ℕ) → got x p ≡ part_or (to_zero bs n) 0 → false ≡ no_zero bs
unfolding to_zero no_zero
one_found [] n x p e = let z : ◌≡◌ {A = ℕ} 0 1 = cc in absurd (omega arith)
one_found (zero ∷ bs) n x p e = refl
one_found (suc b ∷ bs) n x p e = one_found bs (suc n) x p e

pub returns-in-Ok : goal.returns-in-Ok
unfolding string_at part_at
returns-in-Ok c = one_found _ 0 _ _ (rw add-sub_cancel_left at c.in-Ok.ensures)

pub returns-in-Err : goal.returns-in-Err
unfolding string_at part_at
returns-in-Err c = none_found _ 0 _ _ (rw add-sub_cancel_left at c.in-Err.ensures)
