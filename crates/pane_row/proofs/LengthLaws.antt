-- A row is as long as it is said to be, and is its numbers one by one. Assumes nothing.
use Rattle.std.specs.Prelude.{Option, None, Some}
use Prim.Native.Nat.{ℕ, zero, suc}
use native.Mathlib.Omega.{arith}
use mathlib.Core.Path.{◌≡◌, refl, ap, ◌∙◌}
use mathlib.Core.List.{List, [], ◌∷◌}
use lib.ListN.{length, get_or, set, replicate, length-set, length-replicate}
use Rattle.answer.specs.Tables.{Line, find}
use Rattle.record_layout.specs.Fields.{Shown}
use Rattle.record_layout.specs.Values.{number_in}
use Rattle.pane_row.specs.Slots.{Slot, off, one, two, sized, three, Slots, first_of, second_of, put_slot, puts, puts_by, row_by}

pub put-length : (row : List ℕ) (k : Slot) (v : Shown) → length (put_slot row k v) ≡ length row
put-length row off v = refl
put-length row (one k) v = length-set row k _
put-length row (two k) v = length-set (set row k (first_of v)) (suc k) _ ∙ length-set row k _
put-length row (sized k j) v = length-set (set row k (first_of v)) j _ ∙ length-set row k _
put-length row (three k) v =
    length-set (set (set row k (first_of v)) (suc k) (second_of v)) (suc (suc k)) _
    ∙ length-set (set row k (first_of v)) (suc k) _
    ∙ length-set row k _

pub puts-length : (row : List ℕ) (ks : Slots) (vs : List Shown) → length (puts row ks vs) ≡ length row
unfolding puts
puts-length row [] vs = refl
puts-length row (k ∷ ks) [] = refl
puts-length row (k ∷ ks) (v ∷ vs) = puts-length (put_slot row k v) ks vs ∙ put-length row k v

pub row-length : (table : List (Line Slots)) (n : ℕ) (vs : List Shown) → length (row_by table n vs) ≡ n
unfolding row_by
row-length table n [] = length-replicate n 0
row-length table n (leaf ∷ vs) = go (find (number_in leaf) table) ∙ length-set (replicate n 0) 0 _ ∙ length-replicate n 0
  where
    go : (o : Option Slots) → length (puts_by o (set (replicate n 0) 0 (number_in leaf)) vs) ≡ length (set (replicate n 0) 0 (number_in leaf))
    go None = refl
    go (Some ks) = puts-length (set (replicate n 0) 0 (number_in leaf)) ks vs

-- a list is its numbers one by one
abbrev pub up_to : ℕ → (ℕ → ℕ) → List ℕ
up_to zero f = []
up_to (suc n) f = f 0 ∷ up_to n (λ k. f (suc k))

pub one_by_one : (n : ℕ) (xs : List ℕ) → length xs ≡ n → up_to n (λ k. get_or xs k 0) ≡ xs
one_by_one zero [] e = refl
one_by_one zero (x ∷ xs) e = absurd (omega arith)
one_by_one (suc n) [] e = absurd (omega arith)
one_by_one (suc n) (x ∷ xs) e = ap (λ (l : List ℕ). x ∷ l) (one_by_one n xs (omega arith))
