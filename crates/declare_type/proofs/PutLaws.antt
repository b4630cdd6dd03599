-- Texts that are put into a list, one behind the other or apart. Assumes nothing.
use Prim.Native.Nat.{ℕ, ◌+◌, ◌≤◌, ◌<◌}
use native.Mathlib.Omega.{arith}
use mathlib.Core.Path.{◌≡◌, refl, ap, sym, ◌∙◌}
use mathlib.Core.List.{List, [], ◌∷◌, ◌++◌}
use lib.ListN.{length, set}
use lib.Seq.{set_comm}
use Rattle.field_put.specs.Bytes.{put, Puts}
use Rattle.field_put.proofs.PutLaws.{put-put, puts-both}
use Rattle.field_put.proofs.PutLaws as laws

pub length-put : (xs l : List ℕ) (i : ℕ) → length (put l i xs) ≡ length l
length-put xs l i = laws.length-put l i xs

-- one text behind the other
pub put-append : (xs ys l : List ℕ) (i : ℕ) → put l i (xs ++ ys) ≡ put (put l i xs) (i + length xs) ys
put-append xs ys l i = sym (put-put l i xs ys)

-- a store before a text
put-past : (ys l : List ℕ) (i j a : ℕ) → i < j → put (set l i a) j ys ≡ set (put l j ys) i a
unfolding put
put-past [] l i j a h = refl
put-past (b ∷ ys) l i j a h =
    ap (λ k. put k (j + 1) ys) (set_comm l i j a b (λ e. omega arith)) ∙ put-past ys (set l j b) i (j + 1) a (omega arith)

-- two texts apart
pub put-comm : (xs ys l : List ℕ) (i j : ℕ) → i + length xs ≤ j → put (put l i xs) j ys ≡ put (put l j ys) i xs
unfolding put
put-comm [] ys l i j h = refl
put-comm (a ∷ xs) ys l i j h =
    put-comm xs ys (set l i a) (i + 1) j (omega arith) ∙ ap (λ k. put k (i + 1) xs) (put-past ys l i j a (omega arith))

-- two puts, one behind the other
pub puts-two : (l m n : List ℕ) (at x y : ℕ) (a b : List ℕ) → Puts l at a x m → Puts m x b y n → Puts l at (a ++ b) y n
puts-two l m n at x y a b p q = puts-both l at a b x y m n p q
