-- How many records are kept before one, so that new numbers go up by one without holes; and the table of new numbers. Assumes nothing.
use Prim.Native.Nat.{ℕ, zero, suc, ◌+◌, ◌-◌, ◌≤◌, ◌<◌}
use native.Mathlib.Omega.{arith}
use mathlib.Core.Bool.{Bool, true, false}
use mathlib.Core.Path.{◌≡◌, refl, ap, sym, ◌∙◌}
use mathlib.Core.Logic.{◌⊎◌, inl, inr, ⊎_elim}
use mathlib.Core.List.{List, [], ◌∷◌}
use lib.ListN.{length, get_or}
use lib.Dec.{leb, eqb}
use borrow.Author.Tests.{leb-true, leb-false, le-leb, lt-leb, eqb-true, eqb-false, eq-eqb, ne_eqb}
use Rattle.answer.specs.Answer.{pick}
use Rattle.stream_prune.specs.Pruned.{Marked, rank, numbers, new_index}

pub same_or : (a b : ℕ) → (a ≡ b) ⊎ (a ≡ b → ⊥)
same_or a b = go (eqb a b) refl
  where
    go : (x : Bool) → eqb a b ≡ x → (a ≡ b) ⊎ (a ≡ b → ⊥)
    go true e = inl (eqb-true a b e)
    go false e = inr (eqb-false a b e)

-- How many are kept before i ----------------------------------------------------------------------------------------------------------

module _ (t : List ℕ) where
  pub rank-first : rank t 0 ≡ 0
  unfolding rank
  rank-first = refl

  pub rank-kept : (i : ℕ) → Marked t i → rank t (suc i) ≡ rank t i + 1
  unfolding rank
  rank-kept i m = simp (eq-eqb _ _ m)

  pub rank-dropped : (i : ℕ) → (Marked t i → ⊥) → rank t (suc i) ≡ rank t i
  unfolding rank
  rank-dropped i m = simp (ne_eqb _ _ m) (omega arith)

  rank_up : (i : ℕ) → rank t i ≤ rank t (suc i)
  rank_up i = ⊎_elim (λ m. omega (arith, rank-kept i m)) (λ m. omega (arith, rank-dropped i m)) (same_or (get_or t i 0) 1)

  pub rank_below : (i : ℕ) → rank t i ≤ i
  unfolding rank
  rank_below zero = omega arith
  rank_below (suc i) =
      ⊎_elim (λ m. omega (arith, rank-kept i m, rank_below i)) (λ m. omega (arith, rank-dropped i m, rank_below i)) (same_or (get_or t i 0) 1)

  rank_mono : (i d : ℕ) → rank t i ≤ rank t (d + i)
  rank_mono i zero = let e : 0 + i ≡ i = omega arith in rw e (omega arith)
  rank_mono i (suc d) =
      let e : suc d + i ≡ suc (d + i) = omega arith in
      rw e (omega (arith, rank_mono i d, rank_up (d + i)))

  pub rank-le : (i j : ℕ) → i ≤ j → rank t i ≤ rank t j
  rank-le i j h = let e : (j - i) + i ≡ j = omega arith in rw e at (rank_mono i (j - i))

  pub rank_less : (i j : ℕ) → Marked t i → i < j → rank t i < rank t j
  rank_less i j m h = omega (arith, rank-kept i m, rank-le (suc i) j (omega arith))

  pub rank-all : (m : ℕ) → ((i : ℕ) → i < m → Marked t i) → rank t m ≡ m
  unfolding rank
  rank-all zero h = refl
  rank-all (suc a) h = omega (arith, rank-kept a (h a (omega arith)), rank-all a (λ i l. h i (omega arith)))

-- no holes: each number below that of all has its record
pub record Stood (t : List ℕ) (n k : ℕ) : Type 0 where
  pub number : ℕ
  pub early : number < n
  pub kept : Marked t number
  pub same : rank t number ≡ k

pub stood : (t : List ℕ) (n k : ℕ) → k < rank t n → Stood t n k
unfolding rank
stood t zero k h = absurd (omega arith)
stood t (suc n) k h = go (same_or (get_or t n 0) 1) (stood t n k)
  where
    later : Stood t n k → Stood t (suc n) k
    later s = record { number = s.number; early = omega (arith, s.early); kept = s.kept; same = s.same }

    go : (get_or t n 0 ≡ 1) ⊎ (get_or t n 0 ≡ 1 → ⊥) → (k < rank t n → Stood t n k) → Stood t (suc n) k
    go (inr a) ih = later (ih (omega (arith, rank-dropped t n a)))
    go (inl a) ih = ⊎_elim (λ e. record { number = n; early = omega arith; kept = a; same = e }) (λ ne. later (ih (omega (arith, ne, rank-kept t n a)))) (same_or (rank t n) k)

-- New indices --------------------------------------------------------------------------------------------------------------------------

module _ (minimum : ℕ) (t : List ℕ) where
  pub index_kept : (n : ℕ) → minimum ≤ n → new_index minimum t n ≡ minimum + rank t (n - minimum)
  unfolding new_index
  index_kept n l = rw (le-leb _ _ l)

  pub index_below : (n : ℕ) → n < minimum → new_index minimum t n ≡ n
  unfolding new_index
  index_below n l = rw (lt-leb _ _ l)

  -- never above the old one
  pub index-le : (n : ℕ) → new_index minimum t n ≤ n
  index-le n = go (leb minimum n) refl
    where
      go : (b : Bool) → leb minimum n ≡ b → new_index minimum t n ≤ n
      go true e = let l = leb-true minimum n e in omega (arith, l, index_kept n l, rank_below t (n - minimum))
      go false e = omega (arith, index_below n (leb-false minimum n e))

-- The table of new numbers ---------------------------------------------------------------------------------------------------------------

pub numbers-long : (next : ℕ) (t : List ℕ) → length (numbers next t) ≡ length t
unfolding numbers
numbers-long next [] = refl
numbers-long next (m ∷ t) = go (eqb m 1) (λ n. numbers-long n t)
  where
    go : (b : Bool) → ((n : ℕ) → length (numbers n t) ≡ length t) → length (pick b (next ∷ numbers (next + 1) t) (0 ∷ numbers next t)) ≡ suc (length t)
    go true ih = ap suc (ih (next + 1))
    go false ih = ap suc (ih next)

-- the first one counts too
rank-cons : (x : ℕ) (t : List ℕ) (i : ℕ) → rank (x ∷ t) (suc i) ≡ pick (eqb x 1) 1 0 + rank t i
unfolding rank
rank-cons x t zero = omega arith
rank-cons x t (suc i) = omega (arith, rank-cons x t i)

pub numbers-at : (next : ℕ) (t : List ℕ) (i : ℕ) → i < length t → get_or (numbers next t) i 0 ≡ pick (eqb (get_or t i 0) 1) (next + rank t i) 0
unfolding numbers
numbers-at next [] i l = absurd (omega arith)
numbers-at next (x ∷ t) zero l = go (eqb x 1) (rank-first (x ∷ t))
  where
    go : (b : Bool) → rank (x ∷ t) 0 ≡ 0 → get_or (pick b (next ∷ numbers (next + 1) t) (0 ∷ numbers next t)) 0 0 ≡ pick b (next + rank (x ∷ t) 0) 0
    go true e = omega arith
    go false e = refl
numbers-at next (x ∷ t) (suc i) l = go (eqb x 1) (rank-cons x t i) (λ n. numbers-at n t i (omega arith))
  where
    go : (b : Bool) → rank (x ∷ t) (suc i) ≡ pick b 1 0 + rank t i → ((n : ℕ) → get_or (numbers n t) i 0 ≡ pick (eqb (get_or t i 0) 1) (n + rank t i) 0)
        → get_or (pick b (next ∷ numbers (next + 1) t) (0 ∷ numbers next t)) (suc i) 0 ≡ pick (eqb (get_or t i 0) 1) (next + rank (x ∷ t) (suc i)) 0
    go true e ih = let z : next + 1 + rank t i ≡ next + rank (x ∷ t) (suc i) = omega arith in ih (next + 1) ∙ ap (λ y. pick (eqb (get_or t i 0) 1) y 0) z
    go false e ih = let z : next + rank t i ≡ next + rank (x ∷ t) (suc i) = omega arith in ih next ∙ ap (λ y. pick (eqb (get_or t i 0) 1) y 0) z

module _ (next : ℕ) (t : List ℕ) (i : ℕ) (l : i < length t) where
  pub numbers-kept : Marked t i → get_or (numbers next t) i 0 ≡ next + rank t i
  numbers-kept m = numbers-at next t i l ∙ rw (eq-eqb _ _ m)

  pub numbers-dropped : (Marked t i → ⊥) → get_or (numbers next t) i 0 ≡ 0
  numbers-dropped m = numbers-at next t i l ∙ rw (ne_eqb _ _ m)

  -- where all before it are kept too, it keeps its number
  pub numbers-same : ((k : ℕ) → k < length t → Marked t k) → get_or (numbers next t) i 0 ≡ next + i
  numbers-same all = omega (arith, numbers-kept (all i l), rank-all t i (λ k j. all k (omega arith)))

  -- 0 says dropped, and nothing else does
  pub numbers-zero : 0 < next → get_or (numbers next t) i 0 ≡ 0 → Marked t i → ⊥
  numbers-zero up e m = omega (arith, numbers-kept m)

-- the table has the new indices
pub numbers-index : (minimum : ℕ) (t : List ℕ) (n : ℕ) → minimum ≤ n → n - minimum < length t → Marked t (n - minimum) → get_or (numbers minimum t) (n - minimum) 0 ≡ new_index minimum t n
numbers-index minimum t n u l m = numbers-kept minimum t (n - minimum) l m ∙ sym (index_kept minimum t n u)
