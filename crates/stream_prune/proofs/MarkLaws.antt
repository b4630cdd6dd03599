-- One pass from the last record down marks exactly what is reached; the table has an entry for each record, and each entry is 0 or 1.
-- Assumes nothing.
use Prim.Native.Nat.{ℕ, zero, suc, ◌≤◌, ◌<◌}
use native.Mathlib.Omega.{arith}
use mathlib.Core.Bool.{Bool, true, false}
use mathlib.Core.Path.{◌≡◌, refl, sym, ◌∙◌}
use mathlib.Core.Logic.{◌⊎◌, inl, inr, ⊎_elim}
use mathlib.Core.List.{List, [], ◌∷◌}
use lib.ListN.{length, get_or, set, replicate, length-set, length-replicate, get_or-replicate, get_or-eq_default}
use lib.Seq.{get_or-set_same, get_or-set_other}
use lib.Dec.{eqb, ltb}
use borrow.Author.Tests.{eqb-true, ltb-true, ltb-false, eq-eqb}
use Rattle.answer.specs.Answer.{pick}
use Rattle.stream_prune.specs.Pruned.{Marked}
use Rattle.stream_prune.specs.Dropped.{IsIn, Reached, root, named, mark_all, visit, pass, marks, roots_from, names_of, marks_of}
use Rattle.stream_prune.proofs.Numbers.{same_or}

-- each of n records names earlier ones; each root is a record
pub record Downward (refs : ℕ → List ℕ) (n : ℕ) : Type 0 where
  pub below : (i j : ℕ) → i < n → IsIn j (refs i) → j < i

pub record Inside (roots : List ℕ) (n : ℕ) : Type 0 where
  pub inside : (i : ℕ) → IsIn i roots → i < n

pub marked-inside : (t : List ℕ) (k : ℕ) → Marked t k → k < length t
marked-inside t k m = go (ltb k (length t)) refl
  where
    go : (x : Bool) → ltb k (length t) ≡ x → k < length t
    go true e = ltb-true k (length t) e
    go false e = absurd (omega (arith, m, get_or-eq_default t 0 {n = k} (ltb-false k (length t) e)))

-- Marking a list -----------------------------------------------------------------------------------------------------------------

pub mark_all-length : (js t : List ℕ) → length (mark_all js t) ≡ length t
unfolding mark_all
mark_all-length [] t = refl
mark_all-length (j ∷ js) t = mark_all-length js (set t j 1) ∙ length-set t j 1

set_keeps : (t : List ℕ) (j k : ℕ) → Marked t k → Marked (set t j 1) k
set_keeps t j k m = ⊎_elim yes (λ ne. get_or-set_other t j k 1 0 ne ∙ m) (same_or k j)
  where
    yes : k ≡ j → Marked (set t j 1) k
    yes e = let h : j < length t = omega (arith, marked-inside t k m) in rw e (get_or-set_same t j 1 0 h)

pub mark_all-keeps : (js t : List ℕ) (k : ℕ) → Marked t k → Marked (mark_all js t) k
unfolding mark_all
mark_all-keeps [] t k m = m
mark_all-keeps (j ∷ js) t k m = mark_all-keeps js (set t j 1) k (set_keeps t j k m)

pub mark_all-marks : (js t : List ℕ) (j : ℕ) → IsIn j js → j < length t → Marked (mark_all js t) j
unfolding mark_all
mark_all-marks [] t j h l = absurd h
mark_all-marks (x ∷ js) t j (inl e) l =
    let h : x < length t = omega arith in
    mark_all-keeps js (set t x 1) j (rw e (get_or-set_same t x 1 0 h))
mark_all-marks (x ∷ js) t j (inr h) l = mark_all-marks js (set t x 1) j h (rw length-set l)

pub mark_all-only : (js t : List ℕ) (k : ℕ) → Marked (mark_all js t) k → Marked t k ⊎ IsIn k js
unfolding mark_all
mark_all-only [] t k m = inl m
mark_all-only (x ∷ js) t k m =
    ⊎_elim (λ a. ⊎_elim (λ e. inr (inl e)) (λ ne. inl (sym (get_or-set_other t x k 1 0 ne) ∙ a)) (same_or k x))
    (λ h. inr (inr h)) (mark_all-only js (set t x 1) k m)

-- One record ------------------------------------------------------------------------------------------------------------------------

module _ (refs : ℕ → List ℕ) where
  pub visit-length : (i : ℕ) (t : List ℕ) → length (visit refs i t) ≡ length t
  unfolding visit
  visit-length i t = go (eqb (get_or t i 0) 1)
    where
      go : (b : Bool) → length (pick b (mark_all (refs i) t) t) ≡ length t
      go true = mark_all-length (refs i) t
      go false = refl

  pub visit-keeps : (i : ℕ) (t : List ℕ) (k : ℕ) → Marked t k → Marked (visit refs i t) k
  unfolding visit
  visit-keeps i t k m = go (eqb (get_or t i 0) 1)
    where
      go : (b : Bool) → Marked (pick b (mark_all (refs i) t) t) k
      go true = mark_all-keeps (refs i) t k m
      go false = m

  pub visit-marks : (i : ℕ) (t : List ℕ) (j : ℕ) → Marked t i → IsIn j (refs i) → j < length t → Marked (visit refs i t) j
  unfolding visit
  visit-marks i t j m h l = go (eqb (get_or t i 0) 1) (eq-eqb _ _ m)
    where
      go : (b : Bool) → b ≡ true → Marked (pick b (mark_all (refs i) t) t) j
      go true e = mark_all-marks (refs i) t j h l
      go false e = let z : ◌≡◌ {A = ℕ} 0 1 = cc in absurd (omega arith)

  pub visit-only : (i : ℕ) (t : List ℕ) (k : ℕ) → Marked (visit refs i t) k → Marked t k ⊎ (Marked t i × IsIn k (refs i))
  unfolding visit
  visit-only i t k = go (eqb (get_or t i 0) 1) refl
    where
      go : (b : Bool) → eqb (get_or t i 0) 1 ≡ b → Marked (pick b (mark_all (refs i) t) t) k → Marked t k ⊎ (Marked t i × IsIn k (refs i))
      go true e m = ⊎_elim (λ a. inl a) (λ h. inr (eqb-true _ _ e, h)) (mark_all-only (refs i) t k m)
      go false e m = inl m

  -- The pass -----------------------------------------------------------------------------------------------------------------------

  pub pass-length : (m : ℕ) (t : List ℕ) → length (pass refs m t) ≡ length t
  unfolding pass
  pass-length zero t = refl
  pass-length (suc i) t = pass-length i (visit refs i t) ∙ visit-length i t

  pub pass-keeps : (m : ℕ) (t : List ℕ) (k : ℕ) → Marked t k → Marked (pass refs m t) k
  unfolding pass
  pass-keeps zero t k h = h
  pass-keeps (suc i) t k h = pass-keeps i (visit refs i t) k (visit-keeps i t k h)

  -- what is marked is reached
  pub pass-sound : (roots : List ℕ) (m : ℕ) (t : List ℕ) → ((k : ℕ) → Marked t k → Reached refs roots k)
      → (k : ℕ) → Marked (pass refs m t) k → Reached refs roots k
  unfolding pass
  pass-sound roots zero t h = h
  pass-sound roots (suc i) t h =
      pass-sound roots i (visit refs i t) (λ k m. ⊎_elim (h k) (λ x. named (h i x.0) x.1) (visit-only i t k m))

  -- what a marked record names is marked: so far from m up, after the pass of all
  pub pass-closed : (n : ℕ) → Downward refs n → (m : ℕ) (t : List ℕ) → m ≤ n → length t ≡ n
      → ((k : ℕ) → m ≤ k → k < n → Marked t k → (j : ℕ) → IsIn j (refs k) → Marked t j)
      → (k : ℕ) → k < n → Marked (pass refs m t) k → (j : ℕ) → IsIn j (refs k) → Marked (pass refs m t) j
  unfolding pass
  pass-closed n d zero t b l h = λ k. h k (omega arith)
  pass-closed n d (suc i) t b l h = pass-closed n d i (visit refs i t) (omega arith) (visit-length i t ∙ l) next
    where
      next : (k : ℕ) → i ≤ k → k < n → Marked (visit refs i t) k → (j : ℕ) → IsIn j (refs k) → Marked (visit refs i t) j
      next k ik kn m j hj = ⊎_elim before (λ x. absurd (omega (arith, d.below i k (omega arith) x.1))) (visit-only i t k m)
        where
          before : Marked t k → Marked (visit refs i t) j
          before a =
              ⊎_elim (λ (e : k ≡ i). visit-marks i t j (rw e at a) (rw e at hj) (omega (arith, d.below k j kn hj)))
              (λ ne. visit-keeps i t j (h k (omega (arith, ne)) kn a j hj)) (same_or k i)

  -- The closure -------------------------------------------------------------------------------------------------------------------

  module _ (n : ℕ) (roots : List ℕ) where
    clean : (k : ℕ) → Marked (replicate n 0) k → ⊥
    clean k m =
        let l : k < n = rw length-replicate at (marked-inside (replicate n 0) k m) in
        omega (arith, m, get_or-replicate {A = ℕ} n k 0 0 l)

    pub marks-length : length (marks refs n roots) ≡ n
    unfolding marks
    marks-length = pass-length n (mark_all roots (replicate n 0)) ∙ mark_all-length roots (replicate n 0) ∙ length-replicate n 0

    pub marks-sound : (k : ℕ) → Marked (marks refs n roots) k → Reached refs roots k
    unfolding marks
    marks-sound = pass-sound roots n (mark_all roots (replicate n 0)) (λ k m. ⊎_elim (λ a. absurd (clean k a)) root (mark_all-only roots (replicate n 0) k m))

    pub marks-complete : Downward refs n → Inside roots n → {k : ℕ} → Reached refs roots k → (k < n) × Marked (marks refs n roots) k
    unfolding marks
    marks-complete d r (root {i} h) =
        (r.inside i h, pass-keeps n (mark_all roots (replicate n 0)) i (mark_all-marks roots (replicate n 0) i h (rw length-replicate (r.inside i h))))
    marks-complete d r (named {i} {j} a h) =
        let ih : (i < n) × Marked (marks refs n roots) i = marks-complete d r a in
        (omega (arith, d.below i j ih.0 h), pass-closed n d n (mark_all roots (replicate n 0)) (omega arith) (mark_all-length roots (replicate n 0) ∙ length-replicate n 0) (λ x a b. absurd (omega arith)) i ih.0 ih.1 j h)

-- Of payloads ---------------------------------------------------------------------------------------------------------------------

pub marks-long : (minimum : ℕ) (ps : List (List ℕ)) (roots : List ℕ) → length (marks_of minimum ps roots) ≡ length ps
unfolding marks_of
marks-long minimum ps roots = marks-length (names_of minimum ps) (length ps) (roots_from minimum roots)

-- each entry is 0 or 1
abbrev pub Bits : List ℕ → Type 0
Bits t = (i : ℕ) → get_or t i 0 ≤ 1

set-bits : (t : List ℕ) (j : ℕ) → Bits t → Bits (set t j 1)
set-bits [] j h i = h i
set-bits (x ∷ t) zero h zero = omega arith
set-bits (x ∷ t) zero h (suc i) = h (suc i)
set-bits (x ∷ t) (suc j) h zero = h 0
set-bits (x ∷ t) (suc j) h (suc i) = set-bits t j (λ k. h (suc k)) i

clean-bits : (n : ℕ) → Bits (replicate n 0)
clean-bits zero i = omega arith
clean-bits (suc n) zero = omega arith
clean-bits (suc n) (suc i) = clean-bits n i

mark_all-bits : (js t : List ℕ) → Bits t → Bits (mark_all js t)
unfolding mark_all
mark_all-bits [] t h = h
mark_all-bits (j ∷ js) t h = mark_all-bits js (set t j 1) (set-bits t j h)

visit-bits : (refs : ℕ → List ℕ) (i : ℕ) (t : List ℕ) → Bits t → Bits (visit refs i t)
unfolding visit
visit-bits refs i t h = go (eqb (get_or t i 0) 1)
  where
    go : (b : Bool) → Bits (pick b (mark_all (refs i) t) t)
    go true = mark_all-bits (refs i) t h
    go false = h

pub pass-bits : (refs : ℕ → List ℕ) (m : ℕ) (t : List ℕ) → Bits t → Bits (pass refs m t)
unfolding pass
pass-bits refs zero t h = h
pass-bits refs (suc i) t h = pass-bits refs i (visit refs i t) (visit-bits refs i t h)

pub marks-bits : (minimum : ℕ) (ps : List (List ℕ)) (roots : List ℕ) → Bits (marks_of minimum ps roots)
unfolding marks_of marks
marks-bits minimum ps roots =
    pass-bits (names_of minimum ps) (length ps) (mark_all (roots_from minimum roots) (replicate (length ps) 0))
    (mark_all-bits (roots_from minimum roots) (replicate (length ps) 0) (clean-bits (length ps)))

pub marks-or : (minimum : ℕ) (ps : List (List ℕ)) (roots : List ℕ) (i : ℕ) → (get_or (marks_of minimum ps roots) i 0 ≡ 0) ⊎ Marked (marks_of minimum ps roots) i
marks-or minimum ps roots i =
    ⊎_elim (λ m. inr m) (λ n. inl (omega (arith, n, marks-bits minimum ps roots i))) (same_or (get_or (marks_of minimum ps roots) i 0) 1)
