-- Rows of the table, and what storing in them does to the entries that they hold. Assumes nothing.
use Prim.Native.Nat.{ℕ, zero, suc, ◌+◌, ◌*◌, ◌≤◌, ◌<◌}
use mathlib.Core.Path.{◌≡◌, refl, sym, ap, ◌∙◌, subst}
use mathlib.Core.Bool.{Bool, true, false}
use mathlib.Core.List.{List, [], ◌∷◌}
use mathlib.Core.Logic.{◌⊎◌, inl, inr}
use native.Mathlib.Omega.{arith}
use lib.ListN.{length, get_or, set, drop, length-set}
use lib.Seq.{get_or-set_same, get_or-set_other, drop-set-lt}
use lib.Dec.{ltb, eqb}
use borrow.Author.Tests.{lt-ltb, le-ltb, eq-eqb, ne_eqb, ltb-true, ltb-false}
use Rattle.answer.specs.Answer.{pick}
use Rattle.stream_report.specs.Report.{Entry, grown, tallied, has, passes, most, row_at, rows}
use Rattle.stream_report.specs.Held.{Known, grown_table, new_table, fits_row, Grows}

-- ---- a record in its row
module _ (t : List ℕ) (r n : ℕ) where
  row-over : most < get_or t (3 * r + 1) 0 + 1 → fits_row t r n ≡ false
  row-over h = rw (lt-ltb _ _ h)

  row-over-bytes : most < get_or t (3 * r + 2) 0 + n → fits_row t r n ≡ false
  row-over-bytes h = go (ltb most (get_or t (3 * r + 1) 0 + 1))
    where
      go : (b : Bool) → pick b false (pick (ltb most (get_or t (3 * r + 2) 0 + n)) false true) ≡ false
      go true = refl
      go false = rw (lt-ltb _ _ h)

  row_fits : get_or t (3 * r + 1) 0 + 1 ≤ most → get_or t (3 * r + 2) 0 + n ≤ most → fits_row t r n ≡ true
  row_fits a b = rw (le-ltb _ _ a, le-ltb _ _ b)

  pub grows-not : most < get_or t (3 * r + 1) 0 + 1 → Grows t r n false t
  grows-not h = record { test = sym (row-over h); table = ap (λ (b : Bool). pick b (grown_table t r n) t) (sym (row-over h)) }

  pub grows-not-bytes : most < get_or t (3 * r + 2) 0 + n → Grows t r n false t
  grows-not-bytes h = record { test = sym (row-over-bytes h); table = ap (λ (b : Bool). pick b (grown_table t r n) t) (sym (row-over-bytes h)) }

  pub grows : get_or t (3 * r + 1) 0 + 1 ≤ most → get_or t (3 * r + 2) 0 + n ≤ most → Grows t r n true (grown_table t r n)
  grows a b = record { test = sym (row_fits a b); table = ap (λ (b : Bool). pick b (grown_table t r n) t) (sym (row_fits a b)) }

  -- back: what did not fit
  pub over-is : fits_row t r n ≡ false → (most < get_or t (3 * r + 1) 0 + 1) ⊎ (most < get_or t (3 * r + 2) 0 + n)
  over-is e = go (ltb most (get_or t (3 * r + 1) 0 + 1)) refl (ltb most (get_or t (3 * r + 2) 0 + n)) refl e
    where
      go : (a : Bool) → ltb most (get_or t (3 * r + 1) 0 + 1) ≡ a → (b : Bool) → ltb most (get_or t (3 * r + 2) 0 + n) ≡ b → pick a false (pick b false true) ≡ false
          → (most < get_or t (3 * r + 1) 0 + 1) ⊎ (most < get_or t (3 * r + 2) 0 + n)
      go true p b q x = inl (ltb-true _ _ p)
      go false p true q x = inr (ltb-true _ _ q)
      go false p false q x = let z : ◌≡◌ {A = ℕ} 0 1 = cc in absurd (omega arith)

  pub grows-taken : (b : Bool) (u : List ℕ) → Grows t r n b u → b ≡ true → u ≡ grown_table t r n
  grows-taken b u g e = g.table ∙ ap (λ (x : Bool). pick x (grown_table t r n) t) (sym g.test ∙ e)

  pub grows-left : (b : Bool) (u : List ℕ) → Grows t r n b u → b ≡ false → (fits_row t r n ≡ false) × (u ≡ t)
  grows-left b u g e = (sym g.test ∙ e, g.table ∙ ap (λ (x : Bool). pick x (grown_table t r n) t) (sym g.test ∙ e))

-- ---- what a store leaves

-- two numbers are stored, at p and at q
module _ (t : List ℕ) (p q a b : ℕ) (d : p < q) where
  two-other : (j : ℕ) → (j ≡ p → ⊥) → (j ≡ q → ⊥) → get_or (set (set t p a) q b) j 0 ≡ get_or t j 0
  two-other j x y = get_or-set_other (set t p a) q j b 0 y ∙ get_or-set_other t p j a 0 x

  two-first : p < length t → get_or (set (set t p a) q b) p 0 ≡ a
  two-first h = get_or-set_other (set t p a) q p b 0 (λ e. omega arith) ∙ get_or-set_same t p a 0 h

  two-second : q < length t → get_or (set (set t p a) q b) q 0 ≡ b
  two-second h = get_or-set_same (set t p a) q b 0 (rw length-set h)

  two-length : length (set (set t p a) q b) ≡ length t
  two-length = simp length-set

  two-rest : (k : ℕ) → q < k → drop k (set (set t p a) q b) ≡ drop k t
  two-rest k h = drop-set-lt k (set t p a) q b h ∙ drop-set-lt k t p a (omega arith)

module _ (t : List ℕ) (r n : ℕ) where
  pub grown-other : (j : ℕ) → (j ≡ 3 * r + 1 → ⊥) → (j ≡ 3 * r + 2 → ⊥) → get_or (grown_table t r n) j 0 ≡ get_or t j 0
  grown-other j a b = two-other t (3 * r + 1) (3 * r + 2) (get_or t (3 * r + 1) 0 + 1) (get_or t (3 * r + 2) 0 + n) (omega arith) j a b

  pub grown-records : 3 * r + 2 < length t → get_or (grown_table t r n) (3 * r + 1) 0 ≡ get_or t (3 * r + 1) 0 + 1
  grown-records h = two-first t (3 * r + 1) (3 * r + 2) (get_or t (3 * r + 1) 0 + 1) (get_or t (3 * r + 2) 0 + n) (omega arith) (omega arith)

  pub grown-bytes : 3 * r + 2 < length t → get_or (grown_table t r n) (3 * r + 2) 0 ≡ get_or t (3 * r + 2) 0 + n
  grown-bytes h = two-second t (3 * r + 1) (3 * r + 2) (get_or t (3 * r + 1) 0 + 1) (get_or t (3 * r + 2) 0 + n) (omega arith) h

  pub grown-length : length (grown_table t r n) ≡ length t
  grown-length = two-length t (3 * r + 1) (3 * r + 2) (get_or t (3 * r + 1) 0 + 1) (get_or t (3 * r + 2) 0 + n) (omega arith)

  pub grown-rest : (k : ℕ) → r < k → drop (3 * k) (grown_table t r n) ≡ drop (3 * k) t
  grown-rest k h = two-rest t (3 * r + 1) (3 * r + 2) (get_or t (3 * r + 1) 0 + 1) (get_or t (3 * r + 2) 0 + n) (omega arith) (3 * k) (omega arith)

module _ (t : List ℕ) (r leaf n : ℕ) where
  pub new-other : (j : ℕ) → j < 3 * r → get_or (new_table t r leaf n) j 0 ≡ get_or t j 0
  new-other j h = two-other (set t (3 * r) leaf) (3 * r + 1) (3 * r + 2) 1 n (omega arith) j (λ e. omega arith) (λ e. omega arith) ∙ get_or-set_other t (3 * r) j leaf 0 (λ e. omega arith)

  pub new-leaf : 3 * r + 2 < length t → get_or (new_table t r leaf n) (3 * r) 0 ≡ leaf
  new-leaf h = two-other (set t (3 * r) leaf) (3 * r + 1) (3 * r + 2) 1 n (omega arith) (3 * r) (λ e. omega arith) (λ e. omega arith) ∙ get_or-set_same t (3 * r) leaf 0 (omega arith)

  new-records : 3 * r + 2 < length t → get_or (new_table t r leaf n) (3 * r + 1) 0 ≡ 1
  new-records h = two-first (set t (3 * r) leaf) (3 * r + 1) (3 * r + 2) 1 n (omega arith) (rw length-set (omega arith))

  new-bytes : 3 * r + 2 < length t → get_or (new_table t r leaf n) (3 * r + 2) 0 ≡ n
  new-bytes h = two-second (set t (3 * r) leaf) (3 * r + 1) (3 * r + 2) 1 n (omega arith) (rw length-set h)

  pub new-length : length (new_table t r leaf n) ≡ length t
  new-length = simp length-set

  pub new-rest : (k : ℕ) → r < k → drop (3 * k) (new_table t r leaf n) ≡ drop (3 * k) t
  new-rest k h = two-rest (set t (3 * r) leaf) (3 * r + 1) (3 * r + 2) 1 n (omega arith) (3 * k) (omega arith) ∙ drop-set-lt (3 * k) t (3 * r) leaf (omega arith)

  new_row : 3 * r + 2 < length t → ◌≡◌ {A = Entry} (record { leaf = leaf; records = 1; bytes = n }) (row_at (new_table t r leaf n) r)
  new_row h = rw (new-leaf h, new-records h, new-bytes h)

-- ---- rows of two tables that agree on them
row_same : (t u : List ℕ) (i : ℕ) → ((j : ℕ) → 3 * i ≤ j → j < 3 * i + 3 → get_or t j 0 ≡ get_or u j 0) → row_at t i ≡ row_at u i
row_same t u i h = rw (h (3 * i) (omega arith) (omega arith), h (3 * i + 1) (omega arith) (omega arith), h (3 * i + 2) (omega arith) (omega arith))

pub rows_same : (k i : ℕ) (t u : List ℕ) → ((j : ℕ) → 3 * i ≤ j → j < 3 * (i + k) → get_or t j 0 ≡ get_or u j 0) → rows k t i ≡ rows k u i
unfolding rows
rows_same zero i t u h = refl
rows_same (suc k) i t u h =
    rw (row_same t u i (λ j a b. h j a (omega arith)), rows_same k (suc i) t u (λ j a b. h j (omega arith) (omega arith)))

pub rows-length : (k i : ℕ) (t : List ℕ) → length (rows k t i) ≡ k
unfolding rows
rows-length zero i t = refl
rows-length (suc k) i t = ap suc (rows-length k (suc i) t)

-- ---- a leaf that has a row
module _ (t : List ℕ) (leaf n r : ℕ) (before : (k : ℕ) → k < r → get_or t (3 * k) 0 ≡ leaf → ⊥) (here : get_or t (3 * r) 0 ≡ leaf) (inside : 3 * r + 2 < length t) where
  grown-row : grown (row_at t r) n ≡ row_at (grown_table t r n) r
  grown-row = rw (grown-other t r n (3 * r) (λ e. omega arith) (λ e. omega arith), grown-records t r n inside, grown-bytes t r n inside)

  tally-here : (k : ℕ) → tallied (rows (suc k) t r) leaf n ≡ rows (suc k) (grown_table t r n) r
  unfolding tallied rows
  tally-here k =
      rw (eq-eqb _ _ here, grown-row, rows_same k (suc r) t (grown_table t r n) (λ j a b. sym (grown-other t r n j (λ e. omega arith) (λ e. omega arith))))

  pub tally-grown : (k i : ℕ) → i ≤ r → r < i + k → tallied (rows k t i) leaf n ≡ rows k (grown_table t r n) i
  unfolding tallied rows
  tally-grown zero i a b = absurd (omega arith)
  tally-grown (suc k) i a b = go (ltb i r) refl (λ h. tally-grown k (suc i) h (omega arith))
    where
      go : (c : Bool) → ltb i r ≡ c → (suc i ≤ r → tallied (rows k t (suc i)) leaf n ≡ rows k (grown_table t r n) (suc i))
          → tallied (rows (suc k) t i) leaf n ≡ rows (suc k) (grown_table t r n) i
      go true e on =
          let l : i < r = ltb-true _ _ e in
          rw (ne_eqb _ _ (before i l), on l, row_same t (grown_table t r n) i (λ j p q. sym (grown-other t r n j (λ e. omega arith) (λ e. omega arith))))
      go false e on =
          let l : r ≤ i = ltb-false _ _ e in
          let q : r ≡ i = omega arith in
          subst (λ (x : ℕ). tallied (rows (suc k) t x) leaf n ≡ rows (suc k) (grown_table t r n) x) q (tally-here k)

  pub has-row : (k i : ℕ) → i ≤ r → r < i + k → has (rows k t i) leaf ≡ true
  unfolding has rows
  has-row zero i a b = absurd (omega arith)
  has-row (suc k) i a b = go (ltb i r) refl (λ h. has-row k (suc i) h (omega arith))
    where
      go : (c : Bool) → ltb i r ≡ c → (suc i ≤ r → has (rows k t (suc i)) leaf ≡ true) → has (rows (suc k) t i) leaf ≡ true
      go true e on = let l : i < r = ltb-true _ _ e in rw (ne_eqb _ _ (before i l), on l)
      go false e on =
          let l : r ≤ i = ltb-false _ _ e in
          let q : r ≡ i = omega arith in
          rw (eq-eqb _ _ (ap (λ (x : ℕ). get_or t (3 * x) 0) (sym q) ∙ here))

-- ---- a leaf that has none
module _ (t : List ℕ) (leaf n r : ℕ) (before : (k : ℕ) → k < r → get_or t (3 * k) 0 ≡ leaf → ⊥) where
  pub has-none : (k i : ℕ) → r ≡ i + k → has (rows k t i) leaf ≡ false
  unfolding has rows
  has-none zero i a = refl
  has-none (suc k) i a = rw (ne_eqb _ _ (before i (omega arith)), has-none k (suc i) (omega arith))

  pub tally-new : 3 * r + 2 < length t → (k i : ℕ) → r ≡ i + k → tallied (rows k t i) leaf n ≡ rows (suc k) (new_table t r leaf n) i
  unfolding tallied rows
  tally-new h zero i a =
      let e : r ≡ i = omega arith in
      subst (λ (x : ℕ). record { leaf = leaf; records = 1; bytes = n } ∷ [] ≡ row_at (new_table t r leaf n) x ∷ []) e (ap (λ (y : Entry). y ∷ []) (new_row t r leaf n h))
  tally-new h (suc k) i a =
      rw (ne_eqb _ _ (before i (omega arith)), tally-new h k (suc i) (omega arith), row_same t (new_table t r leaf n) i (λ j p q. sym (new-other t r leaf n j (omega arith))))

-- ---- numbers that pass 64 bits
pub passes-small : (t : List ℕ) → Known t → (k i : ℕ) → passes (rows k t i) ≡ false
unfolding passes rows
passes-small t h zero i = refl
passes-small t h (suc k) i =
    rw (le-ltb most _ (h.small (3 * i + 1)), le-ltb most _ (h.small (3 * i + 2)), passes-small t h k (suc i))

pub passes-row : (t : List ℕ) (r : ℕ) → (most < get_or t (3 * r + 1) 0) ⊎ (most < get_or t (3 * r + 2) 0) → (k i : ℕ) → i ≤ r → r < i + k → passes (rows k t i) ≡ true
unfolding passes rows
passes-row t r h zero i a b = absurd (omega arith)
passes-row t r h (suc k) i a b = go (ltb i r) refl (λ l. passes-row t r h k (suc i) l (omega arith))
  where
    later : (x y : Bool) (z : Bool) → z ≡ true → pick x true (pick y true z) ≡ true
    later true y z e = refl
    later false true z e = refl
    later false false z e = e

    bytes : (x : Bool) (z : Bool) → pick x true (pick true true z) ≡ true
    bytes true z = refl
    bytes false z = refl

    here : (most < get_or t (3 * r + 1) 0) ⊎ (most < get_or t (3 * r + 2) 0) → passes (rows (suc k) t r) ≡ true
    here (inl p) = rw (lt-ltb most _ p)
    here (inr p) = rw (lt-ltb most _ p, bytes (ltb most (get_or t (3 * r + 1) 0)) (passes (rows k t (suc r))))

    go : (c : Bool) → ltb i r ≡ c → (suc i ≤ r → passes (rows k t (suc i)) ≡ true) → passes (rows (suc k) t i) ≡ true
    go true e on = later (ltb most (get_or t (3 * i + 1) 0)) (ltb most (get_or t (3 * i + 2) 0)) (passes (rows k t (suc i))) (on (ltb-true _ _ e))
    go false e on =
        let l : r ≤ i = ltb-false _ _ e in
        let q : r ≡ i = omega arith in
        subst (λ (x : ℕ). passes (rows (suc k) t x) ≡ true) q (here h)

-- a record more does not lower them
pub passes-tally : (es : List Entry) (leaf n : ℕ) → passes es ≡ true → passes (tallied es leaf n) ≡ true
unfolding passes tallied
passes-tally [] leaf n h = let z : ◌≡◌ {A = ℕ} 0 1 = cc in absurd (omega arith)
passes-tally (e ∷ es) leaf n h = go (eqb e.leaf leaf) (ltb most e.records) refl (ltb most e.bytes) refl h (passes-tally es leaf n)
  where
    go : (c a : Bool) → ltb most e.records ≡ a → (b : Bool) → ltb most e.bytes ≡ b → pick a true (pick b true (passes es)) ≡ true → (passes es ≡ true → passes (tallied es leaf n) ≡ true)
        → passes (pick c (grown e n ∷ es) (e ∷ tallied es leaf n)) ≡ true
    go true true p b q h on = rw (lt-ltb most (e.records + 1) (let l : most < e.records = ltb-true _ _ p in omega arith))
    go true false p true q h on = by_bytes (ltb most (e.records + 1)) (let l : most < e.bytes = ltb-true _ _ q in omega arith)
      where
        by_bytes : (x : Bool) → most < e.bytes + n → pick x true (pick (ltb most (e.bytes + n)) true (passes es)) ≡ true
        by_bytes true l = refl
        by_bytes false l = rw (lt-ltb most _ l)
    go true false p false q h on = by_rest (ltb most (e.records + 1)) (ltb most (e.bytes + n))
      where
        by_rest : (x y : Bool) → pick x true (pick y true (passes es)) ≡ true
        by_rest true y = refl
        by_rest false true = refl
        by_rest false false = h
    go false true p b q h on = rw p
    go false false p true q h on = rw (p, q)
    go false false p false q h on = rw (p, q, on h)
