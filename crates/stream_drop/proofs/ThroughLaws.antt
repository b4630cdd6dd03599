-- R-13's table as its caller reads it: through it, what is below the minimum and what is kept go to their new indices; the payloads that it keeps are
-- those of the new stream; and it says whether an optional reference reads as none. Assumes nothing.
use Prim.Native.Nat.{ℕ, zero, suc, ◌+◌, ◌-◌, ◌≤◌, ◌<◌}
use native.Mathlib.Omega.{arith}
use mathlib.Core.Bool.{Bool, true, false}
use mathlib.Core.Path.{◌≡◌, refl, sym}
use mathlib.Core.Logic.{◌⊎◌, inl, inr, ⊎_elim}
use mathlib.Core.List.{List, [], ◌∷◌, map}
use lib.ListN.{length, get_or, get_or-eq_default}
use lib.Dec.{leb, ltb, eqb}
use borrow.Author.Tests.{leb-true, leb-false, ltb-true, ltb-false, eqb-true, eq-eqb, ne_eqb}
use Rattle.answer.specs.Answer.{answered, pick, both}
use Rattle.record_reference.specs.References.{Ref, refs_of}
use Rattle.record_rewrite.specs.Rewrite.{rewrite, Fits}
use Rattle.stream_fit.specs.Sentences.{In}
use Rattle.stream_prune.specs.Pruned.{Marked, numbers, new_index, or_nothing, renumbered, kept_from}
use Rattle.stream_prune.specs.Dropped.{IsIn}
use Rattle.stream_prune.proofs.Numbers.{same_or, rank-all, index_kept, index_below, numbers-long, numbers-kept, numbers-dropped, numbers-index}
use Rattle.stream_prune.proofs.MarkLaws.{marked-inside}
use Rattle.stream_drop.specs.Drop.{one_reads_as_none, some_read_as_none}
use Rattle.stream_drop.specs.Sentences.{renumbered_by, IsKept, rewritten, kept_by, upward}
use Rattle.stream_drop.proofs.UpLaws.{Known, AllKnown}

-- Two functions that agree on the references -------------------------------------------------------------------------------------------------

module _ (f g : ℕ → ℕ) where
  same-rewrite : (rs : List Ref) (s : List ℕ) → ((r : Ref) → In r rs → f r.index ≡ g r.index) → rewrite f s rs ≡ rewrite g s rs
  unfolding rewrite In
  same-rewrite [] s h = refl
  same-rewrite (r ∷ rs) s h = rw (h r (inl refl)) (same-rewrite rs _ (λ x i. h x (inr i)))

  pub same-fits : (rs : List Ref) → ((r : Ref) → In r rs → f r.index ≡ g r.index) → Fits g rs → Fits f rs
  unfolding Fits In
  same-fits [] h k = tt
  same-fits (r ∷ rs) h k =
      let e = h r (inl refl) in
      (record { small = rw e k.0.small; some = λ o. rw e (k.0.some o) }, same-fits rs (λ x i. h x (inr i)) k.1)

pub same_map : (f g : ℕ → ℕ) (xs : List ℕ) → ((x : ℕ) → IsIn x xs → f x ≡ g x) → map f xs ≡ map g xs
same_map f g [] h = refl
same_map f g (x ∷ xs) h = rw (h x (inl refl), same_map f g xs (λ y i. h y (inr i)))

-- Entries ---------------------------------------------------------------------------------------------------------------------------------------

module _ (m : ℕ) (ms : List ℕ) (up : 0 < m) where
  pub marked-kept : (k : ℕ) → Marked ms k → IsKept (numbers m ms) k
  marked-kept k e = omega (arith, numbers-kept m ms k (marked-inside ms k e) e)

  pub kept-marked : (k : ℕ) → IsKept (numbers m ms) k → Marked ms k
  kept-marked k l = go (ltb k (length ms)) refl
    where
      go : (b : Bool) → ltb k (length ms) ≡ b → Marked ms k
      go true e = ⊎_elim (λ a. a) (λ n. absurd (omega (arith, l, numbers-dropped m ms k (ltb-true _ _ e) n))) (same_or (get_or ms k 0) 1)
      go false e = absurd (omega (arith, l, get_or-eq_default (numbers m ms) 0 {n = k} (omega (arith, numbers-long m ms, ltb-false k (length ms) e))))

  -- an old index through the table
  pub through-new : (n : ℕ) → (m ≤ n → Marked ms (n - m)) → renumbered_by m (numbers m ms) n ≡ new_index m ms n
  unfolding renumbered_by
  through-new n k = go (leb m n) refl
    where
      go : (b : Bool) → leb m n ≡ b → pick b (get_or (numbers m ms) (n - m) 0) n ≡ new_index m ms n
      go true e = let l = leb-true m n e in numbers-index m ms n l (marked-inside ms (n - m) (k l)) (k l)
      go false e = sym (index_below m ms n (leb-false m n e))

  -- Payloads ------------------------------------------------------------------------------------------------------------------------------------

  rewritten-new : (i : ℕ) (p : List ℕ) → Known m ms i p → Marked ms i → rewritten m (numbers m ms) p ≡ renumbered m ms p
  unfolding renumbered
  rewritten-new i p k e = rw k.are (same-rewrite (renumbered_by m (numbers m ms)) (new_index m ms) k.refs p (λ r j. through-new r.index (k.names e r j)))

  pub kept_by_lem : (i : ℕ) (ps : List (List ℕ)) → i + length ps ≤ length ms → AllKnown m ms i ps → kept_by m (numbers m ms) i ps ≡ kept_from m ms i ps
  unfolding kept_by kept_from AllKnown
  kept_by_lem i [] l k = refl
  kept_by_lem i (p ∷ ps) l k = go (same_or (get_or ms i 0) 1) (kept_by_lem (i + 1) ps (omega arith) k.1)
    where
      go : (get_or ms i 0 ≡ 1) ⊎ (get_or ms i 0 ≡ 1 → ⊥) → kept_by m (numbers m ms) (i + 1) ps ≡ kept_from m ms (i + 1) ps
          → pick (eqb (get_or (numbers m ms) i 0) 0) (kept_by m (numbers m ms) (i + 1) ps) (rewritten m (numbers m ms) p ∷ kept_by m (numbers m ms) (i + 1) ps)
          ≡ pick (eqb (get_or ms i 0) 1) (renumbered m ms p ∷ kept_from m ms (i + 1) ps) (kept_from m ms (i + 1) ps)
      go (inl a) ih =
          let n = marked-kept i a in
          rw (eq-eqb _ _ a, ne_eqb (get_or (numbers m ms) i 0) 0 (λ (z : get_or (numbers m ms) i 0 ≡ 0). omega arith), ih, rewritten-new i p k.0 a)
      go (inr a) ih = rw (ne_eqb _ _ a, eq-eqb (get_or (numbers m ms) i 0) 0 (numbers-dropped m ms i (omega arith) a), ih)

-- Where all are kept ---------------------------------------------------------------------------------------------------------------------------

pub all-numbers : (n : ℕ) (ms : List ℕ) (ps : List (List ℕ)) → length ms ≡ length ps → ((k : ℕ) → k < length ms → Marked ms k) → numbers n ms ≡ upward n ps
unfolding numbers upward
all-numbers n [] [] l h = refl
all-numbers n [] (p ∷ ps) l h = absurd (omega arith)
all-numbers n (x ∷ ms) [] l h = absurd (omega arith)
all-numbers n (x ∷ ms) (p ∷ ps) l h = rw (eq-eqb _ _ (h 0 (omega arith)), all-numbers (n + 1) ms ps (omega arith) (λ k j. h (suc k) (omega arith)))

pub all-index : (m : ℕ) (ms : List ℕ) → ((k : ℕ) → k < length ms → Marked ms k) → (n : ℕ) → (m ≤ n → Marked ms (n - m)) → new_index m ms n ≡ n
all-index m ms all n k = go (leb m n) refl
  where
    go : (b : Bool) → leb m n ≡ b → new_index m ms n ≡ n
    go true e =
        let l = leb-true m n e in
        let j = marked-inside ms (n - m) (k l) in
        omega (arith, l, index_kept m ms n l, rank-all ms (n - m) (λ i x. all i (omega arith)))
    go false e = index_below m ms n (leb-false m n e)

-- A reference that reads as none ------------------------------------------------------------------------------------------------------------------

module _ (m : ℕ) (ms : List ℕ) where
  -- one of these references does
  record One (rs : List Ref) : Type 0 where
    reference : Ref
    there : In reference rs
    optional : reference.optional ≡ true
    becomes : new_index m ms reference.index ≡ 0xffff

  one_found : (rs : List Ref) → one_reads_as_none m ms rs ≡ true → One rs
  unfolding one_reads_as_none In
  one_found [] e = let z : ◌≡◌ {A = ℕ} 0 1 = cc in absurd (omega arith)
  one_found (r ∷ rs) e = go r.optional refl (eqb (new_index m ms r.index) 0xffff) refl e (one_found rs)
    where
      later : One rs → One (r ∷ rs)
      later k = record { reference = k.reference; there = inr k.there; optional = k.optional; becomes = k.becomes }

      go : (o : Bool) → r.optional ≡ o → (b : Bool) → eqb (new_index m ms r.index) 0xffff ≡ b → pick (both o b) true (one_reads_as_none m ms rs) ≡ true
          → (one_reads_as_none m ms rs ≡ true → One rs) → One (r ∷ rs)
      go true o true b e ih = record { reference = r; there = inl refl; optional = o; becomes = eqb-true _ _ b }
      go true o false b e ih = later (ih e)
      go false o b f e ih = later (ih e)

  pick_true : (b : Bool) → pick b true true ≡ true
  pick_true true = refl
  pick_true false = refl

  one-there : (rs : List Ref) (r : Ref) → In r rs → r.optional ≡ true → new_index m ms r.index ≡ 0xffff → one_reads_as_none m ms rs ≡ true
  unfolding one_reads_as_none In
  one-there [] r i o e = absurd i
  one-there (x ∷ rs) r (inl i) o e =
      let a : x.optional ≡ true = rw i at o in
      let b : new_index m ms x.index ≡ 0xffff = rw i at e in
      rw (a, eq-eqb _ _ b)
  one-there (x ∷ rs) r (inr i) o e = rw (one-there rs r i o e) (pick_true (both x.optional (eqb (new_index m ms x.index) 0xffff)))

  -- one of a kept payload, of those numbered from i on
  pub record Reads (i : ℕ) (ps : List (List ℕ)) : Type 0 where
    pub holder : ℕ
    pub kept : Marked ms (i + holder)
    pub refs : List Ref
    pub are : refs_of (get_or ps holder []) ≡ answered refs
    pub reference : Ref
    pub one : In reference refs
    pub optional : reference.optional ≡ true
    pub becomes : new_index m ms reference.index ≡ 0xffff
    -- what it names is kept, and it did not read so before
    pub named : m ≤ reference.index → Marked ms (reference.index - m)
    pub some : reference.index ≡ 0xffff → ⊥

  pub reads-found : (i : ℕ) (ps : List (List ℕ)) → AllKnown m ms i ps → some_read_as_none m ms i ps ≡ true → Reads i ps
  unfolding some_read_as_none AllKnown
  reads-found i [] k e = let z : ◌≡◌ {A = ℕ} 0 1 = cc in absurd (omega arith)
  reads-found i (p ∷ ps) k e = go (same_or (get_or ms i 0) 1) (rw k.0.are at e) (reads-found (i + 1) ps k.1)
    where
      later : Reads (i + 1) ps → Reads i (p ∷ ps)
      later x =
          let z : i + 1 + x.holder ≡ i + suc x.holder = omega arith in
          record {
            holder = suc x.holder;
            kept = rw z at x.kept;
            refs = x.refs;
            are = x.are;
            reference = x.reference;
            one = x.one;
            optional = x.optional;
            becomes = x.becomes;
            named = x.named;
            some = x.some;
          }

      here : Marked ms i → One k.0.refs → Reads i (p ∷ ps)
      here a x =
          let z : i + 0 ≡ i = omega arith in
          record {
            holder = 0;
            kept = rw z a;
            refs = k.0.refs;
            are = k.0.are;
            reference = x.reference;
            one = x.there;
            optional = x.optional;
            becomes = x.becomes;
            named = k.0.names a x.reference x.there;
            some = k.0.some x.reference x.there x.optional;
          }

      kept : Marked ms i → (b : Bool) → one_reads_as_none m ms k.0.refs ≡ b → pick b true (some_read_as_none m ms (i + 1) ps) ≡ true → (some_read_as_none m ms (i + 1) ps ≡ true → Reads (i + 1) ps)
          → Reads i (p ∷ ps)
      kept a true b e ih = here a (one_found k.0.refs b)
      kept a false b e ih = later (ih e)

      go : (get_or ms i 0 ≡ 1) ⊎ (get_or ms i 0 ≡ 1 → ⊥)
          → pick (both (eqb (get_or ms i 0) 1) (one_reads_as_none m ms k.0.refs)) true (some_read_as_none m ms (i + 1) ps) ≡ true
          → (some_read_as_none m ms (i + 1) ps ≡ true → Reads (i + 1) ps) → Reads i (p ∷ ps)
      go (inl a) e ih = kept a (one_reads_as_none m ms k.0.refs) refl (rw (eq-eqb _ _ a) at e) ih
      go (inr a) e ih = later (ih (rw (ne_eqb _ _ a) at e))

  pub reads-there : (i : ℕ) (ps : List (List ℕ)) (k : ℕ) → k < length ps → Marked ms (i + k) → (rs : List Ref) → refs_of (get_or ps k []) ≡ answered rs
      → (r : Ref) → In r rs → r.optional ≡ true → new_index m ms r.index ≡ 0xffff → some_read_as_none m ms i ps ≡ true
  unfolding some_read_as_none
  reads-there i [] k l a rs e r j o b = absurd (omega arith)
  reads-there i (p ∷ ps) zero l a rs e r j o b =
      let z : i + 0 ≡ i = omega arith in
      let c : Marked ms i = rw z at a in
      rw (e, eq-eqb _ _ c, one-there rs r j o b)
  reads-there i (p ∷ ps) (suc k) l a rs e r j o b =
      let z : i + suc k ≡ i + 1 + k = omega arith in
      rw (reads-there (i + 1) ps k (omega arith) (rw z at a) rs e r j o b) (pick_true (both (eqb (get_or ms i 0) 1) (one_reads_as_none m ms (or_nothing (refs_of p)))))
