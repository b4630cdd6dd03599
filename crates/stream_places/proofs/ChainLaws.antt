-- Places that pass the check of `load` are the starts of their blocks, and the starts of blocks pass it. Assumes nothing.
use Prim.Native.Nat.{ℕ, zero, suc, ◌+◌, ◌*◌, ◌≤◌, ◌<◌}
use native.Mathlib.Omega.{arith}
use native.Mathlib.Nat.{zero-mul, suc-mul, min-eq_left}
use mathlib.Core.Path.{◌≡◌, refl, sym, ap, ◌∙◌}
use mathlib.Core.Bool.{Bool, true, false}
use mathlib.Core.List.{List, [], ◌∷◌}
use lib.ListN.{length, get_or, take, drop, length-take, get_or-append}
use lib.Seq.{get_or-take}
use lib.Dec.{eqb}
use borrow.Author.Tests.{eq-eqb, eqb-true}
use Rattle.answer.specs.Answer.{both}
use Rattle.field_put.specs.Bytes.{put}
use Rattle.field_put.proofs.PutLaws.{put_is}
use Rattle.stream_item.specs.Links.{Walk, reached, broke, chain}
use Rattle.stream_item.proofs.LinkLaws.{more, chain-none, chain-split}
use Rattle.stream_finder.specs.Finder.{State, block_of}
use Rattle.stream_finder.specs.Places.{Placed}
use Rattle.stream_finder.proofs.PlaceLaws.{placed-load}
use Rattle.stream_places.specs.Places.{ends, follows, on_chain}
use Rattle.stream_places.proofs.PlacesLaws.{ends-reached}

both-parts : (b : Bool) (c : Bool) → both b c ≡ true → (b ≡ true) × (c ≡ true)
both-parts true c e = (refl, e)
both-parts false c e = let z : ◌≡◌ {A = ℕ} 0 1 = cc in absurd (omega arith)

-- a table that was filled has those places first
pub filled_at : (t ws : List ℕ) (k : ℕ) → length ws ≤ length t → k < length ws → get_or (put t 0 ws) k 0 ≡ get_or ws k 0
filled_at t ws k l h = ap (λ (xs : List ℕ). get_or xs k 0) (put_is t 0 ws (omega arith)) ∙ get_or-append ws (drop (0 + length ws) t) 0 k h

module _ (s : List ℕ) (b : ℕ) where
  follows-at : (q : ℕ) (ws : List ℕ) (k : ℕ) → follows s b q ws ≡ true → k < length ws → chain s (get_or (q ∷ ws) k 0) b ≡ reached (get_or (q ∷ ws) (suc k) 0)
  unfolding follows
  follows-at q [] k e l = absurd (omega arith)
  follows-at q (w ∷ ws) zero e l = ends-reached (chain s q b) w (both-parts (ends (chain s q b) w) (follows s b w ws) e).0
  follows-at q (w ∷ ws) (suc k) e l = follows-at w ws k (both-parts (ends (chain s q b) w) (follows s b w ws) e).1 (omega arith)

  follows-all : (q : ℕ) (ws : List ℕ) → ((k : ℕ) → k < length ws → chain s (get_or (q ∷ ws) k 0) b ≡ reached (get_or (q ∷ ws) (suc k) 0)) → follows s b q ws ≡ true
  unfolding follows
  follows-all q [] h = refl
  follows-all q (w ∷ ws) h = simp (h 0 (omega arith), eq-eqb w w refl) (follows-all w ws (λ k l. h (suc k) (omega arith)))

  -- what passed the check
  pub record Chained (start : ℕ) (ws : List ℕ) : Type 0 where
    pub first : 0 < length ws → get_or ws 0 0 ≡ start
    pub later : (k : ℕ) → suc k < length ws → chain s (get_or ws k 0) b ≡ reached (get_or ws (suc k) 0)

  pub chained : (start : ℕ) (ws : List ℕ) → on_chain s b start ws ≡ true → Chained start ws
  unfolding on_chain
  chained start [] e = record { first = λ l. absurd (omega arith); later = λ k l. absurd (omega arith) }
  chained start (q ∷ qs) e =
      let h = both-parts (eqb q start) (follows s b q qs) e in
      record { first = λ l. eqb-true _ _ h.0; later = λ k l. follows-at q qs k h.1 (omega arith) }

  pub unchained : (start : ℕ) (ws : List ℕ) → Chained start ws → on_chain s b start ws ≡ true
  unfolding on_chain
  unchained start [] c = refl
  unchained start (q ∷ qs) c = simp (eq-eqb _ _ (c.first (omega arith))) (follows-all q qs (λ k l. c.later k (omega arith)))

-- loaded places are the starts of their blocks
pub chained-placed : (s : List ℕ) (start : ℕ) (σ : State) (t ws : List ℕ) → σ.table ≡ put t 0 ws → σ.finder.held ≡ length ws → length ws ≤ length t
    → Chained s (block_of σ.finder) start ws → Placed s start σ
chained-placed s start σ t ws e n l c = go (length ws) refl
  where
    at : (k : ℕ) → k < length ws → get_or σ.table k 0 ≡ get_or ws k 0
    at k h = ap (λ (xs : List ℕ). get_or xs k 0) e ∙ filled_at t ws k l h

    go : (m : ℕ) → length ws ≡ m → Placed s start σ
    go zero z = λ k h. absurd (omega arith)
    go (suc m) z =
        placed-load s start σ (at 0 (omega arith) ∙ c.first (omega arith))
        (λ k h. ap (λ (p : ℕ). chain s p (block_of σ.finder)) (at k (omega arith)) ∙ c.later k (omega arith) ∙ ap reached (sym (at (suc k) (omega arith))))

-- and the starts of blocks pass the check
more-reached : (a : ℕ) (w : Walk) (q : ℕ) → more a w ≡ reached q → w ≡ reached q
more-reached a (reached r) q e = e
more-reached a (broke j) q e = let z : ◌≡◌ {A = ℕ} 0 1 = cc in absurd (omega arith)

pub placed-chained : (s : List ℕ) (start : ℕ) (σ : State) → σ.finder.held ≤ length σ.table → Placed s start σ
    → Chained s (block_of σ.finder) start (take σ.finder.held σ.table)
placed-chained s start σ l pl = record {
  first = λ h. at 0 (omega (arith, whole)) ∙ start_is (omega (arith, whole));
  later = λ k h.
      ap (λ (p : ℕ). chain s p b) (at k (omega (arith, whole)))
      ∙ more-reached (k * b) (chain s (get_or σ.table k 0) b) (get_or σ.table (suc k) 0) (next k (omega (arith, whole)))
      ∙ ap reached (sym (at (suc k) (omega (arith, whole))));
}
  where
    b : ℕ
    b = block_of σ.finder

    whole : length (take σ.finder.held σ.table) ≡ σ.finder.held
    whole = length-take σ.finder.held σ.table ∙ min-eq_left l

    at : (k : ℕ) → k < σ.finder.held → get_or (take σ.finder.held σ.table) k 0 ≡ get_or σ.table k 0
    at k h = get_or-take σ.finder.held σ.table k 0 h

    start_is : 0 < σ.finder.held → get_or σ.table 0 0 ≡ start
    start_is h =
        let e : reached start ≡ reached (get_or σ.table 0 0) = sym (chain-none s start) ∙ ap (chain s start) (sym (zero-mul b)) ∙ pl 0 h in
        cc

    next : (k : ℕ) → suc k < σ.finder.held → more (k * b) (chain s (get_or σ.table k 0) b) ≡ reached (get_or σ.table (suc k) 0)
    next k h =
        sym (chain-split s start (k * b) b (get_or σ.table k 0) (pl k (omega arith)))
        ∙ ap (chain s start) (sym (suc-mul k b))
        ∙ pl (suc k) h
