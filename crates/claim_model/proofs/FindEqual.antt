-- A lookup, and the highest index, for any shift from 0 to 6 that both have. The places held fit a u32 when multiplied by the
-- block, as they do in every finder that can be reached (TurnsEqual.antt). Assumes nothing.
use Rattle.std.specs.Prelude.{None, Some, slice_get}
use Prim.Native.Nat.{ℕ, zero, suc, ◌+◌, ◌-◌, ◌*◌, ◌/◌, ◌%◌, ◌≤◌, ◌<◌}
use mathlib.Core.Path.{◌≡◌, refl, sym, ap, ◌∙◌, subst}
use mathlib.Core.List.{List, [], ◌∷◌}
use native.Mathlib.Nat.{mul_comm, mul-le-mul, zero-add, mod-eq_of_lt}
use native.Mathlib.Omega.{arith}
use lib.ListN.{length, get_or, take as front}
use lib.Seq.{length-take-le, get_or-take}
use lib.Pow.{pow_pos}
use borrow.Author.Tests.{le-leb, le-ltb, lt-ltb, eq-eqb, ne_eqb}
use Rattle.answer.specs.Answer.{answered, refused}
use Rattle.field.specs.Fields.{little_at}
use Rattle.field.specs.Indices.{index_number}
use Rattle.stream_item.specs.Links.{link_of, chain, Walk, reached, broke}
use Rattle.field.specs.declared.index.ItemIndex.{ItemIndex}
use Rattle.stream_item.specs.declared.link.Hit.TheVariants.{Missed}
use Rattle.stream_item.proofs.LinkLaws.{link-whole, link-broken, chain-none, link_of-landed, link_of-missed, link_of-broke, link_of-cut}
use Rattle.stream_finder.specs.Finder.{State, block_of, max_index_of, landed, find_of}
use Rattle.stream_finder.specs.Places.{Ready}
use Rattle.stream_finder.proofs.FinderLaws.{find-marker, find-above, find-unheld, find-held, max_none, max-top}
use Rattle.claim_model.specs.Rust.{Rust, gives, errs, wraps, ◌>>=◌, as_u32, usize_top, unexpected_eof, type_not_found, type_not_indexed}
use Rattle.claim_model.specs.ParseBuffer.{at, take, if_some}
use Rattle.claim_model.specs.TpiItems.{Item, ItemFinder, primitive_type, max_index, hit, miss, finder_find}
use Rattle.claim_model.specs.Equal.{Equal, StaysInDomain, Same}
use Rattle.claim_model.specs.Shown.{item_shown, finder_shown, unlinked}
use Rattle.claim_model.proofs.BufferLaws.{take_in, take_out, equal-wraps, same_gives, same-errs, by_order}
use Rattle.claim_model.proofs.Compose.{unlinked-numbered, bind-equal, stays-bind}
use Rattle.claim_model.proofs.UpdateEqual.{resolve-in}
use Rattle.claim_model.proofs.LinkEqual.{read_whole, read-broken, skipped-chain}

-- ---- a place of the `Vec`
get_in : (l : List ℕ) (i : ℕ) → i < length l → slice_get l i ≡ Some (get_or l i 0)
get_in [] i h = absurd (omega arith)
get_in (x ∷ l) zero h = refl
get_in (x ∷ l) (suc i) h = get_in l i (omega arith)

get-out : (l : List ℕ) (i : ℕ) → length l ≤ i → slice_get l i ≡ None
get-out [] i h = refl
get-out (x ∷ l) zero h = absurd (omega arith)
get-out (x ∷ l) (suc i) h = get-out l i (omega arith)

-- a place past the end
past : (s : List ℕ) (p k : ℕ) → length s < p → link_of s p k ≡ Missed 0
past s p zero h = link_of-missed s p 0 p (chain-none s p) (link-broken s p (omega arith))
past s p (suc k) h = link_of-cut s p 0 (suc k) p (chain-none s p) (link-broken s p (omega arith)) (omega arith)

-- ---- the highest index
module _ (s : List ℕ) (σ : State) (small : σ.finder.shift ≤ 6) (claim : σ.finder.held ≤ length σ.table) (few : σ.finder.held * block_of σ.finder < 4294967296) where
  counted : length (front σ.finder.held σ.table) ≡ σ.finder.held
  counted = length-take-le σ.finder.held σ.table claim

  abbrev total : ℕ
  total = σ.finder.held * block_of σ.finder + σ.finder.minimum_index

  abbrev Highest : Type 0
  Highest = Same (max_index (finder_shown s σ)) (answered (max_index_of σ.finder))

  max-empty : σ.finder.held ≡ 0 → Highest
  unfolding max_index
  max-empty z = same_gives (max_index (finder_shown s σ)) 0 _ (simp (counted, eq-eqb _ _ z)) (ap answered (max_none σ.finder small z))

  module _ (z : 0 < σ.finder.held) where
    nz : σ.finder.held ≡ 0 → ⊥
    nz e = omega arith

    whole : as_u32 (σ.finder.held * block_of σ.finder) ≡ σ.finder.held * block_of σ.finder
    whole = mod-eq_of_lt few

    max-fits : total < 4294967296 → Highest
    unfolding max_index
    max-fits w =
        let m : block_of σ.finder * σ.finder.held ≡ σ.finder.held * block_of σ.finder = mul_comm _ _ in
        let o : 1 ≤ σ.finder.held * block_of σ.finder + σ.finder.minimum_index = omega (arith, mul-le-mul z (pow_pos σ.finder.shift)) in
        same_gives (max_index (finder_shown s σ)) (total - 1) _
        (simp (counted, ne_eqb _ _ nz, whole, lt-ltb _ _ w, le-leb _ _ o))
        (ap answered (max-top σ.finder small z (omega arith) ∙ ap (λ (n : ℕ). n + σ.finder.minimum_index - 1) m))

    max-over : 4294967296 ≤ total → max_index (finder_shown s σ) ≡ wraps
    unfolding max_index
    max-over w = simp (counted, ne_eqb _ _ nz, whole, le-ltb _ _ w)

  -- the crate gives the same where its sum does not wrap
  pub max-same : total < 4294967296 → Highest
  max-same w = by_order σ.finder.held 0 (λ z. max-empty (omega arith)) λ z. max-fits z w

  pub max-equal : Equal (max_index (finder_shown s σ)) (answered (max_index_of σ.finder))
  max-equal =
      by_order σ.finder.held 0 (λ z. (max-empty (omega arith)).equal)
      λ z. by_order 4294967296 total (λ w. equal-wraps _ _ (max-over z w)) λ w. (max-fits z w).equal

-- ---- find
module _ (s : List ℕ) (σ : State) (ok : Ready s σ) (few : σ.finder.held * block_of σ.finder < 4294967296) (i : ItemIndex) where
  abbrev n : ℕ
  n = index_number i

  abbrev f : ItemFinder
  f = finder_shown s σ

  abbrev Finds : Rust Item → Type 0
  Finds r = Same r (unlinked s (find_of s σ i))

  held-places : length (front σ.finder.held σ.table) ≡ σ.finder.held
  held-places = length-take-le σ.finder.held σ.table ok.held

  long : length s < usize_top
  long = omega (arith, ok.short)

  below : n < σ.finder.minimum_index → Finds (finder_find f n)
  unfolding finder_find
  below h = same_gives (finder_find f n) (record { index = n; bytes = primitive_type }) _ (simp (lt-ltb _ _ h)) (simp (find-marker s σ i n ok h))

  module _ (a : σ.finder.minimum_index ≤ n) where
    above : σ.finder.maximum_index < n → Finds (finder_find f n)
    unfolding finder_find
    above h = same-errs (finder_find f n) (type_not_found n) _ (simp (le-ltb _ _ a, lt-ltb _ _ h)) (simp (find-above s σ i n ok a h))

    module _ (u : n ≤ σ.finder.maximum_index) where
      abbrev q : ℕ
      q = (n - σ.finder.minimum_index) / block_of σ.finder

      abbrev r : ℕ
      r = (n - σ.finder.minimum_index) % block_of σ.finder

      to : finder_find f n ≡ if_some (slice_get (front σ.finder.held σ.table) q) (hit f n r) (miss f n)
      unfolding finder_find
      to = simp (le-ltb _ _ a, le-ltb _ _ u, resolve-in f n a)

      -- no held place
      module _ (h : σ.finder.held ≤ q) where
        missed : finder_find f n ≡ (◌>>=◌ (max_index f) λ top. errs (type_not_indexed n top))
        unfolding miss
        missed = to ∙ ap (λ o. if_some o (hit f n r) (miss f n)) (get-out (front σ.finder.held σ.table) q (rw held-places h))

        -- where the crate's highest index wraps, so does its answer
        miss-equal : Equal (finder_find f n) (unlinked s (find_of s σ i))
        miss-equal =
            subst (λ (x : Rust Item). Equal x (unlinked s (find_of s σ i))) (sym missed)
            (rw (find-unheld s σ i n ok a u h)
            (bind-equal (max_index f) (answered (max_index_of σ.finder)) (λ m. m) (λ top. errs (type_not_indexed n top)) (λ m. refused 9 (n ∷ m ∷ []))
            (unlinked s) (unlinked-numbered s) (max-equal s σ ok.shift ok.held few) (λ m e. refl)))

        miss-same : σ.finder.held * block_of σ.finder + σ.finder.minimum_index < 4294967296 → Finds (finder_find f n)
        miss-same w = record { stays = subst (λ (x : Rust Item). StaysInDomain x) (sym missed) (stays-bind (max_index f) _ (max-same s σ ok.shift ok.held few w).stays (λ m. tt)); equal = miss-equal }

      -- a held place
      module _ (h : q < σ.finder.held) where
        abbrev p : ℕ
        p = get_or σ.table q 0

        place : slice_get (front σ.finder.held σ.table) q ≡ Some p
        place =
            get_in (front σ.finder.held σ.table) q (rw held-places h)
            ∙ ap Some (get_or-take σ.finder.held σ.table q 0 h)

        goes : finder_find f n ≡ hit f n r p
        goes = to ∙ ap (λ o. if_some o (hit f n r) (miss f n)) place

        found : find_of s σ i ≡ landed i r (link_of s p r)
        found = find-held s σ i n _ refl ok a u h

        outside : length s < p → Finds (finder_find f n)
        unfolding hit
        outside g =
            same-errs (finder_find f n) unexpected_eof _
            (goes ∙ simp (take_out s 0 p (omega arith) (omega arith)))
            (simp (found, past s p r g))

        module _ (g : p ≤ length s) where
          start : take (at s 0) p ≡ gives (front p s, at s p)
          start = take_in s 0 p long (omega arith) ∙ ap (λ (m : ℕ). gives (front p s, at s m)) (zero-add p)

          lost : (j : ℕ) → chain s p r ≡ broke j → Finds (finder_find f n)
          unfolding hit
          lost j e =
              same-errs (finder_find f n) unexpected_eof _
              (goes ∙ simp (start, skipped-chain s long r p, e))
              (simp (found, link_of-broke s p r j e))

          ended : (x : ℕ) → chain s p r ≡ reached x → length s < x + 2 + little_at 2 s x → Finds (finder_find f n)
          unfolding hit
          ended x e v =
              same-errs (finder_find f n) unexpected_eof _
              (goes ∙ simp (start, skipped-chain s long r p, e) (read-broken s long x _ v))
              (simp (found, link_of-missed s p r x e (link-broken s x v)))

          lands : (x : ℕ) → chain s p r ≡ reached x → x + 2 + little_at 2 s x ≤ length s → Finds (finder_find f n)
          unfolding hit
          lands x e v =
              same_gives (finder_find f n) (item_shown s (record { index = i; place = x + 2; length = little_at 2 s x })) _
              (goes ∙ simp (start, skipped-chain s long r p, e) (read_whole s long x _ v))
              (simp (found, link_of-landed s p r x (x + 2) (little_at 2 s x) e (link-whole s x v)))

          along : (w : Walk) → chain s p r ≡ w → Finds (finder_find f n)
          along (reached x) e = by_order (x + 2 + little_at 2 s x) (length s) (lands x e) (ended x e)
          along (broke j) e = lost j e

        held : Finds (finder_find f n)
        held = by_order p (length s) (λ g. along g (chain s p r) refl) outside

  pub find-equal : Equal (finder_find f n) (unlinked s (find_of s σ i))
  find-equal =
      by_order σ.finder.minimum_index n
      (λ a. by_order n σ.finder.maximum_index
      (λ u. by_order σ.finder.held (q a u) (miss-equal a u) λ h. (held a u h).equal)
      (λ u. (above a u).equal)) λ a. (below a).equal

  -- the crate neither panics nor wraps where its highest index fits
  pub find-same : σ.finder.held * block_of σ.finder + σ.finder.minimum_index < 4294967296 → Same (finder_find f n) (unlinked s (find_of s σ i))
  find-same w =
      by_order σ.finder.minimum_index n
      (λ a. by_order n σ.finder.maximum_index
      (λ u. by_order σ.finder.held (q a u) (λ h. miss-same a u h w) (held a u))
      (above a)) below
