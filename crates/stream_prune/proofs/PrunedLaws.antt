-- The kept payloads, for any marks that are closed: each is as long as before, read alike but for its references and good by its new index; how
-- many they are, and how many bytes; and where all are kept, nothing changes. Assumes nothing.
use Prim.Native.Nat.{ℕ, zero, suc, ◌+◌, ◌-◌, ◌^◌, ◌≤◌, ◌<◌}
use native.Mathlib.Omega.{arith}
use mathlib.Core.Bool.{Bool, true, false}
use mathlib.Core.Path.{◌≡◌, refl, ap, sym, ◌∙◌, subst}
use mathlib.Core.Logic.{◌⊎◌, inl, inr}
use mathlib.Core.List.{List, [], ◌∷◌, ◌++◌}
use lib.ListN.{length, get_or, length-append}
use lib.Dec.{leb, eqb}
use borrow.Author.Tests.{leb-true, leb-false, eqb-true, eqb-false, eq-eqb, ne_eqb}
use Rattle.answer.specs.Answer.{answered, pick}
use Rattle.answer.specs.Tables.{among}
use Rattle.field.specs.Indices.{no_type}
use Rattle.field.proofs.FieldLaws.{little-below}
use Rattle.field_put.specs.Bytes.{Octets}
use Rattle.word_primitive.specs.Primitive.{primitive_of}
use Rattle.record_layout.specs.Layouts.{is_answered}
use Rattle.record_reference.specs.References.{Ref, refs_of}
use Rattle.record_reference.proofs.DecodedLaws.{has-exactly}
use Rattle.record_rewrite.specs.Rewrite.{renamed, renamed_all, rewrite, StandsOne, Stand, Stays, FitsOne, Fits}
use Rattle.record_rewrite.specs.Kept.{Kept}
use Rattle.record_rewrite.proofs.Rewritten.{rewriting}
use Rattle.stream_fit.specs.Sentences.{In, Good}
use Rattle.stream_prune.specs.Links.{link, links, AllLinkable, AllGood}
use Rattle.stream_prune.specs.Pruned.{Marked, rank, new_index, or_nothing, renumbered, kept_from, link_bytes, Closes, AllClose, AllOctets}
use Rattle.stream_prune.proofs.Numbers.{same_or, rank-kept, rank-dropped, rank-le, rank_less, rank-all, index_kept, index_below, index-le}
use Rattle.stream_prune.proofs.LinkLaws.{link-length}

-- References, renumbered ----------------------------------------------------------------------------------------------------------------

-- one of the renumbered references comes from one of the old
record Source (f : ℕ → ℕ) (rs : List Ref) (r : Ref) : Type 0 where
  old : Ref
  there : In old rs
  is : r ≡ renamed f old

source_of : (f : ℕ → ℕ) (rs : List Ref) (r : Ref) → In r (renamed_all f rs) → Source f rs r
unfolding renamed_all In
source_of f [] r m = absurd m
source_of f (x ∷ rs) r (inl e) = record { old = x; there = inl refl; is = e }
source_of f (x ∷ rs) r (inr m) = let k = source_of f rs r m in record { old = k.old; there = inr k.there; is = k.is }

-- what R-13's numbering does to references: kept records stay from the minimum on and before their holder, all else as it is
record Renumbers (f : ℕ → ℕ) (minimum index : ℕ) (rs : List Ref) : Type 0 where
  above : (r : Ref) → In r rs → minimum ≤ r.index → minimum ≤ f r.index
  before : (r : Ref) → In r rs → minimum ≤ r.index → f r.index < index
  below : (r : Ref) → In r rs → r.index < minimum → f r.index ≡ r.index

module _ (f : ℕ → ℕ) (minimum i j : ℕ) (p : List ℕ) (rs : List Ref) (at : refs_of p ≡ answered rs) (fits : Fits f rs) (up : 0x1000 ≤ minimum) (g : Good minimum i p) (n : Renumbers f minimum j rs) where
  good-renumbered : Good minimum j (rewrite f p rs)
  good-renumbered = record {
    decodes = has-exactly.has_decoded (rewrite f p rs) (record { refs = renamed_all f rs; are = refs });
    order = λ us e r m. let k = source us e r m in order k.old k.there r k.is (leb minimum k.old.index) refl;
    primitives = λ us e r m. let k = source us e r m in primitives k.old k.there r k.is (leb minimum k.old.index) refl;
    gap = λ us e r m. let k = source us e r m in gap k.old k.there r k.is (leb minimum k.old.index) refl;
  }
    where
      refs : refs_of (rewrite f p rs) ≡ answered (renamed_all f rs)
      refs = (rewriting.keeps f p rs at fits).refs

      source : (us : List Ref) → refs_of (rewrite f p rs) ≡ answered us → (r : Ref) → In r us → Source f rs r
      source us e r m = let z : us ≡ renamed_all f rs = cc refs in source_of f rs r (rw z at m)

      order : (x : Ref) → In x rs → (r : Ref) → r ≡ renamed f x → (b : Bool) → leb minimum x.index ≡ b → minimum ≤ r.index → r.index < j
      order x m r e true b l = rw e (n.before x m (leb-true _ _ b))
      order x m r e false b l = let q = leb-false minimum x.index b in absurd (omega (arith, q, n.below x m q, ap (λ y. y.index) e))

      primitives : (x : Ref) → In x rs → (r : Ref) → r ≡ renamed f x → (b : Bool) → leb minimum x.index ≡ b → r.index < 0x1000 → is_answered (primitive_of r.index) ≡ true
      primitives x m r e true b l = absurd (omega (arith, n.above x m (leb-true _ _ b), ap (λ y. y.index) e))
      primitives x m r e false b l =
          let z : r.index ≡ x.index = ap (λ y. y.index) e ∙ n.below x m (leb-false minimum x.index b) in
          rw z (g.primitives rs at x m (omega arith))

      gap : (x : Ref) → In x rs → (r : Ref) → r ≡ renamed f x → (b : Bool) → leb minimum x.index ≡ b → 0x1000 ≤ r.index → minimum ≤ r.index
      gap x m r e true b l = rw e (n.above x m (leb-true _ _ b))
      gap x m r e false b l =
          let z : r.index ≡ x.index = ap (λ y. y.index) e ∙ n.below x m (leb-false minimum x.index b) in
          rw z (g.gap rs at x m (omega arith))

-- One payload -------------------------------------------------------------------------------------------------------------------------

fits-of : (f : ℕ → ℕ) (rs : List Ref) → ((r : Ref) → In r rs → FitsOne f r) → Fits f rs
unfolding Fits In
fits-of f [] h = tt
fits-of f (r ∷ rs) h = (h r (inl refl), fits-of f rs (λ x m. h x (inr m)))

stays_of : (f : ℕ → ℕ) (rs : List Ref) → ((r : Ref) → In r rs → f r.index ≡ r.index) → Stays f rs
unfolding Stays In
stays_of f [] h = tt
stays_of f (r ∷ rs) h = (h r (inl refl), stays_of f rs (λ x m. h x (inr m)))

stand-at : (s : List ℕ) (rs : List Ref) → Stand s rs → (r : Ref) → In r rs → StandsOne s r
unfolding Stand In
stand-at s [] st r m = absurd m
stand-at s (x ∷ rs) st r (inl e) = rw e st.0
stand-at s (x ∷ rs) st r (inr m) = stand-at s rs st.1 r m

not_none : (n : ℕ) → (n ≡ 0 → ⊥) → (n ≡ 0xffff → ⊥) → among n no_type ≡ false
unfolding among
not_none n a b = rw (ne_eqb n 0 a, ne_eqb n 0xffff b)

is-none : {X : Type 0} (n : ℕ) → n ≡ 0 → among n no_type ≡ false → X
unfolding among
is-none n e h = let z : ◌≡◌ {A = ℕ} 0 1 = go (rw e at h) in absurd (omega arith)
  where
    go : true ≡ false → ◌≡◌ {A = ℕ} 0 1
    go i = cc

module _ (minimum : ℕ) (t p : List ℕ) (rs : List Ref) (at : refs_of p ≡ answered rs) (up : 0x1000 ≤ minimum) (o : Octets p) (cl : Closes minimum t p) where
  -- new numbers take four bytes, and none reads as none
  pub new-fits : Fits (new_index minimum t) rs
  unfolding Octets
  new-fits = fits-of (new_index minimum t) rs (λ r m. record { small = small r m; some = some r m })
    where
      stands : (r : Ref) → In r rs → StandsOne p r
      stands r m = stand-at p rs (rewriting.stand p rs at) r m

      small : (r : Ref) → In r rs → new_index minimum t r.index < 2 ^ 32
      small r m = omega (arith, index-le minimum t r.index, (stands r m).here, little-below 4 p r.place o)

      some : (r : Ref) → In r rs → r.optional ≡ true → among (new_index minimum t r.index) no_type ≡ false
      some r m e = not_none (new_index minimum t r.index) (by (leb minimum r.index) refl) (cl.some rs at r m e)
        where
          by : (b : Bool) → leb minimum r.index ≡ b → new_index minimum t r.index ≡ 0 → ⊥
          by true i z = omega (arith, index_kept minimum t r.index (leb-true _ _ i))
          by false i z = is-none r.index (sym (index_below minimum t r.index (leb-false _ _ i)) ∙ z) ((stands r m).some e)

  -- what it is read as
  pub new-kept : Kept (new_index minimum t) p rs (renumbered minimum t p)
  unfolding renumbered
  new-kept = rw at (rewriting.keeps (new_index minimum t) p rs at new-fits)

  -- R-9's yes of it
  pub new-good : (i : ℕ) → Good minimum (minimum + i) p → Good minimum (minimum + rank t i) (renumbered minimum t p)
  unfolding renumbered
  new-good i g = rw at (good-renumbered (new_index minimum t) minimum (minimum + i) (minimum + rank t i) p rs at new-fits up g (record {
    above = λ r m l. omega (arith, index_kept minimum t r.index l);
    before = λ r m l.
        let b = g.order rs at r m l in
        omega (arith, index_kept minimum t r.index l, rank_less t (r.index - minimum) i (cl.named rs at r m l) (omega arith));
    below = λ r m l. index_below minimum t r.index l;
  }))

module _ (minimum : ℕ) (t p : List ℕ) where
  pub new-length : length (renumbered minimum t p) ≡ length p
  unfolding renumbered
  new-length = rewriting.as_long (new_index minimum t) p (or_nothing (refs_of p))

  new-octets : Octets p → Octets (renumbered minimum t p)
  unfolding renumbered
  new-octets o = rewriting.octets (new_index minimum t) p (or_nothing (refs_of p)) o

-- All of them ----------------------------------------------------------------------------------------------------------------------------

module _ (minimum : ℕ) (t : List ℕ) where
  pub kept-count : (i : ℕ) (ps : List (List ℕ)) → rank t i + length (kept_from minimum t i ps) ≡ rank t (i + length ps)
  unfolding kept_from
  kept-count i [] = let e : i + 0 ≡ i = omega arith in rw e (omega arith)
  kept-count i (p ∷ ps) =
      let z : i + suc (length ps) ≡ i + 1 + length ps = omega arith in
      let a : i + 1 ≡ suc i = omega arith in
      let ih = kept-count (i + 1) ps in
      rw z (go (same_or (get_or t i 0) 1) (ap (rank t) a) ih)
    where
      go : (get_or t i 0 ≡ 1) ⊎ (get_or t i 0 ≡ 1 → ⊥) → rank t (i + 1) ≡ rank t (suc i) → rank t (i + 1) + length (kept_from minimum t (i + 1) ps) ≡ rank t (i + 1 + length ps)
          → rank t i + length (pick (eqb (get_or t i 0) 1) (renumbered minimum t p ∷ kept_from minimum t (i + 1) ps) (kept_from minimum t (i + 1) ps)) ≡ rank t (i + 1 + length ps)
      go (inl m) e ih = rw (eq-eqb _ _ m) (omega (arith, rank-kept t i m))
      go (inr m) e ih = rw (ne_eqb _ _ m) (omega (arith, rank-dropped t i m))

  pub kept-linkable : (i : ℕ) (ps : List (List ℕ)) → AllLinkable ps → AllLinkable (kept_from minimum t i ps)
  unfolding kept_from AllLinkable
  kept-linkable i [] h = tt
  kept-linkable i (p ∷ ps) h = go (eqb (get_or t i 0) 1) (kept-linkable (i + 1) ps h.1)
    where
      go : (b : Bool) → AllLinkable (kept_from minimum t (i + 1) ps) → AllLinkable (pick b (renumbered minimum t p ∷ kept_from minimum t (i + 1) ps) (kept_from minimum t (i + 1) ps))
      go true ih = (record { long = omega (arith, h.0.long, new-length minimum t p); short = omega (arith, h.0.short, new-length minimum t p) }, ih)
      go false ih = ih

  pub kept-octets : (i : ℕ) (ps : List (List ℕ)) → AllOctets ps → AllOctets (kept_from minimum t i ps)
  unfolding kept_from AllOctets
  kept-octets i [] o = tt
  kept-octets i (p ∷ ps) o = go (eqb (get_or t i 0) 1) (kept-octets (i + 1) ps o.1)
    where
      go : (b : Bool) → AllOctets (kept_from minimum t (i + 1) ps) → AllOctets (pick b (renumbered minimum t p ∷ kept_from minimum t (i + 1) ps) (kept_from minimum t (i + 1) ps))
      go true ih = (new-octets minimum t p o.0, ih)
      go false ih = ih

  pub kept-good : 0x1000 ≤ minimum → (i : ℕ) (ps : List (List ℕ)) → AllOctets ps → AllClose minimum t i ps → AllGood minimum (minimum + i) ps
      → AllGood minimum (minimum + rank t i) (kept_from minimum t i ps)
  unfolding kept_from AllGood AllOctets AllClose
  kept-good up i [] o cl g = tt
  kept-good up i (p ∷ ps) o cl g =
      let z : minimum + i + 1 ≡ minimum + (i + 1) = omega arith in
      go (eqb (get_or t i 0) 1) refl (kept-good up (i + 1) ps o.1 cl.1 (rw z at g.1))
    where
      go : (b : Bool) → eqb (get_or t i 0) 1 ≡ b → AllGood minimum (minimum + rank t (i + 1)) (kept_from minimum t (i + 1) ps)
          → AllGood minimum (minimum + rank t i) (pick b (renumbered minimum t p ∷ kept_from minimum t (i + 1) ps) (kept_from minimum t (i + 1) ps))
      go true e ih =
          let m : Marked t i = eqb-true _ _ e in
          let k = has-exactly.decoded_has p g.0.decodes in
          let a : i + 1 ≡ suc i = omega arith in
          let y : minimum + rank t (i + 1) ≡ minimum + rank t i + 1 = omega (arith, ap (rank t) a, rank-kept t i m) in
          (new-good minimum t p k.refs k.are up o.0 (cl.0 m) i g.0, subst (λ x. AllGood minimum x (kept_from minimum t (i + 1) ps)) y ih)
      go false e ih =
          let a : i + 1 ≡ suc i = omega arith in
          let y : minimum + rank t (i + 1) ≡ minimum + rank t i = omega (arith, ap (rank t) a, rank-dropped t i (eqb-false _ _ e)) in
          subst (λ x. AllGood minimum x (kept_from minimum t (i + 1) ps)) y ih

  -- the payload that is kept as number m
  pub kept_at : (i : ℕ) (ps : List (List ℕ)) (k m : ℕ) → k < length ps → Marked t (i + k) → m + rank t i ≡ rank t (i + k)
      → get_or (kept_from minimum t i ps) m [] ≡ renumbered minimum t (get_or ps k [])
  unfolding kept_from
  kept_at i [] k m l h e = absurd (omega arith)
  kept_at i (p ∷ ps) zero m l h e =
      let z : i + 0 ≡ i = omega arith in
      let h' : Marked t i = rw z at h in
      let y : m ≡ 0 = omega (arith, rw z at e) in
      rw (eq-eqb _ _ h', y)
  kept_at i (p ∷ ps) (suc k) m l h e =
      let z : i + suc k ≡ i + 1 + k = omega arith in
      go (same_or (get_or t i 0) 1) m (rw z at e) (λ n x. kept_at (i + 1) ps k n (omega arith) (rw z at h) x)
    where
      next-rank : rank t (i + 1) ≡ rank t (suc i)
      next-rank = let a : i + 1 ≡ suc i = omega arith in ap (rank t) a

      more : Marked t i → (m : ℕ) → m + rank t i ≡ rank t (i + 1 + k)
          → ((n : ℕ) → n + rank t (i + 1) ≡ rank t (i + 1 + k) → get_or (kept_from minimum t (i + 1) ps) n [] ≡ renumbered minimum t (get_or ps k []))
          → get_or (renumbered minimum t p ∷ kept_from minimum t (i + 1) ps) m [] ≡ renumbered minimum t (get_or ps k [])
      more a zero e ih = absurd (omega (arith, e, next-rank, rank-kept t i a, rank-le t (i + 1) (i + 1 + k) (omega arith)))
      more a (suc n) e ih = ih n (omega (arith, e, next-rank, rank-kept t i a))

      go : (get_or t i 0 ≡ 1) ⊎ (get_or t i 0 ≡ 1 → ⊥) → (m : ℕ) → m + rank t i ≡ rank t (i + 1 + k)
          → ((n : ℕ) → n + rank t (i + 1) ≡ rank t (i + 1 + k) → get_or (kept_from minimum t (i + 1) ps) n [] ≡ renumbered minimum t (get_or ps k []))
          → get_or (pick (eqb (get_or t i 0) 1) (renumbered minimum t p ∷ kept_from minimum t (i + 1) ps) (kept_from minimum t (i + 1) ps)) m [] ≡ renumbered minimum t (get_or ps k [])
      go (inl a) m e ih = rw (eq-eqb _ _ a) (more a m e ih)
      go (inr a) m e ih = rw (ne_eqb _ _ a) (ih m (omega (arith, e, next-rank, rank-dropped t i a)))

  -- where all of n are kept, nothing changes
  module _ (n : ℕ) (all : (i : ℕ) → i < n → Marked t i) where
    same_index : (x : ℕ) → x < minimum + n → new_index minimum t x ≡ x
    same_index x l = go (leb minimum x) refl
      where
        go : (b : Bool) → leb minimum x ≡ b → new_index minimum t x ≡ x
        go true e =
            let k = leb-true minimum x e in
            omega (arith, index_kept minimum t x k, k, rank-all t (x - minimum) (λ i j. all i (omega (arith, k))))
        go false e = index_below minimum t x (leb-false minimum x e)

    same-payload : (i : ℕ) (p : List ℕ) → i < n → Octets p → Good minimum (minimum + i) p → renumbered minimum t p ≡ p
    unfolding renumbered
    same-payload i p l o g =
        let h = has-exactly.decoded_has p g.decodes in
        let rs = h.refs in
        ap (λ x. rewrite (new_index minimum t) p (or_nothing x)) h.are
        ∙ rewriting.same (new_index minimum t) p rs h.are o (stays_of (new_index minimum t) rs (λ r m. go r (leb minimum r.index) refl (g.order rs h.are r m)))
      where
        go : (r : Ref) (b : Bool) → leb minimum r.index ≡ b → (minimum ≤ r.index → r.index < minimum + i) → new_index minimum t r.index ≡ r.index
        go r true e f = same_index r.index (omega (arith, f (leb-true _ _ e)))
        go r false e f = index_below minimum t r.index (leb-false _ _ e)

    pub same-payloads : (i : ℕ) (ps : List (List ℕ)) → i + length ps ≤ n → AllOctets ps → AllGood minimum (minimum + i) ps → kept_from minimum t i ps ≡ ps
    unfolding kept_from AllOctets AllGood
    same-payloads i [] l o g = refl
    same-payloads i (p ∷ ps) l o g =
        let z : minimum + i + 1 ≡ minimum + (i + 1) = omega arith in
        let m = all i (omega arith) in
        rw (eq-eqb _ _ m, same-payload i p (omega arith) o.0 g.0, same-payloads (i + 1) ps (omega arith) o.1 (rw z at g.1))

-- How many bytes they take ------------------------------------------------------------------------------------------------------------------

pub kept-bytes : (minimum : ℕ) (t : List ℕ) (i : ℕ) (ps : List (List ℕ)) → length (links (kept_from minimum t i ps)) ≡ link_bytes t i ps
unfolding kept_from links link_bytes
kept-bytes minimum t i [] = refl
kept-bytes minimum t i (p ∷ ps) = go (eqb (get_or t i 0) 1) (kept-bytes minimum t (i + 1) ps)
  where
    go : (b : Bool) → length (links (kept_from minimum t (i + 1) ps)) ≡ link_bytes t (i + 1) ps
        → length (links (pick b (renumbered minimum t p ∷ kept_from minimum t (i + 1) ps) (kept_from minimum t (i + 1) ps))) ≡ pick b (2 + length p) 0 + link_bytes t (i + 1) ps
    go true ih =
        let q = renumbered minimum t p in
        omega (arith, length-append (link q) (links (kept_from minimum t (i + 1) ps)), link-length q, new-length minimum t p)
    go false ih = omega arith

-- no more than all of them
pub bytes_most : (t : List ℕ) (i : ℕ) (ps : List (List ℕ)) → link_bytes t i ps ≤ length (links ps)
unfolding links link_bytes
bytes_most t i [] = omega arith
bytes_most t i (p ∷ ps) = go (eqb (get_or t i 0) 1) (bytes_most t (i + 1) ps)
  where
    go : (b : Bool) → link_bytes t (i + 1) ps ≤ length (links ps) → pick b (2 + length p) 0 + link_bytes t (i + 1) ps ≤ length (link p ++ links ps)
    go true ih = omega (arith, length-append (link p) (links ps), link-length p)
    go false ih = omega (arith, length-append (link p) (links ps), link-length p)
