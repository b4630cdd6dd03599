-- R-13 for a whole stream: kept are exactly the records reached, the new stream is fit and read alike, and dropping twice changes nothing.
-- Assumes nothing.
use Prim.Native.Nat.{ℕ, zero, suc, ◌+◌, ◌-◌, ◌≤◌, ◌<◌}
use native.Mathlib.Omega.{arith}
use mathlib.Core.Bool.{Bool, true, false}
use mathlib.Core.Path.{◌≡◌, refl, ap, sym, ◌∙◌}
use mathlib.Core.Logic.{◌⊎◌, inl, inr}
use mathlib.Core.List.{List, [], ◌∷◌, map}
use lib.ListN.{length, get_or}
use lib.Dec.{leb}
use borrow.Author.Tests.{leb-true, leb-false}
use Rattle.answer.specs.Answer.{answered, pick}
use Rattle.field_put.specs.Bytes.{Octets}
use Rattle.stream_header.specs.declared.Header.{Header}
use Rattle.stream_item.specs.declared.iter.ItemIter.{ItemIter}
use Rattle.record_reference.specs.References.{Ref, refs_of}
use Rattle.record_reference.proofs.DecodedLaws.{has-exactly}
use Rattle.record_rewrite.specs.Rewrite.{renamed, renamed_all}
use Rattle.stream_fit.specs.Sentences.{In, Good}
use Rattle.stream_prune.specs.Links.{AllGood}
use Rattle.stream_prune.specs.Pruned.{Marked, rank, numbers, new_index, renumbered, Closes, AllClose, AllOctets}
use Rattle.stream_prune.specs.Dropped.{IsIn, Reached, root, named, numbers_of, roots_from, names_of, marks_of, Droppable, payloads₂, roots₂, stream₂, header₂, DropHolds, Dropping}
use Rattle.stream_prune.proofs.Numbers.{rank-first, rank_less, stood, index_kept, index_below, numbers-same}
use Rattle.stream_prune.proofs.MarkLaws.{Downward, Inside, marks-sound, marks-complete, marks-long}
use Rattle.stream_prune.proofs.PrunedLaws.{new-kept, kept_at}
use Rattle.stream_prune.proofs.NewStream.{Old, low, octets, goods, count, new-count, new-goods, prunes, renewed, kept-alike, same-stream}

-- Numbers of references and roots -------------------------------------------------------------------------------------------------------

record FromRef (minimum : ℕ) (rs : List Ref) (j : ℕ) : Type 0 where
  ref : Ref
  there : In ref rs
  up : minimum ≤ ref.index
  is : j ≡ ref.index - minimum

from-number : (minimum : ℕ) (rs : List Ref) (j : ℕ) → IsIn j (numbers_of minimum rs) → FromRef minimum rs j
unfolding numbers_of In
from-number minimum [] j m = absurd m
from-number minimum (r ∷ rs) j m = go (leb minimum r.index) refl m (from-number minimum rs j)
  where
    later : FromRef minimum rs j → FromRef minimum (r ∷ rs) j
    later k = record { ref = k.ref; there = inr k.there; up = k.up; is = k.is }

    go : (b : Bool) → leb minimum r.index ≡ b → IsIn j (pick b ((r.index - minimum) ∷ numbers_of minimum rs) (numbers_of minimum rs))
        → (IsIn j (numbers_of minimum rs) → FromRef minimum rs j) → FromRef minimum (r ∷ rs) j
    go true e (inl i) ih = record { ref = r; there = inl refl; up = leb-true _ _ e; is = i }
    go true e (inr i) ih = later (ih i)
    go false e i ih = later (ih i)

to_number : (minimum : ℕ) (rs : List Ref) (r : Ref) → In r rs → minimum ≤ r.index → IsIn (r.index - minimum) (numbers_of minimum rs)
unfolding numbers_of In
to_number minimum [] r m l = absurd m
to_number minimum (x ∷ rs) r m l = go (leb minimum x.index) refl m (λ k. to_number minimum rs r k l)
  where
    go : (b : Bool) → leb minimum x.index ≡ b → (r ≡ x) ⊎ In r rs → (In r rs → IsIn (r.index - minimum) (numbers_of minimum rs))
        → IsIn (r.index - minimum) (pick b ((x.index - minimum) ∷ numbers_of minimum rs) (numbers_of minimum rs))
    go true e (inl i) ih = inl (ap (λ y. y.index - minimum) i)
    go true e (inr i) ih = inr (ih i)
    go false e (inl i) ih = absurd (omega (arith, l, leb-false minimum x.index e, ap (λ y. y.index) i))
    go false e (inr i) ih = ih i

record FromRoot (minimum : ℕ) (xs : List ℕ) (j : ℕ) : Type 0 where
  index : ℕ
  there : IsIn index xs
  up : minimum ≤ index
  is : j ≡ index - minimum

from-root : (minimum : ℕ) (xs : List ℕ) (j : ℕ) → IsIn j (roots_from minimum xs) → FromRoot minimum xs j
unfolding roots_from
from-root minimum [] j m = absurd m
from-root minimum (x ∷ xs) j m = go (leb minimum x) refl m (from-root minimum xs j)
  where
    later : FromRoot minimum xs j → FromRoot minimum (x ∷ xs) j
    later k = record { index = k.index; there = inr k.there; up = k.up; is = k.is }

    go : (b : Bool) → leb minimum x ≡ b → IsIn j (pick b ((x - minimum) ∷ roots_from minimum xs) (roots_from minimum xs))
        → (IsIn j (roots_from minimum xs) → FromRoot minimum xs j) → FromRoot minimum (x ∷ xs) j
    go true e (inl i) ih = record { index = x; there = inl refl; up = leb-true _ _ e; is = i }
    go true e (inr i) ih = later (ih i)
    go false e i ih = later (ih i)

to-root : (minimum : ℕ) (xs : List ℕ) (y : ℕ) → IsIn y xs → minimum ≤ y → IsIn (y - minimum) (roots_from minimum xs)
unfolding roots_from
to-root minimum [] y m l = absurd m
to-root minimum (x ∷ xs) y m l = go (leb minimum x) refl m (λ k. to-root minimum xs y k l)
  where
    go : (b : Bool) → leb minimum x ≡ b → (y ≡ x) ⊎ IsIn y xs → (IsIn y xs → IsIn (y - minimum) (roots_from minimum xs))
        → IsIn (y - minimum) (pick b ((x - minimum) ∷ roots_from minimum xs) (roots_from minimum xs))
    go true e (inl i) ih = inl (ap (λ z. z - minimum) i)
    go true e (inr i) ih = inr (ih i)
    go false e (inl i) ih = absurd (omega (arith, l, leb-false minimum x e, i))
    go false e (inr i) ih = ih i

in_map : (f : ℕ → ℕ) (l : List ℕ) (x : ℕ) → IsIn x l → IsIn (f x) (map f l)
in_map f [] x h = h
in_map f (y ∷ l) x (inl e) = inl (ap f e)
in_map f (y ∷ l) x (inr h) = inr (in_map f l x h)

record FromMap (f : ℕ → ℕ) (l : List ℕ) (y : ℕ) : Type 0 where
  source : ℕ
  there : IsIn source l
  to : y ≡ f source

from-map : (f : ℕ → ℕ) (l : List ℕ) (y : ℕ) → IsIn y (map f l) → FromMap f l y
from-map f [] y h = absurd h
from-map f (x ∷ l) y (inl e) = record { source = x; there = inl refl; to = e }
from-map f (x ∷ l) y (inr h) = let r = from-map f l y h in record { source = r.source; there = inr r.there; to = r.to }

in-renamed : (f : ℕ → ℕ) (rs : List Ref) (r : Ref) → In r rs → In (renamed f r) (renamed_all f rs)
unfolding In renamed_all
in-renamed f [] r m = absurd m
in-renamed f (x ∷ rs) r (inl e) = inl (ap (renamed f) e)
in-renamed f (x ∷ rs) r (inr m) = inr (in-renamed f rs r m)

-- Payload i -------------------------------------------------------------------------------------------------------------------------------

pub good-at : (minimum k : ℕ) (ps : List (List ℕ)) (i : ℕ) → AllGood minimum k ps → i < length ps → Good minimum (k + i) (get_or ps i [])
unfolding AllGood
good-at minimum k [] i g l = absurd (omega arith)
good-at minimum k (p ∷ ps) zero g l = let e : k + 0 ≡ k = omega arith in rw e g.0
good-at minimum k (p ∷ ps) (suc i) g l = let e : k + suc i ≡ k + 1 + i = omega arith in rw e (good-at minimum (k + 1) ps i g.1 (omega arith))

octets-at : (ps : List (List ℕ)) (i : ℕ) → AllOctets ps → i < length ps → Octets (get_or ps i [])
unfolding AllOctets
octets-at [] i o l = absurd (omega arith)
octets-at (p ∷ ps) zero o l = o.0
octets-at (p ∷ ps) (suc i) o l = octets-at ps i o.1 (omega arith)

close-from : (minimum : ℕ) (t : List ℕ) (i : ℕ) (ps : List (List ℕ)) → ((k : ℕ) → k < length ps → Marked t (i + k) → Closes minimum t (get_or ps k [])) → AllClose minimum t i ps
unfolding AllClose
close-from minimum t i [] h = tt
close-from minimum t i (p ∷ ps) h =
    let e : i + 0 ≡ i = omega arith in (
      λ m. h 0 (omega arith) (rw e m),
      close-from minimum t (i + 1) ps (λ k l m. let z : i + suc k ≡ i + 1 + k = omega arith in h (suc k) (omega arith) (rw z m)),
    )

names-are : (minimum : ℕ) (ps : List (List ℕ)) (i : ℕ) (rs : List Ref) → refs_of (get_or ps i []) ≡ answered rs → names_of minimum ps i ≡ numbers_of minimum rs
unfolding names_of
names-are minimum ps i rs e = rw e

-- a fit stream's records name earlier ones
pub names-down : (minimum : ℕ) (ps : List (List ℕ)) → AllGood minimum minimum ps → Downward (names_of minimum ps) (length ps)
names-down minimum ps g = record { below = below }
  where
    below : (i j : ℕ) → i < length ps → IsIn j (names_of minimum ps i) → j < i
    below i j l m =
        let a = good-at minimum minimum ps i g l in
        let k = has-exactly.decoded_has (get_or ps i []) a.decodes in
        let r = from-number minimum k.refs j (rw (names-are minimum ps i k.refs k.are) at m) in
        omega (arith, r.is, r.up, a.order k.refs k.are r.ref r.there r.up)

-- The whole ---------------------------------------------------------------------------------------------------------------------------------------

module _ (s : List ℕ) (h : Header) (c : ItemIter) (ps : List (List ℕ)) (roots : List ℕ) (old : Old s h c ps) (dr : Droppable h ps roots) where
  abbrev least : ℕ
  least = h.minimum_index

  abbrev t : List ℕ
  t = marks_of h.minimum_index ps roots

  abbrev qs : List (List ℕ)
  qs = payloads₂ h ps roots

  down : Downward (names_of least ps) (length ps)
  down = names-down least ps (goods s h c ps old)

  roots-inside : Inside (roots_from least roots) (length ps)
  roots-inside = record { inside = inside }
    where
      inside : (i : ℕ) → IsIn i (roots_from least roots) → i < length ps
      inside i m = let r = from-root least roots i m in omega (arith, r.is, r.up, dr.inside r.index r.there, count s h c ps old)

  sound : (k : ℕ) → Marked t k → Reached (names_of least ps) (roots_from least roots) k
  unfolding marks_of
  sound k m = marks-sound (names_of least ps) (length ps) (roots_from least roots) k m

  complete : {k : ℕ} → Reached (names_of least ps) (roots_from least roots) k → (k < length ps) × Marked t k
  unfolding marks_of
  complete r = marks-complete (names_of least ps) (length ps) (roots_from least roots) down roots-inside r

  closes : (k : ℕ) → k < length ps → Marked t k → Closes least t (get_or ps k [])
  closes k l m = record {
    named = λ rs e r i v.
        let j : IsIn (r.index - least) (names_of least ps k) = rw (names-are least ps k rs e) (to_number least rs r i v) in
        (complete (named (sound k m) j)).1;
    some = λ rs e r i j x. dr.some k l m rs e r i j x;
  }

  pub all-close : AllClose least t 0 ps
  all-close = close-from least t 0 ps (λ k l m. let z : 0 + k ≡ k = omega arith in closes k l (rw z at m))

  -- the same again
  kept-as : (i : ℕ) → i < length ps → Marked t i → get_or qs (rank t i) [] ≡ renumbered least t (get_or ps i [])
  kept-as i l m = let z : 0 + i ≡ i = omega arith in kept_at least t 0 ps i (rank t i) l (rw z m) (rw z (omega (arith, rank-first t)))

  kept-many : length qs ≡ rank t (length ps)
  kept-many = new-count s h c ps old t

  named_again : (i j : ℕ) → i < length ps → Marked t i → IsIn j (names_of least ps i) → IsIn (rank t j) (names_of least qs (rank t i))
  named_again i j l m n =
      let a = good-at least least ps i (goods s h c ps old) l in
      let k = has-exactly.decoded_has (get_or ps i []) a.decodes in
      let rs = k.refs in
      let r = from-number least rs j (rw (names-are least ps i rs k.are) at n) in
      let e : refs_of (get_or qs (rank t i) []) ≡ answered (renamed_all (new_index least t) rs) =
      ap refs_of (kept-as i l m) ∙ (new-kept least t (get_or ps i []) rs k.are (low s h c ps old) (octets-at ps i (octets s h c ps old) l) (closes i l m)).refs in
      let x : new_index least t r.ref.index ≡ least + rank t j = index_kept least t r.ref.index r.up ∙ ap (λ y. least + rank t y) (sym r.is) in
      let y : new_index least t r.ref.index - least ≡ rank t j = omega arith in
      rw (names-are least qs (rank t i) (renamed_all (new_index least t) rs) e)
      (rw y at (to_number least (renamed_all (new_index least t) rs) (renamed (new_index least t) r.ref) (in-renamed (new_index least t) rs r.ref r.there) (omega arith)))

  reached-again : {i : ℕ} → Reached (names_of least ps) (roots_from least roots) i → Reached (names_of least qs) (roots_from least (roots₂ h ps roots)) (rank t i)
  reached-again (root {i} m) =
      let r = from-root least roots i m in
      let x : new_index least t r.index ≡ least + rank t i = index_kept least t r.index r.up ∙ ap (λ y. least + rank t y) (sym r.is) in
      let y : new_index least t r.index - least ≡ rank t i = omega arith in
      root (rw y at (to-root least (map (new_index least t) roots) (new_index least t r.index) (in_map (new_index least t) roots r.index r.there) (omega arith)))
  reached-again (named {i} {j} a m) =
      let k = complete a in
      named (reached-again a) (named_again i j k.0 k.1 m)

  roots-inside₂ : Inside (roots_from least (roots₂ h ps roots)) (length qs)
  roots-inside₂ = record { inside = inside }
    where
      by : (y j : ℕ) → IsIn y roots → least ≤ new_index least t y → j ≡ new_index least t y - least → (b : Bool) → leb least y ≡ b → j < length qs
      by y j m l e false b = absurd (omega (arith, index_below least t y (leb-false _ _ b), leb-false least y b))
      by y j m l e true b =
          let v = leb-true least y b in
          let k = complete (root (to-root least roots y m v)) in
          omega (arith, e, index_kept least t y v, kept-many, rank_less t (y - least) (length ps) k.1 k.0)

      inside : (j : ℕ) → IsIn j (roots_from least (roots₂ h ps roots)) → j < length qs
      inside j m =
          let r = from-root least (map (new_index least t) roots) j m in
          let f = from-map (new_index least t) roots r.index r.there in
          by f.source j f.there (omega (arith, r.up, f.to)) (r.is ∙ ap (λ x. x - least) f.to) (leb least f.source) refl

  all-again : (k : ℕ) → k < length qs → Marked (marks_of least qs (roots₂ h ps roots)) k
  unfolding marks_of
  all-again k l =
      let a = stood t (length ps) k (omega (arith, kept-many)) in
      let r = reached-again (sound a.number a.kept) in
      (marks-complete (names_of least qs) (length qs) (roots_from least (roots₂ h ps roots)) (names-down least qs (new-goods s h c ps old t all-close)) roots-inside₂ (rw a.same at r)).1

  table-again : (k : ℕ) → k < length qs → get_or (numbers least (marks_of least qs (roots₂ h ps roots))) k 0 ≡ least + k
  table-again k l =
      let u = marks_of least qs (roots₂ h ps roots) in
      let z : length u ≡ length qs = marks-long least qs (roots₂ h ps roots) in
      numbers-same least u k (omega arith) (λ i j. all-again i (omega arith))

  pub drops : DropHolds s h c ps roots
  drops = record {
    only = sound;
    all = λ k r. (complete r).1;
    prunes = prunes s h c ps old t all-close;
    alike = kept-alike s h c ps old t all-close;
    all_again = all-again;
    twice = same-stream (stream₂ s h ps roots) (header₂ h ps roots) c qs (renewed s h c ps old t all-close) (marks_of least qs (roots₂ h ps roots)) all-again;
    table_again = table-again;
  }

pub dropping : Dropping
dropping = record { drops = λ s h c ps roots o l e i y w d. drops s h c ps roots (record { bytes = o; filled = l; header = e; iter = i; yes = y; walked = w }) d }
