-- R-13's promises: what the table and the new stream say, when each refusal is given, and that dropping twice changes nothing. Assumes nothing.
use Rattle.std.specs.Prelude.{Option, None, Some}
use Prim.Native.Nat.{ℕ, zero, suc, ◌+◌, ◌-◌, ◌≤◌, ◌<◌}
use native.Mathlib.Omega.{arith}
use mathlib.Core.Bool.{Bool, true, false}
use mathlib.Core.Path.{◌≡◌, refl, sym, ap, ◌∙◌}
use mathlib.Core.Logic.{◌⊎◌, inl, inr}
use mathlib.Core.List.{List, [], ◌∷◌, map}
use lib.ListN.{length, get_or, take, get_or-append, get_or-eq_default}
use lib.Seq.{get_or-take}
use lib.Dec.{leb, ltb}
use borrow.Author.Tests.{leb-true, leb-false, ltb-true, ltb-false}
use Rattle.answer.specs.Answer.{answered, pick}
use Rattle.field.specs.declared.index.Stream.TheVariants as stream
use Rattle.field_put.specs.Bytes.{Octets}
use Rattle.stream_header.specs.Header.{header_of}
use Rattle.stream_header.specs.declared.Header.{Header}
use Rattle.stream_item.specs.Iterator.{iter_of}
use Rattle.stream_item.specs.declared.iter.ItemIter.{ItemIter}
use Rattle.record_reference.specs.References.{Ref, refs_of}
use Rattle.record_rewrite.specs.Kept.{Kept}
use Rattle.record_rewrite.proofs.Places.{put_four}
use Rattle.record_rewrite.proofs.Rewritten.{rewriting}
use Rattle.stream_fit.specs.Fit.{fit, fit_of}
use Rattle.stream_fit.specs.Sentences.{In}
use Rattle.stream_prune.specs.Links.{links, ComesPast}
use Rattle.stream_prune.specs.Pruned.{Marked, rank, numbers, new_index, kept_from, new_head, new_stream, AllClose, AllOctets}
use Rattle.stream_prune.specs.Dropped.{IsIn, Reached, root, roots_from, names_of, marks_of, Droppable, roots₂, header₂, DropHolds}
use Rattle.stream_prune.proofs.Numbers.{rank_less, index_kept, index_below, stood, numbers-long, numbers-kept}
use Rattle.stream_prune.proofs.MarkLaws.{Downward, Inside, marked-inside, marks-sound, marks-complete, marks-long}
use Rattle.stream_prune.proofs.PrunedLaws.{new-fits}
use Rattle.stream_prune.proofs.HeadLaws.{head-long, size-inside}
use Rattle.stream_prune.proofs.Walks.{fit_count}
use Rattle.stream_prune.proofs.NewStream.{Old, op, low, octets, goods, count, new-count, renewed}
use Rattle.stream_prune.proofs.DroppedLaws.{names-down, all-close, drops}
use Rattle.stream_drop.specs.Drop.{first_above, some_read_as_none, drop_of, written}
use Rattle.stream_drop.specs.Sentences.{renumbered_by, IsKept, rewritten, kept_by, upward, OldToNew, DropSays, ReadsAsNone, FirstAbove, here, later, Case, by_8, by_13, by_30, by_19, by_none, When, DropSentences}
use Rattle.stream_drop.proofs.UpLaws.{AllKnown, named-kept, all_known}
use Rattle.stream_drop.proofs.DropLaws.{all-below}
use Rattle.stream_drop.proofs.ThroughLaws.{same-fits, same_map, marked-kept, kept-marked, through-new, kept_by_lem, all-numbers, all-index, reads-found, reads-there}
use Rattle.stream_drop.proofs.OutcomeLaws.{first-is, none_above, drop-fit, root-above, few-places, reads_none, no_room, writes, wrote, was-fit, header_refused, not-fit, empty-header, nothing_written, nothing-there}

-- Roots -----------------------------------------------------------------------------------------------------------------------------------------

root_in : (minimum : ℕ) (xs : List ℕ) (y : ℕ) → IsIn y xs → minimum ≤ y → IsIn (y - minimum) (roots_from minimum xs)
unfolding roots_from
root_in minimum [] y m l = absurd m
root_in minimum (x ∷ xs) y m l = go (leb minimum x) refl m (λ k. root_in minimum xs y k l)
  where
    go : (b : Bool) → leb minimum x ≡ b → (y ≡ x) ⊎ IsIn y xs → (IsIn y xs → IsIn (y - minimum) (roots_from minimum xs))
        → IsIn (y - minimum) (pick b ((x - minimum) ∷ roots_from minimum xs) (roots_from minimum xs))
    go true e (inl i) ih = inl (ap (λ z. z - minimum) i)
    go true e (inr i) ih = inr (ih i)
    go false e (inl i) ih = absurd (omega (arith, l, leb-false minimum x e, i))
    go false e (inr i) ih = ih i

roots-below : (minimum n : ℕ) (xs : List ℕ) → ((x : ℕ) → IsIn x xs → x < minimum + n) → (j : ℕ) → IsIn j (roots_from minimum xs) → j < n
unfolding roots_from
roots-below minimum n [] h j m = absurd m
roots-below minimum n (x ∷ xs) h j m = go (leb minimum x) refl m (roots-below minimum n xs (λ y k. h y (inr k)) j)
  where
    go : (b : Bool) → leb minimum x ≡ b → IsIn j (pick b ((x - minimum) ∷ roots_from minimum xs) (roots_from minimum xs)) → (IsIn j (roots_from minimum xs) → j < n) → j < n
    go true e (inl i) ih = omega (arith, i, leb-true minimum x e, h x (inl refl))
    go true e (inr i) ih = ih i
    go false e i ih = ih i

-- the members of a mapped list are below what each image is below
map_below : (f : ℕ → ℕ) (n : ℕ) (xs : List ℕ) → ((x : ℕ) → IsIn x xs → f x < n) → (y : ℕ) → IsIn y (map f xs) → y < n
map_below f n [] h y i = absurd i
map_below f n (x ∷ xs) h y (inl e) = let l = h x (inl refl) in omega arith
map_below f n (x ∷ xs) h y (inr i) = map_below f n xs (λ z j. h z (inr j)) y i

octets-at : (ps : List (List ℕ)) (i : ℕ) → AllOctets ps → i < length ps → Octets (get_or ps i [])
unfolding AllOctets
octets-at [] i o l = absurd (omega arith)
octets-at (p ∷ ps) zero o l = o.0
octets-at (p ∷ ps) (suc i) o l = octets-at ps i o.1 (omega arith)

-- Of a stream that has a header -------------------------------------------------------------------------------------------------------------------

module _ (s : List ℕ) (h : Header) (c : ItemIter) (ps : List (List ℕ)) (roots : List ℕ) (old : Old s h c ps) (inside : (x : ℕ) → IsIn x roots → x < h.maximum_index) where
  abbrev least : ℕ
  least = h.minimum_index

  abbrev t : List ℕ
  t = marks_of h.minimum_index ps roots

  abbrev table : List ℕ
  table = numbers h.minimum_index (marks_of h.minimum_index ps roots)

  up : 0 < least
  up = omega (arith, low s h c ps old)

  many : length t ≡ length ps
  many = marks-long least ps roots

  known : AllKnown least t 0 ps
  known = all_known s h c ps roots old inside

  kept-are : kept_by least table 0 ps ≡ kept_from least t 0 ps
  kept-are = kept_by_lem least t up 0 ps (omega (arith, many)) known

  kept-many : length (kept_by least table 0 ps) ≡ rank t (length ps)
  kept-many = ap length kept-are ∙ new-count s h c ps old t

  is-marked : (k : ℕ) → IsKept table k → Marked t k
  is-marked = kept-marked least t up

  number_of : (k : ℕ) → Marked t k → get_or table k 0 ≡ least + rank t k
  number_of k m = numbers-kept least t k (marked-inside t k m) m

  early : (k : ℕ) → Marked t k → k < length ps
  early k m = omega (arith, marked-inside t k m, many)

  sound : (k : ℕ) → Marked t k → Reached (names_of least ps) (roots_from least roots) k
  unfolding marks_of
  sound k m = marks-sound (names_of least ps) (length ps) (roots_from least roots) k m

  complete : (k : ℕ) → Reached (names_of least ps) (roots_from least roots) k → Marked t k
  unfolding marks_of
  complete k r =
      (marks-complete (names_of least ps) (length ps) (roots_from least roots) (names-down least ps (goods s h c ps old))
      (record { inside = roots-below least (length ps) roots (λ x y. omega (arith, inside x y, count s h c ps old)) }) r).1

  pub old-to-new : OldToNew roots h ps table
  old-to-new = record {
    one_each = numbers-long least t ∙ many;
    only = λ k l. sound k (is-marked k l);
    all = λ k r. marked-kept least t up k (complete k r);
    order = λ i j a b l. omega (arith, number_of i (is-marked i a), number_of j (is-marked j b), rank_less t i j (is-marked i a) l);
    low = λ k l. omega (arith, number_of k (is-marked k l));
    high = λ k l. let m = is-marked k l in omega (arith, number_of k m, kept-many, rank_less t k (length ps) m (early k m));
    no_hole = λ n l.
        let x = stood t (length ps) n (omega (arith, kept-many)) in
        record { old = x.number; is = number_of x.number x.kept ∙ ap (λ y. least + y) x.same };
  }

  -- what a kept record names goes to its new index
  agrees : (k : ℕ) → Marked t k → (rs : List Ref) → refs_of (get_or ps k []) ≡ answered rs → (r : Ref) → In r rs → renumbered_by least table r.index ≡ new_index least t r.index
  agrees k m rs e r i = through-new least t up r.index (named-kept s h c ps roots old inside k m rs e r i)

  -- and so does a root
  root-marked : (x : ℕ) → IsIn x roots → least ≤ x → Marked t (x - least)
  root-marked x i l = complete (x - least) (root (root_in least roots x i l))

  roots-new : map (renumbered_by least table) roots ≡ map (new_index least t) roots
  roots-new = same_map (renumbered_by least table) (new_index least t) roots (λ x i. through-new least t up x (root-marked x i))

  -- 30 ------------------------------------------------------------------------------------------------------------------------------------------

  pub reads-back : ReadsAsNone least table ps → some_read_as_none least t 0 ps ≡ true
  reads-back x =
      let m = is-marked x.holder x.kept in
      let z : 0 + x.holder ≡ x.holder = omega arith in
      reads-there least t 0 ps x.holder (early x.holder m) (rw z m) x.refs x.are x.reference x.one x.optional
      (sym (agrees x.holder m x.refs x.are x.reference x.one) ∙ x.becomes)

  reads_on : some_read_as_none least t 0 ps ≡ true → ReadsAsNone least table ps
  reads_on e =
      let x = reads-found least t 0 ps known e in
      let z : 0 + x.holder ≡ x.holder = omega arith in
      let m : Marked t x.holder = rw z at x.kept in
      record {
        holder = x.holder;
        kept = marked-kept least t up x.holder m;
        refs = x.refs;
        are = x.are;
        reference = x.reference;
        one = x.one;
        optional = x.optional;
        becomes = through-new least t up x.reference.index x.named ∙ x.becomes;
      }

  pub reads-not : (ReadsAsNone least table ps → ⊥) → some_read_as_none least t 0 ps ≡ false
  reads-not n = go (some_read_as_none least t 0 ps) refl
    where
      go : (b : Bool) → some_read_as_none least t 0 ps ≡ b → some_read_as_none least t 0 ps ≡ false
      go true e = absurd (n (reads_on e))
      go false e = e

  -- The new stream -------------------------------------------------------------------------------------------------------------------------------

  module _ (none : some_read_as_none least t 0 ps ≡ false) where
    some : (i : ℕ) → i < length ps → Marked t i → (rs : List Ref) → refs_of (get_or ps i []) ≡ answered rs → (r : Ref) → In r rs → r.optional ≡ true → new_index least t r.index ≡ 0xffff → ⊥
    some i l m rs e r j o x =
        let z : 0 + i ≡ i = omega arith in
        let a = reads-there least t 0 ps i l (rw z m) rs e r j o x in
        let y : ◌≡◌ {A = ℕ} 0 1 = cc in
        omega arith

    droppable : Droppable h ps roots
    droppable = record { inside = inside; some = some }

    close : AllClose least t 0 ps
    close = all-close s h c ps roots old droppable

    done : DropHolds s h c ps roots
    done = drops s h c ps roots old droppable

    abbrev new : List ℕ
    new = new_stream s h (marks_of h.minimum_index ps roots) ps

    header-bytes : (i : ℕ) → i < h.header_size → (i < 12 ⊎ 16 ≤ i) → get_or new i 0 ≡ get_or s i 0
    unfolding new_stream new_head
    header-bytes i l k =
        let m = least + rank t (length ps) in
        get_or-append (new_head s h m) (links (kept_from least t 0 ps)) 0 i (omega (arith, head-long s h m (size-inside s h (op s h c ps old))))
        ∙ put_four (take h.header_size s) 12 m i k ∙ get_or-take h.header_size s i 0 l

    alike : (k : ℕ) → IsKept table k → (rs : List Ref) → refs_of (get_or ps k []) ≡ answered rs → Kept (renumbered_by least table) (get_or ps k []) rs (rewritten least table (get_or ps k []))
    alike k l rs e =
        let m = is-marked k l in
        let f = new-fits least t (get_or ps k []) rs e (low s h c ps old) (octets-at ps k (octets s h c ps old) (early k m)) (record {
          named = named-kept s h c ps roots old inside k m;
          some = some k (early k m) m;
        }) in
        rw e (rewriting.keeps (renumbered_by least table) (get_or ps k []) rs e (same-fits (renumbered_by least table) (new_index least t) rs (agrees k m rs e) f))

    -- Dropping twice -----------------------------------------------------------------------------------------------------------------------------

    abbrev qs : List (List ℕ)
    qs = kept_from h.minimum_index (marks_of h.minimum_index ps roots) 0 ps

    again : Old new (header₂ h ps roots) c qs
    again = renewed s h c ps old t close

    inside₂ : (x : ℕ) → IsIn x (roots₂ h ps roots) → x < least + rank t (length ps)
    inside₂ = map_below (new_index least t) (least + rank t (length ps)) roots (λ x i. go x i (leb least x) refl)
      where
        go : (x : ℕ) → IsIn x roots → (b : Bool) → leb least x ≡ b → new_index least t x < least + rank t (length ps)
        go x i true e =
            let l = leb-true least x e in
            let m = root-marked x i l in
            omega (arith, index_kept least t x l, rank_less t (x - least) (length ps) m (early (x - least) m))
        go x i false e = let l = leb-false least x e in omega (arith, l, index_below least t x l)

    abbrev u : List ℕ
    u = marks_of h.minimum_index qs (roots₂ h ps roots)

    all : (k : ℕ) → k < length u → Marked u k
    all k l = done.all_again k (omega (arith, marks-long least qs (roots₂ h ps roots)))

    none₂ : some_read_as_none least u 0 qs ≡ false
    none₂ = go (some_read_as_none least u 0 qs) refl
      where
        go : (b : Bool) → some_read_as_none least u 0 qs ≡ b → some_read_as_none least u 0 qs ≡ false
        go false e = e
        go true e =
            let x = reads-found least u 0 qs (all_known new (header₂ h ps roots) c qs (roots₂ h ps roots) again inside₂) e in
            absurd (x.some (sym (all-index least u all x.reference.index x.named) ∙ x.becomes))

    twice : (places room : ℕ) → length (kept_by least table 0 ps) ≤ places → length new ≤ room
        → drop_of new (map (renumbered_by least table) roots) places room ≡ written (upward least (kept_by least table 0 ps)) new
    twice places room l k =
        let e : new_stream new (header₂ h ps roots) u qs ≡ new = done.twice in
        let n : length (new_stream new (header₂ h ps roots) u qs) ≤ room = rw e k in
        let a : length qs ≤ places = rw kept-are at l in
        rw (roots-new, kept-are)
        (drop-fit new (header₂ h ps roots) c qs again.header again.iter again.yes again.walked (roots₂ h ps roots) places room
        ∙ writes new (header₂ h ps roots) qs (roots₂ h ps roots) places room (none_above (least + rank t (length ps)) (roots₂ h ps roots) inside₂) a none₂ n
        ∙ ap (λ x. written x (new_stream new (header₂ h ps roots) u qs)) (all-numbers least u qs (marks-long least qs (roots₂ h ps roots)) all)
        ∙ ap (written (upward least qs)) e)

    pub says : DropSays s roots h c ps table new
    says = record {
      old_to_new = old-to-new;
      header = rw kept-many done.prunes.head;
      header_bytes = header-bytes;
      begins = done.prunes.begun;
      records = rw kept-are done.prunes.walked;
      alike = alike;
      fit_again = done.prunes.fit_again;
      twice = twice;
    }

-- Of any fit stream -------------------------------------------------------------------------------------------------------------------------------

-- without records there is nothing to keep
none_kept : (m : ℕ) (ms : List ℕ) (k : ℕ) → length ms ≡ 0 → IsKept (numbers m ms) k → ⊥
none_kept m ms k l i = omega (arith, i, get_or-eq_default (numbers m ms) 0 {n = k} (omega (arith, numbers-long m ms)))

none-to-new : (roots : List ℕ) (h : Header) → h.minimum_index ≡ h.maximum_index → ((x : ℕ) → IsIn x roots → x < h.maximum_index)
    → OldToNew roots h [] (numbers h.minimum_index (marks_of h.minimum_index [] roots))
unfolding kept_by
none-to-new roots h z inside =
    let least = h.minimum_index in
    let many = marks-long least [] roots in
    let not : (k : ℕ) → IsKept (numbers least (marks_of least [] roots)) k → ⊥ = λ k l. none_kept least (marks_of least [] roots) k many l in
    record {
      one_each = numbers-long least (marks_of least [] roots) ∙ many;
      only = λ k l. absurd (not k l);
      all = λ k r. absurd (unreached r);
      order = λ i j a b l. absurd (not i a);
      low = λ k l. absurd (not k l);
      high = λ k l. absurd (not k l);
      no_hole = λ n l. absurd (omega arith);
    }
  where
    unreached : {k : ℕ} → Reached (names_of h.minimum_index []) (roots_from h.minimum_index roots) k → ⊥
    unreached r =
        let a : Downward (names_of h.minimum_index []) 0 = record { below = λ i j l m. absurd (omega arith) } in
        let b : Inside (roots_from h.minimum_index roots) 0 = record { inside = roots-below h.minimum_index 0 roots (λ x i. omega (arith, inside x i)) } in
        omega (arith, (marks-complete (names_of h.minimum_index []) 0 (roots_from h.minimum_index roots) a b r).0)

-- whether a reference reads as none, and what the table says, are all that the outcomes go by
record Decides (roots : List ℕ) (h : Header) (ps : List (List ℕ)) : Type 0 where
  says_so : OldToNew roots h ps (numbers h.minimum_index (marks_of h.minimum_index ps roots))
  yes : ReadsAsNone h.minimum_index (numbers h.minimum_index (marks_of h.minimum_index ps roots)) ps
      → some_read_as_none h.minimum_index (marks_of h.minimum_index ps roots) 0 ps ≡ true
  found : some_read_as_none h.minimum_index (marks_of h.minimum_index ps roots) 0 ps ≡ true
      → ReadsAsNone h.minimum_index (numbers h.minimum_index (marks_of h.minimum_index ps roots)) ps
  not : (ReadsAsNone h.minimum_index (numbers h.minimum_index (marks_of h.minimum_index ps roots)) ps → ⊥)
      → some_read_as_none h.minimum_index (marks_of h.minimum_index ps roots) 0 ps ≡ false

decides-none : (roots : List ℕ) (h : Header) → h.minimum_index ≡ h.maximum_index → ((x : ℕ) → IsIn x roots → x < h.maximum_index) → Decides roots h []
unfolding some_read_as_none
decides-none roots h z inside = record {
  says_so = none-to-new roots h z inside;
  yes = λ x. absurd (none_kept h.minimum_index (marks_of h.minimum_index [] roots) x.holder (marks-long h.minimum_index [] roots) x.kept);
  found = λ e. let z : ◌≡◌ {A = ℕ} 0 1 = cc in absurd (omega arith);
  not = λ n. refl;
}

no-records : (ps : List (List ℕ)) → length ps ≡ 0 → ps ≡ []
no-records [] l = refl
no-records (p ∷ ps) l = absurd (omega arith)

module _ (roots : List ℕ) (c : ItemIter) (ps : List (List ℕ)) where
  decides : (s : List ℕ) (h : Header) → Octets s → header_of s ≡ answered h → iter_of stream.Types s ≡ answered c → fit_of s ≡ answered fit → ComesPast s c ps
      → ((x : ℕ) → IsIn x roots → x < h.maximum_index) → Decides roots h ps
  decides [] h o e i f w inside =
      let z = empty-header h e in
      let n : h.minimum_index ≡ h.maximum_index = rw (← z) in
      let l = fit_count [] h c e i f ps w in
      let k : ps ≡ [] = no-records ps (omega (arith, l, n)) in
      rw k (decides-none roots h n inside)
  decides (x ∷ s) h o e i f w inside =
      let old : Old (x ∷ s) h c ps = record { bytes = o; filled = omega arith; header = e; iter = i; yes = f; walked = w } in
      record {
        says_so = old-to-new (x ∷ s) h c ps roots old inside;
        yes = reads-back (x ∷ s) h c ps roots old inside;
        found = reads_on (x ∷ s) h c ps roots old inside;
        not = reads-not (x ∷ s) h c ps roots old inside;
      }

-- the cases leave nothing out
above-or-below : (maximum : ℕ) (roots : List ℕ) (x : ℕ) → first_above maximum roots ≡ Some x → FirstAbove maximum roots x
unfolding first_above
above-or-below maximum [] x e = let z : ◌≡◌ {A = ℕ} 0 1 = cc in absurd (omega arith)
above-or-below maximum (y ∷ ys) x e = go (leb maximum y) refl e (above-or-below maximum ys x)
  where
    go : (b : Bool) → leb maximum y ≡ b → pick b (Some y) (first_above maximum ys) ≡ Some x → (first_above maximum ys ≡ Some x → FirstAbove maximum ys x) → FirstAbove maximum (y ∷ ys) x
    go true f g more = let z : y ≡ x = cc in rw (← z) (here (leb-true maximum y f))
    go false f g more = later (leb-false maximum y f) (more g)

case-of : (roots : List ℕ) (h : Header) (ps : List (List ℕ)) (new : List ℕ) (places room : ℕ) → (((x : ℕ) → IsIn x roots → x < h.maximum_index) → Decides roots h ps)
    → Case roots h ps (numbers h.minimum_index (marks_of h.minimum_index ps roots)) new places room
case-of roots h ps new places room d = by-root (first_above h.maximum_index roots) refl
  where
    by-room : ((x : ℕ) → IsIn x roots → x < h.maximum_index) → length ps ≤ places
        → (ReadsAsNone h.minimum_index (numbers h.minimum_index (marks_of h.minimum_index ps roots)) ps → ⊥) → (b : Bool) → ltb room (length new) ≡ b
        → Case roots h ps (numbers h.minimum_index (marks_of h.minimum_index ps roots)) new places room
    by-room i l n true e = by_19 i l n (ltb-true room (length new) e)
    by-room i l n false e = by_none i l n (ltb-false room (length new) e)

    by-reads : ((x : ℕ) → IsIn x roots → x < h.maximum_index) → length ps ≤ places → (b : Bool) → some_read_as_none h.minimum_index (marks_of h.minimum_index ps roots) 0 ps ≡ b
        → Case roots h ps (numbers h.minimum_index (marks_of h.minimum_index ps roots)) new places room
    by-reads i l true e = by_30 i l ((d i).found e)
    by-reads i l false e = by-room i l (λ r. let g = (d i).yes r in let z : ◌≡◌ {A = ℕ} 0 1 = cc in absurd (omega arith)) (ltb room (length new)) refl

    by-places : ((x : ℕ) → IsIn x roots → x < h.maximum_index) → (b : Bool) → ltb places (length ps) ≡ b
        → Case roots h ps (numbers h.minimum_index (marks_of h.minimum_index ps roots)) new places room
    by-places i true e = by_13 i (ltb-true places (length ps) e)
    by-places i false e = by-reads i (ltb-false places (length ps) e) (some_read_as_none h.minimum_index (marks_of h.minimum_index ps roots) 0 ps) refl

    by-root : (o : Option ℕ) → first_above h.maximum_index roots ≡ o → Case roots h ps (numbers h.minimum_index (marks_of h.minimum_index ps roots)) new places room
    by-root (Some x) e = by_8 x (above-or-below h.maximum_index roots x e)
    by-root None e = by-places (all-below h.maximum_index roots e) (ltb places (length ps)) refl

when : (s roots : List ℕ) (h : Header) (c : ItemIter) (ps : List (List ℕ)) → Octets s → header_of s ≡ answered h → iter_of stream.Types s ≡ answered c → fit_of s ≡ answered fit → ComesPast s c ps
    → When s roots h c ps
when s roots h c ps o e i f w =
    let d = decides roots c ps s h o e i f w in
    let drop = drop-fit s h c ps e i f w roots in
    let below = none_above h.maximum_index roots in
    record {
      entries = numbers h.minimum_index (marks_of h.minimum_index ps roots);
      new = new_stream s h (marks_of h.minimum_index ps roots) ps;
      old_to_new = λ inside. (d inside).says_so;
      root = λ x places room a. drop places room ∙ root-above s h ps roots places room x (first-is h.maximum_index roots x a);
      places = λ places room inside l. drop places room ∙ few-places s h ps roots places room (below inside) l;
      none = λ places room inside l r. drop places room ∙ reads_none s h ps roots places room (below inside) l ((d inside).yes r);
      room = λ places room inside l n k. drop places room ∙ no_room s h ps roots places room (below inside) l ((d inside).not n) k;
      covers = λ places room. case-of roots h ps (new_stream s h (marks_of h.minimum_index ps roots) ps) places room d;
      answers = λ places room inside l n k. drop places room ∙ writes s h ps roots places room (below inside) l ((d inside).not n) k;
    }

says_all : (s roots : List ℕ) (h : Header) (c : ItemIter) (ps : List (List ℕ)) → Octets s → 0 < length s → header_of s ≡ answered h → iter_of stream.Types s ≡ answered c → ComesPast s c ps
    → (places room : ℕ) (entries new : List ℕ) → drop_of s roots places room ≡ written entries new → DropSays s roots h c ps entries new
says_all s roots h c ps o l e i w places room entries new d =
    let f = was-fit s h c e i roots places room entries new d in
    let old : Old s h c ps = record { bytes = o; filled = l; header = e; iter = i; yes = f; walked = w } in
    let k = wrote s h ps roots places room entries new (sym (drop-fit s h c ps e i f w roots places room) ∙ d) in
    rw (k.table, k.stream) at (says s h c ps roots old (all-below h.maximum_index roots k.below) k.reads)

pub sentences : DropSentences
sentences = record {
  header = header_refused;
  unfit_is_29 = not-fit;
  when = when;
  says = says_all;
  empty = nothing_written;
  empty_root = nothing-there;
}
