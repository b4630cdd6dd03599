-- The pass up that asks, over a fit stream's records, once the table has the new numbers: what a kept record names is kept, and the pass finds
-- exactly whether a reference would read as none. Assumes nothing.
use Prim.Native.Nat.{ℕ, zero, suc, ◌+◌, ◌-◌, ◌%◌, ◌≤◌, ◌<◌}
use native.Mathlib.Omega.{arith}
use mathlib.Core.Bool.{Bool, true, false}
use mathlib.Core.Path.{◌≡◌, refl, sym, ap, ◌∙◌}
use mathlib.Core.Logic.{◌⊎◌, inl, inr}
use mathlib.Core.List.{List, [], ◌∷◌}
use lib.ListN.{length, get_or}
use lib.Dec.{leb, ltb, eqb}
use borrow.Author.Tests.{leb-true, leb-false, lt-ltb, le-ltb, eq-eqb, ne_eqb}
use Rattle.answer.specs.Answer.{answered, pick, both}
use Rattle.answer.specs.Tables.{among}
use Rattle.field.specs.Fields.{little_at}
use Rattle.field.specs.Indices.{no_type}
use Rattle.field.proofs.FieldLaws.{little-below}
use Rattle.field_put.specs.Bytes.{put, Octets}
use Rattle.stream_header.specs.declared.Header.{Header}
use Rattle.stream_item.specs.declared.iter.ItemIter.{ItemIter}
use Rattle.stream_item.proofs.NextLaws.{yields}
use Rattle.stream_item.proofs.LinkLaws.{whole_is}
use Rattle.record_reference.specs.References.{Ref, refs_of}
use Rattle.record_reference.proofs.DecodedLaws.{has-exactly}
use Rattle.record_rewrite.specs.Rewrite.{StandsOne, Stand}
use Rattle.record_rewrite.proofs.Rewritten.{rewriting}
use Rattle.record_rewrite.proofs.InPlace.{put-inside}
use Rattle.stream_fit.specs.Sentences.{In}
use Rattle.stream_prune.specs.Links.{ComesPast, ends, past}
use Rattle.stream_prune.specs.Pruned.{Marked, rank, numbers, new_index, or_nothing, AllOctets}
use Rattle.stream_prune.specs.Dropped.{IsIn, Reached, named, numbers_of, roots_from, names_of, marks_of}
use Rattle.stream_prune.proofs.Numbers.{same_or, rank_less, index_kept, index_below, numbers-long, numbers-dropped, numbers-zero, numbers-index}
use Rattle.stream_prune.proofs.MarkLaws.{marked-inside, marks-sound, marks-complete, marks-long}
use Rattle.stream_prune.proofs.LinkLaws.{record-onward}
use Rattle.stream_prune.proofs.NewStream.{Old, low, octets, goods, count}
use Rattle.stream_prune.proofs.DroppedLaws.{good-at, names-down}
use Rattle.stream_drop.specs.Each.{held_of, reads_as_none, done, done_all}
use Rattle.stream_drop.specs.Passes.{place_behind, up_at, up_from}
use Rattle.stream_drop.specs.Drop.{one_reads_as_none, some_read_as_none}
use Rattle.stream_drop.specs.declared.each.Job.TheVariants as job
use Rattle.stream_drop.proofs.DoneLaws.{done-refs}

-- What a kept record names is kept -------------------------------------------------------------------------------------------------------

number-named : (minimum : ℕ) (rs : List Ref) (r : Ref) → In r rs → minimum ≤ r.index → IsIn (r.index - minimum) (numbers_of minimum rs)
unfolding numbers_of In
number-named minimum [] r m l = absurd m
number-named minimum (x ∷ rs) r m l = go (leb minimum x.index) refl m (λ k. number-named minimum rs r k l)
  where
    go : (b : Bool) → leb minimum x.index ≡ b → (r ≡ x) ⊎ In r rs → (In r rs → IsIn (r.index - minimum) (numbers_of minimum rs))
        → IsIn (r.index - minimum) (pick b ((x.index - minimum) ∷ numbers_of minimum rs) (numbers_of minimum rs))
    go true e (inl i) ih = inl (ap (λ y. y.index - minimum) i)
    go true e (inr i) ih = inr (ih i)
    go false e (inl i) ih = absurd (omega (arith, l, leb-false minimum x.index e, ap (λ y. y.index) i))
    go false e (inr i) ih = ih i

roots-below : (minimum n : ℕ) (xs : List ℕ) → ((x : ℕ) → IsIn x xs → x < minimum + n) → (j : ℕ) → IsIn j (roots_from minimum xs) → j < n
unfolding roots_from
roots-below minimum n [] h j m = absurd m
roots-below minimum n (x ∷ xs) h j m = go (leb minimum x) refl m (roots-below minimum n xs (λ y k. h y (inr k)) j)
  where
    go : (b : Bool) → leb minimum x ≡ b → IsIn j (pick b ((x - minimum) ∷ roots_from minimum xs) (roots_from minimum xs)) → (IsIn j (roots_from minimum xs) → j < n) → j < n
    go true e (inl i) ih = omega (arith, i, leb-true minimum x e, h x (inl refl))
    go true e (inr i) ih = ih i
    go false e i ih = ih i

names-of : (minimum : ℕ) (ps : List (List ℕ)) (i : ℕ) (rs : List Ref) → refs_of (get_or ps i []) ≡ answered rs → names_of minimum ps i ≡ numbers_of minimum rs
unfolding names_of
names-of minimum ps i rs e = rw e

module _ (s : List ℕ) (h : Header) (c : ItemIter) (ps : List (List ℕ)) (roots : List ℕ) (old : Old s h c ps) (inside : (x : ℕ) → IsIn x roots → x < h.maximum_index) where
  pub named-kept : (i : ℕ) → Marked (marks_of h.minimum_index ps roots) i → (rs : List Ref) → refs_of (get_or ps i []) ≡ answered rs → (r : Ref) → In r rs → h.minimum_index ≤ r.index
      → Marked (marks_of h.minimum_index ps roots) (r.index - h.minimum_index)
  unfolding marks_of
  named-kept i m rs e r k l =
      let least = h.minimum_index in
      let j : IsIn (r.index - least) (names_of least ps i) = rw (names-of least ps i rs e) (number-named least rs r k l) in
      let a : Reached (names_of least ps) (roots_from least roots) i = marks-sound (names_of least ps) (length ps) (roots_from least roots) i m in
      (marks-complete (names_of least ps) (length ps) (roots_from least roots) (names-down least ps (goods s h c ps old))
      (record { inside = roots-below least (length ps) roots (λ x y. omega (arith, inside x y, count s h c ps old)) }) (named a j)).1

-- What is known of a record ----------------------------------------------------------------------------------------------------------------

-- of payload p, which has number i: its references, what they name if it is kept, and that none is 0xffff and optional
pub record Known (minimum : ℕ) (ms : List ℕ) (i : ℕ) (p : List ℕ) : Type 0 where
  pub refs : List Ref
  pub are : refs_of p ≡ answered refs
  pub names : Marked ms i → (r : Ref) → In r refs → minimum ≤ r.index → Marked ms (r.index - minimum)
  pub some : (r : Ref) → In r refs → r.optional ≡ true → r.index ≡ 0xffff → ⊥
  pub octets : Octets p
  pub short : length p < 65536

unfoldable pub AllKnown : ℕ → List ℕ → ℕ → List (List ℕ) → Type 0
AllKnown minimum ms i [] = Unit
AllKnown minimum ms i (p ∷ ps) = Known minimum ms i p × AllKnown minimum ms (i + 1) ps

known_from : (minimum : ℕ) (ms : List ℕ) (i : ℕ) (ps : List (List ℕ)) → ((k : ℕ) → k < length ps → Known minimum ms (i + k) (get_or ps k [])) → AllKnown minimum ms i ps
unfolding AllKnown
known_from minimum ms i [] f = tt
known_from minimum ms i (p ∷ ps) f =
    let e : i + 0 ≡ i = omega arith in (
      rw e at (f 0 (omega arith)),
      known_from minimum ms (i + 1) ps (λ k l. let z : i + suc k ≡ i + 1 + k = omega arith in rw z at (f (suc k) (omega arith))),
    )

stand-at : (s : List ℕ) (rs : List Ref) → Stand s rs → (r : Ref) → In r rs → StandsOne s r
unfolding Stand In
stand-at s [] st r m = absurd m
stand-at s (x ∷ rs) st r (inl e) = rw e st.0
stand-at s (x ∷ rs) st r (inr m) = stand-at s rs st.1 r m

never-none : (n : ℕ) → n ≡ 0xffff → among n no_type ≡ false → ⊥
unfolding among
never-none n e h = let z : ◌≡◌ {A = ℕ} 0 1 = go (rw e at h) in omega arith
  where
    go : true ≡ false → ◌≡◌ {A = ℕ} 0 1
    go i = cc

octets-at : (ps : List (List ℕ)) (i : ℕ) → AllOctets ps → i < length ps → Octets (get_or ps i [])
unfolding AllOctets
octets-at [] i o l = absurd (omega arith)
octets-at (p ∷ ps) zero o l = o.0
octets-at (p ∷ ps) (suc i) o l = octets-at ps i o.1 (omega arith)

length-small : (s : List ℕ) (q : ℕ) → Octets s → little_at 2 s q < 65536
unfolding Octets
length-small s q o = little-below 2 s q o

-- a link holds a length of two bytes
short-at : (s : List ℕ) (c : ItemIter) (ps : List (List ℕ)) → Octets s → ComesPast s c ps → (k : ℕ) → k < length ps → length (get_or ps k []) < 65536
short-at s c ps o (ends e) k l = absurd (omega arith)
short-at s c ps o (past {d = d} {i = i} {p = p} {ps = qs} e f w) zero l =
    let y = yields s c i d e in
    let a = whole_is s c.at i.place i.length y.whole in
    rw (← f) (omega (arith, (record-onward s c i d e).long, a.len, length-small s c.at o))
short-at s c ps o (past {d = d} {i = i} {p = p} {ps = qs} e f w) (suc k) l = short-at s d qs o w k (omega arith)

module _ (s : List ℕ) (h : Header) (c : ItemIter) (ps : List (List ℕ)) (roots : List ℕ) (old : Old s h c ps) (inside : (x : ℕ) → IsIn x roots → x < h.maximum_index) where
  known_at : (k : ℕ) → k < length ps → Known h.minimum_index (marks_of h.minimum_index ps roots) k (get_or ps k [])
  known_at k l =
      let least = h.minimum_index in
      let a = good-at least least ps k (goods s h c ps old) l in
      let b = has-exactly.decoded_has (get_or ps k []) a.decodes in
      record {
        refs = b.refs;
        are = b.are;
        names = λ m r i u. named-kept s h c ps roots old inside k m b.refs b.are r i u;
        some = λ r i o e. never-none r.index e ((stand-at (get_or ps k []) b.refs (rewriting.stand (get_or ps k []) b.refs b.are) r i).some o);
        octets = octets-at ps k (octets s h c ps old) l;
        short = short-at s c ps old.bytes old.walked k l;
      }

  pub all_known : AllKnown h.minimum_index (marks_of h.minimum_index ps roots) 0 ps
  all_known = known_from _ _ 0 ps (λ k l. let z : 0 + k ≡ k = omega arith in rw z (known_at k l))

or_else : (x y g : Bool) → pick y false (pick x false g) ≡ pick (pick x true y) false g
or_else true true g = refl
or_else true false g = refl
or_else false y g = refl

-- The table of new numbers ------------------------------------------------------------------------------------------------------------------

-- the table's first entries are the new numbers
pub record Entries (minimum : ℕ) (ms t : List ℕ) : Type 0 where
  pub up : 0 < minimum
  pub same : (k : ℕ) → k < length ms → get_or t k 0 ≡ get_or (numbers minimum ms) k 0

module _ (minimum : ℕ) (ms t : List ℕ) (en : Entries minimum ms t) where
  pub entry_kept : (i : ℕ) → Marked ms i → eqb (get_or t i 0) 0 ≡ false
  entry_kept i m =
      let l = marked-inside ms i m in
      ne_eqb (get_or t i 0) 0 (λ (e : get_or t i 0 ≡ 0). numbers-zero minimum ms i l en.up (sym (en.same i l) ∙ e) m)

  pub entry-dropped : (i : ℕ) → i < length ms → (Marked ms i → ⊥) → eqb (get_or t i 0) 0 ≡ true
  entry-dropped i l m = eq-eqb (get_or t i 0) 0 (en.same i l ∙ numbers-dropped minimum ms i l m)

  pub entry-index : (n : ℕ) → minimum ≤ n → Marked ms (n - minimum) → get_or t (n - minimum) 0 ≡ new_index minimum ms n
  entry-index n u m = let l = marked-inside ms (n - minimum) m in en.same (n - minimum) l ∙ numbers-index minimum ms n u l m

  -- Asking --------------------------------------------------------------------------------------------------------------------------------------

  ask-one : (r : Ref) (g : Bool) (b : List ℕ) → (minimum ≤ r.index → Marked ms (r.index - minimum)) → (r.optional ≡ true → r.index ≡ 0xffff → ⊥)
      → done minimum job.Ask r (held_of g t b) ≡ held_of (pick (reads_as_none r.optional (new_index minimum ms r.index)) false g) t b
  unfolding done
  ask-one r g b k o = go (leb minimum r.index) refl
    where
      below : (c : Bool) → r.optional ≡ c → held_of g t b ≡ held_of (pick (reads_as_none c r.index) false g) t b
      below true e = rw (ne_eqb r.index 0xffff (o e))
      below false e = refl

      go : (c : Bool) → leb minimum r.index ≡ c
          → pick (ltb r.index minimum) (held_of g t b) (held_of (pick (reads_as_none r.optional (get_or t (r.index - minimum) 0)) false g) t b)
          ≡ held_of (pick (reads_as_none r.optional (new_index minimum ms r.index)) false g) t b
      go true e = let l = leb-true minimum r.index e in rw (le-ltb r.index minimum l, entry-index r.index l (k l))
      go false e = let l = leb-false minimum r.index e in rw (lt-ltb r.index minimum l, index_below minimum ms r.index l) (below r.optional refl)

  ask-refs : (rs : List Ref) (g : Bool) (b : List ℕ) → ((r : Ref) → In r rs → minimum ≤ r.index → Marked ms (r.index - minimum)) → ((r : Ref) → In r rs → r.optional ≡ true → r.index ≡ 0xffff → ⊥)
      → done_all minimum job.Ask rs (held_of g t b) ≡ held_of (pick (one_reads_as_none minimum ms rs) false g) t b
  unfolding done_all one_reads_as_none In
  ask-refs [] g b k o = refl
  ask-refs (r ∷ rs) g b k o =
      let x = reads_as_none r.optional (new_index minimum ms r.index) in
      ap (done_all minimum job.Ask rs) (ask-one r g b (k r (inl refl)) (o r (inl refl))) ∙ ask-refs rs (pick x false g) b (λ y i. k y (inr i)) (λ y i. o y (inr i))
      ∙ ap (λ y. held_of y t b) (or_else x (one_reads_as_none minimum ms rs) g)

  ask-from : (i q : ℕ) (g : Bool) (b : List ℕ) (ps : List (List ℕ)) → i + length ps ≤ length ms → AllKnown minimum ms i ps
      → up_from minimum false i q ps (held_of g t b) ≡ held_of (pick (some_read_as_none minimum ms i ps) false g) t b
  unfolding up_from some_read_as_none AllKnown
  ask-from i q g b [] l k = refl
  ask-from i q g b (p ∷ ps) l k = go (same_or (get_or ms i 0) 1) (λ y x. ask-from (i + 1) y x b ps (omega arith) k.1)
    where
      go : (get_or ms i 0 ≡ 1) ⊎ (get_or ms i 0 ≡ 1 → ⊥)
          → ((y : ℕ) (x : Bool) → up_from minimum false (i + 1) y ps (held_of x t b) ≡ held_of (pick (some_read_as_none minimum ms (i + 1) ps) false x) t b)
          → up_from minimum false (i + 1) (place_behind q (get_or t i 0) p) ps (up_at minimum false q (get_or t i 0) p (held_of g t b))
          ≡ held_of (pick (pick (both (eqb (get_or ms i 0) 1) (one_reads_as_none minimum ms (or_nothing (refs_of p)))) true (some_read_as_none minimum ms (i + 1) ps)) false g) t b
      go (inl m) ih =
          let rs = k.0.refs in
          let x = one_reads_as_none minimum ms rs in
          rw (entry_kept i m, eq-eqb _ _ m, k.0.are)
          (ap (up_from minimum false (i + 1) (q + 2 + length p % 65536) ps) (done-refs minimum job.Ask p rs (held_of g t b) k.0.are ∙ ask-refs rs g b (k.0.names m) k.0.some)
          ∙ ih (q + 2 + length p % 65536) (pick x false g)
          ∙ ap (λ y. held_of y t b) (or_else x (some_read_as_none minimum ms (i + 1) ps) g))
      go (inr m) ih = rw (entry-dropped i (omega arith) m, ne_eqb _ _ m) (ih q g)

-- Where the new numbers stay small -----------------------------------------------------------------------------------------------------------

module _ (minimum : ℕ) (ms : List ℕ) (small : minimum + rank ms (length ms) ≤ 0xffff) where
  one_below : (rs : List Ref) → ((r : Ref) → In r rs → minimum ≤ r.index → Marked ms (r.index - minimum)) → ((r : Ref) → In r rs → r.optional ≡ true → r.index ≡ 0xffff → ⊥)
      → one_reads_as_none minimum ms rs ≡ false
  unfolding one_reads_as_none In
  one_below [] k o = refl
  one_below (r ∷ rs) k o = rw (here r.optional refl) (one_below rs (λ y i. k y (inr i)) (λ y i. o y (inr i)))
    where
      other : r.optional ≡ true → (c : Bool) → leb minimum r.index ≡ c → new_index minimum ms r.index ≡ 0xffff → ⊥
      other p true e z =
          let l = leb-true minimum r.index e in
          let m = k r (inl refl) l in
          omega (arith, z, index_kept minimum ms r.index l, rank_less ms (r.index - minimum) (length ms) m (marked-inside ms (r.index - minimum) m), small)
      other p false e z = o r (inl refl) p (sym (index_below minimum ms r.index (leb-false minimum r.index e)) ∙ z)

      here : (c : Bool) → r.optional ≡ c → reads_as_none r.optional (new_index minimum ms r.index) ≡ false
      here true e = rw (e, ne_eqb (new_index minimum ms r.index) 0xffff (other e (leb minimum r.index) refl))
      here false e = rw e

  none_from : (i : ℕ) (ps : List (List ℕ)) → AllKnown minimum ms i ps → some_read_as_none minimum ms i ps ≡ false
  unfolding some_read_as_none AllKnown
  none_from i [] k = refl
  none_from i (p ∷ ps) k = go (same_or (get_or ms i 0) 1) (none_from (i + 1) ps k.1)
    where
      go : (get_or ms i 0 ≡ 1) ⊎ (get_or ms i 0 ≡ 1 → ⊥) → some_read_as_none minimum ms (i + 1) ps ≡ false
          → pick (both (eqb (get_or ms i 0) 1) (one_reads_as_none minimum ms (or_nothing (refs_of p)))) true (some_read_as_none minimum ms (i + 1) ps) ≡ false
      go (inl m) ih = rw (eq-eqb _ _ m, k.0.are, one_below k.0.refs (k.0.names m) k.0.some) ih
      go (inr m) ih = rw (ne_eqb _ _ m) ih

-- Of a fit stream -----------------------------------------------------------------------------------------------------------------------------

pub new-entries : (minimum : ℕ) (ms t : List ℕ) → 0 < minimum → length ms ≤ length t → Entries minimum ms (put t 0 (numbers minimum ms))
new-entries minimum ms t up l = record { up = up; same = same }
  where
    same : (k : ℕ) → k < length ms → get_or (put t 0 (numbers minimum ms)) k 0 ≡ get_or (numbers minimum ms) k 0
    same k h =
        let z : 0 + k ≡ k = omega arith in
        rw z at (put-inside t 0 (numbers minimum ms) k (omega (arith, numbers-long minimum ms)) (omega (arith, numbers-long minimum ms)))

module _ (s : List ℕ) (h : Header) (c : ItemIter) (ps : List (List ℕ)) (roots : List ℕ) (old : Old s h c ps) (inside : (x : ℕ) → IsIn x roots → x < h.maximum_index) where
  abbrev least : ℕ
  least = h.minimum_index

  abbrev ms : List ℕ
  ms = marks_of h.minimum_index ps roots

  pub all-entries : (t : List ℕ) → length ps ≤ length t → Entries least ms (put t 0 (numbers least ms))
  all-entries t l = new-entries least ms t (omega (arith, low s h c ps old)) (omega (arith, marks-long least ps roots))

  -- the pass that asks leaves the table and the buffer, and says whether none would read as none
  pub ask-all : (t : List ℕ) → length ps ≤ length t → (q : ℕ) (b : List ℕ)
      → up_from least false 0 q ps (held_of true (put t 0 (numbers least ms)) b) ≡ held_of (pick (some_read_as_none least ms 0 ps) false true) (put t 0 (numbers least ms)) b
  ask-all t l q b =
      ask-from least ms (put t 0 (numbers least ms)) (all-entries t l) 0 q true b ps (omega (arith, marks-long least ps roots)) (all_known s h c ps roots old inside)

  -- where no new index is 0xffff or above, nothing is to be asked
  pub none_below : least + rank ms (length ps) ≤ 0xffff → some_read_as_none least ms 0 ps ≡ false
  none_below l =
      let e : rank ms (length ms) ≡ rank ms (length ps) = ap (rank ms) (marks-long least ps roots) in
      none_from least ms (omega arith) 0 ps (all_known s h c ps roots old inside)
