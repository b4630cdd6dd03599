-- When headers, iterators, views and finders are refused by which number. One way each number comes from the laws of its outcomes; the other way each
-- definition is gone through once, from its first test to its last, with a way out at each. Assumes nothing.
use Prim.Native.Nat.{ℕ, ◌+◌, ◌≤◌, ◌<◌}
use mathlib.Core.Bool.{Bool, true, false}
use mathlib.Core.Path.{◌≡◌, refl, sym, ap, ◌∙◌}
use mathlib.Core.Logic.{◌⊎◌, inl, inr}
use mathlib.Core.List.{List, [], ◌∷◌}
use native.Mathlib.Omega.{arith}
use lib.ListN.{length}
use lib.Dec.{eqb, ltb, leb}
use borrow.Author.Tests.{ltb-true, ltb-false, leb-true, leb-false, eqb-true, eqb-false, lt-ltb, le-ltb}
use Rattle.answer.specs.Answer.{Answer, answered, refused, stop, both}
use Rattle.field.specs.Fields.{little_at}
use Rattle.field_text.specs.Texts.{Part}
use Rattle.stream_header.specs.Header.{longest, fields_of, header_of}
use Rattle.stream_header.specs.declared.Header.{Header}
use Rattle.stream_header.proofs.HeaderLaws.{There, Sized, header-long, header-cut, header-small, header-large, header-past, minimum-low, maximum-low}
use Rattle.field.specs.Indices.{index_number}
use Rattle.stream_item.specs.Iterator.{iter_of, next_of}
use Rattle.stream_item.specs.Information.{len_of, is_empty_of}
use Rattle.field.specs.declared.index.Stream.{Stream}
use Rattle.stream_item.specs.declared.Item.{Item}
use Rattle.field.specs.declared.index.ItemIndex.{ItemIndex}
use Rattle.stream_item.specs.declared.Entry.{Entry}
use Rattle.stream_item.specs.declared.Entry.TheVariants as entry
use Rattle.stream_item.specs.declared.iter.ItemIter.{ItemIter}
use Rattle.stream_item.specs.declared.link.Hit.{Hit}
use Rattle.stream_item.specs.declared.link.Hit.TheVariants.{Landed, Missed}
use Rattle.stream_item.proofs.NextLaws.{next-long, next_past, next-length, next-short, next-payload, next-used}
use Rattle.stream_view.specs.Views.{part_of, stream_named, short_of, entry_part, view_of, kind_at, entry_kind, raw_kind_of}
use Rattle.stream_finder.specs.Finder.{State, begun_by, create_by, due, update_of, landed, max_index_of, look_of, find_of}
use Rattle.stream_finder.specs.Places.{Ready}
use Rattle.stream_finder.proofs.FinderLaws.{begun-shift, begun-full, create-is, Open, update-long, update-shift, update-claims, update-foreign, update-full, due-yes, find-long, find-shift, find-claims, find-above, find-unheld, find-held}
use Rattle.claim_promises.specs.Given.{by, Given, refusal_of}
use Rattle.claim_promises.specs.ExactlyWhen.{length_at, Short, Usable, InBounds, block, links_skipped, walked, LinkBreaks, broke_after, Due}
use Rattle.claim_promises.proofs.Given.{off, at-stop, at-pick, carried}

-- ---- headers

module _ (s : List ℕ) where
  -- the ways in which `header_of` refuses, each with what is known there
  header-ways : {P : Type 0} (n : ℕ)
      → (longest < length s → eqb 16 n ≡ true → P)
      → (length s ≤ longest → (length s ≡ 0 → ⊥) → length s < 56 → eqb 1 n ≡ true → P)
      → (There s → little_at 4 s 4 < 56 → eqb 2 n ≡ true → P)
      → (There s → 1024 < little_at 4 s 4 → eqb 3 n ≡ true → P)
      → (There s → 56 ≤ little_at 4 s 4 → little_at 4 s 4 ≤ 1024 → length s < little_at 4 s 4 → eqb 1 n ≡ true → P)
      → (Sized s → little_at 4 s 8 < 4096 → eqb 4 n ≡ true → P)
      → (Sized s → 4096 ≤ little_at 4 s 8 → little_at 4 s 12 < little_at 4 s 8 → eqb 5 n ≡ true → P)
      → by n (header_of s) ≡ true → P
  unfolding header_of
  header-ways n long cut small large past low under =
      at-stop n (ltb longest (length s)) 16 _ (λ a. long (ltb-true _ _ a)) (λ a.
      at-pick n (eqb (length s) 0) _ _ (λ _. off) (λ b.
      at-stop n (ltb (length s) 56) 1 _ (λ c. cut (ltb-false _ _ a) (eqb-false _ _ b) (ltb-true _ _ c)) (λ c.
      let there : There s = record { short = ltb-false _ _ a; whole = ltb-false _ _ c } in
      at-stop n (ltb (little_at 4 s 4) 56) 2 _ (λ d. small there (ltb-true _ _ d)) (λ d.
      at-stop n (ltb 1024 (little_at 4 s 4)) 3 _ (λ e. large there (ltb-true _ _ e)) (λ e.
      at-stop n (ltb (length s) (little_at 4 s 4)) 1 _ (λ f. past there (ltb-false _ _ d) (ltb-false _ _ e) (ltb-true _ _ f)) (λ f.
      let sized : Sized s = record { there = there; least = ltb-false _ _ d; most = ltb-false _ _ e; inside = ltb-false _ _ f } in
      at-stop n (ltb (little_at 4 s 8) 4096) 4 _ (λ g. low sized (ltb-true _ _ g)) (λ g.
      at-stop n (ltb (little_at 4 s 12) (little_at 4 s 8)) 5 _ (λ h. under sized (ltb-false _ _ g) (ltb-true _ _ h)) (λ _. off))))))))

  pub headers-16 : Given 16 [] (header_of s) (longest < length s)
  headers-16 = record {
    when = header-long s;
    only = header-ways 16 (λ h _. h) (λ _ _ _. off) (λ _ _. off) (λ _ _. off) (λ _ _ _ _. off) (λ _ _. off) (λ _ _ _. off);
  }

  pub headers-2 : Given 2 [] (header_of s) ((56 ≤ length s) × (length s ≤ longest) × ((fields_of s).header_size < 56))
  headers-2 = record {
    when = λ (w, a, h). header-small s (record { short = a; whole = w }) h;
    only = header-ways 2 (λ _. off) (λ _ _ _. off) (λ t h _. (t.whole, t.short, h)) (λ _ _. off) (λ _ _ _ _. off) (λ _ _. off) (λ _ _ _. off);
  }

  pub headers-3 : Given 3 [] (header_of s) ((56 ≤ length s) × (length s ≤ longest) × (1024 < (fields_of s).header_size))
  headers-3 = record {
    when = λ (w, a, h). header-large s (record { short = a; whole = w }) h;
    only = header-ways 3 (λ _. off) (λ _ _ _. off) (λ _ _. off) (λ t h _. (t.whole, t.short, h)) (λ _ _ _ _. off) (λ _ _. off) (λ _ _ _. off);
  }

  pub headers-4 : Given 4 [] (header_of s)
      ((56 ≤ length s) × (length s ≤ longest) × (56 ≤ (fields_of s).header_size) × ((fields_of s).header_size ≤ 1024) × ((fields_of s).header_size ≤ length s)
      × ((fields_of s).minimum_index < 4096))
  headers-4 = record {
    when = λ (w, a, l, m, i, h). minimum-low s (record { there = record { short = a; whole = w }; least = l; most = m; inside = i }) h;
    only = header-ways 4 (λ _. off) (λ _ _ _. off) (λ _ _. off) (λ _ _. off) (λ _ _ _ _. off) (λ z h _. (z.there.whole, z.there.short, z.least, z.most, z.inside, h)) (λ _ _ _. off);
  }

  pub headers-5 : Given 5 [] (header_of s)
      ((56 ≤ length s) × (length s ≤ longest) × (56 ≤ (fields_of s).header_size) × ((fields_of s).header_size ≤ 1024) × ((fields_of s).header_size ≤ length s)
      × (4096 ≤ (fields_of s).minimum_index) × ((fields_of s).maximum_index < (fields_of s).minimum_index))
  headers-5 = record {
    when = λ (w, a, l, m, i, b, h). maximum-low s (record { there = record { short = a; whole = w }; least = l; most = m; inside = i }) b h;
    only = header-ways 5 (λ _. off) (λ _ _ _. off) (λ _ _. off) (λ _ _. off) (λ _ _ _ _. off) (λ _ _. off) (λ z b h _. (z.there.whole, z.there.short, z.least, z.most, z.inside, b, h));
  }

  abbrev Cut : Type 0
  Cut = ((0 < length s) × (length s < 56))
      ⊎ ((56 ≤ length s) × (length s ≤ longest) × (56 ≤ (fields_of s).header_size) × ((fields_of s).header_size ≤ 1024) × (length s < (fields_of s).header_size))

  header-cuts : Cut → header_of s ≡ refused 1 []
  header-cuts (inl (a, h)) =
      let b : length s ≤ longest = omega arith in
      header-cut s b (λ e. let z : ◌≡◌ {A = ℕ} 0 0 = refl in omega arith) h
  header-cuts (inr (w, a, l, m, h)) = header-past s (record { short = a; whole = w }) l m h

  pub headers-1 : Given 1 [] (header_of s) Cut
  headers-1 = record {
    when = header-cuts;
    only = header-ways 1 (λ _. off) (λ _ b h _. inl (let w : 0 < length s = omega arith in (w, h))) (λ _ _. off) (λ _ _. off) (λ t l m h _. inr (t.whole, t.short, l, m, h)) (λ _ _. off) (λ _ _ _. off);
  }

  -- what starts with a header
  pub iterators : (tag : Stream) → refusal_of (iter_of tag s) ≡ refusal_of (header_of s)
  unfolding iter_of
  iterators tag = carried _ (header_of s)

  pub counts : refusal_of (len_of s) ≡ refusal_of (header_of s)
  unfolding len_of
  counts = carried _ (header_of s)

  pub empties : refusal_of (is_empty_of s) ≡ refusal_of (header_of s)
  unfolding is_empty_of
  empties = carried _ (len_of s) ∙ counts

-- ---- the iterator

module _ (s : List ℕ) (c : ItemIter) where
  next-ways : {P : Type 0} (n : ℕ)
      → (longest < length s → eqb 16 n ≡ true → P)
      → (length s ≤ longest → length s < c.at → eqb 1 n ≡ true → P)
      → (length s ≤ longest → c.at < length s → length s < c.at + 2 → eqb 1 n ≡ true → P)
      → (length s ≤ longest → c.at + 2 ≤ length s → length_at s c < 2 → eqb 6 n ≡ true → P)
      → (length s ≤ longest → c.at + 2 ≤ length s → 2 ≤ length_at s c → length s < c.at + 2 + length_at s c → eqb 1 n ≡ true → P)
      → (length s ≤ longest → 2 ≤ length_at s c → c.at + 2 + length_at s c ≤ length s → 4294967295 ≤ c.index → eqb 7 n ≡ true → P)
      → by n (next_of s c) ≡ true → P
  unfolding next_of
  next-ways n long past cut short payload used =
      at-stop n (ltb longest (length s)) 16 _ (λ a. long (ltb-true _ _ a)) (λ a.
      at-stop n (ltb (length s) c.at) 1 _ (λ b. past (ltb-false _ _ a) (ltb-true _ _ b)) (λ _.
      at-pick n (leb (length s) c.at) _ _ (λ _. off) (λ b.
      at-stop n (ltb (length s) (c.at + 2)) 1 _ (λ d. cut (ltb-false _ _ a) (leb-false _ _ b) (ltb-true _ _ d)) (λ d.
      at-stop n (ltb (length_at s c) 2) 6 _ (λ e. short (ltb-false _ _ a) (ltb-false _ _ d) (ltb-true _ _ e)) (λ e.
      at-stop n (ltb (length s) (c.at + 2 + length_at s c)) 1 _ (λ f. payload (ltb-false _ _ a) (ltb-false _ _ d) (ltb-false _ _ e) (ltb-true _ _ f)) (λ f.
      at-stop n (leb 4294967295 c.index) 7 _ (λ g. used (ltb-false _ _ a) (ltb-false _ _ e) (ltb-false _ _ f) (leb-true _ _ g)) (λ _. off)))))))

  pub nexts-16 : Given 16 [] (next_of s c) (longest < length s)
  nexts-16 = record {
    when = next-long s c;
    only = next-ways 16 (λ h _. h) (λ _ _. off) (λ _ _ _. off) (λ _ _ _. off) (λ _ _ _ _. off) (λ _ _ _ _. off);
  }

  pub nexts-6 : Given 6 [] (next_of s c) ((length s ≤ longest) × (c.at + 2 ≤ length s) × (length_at s c < 2))
  nexts-6 = record {
    when = λ (a, b, h). next-short s c a b h;
    only = next-ways 6 (λ _. off) (λ _ _. off) (λ _ _ _. off) (λ a b h _. (a, b, h)) (λ _ _ _ _. off) (λ _ _ _ _. off);
  }

  pub nexts-7 : Given 7 [] (next_of s c) ((length s ≤ longest) × (2 ≤ length_at s c) × (c.at + 2 + length_at s c ≤ length s) × (4294967295 ≤ c.index))
  nexts-7 = record {
    when = λ (a, b, d, h). next-used s c a b d h;
    only = next-ways 7 (λ _. off) (λ _ _. off) (λ _ _ _. off) (λ _ _ _. off) (λ _ _ _ _. off) (λ a b d h _. (a, b, d, h));
  }

  abbrev Passes : Type 0
  Passes = (length s < c.at)
      ⊎ ((c.at < length s) × (length s < c.at + 2))
      ⊎ ((c.at + 2 ≤ length s) × (2 ≤ length_at s c) × (length s < c.at + 2 + length_at s c))

  next-ends : length s ≤ longest → Passes → next_of s c ≡ refused 1 []
  next-ends a (inl h) = next_past s c a h
  next-ends a (inr (inl (b, h))) = next-length s c a b h
  next-ends a (inr (inr (b, d, h))) = next-payload s c a b d h

  pub nexts-1 : Given 1 [] (next_of s c) ((length s ≤ longest) × Passes)
  nexts-1 = record {
    when = λ (a, h). next-ends a h;
    only = next-ways 1 (λ _. off) (λ a h _. (a, inl h)) (λ a b h _. (a, inr (inl (b, h)))) (λ _ _ _. off) (λ a b d h _. (a, inr (inr (b, d, h)))) (λ _ _ _ _. off);
  }

-- ---- views

module _ (t p : List ℕ) where
  -- 16 of an entry that takes both streams; then its own
  pub short-ways : {A P : Type 0} (n : ℕ) (a : Answer A) → ((longest < length t) ⊎ (longest < length p) → eqb 16 n ≡ true → P) → (Short t p → by n a ≡ true → P) → by n (short_of t p a) ≡ true → P
  short-ways n a long own =
      at-stop n (ltb longest (length t)) 16 _ (λ b. long (inl (ltb-true _ _ b))) (λ b.
      at-stop n (ltb longest (length p)) 16 a (λ c. long (inr (ltb-true _ _ c))) (λ c. own (ltb-false _ _ b, ltb-false _ _ c)))

  over-long : {A : Type 0} (a : Answer A) → (longest < length t) ⊎ (longest < length p) → short_of t p a ≡ refused 16 []
  over-long a (inl h) = simp (lt-ltb _ _ h)
  over-long a (inr h) = go (ltb longest (length t))
    where
      go : (b : Bool) → stop b 16 (stop (ltb longest (length p)) 16 a) ≡ refused 16 []
      go true = refl
      go false = simp (lt-ltb _ _ h)

  pub short-is : {A : Type 0} (a : Answer A) → Short t p → short_of t p a ≡ a
  short-is a (x, y) = simp (le-ltb _ _ x, le-ltb _ _ y)

  pub view-long : {A : Type 0} (a : Answer A) → by 16 a ≡ false → Given 16 [] (short_of t p a) ((longest < length t) ⊎ (longest < length p))
  view-long a own = record {
    when = over-long a;
    only = short-ways 16 a (λ h _. h) (λ _ e. off (sym own ∙ e));
  }

  not-long : (e : Entry) → by 16 (entry_part t p e) ≡ false
  unfolding part_of
  not-long (entry.Record i) = go (ltb (length (stream_named t p i.index)) (i.place + i.length))
    where
      go : (b : Bool) → by {A = Part} 16 (stop b 1 (answered (record { place = i.place; length = i.length }))) ≡ false
      go true = refl
      go false = refl
  not-long (entry.Marker i) = refl

  pub views-16 : (e : Entry) → Given 16 [] (view_of t p e) ((longest < length t) ⊎ (longest < length p))
  views-16 e = view-long (entry_part t p e) (not-long e)

  pub views-8 : (i : ItemIndex) → Given 8 (index_number i ∷ []) (view_of t p (entry.Marker i)) (Short t p)
  views-8 i = record {
    when = short-is (refused 8 (index_number i ∷ []));
    only = short-ways 8 (refused 8 (index_number i ∷ [])) (λ _. off) (λ h _. h);
  }

  pub views-1 : (i : Item) → Given 1 [] (view_of t p (entry.Record i)) (Short t p × (length (stream_named t p i.index) < i.place + i.length))
  unfolding part_of
  views-1 i = record {
    when = λ (h, b). short-is _ h ∙ simp (lt-ltb _ _ b);
    only = short-ways 1 _ (λ _. off) (λ h. at-stop 1 (ltb (length (stream_named t p i.index)) (i.place + i.length)) 1 _ (λ b _. (h, ltb-true _ _ b)) (λ _. off));
  }

  kind-ends : (i : Item) → (length (stream_named t p i.index) < i.place + i.length) ⊎ (i.length < 2) → kind_at (stream_named t p i.index) i.place i.length ≡ refused 1 []
  unfolding kind_at
  kind-ends i (inl h) = simp (lt-ltb _ _ h)
  kind-ends i (inr h) = go (ltb (length (stream_named t p i.index)) (i.place + i.length))
    where
      go : (b : Bool) → stop b 1 (stop (ltb i.length 2) 1 (answered (little_at 2 (stream_named t p i.index) i.place))) ≡ refused 1 []
      go true = refl
      go false = simp (lt-ltb _ _ h)

  pub raw-kinds-1 : (i : Item) → Given 1 [] (raw_kind_of t p (entry.Record i)) (Short t p × ((length (stream_named t p i.index) < i.place + i.length) ⊎ (i.length < 2)))
  unfolding kind_at
  raw-kinds-1 i = record {
    when = λ (h, b). short-is _ h ∙ kind-ends i b;
    only = short-ways 1 _ (λ _. off) (λ h.
        at-stop 1 (ltb (length (stream_named t p i.index)) (i.place + i.length)) 1 _ (λ b _. (h, inl (ltb-true _ _ b))) (λ _.
        at-stop 1 (ltb i.length 2) 1 _ (λ b _. (h, inr (ltb-true _ _ b))) (λ _. off)));
  }

  kind-not-long : (e : Entry) → by 16 (entry_kind t p e) ≡ false
  unfolding kind_at
  kind-not-long (entry.Record i) = go (ltb (length (stream_named t p i.index)) (i.place + i.length)) (ltb i.length 2)
    where
      go : (a b : Bool) → by 16 (stop a 1 (stop b 1 (answered (little_at 2 (stream_named t p i.index) i.place)))) ≡ false
      go true b = refl
      go false true = refl
      go false false = refl
  kind-not-long (entry.Marker i) = refl

  pub raw-kinds-16 : (e : Entry) → Given 16 [] (raw_kind_of t p e) ((longest < length t) ⊎ (longest < length p))
  raw-kinds-16 e = view-long (entry_kind t p e) (kind-not-long e)

-- ---- the finder

module _ (shift : ℕ) (s t : List ℕ) where
  pub creations : (n : ℕ) (d : List ℕ) → header_of s ≡ refused n d → create_by shift s t ≡ refused n d
  creations n d e = create-is shift s t (refused n d) e

  -- the ways in which a creation refuses whose header is accepted
  begun-ways : {P : Type 0} (n : ℕ) (h : Header)
      → (6 < shift → eqb 26 n ≡ true → P)
      → (shift ≤ 6 → h.minimum_index < h.maximum_index → length t ≤ 0 → eqb 13 n ≡ true → P)
      → by n (begun_by shift t h) ≡ true → P
  unfolding begun_by
  begun-ways n h large full =
      at-stop n (ltb 6 shift) 26 _ (λ a. large (ltb-true _ _ a)) (λ a.
      at-pick n (ltb h.minimum_index h.maximum_index) _ _ (λ b.
      at-stop n (leb (length t) 0) 13 _ (λ c. full (ltb-false _ _ a) (ltb-true _ _ b) (leb-true _ _ c)) (λ _. off)) (λ _. off))

  module _ (h : Header) (e : header_of s ≡ answered h) where
    begun-by : (n : ℕ) → by n (create_by shift s t) ≡ true → by n (begun_by shift t h) ≡ true
    begun-by n y = ap (by n) (sym (create-is shift s t (answered h) e)) ∙ y

    pub creations-13 : Given 13 [] (create_by shift s t) ((shift ≤ 6) × (h.minimum_index < h.maximum_index) × (length t ≡ 0))
    creations-13 = record {
      when = λ (z, a, b). create-is shift s t (answered h) e ∙ begun-full shift t h z a (let w : length t ≤ 0 = omega arith in w);
      only = λ y. begun-ways 13 h (λ _. off) (λ z a b _. let w : length t ≡ 0 = omega arith in (z, a, w)) (begun-by 13 y);
    }

    pub creations-26 : Given 26 [] (create_by shift s t) (6 < shift)
    creations-26 = record {
      when = λ a. create-is shift s t (answered h) e ∙ begun-shift shift t h a;
      only = λ y. begun-ways 26 h (λ a _. a) (λ _ _ _. off) (begun-by 26 y);
    }

module _ (σ : State) (c : ItemIter) where
  update-ways : {P : Type 0} (n : ℕ)
      → (longest < c.at → eqb 16 n ≡ true → P)
      → (c.at ≤ longest → 6 < σ.finder.shift → eqb 26 n ≡ true → P)
      → (c.at ≤ longest → σ.finder.shift ≤ 6 → length σ.table < σ.finder.held → eqb 13 n ≡ true → P)
      → (c.at ≤ longest → σ.finder.shift ≤ 6 → σ.finder.held ≤ length σ.table → c.index < σ.finder.minimum_index → eqb 14 n ≡ true → P)
      → (Open σ c → due σ.finder c.index ≡ true → length σ.table ≤ σ.finder.held → eqb 13 n ≡ true → P)
      → by n (update_of σ c) ≡ true → P
  unfolding update_of
  update-ways n long large claims foreign full =
      at-stop n (ltb longest c.at) 16 _ (λ a. long (ltb-true _ _ a)) (λ a.
      at-stop n (ltb 6 σ.finder.shift) 26 _ (λ z. large (ltb-false _ _ a) (ltb-true _ _ z)) (λ z.
      at-stop n (ltb (length σ.table) σ.finder.held) 13 _ (λ b. claims (ltb-false _ _ a) (ltb-false _ _ z) (ltb-true _ _ b)) (λ b.
      at-stop n (ltb c.index σ.finder.minimum_index) 14 _ (λ d. foreign (ltb-false _ _ a) (ltb-false _ _ z) (ltb-false _ _ b) (ltb-true _ _ d)) (λ d.
      let free : Open σ c = record { at = ltb-false _ _ a; shift = ltb-false _ _ z; held = ltb-false _ _ b; index = ltb-false _ _ d } in
      at-pick n (due σ.finder c.index) _ _ (λ e.
      at-stop n (leb (length σ.table) σ.finder.held) 13 _ (λ f. full free e (leb-true _ _ f)) (λ _. off)) (λ _. off)))))

  pub updates-16 : Given 16 [] (update_of σ c) (longest < c.at)
  updates-16 = record {
    when = update-long σ c;
    only = update-ways 16 (λ h _. h) (λ _ _. off) (λ _ _ _. off) (λ _ _ _ _. off) (λ _ _ _. off);
  }

  pub updates-26 : Given 26 [] (update_of σ c) ((c.at ≤ longest) × (6 < σ.finder.shift))
  updates-26 = record {
    when = λ (a, h). update-shift σ c a h;
    only = update-ways 26 (λ _. off) (λ a h _. (a, h)) (λ _ _ _. off) (λ _ _ _ _. off) (λ _ _ _. off);
  }

  pub updates-14 : Given 14 [] (update_of σ c) ((c.at ≤ longest) × (σ.finder.shift ≤ 6) × (σ.finder.held ≤ length σ.table) × (c.index < σ.finder.minimum_index))
  updates-14 = record {
    when = λ (a, z, b, h). update-foreign σ c a z b h;
    only = update-ways 14 (λ _. off) (λ _ _. off) (λ _ _ _. off) (λ a z b h _. (a, z, b, h)) (λ _ _ _. off);
  }

  due-is : due σ.finder c.index ≡ true → Due σ c
  due-is = go (eqb (links_skipped σ c.index) 0) (eqb (block σ c.index) σ.finder.held) refl refl
    where
      go : (x y : Bool) → eqb (links_skipped σ c.index) 0 ≡ x → eqb (block σ c.index) σ.finder.held ≡ y → both x y ≡ true → Due σ c
      go true true d e h = (eqb-true _ _ d, eqb-true _ _ e)
      go true false d e h = off h
      go false y d e h = off h

  abbrev Full : Type 0
  Full = (length σ.table < σ.finder.held)
      ⊎ ((σ.finder.held ≡ length σ.table) × (σ.finder.minimum_index ≤ c.index) × Due σ c)

  update-fills : c.at ≤ longest → σ.finder.shift ≤ 6 → Full → update_of σ c ≡ refused 13 []
  update-fills a z (inl h) = update-claims σ c a z h
  update-fills a z (inr (e, i, (d, q))) =
      let l : σ.finder.held ≤ length σ.table = omega arith in
      let r : length σ.table ≤ σ.finder.held = omega arith in
      update-full σ c (record { at = a; shift = z; held = l; index = i }) (due-yes σ.finder c.index _ refl d q) r

  pub updates-13 : Given 13 [] (update_of σ c) ((c.at ≤ longest) × (σ.finder.shift ≤ 6) × Full)
  updates-13 = record {
    when = λ (a, z, h). update-fills a z h;
    only = update-ways 13 (λ _. off) (λ _ _. off) (λ a z h _. (a, z, inl h)) (λ _ _ _ _. off) (λ o d r _.
        let l = o.held in
        let e : σ.finder.held ≡ length σ.table = omega arith in
        (o.at, o.shift, inr (e, o.index, due-is d)));
  }

module _ (s : List ℕ) (σ : State) (i : ItemIndex) where
  find-ways : {P : Type 0} (n : ℕ)
      → (longest < length s → eqb 16 n ≡ true → P)
      → (length s ≤ longest → 6 < σ.finder.shift → eqb 26 n ≡ true → P)
      → (length s ≤ longest → σ.finder.shift ≤ 6 → length σ.table < σ.finder.held → eqb 13 n ≡ true → P)
      → (Usable s σ → σ.finder.minimum_index ≤ index_number i → σ.finder.maximum_index < index_number i → eqb 8 n ≡ true → P)
      → (Usable s σ → InBounds σ (index_number i) → σ.finder.held ≤ block σ (index_number i) → eqb 9 n ≡ true → P)
      → (Usable s σ → InBounds σ (index_number i) → block σ (index_number i) < σ.finder.held → by n (landed i (links_skipped σ (index_number i)) (walked s σ (index_number i))) ≡ true → P)
      → by n (find_of s σ i) ≡ true → P
  unfolding look_of
  find-ways n long large claims above unheld walks =
      at-stop n (ltb longest (length s)) 16 _ (λ a. long (ltb-true _ _ a)) (λ a.
      at-stop n (ltb 6 σ.finder.shift) 26 _ (λ z. large (ltb-false _ _ a) (ltb-true _ _ z)) (λ z.
      at-stop n (ltb (length σ.table) σ.finder.held) 13 _ (λ b. claims (ltb-false _ _ a) (ltb-false _ _ z) (ltb-true _ _ b)) (λ b.
      let good : Usable s σ = (ltb-false _ _ a, ltb-false _ _ z, ltb-false _ _ b) in
      at-pick n (ltb (index_number i) σ.finder.minimum_index) _ _ (λ _. off) (λ c.
      at-pick n (ltb σ.finder.maximum_index (index_number i)) _ _ (λ d. above good (ltb-false _ _ c) (ltb-true _ _ d)) (λ d.
      at-pick n (leb σ.finder.held (block σ (index_number i))) _ _ (λ e. unheld good (ltb-false _ _ c, ltb-false _ _ d) (leb-true _ _ e)) (λ e.
      walks good (ltb-false _ _ c, ltb-false _ _ d) (leb-false _ _ e)))))))

  -- a walk along the links gives 1 alone
  landed-not : (n : ℕ) → eqb 1 n ≡ false → (h : Hit) → by n (landed i (links_skipped σ (index_number i)) h) ≡ false
  landed-not n e (Landed p l) = refl
  landed-not n e (Missed j) = e

  ready : Usable s σ → Ready s σ
  ready (a, z, b) = record { short = a; shift = z; held = b }

  pub finds-16 : Given 16 [] (find_of s σ i) (longest < length s)
  finds-16 = record {
    when = find-long s σ i (index_number i);
    only = find-ways 16 (λ h _. h) (λ _ _. off) (λ _ _ _. off) (λ _ _ _. off) (λ _ _ _. off) (λ _ _ _ e. off (sym (landed-not 16 refl (walked s σ (index_number i))) ∙ e));
  }

  pub finds-26 : Given 26 [] (find_of s σ i) ((length s ≤ longest) × (6 < σ.finder.shift))
  finds-26 = record {
    when = λ (a, h). find-shift s σ i (index_number i) a h;
    only = find-ways 26 (λ _. off) (λ a h _. (a, h)) (λ _ _ _. off) (λ _ _ _. off) (λ _ _ _. off) (λ _ _ _ e. off (sym (landed-not 26 refl (walked s σ (index_number i))) ∙ e));
  }

  pub finds-13 : Given 13 [] (find_of s σ i) ((length s ≤ longest) × (σ.finder.shift ≤ 6) × (length σ.table < σ.finder.held))
  finds-13 = record {
    when = λ (a, z, h). find-claims s σ i (index_number i) a z h;
    only = find-ways 13 (λ _. off) (λ _ _. off) (λ a z h _. (a, z, h)) (λ _ _ _. off) (λ _ _ _. off) (λ _ _ _ e. off (sym (landed-not 13 refl (walked s σ (index_number i))) ∙ e));
  }

  pub finds-8 : Given 8 (index_number i ∷ []) (find_of s σ i) (Usable s σ × (σ.finder.minimum_index ≤ index_number i) × (σ.finder.maximum_index < index_number i))
  finds-8 = record {
    when = λ (g, l, h). find-above s σ i (index_number i) (ready g) l h;
    only = find-ways 8 (λ _. off) (λ _ _. off) (λ _ _ _. off) (λ g l h _. (g, l, h)) (λ _ _ _. off) (λ _ _ _ e. off (sym (landed-not 8 refl (walked s σ (index_number i))) ∙ e));
  }

  pub finds-9 : Given 9 (index_number i ∷ max_index_of σ.finder ∷ []) (find_of s σ i) (Usable s σ × InBounds σ (index_number i) × (σ.finder.held ≤ block σ (index_number i)))
  finds-9 = record {
    when = λ (g, (l, u), h). find-unheld s σ i (index_number i) (ready g) l u h;
    only = find-ways 9 (λ _. off) (λ _ _. off) (λ _ _ _. off) (λ _ _ _. off) (λ g n h _. (g, n, h)) (λ _ _ _ e. off (sym (landed-not 9 refl (walked s σ (index_number i))) ∙ e));
  }

  breaks : (h : Hit) → LinkBreaks h → landed i (links_skipped σ (index_number i)) h ≡ refused 1 (broke_after h ∷ [])
  breaks (Landed _ _) b = elim b [ ]
  breaks (Missed j) b = refl

  broke : (h : Hit) → by 1 (landed i (links_skipped σ (index_number i)) h) ≡ true → LinkBreaks h
  broke (Landed p l) e = off e
  broke (Missed j) e = tt

  pub finds-1 : Given 1 (broke_after (walked s σ (index_number i)) ∷ []) (find_of s σ i)
      (Usable s σ × InBounds σ (index_number i) × (block σ (index_number i) < σ.finder.held) × LinkBreaks (walked s σ (index_number i)))
  finds-1 = record {
    when = λ (g, (l, u), h, b). find-held s σ i (index_number i) _ refl (ready g) l u h ∙ breaks (walked s σ (index_number i)) b;
    only = find-ways 1 (λ _. off) (λ _ _. off) (λ _ _ _. off) (λ _ _ _. off) (λ _ _ _. off) (λ g n h e. (g, n, h, broke (walked s σ (index_number i)) e));
  }
