-- A stream's entries are refused by each number exactly when document 01 says. Assumes nothing.
use Rattle.std.specs.Prelude.{None}
use Prim.Native.Nat.{ℕ, ◌+◌, ◌≤◌, ◌<◌}
use mathlib.Core.Bool.{Bool, true, false}
use mathlib.Core.Path.{◌≡◌, refl, sym, ap, ◌∙◌}
use mathlib.Core.Logic.{◌⊎◌, inl, inr}
use mathlib.Core.List.{List, [], ◌∷◌}
use native.Mathlib.Omega.{arith}
use lib.ListN.{length}
use lib.Dec.{eqb, ltb}
use borrow.Author.Tests.{ltb-true, ltb-false, lt-ltb, le-ltb}
use Rattle.answer.specs.Answer.{Answer, answered, refused, pick, stop, then}
use Rattle.answer.specs.Tables.{find, among}
use Rattle.field.specs.Fields.{little_at}
use Rattle.field.specs.Indices.{index_number}
use Rattle.field_text.specs.Texts.{Part}
use Rattle.field.specs.declared.index.ItemIndex.{ItemIndex}
use Rattle.field.specs.declared.index.ItemIndex.TheVariants as index
use Rattle.word_primitive.specs.Primitive.{primitive_of}
use Rattle.word_primitive.specs.declared.PrimitiveType.{PrimitiveType}
use Rattle.stream_item.specs.Items.{index_of}
use Rattle.stream_item.specs.Iterator.{done, next_of}
use Rattle.stream_item.specs.declared.Item.{Item}
use Rattle.stream_item.specs.declared.Entry.{Entry}
use Rattle.stream_item.specs.declared.Entry.TheVariants as entry
use Rattle.stream_item.specs.declared.iter.ItemIter.{ItemIter}
use Rattle.stream_view.specs.Views.{part_of, stream_named, short_of, view_of}
use Rattle.stream_finder.specs.Finder.{State}
use Rattle.stream_index.specs.Walk.{over, updating, turn_of}
use Rattle.record_layout.specs.Fields.{Shown}
use Rattle.record_layout.specs.Layouts.{Table, type_leaves, id_leaves, record_of}
use Rattle.record_parse.specs.Record.{Parsed, primitive, payload_at, numbered_of, type_bytes, id_bytes, type_item, type_marker, item_of, marker_of, entry_of as parsed_of, parse_of}
use Rattle.section_read.specs.Readers.{sorted_of, read_of}
use Rattle.claim_promises.specs.Given.{by, Given}
use Rattle.claim_promises.specs.ExactlyWhen.{Short}
use Rattle.claim_promises.specs.RecordsWhen.{CutField, BadField, FailingField, AtLeaf}
use Rattle.claim_promises.specs.EntriesWhen.{OfNumber, NoPrimitive, leaves_for, payload, Whole, EntriesWhen}
use Rattle.claim_promises.proofs.Given.{off, at-stop, at-pick, at-then, not-by, denied, given-then}
use Rattle.claim_promises.proofs.StreamRefuses.{primitive-refuses, type-refuses, id-refuses}
use Rattle.claim_promises.proofs.GivenStreams as streams
use Rattle.claim_promises.proofs.GivenReading as reading
use Rattle.claim_promises.proofs.GivenRecords as records

-- after 16, the entry's own
short-given : {A P : Type 0} {n : ℕ} {d : List ℕ} (t p : List ℕ) (a : Answer A) → eqb 16 n ≡ false → Given n d a P → Given n d (short_of t p a) (Short t p × P)
short-given {n = n} t p a h g = record {
  when = λ (x, y). streams.short-is t p a x ∙ g.when y;
  only = streams.short-ways t p n a (λ _ e. off (sym h ∙ e)) (λ x e. (x, g.only e));
}

-- and where that is never by n, the entry is not
short-never : {A : Type 0} (n : ℕ) {d : List ℕ} (t p : List ℕ) (a : Answer A) → eqb 16 n ≡ false → by n a ≡ false → Given n d (short_of t p a) ⊥
short-never n t p a h none-by = record { when = λ x. absurd x; only = streams.short-ways t p n a (λ _ e. off (sym h ∙ e)) (λ x e. off (sym none-by ∙ e)) }

-- the record in n bytes of s from place p
module _ (table : Table) (s : List ℕ) (p m : ℕ) (wrap : List Shown → Parsed) where
  abbrev in_bytes : Answer Parsed
  in_bytes = stop (ltb (length s) (p + m)) 1 (then (record_of table (payload_at s p m)) (λ vs. answered (wrap vs)))

  bytes-1 : {R : Type 0} → Given 1 [] (record_of table (payload_at s p m)) R → Given 1 [] in_bytes ((length s < p + m) ⊎ ((p + m ≤ length s) × R))
  bytes-1 {R = R} g = record {
    when = to;
    only = at-stop 1 (ltb (length s) (p + m)) 1 _ (λ b _. inl (ltb-true _ _ b)) (λ b. at-then 1 (record_of table (payload_at s p m)) _ (λ x. inr (ltb-false _ _ b, g.only x)) (λ _ _. off));
  }
    where
      to : (length s < p + m) ⊎ ((p + m ≤ length s) × R) → in_bytes ≡ refused 1 []
      to (inl h) = rw (lt-ltb _ _ h) refl
      to (inr (l, x)) = rw (le-ltb _ _ l, g.when x) refl

  bytes-given : {n : ℕ} {d : List ℕ} {R : Type 0} → eqb 1 n ≡ false → Given n d (record_of table (payload_at s p m)) R → Given n d in_bytes ((p + m ≤ length s) × R)
  bytes-given {n = n} h g = record {
    when = λ (l, x). rw (le-ltb _ _ l, g.when x) refl;
    only = at-stop n (ltb (length s) (p + m)) 1 _ (λ _ e. off (sym h ∙ e)) (λ b. at-then n (record_of table (payload_at s p m)) _ (λ x. (ltb-false _ _ b, g.only x)) (λ _ _. off));
  }

  bytes-not-8 : by 8 (record_of table (payload_at s p m)) ≡ false → by 8 in_bytes ≡ false
  bytes-not-8 h = go (ltb (length s) (p + m)) (record_of table (payload_at s p m)) h
    where
      go : (b : Bool) (a : Answer (List Shown)) → by 8 a ≡ false → by 8 (stop b 1 (then a (λ vs. answered (wrap vs)))) ≡ false
      go true a h = refl
      go false (answered v) h = refl
      go false (refused k e) h = h

-- a primitive is refused by 8 only
numbered-not : {P : Type 0} (n i : ℕ) → among n (8 ∷ []) ≡ false → by n (numbered_of i) ≡ true → P
numbered-not n i h = at-then n (primitive_of i) _ (denied n h (primitive-refuses i)) (λ _ _. off)

-- what is not a primitive
unnumbered : {P : Type 0} {n : ℕ} {d : List ℕ} (i : ℕ) (a : Answer Parsed) → among n (8 ∷ []) ≡ false → Given n d a P → Given n d (pick (ltb i 0x1000) (numbered_of i) a) ((i < 0x1000 → ⊥) × P)
unnumbered {P = P} {n = n} {d = d} i a h g = record {
  when = λ (u, x). to (ltb i 0x1000) refl u x;
  only = at-pick n (ltb i 0x1000) _ _ (λ _. numbered-not n i h) (λ b x. ((λ l. let m = ltb-false i 0x1000 b in omega arith), g.only x));
}
  where
    to : (b : Bool) → ltb i 0x1000 ≡ b → (i < 0x1000 → ⊥) → P → pick b (numbered_of i) a ≡ refused n d
    to true b u x = absurd (u (ltb-true _ _ b))
    to false b u x = g.when x

numbered-8 : (i : ℕ) (a : Answer Parsed) → by 8 a ≡ false → Given 8 (i ∷ []) (pick (ltb i 0x1000) (numbered_of i) a) ((i < 0x1000) × NoPrimitive i)
numbered-8 i a h =
    let g : Given 8 (i ∷ []) (numbered_of i) (NoPrimitive i) = given-then _ (reading.primitives-8 i) (λ t. refl) in
    record {
      when = λ (l, x). rw (lt-ltb _ _ l) (g.when x);
      only = at-pick 8 (ltb i 0x1000) _ _ (λ b x. (ltb-true _ _ b, g.only x)) (λ _ x. off (sym h ∙ x));
    }

module _ (t p : List ℕ) where
  -- items: by any number but 1, 8 and 16
  item-given : {n : ℕ} {d : List ℕ} {R : Type 0} (ix : ItemIndex) (at m : ℕ) → eqb 1 n ≡ false → among n (8 ∷ []) ≡ false → Given n d (record_of (leaves_for ix) (payload_at (stream_named t p ix) at m)) R
      → Given n d (item_of t p ix at m) (((OfNumber ix → ⊥) × (at + m ≤ length (stream_named t p ix))) × R)
  unfolding type_item type_bytes id_bytes
  item-given (index.Types i) at m one eight g =
      let h = unnumbered i.0 _ eight (bytes-given type_leaves t at m _ one g) in
      record { when = λ ((u, l), x). h.when (u, (l, x)); only = λ e. let y = h.only e in ((y.0, y.1.0), y.1.1) }
  item-given (index.Ids i) at m one eight g =
      let h = bytes-given id_leaves p at m _ one g in
      record { when = λ ((u, l), x). h.when (l, x); only = λ e. let y = h.only e in (((λ z. z), y.0), y.1) }

  item-1 : {R : Type 0} (ix : ItemIndex) (at m : ℕ) → Given 1 [] (record_of (leaves_for ix) (payload_at (stream_named t p ix) at m)) R
      → Given 1 [] (item_of t p ix at m) (((OfNumber ix → ⊥) × (length (stream_named t p ix) < at + m)) ⊎ (((OfNumber ix → ⊥) × (at + m ≤ length (stream_named t p ix))) × R))
  unfolding type_item type_bytes id_bytes among
  item-1 {R = R} (index.Types i) at m g = record { when = to; only = λ e. back (h.only e) }
    where
      h : Given 1 [] (item_of t p (index.Types i) at m) ((i.0 < 0x1000 → ⊥) × ((length t < at + m) ⊎ ((at + m ≤ length t) × R)))
      h = unnumbered {n = 1} i.0 _ refl (bytes-1 type_leaves t at m _ g)

      to : ((i.0 < 0x1000 → ⊥) × (length t < at + m)) ⊎ (((i.0 < 0x1000 → ⊥) × (at + m ≤ length t)) × R) → item_of t p (index.Types i) at m ≡ refused 1 []
      to (inl (u, l)) = h.when (u, inl l)
      to (inr ((u, l), x)) = h.when (u, inr (l, x))

      back : (i.0 < 0x1000 → ⊥) × ((length t < at + m) ⊎ ((at + m ≤ length t) × R)) → ((i.0 < 0x1000 → ⊥) × (length t < at + m)) ⊎ (((i.0 < 0x1000 → ⊥) × (at + m ≤ length t)) × R)
      back (u, inl l) = inl (u, l)
      back (u, inr (l, x)) = inr ((u, l), x)
  item-1 {R = R} (index.Ids i) at m g = record { when = to; only = λ e. back ((bytes-1 id_leaves p at m _ g).only e) }
    where
      to : ((⊥ → ⊥) × (length p < at + m)) ⊎ (((⊥ → ⊥) × (at + m ≤ length p)) × R) → item_of t p (index.Ids i) at m ≡ refused 1 []
      to (inl (u, l)) = (bytes-1 id_leaves p at m _ g).when (inl l)
      to (inr ((u, l), x)) = (bytes-1 id_leaves p at m _ g).when (inr (l, x))

      back : (length p < at + m) ⊎ ((at + m ≤ length p) × R) → ((⊥ → ⊥) × (length p < at + m)) ⊎ (((⊥ → ⊥) × (at + m ≤ length p)) × R)
      back (inl l) = inl ((λ z. z), l)
      back (inr (l, x)) = inr (((λ z. z), l), x)

  items-1 : (i : Item) → Given 1 [] (parse_of t p (entry.Record i))
      (Short t p
      × (((OfNumber i.index → ⊥) × (length (stream_named t p i.index) < i.place + i.length))
      ⊎ (Whole t p i × ((length (payload t p i) < 2) ⊎ AtLeaf CutField (leaves_for i.index) (payload t p i) 0))))
  unfolding parse_of
  items-1 i = short-given t p _ refl (item-1 i.index i.place i.length (records.records-1 (leaves_for i.index) (payload t p i)))

  items-10 : (i : Item) → Given 10 (little_at 2 (payload t p i) 0 ∷ []) (parse_of t p (entry.Record i))
      (Short t p × (Whole t p i × ((2 ≤ length (payload t p i)) × (find (little_at 2 (payload t p i) 0) (leaves_for i.index) ≡ None))))
  unfolding parse_of among
  items-10 i = short-given t p _ refl (item-given i.index i.place i.length refl refl (reading.records-10 (leaves_for i.index) (payload t p i)))

  items-11 : (i : Item) → Given 11 [] (parse_of t p (entry.Record i)) (Short t p × (Whole t p i × AtLeaf BadField (leaves_for i.index) (payload t p i) 0))
  unfolding parse_of among
  items-11 i = short-given t p _ refl (item-given i.index i.place i.length refl refl (records.records-11 (leaves_for i.index) (payload t p i)))

  items-12 : (i : Item) → Given 12 [] (parse_of t p (entry.Record i)) (Short t p × (Whole t p i × AtLeaf FailingField (leaves_for i.index) (payload t p i) 0))
  unfolding parse_of among
  items-12 i = short-given t p _ refl (item-given i.index i.place i.length refl refl (records.records-12 (leaves_for i.index) (payload t p i)))

  parsed-8 : (e : Entry) → Given 8 (index_number (index_of e) ∷ []) (parsed_of t p e) (OfNumber (index_of e) × NoPrimitive (index_number (index_of e)))
  unfolding type_item type_marker type_bytes id_bytes among
  parsed-8 (entry.Record i) = item i.index i.place i.length
    where
      item : (ix : ItemIndex) (at m : ℕ) → Given 8 (index_number ix ∷ []) (item_of t p ix at m) (OfNumber ix × NoPrimitive (index_number ix))
      item (index.Types j) at m = numbered-8 j.0 _ (bytes-not-8 type_leaves t at m _ (not-by 8 refl (type-refuses (payload_at t at m))))
      item (index.Ids j) at m = record {
        when = λ (x, _). absurd x;
        only = λ e. off (sym (bytes-not-8 id_leaves p at m _ (not-by 8 refl (id-refuses (payload_at p at m)))) ∙ e);
      }
  parsed-8 (entry.Marker i) = marker i
    where
      marker : (ix : ItemIndex) → Given 8 (index_number ix ∷ []) (marker_of ix) (OfNumber ix × NoPrimitive (index_number ix))
      marker (index.Types j) = numbered-8 j.0 (refused 10 (0xffff ∷ [])) refl
      marker (index.Ids j) = record { when = λ (x, _). absurd x; only = off }

  entries-8 : (e : Entry) → Given 8 (index_number (index_of e) ∷ []) (parse_of t p e) (Short t p × (OfNumber (index_of e) × NoPrimitive (index_number (index_of e))))
  unfolding parse_of
  entries-8 e = short-given t p (parsed_of t p e) refl (parsed-8 e)

  marker-10 : (ix : ItemIndex) → Given 10 (0xffff ∷ []) (marker_of ix) (OfNumber ix → ⊥)
  unfolding type_marker among
  marker-10 (index.Types j) =
      let g : Given 10 (0xffff ∷ []) {A = Parsed} (refused 10 (0xffff ∷ [])) (Unit {0}) = record { when = λ _. refl; only = λ _. tt } in
      let h = unnumbered j.0 (refused 10 (0xffff ∷ [])) refl g in
      record { when = λ u. h.when (u, tt); only = λ e. (h.only e).0 }
  marker-10 (index.Ids j) = record { when = λ _. refl; only = λ _ x. x }

  markers-10 : (i : ItemIndex) → Given 10 (0xffff ∷ []) (parse_of t p (entry.Marker i)) (Short t p × (OfNumber i → ⊥))
  unfolding parse_of
  markers-10 i = short-given t p (marker_of i) refl (marker-10 i)

  marker-not : (n : ℕ) → eqb 10 n ≡ false → among n (8 ∷ []) ≡ false → (ix : ItemIndex) → by n (marker_of ix) ≡ false
  unfolding type_marker
  marker-not n ten eight (index.Types j) = go (ltb j.0 0x1000)
    where
      number : (a : Answer PrimitiveType) → by n a ≡ false → by n (then a (λ x. answered (primitive x))) ≡ false
      number (answered x) h = refl
      number (refused k e) h = h

      go : (b : Bool) → by n (pick b (numbered_of j.0) (refused 10 (0xffff ∷ []))) ≡ false
      go true = number (primitive_of j.0) (not-by n eight (primitive-refuses j.0))
      go false = ten
  marker-not n ten eight (index.Ids j) = ten

  marker-never : (n : ℕ) → eqb 16 n ≡ false → eqb 10 n ≡ false → among n (8 ∷ []) ≡ false → (i : ItemIndex) → Given n [] (parse_of t p (entry.Marker i)) ⊥
  unfolding parse_of
  marker-never n long ten eight i = short-never n t p (marker_of i) long (marker-not n ten eight i)

  item-views-8 : (i : Item) → Given 8 (index_number i.index ∷ []) (view_of t p (entry.Record i)) ⊥
  unfolding part_of
  item-views-8 i = short-never 8 t p _ refl (go (ltb (length (stream_named t p i.index)) (i.place + i.length)))
    where
      go : (b : Bool) → by {A = Part} 8 (stop b 1 (answered (record { place = i.place; length = i.length }))) ≡ false
      go true = refl
      go false = refl

turns-done : (s : List ℕ) (σ : State) (c : ItemIter) → next_of s c ≡ answered done → turn_of s σ c ≡ answered over
unfolding turn_of
turns-done s σ c e = ap (λ x. then x (updating σ)) e

section-entries : (s : List ℕ) (e : Entry) → read_of s e ≡ parse_of s s (sorted_of s e)
unfolding read_of
section-entries s e = refl

pub entries-when : EntriesWhen
unfolding among
entries-when = record {
  items_1 = items-1;
  items_10 = items-10;
  items_11 = items-11;
  items_12 = items-12;
  entries_8 = entries-8;
  markers_10 = markers-10;
  markers_1 = λ t p. marker-never t p 1 refl refl refl;
  markers_11 = λ t p. marker-never t p 11 refl refl refl;
  markers_12 = λ t p. marker-never t p 12 refl refl refl;
  section_entries = section-entries;
  item_views_8 = item-views-8;
  marker_views_1 = λ t p i. short-never 1 t p (refused 8 (index_number i ∷ [])) refl refl;
  marker_kinds_1 = λ t p i. short-never 1 t p (answered 0xffff) refl refl;
  marker_kinds = λ t p i. streams.short-is t p (answered 0xffff);
  turns_done = turns-done;
}
