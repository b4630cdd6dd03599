-- When numbers, fields, layouts and records are refused by which number. Assumes nothing.
use Rattle.std.specs.Prelude.{Option, None, Some}
use Prim.Native.Nat.{ℕ, ◌+◌, ◌≤◌, ◌<◌}
use mathlib.Core.Bool.{Bool, true, false}
use mathlib.Core.Path.{◌≡◌, refl, sym, ap, ◌∙◌}
use mathlib.Core.Logic.{◌⊎◌, inl, inr}
use mathlib.Core.List.{List, [], ◌∷◌}
use native.Mathlib.Omega.{arith}
use lib.ListN.{length}
use lib.Dec.{eqb, ltb, leb}
use lib.IntN.{ℤ, pos, negsuc}
use borrow.Author.Tests.{ltb-true, leb-true, leb-false, le-leb, lt-leb, ne_eqb}
use Rattle.answer.specs.Answer.{Answer, answered, refused, pick, then, Got, Read}
use Rattle.answer.specs.Tables.{find, among}
use Rattle.field.specs.Fields.{little_at, fixed_at}
use Rattle.field.specs.Indices.{no_type, no_id}
use Rattle.field.proofs.FieldLaws.{field-there, field-got}
use Rattle.field_text.specs.Texts.{string_at, counted_string_at, string_of}
use Rattle.field_number.specs.Numbers.{Wide, signed, unsigned, prefixes, unsigned_at, wide_at, numeric_at, natural, size_at}
use Rattle.field_number.specs.Forms.{numeral_by, numeral_at, sized_by, sized_at}
use Rattle.record_layout.specs.Fields.{Field, fixed, type, id, string_reference, optional_type, optional_id, word, gap, numeric, size, string, run, methods, members, when, run_bytes, word_after, read_field, read_fields, Shown, read_field_by, read_fields_by}
use Rattle.record_layout.specs.Layouts.{Layout, Table, by_layout, read_leaf, read_record, leaf_of, record_of}
use Rattle.claim_promises.specs.ByTable.{Refuses}
use Rattle.claim_promises.specs.Given.{by, Given}
use Rattle.claim_promises.specs.ExactlyWhen.{NoZero, Negative}
use Rattle.claim_promises.specs.RecordsWhen.{wide_bytes, CutNumber, UnknownPrefix, CutField, BadField, FailingField, FieldReached, here, next, AtField, AtLeaf}
use Rattle.claim_promises.proofs.Given.{off, at-pick, at-then, denied, given-then}
use Rattle.claim_promises.proofs.ReadingRefuses.{fixed-refuses, optional-refuses, string-refuses, bytes-refuses, numeral-refuses, sized-refuses}
use Rattle.claim_promises.proofs.GivenReading as reading

-- what never refuses by n
never : {A : Type 0} {n : ℕ} {d : List ℕ} {a : Answer A} → ((P : Type 0) → by n a ≡ true → P) → Given n d a ⊥
never h = record { when = λ x. absurd x; only = h ⊥ }

-- ---- numbers

-- a number below 0x8000 is no prefix
plain-number : (n : ℕ) → n < 0x8000 → wide_bytes (find n prefixes) ≡ 0
unfolding find prefixes
plain-number n l =
    simp (
      ne_eqb n 0x8000 (λ e. omega arith),
      ne_eqb n 0x8001 (λ e. omega arith),
      ne_eqb n 0x8002 (λ e. omega arith),
      ne_eqb n 0x8003 (λ e. omega arith),
      ne_eqb n 0x8004 (λ e. omega arith),
      ne_eqb n 0x8009 (λ e. omega arith),
      ne_eqb n 0x800a (λ e. omega arith),
    )

wide-1 : (o : Option Wide) (s : List ℕ) (p : ℕ) → p ≤ length s → Given 1 [] (wide_at o s p) (length s < p + wide_bytes o)
unfolding unsigned_at
wide-1 None s p h = record { when = λ l. absurd (omega arith); only = off }
wide-1 (Some (signed k)) s p h = reading.signed-fields k s p
wide-1 (Some (unsigned k)) s p h = given-then _ (reading.fields k s p) (λ v. refl)

number-ends : (s : List ℕ) (p : ℕ) → CutNumber s p → numeric_at s p ≡ refused 1 []
unfolding numeric_at
number-ends s p h = go (leb (p + 2) (length s)) refl (ltb (little_at 2 s p) 0x8000) refl
  where
    go : (a : Bool) → leb (p + 2) (length s) ≡ a → (b : Bool) → ltb (little_at 2 s p) 0x8000 ≡ b → numeric_at s p ≡ refused 1 []
    go false x b y = rw ((reading.fields 2 s p).when (leb-false _ _ x)) refl
    go true x true y =
        let z = plain-number (little_at 2 s p) (ltb-true (little_at 2 s p) 0x8000 y) in
        let l : p + 2 ≤ length s = leb-true (p + 2) (length s) x in
        absurd (omega arith)
    go true x false y =
        let l : p + 2 ≤ length s = leb-true (p + 2) (length s) x in
        rw (sym (field-there 2 s p (little_at 2 s p) l refl), y) ((wide-1 (find (little_at 2 s p) prefixes) s (p + 2) l).when h)

number-1 : (s : List ℕ) (p : ℕ) → Given 1 [] (numeric_at s p) (CutNumber s p)
unfolding numeric_at
number-1 s p = record {
  when = number-ends s p;
  only = at-then 1 (fixed_at 2 s p) _ (λ x. let l = (reading.fields 2 s p).only x in omega arith) (λ g e.
      let v = field-got 2 s p g.value g.next e in
      let a = v.value in
      let b = v.next in
      let r = v.room in
      at-pick 1 (ltb g.value 0x8000) _ _ (λ _. off) (λ _ w.
      let l : g.next ≤ length s = omega arith in
      let m = (wide-1 (find g.value prefixes) s g.next l).only w in
      let q : wide_bytes (find g.value prefixes) ≡ wide_bytes (find (little_at 2 s p) prefixes) = ap (λ n. wide_bytes (find n prefixes)) v.value in
      omega arith));
}

natural-1 : (z : ℤ) (q : ℕ) → by 1 (natural z q) ≡ false
natural-1 (pos n) q = refl
natural-1 (negsuc n) q = refl

pub numbers-1 : (s : List ℕ) (p : ℕ) → Given 1 [] (numeral_at s p) (CutNumber s p)
unfolding numeral_by
numbers-1 s p = given-then _ (number-1 s p) (λ v. refl)

pub sizes-1 : (s : List ℕ) (p : ℕ) → Given 1 [] (sized_at s p) (CutNumber s p)
unfolding sized_by size_at
sizes-1 s p = given-then _ (given-then _ (number-1 s p) (λ v. natural-1 v.value v.next)) (λ v. refl)

pub strings-by-leaf-1 : (leaf : ℕ) (s : List ℕ) (p : ℕ) → Given 1 [] (string_of leaf s p)
    (((leaf ≤ 0x1500) × (length s < p + 1 + little_at 1 s p)) ⊎ ((0x1500 < leaf) × NoZero s p))
unfolding string_of
strings-by-leaf-1 leaf s p = record {
  when = go;
  only = at-pick 1 (leb leaf 0x1500) _ _ (λ b e. inl (leb-true _ _ b, (reading.counted-strings s p).only e)) (λ b e. inr (leb-false _ _ b, (reading.strings s p).only e));
}
  where
    go : ((leaf ≤ 0x1500) × (length s < p + 1 + little_at 1 s p)) ⊎ ((0x1500 < leaf) × NoZero s p) → pick (leb leaf 0x1500) (counted_string_at s p) (string_at s p) ≡ refused 1 []
    go (inl (l, h)) = rw (le-leb _ _ l) ((reading.counted-strings s p).when h)
    go (inr (l, h)) = rw (lt-leb _ _ l) ((reading.strings s p).when h)

-- ---- fields

-- a field that is there only if the word passes its test
if-there : {A P : Type 0} {n : ℕ} {d : List ℕ} {a : Answer A} (b : Bool) (x : A) → Given n d a P → Given n d (pick b a (answered x)) ((b ≡ true) × P)
if-there true x g = record { when = λ (_, y). g.when y; only = λ e. (refl, g.only e) }
if-there false x g = record { when = λ (e, _). off e; only = off }

picked : {A : Type 0} (n : ℕ) (b : Bool) (x : A) → eqb 12 n ≡ false → by n (pick b (answered x) (refused 12 [])) ≡ false
picked n true x h = refl
picked n false x h = h

pub fields-1 : (f : Field) (w : ℕ) (s : List ℕ) (p : ℕ) → Given 1 [] (read_field f w s p) (CutField f w s p)
unfolding read_field_by CutField
fields-1 (fixed k) w s p = given-then _ (reading.fields k s p) (λ v. refl)
fields-1 type w s p = given-then _ (reading.fields 4 s p) (λ v. refl)
fields-1 id w s p = given-then _ (reading.fields 4 s p) (λ v. refl)
fields-1 string_reference w s p = given-then _ (reading.fields 4 s p) (λ v. refl)
fields-1 optional_type w s p = given-then _ (reading.optional-indices no_type s p) (λ v. refl)
fields-1 optional_id w s p = given-then _ (reading.optional-indices no_id s p) (λ v. refl)
fields-1 (word k good) w s p = given-then _ (reading.fields k s p) (λ v. picked 1 (good v.value) _ refl)
fields-1 (gap k) w s p = given-then _ (reading.fields k s p) (λ v. refl)
fields-1 numeric w s p = given-then _ (numbers-1 s p) (λ v. refl)
fields-1 size w s p = given-then _ (sizes-1 s p) (λ v. refl)
fields-1 string w s p = given-then _ (reading.strings s p) (λ v. refl)
fields-1 (run e) w s p = given-then _ (reading.runs (run_bytes e w) s p) (λ v. refl)
fields-1 methods w s p = never (λ P. off)
fields-1 members w s p = never (λ P. off)
fields-1 (when there f) w s p = if-there (there w) _ (fields-1 f w s p)

size-11 : (s : List ℕ) (p : ℕ) → Given 11 [] (sized_at s p) (UnknownPrefix s p ⊎ Negative (numeric_at s p))
size-11 s p = record { when = λ h. (reading.sizes-11 s p).when (there h); only = λ e. back ((reading.sizes-11 s p).only e) }
  where
    there : UnknownPrefix s p ⊎ Negative (numeric_at s p) → (numeric_at s p ≡ refused 11 []) ⊎ Negative (numeric_at s p)
    there (inl h) = inl ((reading.number-11 s p).when h)
    there (inr h) = inr h

    back : (numeric_at s p ≡ refused 11 []) ⊎ Negative (numeric_at s p) → UnknownPrefix s p ⊎ Negative (numeric_at s p)
    back (inl e) = inl ((reading.number-11 s p).only (rw e refl))
    back (inr h) = inr h

-- neither what comes first nor what follows is refused by n
spared : {A B : Type 0} {ns : List ℕ} {m : Answer A} (n : ℕ) (f : A → Answer B) → among n ns ≡ false → Refuses ns m → ((v : A) → by n (f v) ≡ false) → Given n [] (then m f) ⊥
spared {m = m} n f h r g = given-then {m = m} f (never (λ P. denied n h r)) g

pub fields-11 : (f : Field) (w : ℕ) (s : List ℕ) (p : ℕ) → Given 11 [] (read_field f w s p) (BadField f w s p)
unfolding read_field_by BadField among
fields-11 (fixed k) w s p = spared 11 _ refl (fixed-refuses k s p) (λ v. refl)
fields-11 type w s p = spared 11 _ refl (fixed-refuses 4 s p) (λ v. refl)
fields-11 id w s p = spared 11 _ refl (fixed-refuses 4 s p) (λ v. refl)
fields-11 string_reference w s p = spared 11 _ refl (fixed-refuses 4 s p) (λ v. refl)
fields-11 optional_type w s p = spared 11 _ refl (optional-refuses no_type s p) (λ v. refl)
fields-11 optional_id w s p = spared 11 _ refl (optional-refuses no_id s p) (λ v. refl)
fields-11 (word k good) w s p = spared 11 _ refl (fixed-refuses k s p) (λ v. picked 11 (good v.value) _ refl)
fields-11 (gap k) w s p = spared 11 _ refl (fixed-refuses k s p) (λ v. refl)
fields-11 numeric w s p = given-then _ (reading.numbers-11 s p) (λ v. refl)
fields-11 size w s p = given-then _ (size-11 s p) (λ v. refl)
fields-11 string w s p = spared 11 _ refl (string-refuses s p) (λ v. refl)
fields-11 (run e) w s p = spared 11 _ refl (bytes-refuses (run_bytes e w) s p) (λ v. refl)
fields-11 methods w s p = never (λ P. off)
fields-11 members w s p = never (λ P. off)
fields-11 (when there f) w s p = if-there (there w) _ (fields-11 f w s p)

word-12 : (k : ℕ) (good : ℕ → Bool) (w : ℕ) (s : List ℕ) (p : ℕ) → Given 12 [] (read_field (word k good) w s p) ((p + k ≤ length s) × (good (little_at k s p) ≡ false))
unfolding read_field_by among
word-12 k good w s p = record {
  when = λ (a, b). rw (sym (field-there k s p (little_at k s p) a refl), b) refl;
  only = at-then 12 (fixed_at k s p) _ (denied 12 refl (fixed-refuses k s p)) (λ g e.
      let v = field-got k s p g.value g.next e in
      at-pick 12 (good g.value) _ _ (λ _. off) (λ b _. (v.room, ap good (sym v.value) ∙ b)));
}

pub fields-12 : (f : Field) (w : ℕ) (s : List ℕ) (p : ℕ) → Given 12 [] (read_field f w s p) (FailingField f w s p)
unfolding read_field_by FailingField among
fields-12 (fixed k) w s p = spared 12 _ refl (fixed-refuses k s p) (λ v. refl)
fields-12 type w s p = spared 12 _ refl (fixed-refuses 4 s p) (λ v. refl)
fields-12 id w s p = spared 12 _ refl (fixed-refuses 4 s p) (λ v. refl)
fields-12 string_reference w s p = spared 12 _ refl (fixed-refuses 4 s p) (λ v. refl)
fields-12 optional_type w s p = spared 12 _ refl (optional-refuses no_type s p) (λ v. refl)
fields-12 optional_id w s p = spared 12 _ refl (optional-refuses no_id s p) (λ v. refl)
fields-12 (word k good) w s p = word-12 k good w s p
fields-12 (gap k) w s p = spared 12 _ refl (fixed-refuses k s p) (λ v. refl)
fields-12 numeric w s p = spared 12 _ refl (numeral-refuses s p) (λ v. refl)
fields-12 size w s p = spared 12 _ refl (sized-refuses s p) (λ v. refl)
fields-12 string w s p = spared 12 _ refl (string-refuses s p) (λ v. refl)
fields-12 (run e) w s p = spared 12 _ refl (bytes-refuses (run_bytes e w) s p) (λ v. refl)
fields-12 methods w s p = never (λ P. off)
fields-12 members w s p = never (λ P. off)
fields-12 (when there f) w s p = if-there (there w) _ (fields-12 f w s p)

-- ---- layouts and records: by a number n of which it is known when a field is refused by it

module _ (n : ℕ) (P : Field → ℕ → List ℕ → ℕ → Type 0) (each : (f : Field) (w : ℕ) (s : List ℕ) (p : ℕ) → Given n [] (read_field f w s p) (P f w s p)) where
  reached-refused : {s : List ℕ} {fs gs : List Field} {w p u r : ℕ} → FieldReached s fs w p gs u r → read_fields gs u s r ≡ refused n [] → read_fields fs w s p ≡ refused n []
  unfolding read_fields_by
  reached-refused here h = h
  reached-refused (next e on) h = rw (e, reached-refused on h) refl

  layout-when : (fs : List Field) (w : ℕ) (s : List ℕ) (p : ℕ) → AtField P fs w s p → read_fields fs w s p ≡ refused n []
  unfolding read_fields_by
  layout-when fs w s p x = reached-refused x.reached (rw ((each x.field x.the_word s x.place).when x.so) refl)

  layout-only : (fs : List Field) (w : ℕ) (s : List ℕ) (p : ℕ) → by n (read_fields fs w s p) ≡ true → AtField P fs w s p
  unfolding read_fields_by
  layout-only [] w s p = off
  layout-only (f ∷ fs) w s p =
      at-then n (read_field f w s p) _
      (λ x. record { field = f; after = fs; the_word = w; place = p; reached = here; so = (each f w s p).only x })
      (λ g e. at-then n (read_fields fs (word_after f g.value w) s g.next) _ (λ x. on g e (layout-only fs (word_after f g.value w) s g.next x)) (λ _ _. off))
    where
      on : (g : Got Shown) → read_field f w s p ≡ answered g → AtField P fs (word_after f g.value w) s g.next → AtField P (f ∷ fs) w s p
      on g e x = record { field = x.field; after = x.after; the_word = x.the_word; place = x.place; reached = next e x.reached; so = x.so }

  pub layouts-given : (fs : List Field) (w : ℕ) (s : List ℕ) (p : ℕ) → Given n [] (read_fields fs w s p) (AtField P fs w s p)
  layouts-given fs w s p = record { when = layout-when fs w s p; only = layout-only fs w s p }

  leaf-when : (table : Table) (s : List ℕ) (p : ℕ) → AtLeaf P table s p → read_record table s p ≡ refused n []
  unfolding read_record read_leaf
  leaf-when table s p x =
      rw (sym (field-there 2 s p (little_at 2 s p) x.there refl), x.line, layout-when x.layout 0 s (p + 2) x.field) refl

  leaf-only : eqb 10 n ≡ false → (table : Table) (s : List ℕ) (p : ℕ) → by n (read_record table s p) ≡ true → (by n (fixed_at 2 s p) ≡ true) ⊎ AtLeaf P table s p
  unfolding read_record read_leaf
  leaf-only ten table s p = at-then n (fixed_at 2 s p) _ inl (λ g e x. inr (
      let v = field-got 2 s p g.value g.next e in
      at v.room (find (little_at 2 s p) table) refl (rw (v.value, v.next) at x)))
    where
      at : p + 2 ≤ length s → (o : Option Layout) → find (little_at 2 s p) table ≡ o → by n (by_layout o (little_at 2 s p) s (p + 2)) ≡ true → AtLeaf P table s p
      at l None e x = off (sym ten ∙ x)
      at l (Some fs) e x = record { there = l; layout = fs; line = e; field = at-then n (read_fields fs 0 s (p + 2)) _ (layout-only fs 0 s (p + 2)) (λ _ _. off) x }

-- the record that these bytes are is the one at 0, without the place behind it
record-at : (table : Table) (s : List ℕ) → record_of table s ≡ then (read_record table s 0) (λ g. answered g.value)
unfolding record_of leaf_of read_record
record-at table s = go (fixed_at 2 s 0)
  where
    go : (a : Read ℕ) → then a (λ g. then (read_leaf table g.value s g.next) (λ x. answered x.value)) ≡ then (then a (λ g. read_leaf table g.value s g.next)) (λ g. answered g.value)
    go (answered g) = refl
    go (refused n d) = refl

as-record : {n : ℕ} {P : Type 0} (table : Table) (s : List ℕ) → Given n [] (read_record table s 0) P → Given n [] (record_of table s) P
as-record table s g = rw (record-at table s) (given-then _ g (λ v. refl))

pub members-1 : (table : Table) (s : List ℕ) (p : ℕ) → Given 1 [] (read_record table s p) ((length s < p + 2) ⊎ AtLeaf CutField table s p)
unfolding read_record
members-1 table s p = record { when = to; only = λ e. back (leaf-only 1 CutField fields-1 refl table s p e) }
  where
    to : (length s < p + 2) ⊎ AtLeaf CutField table s p → read_record table s p ≡ refused 1 []
    to (inl h) = rw ((reading.fields 2 s p).when h) refl
    to (inr x) = leaf-when 1 CutField fields-1 table s p x

    back : (by 1 (fixed_at 2 s p) ≡ true) ⊎ AtLeaf CutField table s p → (length s < p + 2) ⊎ AtLeaf CutField table s p
    back (inl e) = inl ((reading.fields 2 s p).only e)
    back (inr x) = inr x

right : {P Q : Type 0} → (P → Q) → P ⊎ Q → Q
right h (inl p) = h p
right h (inr q) = q

pub members-11 : (table : Table) (s : List ℕ) (p : ℕ) → Given 11 [] (read_record table s p) (AtLeaf BadField table s p)
unfolding among
members-11 table s p = record {
  when = leaf-when 11 BadField fields-11 table s p;
  only = λ e. right (denied 11 refl (fixed-refuses 2 s p)) (leaf-only 11 BadField fields-11 refl table s p e);
}

pub members-12 : (table : Table) (s : List ℕ) (p : ℕ) → Given 12 [] (read_record table s p) (AtLeaf FailingField table s p)
unfolding among
members-12 table s p = record {
  when = leaf-when 12 FailingField fields-12 table s p;
  only = λ e. right (denied 12 refl (fixed-refuses 2 s p)) (leaf-only 12 FailingField fields-12 refl table s p e);
}

pub records-1 : (table : Table) (s : List ℕ) → Given 1 [] (record_of table s) ((length s < 2) ⊎ AtLeaf CutField table s 0)
records-1 table s = as-record table s (members-1 table s 0)

pub records-11 : (table : Table) (s : List ℕ) → Given 11 [] (record_of table s) (AtLeaf BadField table s 0)
records-11 table s = as-record table s (members-11 table s 0)

pub records-12 : (table : Table) (s : List ℕ) → Given 12 [] (record_of table s) (AtLeaf FailingField table s 0)
records-12 table s = as-record table s (members-12 table s 0)
