-- When fields, strings, padding, numbers, words, records and lists are refused by which number. Assumes nothing.
use Rattle.std.specs.Prelude.{Option, None, Some}
use Prim.Native.Nat.{ℕ, zero, suc, ◌+◌, ◌-◌, ◌*◌, ◌/◌, ◌%◌, ◌^◌, ◌≤◌, ◌<◌}
use mathlib.Core.Bool.{Bool, true, false}
use mathlib.Core.Path.{◌≡◌, refl, sym, ap, ◌∙◌}
use mathlib.Core.Logic.{◌⊎◌, inl, inr}
use mathlib.Core.List.{List, [], ◌∷◌}
use native.Mathlib.Omega.{arith}
use lib.ListN.{length, length-drop, get_or, drop}
use lib.Seq.{get_or-drop}
use lib.Dec.{eqb, ltb, leb}
use lib.IntN.{ℤ, pos, negsuc}
use borrow.Author.Tests.{ltb-true, ltb-false, leb-true, leb-false, eqb-true, eqb-false, lt-ltb, le-ltb, le-leb, lt-leb, eq-eqb, ne_eqb}
use Rattle.answer.specs.Answer.{Answer, answered, refused, pick, stop, both, then, Read, got}
use Rattle.answer.specs.Tables.{Line, ◌is◌, find, among}
use Rattle.field.specs.Fields.{little_at, fixed_at, signed_at}
use Rattle.field.specs.Indices.{optional_at}
use Rattle.field.specs.Runs.{bytes_after}
use Rattle.field.proofs.FieldLaws.{field-there, field-got}
use Rattle.field_text.specs.Texts.{to_zero, part_or, string_at, counted_string_at, more, pad, padding_after}
use Rattle.field_text.proofs.PadLaws.{pad-end, pad-stop, pad-more, pad-cut}
use Rattle.field_number.specs.Numbers.{Wide, signed, unsigned, prefixes, unsigned_at, wide_at, numeric_at, natural, size_at}
use Rattle.field_number.specs.Forms.{numeral_by, numeral_at, sized_by, sized_at}
use Rattle.word_primitive.specs.Kinds.{kinds, indirections}
use Rattle.word_primitive.specs.Primitive.{unknown, known, primitive_of}
use Rattle.word_primitive.specs.declared.PrimitiveKind.{PrimitiveKind}
use Rattle.word_primitive.specs.declared.Indirection.{Indirection}
use Rattle.word_primitive.specs.declared.PrimitiveType.{PrimitiveType}
use Rattle.word_attributes.specs.Bits.{bits}
use Rattle.word_attributes.specs.declared.PointerKind.{PointerKind}
use Rattle.word_attributes.specs.declared.PointerMode.{PointerMode}
use Rattle.word_attributes.specs.Pointers.{pointer_kinds, pointer_modes, good_or_12, kind_of, mode_of, to_member_of, reference_of, pointer_kind_size, size_of}
use Rattle.record_layout.specs.Fields.{number, Elements, types, ids, run_bytes, Field, fixed, type, id, string_reference, optional_type, optional_id, word, gap, numeric, size, string, run, methods, members, when, word_after, read_field, read_fields, Shown, read_field_by, read_fields_by}
use Rattle.record_layout.specs.Layouts.{always, type_index, pointer, member_class, Layout, Table, is_answered, type_leaves, member_leaves, method, id_leaves, by_layout, read_leaf, read_record, leaf_of, record_of}
use Rattle.record_list.specs.Lists.{ElementValues, type_element, id_element, in_counted, counted_by, counted_list, start_types, start_ids, start_of, counted_step, method_step, member_step, next_member, step_of, element_by, element_of}
use Rattle.record_list.specs.declared.ListCursor.{ListCursor}
use Rattle.field.specs.declared.index.Stream.TheVariants as stream
use Rattle.claim_promises.specs.Given.{by, Given}
use Rattle.claim_promises.specs.ExactlyWhen.{NoZero, PadsPast, short, later, Below, Negative, NoMoreMembers, AtEnd}
use Rattle.claim_promises.proofs.ByTable.{both_first, both-second, within}
use Rattle.claim_promises.proofs.Given.{off, at-stop, at-pick, at-then, denied, given-then}
use Rattle.claim_promises.proofs.ReadingRefuses.{fixed-refuses, signed-refuses, Takes, TakesAll, no_more, ◌&◌, fields-refuse, padding-refuses, read-record-refuses, member-takes}

-- ---- fields

pub fields : (k : ℕ) (s : List ℕ) (p : ℕ) → Given 1 [] (fixed_at k s p) (length s < p + k)
unfolding fixed_at
fields k s p = record {
  when = λ h. simp (lt-leb _ _ h);
  only = at-pick 1 (leb (p + k) (length s)) _ _ (λ _. off) (λ b _. leb-false _ _ b);
}

pub signed-fields : (k : ℕ) (s : List ℕ) (p : ℕ) → Given 1 [] (signed_at k s p) (length s < p + k)
unfolding signed_at
signed-fields k s p = given-then _ (fields k s p) (λ v. refl)

pub optional-indices : (nones s : List ℕ) (p : ℕ) → Given 1 [] (optional_at nones s p) (length s < p + 4)
unfolding optional_at
optional-indices nones s p = given-then _ (fields 4 s p) (λ v. refl)

pub runs : (n : ℕ) (s : List ℕ) (p : ℕ) → Given 1 [] (bytes_after n s p) (length s < p + n)
unfolding bytes_after
runs n s p = record {
  when = λ h. simp (lt-ltb _ _ h);
  only = at-stop 1 (ltb (length s) (p + n)) 1 _ (λ b _. ltb-true _ _ b) (λ _. off);
}

-- ---- strings

no_zero : (bs : List ℕ) (n : ℕ) → ((k : ℕ) → k < length bs → get_or bs k 0 ≡ 0 → ⊥) → to_zero bs n ≡ None
unfolding to_zero
no_zero [] n h = refl
no_zero (zero ∷ bs) n h = absurd (h 0 (omega arith) refl)
no_zero (suc b ∷ bs) n h = no_zero bs (suc n) (λ k l. h (suc k) (omega arith))

none-zero : (bs : List ℕ) (n : ℕ) → to_zero bs n ≡ None → (k : ℕ) → k < length bs → get_or bs k 0 ≡ 0 → ⊥
unfolding to_zero
none-zero [] n e k l z = omega arith
none-zero (zero ∷ bs) n e k l z = let w : ◌≡◌ {A = ℕ} 0 1 = cc in omega arith
none-zero (suc b ∷ bs) n e zero l z = omega arith
none-zero (suc b ∷ bs) n e (suc k) l z = none-zero bs (suc n) e k (omega arith) z

part_none : (o : Option ℕ) (p : ℕ) → by 1 (part_or o p) ≡ true → o ≡ None
part_none None p e = refl
part_none (Some n) p e = off e

pub strings : (s : List ℕ) (p : ℕ) → Given 1 [] (string_at s p) (NoZero s p)
unfolding string_at
strings s p = record {
  when = λ h. ap (λ o. part_or o p) (no_zero (drop p s) 0 (λ k l z.
      let e = length-drop p s in
      h (p + k) (omega arith) (omega arith) (sym (get_or-drop p s k 0) ∙ z)));
  only = λ e k a b z.
      let w = length-drop p s in
      let q : p + (k - p) ≡ k = omega arith in
      none-zero (drop p s) 0 (part_none (to_zero (drop p s) 0) p e) (k - p) (omega arith) (get_or-drop p s (k - p) 0 ∙ ap (λ x. get_or s x 0) q ∙ z);
}

counted-ends : (s : List ℕ) (p : ℕ) → length s < p + 1 + little_at 1 s p → counted_string_at s p ≡ refused 1 []
unfolding counted_string_at
counted-ends s p h = go (leb (p + 1) (length s)) refl
  where
    go : (b : Bool) → leb (p + 1) (length s) ≡ b → counted_string_at s p ≡ refused 1 []
    go true e = rw (sym (field-there 1 s p (little_at 1 s p) (leb-true _ _ e) refl), (runs (little_at 1 s p) s (p + 1)).when h) refl
    go false e = rw ((fields 1 s p).when (leb-false _ _ e)) refl

pub counted-strings : (s : List ℕ) (p : ℕ) → Given 1 [] (counted_string_at s p) (length s < p + 1 + little_at 1 s p)
unfolding counted_string_at
counted-strings s p = record {
  when = counted-ends s p;
  only = at-then 1 (fixed_at 1 s p) _ (λ e. let h = (fields 1 s p).only e in omega arith) (λ g e.
      at-then 1 (bytes_after g.value s g.next) _ (λ b.
      let h = (runs g.value s g.next).only b in
      let v = field-got 1 s p g.value g.next e in
      let a = v.value in
      let c = v.next in
      omega arith) (λ _ _. off));
}

-- ---- padding

pads-past : (s : List ℕ) (p : ℕ) → PadsPast s p → pad 0 p (drop p s) ≡ refused 1 []
pads-past s p (short l b h) = sym (pad-cut s p (more (get_or s p 0) + 1) l b refl h)
pads-past s p (later b h q) =
    let l : p < length s = omega arith in
    sym (pad-more s p (more (get_or s p 0) + 1) l b refl h) ∙ pads-past s (p + (more (get_or s p 0) + 1)) q

-- the place behind a pad byte and what it takes
abbrev behind : List ℕ → ℕ → ℕ
behind s p = p + (more (get_or s p 0) + 1)

past-pads : (fuel : ℕ) (s : List ℕ) (p : ℕ) → length s < p + fuel → by 1 (pad 0 p (drop p s)) ≡ true → PadsPast s p
past-pads zero s p f e = off (sym (ap (by 1) (sym (pad-end s p (omega arith)))) ∙ e)
past-pads (suc fuel) s p f e =
    at_byte (past-pads fuel s (p + (more (get_or s p 0) + 1)) (omega arith)) (leb (length s) p) refl (leb 0xf0 (get_or s p 0)) refl
    (leb (p + (more (get_or s p 0) + 1)) (length s)) refl
  where
    at_byte : (by 1 (pad 0 (behind s p) (drop (behind s p) s)) ≡ true → PadsPast s (behind s p)) → (x : Bool) → leb (length s) p ≡ x → (y : Bool) → leb 0xf0 (get_or s p 0) ≡ y → (z : Bool) → leb (p + (more (get_or s p 0) + 1)) (length s) ≡ z → PadsPast s p
    at_byte on true a y b z c = off (ap (by 1) (pad-end s p (leb-true _ _ a)) ∙ e)
    at_byte on false a false b z c = off (ap (by 1) (pad-stop s p (leb-false _ _ a) (leb-false _ _ b)) ∙ e)
    at_byte on false a true b false c = short (leb-false _ _ a) (leb-true _ _ b) (leb-false _ _ c)
    at_byte on false a true b true c =
        let h = leb-true _ _ c in
        later (leb-true _ _ b) h (on (ap (by 1) (pad-more s p (more (get_or s p 0) + 1) (leb-false _ _ a) (leb-true _ _ b) refl h) ∙ e))

padding-ends : (s : List ℕ) (p : ℕ) → (length s < p) ⊎ PadsPast s p → padding_after s p ≡ refused 1 []
unfolding padding_after
padding-ends s p (inl h) = simp (lt-ltb _ _ h)
padding-ends s p (inr h) = go (ltb (length s) p)
  where
    go : (b : Bool) → stop b 1 (pad 0 p (drop p s)) ≡ refused 1 []
    go true = refl
    go false = pads-past s p h

pub paddings : (s : List ℕ) (p : ℕ) → Given 1 [] (padding_after s p) ((length s < p) ⊎ PadsPast s p)
unfolding padding_after
paddings s p = record {
  when = padding-ends s p;
  only = at-stop 1 (ltb (length s) p) 1 _ (λ b _. inl (ltb-true _ _ b)) (λ b e. inr (past-pads (suc (length s)) s p (omega arith) e));
}

-- ---- numbers

wide-none : (o : Option Wide) (s : List ℕ) (p : ℕ) → by 11 (wide_at o s p) ≡ true → o ≡ None
unfolding unsigned_at among
wide-none None s p e = refl
wide-none (Some (signed k)) s p e = denied 11 refl (signed-refuses k s p) e
wide-none (Some (unsigned k)) s p e = at-then 11 (fixed_at k s p) _ (λ x. denied 11 refl (fixed-refuses k s p) x) (λ _ _. off) e

pub number-11 : (s : List ℕ) (p : ℕ) → Given 11 [] (numeric_at s p) ((p + 2 ≤ length s) × (0x8000 ≤ little_at 2 s p) × (find (little_at 2 s p) prefixes ≡ None))
unfolding numeric_at among
number-11 s p = record {
  when = λ (a, b, c). rw (sym (field-there 2 s p (little_at 2 s p) a refl), le-ltb _ _ b, c) refl;
  only = at-then 11 (fixed_at 2 s p) _ (λ x. denied 11 refl (fixed-refuses 2 s p) x) (λ g e.
      let v = field-got 2 s p g.value g.next e in
      at-pick 11 (ltb g.value 0x8000) _ _ (λ _. off) (λ b w.
      let l : 0x8000 ≤ g.value = ltb-false _ _ b in
      let q = v.value in
      (v.room, omega arith, ap (λ n. find n prefixes) (sym v.value) ∙ wide-none (find g.value prefixes) s g.next w)));
}

negative : (a : Read ℤ) → Negative a → then a (λ g. natural g.value g.next) ≡ refused 11 []
negative (refused _ _) n = elim n [ ]
negative (answered g) n = go g.value n
  where
    go : (z : ℤ) → Below z → natural z g.next ≡ refused 11 []
    go (pos _) n = elim n [ ]
    go (negsuc k) n = refl

below : (z : ℤ) (q : ℕ) → by 11 (natural z q) ≡ true → Below z
below (pos n) q e = off e
below (negsuc n) q e = tt

-- what is said of a number's form refuses nothing
pub numbers-11 : (s : List ℕ) (p : ℕ) → Given 11 [] (numeral_at s p) ((p + 2 ≤ length s) × (0x8000 ≤ little_at 2 s p) × (find (little_at 2 s p) prefixes ≡ None))
unfolding numeral_by
numbers-11 s p = given-then _ (number-11 s p) (λ v. refl)

size-11 : (s : List ℕ) (p : ℕ) → Given 11 [] (size_at s p) ((numeric_at s p ≡ refused 11 []) ⊎ Negative (numeric_at s p))
unfolding size_at
size-11 s p = record {
  when = go;
  only = at-then 11 (numeric_at s p) _ (λ e. inl ((number-11 s p).when ((number-11 s p).only e))) (λ g e b. inr (rw e (below g.value g.next b)));
}
  where
    go : (numeric_at s p ≡ refused 11 []) ⊎ Negative (numeric_at s p) → then (numeric_at s p) (λ g. natural g.value g.next) ≡ refused 11 []
    go (inl e) = ap (λ a. then a (λ g. natural g.value g.next)) e
    go (inr n) = negative (numeric_at s p) n

pub sizes-11 : (s : List ℕ) (p : ℕ) → Given 11 [] (sized_at s p) ((numeric_at s p ≡ refused 11 []) ⊎ Negative (numeric_at s p))
unfolding sized_by
sizes-11 s p = given-then _ (size-11 s p) (λ v. refl)

-- ---- tables: whose keys are the numbers below m

module _ {A : Type 0} where
  -- all keys are below m
  unfoldable under : ℕ → List (Line A) → Bool
  under m [] = true
  under m ((k is a) ∷ ls) = both (ltb k m) (under m ls)

  abbrev is_there : Option A → Bool
  is_there None = false
  is_there (Some a) = true

  -- every number below m is a key
  unfoldable covers : ℕ → List (Line A) → Bool
  covers zero ls = true
  covers (suc m) ls = both (is_there (find m ls)) (covers m ls)

  above : (m : ℕ) (ls : List (Line A)) → under m ls ≡ true → (n : ℕ) → m ≤ n → find n ls ≡ None
  unfolding find under
  above m [] u n l = refl
  above m ((k is a) ∷ ls) u n l =
      let b = ltb-true k m (both_first (ltb k m) (under m ls) u) in
      simp (ne_eqb n k (λ e. omega arith), above m ls (both-second (ltb k m) (under m ls) u) n l)

  reaches : (m : ℕ) (ls : List (Line A)) → covers m ls ≡ true → (n : ℕ) → find n ls ≡ None → m ≤ n
  unfolding covers
  reaches zero ls c n e = omega arith
  reaches (suc m) ls c n e =
      let l = reaches m ls (both-second (is_there (find m ls)) (covers m ls) c) n e in
      go l (eqb n m) refl
    where
      go : m ≤ n → (b : Bool) → eqb n m ≡ b → suc m ≤ n
      go l true q = off (sym (ap is_there (ap (λ k. find k ls) (sym (eqb-true n m q)) ∙ e)) ∙ both_first (is_there (find m ls)) (covers m ls) c)
      go l false q = let d = eqb-false n m q in omega arith

-- ---- primitives

module _ (i : ℕ) where
  abbrev Unknown : Type 0
  Unknown = (0x1000 ≤ i) ⊎ (8 ≤ i / 2 ^ 8 % 2 ^ 4) ⊎ (find (i % 2 ^ 8) kinds ≡ None)

  -- the three tests of a primitive
  abbrev primitive_by : Bool → Option Indirection → Option PrimitiveKind → Answer PrimitiveType
  primitive_by b o q = pick b (unknown i) (known i o (λ d. known i q (λ k. answered (record { kind = k; indirection = d }))))

  first-unknown : (b : Bool) (o : Option Indirection) (q : Option PrimitiveKind) → o ≡ None → primitive_by b o q ≡ refused 8 (i ∷ [])
  first-unknown true o q e = refl
  first-unknown false o q e = rw e refl

  second-unknown : (b : Bool) (o : Option Indirection) (q : Option PrimitiveKind) → q ≡ None → primitive_by b o q ≡ refused 8 (i ∷ [])
  second-unknown true o q e = refl
  second-unknown false None q e = refl
  second-unknown false (Some d) q e = rw e refl

  primitive-unknown : Unknown → primitive_of i ≡ refused 8 (i ∷ [])
  unfolding primitive_of under indirections
  primitive-unknown (inl h) = simp (le-leb _ _ h)
  primitive-unknown (inr (inl h)) = first-unknown (leb 0x1000 i) _ (find (i % 2 ^ 8) kinds) (above 8 indirections refl (i / 2 ^ 8 % 2 ^ 4) h)
  primitive-unknown (inr (inr h)) = second-unknown (leb 0x1000 i) (find (i / 2 ^ 8 % 2 ^ 4) indirections) (find (i % 2 ^ 8) kinds) h

  unknown-primitive : (b : Bool) (o : Option Indirection) (q : Option PrimitiveKind) → leb 0x1000 i ≡ b → find (i / 2 ^ 8 % 2 ^ 4) indirections ≡ o → find (i % 2 ^ 8) kinds ≡ q
      → by 8 (primitive_by b o q) ≡ true → Unknown
  unfolding covers find indirections
  unknown-primitive true o q x y z e = inl (leb-true _ _ x)
  unknown-primitive false None q x y z e = inr (inl (reaches 8 indirections refl (i / 2 ^ 8 % 2 ^ 4) y))
  unknown-primitive false (Some d) None x y z e = inr (inr z)
  unknown-primitive false (Some d) (Some k) x y z e = off e

  pub primitives-8 : Given 8 (i ∷ []) (primitive_of i) Unknown
  unfolding primitive_of
  primitives-8 = record {
    when = primitive-unknown;
    only = unknown-primitive (leb 0x1000 i) (find (i / 2 ^ 8 % 2 ^ 4) indirections) (find (i % 2 ^ 8) kinds) refl refl refl;
  }

-- ---- pointer words

good-12 : {A : Type 0} (o : Option A) → by 12 (good_or_12 o) ≡ true → o ≡ None
good-12 None e = refl
good-12 (Some a) e = off e

pub kinds-12 : (w : ℕ) → Given 12 [] (kind_of w) (13 ≤ bits 0 4 w)
unfolding kind_of under covers find pointer_kinds
kinds-12 w = record {
  when = λ h. ap good_or_12 (above 13 pointer_kinds refl (bits 0 4 w) h);
  only = λ e. reaches 13 pointer_kinds refl (bits 0 4 w) (good-12 (find (bits 0 4 w) pointer_kinds) e);
}

pub modes-12 : (w : ℕ) → Given 12 [] (mode_of w) (5 ≤ bits 5 7 w)
unfolding mode_of under covers find pointer_modes
modes-12 w = record {
  when = λ h. ap good_or_12 (above 5 pointer_modes refl (bits 5 7 w) h);
  only = λ e. reaches 5 pointer_modes refl (bits 5 7 w) (good-12 (find (bits 5 7 w) pointer_modes) e);
}

pub members-12 : (w : ℕ) → Given 12 [] (to_member_of w) (5 ≤ bits 5 7 w)
unfolding to_member_of
members-12 w = given-then _ (modes-12 w) (λ m. refl)

pub references-12 : (w : ℕ) → Given 12 [] (reference_of w) (5 ≤ bits 5 7 w)
unfolding reference_of
references-12 w = given-then _ (modes-12 w) (λ m. refl)

pub sizes-12 : (w : ℕ) → Given 12 [] (size_of w) ((bits 13 18 w ≡ 0) × (13 ≤ bits 0 4 w))
unfolding size_of
sizes-12 w =
    let by_kind : Given 12 [] (then (kind_of w) (λ k. answered (pointer_kind_size k))) (13 ≤ bits 0 4 w) = given-then _ (kinds-12 w) (λ k. refl) in
    record {
      when = λ (z, h). rw (eq-eqb _ _ z) (by_kind.when h);
      only = at-pick 12 (eqb (bits 13 18 w) 0) _ _ (λ b e. (eqb-true _ _ b, by_kind.only e)) (λ _. off);
    }

-- ---- records

either : (b : Bool) → pick b true true ≡ true
either true = refl
either false = refl

-- a field is never refused by another number than these
takes : (f : Field) → Takes (1 ∷ 11 ∷ 12 ∷ []) f
unfolding within among
takes (fixed k) = refl
takes type = refl
takes id = refl
takes string_reference = refl
takes optional_type = refl
takes optional_id = refl
takes (word k good_or_12) = (refl, λ n. either (good_or_12 n))
takes (gap k) = refl
takes numeric = refl
takes size = refl
takes string = refl
takes (run e) = refl
takes methods = tt
takes members = tt
takes (when there f) = takes f

takes_all : (fs : List Field) → TakesAll (1 ∷ 11 ∷ 12 ∷ []) fs
takes_all [] = no_more
takes_all (f ∷ fs) = takes f & takes_all fs

no-10 : {P : Type 0} (fs : List Field) (w : ℕ) (s : List ℕ) (p : ℕ) → by 10 (read_fields fs w s p) ≡ true → P
unfolding among
no-10 fs w s p = denied 10 refl (fields-refuse (1 ∷ 11 ∷ 12 ∷ []) fs w s p (takes_all fs))

no-15 : {P : Type 0} (fs : List Field) (w : ℕ) (s : List ℕ) (p : ℕ) → by 15 (read_fields fs w s p) ≡ true → P
unfolding among
no-15 fs w s p = denied 15 refl (fields-refuse (1 ∷ 11 ∷ 12 ∷ []) fs w s p (takes_all fs))

leaf-none : (o : Option Layout) (leaf : ℕ) (s : List ℕ) (p : ℕ) → by 10 (by_layout o leaf s p) ≡ true → o ≡ None
leaf-none None leaf s p e = refl
leaf-none (Some fs) leaf s p e = at-then 10 (read_fields fs 0 s p) _ (no-10 fs 0 s p) (λ _ _. off) e

pub members-10 : (table : Table) (s : List ℕ) (p : ℕ) → Given 10 (little_at 2 s p ∷ []) (read_record table s p) ((p + 2 ≤ length s) × (find (little_at 2 s p) table ≡ None))
unfolding read_record read_leaf among
members-10 table s p = record {
  when = λ (a, b). rw (sym (field-there 2 s p (little_at 2 s p) a refl), b) refl;
  only = at-then 10 (fixed_at 2 s p) _ (denied 10 refl (fixed-refuses 2 s p)) (λ g e x.
      let v = field-got 2 s p g.value g.next e in
      (v.room, ap (λ n. find n table) (sym v.value) ∙ leaf-none (find g.value table) g.value s g.next x));
}

pub records-10 : (table : Table) (s : List ℕ) → Given 10 (little_at 2 s 0 ∷ []) (record_of table s) ((2 ≤ length s) × (find (little_at 2 s 0) table ≡ None))
unfolding record_of leaf_of read_leaf among
records-10 table s = record {
  when = λ (a, b). rw (sym (field-there 2 s 0 (little_at 2 s 0) a refl), b) refl;
  only = at-then 10 (fixed_at 2 s 0) _ (denied 10 refl (fixed-refuses 2 s 0)) (λ g e.
      at-then 10 (by_layout (find g.value table) g.value s g.next) _ (λ x.
      let v = field-got 2 s 0 g.value g.next e in
      (v.room, ap (λ n. find n table) (sym v.value) ∙ leaf-none (find g.value table) g.value s g.next x)) (λ _ _. off));
}

-- the fields of a pointer: a type at 2, the word at 6
bad-word : (w : ℕ) → (13 ≤ bits 0 4 w) ⊎ (5 ≤ bits 5 7 w) → both (is_answered (kind_of w)) (is_answered (mode_of w)) ≡ false
bad-word w (inl h) = rw ((kinds-12 w).when h) refl
bad-word w (inr h) = go (is_answered (kind_of w))
  where
    go : (b : Bool) → both b (is_answered (mode_of w)) ≡ false
    go true = rw ((modes-12 w).when h) refl
    go false = refl

word-bad : (w : ℕ) → both (is_answered (kind_of w)) (is_answered (mode_of w)) ≡ false → (13 ≤ bits 0 4 w) ⊎ (5 ≤ bits 5 7 w)
unfolding kind_of mode_of covers find pointer_kinds pointer_modes
word-bad w = go (find (bits 0 4 w) pointer_kinds) (find (bits 5 7 w) pointer_modes) refl refl
  where
    go : (k : Option PointerKind) (m : Option PointerMode) → find (bits 0 4 w) pointer_kinds ≡ k → find (bits 5 7 w) pointer_modes ≡ m
        → both (is_answered (good_or_12 k)) (is_answered (good_or_12 m)) ≡ false → (13 ≤ bits 0 4 w) ⊎ (5 ≤ bits 5 7 w)
    go None m x y e = inl (reaches 13 pointer_kinds refl (bits 0 4 w) x)
    go (Some k) None x y e = inr (reaches 5 pointer_modes refl (bits 5 7 w) y)
    go (Some k) (Some m) x y e = off (sym e)

abbrev pointer_layout : Layout
pointer_layout = type_index ∷ pointer ∷ member_class ∷ []

module _ (s : List ℕ) where
  abbrev BadWord : Type 0
  BadWord = (10 ≤ length s) × ((13 ≤ bits 0 4 (little_at 4 s 6)) ⊎ (5 ≤ bits 5 7 (little_at 4 s 6)))

  -- behind the word nothing is refused by 12
  no-12 : {P : Type 0} (w p : ℕ) → by 12 (read_fields (member_class ∷ []) w s p) ≡ true → P
  unfolding within among
  no-12 w p = denied 12 refl (fields-refuse (1 ∷ []) (member_class ∷ []) w s p (refl & no_more))

  word-12 : (b : Bool) → leb 10 (length s) ≡ b → by 12 (read_fields (pointer ∷ member_class ∷ []) 0 s 6) ≡ true → BadWord
  unfolding read_fields_by read_field_by
  word-12 true a x =
      let ten = field-there 4 s 6 (little_at 4 s 6) (leb-true _ _ a) refl in
      let good_or_12 = both (is_answered (kind_of (little_at 4 s 6))) (is_answered (mode_of (little_at 4 s 6))) in
      at-then 12 (pick good_or_12 (got (number (little_at 4 s 6)) 10) (refused 12 [])) _
      (at-pick 12 good_or_12 _ _ (λ _. off) (λ b _. (leb-true _ _ a, word-bad (little_at 4 s 6) b)))
      (λ v _. at-then 12 (read_fields (member_class ∷ []) (word_after pointer v.value 0) s v.next) _ (no-12 (word_after pointer v.value 0) v.next) (λ _ _. off))
      (rw (sym ten) at x)
  word-12 false a x = off (rw ((fields 4 s 6).when (leb-false _ _ a)) at x)

  type-12 : (b : Bool) → leb 6 (length s) ≡ b → by 12 (read_fields pointer_layout 0 s 2) ≡ true → BadWord
  unfolding read_fields_by read_field_by
  type-12 true a x =
      let six = field-there 4 s 2 (little_at 4 s 2) (leb-true _ _ a) refl in
      at-then 12 (read_fields (pointer ∷ member_class ∷ []) 0 s 6) _ (word-12 (leb 10 (length s)) refl) (λ _ _. off) (rw (sym six) at x)
  type-12 false a x = off (rw ((fields 4 s 2).when (leb-false _ _ a)) at x)

  leaf-12 : little_at 2 s 0 ≡ 0x1002 → (b : Bool) → leb 2 (length s) ≡ b → by 12 (record_of type_leaves s) ≡ true → BadWord
  unfolding record_of leaf_of read_leaf type_leaves find
  leaf-12 leaf true a x =
      let two = field-there 2 s 0 (little_at 2 s 0) (leb-true _ _ a) refl in
      at-then 12 (by_layout (Some pointer_layout) 0x1002 s 2) _ (at-then 12 (read_fields pointer_layout 0 s 2) _ (type-12 (leb 6 (length s)) refl) (λ _ _. off)) (λ _ _. off)
      (rw (sym two, leaf) at x)
  leaf-12 leaf false a x = off (rw ((fields 2 s 0).when (leb-false _ _ a)) at x)

  pub pointers-12 : little_at 2 s 0 ≡ 0x1002 → Given 12 [] (record_of type_leaves s) BadWord
  unfolding record_of leaf_of read_leaf type_leaves find read_fields_by read_field_by
  pointers-12 leaf = record {
    when = λ (a, b).
        let two = field-there 2 s 0 (little_at 2 s 0) (omega arith) refl in
        let six = field-there 4 s 2 (little_at 4 s 2) (omega arith) refl in
        let ten = field-there 4 s 6 (little_at 4 s 6) a refl in
        rw (sym two, leaf, sym six, sym ten, bad-word (little_at 4 s 6) b) refl;
    only = leaf-12 leaf (leb 2 (length s)) refl;
  }

-- ---- lists

among-3 : (n a b c : ℕ) → among n (a ∷ b ∷ c ∷ []) ≡ false → (eqb n a ≡ false) × (eqb n b ≡ false) × (eqb n c ≡ false)
unfolding among
among-3 n a b c = go (eqb n a) (eqb n b) (eqb n c)
  where
    go : (x y z : Bool) → pick x true (pick y true (pick z true false)) ≡ false → (x ≡ false) × (y ≡ false) × (z ≡ false)
    go true y z e = off (sym e)
    go false true z e = off (sym e)
    go false false true e = off (sym e)
    go false false false e = (refl, refl, refl)

among-2 : (n a b : ℕ) → among n (a ∷ b ∷ []) ≡ false → (eqb n a ≡ false) × (eqb n b ≡ false)
unfolding among
among-2 n a b = go (eqb n a) (eqb n b)
  where
    go : (x y : Bool) → pick x true (pick y true false) ≡ false → (x ≡ false) × (y ≡ false)
    go true y e = off (sym e)
    go false true e = off (sym e)
    go false false e = (refl, refl)

counted-10 : {P : Type 0} (fs : Layout) (leaf : ℕ) (s : List ℕ) (p : ℕ) → by 10 (counted_by fs leaf s p) ≡ true → P
unfolding counted_by
counted-10 fs leaf s p = at-then 10 (read_fields fs 0 s p) _ (no-10 fs 0 s p) (λ _ _. off)

pub type-lists-10 : (s : List ℕ) → Given 10 (little_at 2 s 0 ∷ []) (start_of stream.Types s) ((2 ≤ length s) × (among (little_at 2 s 0) (0x1201 ∷ 0x1206 ∷ 0x1203 ∷ []) ≡ false))
unfolding start_of start_types counted_list find type_leaves among
type-lists-10 s = record {
  when = λ (a, b).
      let n = among-3 (little_at 2 s 0) 0x1201 0x1206 0x1203 b in
      rw (sym (field-there 2 s 0 (little_at 2 s 0) a refl), n.0, n.1, n.2) refl;
  only = at-then 10 (fixed_at 2 s 0) _ (denied 10 refl (fixed-refuses 2 s 0)) (λ g e.
      let v = field-got 2 s 0 g.value g.next e in
      at-pick 10 (eqb g.value 0x1201) _ _ (λ _. counted-10 _ 0x1201 s g.next) (λ a.
      at-pick 10 (eqb g.value 0x1206) _ _ (λ _. off) (λ b.
      at-pick 10 (eqb g.value 0x1203) _ _ (λ _. off) (λ c _.
      (v.room, rw (sym v.value, a, b, c) refl)))));
}

pub id-lists-10 : (s : List ℕ) → Given 10 (little_at 2 s 0 ∷ []) (start_of stream.Ids s) ((2 ≤ length s) × (among (little_at 2 s 0) (0x1603 ∷ 0x1604 ∷ []) ≡ false))
unfolding start_of start_ids counted_list find id_leaves among
id-lists-10 s = record {
  when = λ (a, b).
      let n = among-2 (little_at 2 s 0) 0x1603 0x1604 b in
      rw (sym (field-there 2 s 0 (little_at 2 s 0) a refl), n.0, n.1) refl;
  only = at-then 10 (fixed_at 2 s 0) _ (denied 10 refl (fixed-refuses 2 s 0)) (λ g e.
      let v = field-got 2 s 0 g.value g.next e in
      at-pick 10 (eqb g.value 0x1603) _ _ (λ _. counted-10 _ 0x1603 s g.next) (λ a.
      at-pick 10 (eqb g.value 0x1604) _ _ (λ _. counted-10 _ 0x1604 s g.next) (λ b _.
      (v.room, rw (sym v.value, a, b) refl))));
}

counted-step-15 : (f : Field) (element : List Shown → ElementValues) (leaf : ℕ) (s : List ℕ) (p left : ℕ) → Given 15 [] (counted_step f element leaf s p left) (left ≡ 0)
unfolding counted_step
counted-step-15 f element leaf s p left = record {
  when = λ e. simp (eq-eqb _ _ e);
  only = at-stop 15 (eqb left 0) 15 _ (λ b _. eqb-true _ _ b) (λ _. at-then 15 (read_fields (f ∷ []) 0 s p) _ (no-15 (f ∷ []) 0 s p) (λ _ _. off));
}

module _ (s : List ℕ) (c : ListCursor) where
  pub counted-15 : among c.leaf (0x1201 ∷ 0x1603 ∷ 0x1604 ∷ []) ≡ true → Given 15 [] (step_of s c) (c.left ≡ 0)
  unfolding step_of among
  counted-15 = go (eqb c.leaf 0x1201) (eqb c.leaf 0x1603) (eqb c.leaf 0x1604) refl refl refl
    where
      go : (x y z : Bool) → eqb c.leaf 0x1201 ≡ x → eqb c.leaf 0x1603 ≡ y → eqb c.leaf 0x1604 ≡ z → pick x true (pick y true (pick z true false)) ≡ true → Given 15 [] (step_of s c) (c.left ≡ 0)
      go true y z a b d e = rw (eqb-true c.leaf 0x1201 a) (counted-step-15 type_index type_element 0x1201 s c.at c.left)
      go false true z a b d e = rw (eqb-true c.leaf 0x1603 b) (counted-step-15 id id_element 0x1603 s c.at c.left)
      go false false true a b d e = rw (eqb-true c.leaf 0x1604 d) (counted-step-15 type_index type_element 0x1604 s c.at c.left)
      go false false false a b d e = off e

  pub methods-15 : c.leaf ≡ 0x1206 → Given 15 [] (step_of s c) (length s ≤ c.at)
  unfolding step_of method_step
  methods-15 e = rw e (record {
    when = λ h. simp (le-leb _ _ h);
    only = at-stop 15 (leb (length s) c.at) 15 _ (λ b _. leb-true _ _ b) (λ _. at-then 15 (read_fields method 0 s c.at) _ (no-15 method 0 s c.at) (λ _ _. off));
  })

  member-step-15 : (q : ℕ) → Given 15 [] (member_step s q) (length s ≤ q)
  unfolding member_step among within
  member-step-15 q = record {
    when = λ h. simp (le-leb _ _ h);
    only = at-stop 15 (leb (length s) q) 15 _ (λ b _. leb-true _ _ b) (λ _.
        at-then 15 (read_record member_leaves s q) _ (denied 15 refl (read-record-refuses (1 ∷ 10 ∷ 11 ∷ []) member_leaves refl refl member-takes s q)) (λ _ _. off));
  }

  abbrev behind_pads : Answer ℕ
  behind_pads = pick c.padded (padding_after s c.at) (answered c.at)

  pads-15 : {P : Type 0} → by 15 behind_pads ≡ true → P
  unfolding among
  pads-15 = at-pick 15 c.padded _ _ (λ _. denied 15 refl (padding-refuses s c.at)) (λ _. off)

  ends-15 : (a : Answer ℕ) → NoMoreMembers s a → then a (member_step s) ≡ refused 15 []
  ends-15 (refused _ _) h = elim h [ ]
  ends-15 (answered q) h = (member-step-15 q).when h

  pub members-15 : c.leaf ≡ 0x1203 → Given 15 [] (step_of s c) ((c.left ≡ 0) ⊎ AtEnd s c)
  unfolding step_of next_member
  members-15 e = rw e (record {
    when = go;
    only = at-stop 15 (eqb c.left 0) 15 _ (λ b _. inl (eqb-true _ _ b)) (λ _.
        at-then 15 behind_pads _ pads-15 (λ q a x. inr (rw a ((member-step-15 q).only x))));
  })
    where
      go : (c.left ≡ 0) ⊎ AtEnd s c → stop (eqb c.left 0) 15 (then behind_pads (λ q. member_step s q)) ≡ refused 15 []
      go (inl h) = simp (eq-eqb _ _ h)
      go (inr h) = at (eqb c.left 0)
        where
          at : (b : Bool) → stop b 15 (then behind_pads (λ q. member_step s q)) ≡ refused 15 []
          at true = refl
          at false = ends-15 behind_pads h

-- ---- element k of a counted list: 15 exactly where k is at or past the count

left-some : (n : ℕ) → eqb (suc n) 0 ≡ false
left-some n = ne_eqb (suc n) 0 (λ (e : suc n ≡ 0). omega arith)

-- one element on, the count and the number asked for are one less
one_on : {A : Type 0} {a : Answer A} (n k : ℕ) → Given 15 [] a (n ≤ k) → Given 15 [] a (suc n ≤ suc k)
one_on n k g = record {
  when = λ l. g.when (omega arith);
  only = λ e. let l = g.only e in omega arith;
}

-- a list whose elements are fields of four bytes, all there
module _ (s : List ℕ) (f : Field) (element : List Shown → ElementValues) (leaf : ℕ)
    (steps : (p n : ℕ) → step_of s (in_counted leaf p n) ≡ counted_step f element leaf s p n)
    (four : (p : ℕ) → read_field f 0 s p ≡ then (fixed_at 4 s p) (λ g. got (number g.value) g.next)) where
  element-15 : (k n p : ℕ) → p + 4 * n ≤ length s → Given 15 [] (element_by (step_of s) k (in_counted leaf p n)) (n ≤ k)
  unfolding element_by counted_step read_fields_by
  element-15 zero zero p h = rw (steps p 0) (record { when = λ l. refl; only = λ e. omega arith })
  element-15 (suc k) zero p h = rw (steps p 0) (record { when = λ l. refl; only = λ e. omega arith })
  element-15 zero (suc n) p h =
      rw (steps p (suc n), left-some n, four p, sym (field-there 4 s p (little_at 4 s p) (omega arith) refl)) (record { when = λ l. absurd (omega arith); only = off })
  element-15 (suc k) (suc n) p h =
      let e : suc n - 1 ≡ n = omega arith in
      rw (steps p (suc n), left-some n, four p, sym (field-there 4 s p (little_at 4 s p) (omega arith) refl), e) (one_on n k (element-15 k n (p + 4) (omega arith)))

-- a counted record: behind its leaf a count of w bytes, and behind that four bytes an element
module _ (s : List ℕ) (w : ℕ) (e : Elements) (four : (n : ℕ) → run_bytes e n ≡ 4 * n) (leaf : ℕ) where
  abbrev start : Answer ListCursor
  start = counted_by (word w always ∷ run e ∷ []) leaf s 2

  pub count-there : 2 + w + 4 * little_at w s 2 ≤ length s → start ≡ answered (in_counted leaf (2 + w) (little_at w s 2))
  unfolding counted_by read_fields_by read_field_by bytes_after
  count-there a = rw (sym (field-there w s 2 (little_at w s 2) (omega arith) refl), four (little_at w s 2), le-ltb _ _ a) refl

  pub count-short : length s < 2 + w + 4 * little_at w s 2 → start ≡ refused 1 []
  unfolding counted_by read_fields_by read_field_by bytes_after
  count-short a = go (leb (2 + w) (length s)) refl
    where
      go : (b : Bool) → leb (2 + w) (length s) ≡ b → start ≡ refused 1 []
      go true q = rw (sym (field-there w s 2 (little_at w s 2) (leb-true _ _ q) refl), four (little_at w s 2), lt-ltb _ _ a) refl
      go false q = rw ((fields w s 2).when (leb-false _ _ q)) refl

  count-15 : ((k n p : ℕ) → p + 4 * n ≤ length s → Given 15 [] (element_by (step_of s) k (in_counted leaf p n)) (n ≤ k))
      → (k : ℕ) → Given 15 [] (then start (λ c. element_by (step_of s) k c)) ((2 + w + 4 * little_at w s 2 ≤ length s) × (little_at w s 2 ≤ k))
  count-15 elements k = go (leb (2 + w + 4 * little_at w s 2) (length s)) refl
    where
      go : (b : Bool) → leb (2 + w + 4 * little_at w s 2) (length s) ≡ b
          → Given 15 [] (then start (λ c. element_by (step_of s) k c)) ((2 + w + 4 * little_at w s 2 ≤ length s) × (little_at w s 2 ≤ k))
      go true q =
          let a = leb-true (2 + w + 4 * little_at w s 2) (length s) q in
          let g = elements k (little_at w s 2) (2 + w) a in
          rw (count-there a) (record { when = λ (_, l). g.when l; only = λ x. (a, g.only x) })
      go false q =
          let h = leb-false (2 + w + 4 * little_at w s 2) (length s) q in
          rw (count-short h) (record { when = λ (a, _). absurd (omega arith); only = off })

module _ (s : List ℕ) where
  -- two bytes that are not there hold no list
  cut-15 : {A P : Type 0} {a : Answer A} → a ≡ refused 1 [] → (P → ⊥) → Given 15 [] a P
  cut-15 e never = rw e (record { when = λ p. absurd (never p); only = off })

  pub arguments-15 : little_at 2 s 0 ≡ 0x1201 → (k : ℕ) → Given 15 [] (element_of stream.Types s k) ((6 + 4 * little_at 4 s 2 ≤ length s) × (little_at 4 s 2 ≤ k))
  unfolding element_of start_of start_types step_of counted_list find type_leaves read_field_by
  arguments-15 leaf k = go (leb 2 (length s)) refl
    where
      go : (b : Bool) → leb 2 (length s) ≡ b → Given 15 [] (element_of stream.Types s k) ((6 + 4 * little_at 4 s 2 ≤ length s) × (little_at 4 s 2 ≤ k))
      go true q = rw (sym (field-there 2 s 0 (little_at 2 s 0) (leb-true _ _ q) refl), leaf) (count-15 s 4 types (λ n. refl) 0x1201 (element-15 s type_index type_element 0x1201 (λ p n. refl) (λ p. refl)) k)
      go false q = let h = leb-false _ _ q in cut-15 (rw ((fields 2 s 0).when h) refl) (λ (a, _). omega arith)

  pub build-arguments-15 : little_at 2 s 0 ≡ 0x1603 → (k : ℕ) → Given 15 [] (element_of stream.Ids s k) ((4 + 4 * little_at 2 s 2 ≤ length s) × (little_at 2 s 2 ≤ k))
  unfolding element_of start_of start_ids step_of counted_list find id_leaves read_field_by
  build-arguments-15 leaf k = go (leb 2 (length s)) refl
    where
      go : (b : Bool) → leb 2 (length s) ≡ b → Given 15 [] (element_of stream.Ids s k) ((4 + 4 * little_at 2 s 2 ≤ length s) × (little_at 2 s 2 ≤ k))
      go true q = rw (sym (field-there 2 s 0 (little_at 2 s 0) (leb-true _ _ q) refl), leaf) (count-15 s 2 ids (λ n. refl) 0x1603 (element-15 s id id_element 0x1603 (λ p n. refl) (λ p. refl)) k)
      go false q = let h = leb-false _ _ q in cut-15 (rw ((fields 2 s 0).when h) refl) (λ (a, _). omega arith)

  pub substrings-15 : little_at 2 s 0 ≡ 0x1604 → (k : ℕ) → Given 15 [] (element_of stream.Ids s k) ((6 + 4 * little_at 4 s 2 ≤ length s) × (little_at 4 s 2 ≤ k))
  unfolding element_of start_of start_ids step_of counted_list find id_leaves read_field_by
  substrings-15 leaf k = go (leb 2 (length s)) refl
    where
      go : (b : Bool) → leb 2 (length s) ≡ b → Given 15 [] (element_of stream.Ids s k) ((6 + 4 * little_at 4 s 2 ≤ length s) × (little_at 4 s 2 ≤ k))
      go true q = rw (sym (field-there 2 s 0 (little_at 2 s 0) (leb-true _ _ q) refl), leaf) (count-15 s 4 types (λ n. refl) 0x1604 (element-15 s type_index type_element 0x1604 (λ p n. refl) (λ p. refl)) k)
      go false q = let h = leb-false _ _ q in cut-15 (rw ((fields 2 s 0).when h) refl) (λ (a, _). omega arith)
