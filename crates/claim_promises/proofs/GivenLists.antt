-- When a list's start, a step and an element are refused by which number. Assumes nothing.
use Rattle.std.specs.Prelude.{None}
use Prim.Native.Nat.{ℕ, zero, suc, ◌+◌, ◌*◌, ◌≤◌, ◌<◌}
use mathlib.Core.Bool.{Bool, true, false}
use mathlib.Core.Path.{◌≡◌, refl, sym, ap, ◌∙◌}
use mathlib.Core.Logic.{◌⊎◌, inl, inr}
use mathlib.Core.List.{List, [], ◌∷◌}
use native.Mathlib.Omega.{arith}
use lib.ListN.{length}
use lib.Dec.{eqb, leb}
use borrow.Author.Tests.{leb-true, leb-false, eqb-true, eqb-false, lt-leb, ne_eqb, eq-eqb}
use Rattle.answer.specs.Answer.{Answer, answered, refused, pick, then}
use Rattle.answer.specs.Tables.{find, among}
use Rattle.field.specs.Fields.{little_at, fixed_at}
use Rattle.field.proofs.FieldLaws.{field-there, field-got}
use Rattle.field.specs.declared.index.Stream.{Stream}
use Rattle.field.specs.declared.index.Stream.TheVariants as stream
use Rattle.record_layout.specs.Fields.{Field, id, Elements, types, ids, run_bytes, word, run, read_field, read_fields, Shown, read_fields_by}
use Rattle.record_layout.specs.Layouts.{always, type_index, type_leaves, member_leaves, method, id_leaves, read_record}
use Rattle.record_list.specs.Lists.{ElementValues, type_element, id_element, Step, counted_by, counted_list, start_types, start_ids, start_of, counted_step, method_step, member_step, next_member, step_of, element_by, element_of}
use Rattle.record_list.specs.declared.ListCursor.{ListCursor}
use Rattle.record_list.proofs.ListLaws.{element-refused}
use Rattle.claim_promises.specs.Given.{by, Given}
use Rattle.claim_promises.specs.RecordsWhen.{CutField, BadField, AtField, AtLeaf}
use Rattle.claim_promises.specs.ListsWhen.{Counted, NoList, behind_pads, place_in, member_place, Before, AtMember, CutMember, CutElement, UnknownMember, leaf_met, BadElement, NoElement, StepsLed, stay, step, OnTheWay, FromStart}
use Rattle.claim_promises.proofs.ByTable.{within}
use Rattle.claim_promises.proofs.Given.{off, at-stop, at-pick, at-then, not-by, denied}
use Rattle.claim_promises.proofs.ReadingRefuses.{padding-refuses, fields-refuse, TakesAll, no_more, ◌&◌, method-takes}
use Rattle.claim_promises.proofs.StreamRefuses.{start-refuses}
use Rattle.claim_promises.proofs.GivenReading as reading
use Rattle.claim_promises.proofs.GivenRecords as records

-- ---- where a list starts

-- a counted record: behind its leaf a count of w bytes, and behind that four bytes an element
count-1 : (s : List ℕ) (w : ℕ) (e : Elements) (four : (n : ℕ) → run_bytes e n ≡ 4 * n) (leaf : ℕ)
    → Given 1 [] (counted_by (word w always ∷ run e ∷ []) leaf s 2) (length s < 2 + w + 4 * little_at w s 2)
count-1 s w e four leaf = record { when = reading.count-short s w e four leaf; only = go (leb (2 + w + 4 * little_at w s 2) (length s)) refl }
  where
    go : (b : Bool) → leb (2 + w + 4 * little_at w s 2) (length s) ≡ b → by 1 (counted_by (word w always ∷ run e ∷ []) leaf s 2) ≡ true → length s < 2 + w + 4 * little_at w s 2
    go true q x = off (rw (reading.count-there s w e four leaf (leb-true _ _ q)) at x)
    go false q x = leb-false _ _ q

module _ (s : List ℕ) where
  pub type-lists-1 : Given 1 [] (start_of stream.Types s) ((length s < 2) ⊎ ((little_at 2 s 0 ≡ 0x1201) × (length s < 6 + 4 * little_at 4 s 2)))
  unfolding start_of start_types counted_list find type_leaves
  type-lists-1 = record {
    when = go;
    only = at-then 1 (fixed_at 2 s 0) _ (λ x. inl ((reading.fields 2 s 0).only x)) (λ g e.
        let v = field-got 2 s 0 g.value g.next e in
        at-pick 1 (eqb g.value 0x1201) _ _ (λ b x. inr (sym v.value ∙ eqb-true _ _ b, (count-1 s 4 types (λ n. refl) 0x1201).only (rw v.next at x))) (λ _.
        at-pick 1 (eqb g.value 0x1206) _ _ (λ _. off) (λ _.
        at-pick 1 (eqb g.value 0x1203) _ _ (λ _. off) (λ _. off))));
  }
    where
      at : little_at 2 s 0 ≡ 0x1201 → length s < 6 + 4 * little_at 4 s 2 → (b : Bool) → leb 2 (length s) ≡ b → start_of stream.Types s ≡ refused 1 []
      at leaf h true q = rw (sym (field-there 2 s 0 (little_at 2 s 0) (leb-true _ _ q) refl), leaf) ((count-1 s 4 types (λ n. refl) 0x1201).when h)
      at leaf h false q = rw ((reading.fields 2 s 0).when (leb-false _ _ q)) refl

      go : (length s < 2) ⊎ ((little_at 2 s 0 ≡ 0x1201) × (length s < 6 + 4 * little_at 4 s 2)) → start_of stream.Types s ≡ refused 1 []
      go (inl h) = rw ((reading.fields 2 s 0).when h) refl
      go (inr (leaf, h)) = at leaf h (leb 2 (length s)) refl

  abbrev CutIds : Type 0
  CutIds =
      (length s < 2)
      ⊎ ((little_at 2 s 0 ≡ 0x1603) × (length s < 4 + 4 * little_at 2 s 2))
      ⊎ ((little_at 2 s 0 ≡ 0x1604) × (length s < 6 + 4 * little_at 4 s 2))

  pub id-lists-1 : Given 1 [] (start_of stream.Ids s) CutIds
  unfolding start_of start_ids counted_list find id_leaves
  id-lists-1 = record {
    when = go;
    only = at-then 1 (fixed_at 2 s 0) _ (λ x. inl ((reading.fields 2 s 0).only x)) (λ g e.
        let v = field-got 2 s 0 g.value g.next e in
        at-pick 1 (eqb g.value 0x1603) _ _ (λ b x. inr (inl (sym v.value ∙ eqb-true _ _ b, (count-1 s 2 ids (λ n. refl) 0x1603).only (rw v.next at x)))) (λ _.
        at-pick 1 (eqb g.value 0x1604) _ _ (λ b x. inr (inr (sym v.value ∙ eqb-true _ _ b, (count-1 s 4 types (λ n. refl) 0x1604).only (rw v.next at x)))) (λ _. off)));
  }
    where
      at-3 : little_at 2 s 0 ≡ 0x1603 → length s < 4 + 4 * little_at 2 s 2 → (b : Bool) → leb 2 (length s) ≡ b → start_of stream.Ids s ≡ refused 1 []
      at-3 leaf h true q = rw (sym (field-there 2 s 0 (little_at 2 s 0) (leb-true _ _ q) refl), leaf) ((count-1 s 2 ids (λ n. refl) 0x1603).when h)
      at-3 leaf h false q = rw ((reading.fields 2 s 0).when (leb-false _ _ q)) refl

      at-4 : little_at 2 s 0 ≡ 0x1604 → length s < 6 + 4 * little_at 4 s 2 → (b : Bool) → leb 2 (length s) ≡ b → start_of stream.Ids s ≡ refused 1 []
      at-4 leaf h true q = rw (sym (field-there 2 s 0 (little_at 2 s 0) (leb-true _ _ q) refl), leaf) ((count-1 s 4 types (λ n. refl) 0x1604).when h)
      at-4 leaf h false q = rw ((reading.fields 2 s 0).when (leb-false _ _ q)) refl

      go : CutIds → start_of stream.Ids s ≡ refused 1 []
      go (inl h) = rw ((reading.fields 2 s 0).when h) refl
      go (inr (inl (leaf, h))) = at-3 leaf h (leb 2 (length s)) refl
      go (inr (inr (leaf, h))) = at-4 leaf h (leb 2 (length s)) refl

-- ---- one step, by the list's leaf

some_left : (n : ℕ) → eqb n 0 ≡ false → 0 < n
some_left n b = let d = eqb-false n 0 b in omega arith

module _ (s : List ℕ) (p left : ℕ) (f : Field) (element : List Shown → ElementValues) (leaf : ℕ) where
  counted-step-1 : Given 1 [] (read_field f 0 s p) (length s < p + 4) → Given 1 [] (counted_step f element leaf s p left) ((0 < left) × (length s < p + 4))
  unfolding counted_step read_fields_by
  counted-step-1 four = record {
    when = λ (l, h). rw (ne_eqb left 0 (λ e. omega arith), four.when h) refl;
    only = at-stop 1 (eqb left 0) 15 _ (λ _. off) (λ b.
        at-then 1 (read_fields (f ∷ []) 0 s p) _ (at-then 1 (read_field f 0 s p) _ (λ x. (some_left left b, four.only x)) (λ _ _. off)) (λ _ _. off));
  }

  -- by no number but 1 and 15
  counted-step-not : {P : Type 0} (n : ℕ) → eqb 15 n ≡ false → among n (1 ∷ []) ≡ false → TakesAll (1 ∷ []) (f ∷ []) → by n (counted_step f element leaf s p left) ≡ true → P
  unfolding counted_step
  counted-step-not n h one t =
      at-stop n (eqb left 0) 15 _ (λ _ e. off (sym h ∙ e)) (λ _. at-then n (read_fields (f ∷ []) 0 s p) _ (denied n one (fields-refuse (1 ∷ []) (f ∷ []) 0 s p t)) (λ _ _. off))

module _ (s : List ℕ) (p : ℕ) where
  method-step-1 : Given 1 [] (method_step s p) ((p < length s) × AtField CutField method 0 s p)
  unfolding method_step
  method-step-1 =
      let g = records.layouts-given 1 CutField records.fields-1 method 0 s p in
      record {
        when = λ (l, h). rw (lt-leb _ _ l, g.when h) refl;
        only = at-stop 1 (leb (length s) p) 15 _ (λ _. off) (λ b. at-then 1 (read_fields method 0 s p) _ (λ x. (leb-false _ _ b, g.only x)) (λ _ _. off));
      }

  method-step-not : {P : Type 0} (n : ℕ) → eqb 15 n ≡ false → among n (1 ∷ []) ≡ false → by n (method_step s p) ≡ true → P
  unfolding method_step
  method-step-not n h one =
      at-stop n (leb (length s) p) 15 _ (λ _ e. off (sym h ∙ e)) (λ _. at-then n (read_fields method 0 s p) _ (denied n one (fields-refuse (1 ∷ []) method 0 s p method-takes)) (λ _ _. off))

  member-step : {n : ℕ} {d : List ℕ} {P : Type 0} → eqb 15 n ≡ false → Given n d (read_record member_leaves s p) P → Given n d (member_step s p) ((p < length s) × P)
  unfolding member_step
  member-step {n = n} h g = record {
    when = λ (l, x). rw (lt-leb _ _ l, g.when x) refl;
    only = at-stop n (leb (length s) p) 15 _ (λ _ e. off (sym h ∙ e)) (λ b. at-then n (read_record member_leaves s p) _ (λ x. (leb-false _ _ b, g.only x)) (λ _ _. off));
  }

-- a member behind its padding
module _ (s : List ℕ) (c : ListCursor) where
  abbrev next_one : Answer Step
  next_one = next_member s c.at c.left c.padded

  member-when : {n : ℕ} (d : ℕ → List ℕ) (P : ℕ → Type 0) → ((q : ℕ) → Given n (d q) (member_step s q) ((q < length s) × P q)) → AtMember s c → P (member_place s c) → next_one ≡ refused n (d (member_place s c))
  unfolding next_member
  member-when {n = n} d P g (l, b) x = rw (ne_eqb c.left 0 (λ e. omega arith)) (go (behind_pads s c) b x)
    where
      go : (a : Answer ℕ) → Before s a → P (place_in a) → then a (λ q. member_step s q) ≡ refused n (d (place_in a))
      go (answered q) b x = (g q).when (b, x)
      go (refused m e) b x = absurd b

  -- the number is the padding's, or the member's
  member-only : {n : ℕ} (d : ℕ → List ℕ) (P : ℕ → Type 0) → eqb 15 n ≡ false → ((q : ℕ) → Given n (d q) (member_step s q) ((q < length s) × P q)) → by n next_one ≡ true
      → ((0 < c.left) × (by n (behind_pads s c) ≡ true)) ⊎ (AtMember s c × P (member_place s c))
  unfolding next_member
  member-only {n = n} d P h g = at-stop n (eqb c.left 0) 15 _ (λ _ e. off (sym h ∙ e)) (λ b x. go (some_left c.left b) (behind_pads s c) x)
    where
      go : 0 < c.left → (a : Answer ℕ) → by n (then a (λ q. member_step s q)) ≡ true → ((0 < c.left) × (by n a ≡ true)) ⊎ (((0 < c.left) × Before s a) × P (place_in a))
      go l (answered q) x = let y = (g q).only x in inr ((l, y.0), y.1)
      go l (refused m e) x = inl (l, x)

  pads-not : {P : Type 0} (n : ℕ) → among n (1 ∷ []) ≡ false → by n (behind_pads s c) ≡ true → P
  pads-not n one = at-pick n c.padded _ _ (λ _. denied n one (padding-refuses s c.at)) (λ _. off)

  next-member-1 : Given 1 [] next_one (CutMember s c)
  unfolding next_member
  next-member-1 = record { when = to; only = λ e. back (member-only (λ q. []) P refl member e) }
    where
      P : ℕ → Type 0
      P q = (length s < q + 2) ⊎ AtLeaf CutField member_leaves s q

      member : (q : ℕ) → Given 1 [] (member_step s q) ((q < length s) × P q)
      member q = member-step s q refl (records.members-1 member_leaves s q)

      to : CutMember s c → next_one ≡ refused 1 []
      to (inl (l, b, h)) = rw (ne_eqb c.left 0 (λ e. omega arith), b, (reading.paddings s c.at).when h) refl
      to (inr (m, x)) = member-when (λ q. []) P member m x

      back : ((0 < c.left) × (by 1 (behind_pads s c) ≡ true)) ⊎ (AtMember s c × P (member_place s c)) → CutMember s c
      back (inl (l, x)) = at-pick 1 c.padded _ _ (λ b y. inl (l, b, (reading.paddings s c.at).only y)) (λ _. off) x
      back (inr y) = inr y

  not-pads : {P Q : Type 0} (n : ℕ) → among n (1 ∷ []) ≡ false → ((0 < c.left) × (by n (behind_pads s c) ≡ true)) ⊎ (P × Q) → P × Q
  not-pads n one (inl (l, x)) = pads-not n one x
  not-pads n one (inr y) = y

  next-member-10 : Given 10 (little_at 2 s (member_place s c) ∷ []) next_one (UnknownMember s c)
  unfolding among
  next-member-10 = record {
    when = λ (m, x, y). member-when (λ q. little_at 2 s q ∷ []) P member m (x, y);
    only = λ e. let y = not-pads 10 refl (member-only (λ q. little_at 2 s q ∷ []) P refl member e) in (y.0, y.1.0, y.1.1);
  }
    where
      P : ℕ → Type 0
      P q = (q + 2 ≤ length s) × (find (little_at 2 s q) member_leaves ≡ None)

      member : (q : ℕ) → Given 10 (little_at 2 s q ∷ []) (member_step s q) ((q < length s) × P q)
      member q = member-step s q refl (reading.members-10 member_leaves s q)

  next-member-11 : Given 11 [] next_one (AtMember s c × AtLeaf BadField member_leaves s (member_place s c))
  unfolding among
  next-member-11 = record {
    when = λ (m, x). member-when (λ q. []) (AtLeaf BadField member_leaves s) member m x;
    only = λ e. not-pads 11 refl (member-only (λ q. []) (AtLeaf BadField member_leaves s) refl member e);
  }
    where
      member : (q : ℕ) → Given 11 [] (member_step s q) ((q < length s) × AtLeaf BadField member_leaves s q)
      member q = member-step s q refl (records.members-11 member_leaves s q)

  -- a cursor's leaf is a counted list's, 0x1206, 0x1203, or no list's
  leaf-ways : {P : Type 0} → (Counted c → P) → (c.leaf ≡ 0x1206 → P) → (c.leaf ≡ 0x1203 → P) → (NoList c → P) → P
  unfolding among
  leaf-ways {P = P} counts methods members other = go (eqb c.leaf 0x1201) refl (eqb c.leaf 0x1206) refl (eqb c.leaf 0x1203) refl (eqb c.leaf 0x1603) refl (eqb c.leaf 0x1604) refl
    where
      go : (v : Bool) → eqb c.leaf 0x1201 ≡ v → (w : Bool) → eqb c.leaf 0x1206 ≡ w → (x : Bool) → eqb c.leaf 0x1203 ≡ x → (y : Bool) → eqb c.leaf 0x1603 ≡ y → (z : Bool) → eqb c.leaf 0x1604 ≡ z → P
      go true a w b x d y e z f = counts (rw a refl)
      go false a true b x d y e z f = methods (eqb-true _ _ b)
      go false a false b true d y e z f = members (eqb-true _ _ d)
      go false a false b false d true e z f = counts (rw (a, e) refl)
      go false a false b false d false e true f = counts (rw (a, e, f) refl)
      go false a false b false d false e false f = other (rw (a, b, d, e, f) refl)

  -- the steps of a counted list
  counted-leaf : {P : Type 0} → (c.leaf ≡ 0x1201 → P) → (c.leaf ≡ 0x1603 → P) → (c.leaf ≡ 0x1604 → P) → Counted c → P
  unfolding among
  counted-leaf {P = P} one three four = go (eqb c.leaf 0x1201) (eqb c.leaf 0x1603) (eqb c.leaf 0x1604) refl refl refl
    where
      go : (x y z : Bool) → eqb c.leaf 0x1201 ≡ x → eqb c.leaf 0x1603 ≡ y → eqb c.leaf 0x1604 ≡ z → pick x true (pick y true (pick z true false)) ≡ true → P
      go true y z a b d e = one (eqb-true _ _ a)
      go false true z a b d e = three (eqb-true _ _ b)
      go false false true a b d e = four (eqb-true _ _ d)
      go false false false a b d e = off e

  counted-1 : Counted c → Given 1 [] (step_of s c) ((0 < c.left) × (length s < c.at + 4))
  unfolding step_of CutField
  counted-1 = counted-leaf
      (λ e. rw e (counted-step-1 s c.at c.left type_index type_element 0x1201 (records.fields-1 type_index 0 s c.at)))
      (λ e. rw e (counted-step-1 s c.at c.left id id_element 0x1603 (records.fields-1 id 0 s c.at)))
      (λ e. rw e (counted-step-1 s c.at c.left type_index type_element 0x1604 (records.fields-1 type_index 0 s c.at)))

  counted-not : {P : Type 0} (n : ℕ) → eqb 15 n ≡ false → among n (1 ∷ []) ≡ false → Counted c → by n (step_of s c) ≡ true → P
  unfolding step_of within among
  counted-not n h one = counted-leaf
      (λ e x. counted-step-not s c.at c.left type_index type_element 0x1201 n h one (refl & no_more) (rw e at x))
      (λ e x. counted-step-not s c.at c.left id id_element 0x1603 n h one (refl & no_more) (rw e at x))
      (λ e x. counted-step-not s c.at c.left type_index type_element 0x1604 n h one (refl & no_more) (rw e at x))

  methods-1 : c.leaf ≡ 0x1206 → Given 1 [] (step_of s c) ((c.at < length s) × AtField CutField method 0 s c.at)
  unfolding step_of
  methods-1 e = rw e (method-step-1 s c.at)

  methods-not : {P : Type 0} (n : ℕ) → eqb 15 n ≡ false → among n (1 ∷ []) ≡ false → c.leaf ≡ 0x1206 → by n (step_of s c) ≡ true → P
  unfolding step_of
  methods-not n h one e x = method-step-not s c.at n h one (rw e at x)

  members-are : c.leaf ≡ 0x1203 → step_of s c ≡ next_one
  unfolding step_of
  members-are e = rw e refl

  no-list : NoList c → step_of s c ≡ refused 10 (c.leaf ∷ [])
  unfolding step_of among
  no-list = go (eqb c.leaf 0x1201) (eqb c.leaf 0x1206) (eqb c.leaf 0x1203) (eqb c.leaf 0x1603) (eqb c.leaf 0x1604)
    where
      go : (v w x y z : Bool) → pick v true (pick w true (pick x true (pick y true (pick z true false)))) ≡ false
          → pick v (counted_step type_index type_element 0x1201 s c.at c.left)
          (pick w (method_step s c.at)
          (pick x (next_member s c.at c.left c.padded)
          (pick y (counted_step id id_element 0x1603 s c.at c.left)
          (pick z (counted_step type_index type_element 0x1604 s c.at c.left)
          (refused 10 (c.leaf ∷ [])))))) ≡ refused 10 (c.leaf ∷ [])
      go true w x y z e = off (sym e)
      go false true x y z e = off (sym e)
      go false false true y z e = off (sym e)
      go false false false true z e = off (sym e)
      go false false false false true e = off (sym e)
      go false false false false false e = refl

  no-list-not : {P : Type 0} (n : ℕ) → eqb 10 n ≡ false → NoList c → by n (step_of s c) ≡ true → P
  no-list-not n h u x = off (sym h ∙ (rw (no-list u) at x))

  -- ---- any step

  pub steps-1 : Given 1 [] (step_of s c) (CutElement s c)
  steps-1 = record {
    when = to;
    only = λ x. leaf-ways (λ a. let y = (counted-1 a).only x in inl (a, y.0, y.1)) (λ e. let y = (methods-1 e).only x in inr (inl (e, y.0, y.1))) (λ e. inr (inr (e, next-member-1.only (rw (members-are e) at x)))) (λ u. no-list-not 1 refl u x);
  }
    where
      to : CutElement s c → step_of s c ≡ refused 1 []
      to (inl (a, l, h)) = (counted-1 a).when (l, h)
      to (inr (inl (e, l, h))) = (methods-1 e).when (l, h)
      to (inr (inr (e, h))) = members-are e ∙ next-member-1.when h

  pub steps-10 : Given 10 (leaf_met s c ∷ []) (step_of s c) (((c.leaf ≡ 0x1203) × UnknownMember s c) ⊎ NoList c)
  unfolding among
  steps-10 = record {
    when = to;
    only = λ x. leaf-ways (λ a. counted-not 10 refl refl a x) (λ e. methods-not 10 refl refl e x) (λ e. inl (e, next-member-10.only (rw (members-are e) at x))) inr;
  }
    where
      not-members : (v w x y z : Bool) → pick v true (pick w true (pick x true (pick y true (pick z true false)))) ≡ false → x ≡ false
      not-members true w x y z e = off (sym e)
      not-members false true x y z e = off (sym e)
      not-members false false true y z e = off (sym e)
      not-members false false false y z e = refl

      to : ((c.leaf ≡ 0x1203) × UnknownMember s c) ⊎ NoList c → step_of s c ≡ refused 10 (leaf_met s c ∷ [])
      to (inl (e, h)) = rw (eq-eqb _ _ e) (members-are e ∙ next-member-10.when h)
      to (inr u) =
          rw (not-members (eqb c.leaf 0x1201) (eqb c.leaf 0x1206) (eqb c.leaf 0x1203) (eqb c.leaf 0x1603) (eqb c.leaf 0x1604) u)
          (no-list u)

  pub steps-11 : Given 11 [] (step_of s c) (BadElement s c)
  unfolding among
  steps-11 = record {
    when = λ (e, m, h). members-are e ∙ next-member-11.when (m, h);
    only = λ x. leaf-ways (λ a. counted-not 11 refl refl a x) (λ e. methods-not 11 refl refl e x) (λ e. let y = next-member-11.only (rw (members-are e) at x) in (e, y.0, y.1)) (λ u. no-list-not 11 refl u x);
  }

  pub steps-15 : Given 15 [] (step_of s c) (NoElement s c)
  steps-15 = record {
    when = to;
    only = λ x. leaf-ways (λ a. inl (a, (reading.counted-15 s c a).only x)) (λ e. inr (inl (e, (reading.methods-15 s c e).only x))) (λ e. inr (inr (e, (reading.members-15 s c e).only x))) (λ u. no-list-not 15 refl u x);
  }
    where
      to : NoElement s c → step_of s c ≡ refused 15 []
      to (inl (a, h)) = (reading.counted-15 s c a).when h
      to (inr (inl (e, h))) = (reading.methods-15 s c e).when h
      to (inr (inr (e, h))) = (reading.members-15 s c e).when h

-- ---- element k

module _ (s : List ℕ) where
  led-refused : {c e : ListCursor} {j n : ℕ} {d : List ℕ} (k : ℕ) → StepsLed s c j e → j ≤ k → step_of s e ≡ refused n d → element_by (step_of s) k c ≡ refused n d
  unfolding element_by
  led-refused {c = c} {n = n} {d = d} k stay l h = element-refused (step_of s) c k n d h
  led-refused zero (step x on) l h = absurd (omega arith)
  led-refused (suc k) (step x on) l h = rw x (led-refused k on (omega arith) h)

  pub elements-on-when : (k : ℕ) (c : ListCursor) (n : ℕ) (d : List ℕ) → OnTheWay (λ e. step_of s e ≡ refused n d) s c k → element_by (step_of s) k c ≡ refused n d
  elements-on-when k c n d w = led-refused k w.led w.few w.so

  later : {P : ListCursor → Type 0} {c : ListCursor} {k : ℕ} {x : Step} → step_of s c ≡ answered x → OnTheWay P s x.next k → OnTheWay P s c (suc k)
  later e w = record { steps = suc w.steps; few = (let l = w.few in omega arith); cursor = w.cursor; led = step e w.led; so = w.so }

  at_once : {P : ListCursor → Type 0} {c : ListCursor} {k : ℕ} → P c → OnTheWay P s c k
  at_once {c = c} x = record { steps = 0; few = omega arith; cursor = c; led = stay; so = x }

  -- a refusal, as one of another kind of answer
  abbrev again : {A B : Type 0} → Answer A → Answer B
  again (answered a) = refused 0 []
  again (refused n d) = refused n d

  module _ (n : ℕ) (d : List ℕ) where
    first_step : {A P : Type 0} (c : ListCursor) (f : Step → Answer A) → (step_of s c ≡ refused n d → P) → ((x : Step) → step_of s c ≡ answered x → f x ≡ refused n d → P) → then (step_of s c) f ≡ refused n d → P
    first_step {A = A} {P = P} c f here on = go (step_of s c) refl
      where
        go : (a : Answer Step) → step_of s c ≡ a → then a f ≡ refused n d → P
        go (answered x) e h = on x e h
        go (refused m ds) e h = here (e ∙ ap again h)

    pub elements-on-only : (k : ℕ) (c : ListCursor) → element_by (step_of s) k c ≡ refused n d → OnTheWay (λ e. step_of s e ≡ refused n d) s c k
    unfolding element_by
    elements-on-only zero c = first_step c _ at_once (λ x e h. let z : ◌≡◌ {A = ℕ} 0 1 = cc in absurd (omega arith))
    elements-on-only (suc k) c = first_step c _ at_once (λ x e h. later e (elements-on-only k x.next h))

  module _ (n : ℕ) (Q : ListCursor → Type 0) (each : (c : ListCursor) → Given n [] (step_of s c) (Q c)) where
    way-only : (k : ℕ) (c : ListCursor) → by n (element_by (step_of s) k c) ≡ true → OnTheWay Q s c k
    unfolding element_by
    way-only zero c = at-then n (step_of s c) _ (λ x. at_once ((each c).only x)) (λ _ _. off)
    way-only (suc k) c = at-then n (step_of s c) _ (λ x. at_once ((each c).only x)) (λ x e y. later e (way-only k x.next y))

    pub elements-on-given : (k : ℕ) (c : ListCursor) → Given n [] (element_by (step_of s) k c) (OnTheWay Q s c k)
    elements-on-given k c = record { when = λ w. led-refused k w.led w.few ((each w.cursor).when w.so); only = way-only k c }

    element-when : (tag : Stream) (k : ℕ) → FromStart Q tag s k → element_of tag s k ≡ refused n []
    unfolding element_of
    element-when tag k w = rw w.started ((elements-on-given k w.first).when w.way)

    element-only : (tag : Stream) (k : ℕ) → by n (element_of tag s k) ≡ true → (by n (start_of tag s) ≡ true) ⊎ FromStart Q tag s k
    unfolding element_of
    element-only tag k = at-then n (start_of tag s) _ inl (λ c e x. inr (record { first = c; started = e; way = way-only k c x }))

    pub elements-given : (tag : Stream) (k : ℕ) → by n (start_of tag s) ≡ false → Given n [] (element_of tag s k) (FromStart Q tag s k)
    elements-given tag k h = record { when = element-when tag k; only = λ x. go (element-only tag k x) }
      where
        go : (by n (start_of tag s) ≡ true) ⊎ FromStart Q tag s k → FromStart Q tag s k
        go (inl e) = off (sym h ∙ e)
        go (inr w) = w

  start-1 : (tag : Stream) → by 1 (start_of tag s) ≡ true → start_of tag s ≡ refused 1 []
  start-1 stream.Types e = (type-lists-1 s).when ((type-lists-1 s).only e)
  start-1 stream.Ids e = (id-lists-1 s).when ((id-lists-1 s).only e)

  pub elements-start : (tag : Stream) (k n : ℕ) (d : List ℕ) → start_of tag s ≡ refused n d → element_of tag s k ≡ refused n d
  unfolding element_of
  elements-start tag k n d e = rw e refl

  pub elements-when : (tag : Stream) (k n : ℕ) (d : List ℕ) → FromStart (λ e. step_of s e ≡ refused n d) tag s k → element_of tag s k ≡ refused n d
  unfolding element_of
  elements-when tag k n d w = rw w.started (elements-on-when k w.first n d w.way)

  pub elements-only : (tag : Stream) (k n : ℕ) (d : List ℕ) → element_of tag s k ≡ refused n d → (start_of tag s ≡ refused n d) ⊎ FromStart (λ e. step_of s e ≡ refused n d) tag s k
  unfolding element_of
  elements-only tag k n d = go (start_of tag s) refl
    where
      go : (a : Answer ListCursor) → start_of tag s ≡ a → then a (λ c. element_by (step_of s) k c) ≡ refused n d → (start_of tag s ≡ refused n d) ⊎ FromStart (λ e. step_of s e ≡ refused n d) tag s k
      go (answered c) e h = inr (record { first = c; started = e; way = elements-on-only n d k c h })
      go (refused m ds) e h = inl (e ∙ ap again h)

  pub elements-1 : (tag : Stream) (k : ℕ) → Given 1 [] (element_of tag s k) ((start_of tag s ≡ refused 1 []) ⊎ FromStart (CutElement s) tag s k)
  elements-1 tag k = record { when = to; only = λ x. back (element-only 1 (CutElement s) (steps-1 s) tag k x) }
    where
      to : (start_of tag s ≡ refused 1 []) ⊎ FromStart (CutElement s) tag s k → element_of tag s k ≡ refused 1 []
      to (inl e) = elements-start tag k 1 [] e
      to (inr w) = element-when 1 (CutElement s) (steps-1 s) tag k w

      back : (by 1 (start_of tag s) ≡ true) ⊎ FromStart (CutElement s) tag s k → (start_of tag s ≡ refused 1 []) ⊎ FromStart (CutElement s) tag s k
      back (inl e) = inl (start-1 tag e)
      back (inr w) = inr w

  pub elements-11 : (tag : Stream) (k : ℕ) → Given 11 [] (element_of tag s k) (FromStart (BadElement s) tag s k)
  unfolding among
  elements-11 tag k = elements-given 11 (BadElement s) (steps-11 s) tag k (not-by 11 refl (start-refuses tag s))

  pub elements-15 : (tag : Stream) (k : ℕ) → Given 15 [] (element_of tag s k) (FromStart (NoElement s) tag s k)
  unfolding among
  elements-15 tag k = elements-given 15 (NoElement s) (steps-15 s) tag k (not-by 15 refl (start-refuses tag s))
