-- The references from the values are those of the bytes, for every layout in which nothing refers behind a field of no fixed width, and
-- every layout of the tables is so. Assumes nothing.
use Rattle.std.specs.Prelude.{Option, None, Some}
use Prim.Native.Nat.{ℕ, ◌+◌, ◌-◌}
use native.Mathlib.Omega.{arith}
use mathlib.Core.Bool.{Bool, true, false}
use mathlib.Core.Path.{◌≡◌, refl, ap, sym, ◌∙◌}
use mathlib.Core.List.{List, [], ◌∷◌, ◌++◌}
use lib.ListN.{length}
use lib.Dec.{leb, eqb}
use borrow.Author.Tests.{eqb-true}
use Rattle.answer.specs.Answer.{Answer, answered, refused, Read, got, ended, pick, both, stop, then, and_then}
use Rattle.answer.specs.Tables.{◌is◌, find}
use Rattle.field.specs.Fields.{little_at, fixed_at}
use Rattle.field.specs.Indices.{no_type, no_id, optional_of, optional_at}
use Rattle.field_text.specs.Texts.{padding_after}
use Rattle.record_layout.specs.Fields.{Shown, number, Field, fixed, type, id, string_reference, optional_type, optional_id, word, gap, numeric, size, string, run, methods, members, when, read_field, read_field_by, read_fields, read_fields_by, word_after}
use Rattle.record_layout.specs.Layouts.{Layout, Table, type_index, type_leaves, member_leaves, method, by_layout, read_leaf, leaf_of, read_record, record_of}
use Rattle.record_member.specs.Said.{member_leaf}
use Rattle.record_list.specs.declared.ListCursor.{ListCursor}
use Rattle.record_list.specs.Lists.{ElementValues, type_element, id_element, method_element, member_element, Step, step_to, in_counted, to_the_end, after_member, counted_step, method_step, left_after, member_step, next_member, start_types, step_of}
use Rattle.record_reference.specs.References.{Ref, refs_field, refs_fields, by_refs, refs_leaf, refs_record, or_none, refs_at, refs_list, refs_of}
use Rattle.record_reference.specs.Values.{width_of, refers, on_by, refs_in, none_refers, or_bare, fixed_first, all_fixed, behind, in_layout, refs_by, element_refs, or_behind, fields_at}

true-false : {X : Type 0} → true ≡ false → X
true-false e = let z : ◌≡◌ {A = ℕ} 0 1 = cc in absurd (omega arith)

first_of : (a b : Bool) → both a b ≡ true → a ≡ true
first_of true b h = refl
first_of false b h = h

second-of : (a b : Bool) → both a b ≡ true → b ≡ true
second-of true b h = h
second-of false b h = true-false (sym h)

-- Which fields refer -------------------------------------------------------------------------------------------------------------

none-but : (f : Field) (p : ℕ) (v : Shown) → refers f ≡ false → refs_field f p v ≡ []
unfolding refs_field
none-but type p v e = true-false e
none-but optional_type p v e = true-false e
none-but (when there f) p v e = none-but f p v e
none-but (run k) p v e = refl
none-but id p v e = refl
none-but string_reference p v e = refl
none-but optional_id p v e = refl
none-but (fixed k) p v e = refl
none-but (word k good) p v e = refl
none-but (gap k) p v e = refl
none-but numeric p v e = refl
none-but size p v e = refl
none-but string p v e = refl
none-but methods p v e = refl
none-but members p v e = refl

bare-none : (fs : Layout) (vs : List Shown) (p : ℕ) → none_refers fs ≡ true → refs_in fs vs p ≡ []
unfolding refs_in
bare-none [] vs p h = refl
bare-none (f ∷ fs) [] p h = refl
bare-none (f ∷ fs) (v ∷ vs) p h = go (refers f) refl h (λ q g. bare-none fs vs q g)
  where
    on : (o : Option ℕ) → ((q : ℕ) → refs_in fs vs q ≡ []) → on_by o (refs_in fs vs) p ≡ []
    on None i = refl
    on (Some k) i = i (p + k)

    go : (b : Bool) → refers f ≡ b → pick b false (none_refers fs) ≡ true → ((q : ℕ) → none_refers fs ≡ true → refs_in fs vs q ≡ []) → refs_field f p v ++ on_by (width_of f) (refs_in fs vs) p ≡ []
    go true e g ih = true-false (sym g)
    go false e g ih = rw (none-but f p v e) (on (width_of f) (λ q. ih q g))

-- Where fields end ---------------------------------------------------------------------------------------------------------------

abbrev Ends : {A : Type 0} → ℕ → Read A → Type 0
Ends q (answered g) = g.next ≡ q
Ends q (refused n d) = Unit

ends-then : {A B : Type 0} (q : ℕ) (a : Read A) (f : A → ℕ → Read B) → Ends q a → ((v : A) (m : ℕ) → m ≡ q → Ends q (f v m)) → Ends q (and_then a f)
ends-then q (answered g) f h k = k g.value g.next h
ends-then q (refused n d) f h k = tt

fixed-ends : {A : Type 0} (k : ℕ) (s : List ℕ) (p : ℕ) (f : ℕ → ℕ → Read A) → ((v m : ℕ) → m ≡ p + k → Ends (p + k) (f v m)) → Ends (p + k) (and_then (fixed_at k s p) f)
unfolding fixed_at
fixed-ends k s p f h = ends-then (p + k) (fixed_at k s p) f (go (leb (p + k) (length s))) h
  where
    go : (b : Bool) → Ends (p + k) (pick b (got (little_at k s p) (p + k)) ended)
    go true = refl
    go false = tt

-- a field of a fixed width ends behind it
abbrev EndsBy : {A : Type 0} → Option ℕ → ℕ → Read A → Type 0
EndsBy None p a = Unit
EndsBy (Some k) p a = Ends (p + k) a

width-ends : (f : Field) (w : ℕ) (s : List ℕ) (p : ℕ) → EndsBy (width_of f) p (read_field f w s p)
unfolding read_field_by optional_at
width-ends (fixed k) w s p = fixed-ends k s p _ (λ v m e. e)
width-ends type w s p = fixed-ends 4 s p _ (λ v m e. e)
width-ends id w s p = fixed-ends 4 s p _ (λ v m e. e)
width-ends string_reference w s p = fixed-ends 4 s p _ (λ v m e. e)
width-ends optional_type w s p = ends-then (p + 4) (and_then (fixed_at 4 s p) (λ n q. got (optional_of no_type n) q)) _ (fixed-ends 4 s p _ (λ v m e. e)) (λ v m e. e)
width-ends optional_id w s p = ends-then (p + 4) (and_then (fixed_at 4 s p) (λ n q. got (optional_of no_id n) q)) _ (fixed-ends 4 s p _ (λ v m e. e)) (λ v m e. e)
width-ends (word k good) w s p = fixed-ends k s p _ (λ n m e. go (good n) n m e)
  where
    go : (b : Bool) (n m : ℕ) → m ≡ p + k → Ends (p + k) (pick b (got {A = Shown} (number n) m) (refused 12 []))
    go true n m e = e
    go false n m e = tt
width-ends (gap k) w s p = fixed-ends k s p _ (λ v m e. e)
width-ends numeric w s p = tt
width-ends size w s p = tt
width-ends string w s p = tt
width-ends (run e) w s p = tt
width-ends methods w s p = tt
width-ends members w s p = tt
width-ends (when there f) w s p = tt

-- The law ------------------------------------------------------------------------------------------------------------------------

pub fields-tell : (fs : Layout) (w : ℕ) (s : List ℕ) (p : ℕ) → fixed_first fs ≡ true → refs_fields fs w s p ≡ and_then (read_fields fs w s p) (λ vs e. got (refs_in fs vs p) e)
unfolding refs_fields read_fields_by refs_in
fields-tell [] w s p h = refl
fields-tell (f ∷ fs) w s p h =
    go (read_field f w s p) (width-ends f w s p) (λ v q. fields-tell fs (word_after f v w) s q (second-of (or_bare (width_of f) fs) (fixed_first fs) h))
  where
    on : (o : Option ℕ) (v : Shown) (q : ℕ) (vs : List Shown) → or_bare o fs ≡ true → EndsBy {A = Shown} o p (got v q) → refs_in fs vs q ≡ on_by o (refs_in fs vs) p
    on None v q vs b e = bare-none fs vs q b
    on (Some k) v q vs b e = ap (refs_in fs vs) e

    rest : (v : Shown) (q : ℕ) → EndsBy {A = Shown} (width_of f) p (got v q) → (a : Read (List Shown))
        → and_then (and_then a (λ vs e. got (refs_in fs vs q) e)) (λ rs e. got (refs_field f p v ++ rs) e)
        ≡ and_then (and_then a (λ vs e. got (v ∷ vs) e)) (λ vs e. got (refs_in (f ∷ fs) vs p) e)
    rest v q e (answered g) = ap (λ l. got (refs_field f p v ++ l) g.next) (on (width_of f) v q g.value (first_of (or_bare (width_of f) fs) (fixed_first fs) h) e)
    rest v q e (refused n d) = refl

    go : (a : Read Shown) → EndsBy (width_of f) p a
        → ((v : Shown) (q : ℕ) → refs_fields fs (word_after f v w) s q ≡ and_then (read_fields fs (word_after f v w) s q) (λ vs e. got (refs_in fs vs q) e))
        → and_then a (λ v q. and_then (refs_fields fs (word_after f v w) s q) (λ rs e. got (refs_field f p v ++ rs) e))
        ≡ and_then (and_then a (λ v q. and_then (read_fields fs (word_after f v w) s q) (λ vs e. got (v ∷ vs) e))) (λ vs e. got (refs_in (f ∷ fs) vs p) e)
    go (answered g) e ih = rw (ih g.value g.next) (rest g.value g.next e (read_fields fs (word_after f g.value w) s g.next))
    go (refused n d) e ih = refl

-- of a leaf, of a record
pub types-fixed : all_fixed type_leaves ≡ true
unfolding type_leaves
types-fixed = refl

pub members-fixed : all_fixed member_leaves ≡ true
unfolding member_leaves
members-fixed = refl

found : (table : Table) (leaf : ℕ) (fs : Layout) → all_fixed table ≡ true → find leaf table ≡ Some fs → fixed_first fs ≡ true
unfolding find
found [] leaf fs a e = let z : ◌≡◌ {A = ℕ} 0 1 = cc in absurd (omega arith)
found ((n is gs) ∷ ls) leaf fs a e = go (eqb leaf n) e (found ls leaf fs (second-of (fixed_first gs) (all_fixed ls) a))
  where
    go : (b : Bool) → pick b (Some gs) (find leaf ls) ≡ Some fs → (find leaf ls ≡ Some fs → fixed_first fs ≡ true) → fixed_first fs ≡ true
    go true f ih = let g : gs ≡ fs = cc in rw g at (first_of (fixed_first gs) (all_fixed ls) a)
    go false f ih = ih f

module _ (table : Table) (fixed : all_fixed table ≡ true) (s : List ℕ) where
  leaf-tell : (leaf p : ℕ) → refs_leaf table leaf s p ≡ and_then (read_leaf table leaf s p) (λ vs e. got (refs_by table vs p) e)
  unfolding refs_leaf read_leaf refs_by
  leaf-tell leaf p = go (find leaf table) refl
    where
      by : (fs : Layout) → find leaf table ≡ Some fs → (a : Read (List Shown))
          → and_then a (λ vs e. got (refs_in fs vs p) e) ≡ and_then (and_then a (λ vs e. got (number leaf ∷ vs) e)) (λ vs e. got (in_layout (find (member_leaf vs) table) (behind vs) p) e)
      by fs e (answered g) = rw e
      by fs e (refused n d) = refl

      go : (o : Option Layout) → find leaf table ≡ o → by_refs o leaf s p ≡ and_then (by_layout o leaf s p) (λ vs e. got (in_layout (find (member_leaf vs) table) (behind vs) p) e)
      go None e = refl
      go (Some fs) e = fields-tell fs 0 s p (found table leaf fs fixed e) ∙ by fs e (read_fields fs 0 s p)

  pub record-tell : (p : ℕ) → refs_record table s p ≡ and_then (read_record table s p) (λ vs e. got (refs_by table vs (p + 2)) e)
  unfolding refs_record read_record fixed_at
  record-tell p = go (leb (p + 2) (length s))
    where
      go : (b : Bool) → and_then (pick b (got (little_at 2 s p) (p + 2)) ended) (λ leaf q. refs_leaf table leaf s q)
          ≡ and_then (and_then (pick b (got (little_at 2 s p) (p + 2)) ended) (λ leaf q. read_leaf table leaf s q)) (λ vs e. got (refs_by table vs (p + 2)) e)
      go true = leaf-tell (little_at 2 s p) (p + 2)
      go false = refl

-- The payload --------------------------------------------------------------------------------------------------------------------

-- the references of a payload, over its record as it is read
pub payload-tell : (s : List ℕ) → refs_of s ≡ then (record_of type_leaves s) (λ vs. then (refs_list s (start_types s)) (λ rs. answered (refs_by type_leaves vs 2 ++ rs)))
unfolding refs_of record_of leaf_of read_record fixed_at
payload-tell s = rw (record-tell type_leaves types-fixed s 0) (go (leb (0 + 2) (length s)))
  where
    go : (b : Bool)
        → and_then (and_then (and_then (pick b (got (little_at 2 s 0) (0 + 2)) ended) (λ leaf q. read_leaf type_leaves leaf s q)) (λ vs e. got (refs_by type_leaves vs (0 + 2)) e))
        (λ own e. then (refs_list s (start_types s)) (λ rs. answered (own ++ rs)))
        ≡ then (and_then (pick b (got (little_at 2 s 0) (0 + 2)) ended) (λ leaf p. and_then (read_leaf type_leaves leaf s p) (λ vs e. answered vs)))
        (λ vs. then (refs_list s (start_types s)) (λ rs. answered (refs_by type_leaves vs 2 ++ rs)))
    go true = by (read_leaf type_leaves (little_at 2 s 0) s 2)
      where
        by : (a : Read (List Shown)) → and_then (and_then a (λ vs e. got (refs_by type_leaves vs 2) e)) (λ own e. then (refs_list s (start_types s)) (λ rs. answered (own ++ rs)))
            ≡ then (and_then a (λ vs e. answered vs)) (λ vs. then (refs_list s (start_types s)) (λ rs. answered (refs_by type_leaves vs 2 ++ rs)))
        by (answered g) = refl
        by (refused n d) = refl
    go false = refl

-- An element -----------------------------------------------------------------------------------------------------------------------

pub no_answer : {X A : Type 0} {n : ℕ} {d : List ℕ} {a : A} → ◌≡◌ {A = Answer A} (refused n d) (answered a) → X
no_answer {X} {A} {n} {d} {a} h = let z : ◌≡◌ {A = ℕ} 0 1 = cc in absurd (omega arith)

element-tell : (b : Bool) (a : Read (List Shown)) (el : List Shown → ElementValues) (nx : List Shown → ℕ → ListCursor) (x : Step) (p : ℕ) (r : Read (List Ref))
    → r ≡ and_then a (λ vs e. got (element_refs (el vs) p) e) → stop b 15 (and_then a (λ vs e. step_to (el vs) (nx vs e))) ≡ answered x → or_none r ≡ element_refs x.element p
element-tell true a el nx x p r e h = no_answer h
element-tell false (answered g) el nx x p r e h = ap or_none e ∙ ap (λ (y : Step). element_refs y.element p) (taken h)
  where
    taken : step_to (el g.value) (nx g.value g.next) ≡ answered x → record { element = el g.value; next = nx g.value g.next } ≡ x
    taken i = cc
element-tell false (refused n d) el nx x p r e h = no_answer h

-- the references of an element that is read are those of its values
pub step-tell : (s : List ℕ) (c : ListCursor) (x : Step) → step_of s c ≡ answered x → refs_at s c ≡ element_refs x.element (fields_at s c)
unfolding step_of counted_step method_step next_member member_step read_record fixed_at refs_at element_refs fields_at
step-tell s c x = go (eqb c.leaf 0x1201) (eqb c.leaf 0x1206) (eqb c.leaf 0x1203) (eqb c.leaf 0x1603) (eqb c.leaf 0x1604) refl refl refl refl refl
  where
    types : (leaf : ℕ) → counted_step type_index type_element leaf s c.at c.left ≡ answered x → or_none (refs_fields (type_index ∷ []) 0 s c.at) ≡ element_refs x.element c.at
    types leaf = element-tell (eqb c.left 0) (read_fields (type_index ∷ []) 0 s c.at) type_element (λ vs e. in_counted leaf e (c.left - 1)) x c.at _ (fields-tell (type_index ∷ []) 0 s c.at refl)

    member : (q : ℕ) → member_step s q ≡ answered x → or_none (refs_record member_leaves s q) ≡ element_refs x.element (q + 2)
    member q = element-tell (leb (length s) q) (read_record member_leaves s q) member_element (λ vs e. after_member e (left_after vs)) x (q + 2) _ (record-tell member_leaves members-fixed s q)

    -- the leaf of a member that is read is there
    leaf-there : (q : ℕ) (a b : Bool) → stop a 15 (and_then (and_then (pick b (got (little_at 2 s q) (q + 2)) ended) (λ leaf e. read_leaf member_leaves leaf s e))
        (λ vs e. step_to (member_element vs) (after_member e (left_after vs)))) ≡ answered x → q + 2 ≡ pick b (q + 2) 0
    leaf-there q true b h = no_answer h
    leaf-there q false true h = refl
    leaf-there q false false h = no_answer h

    next : (b : Bool) (a : Answer ℕ) → stop b 15 (then a (λ q. member_step s q)) ≡ answered x
        → or_none (then a (λ q. refs_record member_leaves s q)) ≡ element_refs x.element (or_behind (length s) a)
    next true a h = no_answer h
    next false (answered q) h = member q h ∙ ap (element_refs x.element) (leaf-there q (leb (length s) q) (leb (q + 2) (length s)) h)
    next false (refused n d) h = no_answer h

    -- no leaf of another list is a member list's
    other : (n : ℕ) → eqb c.leaf n ≡ true → eqb n 0x1203 ≡ false → eqb c.leaf 0x1203 ≡ false
    other n h k = rw (eqb-true c.leaf n h) k

    go : (a b d e g : Bool) → eqb c.leaf 0x1201 ≡ a → eqb c.leaf 0x1206 ≡ b → eqb c.leaf 0x1203 ≡ d → eqb c.leaf 0x1603 ≡ e → eqb c.leaf 0x1604 ≡ g
        → pick a (counted_step type_index type_element 0x1201 s c.at c.left) (pick b (method_step s c.at) (pick d (next_member s c.at c.left c.padded)
        (pick e (counted_step id id_element 0x1603 s c.at c.left) (pick g (counted_step type_index type_element 0x1604 s c.at c.left) (refused 10 (c.leaf ∷ [])))))) ≡ answered x
        → refs_at s c ≡ element_refs x.element (fields_at s c)
    go true b d e g i j k l m h = rw (i, other 0x1201 i refl) (types 0x1201 h)
    go false true d e g i j k l m h =
        rw (i, j, other 0x1206 j refl)
        (element-tell (leb (length s) c.at) (read_fields method 0 s c.at) method_element (λ vs e. to_the_end 0x1206 e) x c.at _ (fields-tell method 0 s c.at refl) h)
    go false false true e g i j k l m h = rw (i, j, k) (next (eqb c.left 0) (pick c.padded (padding_after s c.at) (answered c.at)) h)
    go false false false true g i j k l m h = rw (i, j, k, l) (ids (eqb c.left 0) (read_fields (id ∷ []) 0 s c.at) h)
      where
        ids : (b : Bool) (a : Read (List Shown)) → stop b 15 (and_then a (λ vs e. step_to (id_element vs) (in_counted 0x1603 e (c.left - 1)))) ≡ answered x → [] ≡ element_refs x.element c.at
        ids true a h = no_answer h
        ids false (answered v) h = let z : record { element = id_element v.value; next = in_counted 0x1603 v.next (c.left - 1) } ≡ x = cc in ap (λ (y : Step). element_refs y.element c.at) z
        ids false (refused n d) h = no_answer h
    go false false false false true i j k l m h = rw (i, j, k, l) (types 0x1604 h)
    go false false false false false i j k l m h = no_answer h
