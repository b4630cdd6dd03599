-- The main law of a payload: with its references rewritten it is read to the same record but for the references, has the same list with the
-- same elements but for theirs, and the same references, renumbered. Assumes nothing.
use Prim.Native.Nat.{ℕ, ◌+◌, ◌*◌, ◌≤◌, ◌<◌}
use native.Mathlib.Omega.{arith}
use mathlib.Core.Bool.{Bool, true, false}
use mathlib.Core.Path.{◌≡◌, refl, ap, sym, ◌∙◌}
use mathlib.Core.List.{List, [], ◌∷◌, ◌++◌, append-nil}
use lib.ListN.{length}
use lib.Dec.{leb, ltb, eqb}
use borrow.Author.Tests.{leb-true, leb-false, le-ltb, ltb-false, eqb-true}
use Rattle.answer.specs.Answer.{Answer, answered, refused, got, then, and_then}
use Rattle.answer.specs.Tables.{find}
use Rattle.field.specs.Fields.{little_at, fixed_at}
use Rattle.field.specs.Runs.{bytes_after}
use Rattle.field.proofs.FieldLaws.{field-got, field-there, field-ended}
use Rattle.record_layout.specs.Fields.{Shown, number, absent, many, read_field_by, read_fields_by}
use Rattle.record_layout.specs.Layouts.{Table, type_leaves, read_leaf, read_record, leaf_of, record_of}
use Rattle.record_list.specs.declared.ListCursor.{ListCursor}
use Rattle.record_list.specs.Lists.{in_counted, to_the_end, counted_by, counted_list, start_types, start_of, element_of}
use Rattle.record_reference.specs.References.{Ref, refs_field, refs_fields, refs_leaf, refs_record, refs_from, refs_list, refs_of}
use Rattle.record_reference.specs.Values.{refs_by}
use Rattle.record_reference.proofs.ValueLaws.{no_answer, types-fixed, record-tell}
use Rattle.record_rewrite.specs.Rewrite.{Within, Stand, Agree, Moved, moved_value, moved_values, moved_record}
use Rattle.record_rewrite.specs.Kept.{Kept}
use Rattle.record_rewrite.proofs.Taken.{from}
use Rattle.record_rewrite.proofs.Settled.{little-alike, fixed-settled}
use Rattle.record_rewrite.proofs.Places.{within-sooner, within-later, moved-short, moved-from, moved-until}
use Rattle.record_rewrite.proofs.Carried.{Carried}
use Rattle.record_rewrite.proofs.Owned.{record-owned}
use Rattle.record_rewrite.proofs.Lists.{list-carried}

-- what is known of s, whatever t is
pub record Known (f : ℕ → ℕ) (s : List ℕ) (rs : List Ref) : Type 0 where
  pub within : Within 2 rs (length s)
  pub stands : Stand s rs
  pub kept : (t : List ℕ) → length t ≡ length s → Moved f s t 0 rs (length s) → Kept f s rs t

-- A record with a list: it has no references of its own --------------------------------------------------------------------------------

record Begins (vs : List Shown) (c : ListCursor) (t : List ℕ) : Type 0 where
  refs : refs_of t ≡ refs_from (length t) t c
  fields : record_of type_leaves t ≡ answered vs
  start : start_types t ≡ answered c

list-only : (t : List ℕ) (e : ℕ) (c : ListCursor) → refs_record type_leaves t 0 ≡ got [] e → start_types t ≡ answered c → refs_of t ≡ refs_from (length t) t c
unfolding refs_of
list-only t e c h i = rw (h, i) (go (refs_from (length t) t c))
  where
    go : (a : Answer (List Ref)) → then a (λ rs. answered rs) ≡ a
    go (answered rs) = refl
    go (refused n d) = refl

methods-begin : (t : List ℕ) → fixed_at 2 t 0 ≡ got 0x1206 2 → Begins (number 0x1206 ∷ absent ∷ []) (to_the_end 0x1206 2) t
unfolding start_types record_of leaf_of read_leaf type_leaves find read_fields_by read_field_by refs_record refs_leaf refs_fields refs_field
methods-begin t h = record { refs = list-only t 2 (to_the_end 0x1206 2) (rw h) (rw h); fields = rw h; start = rw h }

members-begin : (t : List ℕ) → fixed_at 2 t 0 ≡ got 0x1203 2 → Begins (number 0x1203 ∷ absent ∷ []) (to_the_end 0x1203 2) t
unfolding start_types record_of leaf_of read_leaf type_leaves find read_fields_by read_field_by refs_record refs_leaf refs_fields refs_field
members-begin t h = record { refs = list-only t 2 (to_the_end 0x1203 2) (rw h) (rw h); fields = rw h; start = rw h }

-- of 0x1201 the count is read, and the run's bytes are there
abbrev counts : ℕ → List Shown
counts n = number 0x1201 ∷ number n ∷ many (record { place = 6; length = 4 * n }) ∷ []

types-begin : (n : ℕ) (t : List ℕ) → fixed_at 2 t 0 ≡ got 0x1201 2 → little_at 4 t 2 ≡ n → 6 + 4 * n ≤ length t → Begins (counts n) (in_counted 0x1201 6 n) t
unfolding start_types counted_list counted_by record_of leaf_of read_leaf type_leaves find read_fields_by read_field_by bytes_after refs_record refs_leaf refs_fields refs_field
types-begin n t h i r =
    let k : fixed_at 4 t 2 ≡ got n 6 = sym (field-there 4 t 2 n (omega arith) (sym i)) in
    let l = le-ltb _ _ r in
    record { refs = list-only t (6 + 4 * n) (in_counted 0x1201 6 n) (rw (h, k, l)) (rw (h, k, l)); fields = rw (h, k, l); start = rw (h, k, l) }

types-room : (s : List ℕ) (own : List Ref) (e : ℕ) → fixed_at 2 s 0 ≡ got 0x1201 2 → refs_record type_leaves s 0 ≡ got own e → 6 + 4 * little_at 4 s 2 ≤ length s
unfolding type_leaves find read_field_by bytes_after refs_record refs_leaf refs_fields refs_field
types-room s own e at h = go (leb 6 (length s)) (ltb (length s) (6 + 4 * little_at 4 s 2)) refl refl
  where
    go : (a b : Bool) → leb 6 (length s) ≡ a → ltb (length s) (6 + 4 * little_at 4 s 2) ≡ b → 6 + 4 * little_at 4 s 2 ≤ length s
    go false b i j = let k : length s < 6 = leb-false _ _ i in no_answer (rw (at, sym (field-ended 4 s 2 k)) at h)
    go true true i j = let k : 6 ≤ length s = leb-true _ _ i in no_answer (rw (at, sym (field-there 4 s 2 (little_at 4 s 2) k refl), j) at h)
    go true false i j = ltb-false _ _ j

-- A record without a list ----------------------------------------------------------------------------------------------------------------

own-only : (t : List ℕ) (rs : List Ref) (e n : ℕ) (d : List ℕ) → refs_record type_leaves t 0 ≡ got rs e → start_types t ≡ refused n d → refs_of t ≡ answered rs
unfolding refs_of
own-only t rs e n d h i = rw (h, i) (ap answered (append-nil rs))

record-read : (table : Table) (s : List ℕ) (vs : List Shown) (e : ℕ) → read_record table s 0 ≡ got vs e → record_of table s ≡ answered vs
unfolding read_record record_of leaf_of
record-read table s vs e h =
    let u = from (fixed_at 2 s 0) (λ leaf q. read_leaf table leaf s q) _ h in
    go u.value u.place u.was u.gives
  where
    go : (leaf q : ℕ) → fixed_at 2 s 0 ≡ got leaf q → read_leaf table leaf s q ≡ got vs e
        → and_then (fixed_at 2 s 0) (λ leaf q. and_then (read_leaf table leaf s q) (λ vs e. answered vs)) ≡ answered vs
    go leaf q i j = rw (i, j)

starts_none : (leaf : ℕ) (t : List ℕ) → eqb leaf 0x1201 ≡ false → eqb leaf 0x1206 ≡ false → eqb leaf 0x1203 ≡ false → fixed_at 2 t 0 ≡ got leaf 2 → start_types t ≡ refused 10 (leaf ∷ [])
unfolding start_types
starts_none leaf t n1 n6 n3 h = rw (h, n1, n6, n3)

-- Whatever payload --------------------------------------------------------------------------------------------------------------------------

module _ (f : ℕ → ℕ) (s : List ℕ) (rs : List Ref) (h : refs_of s ≡ answered rs) where
  with-list : (vs : List Shown) (c : ListCursor) → moved_record f type_leaves vs ≡ vs → 2 ≤ c.at → c.at ≤ length s
      → ((t : List ℕ) → length t ≡ length s → Agree s t 0 c.at → Begins vs c t) → Known f s rs
  unfolding element_of start_of
  with-list vs c stays low high begins =
      let b = begins s refl (λ i x y. refl) in
      let l = list-carried f s (length s) c rs high (omega arith) (sym b.refs ∙ h) in
      record {
        within = within-sooner rs 2 c.at (length s) low l.within;
        stands = l.stands;
        kept = λ t e m.
            let g = begins t e (moved-short f s t rs 0 c.at (length s) (omega arith) l.within m) in
            let n = moved-from f s t rs 0 c.at (length s) (omega arith) m in
            record {
              refs = g.refs ∙ rw e (l.names t e n);
              fields = rw (g.fields, b.fields, stays);
              start = g.start ∙ sym b.start;
              elements = λ k. rw (g.start, b.start) (l.elements t e n k);
            };
      }

  module _ (leaf : ℕ) (at : fixed_at 2 s 0 ≡ got leaf 2) (room : 2 ≤ length s) where
    leaf-alike : (t : List ℕ) → length t ≡ length s → Agree s t 0 2 → fixed_at 2 t 0 ≡ got leaf 2
    leaf-alike t l a = (fixed-settled 2 s 0 leaf 2 at).alike t l a

    methods-known : leaf ≡ 0x1206 → Known f s rs
    unfolding type_leaves find moved_record moved_values moved_value
    methods-known i = with-list (number 0x1206 ∷ absent ∷ []) (to_the_end 0x1206 2) refl (omega arith) room (λ t l a. methods-begin t (leaf-alike t l a ∙ ap (λ x. got x 2) i))

    members-known : leaf ≡ 0x1203 → Known f s rs
    unfolding type_leaves find moved_record moved_values moved_value
    members-known i = with-list (number 0x1203 ∷ absent ∷ []) (to_the_end 0x1203 2) refl (omega arith) room (λ t l a. members-begin t (leaf-alike t l a ∙ ap (λ x. got x 2) i))

    types-known : leaf ≡ 0x1201 → (own : List Ref) (e : ℕ) → refs_record type_leaves s 0 ≡ got own e → Known f s rs
    unfolding type_leaves find moved_record moved_values moved_value
    types-known i own e r =
        let n = little_at 4 s 2 in
        let k : 6 + 4 * n ≤ length s = types-room s own e (at ∙ ap (λ x. got x 2) i) r in
        with-list (counts n) (in_counted 0x1201 6 n) refl (omega arith) (omega arith)
        (λ t l a. types-begin n t (leaf-alike t l (λ j x y. a j x (omega arith)) ∙ ap (λ x. got x 2) i) (little-alike 4 s t 2 (λ j x y. a j (omega arith) y)) (omega arith))

    no-list : eqb leaf 0x1201 ≡ false → eqb leaf 0x1206 ≡ false → eqb leaf 0x1203 ≡ false → (own : List Ref) (e : ℕ) → refs_record type_leaves s 0 ≡ got own e → Known f s rs
    unfolding element_of start_of
    no-list n1 n6 n3 own e r =
        let u = from (read_record type_leaves s 0) (λ vs e. got (refs_by type_leaves vs (0 + 2)) e) _ (sym (record-tell type_leaves types-fixed s 0) ∙ r) in
        let o = record-owned f type_leaves s 0 u.value u.place u.was in
        let i : answered o.refs ≡ answered rs = sym (own-only s o.refs u.place 10 (leaf ∷ []) o.are (none s at)) ∙ h in
        let z : o.refs ≡ rs = cc in
        go u.value u.place u.was o.refs z o.free o.carried
      where
        none : (t : List ℕ) → fixed_at 2 t 0 ≡ got leaf 2 → start_types t ≡ refused 10 (leaf ∷ [])
        none t j = starts_none leaf t n1 n6 n3 j

        go : (vs : List Shown) (e : ℕ) → read_record type_leaves s 0 ≡ got vs e → (us : List Ref) → us ≡ rs → Within (0 + 2) us e
            → Carried f s 0 (moved_record f type_leaves vs) us e (λ t. read_record type_leaves t 0) (λ t. refs_record type_leaves t 0) → Known f s rs
        go vs e r us z w c =
            let k : Carried f s 0 (moved_record f type_leaves vs) rs e (λ t. read_record type_leaves t 0) (λ t. refs_record type_leaves t 0) = rw z at c in
            let v : Within 2 rs e = rw z at w in
            let x : Within 2 rs (length s) = within-later rs 2 e (length s) k.inside v in
            record {
              within = x;
              stands = k.stands;
              kept = λ t l m.
                  let j : fixed_at 2 t 0 ≡ got leaf 2 = leaf-alike t l (moved-short f s t rs 0 2 (length s) (omega arith) x m) in
                  let n = moved-until f s t rs 0 e (length s) k.within k.inside m in
                  record {
                    refs = own-only t _ e 10 (leaf ∷ []) (k.names t l n) (none t j);
                    fields = rw (record-read type_leaves t _ e (k.reads t l n), record-read type_leaves s vs e r);
                    start = none t j ∙ sym (none s at);
                    elements = λ i. rw (none t j, none s at);
                  };
            }

  pub known : Known f s rs
  unfolding refs_of refs_record
  known =
      let u = from (refs_record type_leaves s 0) (λ own e. then (refs_list s (start_types s)) (λ rs. answered (own ++ rs))) _ h in
      let v = from (fixed_at 2 s 0) (λ leaf q. refs_leaf type_leaves leaf s q) _ u.was in
      let g = field-got 2 s 0 v.value v.place v.was in
      by v.value (v.was ∙ ap (got v.value) g.next) g.room u.value u.place u.was (eqb v.value 0x1201) (eqb v.value 0x1206) (eqb v.value 0x1203) refl refl refl
    where
      by : (leaf : ℕ) → fixed_at 2 s 0 ≡ got leaf 2 → 2 ≤ length s → (own : List Ref) (e : ℕ) → refs_record type_leaves s 0 ≡ got own e
          → (a b d : Bool) → eqb leaf 0x1201 ≡ a → eqb leaf 0x1206 ≡ b → eqb leaf 0x1203 ≡ d → Known f s rs
      by leaf at room own e r true b d i j k = types-known leaf at room (eqb-true _ _ i) own e r
      by leaf at room own e r false true d i j k = methods-known leaf at room (eqb-true _ _ j)
      by leaf at room own e r false false true i j k = members-known leaf at room (eqb-true _ _ k)
      by leaf at room own e r false false false i j k = no-list leaf at room i j k own e r
