-- A payload has references exactly if its record and every element decode: the steps of `refs_from` are enough, since each goes on. Assumes
-- nothing.
use Prim.Native.Nat.{ℕ, zero, suc, ◌+◌, ◌*◌, ◌≤◌, ◌<◌}
use native.Mathlib.Omega.{arith}
use mathlib.Core.Bool.{Bool, true, false}
use mathlib.Core.Path.{◌≡◌, refl, sym, ◌∙◌}
use mathlib.Core.List.{List, [], ◌∷◌, ◌++◌}
use lib.ListN.{length}
use lib.Dec.{leb, ltb, eqb}
use borrow.Author.Tests.{leb-true, leb-false, eqb-true}
use Rattle.answer.specs.Answer.{Answer, answered, refused, pick, then}
use Rattle.answer.specs.Tables.{find}
use Rattle.field.specs.Fields.{little_at}
use Rattle.field.specs.Runs.{bytes_after}
use Rattle.field.proofs.FieldLaws.{field-there, field-ended}
use Rattle.record_layout.specs.Fields.{Shown, read_field_by, read_fields_by}
use Rattle.record_layout.specs.Layouts.{type_leaves, record_of}
use Rattle.record_list.specs.declared.ListCursor.{ListCursor}
use Rattle.record_list.specs.Lists.{Step, to_the_end, counted_by, counted_list, start_types, step_of, element_by}
use Rattle.record_reference.specs.References.{Ref, refs_at, if_more, refs_from, refs_list}
use Rattle.record_reference.specs.Values.{refs_by}
use Rattle.record_reference.specs.Decoded.{Decodes, Decoded, Has, HasExactly}
use Rattle.record_reference.proofs.Onward.{Steps, step-on}
use Rattle.record_reference.proofs.ValueLaws.{no_answer, payload-tell}

abbrev Elements : List ℕ → ListCursor → Type 0
Elements s c = (k : ℕ) → Decodes (element_by (step_of s) k c)

-- From elements to references ------------------------------------------------------------------------------------------------------

record HasFrom (a : Answer (List Ref)) : Type 0 where
  refs : List Ref
  are : a ≡ answered refs

list-has : (n : ℕ) (s : List ℕ) (c : ListCursor) → Elements s c → HasFrom (refs_from n s c)
unfolding refs_from element_by
list-has zero s c h = record { refs = []; are = refl }
list-has (suc n) s c h = go (step_of s c) refl (λ d. list-has n s d)
  where
    go : (a : Answer Step) → step_of s c ≡ a → ((d : ListCursor) → Elements s d → HasFrom (refs_from n s d)) → HasFrom (refs_from (suc n) s c)
    go (answered x) e ih =
        let more = ih x.next (λ k. rw e at (h (suc k))) in
        record { refs = refs_at s c ++ more.refs; are = rw (e, more.are) }
    go (refused m d) e ih =
        let i : m ≡ 15 = rw e at (h 0) in
        record { refs = []; are = rw (e, i) }

decoded-has : (s : List ℕ) → Decoded s → Has s
decoded-has s h = go (start_types s) refl
  where
    with-list : (rs : List Ref) → refs_list s (start_types s) ≡ answered rs → Has s
    with-list rs e = record { refs = refs_by type_leaves h.values 2 ++ rs; are = payload-tell s ∙ rw (h.reads, e) }

    go : (a : Answer ListCursor) → start_types s ≡ a → Has s
    go (answered c) e = let m = list-has (length s) s c (h.elements c e) in with-list m.refs (rw e m.are)
    go (refused n d) e = with-list [] (rw e)

-- And back -------------------------------------------------------------------------------------------------------------------------

module _ (s : List ℕ) where
  over : (c : ListCursor) (m : ℕ) (d : List ℕ) → step_of s c ≡ refused m d → m ≡ 15 → Elements s c
  unfolding element_by
  over c m d e i zero = rw e i
  over c m d e i (suc k) = rw e i

  onto : (c : ListCursor) (x : Step) → step_of s c ≡ answered x → Elements s x.next → Elements s c
  unfolding element_by
  onto c x e h zero = rw e tt
  onto c x e h (suc k) = rw e (h k)

  list-decoded : (n : ℕ) (c : ListCursor) (rs : List Ref) → c.at ≤ length s → length s < c.at + n → refs_from n s c ≡ answered rs → Elements s c
  unfolding refs_from
  list-decoded zero c rs l b h = absurd (omega arith)
  list-decoded (suc n) c rs l b h = go (step_of s c) refl (step-on s c) h (list-decoded n)
    where
      ended : (m : ℕ) (d : List ℕ) → step_of s c ≡ refused m d → (b : Bool) → eqb m 15 ≡ b → pick b (answered []) (refused m d) ≡ answered rs → Elements s c
      ended m d e true i g = over c m d e (eqb-true _ _ i)
      ended m d e false i g = no_answer g

      rest : (x : Step) → step_of s c ≡ answered x → Steps s c.at (answered x) → (a : Answer (List Ref)) → refs_from n s x.next ≡ a
          → then a (λ us. answered (refs_at s c ++ us)) ≡ answered rs
          → ((c : ListCursor) (rs : List Ref) → c.at ≤ length s → length s < c.at + n → refs_from n s c ≡ answered rs → Elements s c) → Elements s c
      rest x e o (answered us) i g ih = onto c x e (ih x.next us o.1 (omega (arith, o.0)) i)
      rest x e o (refused m d) i g ih = no_answer g

      go : (a : Answer Step) → step_of s c ≡ a → Steps s c.at a → if_more a (λ x. then (refs_from n s x.next) (λ us. answered (refs_at s c ++ us))) ≡ answered rs
          → ((c : ListCursor) (rs : List Ref) → c.at ≤ length s → length s < c.at + n → refs_from n s c ≡ answered rs → Elements s c) → Elements s c
      go (answered x) e o g ih = rest x e o (refs_from n s x.next) refl g ih
      go (refused m d) e o g ih = ended m d e (eqb m 15) refl g

-- a list starts inside the payload, behind its first byte
abbrev Starts : List ℕ → Answer ListCursor → Type 0
Starts s (answered c) = (0 < c.at) × (c.at ≤ length s)
Starts s (refused n d) = Unit

counted-inside : (s : List ℕ) → Starts s (counted_list type_leaves 0x1201 s 2)
unfolding counted_list counted_by type_leaves find read_fields_by read_field_by bytes_after
counted-inside s = go (leb 6 (length s)) (ltb (length s) (6 + 4 * little_at 4 s 2)) refl refl
  where
    go : (a b : Bool) → leb 6 (length s) ≡ a → ltb (length s) (6 + 4 * little_at 4 s 2) ≡ b → Starts s (counted_list type_leaves 0x1201 s 2)
    go false b i j = let k : length s < 6 = leb-false _ _ i in rw (sym (field-ended 4 s 2 k)) tt
    go true true i j = let k : 6 ≤ length s = leb-true _ _ i in rw (sym (field-there 4 s 2 (little_at 4 s 2) k refl), j) tt
    go true false i j = let k : 6 ≤ length s = leb-true _ _ i in rw (sym (field-there 4 s 2 (little_at 4 s 2) k refl), j) (omega arith, k)

start-inside : (s : List ℕ) → Starts s (start_types s)
unfolding start_types
start-inside s = go (leb 2 (length s)) refl
  where
    by : 2 ≤ length s → (a b d : Bool) → Starts s (pick a (counted_list type_leaves 0x1201 s 2) (pick b (answered (to_the_end 0x1206 2)) (pick d (answered (to_the_end 0x1203 2)) (refused 10 (little_at 2 s 0 ∷ [])))))
    by l true b d = counted-inside s
    by l false true d = (omega arith, l)
    by l false false true = (omega arith, l)
    by l false false false = tt

    go : (a : Bool) → leb 2 (length s) ≡ a → Starts s (start_types s)
    go false i = let k : length s < 2 = leb-false _ _ i in rw (sym (field-ended 2 s 0 k)) tt
    go true i =
        let k : 2 ≤ length s = leb-true _ _ i in
        rw (sym (field-there 2 s 0 (little_at 2 s 0) k refl)) (by k (eqb (little_at 2 s 0) 0x1201) (eqb (little_at 2 s 0) 0x1206) (eqb (little_at 2 s 0) 0x1203))

has-decoded : (s : List ℕ) → Has s → Decoded s
has-decoded s h = go (record_of type_leaves s) refl (sym (payload-tell s) ∙ h.are)
  where
    listed : (a : Answer ListCursor) → Starts s a → (b : Answer (List Ref)) → refs_list s a ≡ b → (own : List Ref) → then b (λ rs. answered (own ++ rs)) ≡ answered h.refs
        → (c : ListCursor) → a ≡ answered c → Elements s c
    listed (answered d) o (answered rs) e own g c i = let z : d ≡ c = cc in rw (← z) (list-decoded s (length s) d rs o.1 (omega (arith, o.0)) e)
    listed (answered d) o (refused m x) e own g c i = no_answer g
    listed (refused n x) o b e own g c i = no_answer i

    go : (a : Answer (List Shown)) → record_of type_leaves s ≡ a → then a (λ vs. then (refs_list s (start_types s)) (λ rs. answered (refs_by type_leaves vs 2 ++ rs))) ≡ answered h.refs → Decoded s
    go (answered vs) e g = record { values = vs; reads = e; elements = listed (start_types s) (start-inside s) (refs_list s (start_types s)) refl (refs_by type_leaves vs 2) g }
    go (refused n d) e g = no_answer g

pub has-exactly : HasExactly
has-exactly = record { decoded_has = decoded-has; has_decoded = has-decoded }
