-- Where the references of a payload are read, a job done over the payload is the job done at each of them in turn. Assumes nothing.
use Prim.Native.Nat.{ℕ, zero, suc}
use mathlib.Core.Bool.{Bool, true, false}
use mathlib.Core.List.{List, [], ◌++◌}
use mathlib.Core.Path.{◌≡◌, refl, sym, ap, ◌∙◌}
use lib.ListN.{length}
use lib.Dec.{eqb}
use Rattle.answer.specs.Answer.{Answer, answered, refused, pick, then}
use Rattle.record_layout.specs.Fields.{Shown}
use Rattle.record_layout.specs.Layouts.{type_leaves, record_of}
use Rattle.record_list.specs.declared.ListCursor.{ListCursor}
use Rattle.record_list.specs.Lists.{Step, start_types, step_of}
use Rattle.record_reference.specs.References.{Ref, refs_at, if_more, refs_from, refs_list, refs_of}
use Rattle.record_reference.specs.Values.{refs_by}
use Rattle.record_reference.proofs.ValueLaws.{payload-tell, no_answer}
use Rattle.stream_drop.specs.Each.{Held, done_all, if_step, done_from, if_read, if_list, done_of}
use Rattle.stream_drop.specs.declared.each.Job.{Job}
use Rattle.stream_drop.proofs.EachLaws.{done-both}

same-list : (a b : List Ref) → ◌≡◌ {A = Answer (List Ref)} (answered a) (answered b) → a ≡ b
same-list a b e = cc

-- of the elements from a cursor on
from-refs : (minimum : ℕ) (j : Job) (n : ℕ) (s : List ℕ) (c : ListCursor) (rs : List Ref) (x : Held) → refs_from n s c ≡ answered rs → done_from minimum j n s c x ≡ done_all minimum j rs x
unfolding refs_from done_from done_all
from-refs minimum j zero s c rs x e = ap (λ us. done_all minimum j us x) (same-list [] rs e)
from-refs minimum j (suc n) s c rs x e = go (step_of s c) e (λ y us z. from-refs minimum j n s y.next us z)
  where
    more : (y : Step) (b : Answer (List Ref)) → then b (λ us. answered (refs_at s c ++ us)) ≡ answered rs
        → ((us : List Ref) (z : Held) → b ≡ answered us → done_from minimum j n s y.next z ≡ done_all minimum j us z)
        → done_from minimum j n s y.next (done_all minimum j (refs_at s c) x) ≡ done_all minimum j rs x
    more y (answered us) f ih = ih us (done_all minimum j (refs_at s c) x) refl ∙ sym (done-both minimum j (refs_at s c) us x) ∙ ap (λ vs. done_all minimum j vs x) (same-list (refs_at s c ++ us) rs f)
    more y (refused m d) f ih = no_answer f

    last : (b : Bool) (m : ℕ) (d : List ℕ) → pick b (answered []) (refused m d) ≡ answered rs → x ≡ done_all minimum j rs x
    last true m d f = ap (λ us. done_all minimum j us x) (same-list [] rs f)
    last false m d f = no_answer f

    go : (a : Answer Step) → if_more a (λ y. then (refs_from n s y.next) (λ us. answered (refs_at s c ++ us))) ≡ answered rs
        → ((y : Step) (us : List Ref) (z : Held) → refs_from n s y.next ≡ answered us → done_from minimum j n s y.next z ≡ done_all minimum j us z)
        → if_step a x (λ y. done_from minimum j n s y.next (done_all minimum j (refs_at s c) x)) ≡ done_all minimum j rs x
    go (answered y) f ih = more y (refs_from n s y.next) f (ih y)
    go (refused m d) f ih = last (eqb m 15) m d f

-- of a payload
pub done-refs : (minimum : ℕ) (j : Job) (p : List ℕ) (rs : List Ref) (x : Held) → refs_of p ≡ answered rs → done_of minimum j p x ≡ done_all minimum j rs x
unfolding done_of done_all
done-refs minimum j p rs x e = go (record_of type_leaves p) (start_types p) (sym (payload-tell p) ∙ e)
  where
    listed : (own : List Ref) (c : ListCursor) (b : Answer (List Ref)) → refs_from (length p) p c ≡ b → then b (λ us. answered (own ++ us)) ≡ answered rs
        → done_from minimum j (length p) p c (done_all minimum j own x) ≡ done_all minimum j rs x
    listed own c (answered us) f g =
        from-refs minimum j (length p) p c us (done_all minimum j own x) f ∙ sym (done-both minimum j own us x) ∙ ap (λ vs. done_all minimum j vs x) (same-list (own ++ us) rs g)
    listed own c (refused m d) f g = no_answer g

    go : (a : Answer (List Shown)) (l : Answer ListCursor) → then a (λ vs. then (refs_list p l) (λ us. answered (refs_by type_leaves vs 2 ++ us))) ≡ answered rs
        → if_read a x (λ vs. if_list l (done_all minimum j (refs_by type_leaves vs 2) x) (λ c. done_from minimum j (length p) p c (done_all minimum j (refs_by type_leaves vs 2) x)))
        ≡ done_all minimum j rs x
    go (answered vs) (answered c) f = listed (refs_by type_leaves vs 2) c (refs_from (length p) p c) refl f
    go (answered vs) (refused m d) f = sym (done-both minimum j (refs_by type_leaves vs 2) [] x) ∙ ap (λ us. done_all minimum j us x) (same-list (refs_by type_leaves vs 2 ++ []) rs f)
    go (refused m d) (answered c) f = no_answer f
    go (refused m d) (refused k e) f = no_answer f
