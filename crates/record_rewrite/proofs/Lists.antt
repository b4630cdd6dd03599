-- The main law of a list: stepping through moved bytes gives the same elements but for their references, and the same end. More fuel for
-- `refs_from` gives the same. Assumes nothing.
use Prim.Native.Nat.{ℕ, zero, suc, ◌+◌, ◌≤◌, ◌<◌}
use native.Mathlib.Omega.{arith}
use mathlib.Core.Bool.{Bool, true, false}
use mathlib.Core.Path.{◌≡◌, refl}
use mathlib.Core.List.{List, [], ◌++◌}
use lib.ListN.{length}
use lib.Dec.{eqb}
use borrow.Author.Tests.{eqb-true}
use Rattle.answer.specs.Answer.{Answer, answered, refused, pick, then}
use Rattle.record_list.specs.declared.ListCursor.{ListCursor}
use Rattle.record_list.specs.Lists.{Step, step_of, element_by}
use Rattle.record_reference.specs.References.{Ref, refs_at, if_more, refs_from}
use Rattle.record_reference.proofs.ValueLaws.{no_answer}
use Rattle.record_reference.proofs.Onward.{Steps, step-on}
use Rattle.record_rewrite.specs.Rewrite.{renamed_all, Within, Stand, Moved, moved_element, moved_step}
use Rattle.record_rewrite.proofs.Places.{within_both, renamed_both, stand-both, moved-left, moved-right}
use Rattle.record_rewrite.proofs.Steps.{step-carried, step-ended}

-- a step goes on, inside the bytes
goes_on : (s : List ℕ) (c : ListCursor) (x : Step) → step_of s c ≡ answered x → Steps s c.at (answered x)
goes_on s c x h = rw h at (step-on s c)

-- The whole list -----------------------------------------------------------------------------------------------------------------------

pub record Listed (f : ℕ → ℕ) (n : ℕ) (s : List ℕ) (c : ListCursor) (rs : List Ref) : Type 0 where
  pub within : Within c.at rs (length s)
  pub stands : Stand s rs
  pub names : (t : List ℕ) → length t ≡ length s → Moved f s t c.at rs (length s) → refs_from n t c ≡ answered (renamed_all f rs)
  pub elements : (t : List ℕ) → length t ≡ length s → Moved f s t c.at rs (length s)
      → (k : ℕ) → element_by (step_of t) k c ≡ then (element_by (step_of s) k c) (λ x. answered (moved_element f x))

module _ (f : ℕ → ℕ) (s : List ℕ) where
  over : (n : ℕ) (c : ListCursor) (m : ℕ) (d : List ℕ) → c.at ≤ length s → step_of s c ≡ refused m d → m ≡ 15 → Listed f (suc n) s c []
  unfolding Within Moved Stand renamed_all refs_from element_by
  over n c m d l h i = record {
    within = l;
    stands = tt;
    names = λ t e a. rw (step-ended s t e c m d i a h, i);
    elements = λ t e a k. go t (step-ended s t e c m d i a h) k;
  }
    where
      go : (t : List ℕ) → step_of t c ≡ refused m d → (k : ℕ) → element_by (step_of t) k c ≡ then (element_by (step_of s) k c) (λ x. answered (moved_element f x))
      go t g zero = rw (g, h)
      go t g (suc k) = rw (g, h)

  more_of : (n : ℕ) (c : ListCursor) (x : Step) (rs : List Ref) → c.at ≤ length s → step_of s c ≡ answered x → Listed f n s x.next rs → Listed f (suc n) s c (refs_at s c ++ rs)
  unfolding refs_from element_by
  more_of n c x rs l h k =
      let z : c.at + 0 ≡ c.at = omega arith in
      let o = step-carried f s c x l h in
      let a = refs_at s c in
      let p = c.at in
      let q = x.next.at in
      let w : Within p a q = rw z at o.within in
      record {
        within = within_both a rs p q (length s) w k.within;
        stands = stand-both s a rs o.stands k.stands;
        names = λ t e m.
            let left = moved-left f s t a rs p q (length s) w k.within m in
            rw (o.steps t e left, k.names t e (moved-right f s t a rs p q (length s) w m), o.names t e left, renamed_both f a rs);
        elements = λ t e m i.
            go t i (o.steps t e (moved-left f s t a rs p q (length s) w k.within m)) (k.elements t e (moved-right f s t a rs p q (length s) w m));
      }
    where
      go : (t : List ℕ) (i : ℕ) → step_of t c ≡ answered (moved_step f x)
          → ((k : ℕ) → element_by (step_of t) k x.next ≡ then (element_by (step_of s) k x.next) (λ x. answered (moved_element f x)))
          → element_by (step_of t) i c ≡ then (element_by (step_of s) i c) (λ x. answered (moved_element f x))
      go t zero g ih = rw (g, h)
      go t (suc i) g ih = rw (g, h) (ih i)

  pub list-carried : (n : ℕ) (c : ListCursor) (rs : List Ref) → c.at ≤ length s → length s < c.at + n → refs_from n s c ≡ answered rs → Listed f n s c rs
  unfolding refs_from
  list-carried zero c rs l b h = absurd (omega arith)
  list-carried (suc n) c rs l b h = go (step_of s c) refl h (list-carried n)
    where
      rest : (x : Step) → step_of s c ≡ answered x → (a : Answer (List Ref)) → refs_from n s x.next ≡ a → then a (λ us. answered (refs_at s c ++ us)) ≡ answered rs
          → ((c : ListCursor) (rs : List Ref) → c.at ≤ length s → length s < c.at + n → refs_from n s c ≡ answered rs → Listed f n s c rs) → Listed f (suc n) s c rs
      rest x e (refused m d) i g ih = no_answer g
      rest x e (answered us) i g ih =
          let z : refs_at s c ++ us ≡ rs = cc in
          let o = goes_on s c x e in
          rw (← z) (more_of n c x us l e (ih x.next us o.1 (omega (arith, o.0)) i))

      go : (a : Answer Step) → step_of s c ≡ a → if_more a (λ x. then (refs_from n s x.next) (λ us. answered (refs_at s c ++ us))) ≡ answered rs
          → ((c : ListCursor) (rs : List Ref) → c.at ≤ length s → length s < c.at + n → refs_from n s c ≡ answered rs → Listed f n s c rs) → Listed f (suc n) s c rs
      go (answered x) e g ih = rest x e (refs_from n s x.next) refl g ih
      go (refused m d) e g ih = ended (eqb m 15) refl g
        where
          ended : (b : Bool) → eqb m 15 ≡ b → pick b (answered []) (refused m d) ≡ answered rs → Listed f (suc n) s c rs
          ended true i g = let z : [] ≡ rs = cc in rw (← z) (over n c m d l e (eqb-true _ _ i))
          ended false i g = no_answer g

-- More fuel gives the same -----------------------------------------------------------------------------------------------------------------

pub enough : (n d : ℕ) (s : List ℕ) (c : ListCursor) → c.at ≤ length s → length s < c.at + n → refs_from (n + d) s c ≡ refs_from n s c
unfolding refs_from
enough zero d s c l b = absurd (omega arith)
enough (suc n) d s c l b = let z : suc n + d ≡ suc (n + d) = omega arith in rw z (go (step_of s c) refl (λ c i j. enough n d s c i j))
  where
    go : (a : Answer Step) → step_of s c ≡ a → ((c : ListCursor) → c.at ≤ length s → length s < c.at + n → refs_from (n + d) s c ≡ refs_from n s c)
        → if_more a (λ x. then (refs_from (n + d) s x.next) (λ us. answered (refs_at s c ++ us)))
        ≡ if_more a (λ x. then (refs_from n s x.next) (λ us. answered (refs_at s c ++ us)))
    go (answered x) e ih =
        let o = goes_on s c x e in
        rw (ih x.next o.1 (omega (arith, o.0)))
    go (refused m ds) e ih = refl
