-- The verdict of a walk, a law for each outcome of its first step. Assumes nothing.
use Rattle.stream_fit.specs.declared.Rule.{Rule}
use Rattle.stream_fit.specs.declared.Rule.TheVariants as rule
use Rattle.std.specs.Prelude.{Option, None, Some}
use Prim.Native.Nat.{ℕ, zero, suc, ◌+◌, ◌-◌, ◌<◌}
use native.Mathlib.Omega.{arith}
use mathlib.Core.Path.{◌≡◌, refl, sym}
use mathlib.Core.List.{List}
use borrow.Author.Tests.{eq-eqb, ne_eqb}
use Rattle.answer.specs.Answer.{answered, refused}
use Rattle.stream_item.specs.Iterator.{done, yielded, next_of}
use Rattle.stream_item.specs.declared.Item.{Item}
use Rattle.stream_item.specs.declared.iter.ItemIter.{ItemIter}
use Rattle.stream_fit.specs.Fit.{fit, unfit, payload_of, rule_number, judged}
use Rattle.stream_fit.specs.Worst.{rule_or_6, worst_of, as_rule}
use Rattle.stream_fit.proofs.WorstLaws.{rule-is}

as-rule : (r : Rule) → as_rule (rule_number r) ≡ Some (rule_number r)
as-rule rule.Count = refl
as-rule rule.Decode = refl
as-rule rule.Order = refl
as-rule rule.Primitive = refl
as-rule rule.Gap = refl

broken : (r : Rule) → rule_number r ≡ 6 → ⊥
broken r h = let z : ◌≡◌ {A = Option ℕ} None (Some 6) = rw h at (as-rule r) in cc

-- n steps are left
module _ (s : List ℕ) (minimum maximum : ℕ) (c : ItemIter) where
  pub judged-stopped : (n m : ℕ) (d : List ℕ) → 0 < n → refused m d ≡ next_of s c → unfit c.index 2 ≡ judged n s minimum maximum c
  unfolding judged
  judged-stopped zero m d l e = absurd (omega arith)
  judged-stopped (suc n) m d l e = rw (← e)

  pub judged-yes : (n : ℕ) → 0 < n → answered done ≡ next_of s c → c.index ≡ maximum → fit ≡ judged n s minimum maximum c
  unfolding judged
  judged-yes zero l e h = absurd (omega arith)
  judged-yes (suc n) l e h = rw (← e, eq-eqb _ _ h)

  pub judged-count : (n : ℕ) → 0 < n → answered done ≡ next_of s c → (c.index ≡ maximum → ⊥) → unfit 0 1 ≡ judged n s minimum maximum c
  unfolding judged
  judged-count zero l e h = absurd (omega arith)
  judged-count (suc n) l e h = rw (← e, ne_eqb _ _ h)

  module _ (i : Item) (d : ItemIter) (e : next_of s c ≡ answered (yielded i d)) (number : ℕ) (w : number ≡ worst_of minimum c.index (payload_of s i)) where
    pub judged-broken : (n : ℕ) → (number ≡ 6 → ⊥) → judged (suc n) s minimum maximum c ≡ unfit c.index number
    unfolding judged
    judged-broken n h = rw (e, rule-is minimum c.index (payload_of s i), ← w, ne_eqb _ _ h)

  -- by the rule that the code has
  module _ (i : Item) (d : ItemIter) (o : Option Rule) (e : answered (yielded i d) ≡ next_of s c) (w : rule_or_6 o ≡ worst_of minimum c.index (payload_of s i)) where
    pub judged-rule : (n : ℕ) (r : Rule) → 0 < n → o ≡ Some r → unfit c.index (rule_number r) ≡ judged n s minimum maximum c
    judged-rule zero r l h = absurd (omega arith)
    judged-rule (suc n) r l h = sym (judged-broken i d (sym e) (rule_number r) (rw h at w) n (broken r))

    pub judged-on : (n k : ℕ) → k < n → o ≡ None → judged (n - (k + 1)) s minimum maximum d ≡ judged (n - k) s minimum maximum c
    unfolding judged
    judged-on n k l h =
        let z : n - k ≡ suc (n - (k + 1)) = omega arith in
        rw (z, ← e, rule-is minimum c.index (payload_of s i), ← w, h)

  -- out of steps
  pub judged-short : (n : ℕ) → n ≡ 0 → unfit 0 1 ≡ judged n s minimum maximum c
  unfolding judged
  judged-short n h = rw h

pub one_less : (s : List ℕ) (minimum maximum n : ℕ) (c : ItemIter) → (n ≡ 0 → ⊥) → judged n s minimum maximum c ≡ judged (suc (n - 1)) s minimum maximum c
one_less s minimum maximum zero c h = absurd (h refl)
one_less s minimum maximum (suc n) c h = let e : suc n - 1 ≡ n = omega arith in rw e
