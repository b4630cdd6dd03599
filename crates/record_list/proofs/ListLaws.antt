-- The laws of lists, over every list, whatever its step: element k + 1 is element k of the step's next cursor; an answered element has every
-- earlier one answered; a refused element refuses every later one alike. Assumes nothing.
use Prim.Native.Nat.{ℕ, zero, suc, ◌+◌, ◌-◌, ◌<◌}
use native.Mathlib.Omega.{arith}
use mathlib.Core.Bool.{Bool, true, false}
use mathlib.Core.Path.{◌≡◌, refl, ap, sym, ◌∙◌}
use mathlib.Core.List.{List, [], ◌∷◌}
use Rattle.answer.specs.Answer.{Answer, answered, refused, then}
use Rattle.record_layout.specs.Fields.{number}
use Rattle.record_member.specs.Said.{virtual_leaf}
use Rattle.record_list.specs.declared.ListCursor.{ListCursor}
use Rattle.record_list.specs.Lists.{ElementValues, Step, left_after, element_by}

-- a virtual base class does not end a list, direct or not
pub virtual-goes-on : (direct : Bool) → left_after (number (virtual_leaf direct) ∷ []) ≡ 1
virtual-goes-on true = refl
virtual-goes-on false = refl

module _ (step : ListCursor → Answer Step) (c : ListCursor) where
  -- element k + 1 is element k of the step's next cursor
  pub element-next : (k : ℕ) (x : Step) → step c ≡ answered x → element_by step (k + 1) c ≡ element_by step k x.next
  unfolding element_by
  element-next k x e = let f : k + 1 ≡ suc k = omega arith in rw (f, e)

  -- element 0 is the step's element
  pub element-here : (x : Step) → step c ≡ answered x → element_by step 0 c ≡ answered x.element
  unfolding element_by
  element-here x e = rw e

  -- where the step is refused, every element is
  pub element-refused : (k n : ℕ) (d : List ℕ) → step c ≡ refused n d → element_by step k c ≡ refused n d
  unfolding element_by
  element-refused zero n d e = rw e
  element-refused (suc k) n d e = rw e

  -- a step goes from an element to the one before it of the step's next cursor
  pub element-on : (e : ElementValues) (next : ListCursor) (left : ℕ) (a : Answer ElementValues) → 0 < left → answered (record { element = e; next = next }) ≡ step c
      → element_by step left c ≡ a → element_by step (left - 1) next ≡ a
  element-on e next left a more e_step there =
      let f : left - 1 + 1 ≡ left = omega (arith, more) in
      sym (element-next (left - 1) _ (sym e_step)) ∙ rw f there

  -- the same where the element wanted is number k, and i have been passed
  pub element-turn : (e : ElementValues) (next : ListCursor) (k i : ℕ) (a : Answer ElementValues) → i < k → answered (record { element = e; next = next }) ≡ step c
      → element_by step (k - i) c ≡ a → element_by step (k - (i + 1)) next ≡ a
  element-turn e next k i a more e_step there =
      let f : k - (i + 1) ≡ k - i - 1 = omega arith in
      rw f (element-on e next (k - i) a (omega (arith, more)) e_step there)

abbrev flag : Answer ElementValues → ℕ
flag (answered e) = 1
flag (refused n ds) = 0

answered-refused : (e : ElementValues) (n : ℕ) (ds : List ℕ) → answered e ≡ refused n ds → ⊥
answered-refused e n ds g = let z : ◌≡◌ {A = ℕ} 1 0 = ap flag g in omega arith

-- a refused element refuses every later one alike: the first refusal is given
pub refused-after : (step : ListCursor → Answer Step) (j d : ℕ) (c : ListCursor) (n : ℕ) (ds : List ℕ) → element_by step j c ≡ refused n ds → element_by step (j + d) c ≡ refused n ds
unfolding element_by
refused-after step zero d c n ds e = go (step c) refl e
  where
    go : (a : Answer Step) → step c ≡ a → then a (λ x. answered x.element) ≡ refused n ds → element_by step (0 + d) c ≡ refused n ds
    go (answered x) f g = absurd (answered-refused _ _ _ g)
    go (refused m es) f g = element-refused step c (0 + d) m es f ∙ g
refused-after step (suc j) d c n ds e =
    let f : suc j + d ≡ suc (j + d) = omega arith in
    rw f (go (λ x. refused-after step j d x.next n ds) (step c) e)
  where
    go : ((x : Step) → element_by step j x.next ≡ refused n ds → element_by step (j + d) x.next ≡ refused n ds)
        → (a : Answer Step) → then a (λ x. element_by step j x.next) ≡ refused n ds → then a (λ x. element_by step (j + d) x.next) ≡ refused n ds
    go ih (answered x) g = ih x g
    go ih (refused m es) g = g

-- an answered element has every earlier one answered
pub answered-before : (step : ListCursor → Answer Step) (j d : ℕ) (c : ListCursor) (e : ElementValues) → element_by step (j + d) c ≡ answered e → (b : ElementValues) × (element_by step j c ≡ answered b)
answered-before step j d c e h = go (element_by step j c) refl
  where
    go : (a : Answer ElementValues) → element_by step j c ≡ a → (b : ElementValues) × (element_by step j c ≡ answered b)
    go (answered b) f = (b, f)
    go (refused n ds) f = absurd (answered-refused e n ds (sym h ∙ refused-after step j d c n ds f))
