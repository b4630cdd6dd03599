-- The least rule, found reference by reference and element by element, is the first rule of the list that the record breaks. Assumes nothing.
use Rattle.std.specs.Prelude.{Option}
use Prim.Native.Nat.{ℕ, zero, suc, ◌+◌, ◌-◌, ◌<◌}
use native.Mathlib.Omega.{arith}
use mathlib.Core.Bool.{Bool, true, false}
use mathlib.Core.Path.{◌≡◌, refl, ap, sym, ◌∙◌}
use mathlib.Core.List.{List, [], ◌∷◌, ◌++◌, append-nil}
use lib.ListN.{length}
use borrow.Author.Tests.{eq-eqb, ne_eqb}
use Rattle.answer.specs.Answer.{Answer, answered, refused, pick, then}
use Rattle.field.specs.declared.index.Stream.TheVariants as stream
use Rattle.record_data.specs.Said.{type_values}
use Rattle.record_data.specs.declared.TypeData.{TypeData}
use Rattle.record_reference.specs.Said.{said_of_element}
use Rattle.record_reference.specs.declared.ElementReferences.{ElementReferences}
use Rattle.record_reference.proofs.OwnLaws.{own-joined}
use Rattle.record_layout.specs.Fields.{Shown}
use Rattle.record_layout.specs.Layouts.{type_leaves, record_of}
use Rattle.record_list.specs.declared.ListCursor.{ListCursor}
use Rattle.record_list.specs.Lists.{Step, start_types, start_of, step_of}
use Rattle.record_reference.specs.References.{Ref, refs_at, refs_from, refs_list, refs_of}
use Rattle.record_reference.specs.Values.{refs_by, slots_by, slots, joined, element_refs, fields_at}
use Rattle.record_reference.proofs.ValueLaws.{payload-tell, step-tell}
use Rattle.stream_fit.specs.Fit.{disorderly, bad_primitive, in_gap, some_ref, rule_in, rule_of}
use Rattle.stream_fit.specs.Worst.{least_rule, fault_of, lesser, worst, worst_in, worst_from, worst_of, as_rule}

-- The fold ----------------------------------------------------------------------------------------------------------------------------

abbrev either : Bool → Bool → Bool
either a b = pick a true b

lesser-rule : (a b c x y z : Bool) → lesser (least_rule a b c) (least_rule x y z) ≡ least_rule (either a x) (either b y) (either c z)
lesser-rule true b c true y z = refl
lesser-rule true b c false true z = refl
lesser-rule true b c false false true = refl
lesser-rule true b c false false false = refl
lesser-rule false true c true y z = refl
lesser-rule false true c false true z = refl
lesser-rule false true c false false true = refl
lesser-rule false true c false false false = refl
lesser-rule false false true true y z = refl
lesser-rule false false true false true z = refl
lesser-rule false false true false false true = refl
lesser-rule false false true false false false = refl
lesser-rule false false false true y z = refl
lesser-rule false false false false true z = refl
lesser-rule false false false false false true = refl
lesser-rule false false false false false false = refl

either-assoc : (a b c : Bool) → either (either a b) c ≡ either a (either b c)
either-assoc true b c = refl
either-assoc false b c = refl

either-none : (a : Bool) → either a false ≡ a
either-none true = refl
either-none false = refl

module _ (minimum index : ℕ) where
  worst-rule : (rs : List Ref) (a b c : Bool)
      → worst minimum index (least_rule a b c) rs ≡ least_rule (either a (some_ref (disorderly minimum index) rs)) (either b (some_ref bad_primitive rs)) (either c (some_ref (in_gap minimum) rs))
  unfolding worst some_ref
  worst-rule [] a b c = rw (either-none a, either-none b, either-none c)
  worst-rule (r ∷ rs) a b c =
      let n = r.index in
      ap (λ w. worst minimum index w rs) (lesser-rule a b c (disorderly minimum index n) (bad_primitive n) (in_gap minimum n))
      ∙ worst-rule rs (either a (disorderly minimum index n)) (either b (bad_primitive n)) (either c (in_gap minimum n))
      ∙ rw (
        either-assoc a (disorderly minimum index n) (some_ref (disorderly minimum index) rs),
        either-assoc b (bad_primitive n) (some_ref bad_primitive rs),
        either-assoc c (in_gap minimum n) (some_ref (in_gap minimum) rs),
      )

  pub worst-both : (w : ℕ) (a b : List Ref) → worst minimum index w (a ++ b) ≡ worst minimum index (worst minimum index w a) b
  unfolding worst
  worst-both w [] b = refl
  worst-both w (r ∷ a) b = worst-both (lesser w (fault_of minimum index r.index)) a b

  pub worst-four : (w : ℕ) (a b c d : List Ref)
      → worst minimum index w (a ++ (b ++ (c ++ (d ++ [])))) ≡ worst minimum index (worst minimum index (worst minimum index (worst minimum index w a) b) c) d
  worst-four w a b c d =
      worst-both w a (b ++ (c ++ (d ++ []))) ∙ worst-both (worst minimum index w a) b (c ++ (d ++ [])) ∙ worst-both (worst minimum index (worst minimum index w a) b) c (d ++ [])
      ∙ ap (worst minimum index (worst minimum index (worst minimum index (worst minimum index w a) b) c)) (append-nil d)

  -- the payload's rule
  pub rule-is : (payload : List ℕ) → rule_of minimum index payload ≡ as_rule (worst_of minimum index payload)
  unfolding rule_of worst_of
  rule-is payload = go (refs_of payload)
    where
      by : (x y z : Bool) → pick {A = Option ℕ} x (Option.Some 3) (pick y (Option.Some 4) (pick z (Option.Some 5) Option.None)) ≡ as_rule (least_rule x y z)
      by true y z = refl
      by false true z = refl
      by false false true = refl
      by false false false = refl

      go : (a : Answer (List Ref)) → rule_in minimum index a ≡ as_rule (worst_in minimum index 6 a)
      go (answered rs) = by (some_ref (disorderly minimum index) rs) (some_ref bad_primitive rs) (some_ref (in_gap minimum) rs) ∙ ap as_rule (sym (worst-rule rs false false false))
      go (refused n d) = refl

  -- Element by element --------------------------------------------------------------------------------------------------------------------

  module _ (s : List ℕ) where
    -- n steps are left
    pub from-none : (w n : ℕ) (c : ListCursor) → n ≡ 0 → w ≡ worst_from minimum index w n s c
    unfolding worst_from refs_from worst
    from-none w n c h = rw h

    pub from_more : (w v n : ℕ) (c : ListCursor) (x : Step) → 0 < n → step_of s c ≡ answered x → ((p : ℕ) → v ≡ worst minimum index w (element_refs x.element p))
        → worst_from minimum index w n s c ≡ worst_from minimum index v (n - 1) s x.next
    unfolding worst_from refs_from
    from_more w v zero c x h e f = absurd (omega arith)
    from_more w v (suc n) c x h e f = let g : suc n - 1 ≡ n = omega arith in rw (g, e) (go (refs_from n s x.next))
      where
        own : v ≡ worst minimum index w (refs_at s c)
        own = f (fields_at s c) ∙ ap (worst minimum index w) (sym (step-tell s c x e))

        go : (a : Answer (List Ref)) → worst_in minimum index w (then a (λ rs. answered (refs_at s c ++ rs))) ≡ worst_in minimum index v a
        go (answered rs) = worst-both w (refs_at s c) rs ∙ ap (λ u. worst minimum index u rs) (sym own)
        go (refused m d) = refl

    -- the same by the references that the code has of the element, after k of n steps
    pub from-element : (w v n k : ℕ) (c : ListCursor) (x : Step) (r : ElementReferences) → k < n → answered x ≡ step_of s c → ((p : ℕ) → said_of_element r p ≡ element_refs x.element p)
        → ((p : ℕ) → v ≡ worst minimum index w (said_of_element r p)) → worst_from minimum index v (n - (k + 1)) s x.next ≡ worst_from minimum index w (n - k) s c
    from-element w v n k c x r h e f g =
        let z : n - (k + 1) ≡ n - k - 1 = omega arith in
        rw z (sym (from_more w v (n - k) c x (omega arith) (sym e) (λ p. g p ∙ ap (worst minimum index w) (f p))))

    pub from_end : (w n m : ℕ) (d : List ℕ) (c : ListCursor) → 0 < n → refused m d ≡ step_of s c → m ≡ 15 → w ≡ worst_from minimum index w n s c
    unfolding worst_from refs_from worst
    from_end w zero m d c h e f = absurd (omega arith)
    from_end w (suc n) m d c h e f = rw (← e) (simp (eq-eqb _ _ f))

    pub from-refused : (w n m : ℕ) (d : List ℕ) (c : ListCursor) → 0 < n → refused m d ≡ step_of s c → (m ≡ 15 → ⊥) → 2 ≡ worst_from minimum index w n s c
    unfolding worst_from refs_from
    from-refused w zero m d c h e f = absurd (omega arith)
    from-refused w (suc n) m d c h e f = rw (← e) (simp (ne_eqb _ _ f))

    -- The record: refused; or its own references and then its list's, where it has one
    pub of-refused : (n : ℕ) (d : List ℕ) → refused n d ≡ record_of type_leaves s → 2 ≡ worst_of minimum index s
    unfolding worst_of
    of-refused n d e = rw (payload-tell s, ← e)

    of-read : (vs : List Shown) (w : ℕ) → record_of type_leaves s ≡ answered vs → w ≡ worst minimum index 6 (refs_by type_leaves vs 2)
        → worst_of minimum index s ≡ worst_in minimum index w (refs_list s (start_types s))
    unfolding worst_of
    of-read vs w e f = rw (payload-tell s, e) (go (refs_list s (start_types s)))
      where
        go : (a : Answer (List Ref)) → worst_in minimum index 6 (then a (λ rs. answered (refs_by type_leaves vs 2 ++ rs))) ≡ worst_in minimum index w a
        go (answered rs) = worst-both 6 (refs_by type_leaves vs 2) rs ∙ ap (λ u. worst minimum index u rs) (sym f)
        go (refused n d) = refl

    pub of-list : (vs : List Shown) (w : ℕ) (c : ListCursor) (r : ℕ) → record_of type_leaves s ≡ answered vs → w ≡ worst minimum index 6 (refs_by type_leaves vs 2)
        → start_types s ≡ answered c → r ≡ worst_from minimum index w (length s) s c → r ≡ worst_of minimum index s
    unfolding worst_from
    of-list vs w c r e f g h = rw (of-read vs w e f, g) h

    pub of-own : (vs : List Shown) (w n : ℕ) (d : List ℕ) → record_of type_leaves s ≡ answered vs → w ≡ worst minimum index 6 (refs_by type_leaves vs 2) → start_types s ≡ refused n d
        → worst_of minimum index s ≡ w
    unfolding worst
    of-own vs w n d e f g = of-read vs w e f ∙ rw g

    -- the same of a record as the code has it, and of its own references in their four places
    module _ (t : TypeData) (rs : List (List Ref)) (w : ℕ) (e : answered (type_values t) ≡ record_of type_leaves s) (f : rs ≡ slots 4 (slots_by type_leaves (type_values t) 2))
        (g : w ≡ worst minimum index 6 (joined rs)) where
      own-least : w ≡ worst minimum index 6 (refs_by type_leaves (type_values t) 2)
      own-least = g ∙ ap (λ l. worst minimum index 6 (joined l)) f ∙ ap (worst minimum index 6) (own-joined t)

      pub data-list : (c : ListCursor) (r : ℕ) → answered c ≡ start_of stream.Types s → r ≡ worst_from minimum index w (length s) s c → r ≡ worst_of minimum index s
      unfolding start_of
      data-list c r h k = of-list (type_values t) w c r (sym e) own-least (sym h) k

      pub data-own : (n : ℕ) (d : List ℕ) → refused n d ≡ start_of stream.Types s → w ≡ worst_of minimum index s
      unfolding start_of
      data-own n d h = sym (of-own (type_values t) w n d (sym e) own-least (sym h))
