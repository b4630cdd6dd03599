-- The main law of a list's element: a step through moved bytes gives the same element but for its references, and the same next cursor; and
-- where the list ended it ends. Assumes nothing.
use Rattle.std.specs.Prelude.{Option, None, Some}
use Prim.Native.Nat.{ℕ, ◌+◌, ◌-◌, ◌≤◌}
use native.Mathlib.Omega.{arith}
use mathlib.Core.Bool.{Bool, true, false}
use mathlib.Core.Path.{◌≡◌, refl, ap, ◌∙◌}
use mathlib.Core.List.{List, [], ◌∷◌}
use lib.ListN.{length}
use lib.Dec.{leb, eqb}
use Rattle.answer.specs.Answer.{Answer, answered, refused, Read, got, pick, stop, then, and_then}
use Rattle.answer.specs.Tables.{find}
use Rattle.field_text.specs.Texts.{padding_after}
use Rattle.record_layout.specs.Fields.{Shown, id, read_field, read_fields}
use Rattle.record_layout.specs.Layouts.{Layout, type_index, method, member_leaves, read_record}
use Rattle.record_member.specs.Said.{member_leaf}
use Rattle.record_list.specs.declared.ListCursor.{ListCursor}
use Rattle.record_list.specs.Lists.{ElementValues, type_element, id_element, method_element, member_element, Step, step_to, in_counted, to_the_end, after_member, counted_step, method_step, left_after, member_step, next_member, step_of}
use Rattle.record_reference.specs.References.{Ref, refs_field, refs_fields, refs_record, or_none, refs_at}
use Rattle.record_rewrite.specs.Rewrite.{renamed_all, Within, Stand, Agree, Moved, moved_value, moved_values, moved_by, moved_record, moved_element, moved_step}
use Rattle.record_reference.proofs.ValueLaws.{no_answer}
use Rattle.record_rewrite.proofs.Settled.{padding-settled}
use Rattle.record_rewrite.proofs.Places.{within-sooner, moved-short, moved-from}
use Rattle.record_rewrite.proofs.Carried.{Owned, fields-carried}
use Rattle.record_rewrite.proofs.Owned.{record-owned}
use Rattle.record_rewrite.proofs.Not15.{Not15, fields-not, record-not, padding-not}

-- the step x from p, whose references are rs and whose first k bytes are none of theirs
pub record Stepped (f : ℕ → ℕ) (s : List ℕ) (k p : ℕ) (x : Step) (rs : List Ref) (step : List ℕ → Answer Step) (refs : List ℕ → List Ref) : Type 0 where
  pub within : Within (p + k) rs x.next.at
  pub inside : x.next.at ≤ length s
  pub stands : Stand s rs
  pub steps : (t : List ℕ) → length t ≡ length s → Moved f s t p rs x.next.at → step t ≡ answered (moved_step f x)
  pub names : (t : List ℕ) → length t ≡ length s → Moved f s t p rs x.next.at → refs t ≡ renamed_all f rs

-- what a list makes of a reading
pub record Element (b : Bool) (a : Read (List Shown)) (el : List Shown → ElementValues) (nx : List Shown → ℕ → ListCursor) (x : Step) : Type 0 where
  pub more : b ≡ false
  pub values : List Shown
  pub place : ℕ
  pub was : a ≡ got values place
  pub is : record { element = el values; next = nx values place } ≡ x

pub element : (b : Bool) (a : Read (List Shown)) (el : List Shown → ElementValues) (nx : List Shown → ℕ → ListCursor) (x : Step)
    → stop b 15 (and_then a (λ vs e. step_to (el vs) (nx vs e))) ≡ answered x → Element b a el nx x
element true a el nx x h = no_answer h
element false (answered g) el nx x h = record { more = refl; values = g.value; place = g.next; was = refl; is = cc }
element false (refused n d) el nx x h = no_answer h

module _ (f : ℕ → ℕ) (s : List ℕ) (k p : ℕ) (b : List ℕ → Bool) (same : (t : List ℕ) → length t ≡ length s → b t ≡ b s)
    (read : List ℕ → Read (List Shown)) (refs_in : List ℕ → Read (List Ref)) (el : List Shown → ElementValues) (nx : List Shown → ℕ → ListCursor) (move : List Shown → List Shown)
    (owned : (vs : List Shown) (e : ℕ) → read s ≡ got vs e → Owned f s k p (move vs) e read refs_in)
    (moves : (vs : List Shown) → moved_element f (el vs) ≡ el (move vs))
    (stands : (vs : List Shown) (e : ℕ) → (nx vs e).at ≡ e)
    (stays : (vs : List Shown) (e : ℕ) → nx (move vs) e ≡ nx vs e) where
  step-owned : (x : Step) → stop (b s) 15 (and_then (read s) (λ vs e. step_to (el vs) (nx vs e))) ≡ answered x
      → Stepped f s k p x (or_none (refs_in s)) (λ t. stop (b t) 15 (and_then (read t) (λ vs e. step_to (el vs) (nx vs e)))) (λ t. or_none (refs_in t))
  step-owned x h =
      let g = element (b s) (read s) el nx x h in
      go g.values g.place g.was g.more x g.is
    where
      at : (vs : List Shown) (e : ℕ) → read s ≡ got vs e → b s ≡ false
          → Stepped f s k p (record { element = el vs; next = nx vs e }) (or_none (refs_in s)) (λ t. stop (b t) 15 (and_then (read t) (λ vs e. step_to (el vs) (nx vs e)))) (λ t. or_none (refs_in t))
      at vs e r o =
          let w = owned vs e r in
          let c = w.carried in
          rw w.are (record {
            within = rw (stands vs e) w.free;
            inside = rw (stands vs e) c.inside;
            stands = c.stands;
            steps = λ t l m. rw (same t l, o, c.reads t l (rw (stands vs e) at m), stays vs e, moves vs);
            names = λ t l m. rw (c.names t l (rw (stands vs e) at m));
          })

      go : (vs : List Shown) (e : ℕ) → read s ≡ got vs e → b s ≡ false → (x : Step) → record { element = el vs; next = nx vs e } ≡ x
          → Stepped f s k p x (or_none (refs_in s)) (λ t. stop (b t) 15 (and_then (read t) (λ vs e. step_to (el vs) (nx vs e)))) (λ t. or_none (refs_in t))
      go vs e r o x i = rw (← i) (at vs e r o)

-- Each kind of list ---------------------------------------------------------------------------------------------------------------

id-stays : (f : ℕ → ℕ) (vs : List Shown) → id_element vs ≡ id_element (moved_values f (id ∷ []) vs)
unfolding moved_values moved_value
id-stays f [] = refl
id-stays f (v ∷ vs) = refl

id-none : (s : List ℕ) (p : ℕ) → or_none (refs_fields (id ∷ []) 0 s p) ≡ []
unfolding refs_fields refs_field
id-none s p = go (read_field id 0 s p)
  where
    go : (a : Read Shown) → or_none (and_then a (λ v q. got {A = List Ref} [] q)) ≡ []
    go (answered g) = refl
    go (refused n d) = refl

same-leaf : (f : ℕ → ℕ) (o : Option Layout) (vs : List Shown) → member_leaf (moved_by f o vs) ≡ member_leaf vs
same-leaf f None vs = refl
same-leaf f (Some fs) [] = refl
same-leaf f (Some fs) (v ∷ vs) = refl

-- `step_of` and `refs_at` over their tests of the leaf
abbrev step_by : ListCursor → Bool → Bool → Bool → Bool → Bool → List ℕ → Answer Step
step_by c a b d e g t =
    pick a (counted_step type_index type_element 0x1201 t c.at c.left) (pick b (method_step t c.at) (pick d (next_member t c.at c.left c.padded)
    (pick e (counted_step id id_element 0x1603 t c.at c.left) (pick g (counted_step type_index type_element 0x1604 t c.at c.left) (refused 10 (c.leaf ∷ []))))))

abbrev refs_by : ListCursor → Bool → Bool → Bool → Bool → List ℕ → List Ref
refs_by c a b d e t =
    pick a (or_none (refs_fields (type_index ∷ []) 0 t c.at)) (pick b (or_none (refs_fields method 0 t c.at))
    (pick d (or_none (then (pick c.padded (padding_after t c.at) (answered c.at)) (λ q. refs_record member_leaves t q)))
    (pick e [] (or_none (refs_fields (type_index ∷ []) 0 t c.at)))))

module _ (f : ℕ → ℕ) (s : List ℕ) where
  type-step : (leaf p left : ℕ) (x : Step) → p ≤ length s → counted_step type_index type_element leaf s p left ≡ answered x
      → Stepped f s 0 p x (or_none (refs_fields (type_index ∷ []) 0 s p)) (λ t. counted_step type_index type_element leaf t p left) (λ t. or_none (refs_fields (type_index ∷ []) 0 t p))
  unfolding counted_step moved_element
  type-step leaf p left x l h =
      step-owned f s 0 p (λ t. eqb left 0) (λ t i. refl) (λ t. read_fields (type_index ∷ []) 0 t p) (λ t. refs_fields (type_index ∷ []) 0 t p) type_element (λ vs e. in_counted leaf e (left - 1)) (moved_values f (type_index ∷ []))
      (λ vs e g. fields-carried f s (type_index ∷ []) 0 p vs e l g) (λ vs. refl) (λ vs e. refl) (λ vs e. refl) x h

  -- an id names no type
  id-step : (leaf p left : ℕ) (x : Step) → p ≤ length s → counted_step id id_element leaf s p left ≡ answered x
      → Stepped f s 0 p x [] (λ t. counted_step id id_element leaf t p left) (λ t. [])
  unfolding counted_step moved_element Stand renamed_all
  id-step leaf p left x l h =
      let m = step-owned f s 0 p (λ t. eqb left 0) (λ t i. refl) (λ t. read_fields (id ∷ []) 0 t p) (λ t. refs_fields (id ∷ []) 0 t p) id_element (λ vs e. in_counted leaf e (left - 1)) (moved_values f (id ∷ []))
      (λ vs e g. fields-carried f s (id ∷ []) 0 p vs e l g) (id-stays f) (λ vs e. refl) (λ vs e. refl) x h in
      let z = id-none s p in
      record { within = rw z at m.within; inside = m.inside; stands = tt; steps = λ t i n. m.steps t i (rw z n); names = λ t i n. refl }

  method-step : (p : ℕ) (x : Step) → p ≤ length s → method_step s p ≡ answered x
      → Stepped f s 0 p x (or_none (refs_fields method 0 s p)) (λ t. method_step t p) (λ t. or_none (refs_fields method 0 t p))
  unfolding method_step moved_element
  method-step p x l h =
      step-owned f s 0 p (λ t. leb (length t) p) (λ t i. rw i) (λ t. read_fields method 0 t p) (λ t. refs_fields method 0 t p) method_element (λ vs e. to_the_end 0x1206 e) (moved_values f method)
      (λ vs e g. fields-carried f s method 0 p vs e l g) (λ vs. refl) (λ vs e. refl) (λ vs e. refl) x h

  member-step : (p : ℕ) (x : Step) → member_step s p ≡ answered x
      → Stepped f s 2 p x (or_none (refs_record member_leaves s p)) (λ t. member_step t p) (λ t. or_none (refs_record member_leaves t p))
  unfolding member_step moved_element moved_record
  member-step p x h =
      step-owned f s 2 p (λ t. leb (length t) p) (λ t i. rw i) (λ t. read_record member_leaves t p) (λ t. refs_record member_leaves t p) member_element (λ vs e. after_member e (left_after vs)) (moved_record f member_leaves)
      (λ vs e g. record-owned f member_leaves s p vs e g) (λ vs. refl) (λ vs e. refl) stays x h
    where
      stays : (vs : List Shown) (e : ℕ) → after_member e (left_after (moved_record f member_leaves vs)) ≡ after_member e (left_after vs)
      stays vs e = ap (λ n. after_member e (pick (eqb n 0x1404) 0 1)) (same-leaf f (find (member_leaf vs) member_leaves) vs)

  -- after the padding
  next-step : (p left : ℕ) (padded : Bool) (x : Step) → next_member s p left padded ≡ answered x
      → Stepped f s 0 p x (or_none (then (pick padded (padding_after s p) (answered p)) (λ q. refs_record member_leaves s q))) (λ t. next_member t p left padded)
      (λ t. or_none (then (pick padded (padding_after t p) (answered p)) (λ q. refs_record member_leaves t q)))
  unfolding next_member
  next-step p left padded x h = go (eqb left 0) padded h
    where
      at : (q : ℕ) → padding_after s p ≡ answered q → member_step s q ≡ answered x
          → Stepped f s 0 p x (or_none (refs_record member_leaves s q)) (λ t. then (padding_after t p) (λ q. member_step t q)) (λ t. or_none (then (padding_after t p) (λ q. refs_record member_leaves t q)))
      at q i g =
          let k = padding-settled s p q i in
          let m = member-step q x g in
          let rs = or_none (refs_record member_leaves s q) in
          let e = x.next.at in
          let w : Within (q + 1) rs e = within-sooner rs (q + 1) (q + 2) e (omega arith) m.within in
          let pads : (t : List ℕ) → length t ≡ length s → Moved f s t p rs e → padding_after t p ≡ answered q =
          λ t l n. k.alike t l (λ i a b c. moved-short f s t rs p (q + 1) e (omega (arith, k.onward)) w n i a (omega arith)) in
          record {
            within = within-sooner rs (p + 0) (q + 2) e (omega (arith, k.onward)) m.within;
            inside = m.inside;
            stands = m.stands;
            steps = λ t l n. rw (pads t l n) (m.steps t l (moved-from f s t rs p q e k.onward n));
            names = λ t l n. rw (pads t l n) (m.names t l (moved-from f s t rs p q e k.onward n));
          }

      padding : (a : Answer ℕ) → padding_after s p ≡ a → then a (λ q. member_step s q) ≡ answered x
          → Stepped f s 0 p x (or_none (then a (λ q. refs_record member_leaves s q))) (λ t. then (padding_after t p) (λ q. member_step t q)) (λ t. or_none (then (padding_after t p) (λ q. refs_record member_leaves t q)))
      padding (answered q) i g = at q i g
      padding (refused n d) i g = no_answer g

      go : (b padded : Bool) → stop b 15 (then (pick padded (padding_after s p) (answered p)) (λ q. member_step s q)) ≡ answered x
          → Stepped f s 0 p x (or_none (then (pick padded (padding_after s p) (answered p)) (λ q. refs_record member_leaves s q)))
          (λ t. stop b 15 (then (pick padded (padding_after t p) (answered p)) (λ q. member_step t q))) (λ t. or_none (then (pick padded (padding_after t p) (answered p)) (λ q. refs_record member_leaves t q)))
      go true padded g = no_answer g
      go false true g = padding (padding_after s p) refl g
      go false false g =
          let m = member-step p x g in
          record { within = within-sooner _ (p + 0) (p + 2) _ (omega arith) m.within; inside = m.inside; stands = m.stands; steps = m.steps; names = m.names }

  -- whatever list
  pub step-carried : (c : ListCursor) (x : Step) → c.at ≤ length s → step_of s c ≡ answered x → Stepped f s 0 c.at x (refs_at s c) (λ t. step_of t c) (λ t. refs_at t c)
  unfolding step_of refs_at
  step-carried c x l = go (eqb c.leaf 0x1201) (eqb c.leaf 0x1206) (eqb c.leaf 0x1203) (eqb c.leaf 0x1603) (eqb c.leaf 0x1604)
    where
      go : (a b d e g : Bool) → step_by c a b d e g s ≡ answered x → Stepped f s 0 c.at x (refs_by c a b d e s) (step_by c a b d e g) (refs_by c a b d e)
      go true b d e g h = type-step 0x1201 c.at c.left x l h
      go false true d e g h = method-step c.at x l h
      go false false true e g h = next-step c.at c.left c.padded x h
      go false false false true g h = id-step 0x1603 c.at c.left x l h
      go false false false false true h = type-step 0x1604 c.at c.left x l h
      go false false false false false h = no_answer h

-- Where the list ended --------------------------------------------------------------------------------------------------------------

not-15 : {X A : Type 0} {a : A} {n : ℕ} {d : List ℕ} → answered a ≡ refused n d → X
not-15 {X} {A} {a} {n} {d} h = let z : ◌≡◌ {A = ℕ} 0 1 = cc in absurd (omega arith)

ended_by : (b : Bool) (a u : Read (List Shown)) (el : List Shown → ElementValues) (nx : List Shown → ℕ → ListCursor) (n : ℕ) (d : List ℕ) → n ≡ 15 → Not15 a
    → stop b 15 (and_then a (λ vs e. step_to (el vs) (nx vs e))) ≡ refused n d → stop b 15 (and_then u (λ vs e. step_to (el vs) (nx vs e))) ≡ refused n d
ended_by true a u el nx n d i h g = g
ended_by false (answered x) u el nx n d i h g = not-15 g
ended_by false (refused m c) u el nx n d i h g = let z : m ≡ n = cc in absurd (h (z ∙ i))

module _ (s t : List ℕ) (same : length t ≡ length s) where
  fields-ended : (fs : Layout) (p : ℕ) (b : Bool) (el : List Shown → ElementValues) (nx : List Shown → ℕ → ListCursor) (n : ℕ) (d : List ℕ) → n ≡ 15
      → stop b 15 (and_then (read_fields fs 0 s p) (λ vs e. step_to (el vs) (nx vs e))) ≡ refused n d
      → stop b 15 (and_then (read_fields fs 0 t p) (λ vs e. step_to (el vs) (nx vs e))) ≡ refused n d
  fields-ended fs p b el nx n d i h = ended_by b (read_fields fs 0 s p) (read_fields fs 0 t p) el nx n d i (fields-not fs 0 s p) h

  member-ended : (q n : ℕ) (d : List ℕ) → n ≡ 15 → member_step s q ≡ refused n d → member_step t q ≡ refused n d
  unfolding member_step
  member-ended q n d i h = rw same (ended_by (leb (length s) q) (read_record member_leaves s q) (read_record member_leaves t q) member_element (λ vs e. after_member e (left_after vs)) n d i (record-not member_leaves s q) h)

  next-ended : (p left : ℕ) (padded : Bool) (n : ℕ) (d : List ℕ) → n ≡ 15 → Agree s t p (length s) → next_member s p left padded ≡ refused n d → next_member t p left padded ≡ refused n d
  unfolding next_member
  next-ended p left padded n d i a h = go (eqb left 0) padded h
    where
      padding : (u : Answer ℕ) → padding_after s p ≡ u → Not15 u → then u (λ q. member_step s q) ≡ refused n d → then (padding_after t p) (λ q. member_step t q) ≡ refused n d
      padding (answered q) e k g =
          let z = padding-settled s p q e in
          rw (z.alike t same (λ j x y w. a j x w)) (member-ended q n d i g)
      padding (refused m c) e k g = let z : m ≡ n = cc in absurd (k (z ∙ i))

      go : (b padded : Bool) → stop b 15 (then (pick padded (padding_after s p) (answered p)) (λ q. member_step s q)) ≡ refused n d
          → stop b 15 (then (pick padded (padding_after t p) (answered p)) (λ q. member_step t q)) ≡ refused n d
      go true padded g = g
      go false true g = padding (padding_after s p) refl (padding-not s p) g
      go false false g = member-ended p n d i g

  -- whatever list
  pub step-ended : (c : ListCursor) (n : ℕ) (d : List ℕ) → n ≡ 15 → Agree s t c.at (length s) → step_of s c ≡ refused n d → step_of t c ≡ refused n d
  unfolding step_of counted_step method_step
  step-ended c n d i h = go (eqb c.leaf 0x1201) (eqb c.leaf 0x1206) (eqb c.leaf 0x1203) (eqb c.leaf 0x1603) (eqb c.leaf 0x1604)
    where
      go : (a b e g k : Bool) → step_by c a b e g k s ≡ refused n d → step_by c a b e g k t ≡ refused n d
      go true b e g k x = fields-ended (type_index ∷ []) c.at (eqb c.left 0) type_element _ n d i x
      go false true e g k x = rw same (fields-ended method c.at (leb (length s) c.at) method_element _ n d i x)
      go false false true g k x = next-ended c.at c.left c.padded n d i h x
      go false false false true k x = fields-ended (id ∷ []) c.at (eqb c.left 0) id_element _ n d i x
      go false false false false true x = fields-ended (type_index ∷ []) c.at (eqb c.left 0) type_element _ n d i x
      go false false false false false x = x
