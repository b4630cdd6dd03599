-- What a job does at a reference, by the tests that the code makes. Assumes nothing.
use Prim.Native.Nat.{ℕ, zero, suc, ◌+◌, ◌-◌, ◌≤◌, ◌<◌}
use native.Mathlib.Omega.{arith}
use mathlib.Core.Bool.{Bool, true, false}
use mathlib.Core.List.{List, [], ◌∷◌, ◌++◌}
use mathlib.Core.Path.{◌≡◌, refl, sym, ap, ◌∙◌}
use lib.ListN.{length, get_or, set, get_or-eq_default}
use lib.Seq.{set_out}
use borrow.Author.Tests.{lt-ltb, le-ltb, le-leb, lt-leb, eq-eqb, ne_eqb}
use Rattle.answer.specs.Answer.{Answer, answered, refused}
use Rattle.field.specs.Bytes.{bytes}
use Rattle.field_put.specs.Bytes.{Lays}
use Rattle.field_put.proofs.PutLaws.{length-bytes}
use Rattle.field.specs.declared.index.Stream.TheVariants as stream
use Rattle.record_data.specs.Said.{type_values}
use Rattle.record_data.specs.declared.TypeData.{TypeData}
use Rattle.record_reference.proofs.OwnLaws.{own-joined}
use Rattle.record_reference.proofs.ValueLaws.{step-tell}
use Rattle.record_layout.specs.Fields.{Shown}
use Rattle.record_layout.specs.Layouts.{type_leaves, record_of}
use Rattle.record_list.specs.declared.ListCursor.{ListCursor}
use Rattle.record_list.specs.Lists.{Step, start_types, start_of, step_of}
use Rattle.record_reference.specs.References.{Ref, ref, refs_at}
use Rattle.record_reference.specs.Values.{refs_by, slots_by, slots, joined, element_refs, behind_leaf, or_behind, fields_at}
use Rattle.record_reference.specs.Said.{said_of_element}
use Rattle.record_reference.specs.declared.ElementReferences.{ElementReferences}
use Rattle.record_reference.specs.declared.ElementReferences.TheVariants as element
use Rattle.record_reference.proofs.Onward.{step-on}
use Rattle.record_rewrite.specs.Rewrite.{Within}
use Rattle.record_rewrite.proofs.Places.{within-sooner, within-later}
use Rattle.record_rewrite.proofs.Steps.{step-carried}
use Rattle.field_text.specs.Texts.{padding_after}
use Rattle.stream_drop.specs.Each.{Held, held_of, raised, laid, done, done_at, done_all, done_from, done_of}
use Rattle.stream_drop.specs.declared.each.Job.{Job}
use Rattle.stream_drop.specs.declared.each.Job.TheVariants as job

-- The table -----------------------------------------------------------------------------------------------------------------------------

pub raised-past : (t : List ℕ) (d : ℕ) → length t ≤ d → t ≡ raised t d
raised-past t d h = rw (get_or-eq_default t 0 {n = d} h) (sym (set_out t d _ h))

pub raised-marked : (t : List ℕ) (d : ℕ) → 65536 ≤ get_or t d 0 → t ≡ raised t d
raised-marked t d h = rw (le-ltb _ _ h)

pub raised-here : (t : List ℕ) (d : ℕ) → get_or t d 0 < 65536 → set t d (get_or t d 0 + 65536) ≡ raised t d
raised-here t d h = rw (lt-ltb _ _ h)

-- The buffer ----------------------------------------------------------------------------------------------------------------------------

pub laid-past : (b : List ℕ) (p n : ℕ) → length b < p + 4 → b ≡ laid b p (bytes 4 n)
unfolding laid
laid-past b p n h = rw (length-bytes 4 n, lt-leb _ _ h)

pub laid_by : (b : List ℕ) (p : ℕ) (bs : List ℕ) (r : ℕ) (b' : List ℕ) → Lays b p bs r b' → b' ≡ laid b p bs
unfolding laid
laid_by b p bs r b' h = h.left

-- One reference -------------------------------------------------------------------------------------------------------------------------

module _ (minimum place : ℕ) (optional : Bool) (index : ℕ) where
  pub done_below : (j : Job) (x : Held) → index < minimum → x ≡ done minimum j (ref place optional index) x
  unfolding done
  done_below j x h = rw (lt-ltb _ _ h)

  pub done-above : (j : Job) (x : Held) → minimum ≤ index → done_at j (ref place optional index) (index - minimum) x ≡ done minimum j (ref place optional index) x
  unfolding done
  done-above j x h = rw (le-ltb _ _ h)

  module _ (g : Bool) (t b : List ℕ) (above : minimum ≤ index) where
    pub asked-none : optional ≡ true → get_or t (index - minimum) 0 ≡ 0xffff → held_of false t b ≡ done minimum job.Ask (ref place optional index) (held_of g t b)
    unfolding done
    asked-none o e = rw (le-ltb _ _ above, o, eq-eqb _ _ e)

    pub asked-some : optional ≡ true → (get_or t (index - minimum) 0 ≡ 0xffff → ⊥) → held_of g t b ≡ done minimum job.Ask (ref place optional index) (held_of g t b)
    unfolding done
    asked-some o e = rw (le-ltb _ _ above, o, ne_eqb _ _ e)

    pub asked-plain : optional ≡ false → held_of g t b ≡ done minimum job.Ask (ref place optional index) (held_of g t b)
    unfolding done
    asked-plain o = rw (le-ltb _ _ above, o)

-- Where an element's references stand ----------------------------------------------------------------------------------------------------

pub behind-past : (n q : ℕ) → n < q + 2 → 0 ≡ behind_leaf n q
behind-past n q h = rw (lt-leb (q + 2) n h)

pub behind-there : (n q : ℕ) → q + 2 ≤ n → q + 2 ≡ behind_leaf n q
behind-there n q h = rw (le-leb (q + 2) n h)

module _ (s : List ℕ) (c : ListCursor) where
  pub fields-plain : (c.leaf ≡ 0x1203 → ⊥) → c.at ≡ fields_at s c
  unfolding fields_at
  fields-plain h = rw (ne_eqb c.leaf 0x1203 h)

  pub fields-padded : (a : Answer ℕ) → c.leaf ≡ 0x1203 → c.padded ≡ true → padding_after s c.at ≡ a → or_behind (length s) a ≡ fields_at s c
  unfolding fields_at
  fields-padded a h k e = rw (eq-eqb c.leaf 0x1203 h, k, e)

  pub fields-first : c.leaf ≡ 0x1203 → c.padded ≡ false → behind_leaf (length s) c.at ≡ fields_at s c
  unfolding fields_at
  fields-first h k = rw (eq-eqb c.leaf 0x1203 h, k)

pub one-fits : (r : ElementReferences) (p size k n : ℕ) → r ≡ element.One k n → Within 0 (said_of_element r p) size → p + k + 4 ≤ size
unfolding Within
one-fits r p size k n e h = let w : Within 0 (said_of_element (element.One k n) p) size = rw e at h in w.1

pub two_fits : (r : ElementReferences) (p size k n m : ℕ) → r ≡ element.Two k n m → Within 0 (said_of_element r p) size → p + k + 8 ≤ size
unfolding Within
two_fits r p size k n m e h = let w : Within 0 (said_of_element (element.Two k n m) p) size = rw e at h in omega (arith, w.1.1)

-- the references of an element that is read stand inside its payload
pub element-within : (s : List ℕ) (c : ListCursor) (x : Step) (rs : List Ref) → step_of s c ≡ answered x → rs ≡ refs_at s c → Within 0 rs (length s)
element-within s c x rs e h =
    let o : (c.at < x.next.at) × (x.next.at ≤ length s) = rw e at (step-on s c) in
    let k = step-carried (λ n. n) s c x (omega (arith, o.0, o.1)) e in
    rw h (within-later (refs_at s c) 0 x.next.at (length s) k.inside (within-sooner (refs_at s c) 0 (c.at + 0) x.next.at (omega arith) k.within))

-- what an element's references say is what the list says of it
elements-own : (s : List ℕ) (c : ListCursor) (x : Step) (r : ElementReferences) (p : ℕ) → answered x ≡ step_of s c → ((q : ℕ) → said_of_element r q ≡ element_refs x.element q) → p ≡ fields_at s c
    → said_of_element r p ≡ refs_at s c
elements-own s c x r p e f g = f p ∙ ap (element_refs x.element) g ∙ sym (step-tell s c x (sym e))

-- so those that the code has of it stand inside the payload
pub element-inside : (s : List ℕ) (c : ListCursor) (x : Step) (r : ElementReferences) (p : ℕ) → answered x ≡ step_of s c → ((q : ℕ) → said_of_element r q ≡ element_refs x.element q) → p ≡ fields_at s c
    → Within 0 (said_of_element r p) (length s)
element-inside s c x r p e f g = element-within s c x (said_of_element r p) (sym e) (elements-own s c x r p e f g)

-- References one after the other --------------------------------------------------------------------------------------------------------

pub done-both : (minimum : ℕ) (j : Job) (xs ys : List Ref) (h : Held) → done_all minimum j (xs ++ ys) h ≡ done_all minimum j ys (done_all minimum j xs h)
unfolding done_all
done-both minimum j [] ys h = refl
done-both minimum j (x ∷ xs) ys h = done-both minimum j xs ys (done minimum j x h)

pub done-four : (minimum : ℕ) (j : Job) (a b c d : List Ref) (h : Held)
    → done_all minimum j (joined (a ∷ b ∷ c ∷ d ∷ [])) h ≡ done_all minimum j d (done_all minimum j c (done_all minimum j b (done_all minimum j a h)))
unfolding done_all
done-four minimum j a b c d h = rw (done-both minimum j a (joined (b ∷ c ∷ d ∷ [])) h, done-both minimum j b (joined (c ∷ d ∷ [])) _, done-both minimum j c (joined (d ∷ [])) _, done-both minimum j d [] _)

-- Elements ------------------------------------------------------------------------------------------------------------------------------

module _ (minimum : ℕ) (j : Job) (n : ℕ) (s : List ℕ) (c : ListCursor) (x : Held) where
  pub from-none : n ≡ 0 → x ≡ done_from minimum j n s c x
  unfolding done_from
  from-none h = rw h

  pub from-refused : (m : ℕ) (d : List ℕ) → refused m d ≡ step_of s c → x ≡ done_from minimum j n s c x
  unfolding done_from
  from-refused m d e = go n
    where
      go : (k : ℕ) → x ≡ done_from minimum j k s c x
      go zero = refl
      go (suc k) = rw (← e)

  pub from_more : (y : Step) (rs : List Ref) (x' : Held) → 0 < n → step_of s c ≡ answered y → rs ≡ refs_at s c → x' ≡ done_all minimum j rs x
      → done_from minimum j (n - 1) s y.next x' ≡ done_from minimum j n s c x
  unfolding done_from
  from_more y rs x' h e r d = go n h
    where
      go : (k : ℕ) → 0 < k → done_from minimum j (k - 1) s y.next x' ≡ done_from minimum j k s c x
      go zero l = absurd (omega arith)
      go (suc k) l = let z : suc k - 1 ≡ k = omega arith in rw (e, z, d, r)

-- the same by the references that the code has of the element, after k of n steps
module _ (minimum : ℕ) (j : Job) (n : ℕ) (s : List ℕ) (c : ListCursor) (x : Held) where
  pub from-element : (k : ℕ) (y : Step) (r : ElementReferences) (p : ℕ) (x' : Held) → k < n → answered y ≡ step_of s c → ((q : ℕ) → said_of_element r q ≡ element_refs y.element q) → p ≡ fields_at s c
      → x' ≡ done_all minimum j (said_of_element r p) x → done_from minimum j (n - (k + 1)) s y.next x' ≡ done_from minimum j (n - k) s c x
  from-element k y r p x' h e f g d =
      let z : n - (k + 1) ≡ n - k - 1 = omega arith in
      rw z (from_more minimum j (n - k) s c x y (said_of_element r p) x' (omega arith) (sym e) (elements-own s c y r p e f g) d)

-- A payload -----------------------------------------------------------------------------------------------------------------------------

module _ (minimum : ℕ) (j : Job) (s : List ℕ) (x : Held) where
  pub of-refused : (n : ℕ) (d : List ℕ) → refused n d ≡ record_of type_leaves s → x ≡ done_of minimum j s x
  unfolding done_of
  of-refused n d e = rw (← e)

  module _ (vs : List Shown) (rs : List Ref) (own : Held) (reads : record_of type_leaves s ≡ answered vs) (are : rs ≡ refs_by type_leaves vs 2) (did : own ≡ done_all minimum j rs x) where
    pub of-own : (n : ℕ) (d : List ℕ) → start_types s ≡ refused n d → own ≡ done_of minimum j s x
    unfolding done_of
    of-own n d e = rw (reads, e, ← are) did

    pub of-list : (c : ListCursor) (x' : Held) → start_types s ≡ answered c → x' ≡ done_from minimum j (length s) s c own → x' ≡ done_of minimum j s x
    unfolding done_of
    of-list c x' e f = rw (reads, e, ← are, ← did) f

  -- the same of a record as the code has it, and of its own references in their four places
  module _ (t : TypeData) (rs : List (List Ref)) (own : Held) (reads : answered (type_values t) ≡ record_of type_leaves s) (are : rs ≡ slots 4 (slots_by type_leaves (type_values t) 2))
      (did : own ≡ done_all minimum j (joined rs) x) where
    own-refs : joined rs ≡ refs_by type_leaves (type_values t) 2
    own-refs = ap joined are ∙ own-joined t

    pub data-own : (n : ℕ) (d : List ℕ) → refused n d ≡ start_of stream.Types s → own ≡ done_of minimum j s x
    unfolding start_of
    data-own n d e = of-own (type_values t) (joined rs) own (sym reads) own-refs did n d (sym e)

    pub data-list : (c : ListCursor) (x' : Held) → answered c ≡ start_of stream.Types s → x' ≡ done_from minimum j (length s) s c own → x' ≡ done_of minimum j s x
    unfolding start_of
    data-list c x' e f = of-list (type_values t) (joined rs) own (sym reads) own-refs did c x' (sym e) f
