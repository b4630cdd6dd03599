-- 17 of a list is given exactly if no payload has its elements: what is written reads back, and whatever the list reader gives can be written. Assumes
-- nothing.
use Rattle.std.specs.Prelude.{Option, None, Some}
use Prim.Native.Nat.{ℕ, zero, suc, ◌^◌, ◌≤◌, ◌<◌}
use native.Mathlib.Omega.{arith}
use mathlib.Core.Bool.{Bool, true, false}
use mathlib.Core.Path.{◌≡◌, refl, ap, sym, subst, ◌∙◌}
use mathlib.Core.List.{List, [], ◌∷◌, ◌++◌}
use lib.ListN.{length}
use lib.Dec.{leb, ltb, eqb, lit<}
use borrow.Author.Tests.{lt-ltb}
use Rattle.answer.specs.Answer.{Answer, answered, refused, Read, got, pick, stop, then, and_then}
use Rattle.answer.specs.Tables.{◌is◌, find}
use Rattle.field.specs.Fields.{little_at, fixed_at}
use Rattle.field.specs.Bytes.{bytes}
use Rattle.field.proofs.FieldLaws.{field-got, little-below}
use Rattle.field.proofs.ByteLaws.{bytes_small}
use Rattle.field_text.specs.Texts.{padding_after}
use Rattle.field_number.specs.Forms.{form_of, AllBytes}
use Rattle.record_layout.specs.Fields.{Shown, number, numeral, absent, many, read_fields_by}
use Rattle.record_layout.specs.Layouts.{Layout, Table, member_leaves, method, read_leaf, read_record}
use Rattle.record_layout.specs.Layouts as reading
use Rattle.record_list.specs.Lists.{ElementValues, type_element, id_element, member_element, method_element, Step, step_to, to_the_end, after_member, start_types, start_of, left_after, member_step, method_step, next_member, step_of, element_by, element_of}
use Rattle.record_list.specs.declared.ListCursor.{ListCursor}
use Rattle.record_member.specs.Said.{member_leaf}
use Rattle.field.specs.declared.index.Stream.TheVariants as stream
use Rattle.write_layout.specs.Runs.{pads}
use Rattle.write_layout.specs.Fields.{ToWrite, given_all, Encoded, bad, fixed_bytes, and_also, write_fields}
use Rattle.write_layout.specs.Records.{write_leaf, missing, filled, record_bytes}
use Rattle.write_layout.specs.Lists.{filled_member, filled_each, member_bytes, ends_list, members_bytes, methods_bytes, field_list_bytes, method_list_bytes}
use Rattle.write_layout.specs.RoundTrip.{AllInBytes}
use Rattle.write_layout.proofs.Octets.{both_small, Sound, leaf-sound}
use Rattle.write_layout.proofs.Padding.{missing-few}
use Rattle.write_layout.proofs.Rewrite.{Answers, from, same-value, re-fields}
use Rattle.write_list.specs.ListsBack.{ElementIs, ShowsAs, ElementAs, HasElements, EachInBytes, ListsExactly17}
use Rattle.write_list.proofs.ListBack.{fields-element, methods-element}

no_answer : {X : Type 0} {A : Type 0} {n : ℕ} {d : List ℕ} {a : A} → ◌≡◌ {A = Answer A} (refused n d) (answered a) → X
no_answer {X} {A} {n} {d} {a} h = let z : ◌≡◌ {A = ℕ} 0 1 = cc in absurd (omega arith)

both-answer : (a b : Encoded) → Answers a → Answers b → Answers (and_also a b)
both-answer a b x y = record { out = x.out ++ y.out; answer = rw (x.answer, y.answer) }

-- A record that was read anywhere can be written -----------------------------------------------------------------------------------------

re-at : (table : Table) (s : List ℕ) → AllBytes s → (q : ℕ) (values : List Shown) (e : ℕ) → read_record table s q ≡ got values e → Answers (write_leaf table (given_all s values))
unfolding read_record read_leaf write_leaf fixed_bytes
re-at table s small q values e h =
    let u = from (fixed_at 2 s q) (λ leaf p. read_leaf table leaf s p) values e h in
    let b : u.value < 256 ^ 2 = rw (field-got 2 s q u.value u.place u.was).value (little-below 2 s q small) in
    go u.value u.place (find u.value table) refl b u.gives
  where
    go : (leaf p : ℕ) (l : Option Layout) → find leaf table ≡ l → leaf < 256 ^ 2 → reading.by_layout l leaf s p ≡ got values e → Answers (write_leaf table (given_all s values))
    go leaf p None f b g = no_answer g
    go leaf p (Some fs) f b g =
        let t = from (read_fields_by form_of fs 0 s p) (λ vs x. got (number leaf ∷ vs) x) values e g in
        let y = re-fields form_of s small fs 0 p t.value t.place t.was in
        rw (← same-value (number leaf ∷ t.value) values t.place e t.gives, f)
        (both-answer (fixed_bytes 2 leaf) (write_fields fs 0 (given_all s t.value)) (record { out = bytes 2 leaf; answer = rw (lt-ltb _ _ b) }) y)

-- From a step back to what was read ---------------------------------------------------------------------------------------------------

then-from : {A B : Type 0} (a : Answer A) (f : A → Answer B) (b : B) → then a f ≡ answered b → (x : A) × (a ≡ answered x) × (f x ≡ answered b)
then-from (answered x) f b e = (x, refl, e)
then-from (refused n d) f b e = no_answer e

stop-from : {A : Type 0} (t : Bool) (n : ℕ) (a : Answer A) (b : A) → stop t n a ≡ answered b → a ≡ answered b
stop-from true n a b e = no_answer e
stop-from false n a b e = e

record MemberRead (s : List ℕ) (x : Step) : Type 0 where
  pub place : ℕ
  pub values : List Shown
  pub behind : ℕ
  pub read : read_record member_leaves s place ≡ got values behind
  pub made : x ≡ record { element = member_element values; next = after_member behind (left_after values) }

member-read : (s : List ℕ) (q : ℕ) (x : Step) → member_step s q ≡ answered x → MemberRead s x
unfolding member_step
member-read s q x h = go (read_record member_leaves s q) refl (stop-from (leb (length s) q) 15 _ x h)
  where
    go : (r : Read (List Shown)) → read_record member_leaves s q ≡ r → and_then r (λ vs e. step_to (member_element vs) (after_member e (left_after vs))) ≡ answered x → MemberRead s x
    go (answered g) e k = record { place = q; values = g.value; behind = g.next; read = e; made = cc }
    go (refused n d) e k = no_answer k

next-read : (s : List ℕ) (p left : ℕ) (padded : Bool) (x : Step) → next_member s p left padded ≡ answered x → MemberRead s x
unfolding next_member
next-read s p left padded x h =
    let t = then-from (pick padded (padding_after s p) (answered p)) (λ q. member_step s q) x (stop-from (eqb left 0) 15 _ x h) in
    member-read s t.0 x t.2

record MethodRead (s : List ℕ) (p : ℕ) (x : Step) : Type 0 where
  pub values : List Shown
  pub behind : ℕ
  pub read : read_fields_by form_of method 0 s p ≡ got values behind
  pub made : x ≡ record { element = method_element values; next = to_the_end 0x1206 behind }

method-read : (s : List ℕ) (p : ℕ) (x : Step) → method_step s p ≡ answered x → MethodRead s p x
unfolding method_step
method-read s p x h = go (read_fields_by form_of method 0 s p) refl (stop-from (leb (length s) p) 15 _ x h)
  where
    go : (r : Read (List Shown)) → read_fields_by form_of method 0 s p ≡ r → and_then r (λ vs e. step_to (method_element vs) (to_the_end 0x1206 e)) ≡ answered x → MethodRead s p x
    go (answered g) e k = record { values = g.value; behind = g.next; read = e; made = cc }
    go (refused n d) e k = no_answer k

-- whether a member ends its list is said by its values, as they are read and as they are given
given-ends : (s : List ℕ) (vs : List Shown) → ends_list (given_all s vs) ≡ eqb (member_leaf vs) 0x1404
unfolding ends_list
given-ends s [] = refl
given-ends s (number n ∷ vs) = refl
given-ends s (numeral z f ∷ vs) = refl
given-ends s (absent ∷ vs) = refl
given-ends s (many x ∷ vs) = refl

values_of : ElementValues → List Shown
values_of (type_element vs) = vs
values_of (id_element vs) = vs
values_of (method_element vs) = vs
values_of (member_element vs) = vs

-- What the reader gives can be written -----------------------------------------------------------------------------------------------------

module _ (s : List ℕ) (small : AllBytes s) where
  abbrev in_members : ℕ → Bool → Bool → ListCursor
  in_members p ended padded = record { leaf = 0x1203; at = p; left = pick ended 0 1; padded = padded }

  ended-now : (p : ℕ) (padded : Bool) (v : List Shown) → then (next_member s p 0 padded) (λ x. answered x.element) ≡ answered (member_element v)
      → ◌≡◌ {A = Answer ElementValues} (refused 15 []) (answered (member_element v))
  unfolding next_member
  ended-now p padded v e = e

  members-answer : (vss : List (List ToWrite)) (ended : Bool) (p : ℕ) (padded : Bool)
      → ((k : ℕ) → ElementAs member_element s vss k (element_by (step_of s) k (in_members p ended padded))) → Answers (members_bytes ended vss)
  unfolding members_bytes member_bytes filled_each ElementAs element_by step_of values_of
  members-answer [] ended p padded f = record { out = []; answer = refl }
  members-answer (vs ∷ vss) true p padded f = let z : ShowsAs member_element s vs (then (next_member s p 0 padded) (λ x. answered x.element)) = f 0 in no_answer (ended-now p padded z.values z.element)
  members-answer (vs ∷ vss) false p padded f =
      let z : ShowsAs member_element s vs (then (next_member s p 1 padded) (λ x. answered x.element)) = f 0 in
      let t = then-from (next_member s p 1 padded) (λ x. answered x.element) (member_element z.values) z.element in
      let r = next-read s p 1 padded t.0 t.1 in
      let same-element : t.0.element ≡ member_element z.values = cc in
      let v : r.values ≡ z.values = ap values_of (ap (λ (x : Step). x.element) (sym r.made) ∙ same-element) in
      let g : given_all s r.values ≡ vs = ap (given_all s) v ∙ z.same in
      let a = re-at member_leaves s small r.place r.values r.behind r.read in
      let e : write_leaf member_leaves vs ≡ answered a.out = subst (λ (w : List ToWrite). write_leaf member_leaves w ≡ answered a.out) g a.answer in
      let l : eqb (member_leaf r.values) 0x1404 ≡ ends_list vs = sym (given-ends s r.values) ∙ ap ends_list g in
      let later : (k : ℕ) → ElementAs member_element s vss k (element_by (step_of s) k (in_members r.behind (ends_list vs) true)) =
      λ k. subst (λ (b : Bool). ElementAs member_element s vss k (element_by (step_of s) k (in_members r.behind b true))) l
      (subst (λ (x : Answer Step). ElementAs member_element s vss k (then x (λ y. element_by (step_of s) k y.next))) (t.1 ∙ ap (λ (x : Step). answered x) r.made) (f (suc k))) in
      both-answer (member_bytes vs) (members_bytes (ends_list vs) vss) (record { out = filled_member a.out; answer = rw e })
      (members-answer vss (ends_list vs) r.behind true later)

  methods-answer : (vss : List (List ToWrite)) (p : ℕ) → ((k : ℕ) → ElementAs method_element s vss k (element_by (step_of s) k (to_the_end 0x1206 p))) → Answers (methods_bytes vss)
  unfolding methods_bytes ElementAs element_by step_of values_of
  methods-answer [] p f = record { out = []; answer = refl }
  methods-answer (vs ∷ vss) p f =
      let z : ShowsAs method_element s vs (then (method_step s p) (λ x. answered x.element)) = f 0 in
      let t = then-from (method_step s p) (λ x. answered x.element) (method_element z.values) z.element in
      let r = method-read s p t.0 t.1 in
      let same-element : t.0.element ≡ method_element z.values = cc in
      let v : r.values ≡ z.values = ap values_of (ap (λ (x : Step). x.element) (sym r.made) ∙ same-element) in
      let g : given_all s r.values ≡ vs = ap (given_all s) v ∙ z.same in
      let a = re-fields form_of s small method 0 p r.values r.behind r.read in
      let e : write_fields method 0 vs ≡ answered a.out = subst (λ (w : List ToWrite). write_fields method 0 w ≡ answered a.out) g a.answer in
      let later : (k : ℕ) → ElementAs method_element s vss k (element_by (step_of s) k (to_the_end 0x1206 r.behind)) =
      λ k. subst (λ (x : Answer Step). ElementAs method_element s vss k (then x (λ y. element_by (step_of s) k y.next))) (t.1 ∙ ap (λ (x : Step). answered x) r.made) (f (suc k)) in
      both-answer (write_fields method 0 vs) (methods_bytes vss) (record { out = a.out; answer = e }) (methods-answer vss r.behind later)

-- where such a payload starts
start-fields : (s : List ℕ) (v p : ℕ) → fixed_at 2 s 0 ≡ got v p → v ≡ 0x1203 → start_of stream.Types s ≡ answered (to_the_end 0x1203 p)
unfolding start_of start_types
start-fields s v p e l = rw (e, l)

start-methods : (s : List ℕ) (v p : ℕ) → fixed_at 2 s 0 ≡ got v p → v ≡ 0x1206 → start_of stream.Types s ≡ answered (to_the_end 0x1206 p)
unfolding start_of start_types
start-methods s v p e l = rw (e, l)

start-cut : (s : List ℕ) (n : ℕ) (d : List ℕ) → fixed_at 2 s 0 ≡ refused n d → start_of stream.Types s ≡ refused n d
unfolding start_of start_types
start-cut s n d e = rw e

-- element 0 of a payload without a leaf is refused, so that the list given is empty
cut-empty : (kind : List Shown → ElementValues) (s : List ℕ) (vss : List (List ToWrite)) (n : ℕ) (d : List ℕ) → ElementAs kind s vss 0 (refused n d) → vss ≡ []
unfolding ElementAs
cut-empty kind s [] n d x = refl
cut-empty kind s (vs ∷ vss) n d x = no_answer x.element

module _ (vss : List (List ToWrite)) where
  fields-has : HasElements 0x1203 member_element vss → Answers (members_bytes false vss)
  unfolding element_of members_bytes
  fields-has h = go (fixed_at 2 h.payload 0) refl
    where
      from_start : (a : Answer ListCursor) → start_of stream.Types h.payload ≡ a → (k : ℕ) → ElementAs member_element h.payload vss k (then a (λ c. element_by (step_of h.payload) k c))
      from_start a e k = subst (λ (x : Answer ListCursor). ElementAs member_element h.payload vss k (then x (λ c. element_by (step_of h.payload) k c))) e (h.element k)

      go : (r : Read ℕ) → fixed_at 2 h.payload 0 ≡ r → Answers (members_bytes false vss)
      go (answered g) e =
          let l : g.value ≡ 0x1203 = (field-got 2 h.payload 0 g.value g.next e).value ∙ h.leaf_is in
          members-answer h.payload h.small vss false g.next false (from_start _ (start-fields h.payload g.value g.next e l))
      go (refused n d) e =
          let c = cut-empty member_element h.payload vss n d (from_start _ (start-cut h.payload n d e) 0) in
          record { out = []; answer = ap (members_bytes false) c }

  methods-has : HasElements 0x1206 method_element vss → Answers (methods_bytes vss)
  unfolding element_of methods_bytes
  methods-has h = go (fixed_at 2 h.payload 0) refl
    where
      from_start : (a : Answer ListCursor) → start_of stream.Types h.payload ≡ a → (k : ℕ) → ElementAs method_element h.payload vss k (then a (λ c. element_by (step_of h.payload) k c))
      from_start a e k = subst (λ (x : Answer ListCursor). ElementAs method_element h.payload vss k (then x (λ c. element_by (step_of h.payload) k c))) e (h.element k)

      go : (r : Read ℕ) → fixed_at 2 h.payload 0 ≡ r → Answers (methods_bytes vss)
      go (answered g) e =
          let l : g.value ≡ 0x1206 = (field-got 2 h.payload 0 g.value g.next e).value ∙ h.leaf_is in
          methods-answer h.payload h.small vss g.next (from_start _ (start-methods h.payload g.value g.next e l))
      go (refused n d) e =
          let c = cut-empty method_element h.payload vss n d (from_start _ (start-cut h.payload n d e) 0) in
          record { out = []; answer = ap methods_bytes c }

-- What is written is bytes, or 17 --------------------------------------------------------------------------------------------------------

pads-small : (k : ℕ) → k ≤ 3 → AllBytes (pads k)
unfolding pads
pads-small zero l i = omega arith
pads-small (suc k) l zero = omega arith
pads-small (suc k) l (suc i) = pads-small k (omega arith) i

also-sound : (a b : Encoded) → Sound a → Sound b → Sound (and_also a b)
also-sound (answered x) (answered y) f g = both_small x y f g
also-sound (answered x) (refused n d) f g = g
also-sound (refused n d) b f g = f

filled-sound : (b : Encoded) → Sound b → Sound (filled_each b)
unfolding filled_each filled_member
filled-sound (answered bs) f = both_small bs (pads (missing (length bs))) f (pads-small (missing (length bs)) (missing-few (length bs)))
filled-sound (refused n d) f = f

members-sound : (ended : Bool) (vss : List (List ToWrite)) → EachInBytes vss → Sound (members_bytes ended vss)
unfolding members_bytes member_bytes EachInBytes
members-sound ended [] i = λ k. omega arith
members-sound true (vs ∷ vss) i = refl
members-sound false (vs ∷ vss) i = also-sound (member_bytes vs) (members_bytes (ends_list vs) vss) (filled-sound (write_leaf member_leaves vs) (leaf-sound member_leaves vs i.0)) (members-sound (ends_list vs) vss i.1)

-- a method is the record of a table of one layout, but for its leaf
abbrev alone : Table
alone = (0 is method) ∷ []

method-sound : (vs : List ToWrite) → AllInBytes vs → Sound (write_fields method 0 vs)
unfolding write_leaf find fixed_bytes bytes AllInBytes
method-sound vs i = go (write_fields method 0 vs) (leaf-sound alone (number 0 ∷ vs) (tt, i))
  where
    go : (b : Encoded) → Sound (and_also (answered (0 ∷ 0 ∷ [])) b) → Sound b
    go (answered bs) f = λ k. f (suc (suc k))
    go (refused n d) f = f

methods-sound : (vss : List (List ToWrite)) → EachInBytes vss → Sound (methods_bytes vss)
unfolding methods_bytes EachInBytes
methods-sound [] i = λ k. omega arith
methods-sound (vs ∷ vss) i = also-sound (write_fields method 0 vs) (methods_bytes vss) (method-sound vs i.0) (methods-sound vss i.1)

-- Exactly -------------------------------------------------------------------------------------------------------------------------------

shows-as : (kind : List Shown → ElementValues) (s : List ℕ) (vss : List (List ToWrite)) (k : ℕ) (a : Answer ElementValues) → ElementIs kind s vss k a → ElementAs kind s vss k a
unfolding ElementIs ElementAs
shows-as kind s [] k a h = h
shows-as kind s (vs ∷ vss) zero a h = record { values = h.values; element = h.element; same = h.same }
shows-as kind s (vs ∷ vss) (suc k) a h = shows-as kind s vss k a h

leaf-at : (leaf : ℕ) → leaf < 65536 → (bs : List ℕ) → little_at 2 (bytes 2 leaf ++ bs) 0 ≡ leaf
unfolding little_at bytes
leaf-at leaf l bs = omega arith

-- a list of this leaf and these elements, b being the elements' bytes
module _ (leaf : ℕ) (l : leaf < 65536) (kind : List Shown → ElementValues) (vss : List (List ToWrite)) (b : Encoded) where
  not-bad : Answers b → record_bytes (and_also (fixed_bytes 2 leaf) b) ≡ bad → ⊥
  unfolding record_bytes fixed_bytes
  not-bad a h =
      let e : b ≡ answered a.out = a.answer in
      go _ (ltb 65535 (length (filled (bytes 2 leaf ++ a.out)))) (rw (lt-ltb leaf 65536 l, e) at h)
    where
      go : (bs : List ℕ) (c : Bool) → ◌≡◌ {A = Encoded} (stop c 18 (answered bs)) bad → ⊥
      go bs true f = let z : ◌≡◌ {A = ℕ} 18 17 = cc in absurd (omega arith)
      go bs false f = let z : ◌≡◌ {A = ℕ} 0 1 = cc in absurd (omega arith)

  else-bad : Sound b → ((bs : List ℕ) → b ≡ answered bs → (k : ℕ) → ElementIs kind (bytes 2 leaf ++ bs) vss k (element_of stream.Types (bytes 2 leaf ++ bs) k))
      → (HasElements leaf kind vss → ⊥) → record_bytes (and_also (fixed_bytes 2 leaf) b) ≡ bad
  unfolding record_bytes fixed_bytes
  else-bad s each f = go b refl s
    where
      go : (a : Encoded) → b ≡ a → Sound a → record_bytes (and_also (fixed_bytes 2 leaf) b) ≡ bad
      go (answered bs) e i = absurd (f (record {
        payload = bytes 2 leaf ++ bs;
        small = both_small (bytes 2 leaf) bs (bytes_small 2 leaf) i;
        leaf_is = leaf-at leaf l bs;
        element = λ k. shows-as kind (bytes 2 leaf ++ bs) vss k _ (each bs e k);
      }))
      go (refused n d) e i = rw (lt-ltb leaf 65536 l, e) i

pub lists-exactly-17 : ListsExactly17
unfolding field_list_bytes method_list_bytes
lists-exactly-17 = record {
  fields_refuse = λ vss e h. not-bad 0x1203 (lit< tt) member_element vss (members_bytes false vss) (fields-has vss h) e;
  fields_only = λ vss i f. else-bad 0x1203 (lit< tt) member_element vss (members_bytes false vss) (members-sound false vss i) (fields-element vss) f;
  methods_refuse = λ vss e h. not-bad 0x1206 (lit< tt) method_element vss (methods_bytes vss) (methods-has vss h) e;
  methods_only = λ vss i f. else-bad 0x1206 (lit< tt) method_element vss (methods_bytes vss) (methods-sound vss i) (methods-element vss) f;
}
