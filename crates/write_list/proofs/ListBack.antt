-- The elements of a written list read back, one after the other, and then the list ends. Assumes nothing.
use Rattle.std.specs.Prelude.{Option, None, Some}
use Prim.Native.Nat.{ℕ, zero, suc, ◌+◌, ◌%◌, ◌^◌, ◌≤◌, ◌<◌}
use native.Mathlib.Omega.{arith}
use mathlib.Core.Bool.{Bool, true, false}
use mathlib.Core.Path.{◌≡◌, refl, ap, sym, subst, ◌∙◌}
use mathlib.Core.List.{List, [], ◌∷◌, ◌++◌, map, append_assoc, append-nil}
use lib.ListN.{length, take, drop, length-append, length-drop}
use lib.Seq.{take_at, drop_at}
use lib.Dec.{ltb, eqb, lit<}
use borrow.Author.Tests.{le-leb, lt-leb, lt-ltb, ltb-true, ltb-false, eqb-true}
use Rattle.answer.specs.Answer.{Answer, answered, refused, got, pick, stop, then}
use Rattle.answer.specs.Tables.{find}
use Rattle.field.specs.Fields.{fixed_at}
use Rattle.field.specs.Bytes.{bytes}
use Rattle.field.proofs.ByteLaws.{Stands, first, next, fixed_back, length-bytes}
use Rattle.field_number.specs.Forms.{form_of}
use Rattle.record_layout.specs.Fields.{Shown, number, numeral, absent, many, plain, Field, gap, word_after}
use Rattle.word_attributes.specs.Words.{introducing}
use Rattle.record_layout.specs.Layouts.{field_word, type_index, offset, Layout, Table, member_leaves, method, read_leaf, read_record}
use Rattle.record_member.specs.Said.{member_leaf, member_values, entry_values}
use Rattle.record_member.specs.declared.Member.{Member}
use Rattle.record_member.specs.declared.MethodListEntry.{MethodListEntry}
use Rattle.record_list.specs.Lists.{ElementValues, type_element, id_element, member_element, method_element, step_to, to_the_end, after_member, start_types, start_of, left_after, member_step, method_step, next_member, step_of, element_by, element_of}
use Rattle.record_list.specs.declared.ListCursor.{ListCursor}
use Rattle.field.specs.declared.index.Stream.TheVariants as stream
use Rattle.write_layout.specs.Runs.{part_at, pads}
use Rattle.write_layout.specs.Fields.{ToWrite, bytes_in, given_all, Encoded, fixed_bytes, of_number, of_absent, and_also, write_field, write_fields}
use Rattle.write_layout.specs.Records.{written_by, write_leaf, missing, filled, whole, record_bytes}
use Rattle.write_layout.specs.Lists.{filled_member, filled_each, member_bytes, ends_list, members_bytes, methods_bytes, field_list_bytes, method_list_bytes}
use Rattle.write_layout.specs.RoundTrip.{NoShorter}
use Rattle.write_layout.proofs.RunLaws.{length-pads}
use Rattle.write_layout.proofs.Back.{refusal, passed, written_both, back}
use Rattle.write_layout.proofs.Padding.{missing-few, missing-fills, quiet, padding-back}
use Rattle.write_layout.proofs.RoundTripProof.{no-shorter}
use Rattle.write_pieces.proofs.RecordLaws.{member-length}
use Rattle.write_list.specs.Rows.{row_values, list_method, member_rows, method_rows, row_of_member, row_of_method}
use Rattle.write_list.proofs.RowLaws.{rows-show}
use Rattle.write_list.specs.ListsBack.{Shows, ElementIs, ListBack, InFours, ElementsAre, payload_in, ListsReadBack}
use Rattle.write_list.proofs.ListLaws.{fixed-long, gap-long, nothing-long, offset-long}

-- A record anywhere ---------------------------------------------------------------------------------------------------------------

-- the leaf and the fields of a record that stands at p read back
pub record RecordBack (table : Table) (s : List ℕ) (p : ℕ) (bs : List ℕ) (vs : List ToWrite) : Type 0 where
  pub values : List Shown
  pub read : read_record table s p ≡ got values (p + length bs)
  pub shows : given_all s values ≡ vs
  pub forms : NoShorter values
  pub more_bytes : List ℕ
  pub leaf : ℕ
  pub begins : bs ≡ leaf % 256 ∷ more_bytes
  pub leaf_is : member_leaf values ≡ leaf
  pub rest_given : List ToWrite
  pub leads_with : vs ≡ number leaf ∷ rest_given
  pub layout : Layout
  pub found : find leaf table ≡ Some layout

by_layout : (table : Table) (l : Option Layout) (leaf : ℕ) (vs : List ToWrite) (s : List ℕ) (p : ℕ) (bs zs ys : List ℕ) → find leaf table ≡ l → written_by l vs ≡ answered zs
    → fixed_at 2 s p ≡ got leaf (p + length (bytes 2 leaf)) → Stands s (p + length (bytes 2 leaf)) zs ys → bytes 2 leaf ++ zs ≡ bs → RecordBack table s p bs (number leaf ∷ vs)
unfolding read_record read_leaf bytes NoShorter
by_layout table None leaf vs s p bs zs ys f w r st e = refusal w
by_layout table (Some fs) leaf vs s p bs zs ys f w r st e =
    let b = back form_of fs 0 vs s (p + length (bytes 2 leaf)) zs ys w st in
    let l : p + length (bytes 2 leaf) + length zs ≡ p + length bs = omega (arith, length-append (bytes 2 leaf) zs, ap length e) in
    record {
      values = number leaf ∷ b.values;
      read = rw (r, f, b.read, l);
      shows = ap (λ (x : List ToWrite). number leaf ∷ x) b.shows;
      forms = (tt, no-shorter b.values b.forms);
      more_bytes = _;
      leaf = leaf;
      begins = sym e;
      leaf_is = refl;
      rest_given = vs;
      leads_with = refl;
      layout = fs;
      found = f;
    }

pub record-back : (table : Table) (vs : List ToWrite) (s : List ℕ) (p : ℕ) (bs ys : List ℕ) → write_leaf table vs ≡ answered bs → Stands s p bs ys → RecordBack table s p bs vs
unfolding write_leaf fixed_bytes
record-back table [] s p bs ys w st = refusal w
record-back table (numeral z u ∷ vs) s p bs ys w st = refusal w
record-back table (absent ∷ vs) s p bs ys w st = refusal w
record-back table (many x ∷ vs) s p bs ys w st = refusal w
record-back table (number leaf ∷ vs) s p bs ys w st =
    let b = written_both (fixed_bytes 2 leaf) (written_by (find leaf table) vs) bs w in
    let a = passed (ltb leaf (256 ^ 2)) (bytes 2 leaf) b.first_bytes b.first_is in
    let zs = b.more_bytes in
    let e : bytes 2 leaf ++ zs ≡ bs = ap (λ (l : List ℕ). l ++ zs) a.bytes_are ∙ b.all_are in
    let st' : Stands s p (bytes 2 leaf ++ zs) ys = record { inside = st.inside; here = st.here ∙ sym (ap (λ (l : List ℕ). l ++ ys) e) } in
    let f = fixed_back 2 leaf s p (zs ++ ys) (ltb-true _ _ a.test_is) (first s p (bytes 2 leaf) zs ys st') in
    by_layout table (find leaf table) leaf vs s p bs zs ys refl b.more_is f (next s p (bytes 2 leaf) zs ys st') e

record-ends : (table : Table) (s : List ℕ) (p : ℕ) (bs : List ℕ) (vs : List ToWrite) (k : RecordBack table s p bs vs) → eqb (member_leaf k.values) 0x1404 ≡ ends_list vs
unfolding ends_list
record-ends table s p bs vs k = rw k.leaf_is (sym (ap ends_list k.leads_with))

-- no member's leaf begins with a byte that reads as padding
quiet_step : (leaf m : ℕ) (b : Bool) → eqb leaf m ≡ b → m % 256 < 0xf0 → (a : Layout) (rest : Option Layout) (fs : Layout)
    → (rest ≡ Some fs → leaf % 256 < 0xf0) → pick b (Some a) rest ≡ Some fs → leaf % 256 < 0xf0
quiet_step leaf m true e q a rest fs f h = rw (eqb-true leaf m e) q
quiet_step leaf m false e q a rest fs f h = f h

no-layout : {X : Type 0} {fs : Layout} → ◌≡◌ {A = Option Layout} None (Some fs) → X
no-layout {X} {fs} h = let z : ◌≡◌ {A = ℕ} 0 1 = cc in absurd (omega arith)

leaf-quiet : (leaf : ℕ) (fs : Layout) → find leaf member_leaves ≡ Some fs → leaf % 256 < 0xf0
unfolding find member_leaves
leaf-quiet leaf fs =
    quiet_step leaf 0x1400 _ refl (lit< tt) _ _ fs
    (quiet_step leaf 0x1401 _ refl (lit< tt) _ _ fs
    (quiet_step leaf 0x1402 _ refl (lit< tt) _ _ fs
    (quiet_step leaf 0x1404 _ refl (lit< tt) _ _ fs
    (quiet_step leaf 0x1409 _ refl (lit< tt) _ _ fs
    (quiet_step leaf 0x1502 _ refl (lit< tt) _ _ fs
    (quiet_step leaf 0x150d _ refl (lit< tt) _ _ fs
    (quiet_step leaf 0x150e _ refl (lit< tt) _ _ fs
    (quiet_step leaf 0x150f _ refl (lit< tt) _ _ fs
    (quiet_step leaf 0x1510 _ refl (lit< tt) _ _ fs
    (quiet_step leaf 0x1511 _ refl (lit< tt) _ _ fs
    (λ h. no-layout h)))))))))))

-- Members -------------------------------------------------------------------------------------------------------------------------

-- a member that was written: its bytes before they were filled
pub record Plain (vs : List ToWrite) (fb : List ℕ) : Type 0 where
  pub plain : List ℕ
  pub said : write_leaf member_leaves vs ≡ answered plain
  pub filling : filled_member plain ≡ fb

pub plain_of : (vs : List ToWrite) (fb : List ℕ) → member_bytes vs ≡ answered fb → Plain vs fb
unfolding member_bytes filled_each
plain_of vs fb w = go (write_leaf member_leaves vs) refl w
  where
    go : (b : Encoded) → write_leaf member_leaves vs ≡ b → then b (λ bs. answered (filled_member bs)) ≡ answered fb → Plain vs fb
    go (answered bs) e f = record { plain = bs; said = e; filling = cc }
    go (refused n d) e f = refusal f

-- what comes after a member does not read as padding
rest-quiet : (vss : List (List ToWrite)) (zs : List ℕ) → members_bytes false vss ≡ answered zs → quiet zs ≡ true
unfolding members_bytes quiet filled_member
rest-quiet [] zs w = let e : [] ≡ zs = cc in rw (← e)
rest-quiet (vs ∷ vss) zs w =
    let b = written_both (member_bytes vs) (members_bytes (ends_list vs) vss) zs w in
    let r = plain_of vs b.first_bytes b.first_is in
    let k = record-back member_leaves vs r.plain 0 r.plain [] r.said (record { inside = omega arith; here = sym (append-nil r.plain) }) in
    let q : k.leaf % 256 < 0xf0 = leaf-quiet k.leaf k.layout k.found in
    rw (← b.all_are, ← r.filling, k.begins) (lt-ltb _ _ q)

later-quiet : (ended : Bool) → ended ≡ false → (vss : List (List ToWrite)) (zs : List ℕ) → members_bytes ended vss ≡ answered zs → quiet zs ≡ true
later-quiet true e vss zs w = let z : ◌≡◌ {A = ℕ} 0 1 = cc in absurd (omega arith)
later-quiet false e vss zs w = rest-quiet vss zs w

-- a member that stands at q
member-step : (s : List ℕ) (q : ℕ) (xs ys : List ℕ) (vs : List ToWrite) → Stands s q xs ys → (r : RecordBack member_leaves s q xs vs)
    → member_step s q ≡ step_to (member_element r.values) (after_member (q + length xs) (left_after r.values))
unfolding member_step
member-step s q xs ys vs st r =
    let l : length (drop q s) ≡ length xs + length ys = ap length st.here ∙ length-append xs ys in
    let n : length xs ≡ suc (length r.more_bytes) = ap length r.begins in
    let f : q < length s = omega (arith, length-drop q s) in
    rw (lt-leb _ _ f, r.read)

-- the cursor c leads to place q, or to the end of the list
record Leads (s : List ℕ) (c : ListCursor) (ended : Bool) (q : ℕ) : Type 0 where
  step : step_of s c ≡ pick ended (refused 15 []) (member_step s q)

leads-first : (s : List ℕ) (p : ℕ) → Leads s (to_the_end 0x1203 p) false p
unfolding step_of next_member
leads-first s p = record { step = refl }

leads-on : (s : List ℕ) (p k : ℕ) (ys : List ℕ) (vs : List Shown) (ended : Bool) → eqb (member_leaf vs) 0x1404 ≡ ended → k ≤ 3 → Stands s p (pads k) ys
    → (ended ≡ false → quiet ys ≡ true) → Leads s (after_member p (left_after vs)) ended (p + k)
unfolding step_of next_member
leads-on s p k ys vs true e h st f = record { step = rw e }
leads-on s p k ys vs false e h st f = record { step = rw (e, padding-back s p k ys h st (f refl)) }

-- a member and what comes after it
record Here (vs : List ToWrite) (vss : List (List ToWrite)) (s : List ℕ) (q : ℕ) : Type 0 where
  values : List Shown
  behind : ℕ
  place : ℕ
  more : List ℕ
  step : member_step s q ≡ step_to (member_element values) (after_member behind (left_after values))
  same : given_all s values ≡ vs
  forms : NoShorter values
  others : members_bytes (ends_list vs) vss ≡ answered more
  stand : Stands s place more []
  leads : Leads s (after_member behind (left_after values)) (ends_list vs) place

here : (vs : List ToWrite) (vss : List (List ToWrite)) (bs s : List ℕ) (q : ℕ) → members_bytes false (vs ∷ vss) ≡ answered bs → Stands s q bs [] → Here vs vss s q
unfolding members_bytes filled_member ends_list
here vs vss bs s q w st =
    let b = written_both (member_bytes vs) (members_bytes (ends_list vs) vss) bs w in
    let r = plain_of vs b.first_bytes b.first_is in
    let xs = r.plain in
    let zs = b.more_bytes in
    let m = missing (length xs) in
    let e : xs ++ (pads m ++ zs) ≡ bs = sym (append_assoc xs (pads m) zs) ∙ ap (λ (l : List ℕ). l ++ zs) r.filling ∙ b.all_are in
    let st1 : Stands s q (xs ++ (pads m ++ zs)) [] = rw e st in
    let stx = first s q xs (pads m ++ zs) [] st1 in
    let stp = next s q xs (pads m ++ zs) [] st1 in
    let stz : Stands s (q + length xs + m) zs [] = rw (length-pads m) at (next s (q + length xs) (pads m) zs [] stp) in
    let k = record-back member_leaves vs s q xs _ r.said stx in
    let f : eqb (member_leaf k.values) 0x1404 ≡ ends_list vs = record-ends member_leaves s q xs vs k in
    let still : (ends_list vs ≡ false → quiet (zs ++ []) ≡ true) = λ g. rw (append-nil zs) (later-quiet (ends_list vs) g vss zs b.more_is) in
    record {
      values = k.values;
      behind = q + length xs;
      place = q + length xs + m;
      more = zs;
      step = member-step s q xs _ vs stx k;
      same = k.shows;
      forms = k.forms;
      others = b.more_is;
      stand = stz;
      leads = leads-on s (q + length xs) m (zs ++ []) k.values (ends_list vs) f (missing-few (length xs)) (first s (q + length xs) (pads m) zs [] stp) still;
    }

at-end : (s : List ℕ) (q : ℕ) → length s ≤ q → member_step s q ≡ refused 15 []
unfolding member_step
at-end s q h = rw (le-leb _ _ h)

-- a cursor whose step is refused gives no element
no_more : (s : List ℕ) (k : ℕ) (c : ListCursor) → step_of s c ≡ refused 15 [] → element_by (step_of s) k c ≡ refused 15 []
unfolding element_by
no_more s zero c e = rw e
no_more s (suc k) c e = rw e

members-back : (ended : Bool) (vss : List (List ToWrite)) (bs s : List ℕ) (q : ℕ) → members_bytes ended vss ≡ answered bs → Stands s q bs []
    → (k : ℕ) (c : ListCursor) → Leads s c ended q → ElementIs member_element s vss k (element_by (step_of s) k c)
unfolding members_bytes element_by ElementIs
members-back true [] bs s q w st k c l = no_more s k c l.step
members-back false [] bs s q w st k c l =
    let e : [] ≡ bs = cc in
    let n : length (drop q s) ≡ 0 = ap length st.here ∙ rw (← e) in
    no_more s k c (l.step ∙ at-end s q (omega (arith, length-drop q s)))
members-back true (vs ∷ vss) bs s q w st k c l = refusal w
members-back false (vs ∷ vss) bs s q w st zero c l =
    let h = here vs vss bs s q w st in
    record { values = h.values; element = rw (l.step, h.step); same = h.same; forms = h.forms }
members-back false (vs ∷ vss) bs s q w st (suc k) c l =
    let h = here vs vss bs s q w st in
    rw (l.step, h.step) (members-back (ends_list vs) vss h.more s h.place h.others h.stand k _ h.leads)

members-aligned : (ended : Bool) (vss : List (List ToWrite)) (bs : List ℕ) → members_bytes ended vss ≡ answered bs → length bs % 4 ≡ 0
unfolding members_bytes
members-aligned true [] bs w = let e : [] ≡ bs = cc in rw (← e)
members-aligned false [] bs w = let e : [] ≡ bs = cc in rw (← e)
members-aligned true (vs ∷ vss) bs w = refusal w
members-aligned false (vs ∷ vss) bs w =
    let b = written_both (member_bytes vs) (members_bytes (ends_list vs) vss) bs w in
    let r = plain_of vs b.first_bytes b.first_is in
    let one : length b.first_bytes ≡ length r.plain + missing (length r.plain) = sym (ap length r.filling) ∙ member-length r.plain in
    let more = members-aligned (ends_list vs) vss b.more_bytes b.more_is in
    omega (arith, ap length b.all_are, length-append b.first_bytes b.more_bytes, missing-fills (length r.plain), one, more)

-- Methods -------------------------------------------------------------------------------------------------------------------------

-- the first of some fields, and the others
record Took (f : Field) (fs : List Field) (w : ℕ) (bs : List ℕ) : Type 0 where
  value : ToWrite
  rest : List ToWrite
  head : List ℕ
  tail : List ℕ
  head_is : write_field f w value ≡ answered head
  tail_is : write_fields fs (word_after f value w) rest ≡ answered tail
  sum : length bs ≡ length head + length tail

took : (f : Field) (fs : List Field) (w : ℕ) (vs : List ToWrite) (bs : List ℕ) → write_fields (f ∷ fs) w vs ≡ answered bs → Took f fs w bs
unfolding write_fields
took f fs w [] bs h = refusal h
took f fs w (v ∷ vs) bs h =
    let b = written_both (write_field f w v) (write_fields fs (word_after f v w) vs) bs h in
    record {
      value = v;
      rest = vs;
      head = b.first_bytes;
      tail = b.more_bytes;
      head_is = b.first_is;
      tail_is = b.more_is;
      sum = sym (ap length b.all_are) ∙ length-append b.first_bytes b.more_bytes;
    }

no_fields : (w : ℕ) (vs : List ToWrite) (bs : List ℕ) → write_fields [] w vs ≡ answered bs → length bs ≡ 0
unfolding write_fields
no_fields w [] bs h = nothing-long bs h
no_fields w (v ∷ vs) bs h = refusal h

number-long : (k : ℕ) (v : ToWrite) (bs : List ℕ) → of_number v (fixed_bytes k) ≡ answered bs → length bs ≡ k
number-long k (number n) bs h = fixed-long k n bs h
number-long k (numeral z u) bs h = refusal h
number-long k absent bs h = refusal h
number-long k (many x) bs h = refusal h

absent-long : (v : ToWrite) (bs : List ℕ) → of_absent v (answered (bytes 2 0)) ≡ answered bs → length bs ≡ 2
absent-long (number n) bs h = refusal h
absent-long (numeral z u) bs h = refusal h
absent-long absent bs h = gap-long bs h
absent-long (many x) bs h = refusal h

-- a method has eight bytes, or twelve
record Method (bs : List ℕ) : Type 0 where
  some : 0 < length bs
  four : length bs % 4 ≡ 0

method-of : (vs : List ToWrite) (bs : List ℕ) → write_fields method 0 vs ≡ answered bs → Method bs
unfolding write_field
method-of vs bs w =
    let p = took field_word (gap 2 ∷ type_index ∷ offset ∷ []) 0 vs bs w in
    let wp = word_after field_word p.value 0 in
    let q = took (gap 2) (type_index ∷ offset ∷ []) wp p.rest p.tail p.tail_is in
    let r = took type_index (offset ∷ []) wp q.rest q.tail q.tail_is in
    let o = took offset [] wp r.rest r.tail r.tail_is in
    let lp = number-long 2 p.value p.head p.head_is in
    let lq = absent-long q.value q.head q.head_is in
    let lr = number-long 4 r.value r.head r.head_is in
    let lo = offset-long (introducing wp) o.value o.head o.head_is in
    let le = no_fields wp o.rest o.tail o.tail_is in
    record {
      some = omega (arith, lp, p.sum);
      four = omega (arith, lp, lq, lr, lo, le, p.sum, q.sum, r.sum, o.sum);
    }

-- the first method of some
record Methods (vs : List ToWrite) (vss : List (List ToWrite)) (s : List ℕ) (q : ℕ) : Type 0 where
  values : List Shown
  place : ℕ
  more : List ℕ
  step : method_step s q ≡ step_to (method_element values) (to_the_end 0x1206 place)
  same : given_all s values ≡ vs
  forms : NoShorter values
  others : methods_bytes vss ≡ answered more
  stand : Stands s place more []

methods-here : (vs : List ToWrite) (vss : List (List ToWrite)) (bs s : List ℕ) (q : ℕ) → methods_bytes (vs ∷ vss) ≡ answered bs → Stands s q bs [] → Methods vs vss s q
unfolding methods_bytes method_step
methods-here vs vss bs s q w st =
    let b = written_both (write_fields method 0 vs) (methods_bytes vss) bs w in
    let xs = b.first_bytes in
    let zs = b.more_bytes in
    let st1 : Stands s q (xs ++ zs) [] = rw b.all_are st in
    let k = back form_of method 0 vs s q xs (zs ++ []) b.first_is (first s q xs zs [] st1) in
    let m = method-of vs xs b.first_is in
    let l : length (drop q s) ≡ length xs + length zs = ap length st1.here ∙ rw (append-nil (xs ++ zs)) (length-append xs zs) in
    let f : q < length s = omega (arith, length-drop q s, m.some) in
    record {
      values = k.values;
      place = q + length xs;
      more = zs;
      step = rw (lt-leb _ _ f, k.read);
      same = k.shows;
      forms = no-shorter k.values k.forms;
      others = b.more_is;
      stand = next s q xs zs [] st1;
    }

method-step : (s : List ℕ) (q : ℕ) → step_of s (to_the_end 0x1206 q) ≡ method_step s q
unfolding step_of
method-step s q = refl

method-end : (s : List ℕ) (q : ℕ) → length s ≤ q → method_step s q ≡ refused 15 []
unfolding method_step
method-end s q h = rw (le-leb _ _ h)

methods-back : (vss : List (List ToWrite)) (bs s : List ℕ) (q : ℕ) → methods_bytes vss ≡ answered bs → Stands s q bs []
    → (k : ℕ) → ElementIs method_element s vss k (element_by (step_of s) k (to_the_end 0x1206 q))
unfolding methods_bytes element_by ElementIs
methods-back [] bs s q w st k =
    let e : [] ≡ bs = cc in
    let n : length (drop q s) ≡ 0 = ap length st.here ∙ rw (← e) in
    no_more s k (to_the_end 0x1206 q) (method-step s q ∙ method-end s q (omega (arith, length-drop q s)))
methods-back (vs ∷ vss) bs s q w st zero =
    let h = methods-here vs vss bs s q w st in
    record { values = h.values; element = rw (method-step s q, h.step); same = h.same; forms = h.forms }
methods-back (vs ∷ vss) bs s q w st (suc k) =
    let h = methods-here vs vss bs s q w st in
    rw (method-step s q, h.step) (methods-back vss h.more s h.place h.others h.stand k)

methods-aligned : (vss : List (List ToWrite)) (bs : List ℕ) → methods_bytes vss ≡ answered bs → length bs % 4 ≡ 0
unfolding methods_bytes
methods-aligned [] bs w = let e : [] ≡ bs = cc in rw (← e)
methods-aligned (vs ∷ vss) bs w =
    let b = written_both (write_fields method 0 vs) (methods_bytes vss) bs w in
    let m = method-of vs b.first_bytes b.first_is in
    let more = methods-aligned vss b.more_bytes b.more_is in
    omega (arith, ap length b.all_are, length-append b.first_bytes b.more_bytes, m.four, more)

-- The record ----------------------------------------------------------------------------------------------------------------------

nothing-missing : (n : ℕ) → n % 4 ≡ 0 → missing n ≡ 0
unfolding missing
nothing-missing n h = omega arith

-- what aligned elements are in a record
module _ (leaf : ℕ) (l : leaf < 65536) (kind : List Shown → ElementValues) (vss : List (List ToWrite)) (b : Encoded) where
  unpadded : (bs : List ℕ) → length bs % 4 ≡ 0 → filled (bytes 2 leaf ++ bs) ≡ bytes 2 leaf ++ bs
  unfolding filled pads
  unpadded bs h =
      let z : missing (length (bytes 2 leaf ++ bs) + 2) ≡ 0 = nothing-missing _ (omega (arith, length-append (bytes 2 leaf) bs, length-bytes 2 leaf)) in
      rw z (append-nil (bytes 2 leaf ++ bs))

  list_back : ((bs : List ℕ) → b ≡ answered bs → length bs % 4 ≡ 0)
      → ((bs : List ℕ) → b ≡ answered bs → (k : ℕ) → ElementIs kind (bytes 2 leaf ++ bs) vss k (element_of stream.Types (bytes 2 leaf ++ bs) k))
      → (rs : List ℕ) → record_bytes (and_also (fixed_bytes 2 leaf) b) ≡ answered rs → ListBack kind vss rs
  unfolding record_bytes fixed_bytes
  list_back four each rs w = go b refl (rw (lt-ltb leaf 65536 l) at w)
    where
      test : (bs : List ℕ) → b ≡ answered bs → (c : Bool) → ltb 65535 (length (filled (bytes 2 leaf ++ bs))) ≡ c
          → stop c 18 (answered (bytes 2 (length (filled (bytes 2 leaf ++ bs))) ++ filled (bytes 2 leaf ++ bs))) ≡ answered rs → ListBack kind vss rs
      test bs e true f k = refusal k
      test bs e false f k =
          let u = unpadded bs (four bs e) in
          let i : rs ≡ bytes 2 (length (filled (bytes 2 leaf ++ bs))) ++ filled (bytes 2 leaf ++ bs) = cc in
          let j : rs ≡ bytes 2 (length (bytes 2 leaf ++ bs)) ++ (bytes 2 leaf ++ bs) = i ∙ rw u in
          let n = length-append (bytes 2 (length (bytes 2 leaf ++ bs))) (bytes 2 leaf ++ bs) in
          record {
            payload = bytes 2 leaf ++ bs;
            is_link = j;
            short = rw u at (ltb-false 65535 (length (filled (bytes 2 leaf ++ bs))) f);
            aligned = omega (arith, ap length j, n, length-append (bytes 2 leaf) bs, length-bytes 2 leaf, length-bytes 2 (length (bytes 2 leaf ++ bs)), four bs e);
            element = each bs e;
          }

      go : (a : Encoded) → b ≡ a → then (and_also (answered (bytes 2 leaf)) a) (λ bs. whole (filled bs)) ≡ answered rs → ListBack kind vss rs
      go (refused n d) e h = refusal h
      go (answered bs) e h = test bs e (ltb 65535 (length (filled (bytes 2 leaf ++ bs)))) refl h

-- the leaf of a list, at the start of its payload
started : (leaf : ℕ) (bs : List ℕ) → leaf < 65536 → Stands (bytes 2 leaf ++ bs) 0 (bytes 2 leaf ++ bs) []
started leaf bs h = record { inside = omega arith; here = sym (append-nil (bytes 2 leaf ++ bs)) }

pub fields-element : (vss : List (List ToWrite)) (bs : List ℕ) → members_bytes false vss ≡ answered bs → (k : ℕ)
    → ElementIs member_element (bytes 2 0x1203 ++ bs) vss k (element_of stream.Types (bytes 2 0x1203 ++ bs) k)
unfolding element_of start_of start_types
fields-element vss bs w k =
    let s = bytes 2 0x1203 ++ bs in
    let st = started 0x1203 bs (lit< tt) in
    let f : fixed_at 2 s 0 ≡ got 0x1203 (0 + length (bytes 2 0x1203)) = fixed_back 2 0x1203 s 0 (bs ++ []) (lit< tt) (first s 0 (bytes 2 0x1203) bs [] st) in
    let n = next s 0 (bytes 2 0x1203) bs [] st in
    rw f (members-back false vss bs s (0 + length (bytes 2 0x1203)) w n k _ (leads-first s (0 + length (bytes 2 0x1203))))

pub methods-element : (vss : List (List ToWrite)) (bs : List ℕ) → methods_bytes vss ≡ answered bs → (k : ℕ)
    → ElementIs method_element (bytes 2 0x1206 ++ bs) vss k (element_of stream.Types (bytes 2 0x1206 ++ bs) k)
unfolding element_of start_of start_types
methods-element vss bs w k =
    let s = bytes 2 0x1206 ++ bs in
    let st = started 0x1206 bs (lit< tt) in
    let f : fixed_at 2 s 0 ≡ got 0x1206 (0 + length (bytes 2 0x1206)) = fixed_back 2 0x1206 s 0 (bs ++ []) (lit< tt) (first s 0 (bytes 2 0x1206) bs [] st) in
    let n = next s 0 (bytes 2 0x1206) bs [] st in
    rw f (methods-back vss bs s (0 + length (bytes 2 0x1206)) w n k)

-- what a list was made of: its elements' bytes, behind length and leaf
pub record Made (leaf : ℕ) (b : Encoded) (rs : List ℕ) : Type 0 where
  pub elements : List ℕ
  pub are : b ≡ answered elements
  pub link : rs ≡ bytes 2 (length (bytes 2 leaf ++ elements)) ++ (bytes 2 leaf ++ elements)

pub list-made : (leaf : ℕ) → leaf < 65536 → (b : Encoded) → ((bs : List ℕ) → b ≡ answered bs → length bs % 4 ≡ 0) → (rs : List ℕ)
    → record_bytes (and_also (fixed_bytes 2 leaf) b) ≡ answered rs → Made leaf b rs
unfolding record_bytes fixed_bytes
list-made leaf l b four rs w = go b refl (rw (lt-ltb leaf 65536 l) at w)
  where
    test : (bs : List ℕ) → b ≡ answered bs → (c : Bool)
        → stop c 18 (answered (bytes 2 (length (filled (bytes 2 leaf ++ bs))) ++ filled (bytes 2 leaf ++ bs))) ≡ answered rs → Made leaf b rs
    test bs e true k = refusal k
    test bs e false k =
        let u = unpadded leaf l member_element [] b bs (four bs e) in
        let i : rs ≡ bytes 2 (length (filled (bytes 2 leaf ++ bs))) ++ filled (bytes 2 leaf ++ bs) = cc in
        record { elements = bs; are = e; link = i ∙ rw u }

    go : (a : Encoded) → b ≡ a → then (and_also (answered (bytes 2 leaf)) a) (λ bs. whole (filled bs)) ≡ answered rs → Made leaf b rs
    go (refused n d) e h = refusal h
    go (answered bs) e h = test bs e (ltb 65535 (length (filled (bytes 2 leaf ++ bs)))) h

-- Where the members stand ---------------------------------------------------------------------------------------------------------------

members-fours : (ended : Bool) (vss : List (List ToWrite)) (bs s : List ℕ) (q : ℕ) → members_bytes ended vss ≡ answered bs → Stands s q bs [] → q % 4 ≡ 0 → InFours s q vss
unfolding members_bytes InFours filled_member part_at
members-fours true [] bs s q w st f =
    let e : [] ≡ bs = cc in
    let n : length (drop q s) ≡ 0 = ap length st.here ∙ rw (← e) in
    omega (arith, length-drop q s, st.inside)
members-fours false [] bs s q w st f =
    let e : [] ≡ bs = cc in
    let n : length (drop q s) ≡ 0 = ap length st.here ∙ rw (← e) in
    omega (arith, length-drop q s, st.inside)
members-fours true (vs ∷ vss) bs s q w st f = refusal w
members-fours false (vs ∷ vss) bs s q w st f =
    let b = written_both (member_bytes vs) (members_bytes (ends_list vs) vss) bs w in
    let r = plain_of vs b.first_bytes b.first_is in
    let xs = r.plain in
    let zs = b.more_bytes in
    let m = missing (length xs) in
    let e : xs ++ (pads m ++ zs) ≡ bs = sym (append_assoc xs (pads m) zs) ∙ ap (λ (l : List ℕ). l ++ zs) r.filling ∙ b.all_are in
    let st1 : Stands s q (xs ++ (pads m ++ zs)) [] = rw e st in
    let stp = next s q xs (pads m ++ zs) [] st1 in
    let stz : Stands s (q + length xs + m) zs [] = rw (length-pads m) at (next s (q + length xs) (pads m) zs [] stp) in
    let k = record-back member_leaves vs s q xs _ r.said (first s q xs (pads m ++ zs) [] st1) in
    let z : (q + length xs + m) % 4 ≡ 0 = omega (arith, missing-fills (length xs)) in (
      q + length xs + m,
      record {
        four = f;
        values = k.values;
        behind = q + length xs;
        read = k.read;
        same = k.shows;
        pad = m;
        few = missing-few (length xs);
        padded = ap (λ (l : List ℕ). take m l) (first s (q + length xs) (pads m) zs [] stp).here ∙ take_at (pads m) (zs ++ []) m (length-pads m);
        next = refl;
      },
      members-fours (ends_list vs) vss zs s (q + length xs + m) b.more_is stz z,
    )

starts : (vss : List (List ToWrite)) (rs : List ℕ) → field_list_bytes vss ≡ answered rs → InFours rs 4 vss
unfolding field_list_bytes
starts vss rs w =
    let m = list-made 0x1203 (lit< tt) (members_bytes false vss) (members-aligned false vss) rs w in
    let field_word = bytes 2 (length (bytes 2 0x1203 ++ m.elements)) in
    let B = bytes 2 0x1203 in
    let st0 : Stands rs 0 (field_word ++ (B ++ m.elements)) [] = record { inside = omega arith; here = m.link ∙ sym (append-nil (field_word ++ (B ++ m.elements))) } in
    let st1 = next rs 0 field_word (B ++ m.elements) [] st0 in
    let st2 = next rs (0 + length field_word) B m.elements [] st1 in
    let four : 0 + length field_word + length B ≡ 4 = omega (arith, length-bytes 2 (length (bytes 2 0x1203 ++ m.elements)), length-bytes 2 0x1203) in
    let fours : (0 + length field_word + length B) % 4 ≡ 0 = omega arith in
    subst (λ (q : ℕ). InFours rs q vss) four (members-fours false vss m.elements rs (0 + length field_word + length B) m.are st2 fours)

-- Read, made rows, written again ------------------------------------------------------------------------------------------------------

-- a form is not written
given-plain : (t : List ℕ) (vs : List Shown) → given_all t (map plain vs) ≡ given_all t vs
given-plain t [] = refl
given-plain t (number n ∷ vs) = ap (λ (l : List ToWrite). number n ∷ l) (given-plain t vs)
given-plain t (numeral z f ∷ vs) = ap (λ (l : List ToWrite). numeral z tt ∷ l) (given-plain t vs)
given-plain t (absent ∷ vs) = ap (λ (l : List ToWrite). absent ∷ l) (given-plain t vs)
given-plain t (many x ∷ vs) = ap (λ (l : List ToWrite). many (bytes_in t x) ∷ l) (given-plain t vs)

values-in : ElementValues → List Shown
values-in (type_element vs) = vs
values-in (id_element vs) = vs
values-in (method_element vs) = vs
values-in (member_element vs) = vs

elements_same : {A : Type 0} (kind : List Shown → ElementValues) → ((x y : List Shown) → kind x ≡ kind y → x ≡ y) → (shown : A → List Shown) (row : A → List ToWrite) (s : List ℕ)
    → ((m : A) → row m ≡ given_all s (shown m)) → (vss : List (List ToWrite)) (element : ℕ → Answer ElementValues) (ms : List A)
    → ((k : ℕ) → ElementIs kind s vss k (element k)) → ElementsAre (λ m. kind (shown m)) element ms → map row ms ≡ vss
unfolding ElementIs ElementsAre
elements_same kind one shown row s is [] element [] f h = refl
elements_same kind one shown row s is [] element (m ∷ ms) f h =
    let e : element 0 ≡ refused 15 [] = f 0 in
    let z : ◌≡◌ {A = ℕ} 0 1 = let g : element 0 ≡ answered (kind (shown m)) = h.0 in cc in
    absurd (omega arith)
elements_same kind one shown row s is (vs ∷ vss) element [] f h =
    let e : Shows kind s vs (element 0) = f 0 in
    let g : element 0 ≡ answered (kind e.values) = e.element in
    let i : element 0 ≡ refused 15 [] = h in
    let z : ◌≡◌ {A = ℕ} 0 1 = cc in
    absurd (omega arith)
elements_same kind one shown row s is (vs ∷ vss) element (m ∷ ms) f h =
    let e : Shows kind s vs (element 0) = f 0 in
    let g : element 0 ≡ answered (kind e.values) = e.element in
    let i : element 0 ≡ answered (kind (shown m)) = h.0 in
    let j : kind (shown m) ≡ kind e.values = cc in
    let k : row m ≡ vs = is m ∙ ap (given_all s) (one (shown m) e.values j) ∙ e.same in
    let r : map row ms ≡ vss = elements_same kind one shown row s is vss (λ n. element (suc n)) ms (λ n. f (suc n)) h.1 in
    cc

member-one : (x y : List Shown) → member_element x ≡ member_element y → x ≡ y
unfolding values-in
member-one x y e = ap values-in e

method-one : (x y : List Shown) → method_element x ≡ method_element y → x ≡ y
unfolding values-in
method-one x y e = ap values-in e

member-rows : (t : List ℕ) (ms : List Member) → member_rows t (map row_of_member ms) ≡ map (λ (m : Member). given_all t (row_values (row_of_member m))) ms
unfolding member_rows
member-rows t [] = refl
member-rows t (m ∷ ms) = ap (λ (l : List (List ToWrite)). given_all t (row_values (row_of_member m)) ∷ l) (member-rows t ms)

method-rows : (t : List ℕ) (ms : List MethodListEntry) → method_rows t (map row_of_method ms) ≡ map (λ (m : MethodListEntry). given_all t (list_method (row_of_method m))) ms
unfolding method_rows
method-rows t [] = refl
method-rows t (m ∷ ms) = ap (λ (l : List (List ToWrite)). given_all t (list_method (row_of_method m)) ∷ l) (method-rows t ms)

payload-is : (rs x : List ℕ) → rs ≡ bytes 2 (length x) ++ x → x ≡ payload_in rs
payload-is rs x e = sym (ap (drop 2) e ∙ drop_at (bytes 2 (length x)) x 2 (length-bytes 2 (length x)))

fields-again : (vss : List (List ToWrite)) (rs : List ℕ) (ms : List Member) → ListBack member_element vss rs → field_list_bytes vss ≡ answered rs
    → ElementsAre (λ m. member_element (member_values m)) (element_of stream.Types (payload_in rs)) ms → field_list_bytes (member_rows (payload_in rs) (map row_of_member ms)) ≡ answered rs
fields-again vss rs ms b w h =
    let t = payload_in rs in
    let f = subst (λ (x : List ℕ). (k : ℕ) → ElementIs member_element x vss k (element_of stream.Types x k)) (payload-is rs b.payload b.is_link) b.element in
    let e = elements_same member_element member-one member_values (λ m. given_all t (row_values (row_of_member m))) t (λ m. ap (given_all t) (rows-show.of_member m) ∙ given-plain t (member_values m)) vss (element_of stream.Types t) ms f h in
    ap field_list_bytes (member-rows t ms ∙ e) ∙ w

methods-again : (vss : List (List ToWrite)) (rs : List ℕ) (ms : List MethodListEntry) → ListBack method_element vss rs → method_list_bytes vss ≡ answered rs
    → ElementsAre (λ m. method_element (entry_values m)) (element_of stream.Types (payload_in rs)) ms → method_list_bytes (method_rows (payload_in rs) (map row_of_method ms)) ≡ answered rs
methods-again vss rs ms b w h =
    let t = payload_in rs in
    let f = subst (λ (x : List ℕ). (k : ℕ) → ElementIs method_element x vss k (element_of stream.Types x k)) (payload-is rs b.payload b.is_link) b.element in
    let e = elements_same method_element method-one entry_values (λ m. given_all t (list_method (row_of_method m))) t (λ m. ap (given_all t) (rows-show.of_method m) ∙ given-plain t (entry_values m)) vss (element_of stream.Types t) ms f h in
    ap method_list_bytes (method-rows t ms ∙ e) ∙ w

fields_back : (vss : List (List ToWrite)) (rs : List ℕ) → field_list_bytes vss ≡ answered rs → ListBack member_element vss rs
unfolding field_list_bytes
fields_back vss rs w = list_back 0x1203 (lit< tt) member_element vss (members_bytes false vss) (members-aligned false vss) (fields-element vss) rs w

methods-back-list : (vss : List (List ToWrite)) (rs : List ℕ) → method_list_bytes vss ≡ answered rs → ListBack method_element vss rs
unfolding method_list_bytes
methods-back-list vss rs w = list_back 0x1206 (lit< tt) method_element vss (methods_bytes vss) (methods-aligned vss) (methods-element vss) rs w

pub lists-read-back : ListsReadBack
lists-read-back = record {
  fields = fields_back;
  methods = methods-back-list;
  starts = starts;
  fields_again = λ vss rs ms w. fields-again vss rs ms (fields_back vss rs w) w;
  methods_again = λ vss rs ms w. methods-again vss rs ms (methods-back-list vss rs w) w;
}
