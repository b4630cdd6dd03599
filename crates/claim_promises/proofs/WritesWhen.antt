-- Each number of R-1 is given exactly when 02 says. Assumes nothing.
use Rattle.std.specs.Prelude.{None, Some}
use Prim.Native.Nat.{ℕ, zero, suc, ◌+◌, ◌≤◌, ◌<◌}
use native.Mathlib.Omega.{arith}
use mathlib.Core.Bool.{Bool, true, false}
use mathlib.Core.Path.{◌≡◌, refl, sym, ap, subst, ◌∙◌}
use mathlib.Core.List.{List, [], ◌∷◌}
use lib.ListN.{length, take, drop}
use lib.Seq.{get_or-drop}
use lib.Dec.{leb, ltb, eqb}
use borrow.Author.Tests.{ltb-true, ltb-false, lt-ltb, le-ltb, eqb-true}
use Rattle.answer.specs.Answer.{answered, refused, pick, stop, both}
use Rattle.answer.specs.Tables.{find, among}
use Rattle.answer.specs.Refusals.{listed, in_table, refusals}
use Rattle.field_text.specs.Texts.{Part}
use Rattle.field_number.specs.Forms.{AllBytes}
use Rattle.stream_header.specs.declared.Header.{Header}
use Rattle.record_layout.specs.Fields.{Value, number, numeral, absent, many}
use Rattle.record_layout.specs.Layouts.{Table}
use Rattle.record_list.specs.Lists.{member_element, method_element}
use Rattle.write_layout.specs.Runs.{part_at}
use Rattle.write_layout.specs.Fields.{ToWrite, bytes_in, given_all, Encoded, bad}
use Rattle.write_layout.specs.Records.{write_leaf, filled, record_bytes, write_record}
use Rattle.write_layout.specs.Lists.{field_list_bytes, method_list_bytes}
use Rattle.write_layout.specs.Buffer.{lay}
use Rattle.write_layout.specs.RoundTrip.{WouldRead, InBytes, AllInBytes}
use Rattle.write_layout.proofs.Rewrite.{exactly-17}
use Rattle.write_list.specs.Rows.{row_values, list_method, member_rows, method_rows}
use Rattle.write_list.specs.ListsBack.{HasElements, EachInBytes}
use Rattle.write_list.proofs.Lists17.{lists-exactly-17}
use Rattle.write_header.specs.Headers.{header_bytes}
use Rattle.write_header.proofs.HeaderLaws.{header-length}
use Rattle.write_header.proofs.HeaderBack.{checked}
use Rattle.claim_promises.specs.ByTable.{elsewhere, fits, links_fit, gives, refuses, Refuses}
use Rattle.claim_promises.specs.Given.{by, Given}
use Rattle.claim_promises.specs.WritesWhen.{TooLong, NoRoom, SizeRight, BoundsRight, WritesWhen}
use Rattle.claim_promises.proofs.ByTable.{both_first}
use Rattle.claim_promises.proofs.Given.{off, at-stop, at-then, denied}
use Rattle.claim_promises.proofs.WritersRefuse.{of17, fields_in, methods_in, leaf-refuses, fields-in-refuse, methods-in-refuse, record-refuses}

-- ---- 17 is `bad`

is-bad : {b : Encoded} → Refuses of17 b → by 17 b ≡ true → b ≡ bad
unfolding fits among listed find in_table refusals
is-bad gives e = off e
is-bad (refuses {n = n} {d = []} p) e = ap (λ (k : ℕ). refused k []) (eqb-true n 17 e)
is-bad (refuses {n = n} {d = a ∷ d} p) e = off (subst (λ (k : ℕ). fits elsewhere of17 k (a ∷ d) ≡ true) (eqb-true n 17 e) p)

-- not answered is 17
else-bad : {b : Encoded} → Refuses of17 b → ((bs : List ℕ) → b ≡ answered bs → ⊥) → b ≡ bad
unfolding fits among
else-bad gives h = absurd (h _ refl)
else-bad (refuses {n = n} {d = d} p) h = is-bad (refuses p) (go (eqb n 17) (both_first (pick (eqb n 17) true false) (both (listed n d) (links_fit elsewhere n d)) p))
  where
    go : (c : Bool) → pick c true false ≡ true → c ≡ true
    go true e = refl
    go false e = e

-- ---- a record of leaf and fields b, at place p of the buffer o
module _ (b : Encoded) (r : Refuses of17 b) (o : List ℕ) (p : ℕ) where
  laid-17 : Given 17 [] (lay (record_bytes b) o p) (b ≡ bad)
  unfolding lay record_bytes
  laid-17 = record {
    when = λ e. rw e;
    only = at-then 17 (record_bytes b) _
        (at-then 17 b _ (is-bad r) (λ bs _. at-stop 17 (ltb 65535 (length (filled bs))) 18 _ (λ _. off) (λ _. off)))
        (λ bs _. at-stop 17 (ltb (length o) (p + length bs)) 19 _ (λ _. off) (λ _. off));
  }

  laid-18 : Given 18 [] (lay (record_bytes b) o p) (TooLong b)
  unfolding lay record_bytes among
  laid-18 = record {
    when = λ t. rw (t.made, lt-ltb _ _ t.long);
    only = at-then 18 (record_bytes b) _
        (at-then 18 b _ (denied 18 refl r) (λ bs e. at-stop 18 (ltb 65535 (length (filled bs))) 18 _ (λ l _. record { payload = bs; made = e; long = ltb-true _ _ l }) (λ _. off)))
        (λ bs _. at-stop 18 (ltb (length o) (p + length bs)) 19 _ (λ _. off) (λ _. off));
  }

  laid-19 : Given 19 [] (lay (record_bytes b) o p) (NoRoom (record_bytes b) o p)
  unfolding lay among
  laid-19 = record {
    when = λ n. rw (n.made, lt-ltb _ _ n.small);
    only = at-then 19 (record_bytes b) _ (denied 19 refl (record-refuses b r))
        (λ bs e. at-stop 19 (ltb (length o) (p + length bs)) 19 _ (λ l _. record { whole = bs; made = e; small = ltb-true _ _ l }) (λ _. off));
  }

-- ---- records of a table
module _ (table : Table) (vs : List ToWrite) (o : List ℕ) (p : ℕ) where
  records-17 : AllInBytes vs → Given 17 [] (lay (write_record table vs) o p) (WouldRead table vs → ⊥)
  unfolding write_record record_bytes
  records-17 i =
      let g = laid-17 (write_leaf table vs) (leaf-refuses table vs) o p in
      record {
        when = λ w. g.when (exactly-17.only table vs i w);
        only = λ y. exactly-17.refuses table vs (let e : write_leaf table vs ≡ bad = g.only y in rw e);
      }

  records-18 : Given 18 [] (lay (write_record table vs) o p) (TooLong (write_leaf table vs))
  unfolding write_record
  records-18 = laid-18 (write_leaf table vs) (leaf-refuses table vs) o p

  records-19 : Given 19 [] (lay (write_record table vs) o p) (NoRoom (write_record table vs) o p)
  unfolding write_record
  records-19 = laid-19 (write_leaf table vs) (leaf-refuses table vs) o p

-- ---- the two lists

-- a record is 17 exactly if its leaf and fields are
whole-bad : (b : Encoded) → record_bytes b ≡ bad → b ≡ bad
unfolding record_bytes
whole-bad (answered bs) e = go _ (ltb 65535 (length (filled bs))) e
  where
    go : (xs : List ℕ) (c : Bool) → ◌≡◌ {A = Encoded} (stop c 18 (answered xs)) bad → answered bs ≡ bad
    go xs true f = let z : ◌≡◌ {A = ℕ} 18 17 = cc in absurd (omega arith)
    go xs false f = let z : ◌≡◌ {A = ℕ} 0 1 = cc in absurd (omega arith)
whole-bad (refused n d) e = e

bad-whole : (b : Encoded) → b ≡ bad → record_bytes b ≡ bad
unfolding record_bytes
bad-whole b e = rw e

module _ (vss : List (List ToWrite)) (o : List ℕ) (p : ℕ) where
  field-lists-17 : EachInBytes vss → Given 17 [] (lay (field_list_bytes vss) o p) (HasElements 0x1203 member_element vss → ⊥)
  unfolding field_list_bytes
  field-lists-17 i =
      let g = laid-17 (fields_in vss) (fields-in-refuse vss) o p in
      record {
        when = λ w. g.when (whole-bad (fields_in vss) (lists-exactly-17.fields_only vss i w));
        only = λ y. lists-exactly-17.fields_refuse vss (bad-whole (fields_in vss) (g.only y));
      }

  field-lists-18 : Given 18 [] (lay (field_list_bytes vss) o p) (TooLong (fields_in vss))
  unfolding field_list_bytes
  field-lists-18 = laid-18 (fields_in vss) (fields-in-refuse vss) o p

  field-lists-19 : Given 19 [] (lay (field_list_bytes vss) o p) (NoRoom (field_list_bytes vss) o p)
  unfolding field_list_bytes
  field-lists-19 = laid-19 (fields_in vss) (fields-in-refuse vss) o p

  method-lists-17 : EachInBytes vss → Given 17 [] (lay (method_list_bytes vss) o p) (HasElements 0x1206 method_element vss → ⊥)
  unfolding method_list_bytes
  method-lists-17 i =
      let g = laid-17 (methods_in vss) (methods-in-refuse vss) o p in
      record {
        when = λ w. g.when (whole-bad (methods_in vss) (lists-exactly-17.methods_only vss i w));
        only = λ y. lists-exactly-17.methods_refuse vss (bad-whole (methods_in vss) (g.only y));
      }

  method-lists-18 : Given 18 [] (lay (method_list_bytes vss) o p) (TooLong (methods_in vss))
  unfolding method_list_bytes
  method-lists-18 = laid-18 (methods_in vss) (methods-in-refuse vss) o p

  method-lists-19 : Given 19 [] (lay (method_list_bytes vss) o p) (NoRoom (method_list_bytes vss) o p)
  unfolding method_list_bytes
  method-lists-19 = laid-19 (methods_in vss) (methods-in-refuse vss) o p

-- ---- over a lent text: what is part of it is bytes
take-small : (n : ℕ) (t : List ℕ) → AllBytes t → AllBytes (take n t)
take-small zero t f i = omega arith
take-small (suc n) [] f i = f i
take-small (suc n) (x ∷ t) f zero = f 0
take-small (suc n) (x ∷ t) f (suc i) = take-small n t (λ j. f (suc j)) i

part_small : (t : List ℕ) (p n : ℕ) → AllBytes t → AllBytes (part_at t p n)
unfolding part_at
part_small t p n f = take-small n (drop p t) (λ i. subst (λ (x : ℕ). x < 256) (sym (get_or-drop p t i 0)) (f (p + i)))

given-small : {W : Type 0} (t : List ℕ) → AllBytes t → (vs : List (Value Part W)) → AllInBytes (given_all t vs)
unfolding AllInBytes bytes_in
given-small t f [] = tt
given-small t f (number n ∷ vs) = (tt, given-small t f vs)
given-small t f (numeral z w ∷ vs) = (tt, given-small t f vs)
given-small t f (absent ∷ vs) = (tt, given-small t f vs)
given-small t f (many x ∷ vs) = (go (leb (x.place + x.length) (length t)), given-small t f vs)
  where
    go : (b : Bool) → InBytes (many (pick b (Some (part_at t x.place x.length)) None))
    go true = part_small t x.place x.length f
    go false = tt

member-rows-small : (t : List ℕ) → AllBytes t → (rows : List (List ℕ)) → EachInBytes (member_rows t rows)
unfolding EachInBytes member_rows
member-rows-small t f [] = tt
member-rows-small t f (row ∷ rows) = (given-small t f (row_values row), member-rows-small t f rows)

method-rows-small : (t : List ℕ) → AllBytes t → (rows : List (List ℕ)) → EachInBytes (method_rows t rows)
unfolding EachInBytes method_rows
method-rows-small t f [] = tt
method-rows-small t f (row ∷ rows) = (given-small t f (list_method row), method-rows-small t f rows)

-- ---- the header
module _ (h : Header) (o : List ℕ) (p : ℕ) where
  ways : {P : Type 0} (n : ℕ)
      → (h.header_size < 56 → eqb 2 n ≡ true → P)
      → (1024 < h.header_size → eqb 3 n ≡ true → P)
      → (SizeRight h → h.minimum_index < 4096 → eqb 4 n ≡ true → P)
      → (SizeRight h → 4096 ≤ h.minimum_index → h.maximum_index < h.minimum_index → eqb 5 n ≡ true → P)
      → (SizeRight h → BoundsRight h → length o < p + h.header_size → eqb 19 n ≡ true → P)
      → by n (lay (header_bytes h) o p) ≡ true → P
  unfolding lay header_bytes
  ways n w2 w3 w4 w5 w19 =
      at-then n (header_bytes h) _
      (at-stop n (ltb h.header_size 56) 2 _ (λ e. w2 (ltb-true _ _ e)) (λ e₁.
      at-stop n (ltb 1024 h.header_size) 3 _ (λ e. w3 (ltb-true _ _ e)) (λ e₂.
      at-stop n (ltb h.minimum_index 4096) 4 _ (λ e. w4 (ltb-false _ _ e₁, ltb-false _ _ e₂) (ltb-true _ _ e)) (λ e₃.
      at-stop n (ltb h.maximum_index h.minimum_index) 5 _ (λ e. w5 (ltb-false _ _ e₁, ltb-false _ _ e₂) (ltb-false _ _ e₃) (ltb-true _ _ e)) (λ _. off)))))
      (λ bs e.
      let k = checked h bs e in
      let l : length bs ≡ h.header_size = ap length (sym k.are) ∙ header-length h k.not_small in
      at-stop n (ltb (length o) (p + length bs)) 19 _ (λ t. w19 (k.not_small, k.not_large) (k.not_low, k.in_order) (subst (λ (k : ℕ). length o < p + k) l (ltb-true _ _ t))) (λ _. off))

  headers-2 : Given 2 [] (lay (header_bytes h) o p) (h.header_size < 56)
  unfolding lay header_bytes
  headers-2 = record { when = λ l. rw (lt-ltb _ _ l); only = ways 2 (λ l _. l) (λ _. off) (λ _ _. off) (λ _ _ _. off) (λ _ _ _. off) }

  headers-3 : Given 3 [] (lay (header_bytes h) o p) (1024 < h.header_size)
  unfolding lay header_bytes
  headers-3 = record {
    when = λ l. let m : 56 ≤ h.header_size = omega arith in rw (le-ltb _ _ m, lt-ltb _ _ l);
    only = ways 3 (λ _. off) (λ l _. l) (λ _ _. off) (λ _ _ _. off) (λ _ _ _. off);
  }

  headers-4 : Given 4 [] (lay (header_bytes h) o p) (SizeRight h × (h.minimum_index < 4096))
  unfolding lay header_bytes
  headers-4 = record {
    when = λ (s, l). rw (le-ltb _ _ s.0, le-ltb _ _ s.1, lt-ltb _ _ l);
    only = ways 4 (λ _. off) (λ _. off) (λ s l _. (s, l)) (λ _ _ _. off) (λ _ _ _. off);
  }

  headers-5 : Given 5 [] (lay (header_bytes h) o p) (SizeRight h × (4096 ≤ h.minimum_index) × (h.maximum_index < h.minimum_index))
  unfolding lay header_bytes
  headers-5 = record {
    when = λ (s, m, l). rw (le-ltb _ _ s.0, le-ltb _ _ s.1, le-ltb _ _ m, lt-ltb _ _ l);
    only = ways 5 (λ _. off) (λ _. off) (λ _ _. off) (λ s m l _. (s, m, l)) (λ _ _ _. off);
  }

  headers-19 : Given 19 [] (lay (header_bytes h) o p) (SizeRight h × BoundsRight h × (length o < p + h.header_size))
  unfolding lay header_bytes
  headers-19 = record {
    when = λ (s, b, l). rw (le-ltb _ _ s.0, le-ltb _ _ s.1, le-ltb _ _ b.0, le-ltb _ _ b.1, header-length h s.0, lt-ltb _ _ l);
    only = ways 19 (λ _. off) (λ _. off) (λ _ _. off) (λ _ _ _. off) (λ s b l _. (s, b, l));
  }

pub writes-when : WritesWhen
writes-when = record {
  records_17 = records-17;
  field_lists_17 = field-lists-17;
  method_lists_17 = method-lists-17;
  texts_17 = λ W table t vs o p f. records-17 table (given_all t vs) o p (given-small t f vs);
  member_rows_17 = λ t rows o p f. field-lists-17 (member_rows t rows) o p (member-rows-small t f rows);
  method_rows_17 = λ t rows o p f. method-lists-17 (method_rows t rows) o p (method-rows-small t f rows);
  records_18 = records-18;
  field_lists_18 = field-lists-18;
  method_lists_18 = method-lists-18;
  records_19 = records-19;
  field_lists_19 = field-lists-19;
  method_lists_19 = method-lists-19;
  headers_2 = headers-2;
  headers_3 = headers-3;
  headers_4 = headers-4;
  headers_5 = headers-5;
  headers_19 = headers-19;
}
