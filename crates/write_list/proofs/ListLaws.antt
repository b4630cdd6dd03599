-- The two lists are what write_layout says of them. Assumes nothing.
use Prim.Native.Nat.{ℕ, ◌-◌, ◌%◌, ◌^◌}
use native.Mathlib.Omega.{arith}
use mathlib.Core.Bool.{Bool, true, false}
use mathlib.Core.Path.{◌≡◌, refl, ap, sym, ◌∙◌}
use mathlib.Core.List.{List, [], ◌∷◌, append-nil}
use lib.ListN.{length, length-append}
use lib.Dec.{eqb, ltb}
use borrow.Author.Tests.{eqb-true}
use Rattle.answer.specs.Answer.{answered, refused, pick}
use Rattle.field.specs.Bytes.{bytes}
use Rattle.field.proofs.ByteLaws.{length-bytes}
use Rattle.word_attributes.specs.Words.{introducing}
use Rattle.record_layout.specs.Fields.{number, numeral, absent, many, gap}
use Rattle.record_layout.specs.Layouts.{type_index, offset, method}
use Rattle.write_layout.specs.Runs.{pads}
use Rattle.write_layout.specs.Fields.{ToWrite, Encoded, bad, only, fixed_bytes, given, given_all, of_absent, of_number, write_field, write_fields}
use Rattle.write_layout.specs.Records.{missing}
use Rattle.write_layout.specs.Lists.{filled_member, filled_each, member_bytes, ends_list, members_bytes, methods_bytes}
use Rattle.write_layout.proofs.Back.{written_both}
use Rattle.write_list.specs.Rows.{Bare, slot_at, present_of, base_class, direct_base, indirect_base, continuation, table_pointer, enumerate, data_member, static_member, overloads, nested, one_method, row_values, list_method, member_rows, method_rows}
use Rattle.write_list.specs.Elements.{element_bytes, ends_after, elements_bytes}

-- Members -------------------------------------------------------------------------------------------------------------------------

pick_ends : (t : List ℕ) (b : Bool) (x y : List Bare) (r : Bool) → (b ≡ true → ends_list (given_all t x) ≡ r) → (b ≡ false → ends_list (given_all t y) ≡ r)
    → ends_list (given_all t (pick b x y)) ≡ r
pick_ends t true x y r f g = f refl
pick_ends t false x y r f g = g refl

-- the values of a row end the list exactly if its first number is 0x1404
pub row_ends : (t row : List ℕ) → ends_list (given_all t (row_values row)) ≡ eqb (slot_at 0 row) 0x1404
unfolding ends_list row_values base_class direct_base indirect_base continuation table_pointer enumerate data_member static_member overloads nested one_method
row_ends t row =
    pick_ends t (eqb (slot_at 0 row) 0x1400) (base_class row) _ _ (λ e. rw (eqb-true (slot_at 0 row) 0x1400 e)) (λ _.
    pick_ends t (eqb (slot_at 0 row) 0x1401) (direct_base row) _ _ (λ e. rw (eqb-true (slot_at 0 row) 0x1401 e)) (λ _.
    pick_ends t (eqb (slot_at 0 row) 0x1402) (indirect_base row) _ _ (λ e. rw (eqb-true (slot_at 0 row) 0x1402 e)) (λ _.
    pick_ends t (eqb (slot_at 0 row) 0x1404) (continuation row) _ _ (λ e. sym e) (λ f.
    pick_ends t (eqb (slot_at 0 row) 0x1409) (table_pointer row) _ _ (λ e. sym f) (λ _.
    pick_ends t (eqb (slot_at 0 row) 0x1502) (enumerate row) _ _ (λ e. sym f) (λ _.
    pick_ends t (eqb (slot_at 0 row) 0x150d) (data_member row) _ _ (λ e. sym f) (λ _.
    pick_ends t (eqb (slot_at 0 row) 0x150e) (static_member row) _ _ (λ e. sym f) (λ _.
    pick_ends t (eqb (slot_at 0 row) 0x150f) (overloads row) _ _ (λ e. sym f) (λ _.
    pick_ends t (eqb (slot_at 0 row) 0x1510) (nested row) _ _ (λ e. sym f) (λ _.
    pick_ends t (eqb (slot_at 0 row) 0x1511) (one_method row) [] _ (λ e. sym f) (λ _. sym f)))))))))))

pub members-are : (t : List ℕ) (ended : Bool) (rows : List (List ℕ)) → elements_bytes 0x1203 t ended rows ≡ members_bytes ended (member_rows t rows)
unfolding elements_bytes element_bytes ends_after members_bytes member_bytes member_rows
members-are t true [] = refl
members-are t false [] = refl
members-are t true (row ∷ rows) = refl
members-are t false (row ∷ rows) = rw (row_ends t row, members-are t (eqb (slot_at 0 row) 0x1404) rows)

-- Methods -------------------------------------------------------------------------------------------------------------------------

-- bytes of a length that wants no pads
filled_none : (bs : List ℕ) → length bs % 4 ≡ 0 → filled_member bs ≡ bs
unfolding filled_member missing pads
filled_none bs h =
    let z : (4 - length bs % 4) % 4 ≡ 0 = omega arith in
    rw z (append-nil bs)

refusal-17 : {X : Type 0} {bs : List ℕ} → ◌≡◌ {A = Encoded} bad (answered bs) → X
refusal-17 {X} {bs} h = let z : ◌≡◌ {A = ℕ} 0 1 = cc in absurd (omega arith)

pub fixed-long : (k n : ℕ) (bs : List ℕ) → fixed_bytes k n ≡ answered bs → length bs ≡ k
unfolding fixed_bytes
fixed-long k n bs = go (ltb n (256 ^ k))
  where
    go : (c : Bool) → only c (bytes k n) ≡ answered bs → length bs ≡ k
    go true e = let f : bytes k n ≡ bs = cc in sym (ap length f) ∙ length-bytes k n
    go false e = refusal-17 e

pub nothing-long : (bs : List ℕ) → ◌≡◌ {A = Encoded} (answered []) (answered bs) → length bs ≡ 0
nothing-long bs e = let f : [] ≡ bs = cc in sym (ap length f)

pub gap-long : (bs : List ℕ) → ◌≡◌ {A = Encoded} (answered (bytes 2 0)) (answered bs) → length bs ≡ 2
gap-long bs e = let f : bytes 2 0 ≡ bs = cc in sym (ap length f) ∙ length-bytes 2 0

pub offset-long : (c : Bool) (v : ToWrite) (bs : List ℕ) → pick c (of_number v (fixed_bytes 4)) (of_absent v (answered [])) ≡ answered bs → length bs % 4 ≡ 0
offset-long true (number n) bs e = rw (fixed-long 4 n bs e)
offset-long true (numeral z u) bs e = refusal-17 e
offset-long true absent bs e = refusal-17 e
offset-long true (many x) bs e = refusal-17 e
offset-long false (number n) bs e = refusal-17 e
offset-long false (numeral z u) bs e = refusal-17 e
offset-long false absent bs e = rw (nothing-long bs e)
offset-long false (many x) bs e = refusal-17 e

-- a method has eight bytes, or twelve
pub method-aligned : (a b : ℕ) (v : ToWrite) (bs : List ℕ) → write_fields method 0 (number a ∷ absent ∷ number b ∷ v ∷ []) ≡ answered bs → length bs % 4 ≡ 0
unfolding write_fields write_field
method-aligned a b v bs w =
    let p = written_both (fixed_bytes 2 a) (write_fields (gap 2 ∷ type_index ∷ offset ∷ []) a (absent ∷ number b ∷ v ∷ [])) bs w in
    let q = written_both (answered (bytes 2 0)) (write_fields (type_index ∷ offset ∷ []) a (number b ∷ v ∷ [])) p.more_bytes p.more_is in
    let r = written_both (fixed_bytes 4 b) (write_fields (offset ∷ []) a (v ∷ [])) q.more_bytes q.more_is in
    let o = written_both (write_field offset a v) (answered []) r.more_bytes r.more_is in
    let lp = fixed-long 2 a p.first_bytes p.first_is in
    let lq = gap-long q.first_bytes q.first_is in
    let lr = fixed-long 4 b r.first_bytes r.first_is in
    let lo = offset-long (introducing a) v o.first_bytes o.first_is in
    let le = nothing-long o.more_bytes o.more_is in
    omega (
      arith,
      lp,
      lq,
      lr,
      lo,
      le,
      ap length p.all_are,
      ap length q.all_are,
      ap length r.all_are,
      ap length o.all_are,
      length-append p.first_bytes p.more_bytes,
      length-append q.first_bytes q.more_bytes,
      length-append r.first_bytes r.more_bytes,
      length-append o.first_bytes o.more_bytes,
    )

-- so that none of them wants pads
unfilled : (b : Encoded) → ((bs : List ℕ) → b ≡ answered bs → length bs % 4 ≡ 0) → filled_each b ≡ b
unfolding filled_each
unfilled (answered bs) f = ap answered (filled_none bs (f bs refl))
unfilled (refused n d) f = refl

pub methods-are : (t : List ℕ) (rows : List (List ℕ)) → elements_bytes 0x1206 t false rows ≡ methods_bytes (method_rows t rows)
unfolding elements_bytes element_bytes ends_after methods_bytes method_rows list_method
methods-are t [] = refl
methods-are t (row ∷ rows) =
    rw (
      unfilled (write_fields method 0 (given_all t (list_method row))) (λ bs e. method-aligned (slot_at 0 row) (slot_at 1 row) (given t (present_of (slot_at 2 row) (slot_at 3 row))) bs e),
      methods-are t rows,
    )
