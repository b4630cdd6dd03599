-- The statements of specs/RoundTrip.antt. Assumes nothing.
use Rattle.std.specs.Prelude.{Option, None, Some}
use Prim.Native.Nat.{ℕ, ◌+◌, ◌^◌}
use native.Mathlib.Omega.{arith}
use native.Mathlib.Nat.{le_refl}
use mathlib.Core.Bool.{Bool, true, false}
use mathlib.Core.Path.{◌≡◌, refl, ap, sym, ◌∙◌}
use mathlib.Core.List.{List, [], ◌∷◌, ◌++◌}
use lib.ListN.{length, length-append}
use lib.Dec.{ltb}
use borrow.Author.Tests.{ltb-true, ltb-false, le-ltb}
use Rattle.answer.specs.Answer.{answered, refused, got, stop, then}
use Rattle.answer.specs.Tables.{find}
use Rattle.field.specs.Fields.{fixed_at}
use Rattle.field.specs.Bytes.{bytes}
use Rattle.field.proofs.ByteLaws.{Stands, stands, first, next, fixed_back, length-bytes}
use Rattle.field_number.specs.Forms.{form_of, shortest}
use Rattle.record_layout.specs.Fields.{Shown, number, numeral, absent, many}
use Rattle.record_layout.specs.Layouts.{Layout, Table, read_leaf, leaf_of, record_of}
use Rattle.write_layout.specs.Runs.{pads}
use Rattle.write_layout.specs.Fields.{ToWrite, given_all, Encoded, fixed_bytes}
use Rattle.write_layout.specs.Records.{written_by, write_leaf, missing, filled, whole, record_bytes, write_record}
use Rattle.write_layout.specs.RoundTrip.{InShortest, AllInShortest, FieldsReadBack, NoneShorter, NoShorter, ReadsBack, RecordReadsBack}
use Rattle.write_layout.proofs.RunLaws.{length-pads}
use Rattle.write_layout.proofs.Back.{refusal, passed, written_both, back}
use Rattle.write_layout.proofs.Padding.{missing-fills}

pub fields-read-back : FieldsReadBack
fields-read-back W form fs w vs bs xs ys h =
    let b = back form fs w vs (xs ++ (bs ++ ys)) (length xs) bs ys h (stands xs bs ys) in
    record { values = b.values; read = b.read; same = b.shows; forms = b.forms }

-- No number has a shorter form ------------------------------------------------------------------------------------------------------

none-shorter : (v : Shown) → InShortest form_of v → NoneShorter v
unfolding form_of
none-shorter (number n) h = tt
none-shorter (numeral z f) h = rw h (le-ltb _ _ (le_refl (length (shortest z))))
none-shorter absent h = tt
none-shorter (many x) h = tt

pub no-shorter : (vs : List Shown) → AllInShortest form_of vs → NoShorter vs
unfolding AllInShortest NoShorter
no-shorter [] h = tt
no-shorter (v ∷ vs) h = (none-shorter v h.0, no-shorter vs h.1)

-- A record --------------------------------------------------------------------------------------------------------------------------

-- the leaf and the fields, at the start of a payload
pub record LeafBack (table : Table) (s : List ℕ) (vs : List ToWrite) : Type 0 where
  pub values : List Shown
  pub read : record_of table s ≡ answered values
  pub shows : given_all s values ≡ vs
  pub forms : NoShorter values

by_layout : (table : Table) (l : Option Layout) (leaf : ℕ) (vs : List ToWrite) (s bs ys : List ℕ) → find leaf table ≡ l → written_by l vs ≡ answered bs
    → (p : ℕ) → fixed_at 2 s 0 ≡ got leaf p → Stands s p bs ys → LeafBack table s (number leaf ∷ vs)
unfolding record_of leaf_of read_leaf NoShorter
by_layout table None leaf vs s bs ys f w p r st = refusal w
by_layout table (Some fs) leaf vs s bs ys f w p r st =
    let b = back form_of fs 0 vs s p bs ys w st in
    record { values = number leaf ∷ b.values; read = rw (r, f, b.read); shows = ap (λ (l : List ToWrite). number leaf ∷ l) b.shows; forms = (tt, no-shorter b.values b.forms) }

pub leaf-back : (table : Table) (vs : List ToWrite) (bs ys : List ℕ) → write_leaf table vs ≡ answered bs → LeafBack table (bs ++ ys) vs
unfolding write_leaf fixed_bytes
leaf-back table [] bs ys w = refusal w
leaf-back table (numeral z u ∷ vs) bs ys w = refusal w
leaf-back table (absent ∷ vs) bs ys w = refusal w
leaf-back table (many x ∷ vs) bs ys w = refusal w
leaf-back table (number leaf ∷ vs) bs ys w =
    let b = written_both (fixed_bytes 2 leaf) (written_by (find leaf table) vs) bs w in
    let a = passed (ltb leaf (256 ^ 2)) (bytes 2 leaf) b.first_bytes b.first_is in
    let zs = b.more_bytes in
    let e : bytes 2 leaf ++ zs ≡ bs = ap (λ (l : List ℕ). l ++ zs) a.bytes_are ∙ b.all_are in
    let st : Stands (bs ++ ys) 0 (bytes 2 leaf ++ zs) ys = record { inside = omega arith; here = sym (ap (λ (l : List ℕ). l ++ ys) e) } in
    let f = fixed_back 2 leaf (bs ++ ys) 0 (zs ++ ys) (ltb-true _ _ a.test_is) (first (bs ++ ys) 0 (bytes 2 leaf) zs ys st) in
    by_layout table (find leaf table) leaf vs (bs ++ ys) zs ys refl b.more_is _ f (next (bs ++ ys) 0 (bytes 2 leaf) zs ys st)

whole_length : (bs : List ℕ) → length (bytes 2 (length (filled bs)) ++ filled bs) ≡ length bs + 2 + missing (length bs + 2)
unfolding filled
whole_length bs =
    let a = length-append (bytes 2 (length (filled bs))) (filled bs) in
    let b = length-append bs (pads (missing (length bs + 2))) in
    omega (arith, a, b, length-bytes 2 (length (filled bs)), length-pads (missing (length bs + 2)))

pub record-reads-back : RecordReadsBack
unfolding write_record record_bytes filled
record-reads-back table vs rs w = go (write_leaf table vs) refl w
  where
    go : (b : Encoded) → write_leaf table vs ≡ b → then b (λ bs. whole (filled bs)) ≡ answered rs → ReadsBack table vs rs
    go (refused n d) e h = refusal h
    go (answered bs) e h = test (ltb 65535 (length (filled bs))) refl h
      where
        test : (c : Bool) → ltb 65535 (length (filled bs)) ≡ c → stop c 18 (answered (bytes 2 (length (filled bs)) ++ filled bs)) ≡ answered rs → ReadsBack table vs rs
        test true f k = refusal k
        test false f k =
            let i : rs ≡ bytes 2 (length (filled bs)) ++ filled bs = cc in
            let l = leaf-back table vs bs (pads (missing (length bs + 2))) e in
            record {
              payload = filled bs;
              is_link = i;
              short = ltb-false _ _ f;
              aligned = rw i (rw (whole_length bs) (missing-fills (length bs + 2)));
              values = l.values;
              read = l.read;
              same = l.shows;
              again = ap (write_record table) l.shows ∙ w;
              shortest_forms = l.forms;
            }
