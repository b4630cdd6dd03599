-- What is true of a report that was made from a fresh one. Assumes nothing.
use Prim.Native.Nat.{ℕ}
use mathlib.Core.Path.{◌≡◌, refl, sym, ap, ◌∙◌, subst}
use mathlib.Core.Bool.{Bool, true, false}
use mathlib.Core.List.{List, [], ◌∷◌}
use native.Mathlib.Omega.{arith}
use borrow.Author.Tests.{ltb-false}
use Rattle.answer.specs.Answer.{Answer, answered, refused, stop}
use Rattle.stream_report.specs.Report.{Entry, Report, fresh, begun, refusing, too_large, add_of}
use Rattle.stream_report.specs.Sums.{Stream, stream_of, AddsUp, count_all, by_records, new, added, sum, lengths, refused_streams, records_for, bytes_for, all_records, all_bytes, distinct, Sums, MadeSums}
use Rattle.stream_report.proofs.SumLaws.{adds-up, exactly, Plain, plain, open-entries, full-leaves, all-tallied, each-tallied, distinct-tallied}
use Rattle.stream_report.proofs.LargestLaws.{LargestIs, fresh-largest, refused-largest, counted-largest}

-- an addition that was answered
settled_is : (a f : Bool) (ρ ρ' : Report) → stop a 27 (stop f 28 (answered ρ)) ≡ answered ρ' → (f ≡ false) × (ρ ≡ ρ')
settled_is true f ρ ρ' e = let z : ◌≡◌ {A = ℕ} 0 1 = cc in absurd (omega arith)
settled_is false true ρ ρ' e = let z : ◌≡◌ {A = ℕ} 0 1 = cc in absurd (omega arith)
settled_is false false ρ ρ' e = (refl, cc)

module _ (ρ : Report) (ss : List (List ℕ)) (s : List ℕ) (m : Sums ρ ss) where
  -- of a stream that was counted
  module _ (z : Stream) (e : stream_of s ≡ answered z) (o : (count_all ρ.taken (begun ρ z.header) z.records).full ≡ false) where
    counted-sums : Sums (count_all ρ.taken (begun ρ z.header) z.records).report (s ∷ ss)
    unfolding sum lengths refused_streams AddsUp
    counted-sums =
        let p : Plain ρ.taken (begun ρ z.header) (count_all ρ.taken (begun ρ z.header) z.records) z.records = plain ρ.taken z.records (begun ρ z.header) in
        let q = open-entries ρ.taken z.records (begun ρ z.header) o in
        let l = full-leaves ρ.taken z.records (begun ρ z.header) refl m.few in
        let t = all-tallied z.records ρ.entries in
        record {
          taken = omega (arith, p.taken, m.taken);
          refused = rw e (omega (arith, p.refused, m.refused));
          headers = rw e (omega (arith, p.headers, m.headers));
          records = rw e (omega (arith, p.records, m.records));
          bytes = rw e (omega (arith, p.bytes, m.bytes));
          whole = rw e (omega (arith, p.headers, p.records, p.bytes, m.whole, adds-up s z e));
          records_add_up = ap all_records q ∙ omega (arith, p.records, m.records_add_up, t.0);
          bytes_add_up = ap all_bytes q ∙ omega (arith, p.bytes, m.bytes_add_up, t.1);
          leaves = ap distinct q ∙ distinct-tallied z.records ρ.entries m.leaves;
          each_records = λ leaf. ap (λ (es : List Entry). records_for es leaf) q ∙ rw e (omega (arith, m.each_records leaf, (each-tallied leaf z.records ρ.entries).0));
          each_bytes = λ leaf. ap (λ (es : List Entry). bytes_for es leaf) q ∙ rw e (omega (arith, m.each_bytes leaf, (each-tallied leaf z.records ρ.entries).1));
          few = rw q (ltb-false 64 _ (sym l ∙ o));
          largest =
              subst (λ (number : ℕ). LargestIs (count_all number (begun ρ z.header) z.records).report.largest (s ∷ ss)) (sym m.taken) (counted-largest ss s z e (begun ρ z.header) m.largest);
        }

  -- and of one that was refused
  module _ (n : ℕ) (d : List ℕ) (e : stream_of s ≡ refused n d) where
    refused-sums : Sums (refusing ρ) (s ∷ ss)
    unfolding sum lengths refused_streams AddsUp
    refused-sums = record {
      taken = omega (arith, m.taken);
      refused = rw e (omega (arith, m.refused));
      headers = rw e (omega (arith, m.headers));
      records = rw e (omega (arith, m.records));
      bytes = rw e (omega (arith, m.bytes));
      whole = rw e (omega (arith, m.whole));
      records_add_up = m.records_add_up;
      bytes_add_up = m.bytes_add_up;
      leaves = m.leaves;
      each_records = λ leaf. rw e (omega (arith, m.each_records leaf));
      each_bytes = λ leaf. rw e (omega (arith, m.each_bytes leaf));
      few = m.few;
      largest = refused-largest ρ.largest ss s n d e m.largest;
    }

  added-sums : (ρ' : Report) → add_of ρ s ≡ answered ρ' → Sums ρ' (s ∷ ss)
  added-sums ρ' e = go (stream_of s) refl (sym (exactly.is ρ s) ∙ e)
    where
      go : (a : Answer Stream) → stream_of s ≡ a → by_records ρ a ≡ answered ρ' → Sums ρ' (s ∷ ss)
      go (answered z) h q =
          let r = settled_is (too_large (count_all ρ.taken (begun ρ z.header) z.records).report) (count_all ρ.taken (begun ρ z.header) z.records).full (count_all ρ.taken (begun ρ z.header) z.records).report ρ' q in
          subst (λ (x : Report). Sums x (s ∷ ss)) r.1 (counted-sums z h r.0)
      go (refused n d) h q =
          let r = settled_is (too_large (refusing ρ)) false (refusing ρ) ρ' q in
          subst (λ (x : Report). Sums x (s ∷ ss)) r.1 (refused-sums n d h)

fresh-sums : Sums fresh []
unfolding sum lengths refused_streams all_records all_bytes distinct records_for bytes_for
fresh-sums = record {
  taken = refl;
  refused = refl;
  headers = refl;
  records = refl;
  bytes = refl;
  whole = refl;
  records_add_up = refl;
  bytes_add_up = refl;
  leaves = refl;
  each_records = λ leaf. refl;
  each_bytes = λ leaf. refl;
  few = omega arith;
  largest = fresh-largest;
}

pub made-sums : MadeSums
unfolding MadeSums
made-sums ρ ss new = fresh-sums
made-sums ρ ss (added {ρ = σ} {ss = us} {s = s} m e) = added-sums σ us s (made-sums σ us m) ρ e
