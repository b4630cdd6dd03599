-- The numbers that an addition to a report is refused by, and that it then leaves the table. Assumes nothing.
use Rattle.std.specs.Prelude.{Result}
use Rattle.answer.specs.declared.Refusal.{Refusal}
use Rattle.stream_report.specs.declared.Totals.{Totals}
use Prim.Native.Nat.{ℕ}
use mathlib.Core.Bool.{Bool, false}
use mathlib.Core.Path.{◌≡◌, refl, sym, ◌∙◌}
use mathlib.Core.List.{List, [], ◌∷◌}
use native.Mathlib.Omega.{arith}
use Rattle.answer.specs.Answer.{Answer, answered, refused}
use Rattle.answer.specs.Tables.{find, among}
use Rattle.answer.specs.Refusals.{listed, in_table, refusals, itself, said}
use Rattle.stream_report.specs.Report.{Report, Counting, refusing, count_stream, too_large, settled_report, concluded, add_of, totals_in, report_table_after, Reports}
use Rattle.claim_promises.specs.ByTable.{Refuses, fits, gives}
use Rattle.claim_promises.proofs.ByTable.{by-stop}

settled-refuses : (ρ : Report) (full : Bool) → Refuses (27 ∷ 28 ∷ []) (settled_report ρ full)
unfolding fits among listed find in_table refusals
settled-refuses ρ full = by-stop (too_large ρ) 27 refl (by-stop full 28 refl gives)

concluded-refuses : (ρ : Report) (a : Answer Counting) → Refuses (27 ∷ 28 ∷ []) (concluded ρ a)
concluded-refuses ρ (answered x) = settled-refuses x.report x.full
concluded-refuses ρ (refused n d) = settled-refuses (refusing ρ) false

pub add-refuses : (ρ : Report) (s : List ℕ) → Refuses (27 ∷ 28 ∷ []) (add_of ρ s)
unfolding add_of
add-refuses ρ s = concluded-refuses ρ (count_stream ρ s)

pub reports-nothing : (t : List ℕ) (a : Answer Report) (r : Result Totals Refusal) (t' : List ℕ) (n : ℕ) (d : List ℕ) → Reports t a r t' → said itself r ≡ refused n d → t' ≡ t
reports-nothing t a r t' n d l e = go a (sym l.answer ∙ e) l.table
  where
    go : (a : Answer Report) → totals_in a ≡ refused n d → t' ≡ report_table_after t a → t' ≡ t
    go (answered ρ) p q = let z : ◌≡◌ {A = ℕ} 0 1 = cc in absurd (omega arith)
    go (refused m x) p q = q
