-- The nine numbers of a report as C gives them, and what C gets of an addition.
use Rattle.std.specs.Prelude.{ℕ, List, [], ◌∷◌}
use Rattle.answer.specs.Answer.{Answer}
use Rattle.stream_report.specs.Report.{Report, totals_in, report_table_after}
use Rattle.stream_report.specs.declared.Totals.{Totals}
use Rattle.pane_out.specs.Handed.{handed}

abbrev pub totals_at : ℕ → ℕ → ℕ → ℕ → ℕ → ℕ → ℕ → ℕ → ℕ → Totals
totals_at taken refusals headers records bytes length stream index rows = record {
  taken = taken;
  refused = refusals;
  headers = headers;
  records = records;
  bytes = bytes;
  largest = record { length = length; stream = stream; index = index };
  rows = rows;
}

-- the nine numbers of a report; and the table after the call
abbrev pub totals_fields : Totals → List ℕ
totals_fields τ =
    τ.taken ∷ τ.refused ∷ τ.headers ∷ τ.records ∷ τ.bytes ∷ τ.largest.length ∷ τ.largest.stream ∷ τ.largest.index ∷ τ.rows ∷ []

abbrev pub out_report : List ℕ → Answer Report → ℕ × List ℕ × List ℕ
out_report t a = ((handed 9 totals_fields (totals_in a)).0, (handed 9 totals_fields (totals_in a)).1, report_table_after t a)
