-- What C gets of a verdict.
use Rattle.std.specs.Prelude.{ℕ, List, [], ◌∷◌}
use Rattle.answer.specs.Answer.{Answer}
use Rattle.stream_fit.specs.Fit.{Verdict, fit, unfit}
use Rattle.pane_out.specs.Handed.{handed}

-- 1 for yes; 0 for no, with the record and the rule
abbrev pub verdict_fields : Verdict → List ℕ
verdict_fields fit = 1 ∷ 0 ∷ 0 ∷ []
verdict_fields (unfit i rule) = 0 ∷ i ∷ rule ∷ []

abbrev pub out_fit : Answer Verdict → ℕ × List ℕ
out_fit = handed 3 verdict_fields
