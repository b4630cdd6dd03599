-- What the answer of this crate says fixes the answer; and a function that is lent the table has one answer and one table after. Assumes nothing.
use Prim.Native.Nat.{ℕ}
use mathlib.Core.Path.{◌≡◌, sym, ◌∙◌}
use mathlib.Core.List.{List}
use Rattle.std.specs.Prelude.{Result}
use Rattle.answer.specs.declared.Refusal.{Refusal}
use Rattle.answer.specs.Answer.{Answer}
use Rattle.answer.specs.Refusals.{itself, said}
use Rattle.answer.proofs.OneOutcome.{one_answer}
use Rattle.stream_report.specs.Report.{Report, Reports}
use Rattle.stream_report.specs.declared.Totals.{Totals}

pub one-report : (r q : Result Totals Refusal) → said itself r ≡ said itself q → r ≡ q
one-report = one_answer

pub one-reports : (t : List ℕ) (a : Answer Report) (r q : Result Totals Refusal) (u v : List ℕ) → Reports t a r u → Reports t a q v → (r ≡ q) × (u ≡ v)
one-reports t a r q u v l k = (one-report r q (l.answer ∙ sym k.answer), l.table ∙ sym k.table)
