-- What the answer says fixes the answer, so that the contract of `fit` admits one outcome. Assumes nothing.
use Rattle.stream_fit.specs.declared.Fitness.TheVariants as fitness
use Rattle.std.specs.Prelude.{Result, ℕ, eqb}
use Rattle.stream_fit.specs.declared.Fitness.{Fitness}
use Rattle.stream_fit.specs.declared.Rule.{Rule}
use Rattle.stream_fit.specs.declared.Rule.TheVariants as rule
use Rattle.answer.specs.declared.Refusal.{Refusal}
use mathlib.Core.Path.{◌≡◌, refl, ap}
use Rattle.answer.specs.Answer.{pick}
use Rattle.answer.proofs.OneOutcome.{one_said}
use Rattle.stream_fit.specs.Fit.{Verdict, fit, unfit, rule_number, verdict_of, said_fit}

abbrev rule_of : ℕ → Rule
rule_of n = pick (eqb n 1) rule.Count (pick (eqb n 2) rule.Decode (pick (eqb n 3) rule.Order (pick (eqb n 4) rule.Primitive rule.Gap)))

rule-back : (r : Rule) → rule_of (rule_number r) ≡ r
rule-back rule.Count = refl
rule-back rule.Decode = refl
rule-back rule.Order = refl
rule-back rule.Primitive = refl
rule-back rule.Gap = refl

abbrev fitness_of : Verdict → Fitness
fitness_of fit = fitness.Fit
fitness_of (unfit i n) = fitness.Unfit i (rule_of n)

fitness-back : (r : Fitness) → fitness_of (verdict_of r) ≡ r
fitness-back fitness.Fit = refl
fitness-back (fitness.Unfit i r) = ap (λ x. fitness.Unfit i x) (rule-back r)

pub one-fit : (r q : Result Fitness Refusal) → said_fit r ≡ said_fit q → r ≡ q
one-fit = one_said verdict_of fitness_of fitness-back
