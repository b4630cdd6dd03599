-- A contract `said itself r ≡ ..` admits one outcome: the answer is read back from what it says. Assumes nothing.
use Rattle.std.specs.Prelude.{Result}
use Rattle.answer.specs.declared.Refusal.{Refusal}
use mathlib.Core.Path.{◌≡◌}
use Rattle.answer.proofs.OneOutcome.{one_answer}
use Rattle.word_primitive.specs.declared.PrimitiveType.{PrimitiveType}
use Rattle.answer.specs.Refusals.{itself, said}

pub one-primitive : (r q : Result PrimitiveType Refusal) → said itself r ≡ said itself q → r ≡ q
one-primitive = one_answer
