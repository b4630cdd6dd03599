-- What a header's answer says fixes the answer. Assumes nothing.
use mathlib.Core.Path.{◌≡◌}
use Rattle.std.specs.Prelude.{Result}
use Rattle.answer.specs.declared.Refusal.{Refusal}
use Rattle.answer.specs.Refusals.{itself, said}
use Rattle.answer.proofs.OneOutcome.{one_answer}
use Rattle.stream_header.specs.declared.Header.{Header}

pub one-header : (r q : Result Header Refusal) → said itself r ≡ said itself q → r ≡ q
one-header = one_answer
