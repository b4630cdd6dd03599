-- A writer has one answer, and one buffer after it; what the answers say fixes them. Assumes nothing.
use Rattle.std.specs.Prelude.{Result}
use Prim.Native.Nat.{ℕ}
use mathlib.Core.Path.{◌≡◌, sym, ◌∙◌}
use mathlib.Core.List.{List}
use Rattle.answer.specs.Answer.{Answer}
use Rattle.answer.specs.Refusals.{itself, said}
use Rattle.answer.specs.declared.Refusal.{Refusal}
use Rattle.answer.proofs.OneOutcome.{one_answer}
use Rattle.write_layout.specs.Buffer.{Written, Writes}

pub one-measure : (r q : Result ℕ Refusal) → said itself r ≡ said itself q → r ≡ q
one-measure = one_answer

pub one_writes : (s : List ℕ) (w : Answer Written) (r q : Result ℕ Refusal) (u v : List ℕ) → Writes s w (said itself r) u → Writes s w (said itself q) v → (r ≡ q) × (u ≡ v)
one_writes s w r q u v x y = (one_answer r q (x.answer ∙ sym y.answer), x.left ∙ sym y.left)
