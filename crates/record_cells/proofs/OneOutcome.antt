-- What an answer says fixes the answer, and what stands behind `out` too, so that the contract admits one outcome. Assumes nothing.
use Rattle.std.specs.Prelude.{Result}
use Rattle.answer.specs.declared.Refusal.{Refusal}
use Prim.Native.Nat.{ℕ}
use mathlib.Core.Path.{◌≡◌, sym, ◌∙◌}
use mathlib.Core.List.{List}
use Rattle.answer.specs.Answer.{Read}
use Rattle.answer.proofs.OneOutcome.{one_answer as one_number}
use Rattle.record_cells.specs.Filled.{FillsCells}

module _ {A : Type 0} (cells : A → List ℕ) (reading : Read A) (r q : Result ℕ Refusal) (before after other : List ℕ) where
  pub one_answer : FillsCells cells reading r before after → FillsCells cells reading q before other → r ≡ q
  one_answer f g = one_number r q (f.said ∙ sym g.said)

  pub one_out : FillsCells cells reading r before after → FillsCells cells reading q before other → after ≡ other
  one_out f g = f.filled ∙ sym g.filled
