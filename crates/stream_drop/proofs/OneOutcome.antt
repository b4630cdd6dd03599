-- What the answer of `drop` says fixes the answer; and its contract admits one answer, one table after it and one buffer. Assumes nothing.
use Rattle.std.specs.Prelude.{Result, Ok, Err}
use Rattle.answer.specs.declared.Refusal.{Refusal}
use Prim.Native.Nat.{ℕ}
use mathlib.Core.Path.{◌≡◌, refl, sym, ◌∙◌}
use mathlib.Core.List.{List}
use Rattle.answer.proofs.OneOutcome.{one_of, heard, heard-no}
use Rattle.stream_drop.specs.Drop.{Outcome, Drops}
use Rattle.answer.specs.Refusals.{itself, said}

drop-back : (r : Result ℕ Refusal) → heard Ok Err (said itself r) ≡ r
drop-back (Ok n) = refl
drop-back (Err e) = heard-no Ok Err e

pub one-drop : (r q : Result ℕ Refusal) → said itself r ≡ said itself q → r ≡ q
one-drop = one_of (said itself) (heard Ok Err) drop-back

pub one-drops : (t b : List ℕ) (o : Outcome) (r q : Result ℕ Refusal) (t₁ t₂ b₁ b₂ : List ℕ) → Drops t b o r t₁ b₁ → Drops t b o q t₂ b₂ → (r ≡ q) × (t₁ ≡ t₂) × (b₁ ≡ b₂)
one-drops t b o r q t₁ t₂ b₁ b₂ l k = (one-drop r q (l.says ∙ sym k.says), l.table ∙ sym k.table, l.buffer ∙ sym k.buffer)
