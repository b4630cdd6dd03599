-- What the answer says fixes it, and a function that is lent the buffer has one answer and one buffer after. Assumes nothing.
use Rattle.std.specs.Prelude.{Result, Ok, Err}
use Rattle.answer.specs.declared.Refusal.{Refusal}
use Prim.Native.Nat.{ℕ}
use mathlib.Core.Path.{◌≡◌, refl, sym, ◌∙◌}
use mathlib.Core.List.{List}
use Rattle.answer.specs.Answer.{Answer}
use Rattle.answer.proofs.OneOutcome.{one_of, heard, heard-no}
use Rattle.declare_type.specs.Declares.{Declares}
use Rattle.answer.specs.Refusals.{itself, said}

declare-back : (r : Result ℕ Refusal) → heard Ok Err (said itself r) ≡ r
declare-back (Ok n) = refl
declare-back (Err e) = heard-no Ok Err e

pub one-declare : (r q : Result ℕ Refusal) → said itself r ≡ said itself q → r ≡ q
one-declare = one_of (said itself) (heard Ok Err) declare-back

pub one-declares : (a : Answer (List ℕ)) (o : List ℕ) (r q : Result ℕ Refusal) (u v : List ℕ) → Declares a o r u → Declares a o q v → (r ≡ q) × (u ≡ v)
one-declares a o r q u v l k = (one-declare r q (l.answer ∙ sym k.answer), l.buffer ∙ sym k.buffer)
