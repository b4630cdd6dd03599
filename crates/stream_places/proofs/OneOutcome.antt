-- What each answer of this crate says fixes the answer; and a function that is lent the buffer has one answer and one buffer after. Assumes nothing.
use Prim.Native.Nat.{ℕ}
use mathlib.Core.Path.{◌≡◌, sym, ◌∙◌}
use mathlib.Core.List.{List}
use Rattle.std.specs.Prelude.{Result}
use Rattle.answer.specs.declared.Refusal.{Refusal}
use Rattle.answer.specs.Answer.{Answer}
use Rattle.answer.specs.Refusals.{itself, said}
use Rattle.answer.proofs.OneOutcome.{one_answer}
use Rattle.stream_places.specs.Places.{Saves}
use Rattle.stream_places.specs.declared.trailer.Trailer.{Trailer}

pub one-trailer : (r q : Result Trailer Refusal) → said itself r ≡ said itself q → r ≡ q
one-trailer = one_answer

pub one-save : (r q : Result ℕ Refusal) → said itself r ≡ said itself q → r ≡ q
one-save = one_answer

pub one-saves : (o : List ℕ) (a : Answer (List ℕ)) (r q : Result ℕ Refusal) (u v : List ℕ) → Saves o a r u → Saves o a q v → (r ≡ q) × (u ≡ v)
one-saves o a r q u v l k = (one-save r q (l.answer ∙ sym k.answer), l.buffer ∙ sym k.buffer)
