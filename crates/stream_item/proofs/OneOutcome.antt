-- What each answer of this crate says fixes the answer. Assumes nothing.
use mathlib.Core.Path.{◌≡◌, refl}
use Rattle.std.specs.Prelude.{ℕ, Result, Option, Some, None, Bool}
use Rattle.answer.specs.declared.Refusal.{Refusal}
use Rattle.answer.specs.Refusals.{itself, said}
use Rattle.answer.proofs.OneOutcome.{one_said, one_answer}
use Rattle.stream_item.specs.Iterator.{Next, done, yielded, next_told, said_next}
use Rattle.stream_item.specs.declared.Item.{Item}
use Rattle.stream_item.specs.declared.iter.ItemIter.{ItemIter}

pub one-iter : (r q : Result ItemIter Refusal) → said itself r ≡ said itself q → r ≡ q
one-iter = one_answer

abbrev step_in : Next → Option (Item × ItemIter)
step_in done = None
step_in (yielded i c) = Some (i, c)

step-back : (o : Option (Item × ItemIter)) → step_in (next_told o) ≡ o
step-back None = refl
step-back (Some (i, c)) = refl

pub one-next : (r q : Result (Option (Item × ItemIter)) Refusal) → said_next r ≡ said_next q → r ≡ q
one-next = one_said next_told step_in step-back

pub one-len : (r q : Result ℕ Refusal) → said itself r ≡ said itself q → r ≡ q
one-len = one_answer

pub one-empty : (r q : Result Bool Refusal) → said itself r ≡ said itself q → r ≡ q
one-empty = one_answer
