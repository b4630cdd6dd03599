-- Document 01, "Finder": `update` changes the finder in place. What it answers, and the finder and the table after it.
use Rattle.std.specs.Prelude.{Result, ◌≡◌}
use Rattle.answer.specs.declared.Refusal.{Refusal}
use Rattle.answer.specs.Answer.{Answer, answered, refused}
use Rattle.answer.specs.Refusals.{itself, said}
use Rattle.stream_finder.specs.Finder.{State, update_of, after}
use Rattle.stream_item.specs.declared.iter.ItemIter.{ItemIter}

-- an update in place answers with no value
abbrev pub outcome : Answer State → Answer (Unit {0})
outcome (answered τ) = answered tt
outcome (refused n d) = refused n d

-- the contract of a function that changes the state σ in place: a is the definition's answer, r the function's, τ the state after it, which is
-- σ where it refuses
pub record Changes (σ : State) (a : Answer State) (r : Result Unit Refusal) (τ : State) : Type 0 where
  pub answer : said itself r ≡ outcome a
  pub left : τ ≡ after σ a

-- an update of σ by the cursor c
abbrev pub Updates : State → ItemIter → Result Unit Refusal → State → Type 0
Updates σ c = Changes σ (update_of σ c)
