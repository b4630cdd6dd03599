-- A walk as C gets it. Of a walk stream_index says that so many turns lead to where it ended, and that from there the next turn is over or refused; here is
-- where that is, as a function of what the walk started from: so a walk's contract is one equation too. `SameWalk` has that both say the same.
use Rattle.std.specs.Prelude.{Result, Ok, Err, ℕ, zero, suc, ◌≤◌, Bool, true, false, ◌≡◌, List, [], ◌∷◌, ◌++◌, length, get_or}
use Rattle.answer.specs.declared.Refusal.{Refusal}
use Rattle.answer.specs.Answer.{Answer, answered, refused, then}
use Rattle.answer.specs.Refusals.{no}
use Rattle.field.specs.declared.index.Stream.{Stream}
use Rattle.field.specs.declared.index.Stream.TheVariants.{Types, Ids}
use Rattle.stream_item.specs.Iterator.{iter_of}
use Rattle.stream_item.specs.declared.iter.ItemIter.{ItemIter}
use Rattle.stream_finder.specs.Finder.{State, state, create_by}
use Rattle.stream_finder.specs.declared.ItemFinder.{ItemFinder}
use Rattle.stream_index.specs.Walk.{Turn, over, moved, turn_of, Turns, said_end, Walks}
use Rattle.stream_index.specs.declared.Tour.{Tour}
use Rattle.pane_out.specs.Handed.{handed}
use Rattle.pane_state.specs.Finders.{finder_fields}

-- where a walk ended: the finder, its table and the cursor then, and the answer of the turn that was not made
pub record Arrived : Type 0 where
  pub finder : ItemFinder
  pub table : List ℕ
  pub cursor : ItemIter
  pub end : Answer Turn

abbrev pub arrived : ItemIter → State → Answer Turn → Arrived
arrived c σ e = record { finder = σ.finder; table = σ.table; cursor = c; end = e }

-- on from where a turn moved to; else the walk ended here
abbrev pub after_turn : (ItemIter → State → Arrived) → ItemIter → State → Answer Turn → Arrived
after_turn go c σ (answered over) = arrived c σ (answered over)
after_turn go c σ (answered (moved τ d)) = go d τ
after_turn go c σ (refused n x) = arrived c σ (refused n x)

-- turns as long as they move, at most n of them
unfoldable pub walk_up_to : ℕ → List ℕ → ItemIter → State → Arrived
walk_up_to zero s c σ = arrived c σ (turn_of s σ c)
walk_up_to (suc n) s c σ = after_turn (walk_up_to n s) c σ (turn_of s σ c)

-- all of them: a turn moves by two bytes or more and stays inside, so that there are never more turns than bytes
abbrev pub walk_of : List ℕ → ItemIter → State → Arrived
walk_of s c σ = walk_up_to (length s) s c σ

-- from a fresh finder and a fresh cursor: refused as the creation is, 16, the header's own, 26, then 13
unfoldable pub index_all_by : ℕ → Stream → List ℕ → List ℕ → Answer Arrived
index_all_by shift tag s t = then (create_by shift s t) (λ σ. then (iter_of tag s) (λ c. answered (walk_of s c σ)))

-- ---- what the function says, t' being the table after it
abbrev pub said_index : Result Tour Refusal → List ℕ → Answer Arrived
said_index (Ok r) t' = answered (arrived r.cursor (state r.finder t') (said_end r.end))
said_index (Err e) t' = no e

-- ---- what C gets

-- how a walk ended: 0 where no record was left, else the refusal's number; and its two details
abbrev pub end_fields : Answer Turn → List ℕ
end_fields (answered a) = 0 ∷ 0 ∷ 0 ∷ []
end_fields (refused n d) = n ∷ get_or d 0 0 ∷ get_or d 1 0 ∷ []

-- the finder, the cursor behind the last record, and how it ended
abbrev pub tour_fields : ItemFinder → ItemIter → Answer Turn → List ℕ
tour_fields f c e = finder_fields f ++ (c.at ∷ c.index ∷ end_fields e)

-- what goes behind `out` for a walk that the function made
abbrev pub tour_out : Tour → List ℕ
tour_out r = 0 ∷ 0 ∷ tour_fields r.finder r.cursor (said_end r.end)

abbrev pub walk_fields : Arrived → List ℕ
walk_fields a = tour_fields a.finder a.cursor a.end

-- the table t after it: a walk that is refused at its start changes nothing
abbrev pub walked_table : List ℕ → Answer Arrived → List ℕ
walked_table t (answered a) = a.table
walked_table t (refused n d) = t

abbrev pub out_walk : List ℕ → Answer Arrived → ℕ × List ℕ × List ℕ
out_walk t a = ((handed 9 walk_fields a).0, (handed 9 walk_fields a).1, walked_table t a)

-- ---- that the function says what stream_index's contract says

-- a turn that moved
abbrev pub moves : Answer Turn → Bool
moves (answered over) = false
moves (answered (moved τ d)) = true
moves (refused n x) = false

-- so many turns lead there, and from there the next turn is the answer that ended the walk, which is none that moves
pub record LedTo (s : List ℕ) (c : ItemIter) (σ : State) (a : Arrived) : Type 0 where
  pub turns : ℕ
  pub led : Turns s c σ turns a.cursor (state a.finder a.table)
  pub ended : turn_of s (state a.finder a.table) a.cursor ≡ a.end
  pub still : moves a.end ≡ false

pub record SameWalk : Type 0 where
  -- what the contract of a walk says is where `walk_of` ends, and where `walk_of` ends is what it says
  pub contract : (s : List ℕ) (c : ItemIter) (σ : State) (r : Tour) (t' : List ℕ) → Walks s c σ r t' → walk_of s c σ ≡ arrived r.cursor (state r.finder t') (said_end r.end)
  pub back : (s : List ℕ) (c : ItemIter) (σ : State) → LedTo s c σ (walk_of s c σ)
  -- the bound on turns is none: with more of them a walk ends at the same place
  pub enough : (s : List ℕ) (c : ItemIter) (σ : State) (n : ℕ) → length s ≤ n → walk_up_to n s c σ ≡ walk_of s c σ
  -- of an id stream C gets the same numbers and the same table
  pub of_ids : (shift : ℕ) (s t : List ℕ) → out_walk t (index_all_by shift Ids s t) ≡ out_walk t (index_all_by shift Types s t)
