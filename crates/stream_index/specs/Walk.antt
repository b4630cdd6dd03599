-- Walking a stream while filling a finder: a turn is `next` and then `update`, and a walk is as many turns as there are.
use Rattle.std.specs.Prelude.{Result, Ok, Err, Option, Some, None, ℕ, suc, ◌≡◌, List}
use Rattle.stream_finder.specs.declared.ItemFinder.{ItemFinder}
use Rattle.answer.specs.declared.Refusal.{Refusal}
use Rattle.answer.specs.Answer.{Answer, answered, refused, then}
use Rattle.answer.specs.Refusals.{no, said}
use Rattle.stream_item.specs.Iterator.{iter_of, Next, done, yielded, next_of}
use Rattle.field.specs.declared.index.Stream.{Stream}
use Rattle.stream_item.specs.declared.iter.ItemIter.{ItemIter}
use Rattle.stream_finder.specs.Finder.{State, state, create_by, update_of}
use Rattle.stream_index.specs.declared.Tour.{Tour}

-- what a turn gives where it is not refused: there is no record left; or the finder updated, and the cursor behind the record
pub data Turn : Type 0 where
  over : Turn
  moved : State → ItemIter → Turn

abbrev pub updating : State → Next → Answer Turn
updating σ done = answered over
updating σ (yielded i d) = then (update_of σ d) (λ τ. answered (moved τ d))

-- the iterator's step, then the update with the cursor behind it, by the finder's own shift: the first refusal is given
unfoldable pub turn_of : List ℕ → State → ItemIter → Answer Turn
turn_of s σ c = then (next_of s c) (updating σ)

-- what a turn's answer says, t' being the table after it
abbrev pub turn_in : List ℕ → Option (ItemFinder × ItemIter) → Turn
turn_in t' None = over
turn_in t' (Some (g, d)) = moved (state g t') d

abbrev pub said_turn : Result (Option (ItemFinder × ItemIter)) Refusal → List ℕ → Answer Turn
said_turn r t' = said (turn_in t') r

-- the table after a turn: a refusal changes nothing
abbrev pub turn_table : List ℕ → Answer Turn → List ℕ
turn_table t (answered over) = t
turn_table t (answered (moved τ d)) = τ.table
turn_table t (refused n d) = t

-- the contract of a turn that is lent the table t: a is the definition's answer, r the function's, t' the table after it
pub record Leads (t : List ℕ) (a : Answer Turn) (r : Result (Option (ItemFinder × ItemIter)) Refusal) (t' : List ℕ) : Type 0 where
  pub answer : said_turn r t' ≡ a
  pub table : t' ≡ turn_table t a

-- so many turns lead from cursor c and state σ to another
pub data Turns (s : List ℕ) (c : ItemIter) (σ : State) : ℕ → ItemIter → State → Type 0 where
  none : Turns s c σ 0 c σ
  more : {n : ℕ} {d : ItemIter} {τ : State} {d' : ItemIter} {τ' : State}
      → Turns s c σ n d τ → turn_of s τ d ≡ answered (moved τ' d') → Turns s c σ (suc n) d' τ'

-- why a walk ended, as the answer of the turn that it did not make
abbrev pub said_end : Result Unit Refusal → Answer Turn
said_end = said (λ x. over)

-- the contract of a walk: so many turns lead to where it ended, and there the next turn is over or refused
pub record Walks (s : List ℕ) (c : ItemIter) (σ : State) (r : Tour) (t' : List ℕ) : Type 0 where
  pub turns : ℕ
  pub led : Turns s c σ turns r.cursor (state r.finder t')
  pub ended : said_end r.end ≡ turn_of s (state r.finder t') r.cursor

-- a walk from a fresh finder of this shift and a fresh iterator
pub record WholeBy (shift : ℕ) (tag : Stream) (s t : List ℕ) (r : Tour) (t' : List ℕ) : Type 0 where
  pub fresh : State
  pub created : create_by shift s t ≡ answered fresh
  pub first : ItemIter
  pub begun : iter_of tag s ≡ answered first
  pub walks : Walks s first fresh r t'

-- refused as the creation is: 16, the header's own, 26, then 13; else a whole walk
abbrev pub IndexesBy : ℕ → Stream → List ℕ → List ℕ → Result Tour Refusal → List ℕ → Type 0
IndexesBy shift tag s t (Ok r) t' = WholeBy shift tag s t r t'
IndexesBy shift tag s t (Err e) t' = (create_by shift s t ≡ no e) × (t' ≡ t)

-- without a shift it is 3
abbrev pub Indexes : Stream → List ℕ → List ℕ → Result Tour Refusal → List ℕ → Type 0
Indexes = IndexesBy 3
