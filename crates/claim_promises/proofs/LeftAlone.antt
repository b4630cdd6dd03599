-- Lent memory after a refusal is what it was: from each contract over lent memory. Assumes nothing.
use Rattle.std.specs.Prelude.{Result, Option}
use Rattle.record_list.specs.declared.Element.{Element}
use Rattle.stream_finder.specs.declared.ItemFinder.{ItemFinder}
use Rattle.stream_item.specs.declared.iter.ItemIter.{ItemIter}
use Rattle.answer.specs.declared.Refusal.{Refusal}
use Prim.Native.Nat.{ℕ}
use mathlib.Core.Path.{◌≡◌, refl, sym, ◌∙◌}
use mathlib.Core.List.{List}
use native.Mathlib.Omega.{arith}
use Rattle.answer.specs.Answer.{Answer, answered, refused}
use Rattle.stream_finder.specs.Finder.{State, finder_of, table_after, Fills, after}
use Rattle.stream_finder.specs.Lent.{outcome, Changes}
use Rattle.stream_index.specs.Walk.{Turn, over, moved, said_turn, turn_table, Leads}
use Rattle.stream_places.specs.Places.{file_size, file_buffer_after, Saves}
use Rattle.record_list.specs.Lists.{Step}
use Rattle.record_list.specs.declared.ListCursor.{ListCursor}
use Rattle.record_reader.specs.Reader.{element_in, cursor_after, Steps}
use Rattle.answer.specs.Refusals.{itself, said}
use Rattle.record_list.specs.Said.{element_values}

-- the table, after a function that is lent it and answers with a finder
table_of : (t : List ℕ) (a : Answer State) (n : ℕ) (d : List ℕ) → finder_of a ≡ refused n d → table_after t a ≡ t
table_of t (answered τ) n d e = let z : ◌≡◌ {A = ℕ} 0 1 = cc in absurd (omega arith)
table_of t (refused m x) n d e = refl

pub leaves-alone : (t : List ℕ) (a : Answer State) (r : Result ItemFinder Refusal) (t' : List ℕ) (n : ℕ) (d : List ℕ) → Fills t a r t' → said itself r ≡ refused n d → t' ≡ t
leaves-alone t a r t' n d l e = l.table ∙ table_of t a n d (sym l.answer ∙ e)

-- finder and table, after an update in place
state-of : (σ : State) (a : Answer State) (n : ℕ) (d : List ℕ) → outcome a ≡ refused n d → after σ a ≡ σ
state-of σ (answered τ) n d e = let z : ◌≡◌ {A = ℕ} 0 1 = cc in absurd (omega arith)
state-of σ (refused m x) n d e = refl

pub changes-nothing : (σ : State) (a : Answer State) (r : Result Unit Refusal) (τ : State) (n : ℕ) (d : List ℕ) → Changes σ a r τ → said itself r ≡ refused n d → τ ≡ σ
changes-nothing σ a r τ n d c e = c.left ∙ state-of σ a n d (sym c.answer ∙ e)

-- the table, after a turn
turn-of : (t : List ℕ) (a : Answer Turn) (n : ℕ) (d : List ℕ) → a ≡ refused n d → turn_table t a ≡ t
turn-of t (answered over) n d e = refl
turn-of t (answered (moved τ c)) n d e = let z : ◌≡◌ {A = ℕ} 0 1 = cc in absurd (omega arith)
turn-of t (refused m x) n d e = refl

pub leads-nowhere : (t : List ℕ) (a : Answer Turn) (r : Result (Option (ItemFinder × ItemIter)) Refusal) (t' : List ℕ) (n : ℕ) (d : List ℕ) → Leads t a r t' → said_turn r t' ≡ refused n d → t' ≡ t
leads-nowhere t a r t' n d l e = l.table ∙ turn-of t a n d (sym l.answer ∙ e)

-- the buffer, after a places file that was not written
buffer-of : (o : List ℕ) (a : Answer (List ℕ)) (n : ℕ) (d : List ℕ) → file_size a ≡ refused n d → file_buffer_after o a ≡ o
buffer-of o (answered bs) n d e = let z : ◌≡◌ {A = ℕ} 0 1 = cc in absurd (omega arith)
buffer-of o (refused m x) n d e = refl

pub saves-nothing : (o : List ℕ) (a : Answer (List ℕ)) (r : Result ℕ Refusal) (o' : List ℕ) (n : ℕ) (d : List ℕ) → Saves o a r o' → said itself r ≡ refused n d → o' ≡ o
saves-nothing o a r o' n d l e = l.buffer ∙ buffer-of o a n d (sym l.answer ∙ e)

-- the cursor, after a step of a lent list reader
cursor-of : (c : ListCursor) (a : Answer Step) (n : ℕ) (d : List ℕ) → element_in a ≡ refused n d → cursor_after c a ≡ c
cursor-of c (answered x) n d e = let z : ◌≡◌ {A = ℕ} 0 1 = cc in absurd (omega arith)
cursor-of c (refused m x) n d e = refl

pub steps-nowhere : (c : ListCursor) (a : Answer Step) (r : Result Element Refusal) (c' : ListCursor) (n : ℕ) (d : List ℕ) → Steps c a r c' → said element_values r ≡ refused n d → c' ≡ c
steps-nowhere c a r c' n d s e = s.cursor ∙ cursor-of c a n d (sym s.answer ∙ e)
