-- Any use of one stream, in the crate and in the port: a finder, and as many iterators as one likes, that step and update the finder in any
-- order; then one lookup. A lookup changes nothing, so that every lookup in the middle of a use is the last one of a shorter use. An iterator
-- stops at its first refusal, and it alone: the finder and the other iterators go on.
use Rattle.std.specs.Prelude.{Option, None, Some, ℕ, List, [], ◌∷◌, get_or, set}
use Rattle.answer.specs.Answer.{Answer, answered, refused, then}
use Rattle.field.specs.Indices.{index_in}
use Rattle.stream_item.specs.Iterator.{iter_of, Next, done, yielded, next_of}
use Rattle.field.specs.declared.index.Stream.{Stream}
use Rattle.stream_item.specs.declared.iter.ItemIter.{ItemIter}
use Rattle.stream_finder.specs.Finder.{State, create_of, update_of, Found, find_of}
use Rattle.claim_model.specs.Rust.{Rust, gives, errs, panics, wraps, ◌>>=◌}
use Rattle.claim_model.specs.ParseBuffer.{if_some}
use Rattle.claim_model.specs.TpiHeader.{ItemInformation, parse_information}
use Rattle.claim_model.specs.TpiItems.{Item, ItemIter as CrateIter, ItemFinder as CrateFinder, iter, finder, next, update, finder_find}
use Rattle.claim_model.specs.Equal.{Equal}
use Rattle.claim_model.specs.Shown.{unlinked, Roomy}
use Rattle.claim_model.specs.Turns.{Lent}

-- a fresh iterator; iterator k steps; the finder is updated with iterator k. The newest iterator is number 0. One that is not there, or has
-- stopped, does nothing: a further step would move it alone, and so the uses are those in which no update comes from an iterator that had refused
pub data Action : Type 0 where
  begins : Action
  steps : ℕ → Action
  updates : ℕ → Action

-- the crate's iterator behind a step: none where it has stopped, since it is compared no further
abbrev pub crate_behind : Rust (Option Item × CrateIter) → Rust (Option CrateIter)
crate_behind (gives (_, it)) = gives (Some it)
crate_behind (errs e) = gives None
crate_behind panics = panics
crate_behind wraps = wraps

unfoldable pub crate_uses : ItemInformation → ℕ → List Action → List (Option CrateIter) → CrateFinder → Rust Item
crate_uses info i [] its f = finder_find f i
crate_uses info i (begins ∷ acts) its f = do
  it ← iter info
  crate_uses info i acts (Some it ∷ its) f
crate_uses info i (steps k ∷ acts) its f =
    if_some (get_or its k None) (λ it. do
      behind ← crate_behind (next it)
      crate_uses info i acts (set its k behind) f) (crate_uses info i acts its f)
crate_uses info i (updates k ∷ acts) its f =
    if_some (get_or its k None) (λ it. do
      f ← update f it
      crate_uses info i acts its f) (crate_uses info i acts its f)

unfoldable pub crate_course : List ℕ → List Action → ℕ → Rust Item
crate_course s acts i = do
  info ← parse_information s
  f ← finder info
  crate_uses info i acts [] f

-- the port's cursor behind a step from c, in the same way
abbrev pub port_behind : ItemIter → Answer Next → Option ItemIter
port_behind c (answered done) = Some c
port_behind c (answered (yielded i d)) = Some d
port_behind c (refused n d) = None

unfoldable pub port_uses : Stream → List ℕ → ℕ → List Action → List (Option ItemIter) → State → Answer Found
port_uses tag s i [] cs σ = find_of s σ (index_in tag i)
port_uses tag s i (begins ∷ acts) cs σ = then (iter_of tag s) λ c. port_uses tag s i acts (Some c ∷ cs) σ
port_uses tag s i (steps k ∷ acts) cs σ =
    if_some (get_or cs k None) (λ c. port_uses tag s i acts (set cs k (port_behind c (next_of s c))) σ) (port_uses tag s i acts cs σ)
port_uses tag s i (updates k ∷ acts) cs σ =
    if_some (get_or cs k None) (λ c. then (update_of σ c) λ τ. port_uses tag s i acts cs τ) (port_uses tag s i acts cs σ)

unfoldable pub port_course : Stream → List ℕ → List ℕ → List Action → ℕ → Answer Found
port_course tag s t acts i = then (create_of s t) λ σ. port_uses tag s i acts [] σ

-- Demand 2 for any use. The domain: the Rust neither panics nor wraps (`Equal`), and the lent table never lacks room (`Roomy`); that each
-- iterator goes up to its first refusal, and updates up to it, is in the uses themselves.
unfoldable pub CoursesEqual : Type 0
CoursesEqual =
    (tag : Stream) (s t : List ℕ) (acts : List Action) (i : ℕ) → Lent s → Roomy (port_course tag s t acts i)
    → Equal (crate_course s acts i) (unlinked s (port_course tag s t acts i))
