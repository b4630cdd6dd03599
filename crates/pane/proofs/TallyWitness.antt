-- The premises of the tally are met: the stream of 18 records, a link of one byte and one record more, at the shift 3. Its first 20 indices are all
-- found, and 2 · 28 + 6 links are passed. And those of a finder that two cursors share, R-11's own run: a place for each record, and none is passed.
-- Assumes nothing.
use Prim.Native.Nat.{ℕ, zero, suc, ◌+◌, ◌<◌}
use mathlib.Core.Bool.{Bool, true, false}
use mathlib.Core.List.{[], ◌∷◌}
use mathlib.Core.Path.{◌≡◌, refl, ap, ◌∙◌}
use native.Mathlib.Omega.{arith}
use lib.Dec.{eqb}
use borrow.Author.Tests.{eqb-true, eqb-false}
use Rattle.answer.specs.Answer.{both}
use Rattle.field.specs.Fields.{little_at}
use Rattle.stream_header.specs.Header.{header_of, fields_of}
use Rattle.field.specs.Indices.{index_in}
use Rattle.stream_item.specs.Links.{link_at, chain, link_of}
use Rattle.field.specs.declared.index.Stream.TheVariants.{Types}
use Rattle.stream_finder.specs.Finder.{State, state, begun_by, create_by, look_of, find_of}
use Rattle.stream_finder.proofs.Examples.{finder_by}
use Rattle.stream_finder.proofs.Witnesses.{stream_l, three_l, premises_l, stream_x, used_x}
use Rattle.pane.specs.Tally.{is_found, AllFound, passed_up}
use Rattle.pane.proofs.TallyProof.{tally-holds}

-- a test that passes below c, as one computation
abbrev all_up : (ℕ → Bool) → ℕ → Bool
all_up P zero = true
all_up P (suc c) = both (P c) (all_up P c)

both_true : (x y : Bool) → both x y ≡ true → (x ≡ true) × (y ≡ true)
both_true true y e = (refl, e)
both_true false y e = let z : ◌≡◌ {A = ℕ} 0 1 = cc in absurd (omega arith)

all-below : (P : ℕ → Bool) (c : ℕ) → all_up P c ≡ true → (d : ℕ) → d < c → P d ≡ true
all-below P zero e d l = absurd (omega arith)
all-below P (suc c) e d l = go (eqb d c) refl (both_true (P c) (all_up P c) e) (all-below P c)
  where
    go : (x : Bool) → eqb d c ≡ x → (P c ≡ true) × (all_up P c ≡ true) → (all_up P c ≡ true → (k : ℕ) → k < c → P k ≡ true) → P d ≡ true
    go true q h r = ap P (eqb-true d c q) ∙ h.0
    go false q h r = r h.1 d (omega (arith, eqb-false d c q))

found_l : AllFound Types stream_l three_l 4096 20
unfolding look_of link_of chain link_at little_at
found_l = all-below (λ d. is_found (find_of stream_l three_l (index_in Types (4096 + d)))) 20 refl

pub tally_l : passed_up Types stream_l three_l 4096 20 ≡ 62
unfolding little_at
tally_l = tally-holds.walked 3 Types stream_l (fields_of stream_l) (0 ∷ 0 ∷ 0 ∷ []) 18 three_l 20 (premises_l 0 (omega arith)) found_l

abbrev two_x : State
two_x = state (finder_by 0 4098 2) (56 ∷ 66 ∷ [])

found_x : AllFound Types stream_x two_x 4096 2
unfolding look_of link_of chain link_at little_at
found_x = all-below (λ d. is_found (find_of stream_x two_x (index_in Types (4096 + d)))) 2 refl

pub tally_x : passed_up Types stream_x two_x 4096 2 ≡ 0
unfolding header_of little_at create_by begun_by
tally_x = tally-holds.shared 0 Types stream_x (fields_of stream_x) (0 ∷ 0 ∷ []) (state (finder_by 0 4098 1) (56 ∷ 0 ∷ [])) two_x 2 refl refl used_x found_x
