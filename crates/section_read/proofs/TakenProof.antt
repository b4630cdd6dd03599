-- Each leaf goes to the reader that takes it. That no leaf of the type reader stands in the id reader's table is one computed test over the whole of the
-- first. Assumes nothing.
use Rattle.std.specs.Prelude.{Option, None, Some}
use Prim.Native.Nat.{ℕ}
use mathlib.Core.Bool.{Bool, true, false}
use mathlib.Core.Path.{◌≡◌, refl, ap, ◌∙◌}
use mathlib.Core.List.{[], ◌∷◌}
use native.Mathlib.Omega.{arith}
use lib.Dec.{eqb}
use borrow.Author.Tests.{eqb-true}
use Rattle.answer.specs.Answer.{pick, both}
use Rattle.answer.specs.Tables.{◌is◌, find}
use Rattle.record_layout.specs.Layouts.{Layout, Table, type_leaves, id_leaves}
use Rattle.section_read.specs.Readers.{reader_of, taken_by, EachTaken}

abbrev is_none : Option Layout → Bool
is_none None = true
is_none (Some fs) = false

-- none of the first table's leaves stands in the second
unfoldable apart : Table → Bool
apart [] = true
apart ((m is fs) ∷ ls) = both (is_none (find m id_leaves)) (apart ls)

never : {X : Type 0} → false ≡ true → X
never e = let z : ◌≡◌ {A = ℕ} 0 1 = cc in absurd (omega arith)

first_of : (a b : Bool) → both a b ≡ true → a ≡ true
first_of true b e = refl
first_of false b e = e

second-of : (a b : Bool) → both a b ≡ true → b ≡ true
second-of true b e = e
second-of false b e = never e

is-none : (o : Option Layout) → is_none o ≡ true → o ≡ None
is-none None e = refl
is-none (Some fs) e = never e

nothing : {X : Type 0} (fs : Layout) → ◌≡◌ {A = Option Layout} None (Some fs) → X
nothing fs e = let z : ◌≡◌ {A = ℕ} 0 1 = cc in absurd (omega arith)

found-apart : (leaf : ℕ) (fs : Layout) (ls : Table) → apart ls ≡ true → find leaf ls ≡ Some fs → find leaf id_leaves ≡ None
unfolding apart find
found-apart leaf fs [] a e = nothing fs e
found-apart leaf fs ((m is gs) ∷ ls) a e = go (eqb leaf m) refl (λ h. found-apart leaf fs ls (second-of (is_none (find m id_leaves)) (apart ls) a) h) e
  where
    go : (b : Bool) → eqb leaf m ≡ b → (find leaf ls ≡ Some fs → find leaf id_leaves ≡ None) → pick b (Some gs) (find leaf ls) ≡ Some fs → find leaf id_leaves ≡ None
    go true q later h = ap (λ (k : ℕ). find k id_leaves) (eqb-true _ _ q) ∙ is-none (find m id_leaves) (first_of (is_none (find m id_leaves)) (apart ls) a)
    go false q later h = later h

all_apart : apart type_leaves ≡ true
unfolding apart find type_leaves id_leaves
all_apart = refl

pub each-taken : EachTaken
unfolding reader_of
each-taken = record {
  types = λ leaf fs e. ap taken_by (found-apart leaf fs type_leaves all_apart e);
  ids = λ leaf fs e. ap taken_by e;
}
