-- An update: what it leaves is the same list of places, for any shift from 0 to 6 that both have. Assumes nothing.
use Prim.Native.Nat.{ℕ, ◌-◌, ◌/◌, ◌%◌, ◌^◌, ◌≤◌, ◌<◌}
use mathlib.Core.Path.{◌≡◌, refl}
use mathlib.Core.List.{List, []}
use mathlib.Core.Bool.{Bool, true, false}
use native.Mathlib.Nat.{mod-eq_of_lt}
use native.Mathlib.Numerals.{add-one}
use native.Mathlib.Omega.{arith}
use lib.ListN.{length, take as front}
use lib.Seq.{length-take-le, take-suc-set}
use lib.Bits.{and_mask}
use borrow.Author.Tests.{le-leb, lt-leb, lt-ltb}
use Rattle.answer.specs.Answer.{both}
use Rattle.stream_header.specs.Header.{longest}
use Rattle.stream_item.specs.declared.iter.ItemIter.{ItemIter}
use Rattle.stream_finder.specs.Finder.{State, due, stored, update_of}
use Rattle.stream_finder.proofs.FinderLaws.{Open, update-keeps, update-full, update-stores}
use Rattle.claim_model.specs.Rust.{gives, wraps, and, as_u32}
use Rattle.claim_model.specs.TpiItems.{ItemFinder, resolve, update}
use Rattle.claim_model.specs.Equal.{Equal, Same, shown_by}
use Rattle.claim_model.specs.Shown.{iter_shown, finder_shown, Roomy}
use Rattle.claim_model.proofs.BufferLaws.{equal-wraps, same_gives, by_order}

-- ---- resolve
module _ (f : ItemFinder) (i : ℕ) where
  pub resolve-in : f.minimum_index ≤ i → resolve f i ≡ gives ((i - f.minimum_index) / 2 ^ f.shift, (i - f.minimum_index) % 2 ^ f.shift)
  unfolding resolve
  resolve-in h = simp (le-leb _ _ h, and_mask)

  pub resolve-below : i < f.minimum_index → resolve f i ≡ wraps
  unfolding resolve
  resolve-below h = simp (lt-leb _ _ h)

same-both : (x y : Bool) → and x y ≡ both x y
same-both true y = refl
same-both false y = refl

-- ---- update
module _ (s : List ℕ) (σ : State) (c : ItemIter) (at-fits : c.at ≤ longest) (small : σ.finder.shift ≤ 6) (claim : σ.finder.held ≤ length σ.table) where
  places : length (front σ.finder.held σ.table) ≡ σ.finder.held
  places = length-take-le σ.finder.held σ.table claim

  foreign : c.index < σ.finder.minimum_index → update (finder_shown s σ) (iter_shown s c) ≡ wraps
  unfolding update
  foreign h = simp (resolve-below (finder_shown s σ) c.index h)

  module _ (h : σ.finder.minimum_index ≤ c.index) where
    opened : Open σ c
    opened = record { at = at-fits; shift = small; held = claim; index = h }

    keeps : due σ.finder c.index ≡ false → update (finder_shown s σ) (iter_shown s c) ≡ gives (finder_shown s σ)
    unfolding update
    keeps e = simp (resolve-in (finder_shown s σ) c.index h, places, same-both, e)

    stores : due σ.finder c.index ≡ true → σ.finder.held < length σ.table → update (finder_shown s σ) (iter_shown s c) ≡ gives (finder_shown s (stored σ c.at))
    unfolding update
    stores e room =
        let a : c.at < 4294967295 = omega arith in
        let b : as_u32 c.at ≡ c.at = mod-eq_of_lt (omega arith) in
        simp (resolve-in (finder_shown s σ) c.index h, places, same-both, e, lt-ltb _ _ a, b, add-one, take-suc-set σ.table σ.finder.held c.at room)

    pub update_same : Roomy (update_of σ c) → Same (update (finder_shown s σ) (iter_shown s c)) (shown_by (finder_shown s) (update_of σ c))
    update_same roomy = go (due σ.finder c.index) refl
      where
        go : (b : Bool) → due σ.finder c.index ≡ b → Same (update (finder_shown s σ) (iter_shown s c)) (shown_by (finder_shown s) (update_of σ c))
        go false e = same_gives _ (finder_shown s σ) _ (keeps e) (simp (update-keeps σ c opened e))
        go true e =
            by_order (length σ.table) σ.finder.held (λ full. absurd (roomy [] (update-full σ c opened e full)))
            λ room. same_gives _ (finder_shown s (stored σ c.at)) _ (stores e room) (simp (update-stores σ c opened e room))

  pub update-equal : Roomy (update_of σ c) → Equal (update (finder_shown s σ) (iter_shown s c)) (shown_by (finder_shown s) (update_of σ c))
  update-equal roomy =
      by_order σ.finder.minimum_index c.index (λ h. (update_same h roomy).equal)
      λ h. equal-wraps _ _ (foreign h)
