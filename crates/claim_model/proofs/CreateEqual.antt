-- A fresh iterator, a fresh finder, and the count of records, from an accepted header. Assumes nothing.
use Prim.Native.Nat.{ℕ, ◌+◌, ◌-◌, ◌/◌, ◌%◌, ◌≤◌, ◌<◌}
use mathlib.Core.Path.{◌≡◌, refl, ap, ◌∙◌}
use mathlib.Core.List.{List, []}
use native.Mathlib.Nat.{zero-add}
use native.Mathlib.Omega.{arith}
use lib.ListN.{length, set}
use lib.Seq.{take-suc-set}
use lib.Bits.{bit_and, and_high}
use lib.Pow.{shl-shr, shr_mod, shr_mono}
use borrow.Author.Tests.{le-leb, lt-leb, le-ltb, lt-ltb}
use Rattle.answer.specs.Answer.{answered}
use Rattle.stream_header.specs.Header.{longest}
use Rattle.stream_header.specs.declared.Header.{Header}
use Rattle.field.specs.declared.index.Stream.{Stream}
use Rattle.stream_item.specs.declared.iter.ItemIter.{ItemIter}
use Rattle.stream_finder.specs.Finder.{state, holding, begun_by}
use Rattle.stream_finder.proofs.FinderLaws.{begun-none, begun-full, begun-some}
use Rattle.claim_model.specs.TpiItems.{iter, new, finder}
use Rattle.claim_model.specs.Equal.{Equal, Same, shown_by}
use Rattle.claim_model.specs.Shown.{information, iter_shown, finder_shown, Roomy}
use Rattle.claim_model.proofs.BufferLaws.{take_in, take_out, equal-wraps, equal-panics, same_gives, by_order}

-- the cursor behind the header
abbrev pub first : Stream → Header → ItemIter
first tag h = record { stream = tag; at = h.header_size; index = h.minimum_index }

module _ (tag : Stream) (s : List ℕ) (h : Header) (l : length s ≤ longest) where
  pub iter-same : h.header_size ≤ length s → Same (iter (information s h)) (answered (iter_shown s (first tag h)))
  unfolding iter
  iter-same g =
      same_gives (iter (information s h)) (iter_shown s (first tag h)) _
      (simp (take_in s 0 h.header_size (omega arith) (omega arith), zero-add))
      refl

  pub iter-equal : Equal (iter (information s h)) (answered (iter_shown s (first tag h)))
  unfolding iter
  iter-equal =
      by_order h.header_size (length s) (λ g. (iter-same g).equal)
      λ g. equal-panics (iter (information s h)) _ (simp (take_out s 0 h.header_size (omega arith) (omega arith)))

-- rounding a count up to blocks of eight
rounded : (n : ℕ) → n < 4294967296 → bit_and n 4294967288 / 8 ≡ n / 8
rounded n b =
    ap (λ (x : ℕ). x / 8) (and_high n 29 3)
    ∙ shl-shr (n / 8 % 536870912) 3
    ∙ shr_mod 29 3 b

module _ (s t : List ℕ) (h : Header) where
  abbrev Made : Type 0
  Made = Same (finder (information s h)) (shown_by (finder_shown s) (begun_by 3 t h))

  module _ (a : h.minimum_index ≤ h.maximum_index) (b : h.maximum_index - h.minimum_index + 7 < 4294967296) where
    empty-finder : h.maximum_index ≤ h.minimum_index → Made
    unfolding new
    empty-finder c =
        let z : h.maximum_index - h.minimum_index ≡ 0 = omega arith in
        same_gives (new (information s h) 3) (finder_shown s (state (holding h 3 0) t)) _
        (simp (le-leb _ _ a, z))
        (simp (begun-none 3 t h (omega arith) c))

    some-finder : h.minimum_index < h.maximum_index → Roomy (begun_by 3 t h) → Made
    unfolding new
    some-finder c roomy =
        by_order (length t) 0 (λ full. absurd (roomy [] (begun-full 3 t h (omega arith) c full))) λ room.
        let z : 1 ≤ (h.maximum_index - h.minimum_index + 7) / 8 = shr_mono {a = 8} {b = h.maximum_index - h.minimum_index + 7} 3 (omega arith) in
        same_gives (new (information s h) 3) (finder_shown s (state (holding h 3 1) (set t 0 h.header_size))) _
        (simp (le-leb _ _ a, lt-ltb _ _ b, rounded _ b, lt-ltb _ _ z, take-suc-set t 0 h.header_size room))
        (simp (begun-some 3 t h (omega arith) c room))

    pub create-same : Roomy (begun_by 3 t h) → Made
    create-same roomy = by_order h.maximum_index h.minimum_index empty-finder λ c. some-finder c roomy

  pub create-equal : Roomy (begun_by 3 t h) → Equal (finder (information s h)) (shown_by (finder_shown s) (begun_by 3 t h))
  unfolding new
  create-equal roomy =
      by_order h.minimum_index h.maximum_index
      (λ a. by_order 4294967296 (h.maximum_index - h.minimum_index + 7)
      (λ w. equal-wraps (finder (information s h)) _ (simp (le-leb _ _ a, le-ltb _ _ w)))
      λ b. (create-same a b roomy).equal)
      λ a. equal-wraps (finder (information s h)) _ (simp (lt-leb _ _ a))
