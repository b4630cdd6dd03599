-- The iterator: where the crate gives an item, the end or an error, the port gives the same; where it wraps, the port gives 7. Assumes nothing.
use Rattle.std.specs.Prelude.{None}
use Prim.Native.Nat.{ℕ, ◌+◌, ◌≤◌, ◌<◌}
use mathlib.Core.Path.{◌≡◌, refl}
use mathlib.Core.List.{List}
use native.Mathlib.Omega.{arith}
use lib.ListN.{length}
use borrow.Author.Tests.{le-ltb, lt-ltb}
use Rattle.field.specs.Fields.{little_at}
use Rattle.field.specs.Indices.{index_in, index_number}
use Rattle.stream_item.specs.Iterator.{Next, yielded, item_at, next_of}
use Rattle.field.specs.declared.index.Stream.{Stream}
use Rattle.field.specs.declared.index.Stream.TheVariants.{Types, Ids}
use Rattle.stream_item.specs.declared.iter.ItemIter.{ItemIter}
use Rattle.stream_item.proofs.NextLaws.{next-done, next-length, next-short, next-payload, next-used, next-yields}
use Rattle.claim_model.specs.Rust.{gives, unexpected_eof, type_too_short, usize_top}
use Rattle.claim_model.specs.ParseBuffer.{at, parse}
use Rattle.claim_model.specs.TpiItems.{next}
use Rattle.claim_model.specs.Equal.{Equal, Same, Stepwise, alike, used_up, shown_by}
use Rattle.claim_model.specs.Shown.{iter_shown, next_shown, CanStand}
use Rattle.claim_model.proofs.BufferLaws.{some_left, none_left, parse-in, parse-out, take_in, take_out, same_gives, same-errs, equal-wraps, by_order}

-- an index's number
pub number_in : (tag : Stream) (n : ℕ) → index_number (index_in tag n) ≡ n
number_in Types n = refl
number_in Ids n = refl

module _ (s : List ℕ) (c : ItemIter) (ok : CanStand s c) where
  abbrev Goal : Type 0
  Goal = Stepwise (next_shown s c) (next (iter_shown s c)) (next_of s c)

  abbrev whole : Next
  whole = yielded (item_at c.stream c.index (c.at + 2) (little_at 2 s c.at)) (record { stream = c.stream; at = c.at + 2 + little_at 2 s c.at; index = c.index + 1 })

  abbrev Fine : Type 0
  Fine = Same (next (iter_shown s c)) (shown_by (next_shown s c) (next_of s c))

  long : length s < usize_top
  long = omega (arith, ok.short)

  over : c.at ≡ length s → Fine
  unfolding next
  over h =
      same_gives (next (iter_shown s c)) (None, iter_shown s c) _
      (simp (none_left s c.at h))
      (simp (next-done s c ok.short ok.inside (omega arith)))

  no_length : c.at < length s → length s < c.at + 2 → Fine
  unfolding next
  no_length z h =
      same-errs (next (iter_shown s c)) unexpected_eof _
      (simp (some_left s c.at z, parse-out s c.at 2 h))
      (simp (next-length s c ok.short z h))

  module _ (h : c.at + 2 ≤ length s) where
    z : c.at < length s
    z = omega arith

    two : parse 2 (at s c.at) ≡ gives (little_at 2 s c.at, at s (c.at + 2))
    two = parse-in s c.at 2 h

    short : little_at 2 s c.at < 2 → Fine
    unfolding next
    short a =
        same-errs (next (iter_shown s c)) type_too_short _
        (simp (some_left s c.at z, two, lt-ltb _ _ a))
        (simp (next-short s c ok.short h a))

    module _ (a : 2 ≤ little_at 2 s c.at) where
      no_payload : length s < c.at + 2 + little_at 2 s c.at → Fine
      unfolding next
      no_payload b =
          same-errs (next (iter_shown s c)) unexpected_eof _
          (simp (some_left s c.at z, two, le-ltb _ _ a, take_out s (c.at + 2) (little_at 2 s c.at) h b))
          (simp (next-payload s c ok.short h a b))

      module _ (b : c.at + 2 + little_at 2 s c.at ≤ length s) where
        wrap : 4294967295 ≤ c.index → Goal
        unfolding next
        wrap u =
            used_up (simp (some_left s c.at z, two, le-ltb _ _ a, take_in s (c.at + 2) (little_at 2 s c.at) long b, le-ltb (c.index + 1) 4294967296 (omega arith)))
            (next-used s c ok.short a b u)

        yields : c.index < 4294967295 → Fine
        unfolding next
        yields u =
            same_gives (next (iter_shown s c)) (next_shown s c whole) _
            (simp (some_left s c.at z, two, le-ltb _ _ a, take_in s (c.at + 2) (little_at 2 s c.at) long b, lt-ltb (c.index + 1) 4294967296 (omega arith), number_in))
            (simp (next-yields s c ok.short a b u))

  -- all but the last case
  cases : {X : Type 0} → (Fine → X) → (c.at + 2 ≤ length s → 2 ≤ little_at 2 s c.at → c.at + 2 + little_at 2 s c.at ≤ length s → X) → X
  cases f g =
      by_order (length s) c.at (λ h. f (over (omega (arith, ok.inside)))) λ z.
      by_order (c.at + 2) (length s) (λ h.
      by_order 2 (little_at 2 s c.at) (λ a.
      by_order (c.at + 2 + little_at 2 s c.at) (length s) (g h a)
      (λ b. f (no_payload h a b))) (λ a. f (short h a))) (λ h. f (no_length z h))

  pub next-alike : Goal
  next-alike = cases alike λ h a b. by_order 4294967295 c.index (wrap h a b) (λ u. alike (yields h a b u))

  -- the crate neither panics nor wraps below the last index
  pub next-same : c.index < 4294967295 → Fine
  next-same u = cases (λ e. e) λ h a b. yields h a b u

  pub next-equal : Equal (next (iter_shown s c)) (shown_by (next_shown s c) (next_of s c))
  next-equal = go next-alike
    where
      go : Goal → Equal (next (iter_shown s c)) (shown_by (next_shown s c) (next_of s c))
      go (alike e) = e.equal
      go (used_up w e) = equal-wraps _ _ w
