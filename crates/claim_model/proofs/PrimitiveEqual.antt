-- Primitives: for every index below 0x1000 the crate neither panics nor wraps, and its answer is the port's; from 0x1000 up the crate panics.
-- That the two lists say the same of each byte is computed, once for all bytes. Assumes nothing.
use Rattle.std.specs.Prelude.{Option, None, Some}
use Prim.Native.Nat.{ℕ, ◌*◌, ◌/◌, ◌%◌, ◌<◌}
use mathlib.Core.Path.{◌≡◌, refl}
use native.Mathlib.Nat.{mod-lt}
use native.Mathlib.Omega.{arith}
use lib.Bits.{bit_and, and_mask, and_high}
use borrow.Author.Tests.{lt-ltb, le-ltb, lt-leb}
use Rattle.answer.specs.Answer.{answered}
use Rattle.answer.specs.Tables.{find}
use Rattle.word_primitive.specs.Kinds.{kinds, indirections}
use Rattle.word_primitive.specs.Primitive.{known, primitive_of}
use Rattle.word_primitive.specs.declared.PrimitiveKind.{PrimitiveKind}
use Rattle.word_primitive.specs.declared.Indirection.{Indirection}
use Rattle.claim_model.specs.Rust.{Rust, gives, errs, ◌>>=◌, match, type_not_found}
use Rattle.claim_model.specs.TpiPrimitive.{indirection_arms, primitive_kind_arms, type_data_for_primitive}
use Rattle.claim_model.specs.Equal.{Equal, Same, shown_by}
use Rattle.claim_model.specs.Shown.{pointed, primitive_shown}
use Rattle.claim_model.proofs.BufferLaws.{equal-panics, by_order}
use Rattle.claim_model.proofs.Agree.{agree}

-- what the port's lists have, in the crate's words
abbrev found : {A B : Type 0} → (A → B) → Rust B → Option A → Rust B
found f other None = other
found f other (Some a) = gives (f a)

module _ (other : Rust PrimitiveKind) where
  kinds-agree : (b : ℕ) → b < 256 → match b primitive_kind_arms other ≡ found (λ k. k) other (find b kinds)
  unfolding match find kinds primitive_kind_arms
  kinds-agree = agree (λ b. match b primitive_kind_arms other) (λ b. found (λ k. k) other (find b kinds)) 256 refl

module _ (other : Rust (Option Indirection)) where
  points-agree : (m : ℕ) → m < 16 → match (m * 256) indirection_arms other ≡ found pointed other (find m indirections)
  unfolding match find indirections indirection_arms
  points-agree = agree (λ m. match (m * 256) indirection_arms other) (λ m. found pointed other (find m indirections)) 16 refl

joined : (i : ℕ) (d : Option Indirection) (k : Option PrimitiveKind)
    → Same (◌>>=◌ (found pointed (errs (type_not_found i)) d) λ p. ◌>>=◌ (found (λ x. x) (errs (type_not_found i)) k) λ q. gives (record { kind = q; indirection = p }))
    (shown_by primitive_shown (known i d λ d. known i k λ k. answered (record { kind = k; indirection = d })))
joined i (Some d) (Some k) = record { stays = tt; equal = refl }
joined i (Some d) None = record { stays = tt; equal = refl }
joined i None k = record { stays = tt; equal = refl }

pub primitive-same : (i : ℕ) → i < 0x1000 → Same (type_data_for_primitive i) (shown_by primitive_shown (primitive_of i))
unfolding type_data_for_primitive primitive_of
primitive-same i h =
    let high : bit_and i 3840 ≡ i / 256 % 16 * 256 = and_high i 4 8 in
    let low : bit_and i 255 ≡ i % 256 = and_mask i 8 in
    simp (lt-ltb _ _ h, lt-leb _ _ h, high, low, points-agree (errs (type_not_found i)) (i / 256 % 16) (mod-lt (i / 256) (omega arith)), kinds-agree (errs (type_not_found i)) (i % 256) (mod-lt i (omega arith)))
    (joined i (find (i / 256 % 16) indirections) (find (i % 256) kinds))

pub primitive-equal : (i : ℕ) → Equal (type_data_for_primitive i) (shown_by primitive_shown (primitive_of i))
unfolding type_data_for_primitive
primitive-equal i =
    by_order 0x1000 i (λ h. equal-panics (type_data_for_primitive i) _ (simp (le-ltb _ _ h)))
    λ h. (primitive-same i h).equal
