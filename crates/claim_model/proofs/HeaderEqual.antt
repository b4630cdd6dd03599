-- The header: for every stream that is not over-long the crate neither panics nor wraps, and its answer is the port's, every field of it.
-- Assumes nothing.
use Prim.Native.Nat.{ℕ, suc, ◌+◌, ◌-◌, ◌≤◌, ◌<◌}
use mathlib.Core.Path.{◌≡◌, refl, sym}
use mathlib.Core.List.{List}
use mathlib.Core.Bool.{Bool, true, false}
use native.Mathlib.Omega.{arith}
use lib.ListN.{length, take as front, drop}
use lib.Dec.{leb, ltb}
use lib.IntN.{pos, negsuc}
use mir.Syntax.{w32}
use mir.Val.{to_z}
use borrow.Author.Tests.{le-leb, le-ltb, lt-ltb, leb-true, eq-eqb, ne_eqb}
use Rattle.answer.specs.Answer.{pick}
use Rattle.field.specs.Fields.{little_at, twos}
use Rattle.stream_header.specs.Header.{longest, fields_of, header_of, zero_header as none}
use Rattle.claim_model.specs.Rust.{Rust, gives, errs, ◌>>=◌, if, unexpected_eof, invalid_type_information_header, impossibly_small, unreasonably_large, minimum_low, maximum_low}
use Rattle.claim_model.specs.ParseBuffer.{ParseBuffer, at, parse, take}
use Rattle.claim_model.specs.TpiHeader.{fields, parse_header, parse_information}
use Rattle.claim_model.specs.Equal.{Same, shown_by}
use Rattle.claim_model.specs.Shown.{header_shown, information}
use Rattle.claim_model.proofs.BufferLaws.{some_left, none_left, parse-in, parse-out, take_in, take_out, same_gives, same-errs, by_order}

-- an i32, as the machine has it and as the port's definition says it
i32 : (x : ℕ) → to_z w32 x ≡ twos 4 x
i32 x = go (ltb x 2147483648) refl
  where
    go : (t : Bool) → ltb x 2147483648 ≡ t → to_z w32 x ≡ pick t (pos x) (negsuc (4294967296 - suc x))
    go true e = rw e
    go false e = rw e

-- a read that runs past the end, or leads to one that does
ends : {B : Type 0} (s : List ℕ) (p k : ℕ) (f : ℕ × ParseBuffer → Rust B) → f (little_at k s p, at s (p + k)) ≡ errs unexpected_eof → ◌>>=◌ (parse k (at s p)) f ≡ errs unexpected_eof
unfolding parse
ends s p k f e = go (leb (p + k) (length s))
  where
    go : (b : Bool) → ◌>>=◌ (if b (gives (little_at k s p, at s (p + k))) (errs unexpected_eof)) f ≡ errs unexpected_eof
    go true = e
    go false = refl

module _ (s : List ℕ) where
  read : 56 ≤ length s → (p k : ℕ) → leb (p + k) 56 ≡ true → parse k (at s p) ≡ gives (little_at k s p, at s (p + k))
  read h p k e =
      let a : p + k ≤ 56 = leb-true _ _ e in
      parse-in s p k (omega arith)

  pub fields_in : 56 ≤ length s → fields (at s 0) ≡ gives (header_shown (fields_of s), at s 56)
  unfolding fields
  fields_in h = simp (read h, i32)

  pub fields_out : length s < 56 → fields (at s 0) ≡ errs unexpected_eof
  unfolding fields
  fields_out h =
      ends s 0 4 _ (ends s 4 4 _ (ends s 8 4 _ (ends s 12 4 _ (ends s 16 4 _ (ends s 20 2 _ (ends s 22 2 _ (ends s 24 4 _ (ends s 28 4 _ (ends s 32 4 _ (ends s 36 4 _
      (ends s 40 4 _ (ends s 44 4 _ (ends s 48 4 _ (simp (parse-out s 52 4 h)))))))))))))))

  module _ (l : length s ≤ longest) where
    abbrev Goal : Type 0
    Goal = Same (parse_information s) (shown_by (information s) (header_of s))

    none-there : length s ≡ 0 → Goal
    unfolding parse_information parse_header header_of
    none-there h =
        same_gives (parse_information s) (information s none) _
        (simp (none_left s 0 (sym h)))
        (simp (le-ltb _ _ l, eq-eqb _ _ h))

    cut : 0 < length s → length s < 56 → Goal
    unfolding parse_information parse_header header_of
    cut z h =
        same-errs (parse_information s) unexpected_eof _
        (simp (some_left s 0 z, fields_out h))
        (simp (le-ltb _ _ l, ne_eqb (length s) 0 (λ (e : length s ≡ 0). omega arith), lt-ltb _ _ h))

    module _ (h : 56 ≤ length s) where
      z : 0 < length s
      z = omega arith

      nz : length s ≡ 0 → ⊥
      nz e = omega arith

      small : little_at 4 s 4 < 56 → Goal
      unfolding parse_information parse_header header_of
      small a =
          same-errs (parse_information s) (invalid_type_information_header impossibly_small) _
          (simp (some_left s 0 z, fields_in h, lt-ltb _ _ a))
          (simp (le-ltb _ _ l, ne_eqb (length s) 0 nz, le-ltb _ _ h, lt-ltb _ _ a))

      large : 56 ≤ little_at 4 s 4 → 1024 < little_at 4 s 4 → Goal
      unfolding parse_information parse_header header_of
      large a b =
          same-errs (parse_information s) (invalid_type_information_header unreasonably_large) _
          (simp (some_left s 0 z, fields_in h, le-ltb _ _ a, lt-ltb _ _ b))
          (simp (le-ltb _ _ l, ne_eqb (length s) 0 nz, le-ltb _ _ h, le-ltb _ _ a, lt-ltb _ _ b))

      module _ (a : 56 ≤ little_at 4 s 4) (b : little_at 4 s 4 ≤ 1024) where
        rest-cut : length s < little_at 4 s 4 → Goal
        unfolding parse_information parse_header header_of
        rest-cut c =
            same-errs (parse_information s) unexpected_eof _
            (simp (some_left s 0 z, fields_in h, le-ltb _ _ a, le-ltb _ _ b, le-leb _ _ a, take_out s 56 (little_at 4 s 4 - 56) h (omega arith)))
            (simp (le-ltb _ _ l, ne_eqb (length s) 0 nz, le-ltb _ _ h, le-ltb _ _ a, le-ltb _ _ b, lt-ltb _ _ c))

        module _ (c : little_at 4 s 4 ≤ length s) where
          taken : take (at s 56) (little_at 4 s 4 - 56) ≡ gives (front (little_at 4 s 4 - 56) (drop 56 s), at s (56 + (little_at 4 s 4 - 56)))
          taken = take_in s 56 (little_at 4 s 4 - 56) (omega arith) (omega arith)

          low : little_at 4 s 8 < 4096 → Goal
          unfolding parse_information parse_header header_of
          low d =
              same-errs (parse_information s) (invalid_type_information_header minimum_low) _
              (simp (some_left s 0 z, fields_in h, le-ltb _ _ a, le-ltb _ _ b, le-leb _ _ a, taken, lt-ltb _ _ d))
              (simp (le-ltb _ _ l, ne_eqb (length s) 0 nz, le-ltb _ _ h, le-ltb _ _ a, le-ltb _ _ b, le-ltb _ _ c, lt-ltb _ _ d))

          below : 4096 ≤ little_at 4 s 8 → little_at 4 s 12 < little_at 4 s 8 → Goal
          unfolding parse_information parse_header header_of
          below d e =
              same-errs (parse_information s) (invalid_type_information_header maximum_low) _
              (simp (some_left s 0 z, fields_in h, le-ltb _ _ a, le-ltb _ _ b, le-leb _ _ a, taken, le-ltb _ _ d, lt-ltb _ _ e))
              (simp (le-ltb _ _ l, ne_eqb (length s) 0 nz, le-ltb _ _ h, le-ltb _ _ a, le-ltb _ _ b, le-ltb _ _ c, le-ltb _ _ d, lt-ltb _ _ e))

          good : 4096 ≤ little_at 4 s 8 → little_at 4 s 8 ≤ little_at 4 s 12 → Goal
          unfolding parse_information parse_header header_of
          good d e =
              same_gives (parse_information s) (information s (fields_of s)) _
              (simp (some_left s 0 z, fields_in h, le-ltb _ _ a, le-ltb _ _ b, le-leb _ _ a, taken, le-ltb _ _ d, le-ltb _ _ e))
              (simp (le-ltb _ _ l, ne_eqb (length s) 0 nz, le-ltb _ _ h, le-ltb _ _ a, le-ltb _ _ b, le-ltb _ _ c, le-ltb _ _ d, le-ltb _ _ e))

    pub header : Goal
    header =
        by_order (length s) 0 (λ e. none-there (omega arith)) λ z.
        by_order 56 (length s) (λ h. by_order 56 (little_at 4 s 4) (λ a. by_order (little_at 4 s 4) 1024 (λ b. by_order (little_at 4 s 4) (length s) (λ c.
        by_order 4096 (little_at 4 s 8) (λ d. by_order (little_at 4 s 8) (little_at 4 s 12) (good h a b c d) (below h a b c d)) (low h a b c))
        (rest-cut h a b)) (large h a)) (small h)) (cut z)
