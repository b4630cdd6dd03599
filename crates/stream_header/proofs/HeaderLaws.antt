-- The outcomes of `header_of`, a law for each, in the order of its checks. Assumes nothing.
use Prim.Native.Nat.{ℕ, ◌≤◌, ◌<◌}
use mathlib.Core.Path.{◌≡◌}
use mathlib.Core.List.{List, []}
use native.Mathlib.Omega.{arith}
use lib.ListN.{length}
use borrow.Author.Tests.{lt-ltb, le-ltb, eq-eqb, ne_eqb}
use Rattle.answer.specs.Answer.{answered, refused}
use Rattle.field.specs.Fields.{little_at}
use Rattle.stream_header.specs.Header.{longest, zero_header, fields_of, header_of}

module _ (s : List ℕ) where
  pub header-long : longest < length s → header_of s ≡ refused 16 []
  unfolding header_of
  header-long h = simp (lt-ltb _ _ h)

  pub header-empty : length s ≡ 0 → header_of s ≡ answered zero_header
  unfolding header_of
  header-empty h =
      let a : length s ≤ longest = omega arith in
      simp (le-ltb _ _ a, eq-eqb _ _ h)

  -- the stream is short enough, and its 56 bytes are there
  pub record There : Type 0 where
    pub short : length s ≤ longest
    pub whole : 56 ≤ length s

  pub header-cut : length s ≤ longest → (length s ≡ 0 → ⊥) → length s < 56 → header_of s ≡ refused 1 []
  unfolding header_of
  header-cut a b h = simp (le-ltb _ _ a, ne_eqb _ _ b, lt-ltb _ _ h)

  -- and its header_size can be
  pub record Sized : Type 0 where
    pub there : There
    pub least : 56 ≤ little_at 4 s 4
    pub most : little_at 4 s 4 ≤ 1024
    pub inside : little_at 4 s 4 ≤ length s

  module _ (t : There) where
    some : length s ≡ 0 → ⊥
    some e = omega arith

    pub header-small : little_at 4 s 4 < 56 → header_of s ≡ refused 2 []
    unfolding header_of
    header-small h = simp (le-ltb _ _ t.short, ne_eqb _ _ some, le-ltb _ _ t.whole, lt-ltb _ _ h)

    pub header-large : 1024 < little_at 4 s 4 → header_of s ≡ refused 3 []
    unfolding header_of
    header-large h =
        let a : 56 ≤ little_at 4 s 4 = omega arith in
        simp (le-ltb _ _ t.short, ne_eqb _ _ some, le-ltb _ _ t.whole, le-ltb _ _ a, lt-ltb _ _ h)

    pub header-past : 56 ≤ little_at 4 s 4 → little_at 4 s 4 ≤ 1024 → length s < little_at 4 s 4 → header_of s ≡ refused 1 []
    unfolding header_of
    header-past a b h =
        simp (le-ltb _ _ t.short, ne_eqb _ _ some, le-ltb _ _ t.whole, le-ltb _ _ a, le-ltb _ _ b, lt-ltb _ _ h)

  module _ (z : Sized) where
    pub minimum-low : little_at 4 s 8 < 4096 → header_of s ≡ refused 4 []
    unfolding header_of
    minimum-low h =
        simp (le-ltb _ _ z.there.short, ne_eqb _ _ (some z.there), le-ltb _ _ z.there.whole, le-ltb _ _ z.least, le-ltb _ _ z.most, le-ltb _ _ z.inside, lt-ltb _ _ h)

    pub maximum-low : 4096 ≤ little_at 4 s 8 → little_at 4 s 12 < little_at 4 s 8 → header_of s ≡ refused 5 []
    unfolding header_of
    maximum-low a h =
        simp (le-ltb _ _ z.there.short, ne_eqb _ _ (some z.there), le-ltb _ _ z.there.whole, le-ltb _ _ z.least, le-ltb _ _ z.most, le-ltb _ _ z.inside, le-ltb _ _ a, lt-ltb _ _ h)

    pub header-whole : 4096 ≤ little_at 4 s 8 → little_at 4 s 8 ≤ little_at 4 s 12 → header_of s ≡ answered (fields_of s)
    unfolding header_of
    header-whole a b =
        simp (le-ltb _ _ z.there.short, ne_eqb _ _ (some z.there), le-ltb _ _ z.there.whole, le-ltb _ _ z.least, le-ltb _ _ z.most, le-ltb _ _ z.inside, le-ltb _ _ a, le-ltb _ _ b)
