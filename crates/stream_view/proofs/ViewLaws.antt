-- The outcomes of a part of some bytes and of the kind that it starts with, a law for each. Assumes nothing.
use Prim.Native.Nat.{ℕ, ◌+◌, ◌≤◌, ◌<◌}
use mathlib.Core.Bool.{Bool, true, false}
use mathlib.Core.Path.{◌≡◌, refl, ap, sym, ◌∙◌}
use mathlib.Core.List.{List, []}
use native.Mathlib.Omega.{arith}
use lib.ListN.{length, take, drop}
use lib.Dec.{ltb}
use borrow.Author.Tests.{le-ltb, lt-ltb}
use Rattle.answer.specs.Answer.{answered, refused, pick, stop, then, Read}
use Rattle.field.specs.Fields.{little_at, fixed_at}
use Rattle.field.proofs.FieldLaws.{field-there}
use Rattle.field.specs.Runs.{bytes_at}
use Rattle.stream_view.specs.Views.{part_of, within, kind_at}

module _ (s : List ℕ) (p n : ℕ) where
  pub part-past : length s < p + n → part_of s p n ≡ refused 1 []
  unfolding part_of
  part-past h = simp (lt-ltb _ _ h)

  pub part-there : p + n ≤ length s → part_of s p n ≡ answered (record { place = p; length = n })
  unfolding part_of
  part-there h = simp (le-ltb _ _ h)

  pub kind-past : length s < p + n → kind_at s p n ≡ refused 1 []
  unfolding kind_at
  kind-past h = simp (lt-ltb _ _ h)

  pub kind-small : p + n ≤ length s → n < 2 → kind_at s p n ≡ refused 1 []
  unfolding kind_at
  kind-small a h = simp (le-ltb _ _ a, lt-ltb _ _ h)

  pub kind-there : p + n ≤ length s → 2 ≤ n → kind_at s p n ≡ answered (little_at 2 s p)
  unfolding kind_at
  kind-there a h = simp (le-ltb _ _ a, le-ltb _ _ h)

-- the field there: got, or ended, which it is not
pub kind-read : (s : List ℕ) (p n : ℕ) (a : Read ℕ) → p + n ≤ length s → 2 ≤ n → fixed_at 2 s p ≡ a → then a (λ g. answered g.value) ≡ kind_at s p n
kind-read s p n a l h e =
    let w : p + 2 ≤ length s = omega arith in
    ap (λ x. then x (λ g. answered g.value)) (sym e ∙ sym (field-there 2 s p (little_at 2 s p) w refl)) ∙ sym (kind-there s p n l h)

-- the bytes of a part, as `field_text::bytes_at` gives them
pub within-bytes : (n : ℕ) (s : List ℕ) (p : ℕ) → bytes_at n s p ≡ within s (part_of s p n)
unfolding bytes_at part_of
within-bytes n s p = go (ltb (length s) (p + n))
  where
    go : (b : Bool) → pick b [] (take n (drop p s)) ≡ within s (stop b 1 (answered (record { place = p; length = n })))
    go true = refl
    go false = refl
