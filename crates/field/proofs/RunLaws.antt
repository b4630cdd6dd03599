-- The laws of some bytes at a place. Assumes nothing.
use Prim.Native.Nat.{ℕ, ◌+◌, ◌≤◌, ◌<◌}
use mathlib.Core.Path.{◌≡◌}
use mathlib.Core.List.{List, []}
use lib.ListN.{length, take, drop}
use borrow.Author.Tests.{le-ltb, lt-ltb}
use Rattle.field.specs.Runs.{bytes_at}

-- none past the end, else all of them
module _ (n : ℕ) (s : List ℕ) (p : ℕ) where
  pub bytes_past : length s < p + n → bytes_at n s p ≡ []
  unfolding bytes_at
  bytes_past h = simp (lt-ltb _ _ h)

  pub bytes-there : p + n ≤ length s → bytes_at n s p ≡ take n (drop p s)
  unfolding bytes_at
  bytes-there h = simp (le-ltb _ _ h)
