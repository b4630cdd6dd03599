-- What a walk with one test a link ends with: a place that lies past the end, or the payload of a link that the chain came to.
use Rattle.std.specs.Prelude.{ℕ, ◌-◌, ◌≤◌, ◌≡◌, List, length}
use Rattle.stream_item.specs.Links.{chain, reached}

pub record Led (s : List ℕ) (p k q : ℕ) : Type 0 where
  pub low : 2 ≤ q
  pub high : q ≤ 4295098368
  pub came : q ≤ length s → chain s p k ≡ reached (q - 2)
