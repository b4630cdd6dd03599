-- What a finder's places are: each held place is the start of its block. And what it is for a finder to be ready for a
-- lookup.
use Rattle.std.specs.Prelude.{ℕ, ◌*◌, ◌≤◌, ◌<◌, ◌≡◌, List, length, get_or}
use Rattle.stream_header.specs.Header.{longest}
use Rattle.stream_item.specs.Links.{chain, reached}
use Rattle.stream_finder.specs.Finder.{State, block_of}

-- place k is where k blocks of links from the start p lead
abbrev pub Placed : List ℕ → ℕ → State → Type 0
Placed s p σ = (k : ℕ) → k < σ.finder.held → chain s p (k * block_of σ.finder) ≡ reached (get_or σ.table k 0)

-- neither the stream's length nor the finder's shift or claim refuses a lookup
pub record Ready (s : List ℕ) (σ : State) : Type 0 where
  pub short : length s ≤ longest
  pub shift : σ.finder.shift ≤ 6
  pub held : σ.finder.held ≤ length σ.table
