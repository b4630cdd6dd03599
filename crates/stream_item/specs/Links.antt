-- Document 01, "Links and the iterator": links, and chains of them from a place on. Nothing here refuses a length of 0 or 1, and nothing
-- counts records. Where link 0 starts is a parameter: a header's size in a TPI or IPI stream.
use Rattle.std.specs.Prelude.{Option, Some, None, ℕ, zero, suc, ◌+◌, List, length, leb}
use Rattle.answer.specs.Answer.{pick}
use Rattle.field.specs.Fields.{little_at}
use Rattle.stream_item.specs.declared.link.Hit.{Hit}
use Rattle.stream_item.specs.declared.link.Hit.TheVariants.{Landed, Missed}

-- the link at place p has a u16 length at p and a payload of so many bytes after it; it is broken where either part passes the end
unfoldable pub link_at : List ℕ → ℕ → Option (ℕ × ℕ)
link_at s p = pick (leb (p + 2 + little_at 2 s p) (length s)) (Some (p + 2, little_at 2 s p)) None

-- where a walk along the links stands: at a place, or it broke after so many links
pub data Walk : Type 0 where
  reached : ℕ → Walk
  broke : ℕ → Walk

-- link number k is passed, or breaks the walk: the next one starts where its payload ends
abbrev pub passing : ℕ → Option (ℕ × ℕ) → Walk
passing k (Some (place, n)) = reached (place + n)
passing k None = broke k

abbrev pub linked : List ℕ → ℕ → Walk → Walk
linked s k (reached p) = passing k (link_at s p)
linked s k (broke j) = broke j

-- from place p, past k links
unfoldable pub chain : List ℕ → ℕ → ℕ → Walk
chain s p zero = reached p
chain s p (suc k) = linked s k (chain s p k)

abbrev pub landing : ℕ → Option (ℕ × ℕ) → Hit
landing k (Some (place, n)) = Landed place n
landing k None = Missed k

abbrev pub land : List ℕ → ℕ → Walk → Hit
land s k (reached p) = landing k (link_at s p)
land s k (broke j) = Missed j

-- link k of the chain from place p: its payload, or how many links were passed before the break
unfoldable pub link_of : List ℕ → ℕ → ℕ → Hit
link_of s p k = land s k (chain s p k)
