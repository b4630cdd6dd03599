-- The records of a stream as a list of payloads: what a walk by `next` comes past, and a stream put together of them.
use Rattle.std.specs.Prelude.{ℕ, zero, suc, ◌+◌, ◌≤◌, ◌<◌, ◌≡◌, List, [], ◌∷◌, ◌++◌, length}
use Rattle.answer.specs.Answer.{Answer, answered, refused}
use Rattle.field.specs.Bytes.{bytes}
use Rattle.stream_item.specs.Iterator.{Next, done, yielded, next_of}
use Rattle.stream_item.specs.declared.Item.{Item}
use Rattle.stream_item.specs.declared.iter.ItemIter.{ItemIter}
use Rattle.stream_fit.specs.Fit.{payload_of}
use Rattle.stream_fit.specs.Sentences.{Good}

-- a payload and its length before it
unfoldable pub link : List ℕ → List ℕ
link p = bytes 2 (length p) ++ p

-- links one after the other
unfoldable pub links : List (List ℕ) → List ℕ
links [] = []
links (p ∷ ps) = link p ++ links ps

-- a payload that a link can hold
pub record Linkable (p : List ℕ) : Type 0 where
  pub long : 2 ≤ length p
  pub short : length p < 65536

-- each of them fits a link
unfoldable pub AllLinkable : List (List ℕ) → Type 0
AllLinkable [] = Unit
AllLinkable (p ∷ ps) = Linkable p × AllLinkable ps

-- the walk from the cursor comes past these payloads, in this order, and ends in done
pub data ComesPast (s : List ℕ) : ItemIter → List (List ℕ) → Type 0 where
  ends : {c : ItemIter} → next_of s c ≡ answered done → ComesPast s c []
  past : {c d : ItemIter} {i : Item} {p : List ℕ} {ps : List (List ℕ)} → next_of s c ≡ answered (yielded i d) → payload_of s i ≡ p → ComesPast s d ps → ComesPast s c (p ∷ ps)

-- the same by a definition: the payload that a step yields, then the rest
abbrev pub payloads_by : List ℕ → (ItemIter → List (List ℕ)) → Answer Next → List (List ℕ)
payloads_by s rest (refused n d) = []
payloads_by s rest (answered done) = []
payloads_by s rest (answered (yielded i d)) = payload_of s i ∷ rest d

-- the payloads from the cursor on, at most n of them
unfoldable pub payloads_from : ℕ → List ℕ → ItemIter → List (List ℕ)
payloads_from zero s c = []
payloads_from (suc n) s c = payloads_by s (λ d. payloads_from n s d) (next_of s c)

-- each is good by its own index, these going up by one
unfoldable pub AllGood : ℕ → ℕ → List (List ℕ) → Type 0
AllGood minimum index [] = Unit
AllGood minimum index (p ∷ ps) = Good minimum index p × AllGood minimum (index + 1) ps
