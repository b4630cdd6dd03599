-- Document 01, "Links and the iterator": the iterator.
use Rattle.std.specs.Prelude.{Result, Option, Some, None, ℕ, ◌+◌, List, length, leb, ltb}
use Rattle.answer.specs.declared.Refusal.{Refusal}
use Rattle.answer.specs.Answer.{Answer, answered, pick, stop, then}
use Rattle.answer.specs.Refusals.{said}
use Rattle.field.specs.Fields.{little_at}
use Rattle.stream_header.specs.Header.{longest, header_of}
use Rattle.field.specs.Indices.{index_in}
use Rattle.field.specs.declared.index.Stream.{Stream}
use Rattle.stream_item.specs.declared.Item.{Item}
use Rattle.stream_item.specs.declared.iter.ItemIter.{ItemIter}

-- a fresh iterator: 16 and the header's refusals; else the cursor behind the header, at the minimum index
unfoldable pub iter_of : Stream → List ℕ → Answer ItemIter
iter_of tag s = then (header_of s) (λ h. answered (record { stream = tag; at = h.header_size; index = h.minimum_index }))

-- what a step gives where it is not refused
pub data Next : Type 0 where
  done : Next
  yielded : Item → ItemIter → Next

-- the item whose payload is n bytes at a place
abbrev pub item_at : Stream → ℕ → ℕ → ℕ → Item
item_at tag i p n = record { index = index_in tag i; place = p; length = n }

-- the step over a record of n bytes: its item, and the cursor behind it
abbrev pub over_record : ItemIter → ℕ → Next
over_record c n = yielded (item_at c.stream c.index (c.at + 2) n) (record { stream = c.stream; at = c.at + 2 + n; index = c.index + 1 })

-- 16; 1 if the cursor stands past the end; done if no bytes are left; else 1 (length), 6, 1 (payload), 7 in that order; else the item and
-- the advanced cursor
unfoldable pub next_of : List ℕ → ItemIter → Answer Next
next_of s c =
    stop (ltb longest (length s)) 16
    (stop (ltb (length s) c.at) 1
    (pick (leb (length s) c.at) (answered done)
    (stop (ltb (length s) (c.at + 2)) 1
    (stop (ltb (little_at 2 s c.at) 2) 6
    (stop (ltb (length s) (c.at + 2 + little_at 2 s c.at)) 1
    (stop (leb 4294967295 c.index) 7
    (answered (over_record c (little_at 2 s c.at)))))))))

-- what the answers say
abbrev pub next_told : Option (Item × ItemIter) → Next
next_told None = done
next_told (Some (i, c)) = yielded i c

abbrev pub said_next : Result (Option (Item × ItemIter)) Refusal → Answer Next
said_next = said next_told
