-- Document 01, "Links and the iterator": an entry's view and its raw kind, over the TPI stream t and the IPI stream p.
use Rattle.std.specs.Prelude.{Result, ℕ, ◌+◌, List, [], ◌∷◌, length, take, drop, ltb}
use Rattle.answer.specs.declared.Refusal.{Refusal}
use Rattle.answer.specs.Answer.{Answer, answered, refused, stop}
use Rattle.answer.specs.Refusals.{said}
use Rattle.field.specs.Fields.{little_at}
use Rattle.field_text.specs.Texts.{Part}
use Rattle.stream_header.specs.Header.{longest}
use Rattle.field.specs.Indices.{index_number}
use Rattle.stream_item.specs.Items.{index_of}
use Rattle.field.specs.declared.index.ItemIndex.{ItemIndex}
use Rattle.field.specs.declared.index.ItemIndex.TheVariants as index
use Rattle.stream_item.specs.declared.Entry.{Entry}
use Rattle.stream_item.specs.declared.Entry.TheVariants as entry

-- 1 if it passes the end
unfoldable pub part_of : List ℕ → ℕ → ℕ → Answer Part
part_of s p n = stop (ltb (length s) (p + n)) 1 (answered (record { place = p; length = n }))

-- the stream that an index names
abbrev pub stream_named : List ℕ → List ℕ → ItemIndex → List ℕ
stream_named t p (index.Types i) = t
stream_named t p (index.Ids i) = p

-- an entry that takes both streams gives 16 first, if either is over-long
abbrev pub short_of : {A : Type 0} → List ℕ → List ℕ → Answer A → Answer A
short_of t p a = stop (ltb longest (length t)) 16 (stop (ltb longest (length p)) 16 a)

-- the payload's place and length in the stream that the item names; 8 with the index for the marker
abbrev pub entry_part : List ℕ → List ℕ → Entry → Answer Part
entry_part t p (entry.Record i) = part_of (stream_named t p i.index) i.place i.length
entry_part t p (entry.Marker i) = refused 8 (index_number i ∷ [])

abbrev pub view_of : List ℕ → List ℕ → Entry → Answer Part
view_of t p e = short_of t p (entry_part t p e)

-- the bytes of a part, and none where it is refused
abbrev pub within : List ℕ → Answer Part → List ℕ
within s (answered a) = take a.length (drop a.place s)
within s (refused n d) = []

abbrev pub view_bytes : List ℕ → List ℕ → Entry → List ℕ
view_bytes t p e = within (stream_named t p (index_of e)) (view_of t p e)

-- the u16 that a part starts with; 1 below two bytes
unfoldable pub kind_at : List ℕ → ℕ → ℕ → Answer ℕ
kind_at s p n = stop (ltb (length s) (p + n)) 1 (stop (ltb n 2) 1 (answered (little_at 2 s p)))

-- 0xffff for the marker
abbrev pub entry_kind : List ℕ → List ℕ → Entry → Answer ℕ
entry_kind t p (entry.Record i) = kind_at (stream_named t p i.index) i.place i.length
entry_kind t p (entry.Marker i) = answered 0xffff

abbrev pub raw_kind_of : List ℕ → List ℕ → Entry → Answer ℕ
raw_kind_of t p e = short_of t p (entry_kind t p e)

-- what the answers say
abbrev pub viewed : ℕ × ℕ → Part
viewed x = record { place = x.0; length = x.1 }

abbrev pub said_view : Result (ℕ × ℕ) Refusal → Answer Part
said_view = said viewed
