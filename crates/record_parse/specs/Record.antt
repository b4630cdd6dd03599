-- Document 01, "Indices and primitives": what an entry of a stream says.
use Rattle.record_parse.specs.declared.EntryData.TheVariants as entry_data
use Rattle.std.specs.Prelude.{Result, Ok, Err, ℕ, ◌+◌, List, [], ◌∷◌, length, take, drop, ltb}
use Rattle.record_parse.specs.declared.EntryData.{EntryData}
use Rattle.answer.specs.declared.Refusal.{Refusal}
use Rattle.answer.specs.Answer.{Answer, answered, refused, pick, stop, then}
use Rattle.answer.specs.Refusals.{no}
use Rattle.word_primitive.specs.Primitive.{primitive_of}
use Rattle.word_primitive.specs.declared.PrimitiveType.{PrimitiveType}
use Rattle.record_layout.specs.Fields.{Shown}
use Rattle.record_layout.specs.Layouts.{record_of, type_leaves, id_leaves}
use Rattle.record_data.specs.Said.{type_values}
use Rattle.record_id.specs.Said.{id_values}
use Rattle.stream_view.specs.Views.{short_of}
use Rattle.field.specs.declared.index.ItemIndex.{ItemIndex}
use Rattle.field.specs.declared.index.ItemIndex.TheVariants as index
use Rattle.stream_item.specs.declared.Entry.{Entry}
use Rattle.stream_item.specs.declared.Entry.TheVariants as entry

-- a primitive, or the leaf and the values of a type record or of an id record
pub data Parsed : Type 0 where
  primitive : PrimitiveType → Parsed
  type : List Shown → Parsed
  id : List Shown → Parsed

-- n bytes of s from place p
abbrev pub payload_at : List ℕ → ℕ → ℕ → List ℕ
payload_at s p n = take n (drop p s)

abbrev pub numbered_of : ℕ → Answer Parsed
numbered_of i = then (primitive_of i) (λ t. answered (primitive t))

-- an item that passes the end of its stream is 1
unfoldable pub type_bytes : List ℕ → ℕ → ℕ → Answer Parsed
type_bytes s p n = stop (ltb (length s) (p + n)) 1 (then (record_of type_leaves (payload_at s p n)) (λ vs. answered (type vs)))

unfoldable pub id_bytes : List ℕ → ℕ → ℕ → Answer Parsed
id_bytes s p n = stop (ltb (length s) (p + n)) 1 (then (record_of id_leaves (payload_at s p n)) (λ vs. answered (id vs)))

-- a type item below 0x1000 is read as a primitive; any other by its bytes
unfoldable pub type_item : List ℕ → ℕ → ℕ → ℕ → Answer Parsed
type_item s i p n = pick (ltb i 0x1000) (numbered_of i) (type_bytes s p n)

-- the marker has no bytes: any other gives 10 with 0xffff
unfoldable pub type_marker : ℕ → Answer Parsed
type_marker i = pick (ltb i 0x1000) (numbered_of i) (refused 10 (0xffff ∷ []))

abbrev pub item_of : List ℕ → List ℕ → ItemIndex → ℕ → ℕ → Answer Parsed
item_of t s (index.Types i) p n = type_item t i.0 p n
item_of t s (index.Ids i) p n = id_bytes s p n

abbrev pub marker_of : ItemIndex → Answer Parsed
marker_of (index.Types i) = type_marker i.0
marker_of (index.Ids i) = refused 10 (0xffff ∷ [])

abbrev pub entry_of : List ℕ → List ℕ → Entry → Answer Parsed
entry_of t s (entry.Record i) = item_of t s i.index i.place i.length
entry_of t s (entry.Marker i) = marker_of i

-- over the TPI stream t and the IPI stream s: 16 first
unfoldable pub parse_of : List ℕ → List ℕ → Entry → Answer Parsed
parse_of t s e = short_of t s (entry_of t s e)

-- what the answer says
abbrev pub said_parse : Result EntryData Refusal → Answer Parsed
said_parse (Ok (entry_data.Primitive p)) = answered (primitive p)
said_parse (Ok (entry_data.Type d)) = answered (type (type_values d))
said_parse (Ok (entry_data.Id d)) = answered (id (id_values d))
said_parse (Err e) = no e
