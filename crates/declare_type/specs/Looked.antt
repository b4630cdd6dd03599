-- R-5 of document 02: a type index looked up and read. "The lookup's and reader's own" refusals, and 24 for a leaf that is not among those
-- asked for, before the rest of its record is read.
use Rattle.std.specs.Prelude.{Option, None, Some, ℕ, ◌+◌, List, [], ◌∷◌, length, take, drop, ltb}
use Rattle.answer.specs.Answer.{Answer, answered, refused, Read, pick}
use Rattle.answer.specs.Refusals.{in_table, refusals}
use Rattle.answer.specs.Tables.{among}
use Rattle.answer.specs.declared.Refusal.{Refusal}
use Rattle.answer.specs.declared.Refusal.TheVariants as refusal
use Rattle.field.specs.Fields.{fixed_at}
use Rattle.word_primitive.specs.Primitive.{primitive_of}
use Rattle.word_primitive.specs.declared.PrimitiveType.{PrimitiveType}
use Rattle.record_layout.specs.Fields.{Shown}
use Rattle.record_layout.specs.Layouts.{record_of, type_leaves}
use Rattle.record_data.specs.Said.{type_values}
use Rattle.field.specs.declared.index.ItemIndex.TheVariants as index
use Rattle.stream_item.specs.declared.Entry.{Entry}
use Rattle.stream_item.specs.declared.Entry.TheVariants as entry
use Rattle.stream_finder.specs.Finder.{State, Found, find_of}
use Rattle.declare_type.specs.declared.node.Looked.TheVariants as looked
use Rattle.declare_type.specs.declared.node.Looked as declared

-- a primitive; a record by place and length, with its leaf and values; or why there is none
pub data Seen : Type 0 where
  numbered : PrimitiveType → Seen
  held : ℕ → ℕ → List Shown → Seen
  nothing : Refusal → Seen

-- what the code's answer says
abbrev pub said_looked : declared.Looked → Seen
said_looked (looked.Numbered p) = numbered p
said_looked (looked.Held p n d) = held p n (type_values d)
said_looked (looked.Nothing e) = nothing e

-- the refusal that a number and its details name
abbrev pub or_ended : Option Refusal → Refusal
or_ended None = refusal.Ended
or_ended (Some e) = e

abbrev pub unread : ℕ → List ℕ → Seen
unread n d = nothing (or_ended (in_table refusals n d))

-- the leaves that have a declaration; the leaf of an argument list
unfoldable pub declared_leaves : List ℕ
declared_leaves = 0x1001 ∷ 0x1002 ∷ 0x1008 ∷ 0x1503 ∷ 0x1504 ∷ 0x1505 ∷ 0x1519 ∷ 0x1506 ∷ 0x1507 ∷ 0x1609 ∷ []

unfoldable pub list_leaves : List ℕ
list_leaves = 0x1201 ∷ []

abbrev pub as_primitive : Answer PrimitiveType → Seen
as_primitive (answered p) = numbered p
as_primitive (refused n d) = unread n d

abbrev pub as_record : ℕ → ℕ → Answer (List Shown) → Seen
as_record p n (answered vs) = held p n vs
as_record p n (refused k d) = unread k d

-- the leaf first: 1 if it is not there, 24 if it is another one, then the reader's own
abbrev pub by_leaf : List ℕ → ℕ → ℕ → List ℕ → Read ℕ → Seen
by_leaf leaves p n b (answered g) = pick (among g.value leaves) (as_record p n (record_of type_leaves b)) (nothing refusal.LeafNotPrinted)
by_leaf leaves p n b (refused k d) = nothing refusal.Ended

-- a record of n bytes at place p
unfoldable pub bytes_seen : List ℕ → List ℕ → ℕ → ℕ → Seen
bytes_seen leaves s p n = pick (ltb (length s) (p + n)) (nothing refusal.Ended) (by_leaf leaves p n (take n (drop p s)) (fixed_at 2 (take n (drop p s)) 0))

-- the marker has no bytes: its leaf is another one
abbrev pub entry_seen : List ℕ → List ℕ → Entry → Seen
entry_seen leaves s (entry.Record m) = bytes_seen leaves s m.place m.length
entry_seen leaves s (entry.Marker m) = nothing refusal.LeafNotPrinted

abbrev pub found_seen : List ℕ → List ℕ → Answer Found → Seen
found_seen leaves s (answered f) = entry_seen leaves s f.entry
found_seen leaves s (refused n d) = unread n d

-- the record of index i, if its leaf is one of these
unfoldable pub record_seen : List ℕ → List ℕ → State → ℕ → Seen
record_seen leaves s σ i = found_seen leaves s (find_of s σ (index.Types (record { 0 = i })))

-- type i: below 0x1000 a primitive, or 8, and never looked up
unfoldable pub type_seen : List ℕ → State → ℕ → Seen
type_seen s σ i = pick (ltb i 0x1000) (as_primitive (primitive_of i)) (record_seen declared_leaves s σ i)

-- argument list i: below 0x1000 there is none, which is 24
unfoldable pub list_seen : List ℕ → State → ℕ → Seen
list_seen s σ i = pick (ltb i 0x1000) (nothing refusal.LeafNotPrinted) (record_seen list_leaves s σ i)
