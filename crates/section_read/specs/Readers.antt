-- R-6 of document 02: "An object file numbers types and ids in one run; each item goes to the reader that takes its leaf." The id reader takes
-- what stands in its table (`id_leaves` of crates/record_layout), and everything else goes to the type reader, which gives 10 where its own table
-- has no such leaf. What the readers answer is document 01's: `parse_of` of crates/record_parse, the section being both streams.
use Rattle.std.specs.Prelude.{Option, None, Some, ℕ, List, ◌≡◌, ltb}
use Rattle.answer.specs.Answer.{Answer, Read, answered, refused, pick}
use Rattle.answer.specs.Tables.{find}
use Rattle.field.specs.Fields.{fixed_at}
use Rattle.field.specs.Indices.{index_in, index_number}
use Rattle.field.specs.declared.index.Stream.{Stream}
use Rattle.field.specs.declared.index.Stream.TheVariants.{Types, Ids}
use Rattle.stream_item.specs.declared.Entry.{Entry}
use Rattle.stream_item.specs.declared.Entry.TheVariants as entry
use Rattle.record_layout.specs.Layouts.{Layout, type_leaves, id_leaves}
use Rattle.record_parse.specs.Record.{Parsed, parse_of}

abbrev pub taken_by : Option Layout → Stream
taken_by None = Types
taken_by (Some fs) = Ids

-- by its line of the id reader's table
unfoldable pub reader_of : ℕ → Stream
reader_of leaf = taken_by (find leaf id_leaves)

abbrev pub reader_by_leaf : Read ℕ → Stream
reader_by_leaf (answered g) = reader_of g.value
reader_by_leaf (refused n d) = Types

-- of the leaf at place p. A record of fewer than two bytes is 1 by either reader
unfoldable pub reader_at : List ℕ → ℕ → Stream
reader_at s p = reader_by_leaf (fixed_at 2 s p)

-- an item below 0x1000 is read as a primitive, as the type reader does
unfoldable pub tag_of : List ℕ → ℕ → ℕ → Stream
tag_of s n p = pick (ltb n 0x1000) Types (reader_at s p)

-- so each leaf that a reader takes goes to that reader: no leaf stands in both tables
pub record EachTaken : Type 0 where
  pub types : (leaf : ℕ) (fs : Layout) → find leaf type_leaves ≡ Some fs → reader_of leaf ≡ Types
  pub ids : (leaf : ℕ) (fs : Layout) → find leaf id_leaves ≡ Some fs → reader_of leaf ≡ Ids

-- an entry under the tag of the reader that takes it: one run of numbers, so that the tag it came with says nothing
abbrev pub sorted_of : List ℕ → Entry → Entry
sorted_of s (entry.Record i) = entry.Record (record { index = index_in (tag_of s (index_number i.index) i.place) (index_number i.index); place = i.place; length = i.length })
sorted_of s (entry.Marker i) = entry.Marker (index_in Types (index_number i))

-- 16 first
unfoldable pub read_of : List ℕ → Entry → Answer Parsed
read_of s e = parse_of s s (sorted_of s e)
