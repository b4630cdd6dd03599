-- Items and the marker, and what their small methods give.
use Rattle.std.specs.Prelude.{ℕ}
use Rattle.field.specs.declared.index.ItemIndex.{ItemIndex}
use Rattle.stream_item.specs.declared.Entry.{Entry}
use Rattle.stream_item.specs.declared.Entry.TheVariants as entry

abbrev pub index_of : Entry → ItemIndex
index_of (entry.Record i) = i.index
index_of (entry.Marker i) = i

-- the marker has length 2
abbrev pub length_of : Entry → ℕ
length_of (entry.Record i) = i.length
length_of (entry.Marker i) = 2
