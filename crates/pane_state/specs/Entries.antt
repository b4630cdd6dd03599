-- The entry that C names.
use Rattle.std.specs.Prelude.{ℕ}
use Rattle.answer.specs.Answer.{pick}
use Rattle.field.specs.Indices.{index_in}
use Rattle.field.specs.declared.index.Stream.TheVariants.{Types, Ids}
use Rattle.field.specs.declared.index.ItemIndex.{ItemIndex}
use Rattle.stream_item.specs.declared.Entry.{Entry}
use Rattle.stream_item.specs.declared.Entry.TheVariants as entry
use Rattle.pane_out.specs.Handed.{is_set}

-- index i of the id stream where `ids` is set, else of the type stream
abbrev pub index_of_stream : ℕ → ℕ → ItemIndex
index_of_stream ids i = index_in (pick (is_set ids) Ids Types) i

-- a record's entry, with its place and length, where `item` is set, else the marker, which has neither
abbrev pub entry_at : ℕ → ℕ → ℕ → ℕ → ℕ → Entry
entry_at ids item i p n = pick (is_set item) (entry.Record (record { index = index_of_stream ids i; place = p; length = n })) (entry.Marker (index_of_stream ids i))
