-- What C gives and gets over the five functions of R-14: the fields of each answer, as pane_out hands them over.
use Rattle.std.specs.Prelude.{ℕ, ◌-◌, ◌/◌, ◌%◌, ◌^◌, List, [], ◌∷◌, ℤ, pos, negsuc}
use Rattle.answer.specs.Answer.{Answer}
use Rattle.stream_header.specs.declared.Header.{Header}
use Rattle.field.specs.Indices.{index_number}
use Rattle.stream_item.specs.Iterator.{Next, done, yielded}
use Rattle.field.specs.declared.index.ItemIndex.{ItemIndex}
use Rattle.field.specs.declared.index.ItemIndex.TheVariants as index
use Rattle.stream_item.specs.declared.Entry.{Entry}
use Rattle.stream_item.specs.declared.Entry.TheVariants as entry
use Rattle.stream_finder.specs.Finder.{State, Found, finder_of, table_after}
use Rattle.stream_finder.specs.declared.ItemFinder.{ItemFinder}
use Rattle.word_primitive.specs.declared.PrimitiveType.{PrimitiveType}
use Rattle.pane_out.specs.Handed.{handed}

-- ---- what C gives

abbrev pub type_at : ℕ → ItemIndex
type_at i = index.Types (record { 0 = i })

-- ---- what C gets

-- the 32 bits of a signed number
abbrev pub bits32 : ℤ → ℕ
bits32 (pos n) = n
bits32 (negsuc n) = 4294967295 - n

abbrev pub header_numbers : Header → List ℕ
header_numbers h =
    h.version ∷ h.header_size ∷ h.minimum_index ∷ h.maximum_index ∷ h.gprec_size
    ∷ h.tpi_hash_stream ∷ h.tpi_hash_pad_stream ∷ h.hash_key_size ∷ h.hash_bucket_size
    ∷ bits32 h.hash_values.offset ∷ h.hash_values.size
    ∷ bits32 h.ti_off.offset ∷ h.ti_off.size
    ∷ bits32 h.hash_adj.offset ∷ h.hash_adj.size
    ∷ (h.maximum_index - h.minimum_index) ∷ []

abbrev pub out_header : Answer Header → ℕ × List ℕ
out_header = handed 16 header_numbers

-- 1 and an item's index, place and length with the cursor behind it; or done
abbrev pub next_fields : Next → List ℕ
next_fields done = 0 ∷ 0 ∷ 0 ∷ 0 ∷ 0 ∷ 0 ∷ []
next_fields (yielded i c) = 1 ∷ index_number i.index ∷ i.place ∷ i.length ∷ c.at ∷ c.index ∷ []

abbrev pub out_next : Answer Next → ℕ × List ℕ
out_next = handed 6 next_fields

-- how many places are held; and the table after the call
abbrev pub held_field : ItemFinder → List ℕ
held_field f = f.held ∷ []

abbrev pub out_update : List ℕ → Answer State → ℕ × List ℕ × List ℕ
out_update t a = ((handed 1 held_field (finder_of a)).0, (handed 1 held_field (finder_of a)).1, table_after t a)

-- 1 for a record, with its place; 0 for the marker, which has none
abbrev pub entry_fields : Entry → ℕ → List ℕ
entry_fields (entry.Record i) passed = 1 ∷ i.place ∷ i.length ∷ passed ∷ []
entry_fields (entry.Marker i) passed = 0 ∷ 0 ∷ 2 ∷ passed ∷ []

abbrev pub found_fields : Found → List ℕ
found_fields a = entry_fields a.entry a.passed

abbrev pub out_find : Answer Found → ℕ × List ℕ
out_find = handed 4 found_fields

-- the low byte of the index, which names the kind, and bits 8 to 11, which name the indirection
abbrev pub primitive_fields : ℕ → PrimitiveType → List ℕ
primitive_fields i p = (i % 2 ^ 8) ∷ (i / 2 ^ 8 % 2 ^ 4) ∷ []

abbrev pub out_primitive : ℕ → Answer PrimitiveType → ℕ × List ℕ
out_primitive i = handed 2 (primitive_fields i)
