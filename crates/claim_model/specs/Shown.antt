-- The port's values as the crate's: where the port gives a place and a length, the crate gives the bytes there.
use Rattle.std.specs.Prelude.{Result, Ok, Err, Option, None, Some, ℕ, zero, suc, ◌+◌, ◌≤◌, List, [], ◌∷◌, ◌≡◌, length, take as front, drop, eqb}
use Rattle.answer.specs.declared.Refusal.{Refusal}
use Rattle.answer.specs.Answer.{Answer, answered, refused, Got, pick}
use Rattle.field.specs.Fields.{little_at}
use Rattle.field_text.specs.Texts.{Part}
use Rattle.field.specs.Indices.{index_number as index_shown, id_option}
use Rattle.stream_item.specs.Iterator.{Next, done, yielded}
use Rattle.stream_item.specs.declared.Item.{Item as PortItem}
use Rattle.stream_item.specs.declared.Entry.{Entry}
use Rattle.stream_item.specs.declared.Entry.TheVariants.{Record, Marker}
use Rattle.stream_item.specs.declared.iter.ItemIter.{ItemIter as PortIter}
use Rattle.stream_finder.specs.Finder.{State, Found}
use Rattle.field_text.specs.declared.RawString.{RawString}
use Rattle.answer.specs.Refusals.{no}
use Rattle.record_layout.specs.Fields.{Shown}
use Rattle.record_layout.specs.Values.{nth, number_in, option_in, string_in}
use Rattle.stream_header.specs.Header.{longest}
use Rattle.stream_header.specs.declared.Slice.{Slice as PortSlice}
use Rattle.stream_header.specs.declared.Header.{Header as PortHeader}
use Rattle.record_id.specs.declared.UserDefinedTypeSourceFileRef.{UserDefinedTypeSourceFileRef as PortFile}
use Rattle.record_id.specs.declared.UserDefinedTypeSourceFileRef.TheVariants as file
use Rattle.record_id.specs.declared.IdData.{IdData as PortId}
use Rattle.record_id.specs.declared.IdData.TheVariants as id
use Rattle.word_primitive.specs.declared.PrimitiveType.{PrimitiveType as PortPrimitive}
use Rattle.word_primitive.specs.declared.Indirection.{Indirection}
use Rattle.word_primitive.specs.declared.Indirection.TheVariants.{Direct, Near16, Far16, Huge16, Near32, Far32, Near64, Near128}
use Rattle.claim_model.specs.ParseBuffer.{ParseBuffer, at}
use Rattle.claim_model.specs.TpiHeader.{Slice, Header, ItemInformation}
use Rattle.claim_model.specs.TpiItems.{Item, ItemIter, ItemFinder, primitive_type}
use Rattle.claim_model.specs.TpiPrimitive.{PrimitiveType}
use Rattle.claim_model.specs.TpiId.{IdData, function, member_function, build_info, string_list, string, user_defined_type_source, UserDefinedTypeSourceFileRef, local, remote}

-- a value and the place after it; a string is the bytes of its part
abbrev pub read_shown : {A : Type 0} → List ℕ → Got A → A × ParseBuffer
read_shown s g = (g.value, at s g.next)

abbrev pub bytes_shown : List ℕ → Part → List ℕ
bytes_shown s x = front x.length (drop x.place s)

abbrev pub text_shown : List ℕ → Got Part → List ℕ × ParseBuffer
text_shown s g = (bytes_shown s g.value, at s g.next)

abbrev pub slice_shown : PortSlice → Slice
slice_shown x = record { offset = x.offset; size = x.size }

abbrev pub header_shown : PortHeader → Header
header_shown h = record {
  version = h.version;
  header_size = h.header_size;
  minimum_index = h.minimum_index;
  maximum_index = h.maximum_index;
  gprec_size = h.gprec_size;
  tpi_hash_stream = h.tpi_hash_stream;
  tpi_hash_pad_stream = h.tpi_hash_pad_stream;
  hash_key_size = h.hash_key_size;
  hash_bucket_size = h.hash_bucket_size;
  hash_values = slice_shown h.hash_values;
  ti_off = slice_shown h.ti_off;
  hash_adj = slice_shown h.hash_adj;
}

abbrev pub information : List ℕ → PortHeader → ItemInformation
information s h = record { stream = s; header = header_shown h }

-- ---- items, iterators, finders over the stream s
abbrev pub item_shown : List ℕ → PortItem → Item
item_shown s i = record { index = index_shown i.index; bytes = front i.length (drop i.place s) }

abbrev pub entry_shown : List ℕ → Entry → Item
entry_shown s (Record i) = item_shown s i
entry_shown s (Marker i) = record { index = index_shown i; bytes = primitive_type }

abbrev pub iter_shown : List ℕ → PortIter → ItemIter
iter_shown s c = record { buf = at s c.at; index = c.index }

abbrev pub next_shown : List ℕ → PortIter → Next → Option Item × ItemIter
next_shown s c done = (None, iter_shown s c)
next_shown s c (yielded i d) = (Some (item_shown s i), iter_shown s d)

-- where the port lends a table and says how many of its places are held, the crate has a `Vec` of them; both have a shift of their own
abbrev pub finder_shown : List ℕ → State → ItemFinder
finder_shown s σ = record {
  buffer = at s 0;
  minimum_index = σ.finder.minimum_index;
  maximum_index = σ.finder.maximum_index;
  positions = front σ.finder.held σ.table;
  shift = σ.finder.shift;
}

-- what `find` answers, without the links passed, which the crate does not report
abbrev pub unlinked : List ℕ → Answer Found → Answer Item
unlinked s (answered x) = answered (entry_shown s x.entry)
unlinked s (refused n d) = refused n (pick (eqb n 1) [] d)

-- the domain: the lent table never lacked room
abbrev pub Roomy : {A : Type 0} → Answer A → Type 0
Roomy a = (d : List ℕ) → a ≡ refused 13 d → ⊥

-- where an iterator that has not refused can stand: not past the end of a stream that is not over-long, its index a u32
pub record CanStand (s : List ℕ) (c : PortIter) : Type 0 where
  pub short : length s ≤ longest
  pub inside : c.at ≤ length s
  pub index : c.index ≤ 4294967295

-- an item lies in its stream, as a slice of it does
abbrev pub LiesIn : List ℕ → Entry → Type 0
LiesIn s (Record i) = i.place + i.length ≤ length s
LiesIn s (Marker i) = Unit

-- ---- primitives
-- the port's Direct is the crate's None
abbrev pub pointed : Indirection → Option Indirection
pointed Direct = None
pointed Near16 = Some Near16
pointed Far16 = Some Far16
pointed Huge16 = Some Huge16
pointed Near32 = Some Near32
pointed Far32 = Some Far32
pointed Near64 = Some Near64
pointed Near128 = Some Near128

abbrev pub primitive_shown : PortPrimitive → PrimitiveType
primitive_shown p = record { kind = p.kind; indirection = pointed p.indirection }

-- ---- ids
-- the n numbers of four bytes each at a place
unfoldable pub elements : ℕ → List ℕ → ℕ → List ℕ
elements zero s p = []
elements (suc n) s p = little_at 4 s p ∷ elements n s (p + 4)

abbrev pub text_of_name : List ℕ → Shown → List ℕ
text_of_name s v = front (string_in v).length (drop (string_in v).place s)

abbrev pub elements_in : List ℕ → Shown → Shown → List ℕ
elements_in s count v = elements (number_in count) s (string_in v).place

-- an id record's leaf and values, in the order of its layout, as the crate's data
abbrev pub id_shown : List ℕ → List Shown → IdData
id_shown s vs =
    let leaf = number_in (nth 0 vs) in
    let a = nth 1 vs in
    let b = nth 2 vs in
    let c = nth 3 vs in
    pick (eqb leaf 0x1601) (function (record { scope = option_in a; function_type = number_in b; name = text_of_name s c }))
    (pick (eqb leaf 0x1602) (member_function (record { parent = number_in a; function_type = number_in b; name = text_of_name s c }))
    (pick (eqb leaf 0x1603) (build_info (elements_in s a b))
    (pick (eqb leaf 0x1604) (string_list (elements_in s a b))
    (pick (eqb leaf 0x1605) (string (record { substrings = option_in a; name = text_of_name s b }))
    (pick (eqb leaf 0x1606) (user_defined_type_source (record { udt = number_in a; source_file = local (number_in b); line = number_in c }))
    (user_defined_type_source (record { udt = number_in a; source_file = remote (number_in (nth 4 vs)) (number_in b); line = number_in c })))))))

-- and as the port's function `id_data` answers
abbrev pub name_shown : List ℕ → RawString → List ℕ
name_shown s x = front x.length (drop x.place s)

abbrev pub file_shown : PortFile → UserDefinedTypeSourceFileRef
file_shown (file.Local f) = local f.0
file_shown (file.Remote m f) = remote m f.0

abbrev pub id_data_shown : List ℕ → PortId → IdData
id_data_shown s (id.Function r) = function (record { scope = id_option r.scope; function_type = r.function_type.0; name = name_shown s r.name })
id_data_shown s (id.MemberFunction r) = member_function (record { parent = r.parent.0; function_type = r.function_type.0; name = name_shown s r.name })
id_data_shown s (id.BuildInfo r) = build_info (elements r.count s r.place)
id_data_shown s (id.StringList r) = string_list (elements r.count s r.place)
id_data_shown s (id.String r) = string (record { substrings = id_option r.substrings; name = name_shown s r.name })
id_data_shown s (id.UserDefinedTypeSource r) = user_defined_type_source (record { udt = r.udt.0; source_file = file_shown r.source_file; line = r.line })

abbrev pub id_answer_shown : List ℕ → Result PortId Refusal → Answer IdData
id_answer_shown s (Ok d) = answered (id_data_shown s d)
id_answer_shown s (Err e) = no e
