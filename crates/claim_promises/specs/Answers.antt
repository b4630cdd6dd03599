-- What is proved of a definition is so of what a function answers. Demand 1, the column "Given exactly when" and demands 2 and 3 are stated over definitions;
-- here each public function whose contract cites one is said to answer by it, whatever its contract is written as. So a contract that comes to cite
-- another definition, bit 1 for bit 0, has no proof here. Not written by a tool: tools/contracts changes PublicContracts.antt with the sources, and not this file.
use Rattle.std.specs.Prelude.{Result, Option, option_map, ◌≡◌, ℕ, eqb, leb, length, List}
use Rattle.record_list.specs.declared.Element.{Element}
use Rattle.answer.specs.declared.Refusal.{Refusal}
use Rattle.declare_type.specs.Declares.{Declares, declare_of}
use Rattle.field.specs.Fields.{fixed_at}
use Rattle.field.specs.Indices.{no_id, no_type, optional_at, said_id, said_string_ref, said_type, id_option, type_option}
use Rattle.field.specs.Runs.{bytes_after}
use Rattle.field.specs.declared.index.IdIndex.{IdIndex}
use Rattle.field.specs.declared.index.Stream.{Stream}
use Rattle.field.specs.declared.index.TypeIndex.{TypeIndex}
use Rattle.field_number.specs.Forms.{numeral_at, size_told, sized_at, variant_told}
use Rattle.field_text.specs.Texts.{padding_after, string_at, string_of, part}
use Rattle.record_data.specs.Said.{type_values}
use Rattle.record_data.specs.declared.TypeData.{TypeData}
use Rattle.record_layout.specs.Fields.{read_fields}
use Rattle.record_layout.specs.Layouts.{id_leaves, member_leaves, method, read_record, record_of, type_leaves}
use Rattle.record_list.specs.Lists.{element_by, element_of, start_of as start_of_of_record_list, step_of as step_of_of_record_list}
use Rattle.record_list.specs.Said.{said_step, element_values}
use Rattle.record_list.specs.declared.ListCursor.{ListCursor}
use Rattle.record_parse.specs.Record.{parse_of, said_parse}
use Rattle.record_reader.specs.Reader.{Steps}
use Rattle.record_reader.specs.declared.ListReader.{ListReader}
use Rattle.section_finder.specs.Finders.{SectionIndexesBy, section_create_by, section_create_of}
use Rattle.section_item.specs.Sections.{count_of, section_start}
use Rattle.section_read.specs.Readers.{read_of, reader_at}
use Rattle.section_stream.specs.Streams.{section_stream}
use Rattle.stream_drop.specs.Drop.{Drops, drop_of}
use Rattle.stream_finder.specs.Finder.{Fills, begun_in, create_by as create_by_of_stream_finder, create_of as create_of_of_stream_finder, find_of, max_index_of, said_find, state, update_of}
use Rattle.stream_finder.specs.Lent.{Updates}
use Rattle.stream_finder.specs.declared.ItemFinder.{ItemFinder}
use Rattle.stream_finder.specs.declared.Records.{Records}
use Rattle.stream_header.specs.Header.{header_of}
use Rattle.stream_header.specs.declared.Header.{Header}
use Rattle.stream_index.specs.Walk.{IndexesBy as IndexesByOfStreamIndex, Leads, Walks, turn_of}
use Rattle.stream_index.specs.declared.Tour.{Tour}
use Rattle.stream_item.specs.Information.{is_empty_of, len_of}
use Rattle.stream_item.specs.Items.{index_of, length_of}
use Rattle.stream_item.specs.Iterator.{iter_of, next_of, said_next}
use Rattle.stream_item.specs.Links.{link_of}
use Rattle.stream_item.specs.declared.Entry.{Entry}
use Rattle.stream_item.specs.declared.iter.ItemIter.{ItemIter}
use Rattle.stream_places.specs.File.{trailer_of, trailer_of_either}
use Rattle.stream_places.specs.Places.{Saves, load_of, load_wide_of, save_of, save_wide_of}
use Rattle.stream_report.specs.Report.{Reports, add_of, fresh, report_in, totals_of}
use Rattle.stream_report.specs.declared.Totals.{Totals}
use Rattle.stream_view.specs.Views.{raw_kind_of, said_view, view_bytes, view_of}
use Rattle.word_attributes.specs.Bits.{bit, bits}
use Rattle.word_attributes.specs.Pointers.{kind_of, mode_of, reference_of, size_of, to_member_of}
use Rattle.word_attributes.specs.declared.FieldAttributes.{FieldAttributes}
use Rattle.word_attributes.specs.declared.FunctionAttributes.{FunctionAttributes}
use Rattle.word_attributes.specs.declared.PointerAttributes.{PointerAttributes}
use Rattle.word_attributes.specs.declared.TypeProperties.{TypeProperties}
use Rattle.word_primitive.specs.Primitive.{primitive_of}
use Rattle.write_header.specs.Headers.{header_bytes}
use Rattle.write_layout.specs.Buffer.{Writes, lay}
use Rattle.write_layout.specs.Lists.{field_list_bytes, filled_each, method_list_bytes}
use Rattle.write_layout.specs.Records.{limited, write_record}
use Rattle.write_layout.specs.Fields.{given_all}
use Rattle.write_layout.specs.Types.{written_leaves}
use Rattle.write_cells.specs.Cells.{cell_values}
use Rattle.write_pieces.specs.Pieces.{pieces_of}
use Rattle.write_pieces.specs.declared.Piece.{Piece}
use Rattle.write_list.specs.Rows.{member_rows, method_rows}
use Rattle.field.specs.declared.index.ItemIndex.TheVariants as item_index
use Rattle.claim_model.specs.TpiWords as crate
use Rattle.claim_promises.specs.PublicContracts as contract
use Rattle.record_reference.specs.Said.{said_references}
use Rattle.record_reference.specs.Values.{slots, slots_by}
use Rattle.stream_fit.specs.Fit.{fit_of, said_fit}
use Rattle.answer.specs.Refusals.{itself, said, said_from, said_on, said_read}
use Rattle.field.specs.declared.index.Index as index_trait
use Rattle.field.specs.declared.index.OptionalIndex as optional_index_trait
use Rattle.field.specs.declared.reader.Reader.{Reader}
use Rattle.field_number.specs.declared.Size.{Size}
use Rattle.field_number.specs.declared.Variant.{Variant}
use Rattle.field_text.specs.declared.RawString.{RawString}
use Rattle.record_id.specs.Said.{id_values}
use Rattle.record_member.specs.Said.{entry_values, member_values}

-- what an answer by the contract C says is a: whatever holds of a holds of it
abbrev pub Says : {R A : Type 0} → (R → Type 0) → (R → A) → A → Type 1
Says {R = R} {A = A} C said a = (Q : A → Type 0) → Q a → (r : R) → C r → Q (said r)

-- Where memory is lent, the contract is the relation that demand 1's fields `..-keeps` name; of an export, the equation of what is handed out.
pub record Answers : Type 1 where
  -- fields, strings, padding and numbers at a place; primitives; indices
  pub field_fixed_u8_at : (s : List ℕ) (p : ℕ) → Says (contract.FieldFixedU8At s p) (said_read itself) (fixed_at 1 s p)
  pub field_fixed_u16_at : (s : List ℕ) (p : ℕ) → Says (contract.FieldFixedU16At s p) (said_read itself) (fixed_at 2 s p)
  pub field_fixed_u32_at : (s : List ℕ) (p : ℕ) → Says (contract.FieldFixedU32At s p) (said_read itself) (fixed_at 4 s p)
  pub field_fixed_u64_at : (s : List ℕ) (p : ℕ) → Says (contract.FieldFixedU64At s p) (said_read itself) (fixed_at 8 s p)
  pub field_index_type_index_is_cross_module : (self : TypeIndex) → Says (contract.FieldIndexTypeIndexIsCrossModule self) (λ r. r) (leb 0x80000000 self.0)
  pub field_index_id_index_is_cross_module : (self : IdIndex) → Says (contract.FieldIndexIdIndexIsCrossModule self) (λ r. r) (leb 0x80000000 self.0)
  pub field_index_type_at : (s : List ℕ) (p : ℕ) → Says (contract.FieldIndexTypeAt s p) said_type (fixed_at 4 s p)
  pub field_index_id_at : (s : List ℕ) (p : ℕ) → Says (contract.FieldIndexIdAt s p) said_id (fixed_at 4 s p)
  pub field_index_string_ref_at : (s : List ℕ) (p : ℕ) → Says (contract.FieldIndexStringRefAt s p) said_string_ref (fixed_at 4 s p)
  pub field_index_optional_type_at : (s : List ℕ) (p : ℕ) → Says (contract.FieldIndexOptionalTypeAt s p) (said_read type_option) (optional_at no_type s p)
  pub field_index_optional_id_at : (s : List ℕ) (p : ℕ) → Says (contract.FieldIndexOptionalIdAt s p) (said_read id_option) (optional_at no_id s p)
  pub field_run_after_bytes : (s : List ℕ) (p : ℕ) (n : ℕ) → Says (contract.FieldRunAfterBytes s p n) (said itself) (bytes_after n s p)
  pub field_number_number_at : (s : List ℕ) (p : ℕ) → Says (contract.FieldNumberNumberAt s p) (said_read variant_told) (numeral_at s p)
  pub field_number_size_at : (s : List ℕ) (p : ℕ) → Says (contract.FieldNumberSizeAt s p) (said_read size_told) (sized_at s p)
  pub field_text_string_at : (s : List ℕ) (p : ℕ) → Says (contract.FieldTextStringAt s p) (said_read part) (string_at s p)
  pub field_text_string_of : (leaf : ℕ) (s : List ℕ) (p : ℕ) → Says (contract.FieldTextStringOf leaf s p) (said_read part) (string_of leaf s p)
  pub field_text_after_padding : (s : List ℕ) (p : ℕ) → Says (contract.FieldTextAfterPadding s p) (said itself) (padding_after s p)
  -- the same at a lent reader: the value, and the place where it stands then
  pub field_reader_reader_u8 : (self : Reader) (r : Result ℕ Refusal) (self' : Reader) → contract.FieldReaderReaderU8 self r self' → said_from itself r self'.at ≡ fixed_at 1 self.bytes.now self.at
  pub field_reader_reader_u16 : (self : Reader) (r : Result ℕ Refusal) (self' : Reader) → contract.FieldReaderReaderU16 self r self' → said_from itself r self'.at ≡ fixed_at 2 self.bytes.now self.at
  pub field_reader_reader_u32 : (self : Reader) (r : Result ℕ Refusal) (self' : Reader) → contract.FieldReaderReaderU32 self r self' → said_from itself r self'.at ≡ fixed_at 4 self.bytes.now self.at
  pub field_reader_reader_skip : (self : Reader) (n : ℕ) (r : Result Unit Refusal) (self' : Reader) → contract.FieldReaderReaderSkip self n r self' → said_on r self'.at ≡ bytes_after n self.bytes.now self.at
  pub field_reader_reader_index : {I : Type 0} (the_index : index_trait.Ghosts I) (self : Reader) (r : Result I Refusal) (self' : Reader) → contract.FieldReaderReaderIndex the_index self r self' → said_from the_index.counts r self'.at ≡ fixed_at 4 self.bytes.now self.at
  pub field_reader_reader_optional : {I : Type 0} (the_optional_index : optional_index_trait.Ghosts I) (the_index : index_trait.Ghosts I) (self : Reader) (r : Result (Option I) Refusal) (self' : Reader) → contract.FieldReaderReaderOptional the_optional_index the_index self r self' → said_from (option_map the_index.counts) r self'.at ≡ optional_at the_optional_index.nones self.bytes.now self.at
  pub field_number_read_number : (r : Reader) (a : Result Variant Refusal) (r' : Reader) → contract.FieldNumberReadNumber r a r' → said_from variant_told a r'.at ≡ numeral_at r.bytes.now r.at
  pub field_number_read_size : (r : Reader) (a : Result Size Refusal) (r' : Reader) → contract.FieldNumberReadSize r a r' → said_from size_told a r'.at ≡ sized_at r.bytes.now r.at
  pub field_text_read_string : (r : Reader) (a : Result RawString Refusal) (r' : Reader) → contract.FieldTextReadString r a r' → said_from part a r'.at ≡ string_at r.bytes.now r.at
  pub word_primitive_primitive : (index : TypeIndex) → Says (contract.WordPrimitivePrimitive index) (said itself) (primitive_of index.0)
  -- streams: header, count, iterator, items; the finder, by value and lent; places that are kept; reports; what the roots reach
  pub stream_finder_create : (s : List ℕ) (t : List ℕ) (r : Result ItemFinder Refusal) (t' : List ℕ) → contract.StreamFinderCreate s t r t' → Fills t (create_of_of_stream_finder s t) r t'
  pub stream_finder_create_by : (s : List ℕ) (t : List ℕ) (shift : ℕ) (r : Result ItemFinder Refusal) (t' : List ℕ) → contract.StreamFinderCreateBy s t shift r t' → Fills t (create_by_of_stream_finder shift s t) r t'
  pub stream_finder_begin : (t : List ℕ) (records : Records) (shift : ℕ) (r : Result ItemFinder Refusal) (t' : List ℕ) → contract.StreamFinderBegin t records shift r t' → Fills t (begun_in shift t records) r t'
  pub stream_finder_update : (f : ItemFinder) (t : List ℕ) (c : ItemIter) (r : Result ItemFinder Refusal) (t' : List ℕ) → contract.StreamFinderUpdate f t c r t' → Fills t (update_of (state f t) c) r t'
  pub stream_finder_item_finder_max_type_index : (self : ItemFinder) → Says (contract.StreamFinderItemFinderMaxTypeIndex self) (λ r. r.0) (max_index_of self)
  pub stream_finder_item_finder_max_id_index : (self : ItemFinder) → Says (contract.StreamFinderItemFinderMaxIdIndex self) (λ r. r.0) (max_index_of self)
  pub stream_finder_find_type : (s : List ℕ) (f : ItemFinder) (t : List ℕ) (i : TypeIndex) → Says (contract.StreamFinderFindType s f t i) said_find (find_of s (state f t) (item_index.Types i))
  pub stream_finder_find_id : (s : List ℕ) (f : ItemFinder) (t : List ℕ) (i : IdIndex) → Says (contract.StreamFinderFindId s f t i) said_find (find_of s (state f t) (item_index.Ids i))
  pub stream_finder_lent_item_finder_update : (self : ItemFinder) (t : List ℕ) (c : ItemIter) (r : Result Unit Refusal) (self' : ItemFinder) (t' : List ℕ) → contract.StreamFinderLentItemFinderUpdate self t c r self' t' → Updates (state self t) c r (state self' t')
  pub stream_header_header_parse : (s : List ℕ) → Says (contract.StreamHeaderHeaderParse s) (said itself) (header_of s)
  pub stream_fit_fit : (s : List ℕ) → Says (contract.StreamFitFit s) said_fit (fit_of s)
  pub record_reference_record_references : (d : TypeData) → Says (contract.RecordReferenceRecordReferences d) said_references (slots 4 (slots_by type_leaves (type_values d) 2))
  pub stream_index_next_and_update : (s : List ℕ) (f : ItemFinder) (t : List ℕ) (c : ItemIter) (r : Result (Option (ItemFinder × ItemIter)) Refusal) (t' : List ℕ) → contract.StreamIndexNextAndUpdate s f t c r t' → Leads t (turn_of s (state f t) c) r t'
  pub stream_index_index_on : (s : List ℕ) (f : ItemFinder) (t : List ℕ) (c : ItemIter) (r : Tour) (t' : List ℕ) → contract.StreamIndexIndexOn s f t c r t' → Walks s c (state f t) r t'
  pub stream_index_index_all : (stream : Stream) (s : List ℕ) (t : List ℕ) (r : Result Tour Refusal) (t' : List ℕ) → contract.StreamIndexIndexAll stream s t r t' → IndexesByOfStreamIndex 3 stream s t r t'
  pub stream_index_index_all_by : (stream : Stream) (s : List ℕ) (t : List ℕ) (shift : ℕ) (r : Result Tour Refusal) (t' : List ℕ) → contract.StreamIndexIndexAllBy stream s t shift r t' → IndexesByOfStreamIndex shift stream s t r t'
  pub stream_item_entry_index : (self : Entry) → Says (contract.StreamItemEntryIndex self) (λ r. r) (index_of self)
  pub stream_item_entry_len : (self : Entry) → Says (contract.StreamItemEntryLen self) (λ r. r) (length_of self)
  pub stream_item_entry_is_empty : (self : Entry) → Says (contract.StreamItemEntryIsEmpty self) (λ r. r) (eqb (length_of self) 0)
  pub stream_item_information_len : (s : List ℕ) → Says (contract.StreamItemInformationLen s) (said itself) (len_of s)
  pub stream_item_information_is_empty : (s : List ℕ) → Says (contract.StreamItemInformationIsEmpty s) (said itself) (is_empty_of s)
  pub stream_item_iter_iter : (stream : Stream) (s : List ℕ) → Says (contract.StreamItemIterIter stream s) (said itself) (iter_of stream s)
  pub stream_item_iter_next : (s : List ℕ) (c : ItemIter) → Says (contract.StreamItemIterNext s c) said_next (next_of s c)
  pub stream_item_link_link_of : (s : List ℕ) (p : ℕ) (k : ℕ) → Says (contract.StreamItemLinkLinkOf s p k) (λ r. r) (link_of s p k)
  pub stream_places_load : (s : List ℕ) (f : List ℕ) (t : List ℕ) (r : Result ItemFinder Refusal) (t' : List ℕ) → contract.StreamPlacesLoad s f t r t' → Fills t (load_of s f t) r t'
  pub stream_places_load_wide : (s : List ℕ) (f : List ℕ) (t : List ℕ) (r : Result ItemFinder Refusal) (t' : List ℕ) → contract.StreamPlacesLoadWide s f t r t' → Fills t (load_wide_of s f t) r t'
  pub stream_places_save : (s : List ℕ) (f : ItemFinder) (t : List ℕ) (out : List ℕ) (r : Result ℕ Refusal) (out' : List ℕ) → contract.StreamPlacesSave s f t out r out' → Saves out (save_of s (state f t) (length out)) r out'
  pub stream_places_save_wide : (s : List ℕ) (f : ItemFinder) (t : List ℕ) (out : List ℕ) (r : Result ℕ Refusal) (out' : List ℕ) → contract.StreamPlacesSaveWide s f t out r out' → Saves out (save_wide_of s (state f t) (length out)) r out'
  pub stream_places_trailer_trailer_parse : (f : List ℕ) → Says (contract.StreamPlacesTrailerTrailerParse f) (said itself) (trailer_of f)
  pub stream_places_trailer_trailer_parse_wide : (f : List ℕ) → Says (contract.StreamPlacesTrailerTrailerParseWide f) (said itself) (trailer_of_either f)
  pub stream_report_new : Says contract.StreamReportNew (λ r. r) (totals_of fresh)
  pub stream_report_add : (totals : Totals) (table : List ℕ) (s : List ℕ) (r : Result Totals Refusal) (table' : List ℕ) → contract.StreamReportAdd totals table s r table' → Reports table (add_of (report_in totals table) s) r table'
  pub stream_drop_drop : (s : List ℕ) (roots : List ℕ) (table : List ℕ) (out : List ℕ) (r : Result ℕ Refusal) (table' : List ℕ) (out' : List ℕ) → contract.StreamDropDrop s roots table out r table' out' → Drops table out (drop_of s roots (length table) (length out)) r table' out'
  pub stream_view_bytes_of : (tpi : List ℕ) (ipi : List ℕ) (entry : Entry) → Says (contract.StreamViewBytesOf tpi ipi entry) (λ r. r) (view_bytes tpi ipi entry)
  pub stream_view_view : (tpi : List ℕ) (ipi : List ℕ) (entry : Entry) → Says (contract.StreamViewView tpi ipi entry) (λ r. said_view r.answer) (view_of tpi ipi entry)
  pub stream_view_view_answer : (tpi : List ℕ) (ipi : List ℕ) (entry : Entry) → Says (contract.StreamViewViewAnswer tpi ipi entry) said_view (view_of tpi ipi entry)
  pub stream_view_raw_kind : (tpi : List ℕ) (ipi : List ℕ) (entry : Entry) → Says (contract.StreamViewRawKind tpi ipi entry) (said itself) (raw_kind_of tpi ipi entry)
  -- records, members, lists, entries
  pub record_data_type_data : (s : List ℕ) → Says (contract.RecordDataTypeData s) (said type_values) (record_of type_leaves s)
  pub record_id_id_data : (s : List ℕ) → Says (contract.RecordIdIdData s) (said id_values) (record_of id_leaves s)
  pub record_list_start : (stream : Stream) (s : List ℕ) → Says (contract.RecordListStart stream s) (said itself) (start_of_of_record_list stream s)
  pub record_list_step : (s : List ℕ) (c : ListCursor) → Says (contract.RecordListStep s c) said_step (step_of_of_record_list s c)
  pub record_list_element_from : (s : List ℕ) (c : ListCursor) (k : ℕ) → Says (contract.RecordListElementFrom s c k) (said element_values) (element_by (step_of_of_record_list s) k c)
  pub record_member_member_at : (s : List ℕ) (p : ℕ) → Says (contract.RecordMemberMemberAt s p) (said_read member_values) (read_record member_leaves s p)
  pub record_member_method_entry_at : (s : List ℕ) (p : ℕ) → Says (contract.RecordMemberMethodEntryAt s p) (said_read entry_values) (read_fields method 0 s p)
  pub record_parse_parse : (tpi : List ℕ) (ipi : List ℕ) (entry : Entry) → Says (contract.RecordParseParse tpi ipi entry) said_parse (parse_of tpi ipi entry)
  pub record_reader_list_reader_element : (self : ListReader) (k : ℕ) → Says (contract.RecordReaderListReaderElement self k) (said element_values) (element_by (step_of_of_record_list self.bytes.now) k self.cursor)
  pub record_reader_list_reader_step : (self : ListReader) (r : Result Element Refusal) (self' : ListReader) → contract.RecordReaderListReaderStep self r self' → Steps self.cursor (step_of_of_record_list self.bytes.now self.cursor) r self'.cursor
  pub record_reader_nth : (stream : Stream) (s : List ℕ) (k : ℕ) → Says (contract.RecordReaderNth stream s k) (said element_values) (element_of stream s k)
  -- sections of object files
  pub section_finder_create : (s : List ℕ) (t : List ℕ) (r : Result ItemFinder Refusal) (t' : List ℕ) → contract.SectionFinderCreate s t r t' → Fills t (section_create_of s t) r t'
  pub section_finder_create_by : (s : List ℕ) (t : List ℕ) (shift : ℕ) (r : Result ItemFinder Refusal) (t' : List ℕ) → contract.SectionFinderCreateBy s t shift r t' → Fills t (section_create_by shift s t) r t'
  pub section_finder_index_all : (s : List ℕ) (t : List ℕ) (r : Result Tour Refusal) (t' : List ℕ) → contract.SectionFinderIndexAll s t r t' → SectionIndexesBy 3 s t r t'
  pub section_finder_index_all_by : (s : List ℕ) (t : List ℕ) (shift : ℕ) (r : Result Tour Refusal) (t' : List ℕ) → contract.SectionFinderIndexAllBy s t shift r t' → SectionIndexesBy shift s t r t'
  pub section_item_iter : (s : List ℕ) → Says (contract.SectionItemIter s) (said itself) (section_start s)
  pub section_item_len : (s : List ℕ) → Says (contract.SectionItemLen s) (said itself) (count_of s)
  pub section_read_parse : (s : List ℕ) (entry : Entry) → Says (contract.SectionReadParse s entry) said_parse (read_of s entry)
  pub section_read_start : (bytes : List ℕ) → Says (contract.SectionReadStart bytes) (said itself) (start_of_of_record_list (reader_at bytes 0) bytes)
  pub section_stream_to_stream : (s : List ℕ) (out : List ℕ) (r : Result ℕ Refusal) (out' : List ℕ) → contract.SectionStreamToStream s out r out' → Writes out (lay (section_stream s) out 0) (said itself r) out'
  -- what is written, into a buffer that is lent; a declaration
  pub declare_type_declare : (s : List ℕ) (f : ItemFinder) (t : List ℕ) (i : TypeIndex) (out : List ℕ) (r : Result ℕ Refusal) (out' : List ℕ) → contract.DeclareTypeDeclare s f t i out r out' → Declares (declare_of s (state f t) i.0 (length out)) out r out'
  pub write_header_write_header : (h : Header) (out : List ℕ) (at : ℕ) (r : Result ℕ Refusal) (out' : List ℕ) → contract.WriteHeaderWriteHeader h out at r out' → Writes out (lay (header_bytes h) out at) (said itself r) out'
  pub write_list_write_field_list : (text : List ℕ) (rows : List (List ℕ)) (out : List ℕ) (at : ℕ) (r : Result ℕ Refusal) (out' : List ℕ) → contract.WriteListWriteFieldList text rows out at r out' → Writes out (lay (field_list_bytes (member_rows text rows)) out at) (said itself r) out'
  pub write_list_write_method_list : (text : List ℕ) (rows : List (List ℕ)) (out : List ℕ) (at : ℕ) (r : Result ℕ Refusal) (out' : List ℕ) → contract.WriteListWriteMethodList text rows out at r out' → Writes out (lay (method_list_bytes (method_rows text rows)) out at) (said itself r) out'
  pub write_cells_write_type : (text : List ℕ) (leaf : ℕ) (row : List ℕ) (out : List ℕ) (at : ℕ) (r : Result ℕ Refusal) (out' : List ℕ) → contract.WriteCellsWriteType text leaf row out at r out' → Writes out (lay (write_record written_leaves (given_all text (cell_values leaf row))) out at) (said itself r) out'
  pub write_cells_write_id : (text : List ℕ) (leaf : ℕ) (row : List ℕ) (out : List ℕ) (at : ℕ) (r : Result ℕ Refusal) (out' : List ℕ) → contract.WriteCellsWriteId text leaf row out at r out' → Writes out (lay (write_record id_leaves (given_all text (cell_values leaf row))) out at) (said itself r) out'
  pub write_pieces_write_plain : (text : List ℕ) (xs : List Piece) (out : List ℕ) (at : ℕ) (r : Result ℕ Refusal) (out' : List ℕ) → contract.WritePiecesWritePlain text xs out at r out' → Writes out (lay (limited (pieces_of text xs)) out at) (said itself r) out'
  pub write_pieces_write_filled : (text : List ℕ) (xs : List Piece) (out : List ℕ) (at : ℕ) (r : Result ℕ Refusal) (out' : List ℕ) → contract.WritePiecesWriteFilled text xs out at r out' → Writes out (lay (limited (filled_each (pieces_of text xs))) out at) (said itself r) out'
  -- attribute words: the crate's own methods
  pub word_attributes_type_properties_packed : (self : TypeProperties) → Says (contract.WordAttributesTypePropertiesPacked self) (λ r. r) (crate.packed self.0)
  pub word_attributes_type_properties_constructors : (self : TypeProperties) → Says (contract.WordAttributesTypePropertiesConstructors self) (λ r. r) (crate.constructors self.0)
  pub word_attributes_type_properties_overloaded_operators : (self : TypeProperties) → Says (contract.WordAttributesTypePropertiesOverloadedOperators self) (λ r. r) (crate.overloaded_operators self.0)
  pub word_attributes_type_properties_is_nested_type : (self : TypeProperties) → Says (contract.WordAttributesTypePropertiesIsNestedType self) (λ r. r) (crate.is_nested_type self.0)
  pub word_attributes_type_properties_contains_nested_types : (self : TypeProperties) → Says (contract.WordAttributesTypePropertiesContainsNestedTypes self) (λ r. r) (crate.contains_nested_types self.0)
  pub word_attributes_type_properties_overloaded_assignment : (self : TypeProperties) → Says (contract.WordAttributesTypePropertiesOverloadedAssignment self) (λ r. r) (crate.overloaded_assignment self.0)
  pub word_attributes_type_properties_overloaded_casting : (self : TypeProperties) → Says (contract.WordAttributesTypePropertiesOverloadedCasting self) (λ r. r) (crate.overloaded_casting self.0)
  pub word_attributes_type_properties_forward_reference : (self : TypeProperties) → Says (contract.WordAttributesTypePropertiesForwardReference self) (λ r. r) (crate.forward_reference self.0)
  pub word_attributes_type_properties_scoped_definition : (self : TypeProperties) → Says (contract.WordAttributesTypePropertiesScopedDefinition self) (λ r. r) (crate.scoped_definition self.0)
  pub word_attributes_type_properties_has_unique_name : (self : TypeProperties) → Says (contract.WordAttributesTypePropertiesHasUniqueName self) (λ r. r) (crate.has_unique_name self.0)
  pub word_attributes_type_properties_sealed : (self : TypeProperties) → Says (contract.WordAttributesTypePropertiesSealed self) (λ r. r) (crate.sealed self.0)
  pub word_attributes_type_properties_hfa : (self : TypeProperties) → Says (contract.WordAttributesTypePropertiesHfa self) (λ r. r) (crate.hfa self.0)
  pub word_attributes_field_attributes_access : (self : FieldAttributes) → Says (contract.WordAttributesFieldAttributesAccess self) (λ r. r) (crate.access self.0)
  pub word_attributes_field_attributes_method_properties : (self : FieldAttributes) → Says (contract.WordAttributesFieldAttributesMethodProperties self) (λ r. r) (crate.method_properties self.0)
  pub word_attributes_field_attributes_is_static : (self : FieldAttributes) → Says (contract.WordAttributesFieldAttributesIsStatic self) (λ r. r) (crate.is_static self.0)
  pub word_attributes_field_attributes_is_virtual : (self : FieldAttributes) → Says (contract.WordAttributesFieldAttributesIsVirtual self) (λ r. r) (crate.is_virtual self.0)
  pub word_attributes_field_attributes_is_pure_virtual : (self : FieldAttributes) → Says (contract.WordAttributesFieldAttributesIsPureVirtual self) (λ r. r) (crate.is_pure_virtual self.0)
  pub word_attributes_field_attributes_is_intro_virtual : (self : FieldAttributes) → Says (contract.WordAttributesFieldAttributesIsIntroVirtual self) (λ r. r) (crate.is_intro_virtual self.0)
  pub word_attributes_function_attributes_calling_convention : (self : FunctionAttributes) → Says (contract.WordAttributesFunctionAttributesCallingConvention self) (λ r. r) (crate.calling_convention self.0)
  pub word_attributes_function_attributes_cxx_return_udt : (self : FunctionAttributes) → Says (contract.WordAttributesFunctionAttributesCxxReturnUdt self) (λ r. r) (crate.cxx_return_udt self.0)
  pub word_attributes_function_attributes_is_constructor : (self : FunctionAttributes) → Says (contract.WordAttributesFunctionAttributesIsConstructor self) (λ r. r) (crate.is_constructor self.0)
  pub word_attributes_function_attributes_is_constructor_with_virtual_bases : (self : FunctionAttributes) → Says (contract.WordAttributesFunctionAttributesIsConstructorWithVirtualBases self) (λ r. r) (crate.is_constructor_with_virtual_bases self.0)
  pub word_attributes_pointer_attributes_is_flat_32 : (self : PointerAttributes) → Says (contract.WordAttributesPointerAttributesIsFlat32 self) (λ r. r) (crate.is_flat_32 self.0)
  pub word_attributes_pointer_attributes_is_volatile : (self : PointerAttributes) → Says (contract.WordAttributesPointerAttributesIsVolatile self) (λ r. r) (crate.is_volatile self.0)
  pub word_attributes_pointer_attributes_is_const : (self : PointerAttributes) → Says (contract.WordAttributesPointerAttributesIsConst self) (λ r. r) (crate.is_const self.0)
  pub word_attributes_pointer_attributes_is_unaligned : (self : PointerAttributes) → Says (contract.WordAttributesPointerAttributesIsUnaligned self) (λ r. r) (crate.is_unaligned self.0)
  pub word_attributes_pointer_attributes_is_restrict : (self : PointerAttributes) → Says (contract.WordAttributesPointerAttributesIsRestrict self) (λ r. r) (crate.is_restrict self.0)
  -- the three that document 02 excepts, by cvinfo.h, and what may be refused by 12
  pub word_attributes_type_properties_intrinsic_type : (self : TypeProperties) → Says (contract.WordAttributesTypePropertiesIntrinsicType self) (λ r. r) (bit 13 self.0)
  pub word_attributes_type_properties_mocom : (self : TypeProperties) → Says (contract.WordAttributesTypePropertiesMocom self) (λ r. r) (bits 14 15 self.0)
  pub word_attributes_pointer_attributes_pointer_kind : (self : PointerAttributes) → Says (contract.WordAttributesPointerAttributesPointerKind self) (said itself) (kind_of self.0)
  pub word_attributes_pointer_attributes_pointer_mode : (self : PointerAttributes) → Says (contract.WordAttributesPointerAttributesPointerMode self) (said itself) (mode_of self.0)
  pub word_attributes_pointer_attributes_pointer_to_member : (self : PointerAttributes) → Says (contract.WordAttributesPointerAttributesPointerToMember self) (said itself) (to_member_of self.0)
  pub word_attributes_pointer_attributes_is_reference : (self : PointerAttributes) → Says (contract.WordAttributesPointerAttributesIsReference self) (said itself) (reference_of self.0)
  pub word_attributes_pointer_attributes_size : (self : PointerAttributes) → Says (contract.WordAttributesPointerAttributesSize self) (said itself) (size_of self.0)
  pub word_attributes_pointer_attributes_is_mocom : (self : PointerAttributes) → Says (contract.WordAttributesPointerAttributesIsMocom self) (λ r. r) (bit 19 self.0)
