-- Demand 1, said of the contracts: by which of document 01's numbers each public function may refuse, whatever the input. Demand1.antt says it of the
-- definitions; here it is of every answer that a function's contract admits. Not written by a tool.
use Rattle.std.specs.Prelude.{Result, Option, option_map, ℕ, List, [], ◌∷◌}
use Rattle.record_list.specs.declared.Element.{Element}
use Rattle.answer.specs.declared.Refusal.{Refusal}
use Rattle.field.specs.Indices.{said_id, said_string_ref, said_type, id_option, type_option}
use Rattle.field.specs.declared.index.IdIndex.{IdIndex}
use Rattle.field.specs.declared.index.Stream.{Stream}
use Rattle.field.specs.declared.index.TypeIndex.{TypeIndex}
use Rattle.field_number.specs.Forms.{size_told, variant_told}
use Rattle.record_list.specs.Said.{said_step, element_values}
use Rattle.record_list.specs.declared.ListCursor.{ListCursor}
use Rattle.record_parse.specs.Record.{said_parse}
use Rattle.record_reader.specs.declared.ListReader.{ListReader}
use Rattle.stream_finder.specs.Finder.{said_find}
use Rattle.stream_finder.specs.declared.ItemFinder.{ItemFinder}
use Rattle.stream_finder.specs.declared.Records.{Records}
use Rattle.stream_header.specs.declared.Header.{Header}
use Rattle.stream_index.specs.Walk.{said_turn}
use Rattle.stream_item.specs.Iterator.{said_next}
use Rattle.stream_item.specs.declared.Entry.{Entry}
use Rattle.stream_item.specs.declared.iter.ItemIter.{ItemIter}
use Rattle.stream_report.specs.declared.Totals.{Totals}
use Rattle.stream_view.specs.Views.{said_view}
use Rattle.word_attributes.specs.declared.PointerAttributes.{PointerAttributes}
use Rattle.write_pieces.specs.declared.Piece.{Piece}
use Rattle.answer.specs.Answer.{Answer}
use Rattle.claim_promises.specs.ByTable.{Refuses, FindRefuses}
use Rattle.claim_promises.specs.PublicContracts as contract
use Rattle.stream_fit.specs.Fit.{said_fit}
use Rattle.answer.specs.Refusals.{itself, said, said_from, said_on, said_read}
use Rattle.field.specs.declared.index.Index as index_trait
use Rattle.field.specs.declared.index.OptionalIndex as optional_index_trait
use Rattle.field.specs.declared.reader.Reader.{Reader}
use Rattle.field_number.specs.declared.Size.{Size}
use Rattle.field_number.specs.declared.Variant.{Variant}
use Rattle.field_text.specs.declared.RawString.{RawString}
use Rattle.field_text.specs.Texts.{part}
use Rattle.record_data.specs.Said.{type_values}
use Rattle.record_id.specs.Said.{id_values}
use Rattle.record_member.specs.Said.{entry_values, member_values}

-- an answer by the contract C is given, or refused by one of the numbers ns
abbrev pub RefusedBy : {R A : Type 0} → List ℕ → (R → Type 0) → (R → Answer A) → Type 0
RefusedBy {R = R} ns C said = (r : R) → C r → Refuses ns (said r)

-- and of `find`, where 1 has the links passed
abbrev pub FindRefusedBy : {R A : Type 0} → List ℕ → (R → Type 0) → (R → Answer A) → Type 0
FindRefusedBy {R = R} ns C said = (r : R) → C r → FindRefuses ns (said r)

pub record EachRefusedBy : Type 1 where
  pub field_fixed_u8_at : (s : List ℕ) (p : ℕ) → RefusedBy (1 ∷ []) (contract.FieldFixedU8At s p) (said_read itself)
  pub field_fixed_u16_at : (s : List ℕ) (p : ℕ) → RefusedBy (1 ∷ []) (contract.FieldFixedU16At s p) (said_read itself)
  pub field_fixed_u32_at : (s : List ℕ) (p : ℕ) → RefusedBy (1 ∷ []) (contract.FieldFixedU32At s p) (said_read itself)
  pub field_fixed_u64_at : (s : List ℕ) (p : ℕ) → RefusedBy (1 ∷ []) (contract.FieldFixedU64At s p) (said_read itself)
  pub field_index_type_at : (s : List ℕ) (p : ℕ) → RefusedBy (1 ∷ []) (contract.FieldIndexTypeAt s p) said_type
  pub field_index_id_at : (s : List ℕ) (p : ℕ) → RefusedBy (1 ∷ []) (contract.FieldIndexIdAt s p) said_id
  pub field_index_string_ref_at : (s : List ℕ) (p : ℕ) → RefusedBy (1 ∷ []) (contract.FieldIndexStringRefAt s p) said_string_ref
  pub field_index_optional_type_at : (s : List ℕ) (p : ℕ) → RefusedBy (1 ∷ []) (contract.FieldIndexOptionalTypeAt s p) (said_read type_option)
  pub field_index_optional_id_at : (s : List ℕ) (p : ℕ) → RefusedBy (1 ∷ []) (contract.FieldIndexOptionalIdAt s p) (said_read id_option)
  pub field_run_after_bytes : (s : List ℕ) (p : ℕ) (n : ℕ) → RefusedBy (1 ∷ []) (contract.FieldRunAfterBytes s p n) (said itself)
  pub field_number_number_at : (s : List ℕ) (p : ℕ) → RefusedBy (1 ∷ 11 ∷ []) (contract.FieldNumberNumberAt s p) (said_read variant_told)
  pub field_number_size_at : (s : List ℕ) (p : ℕ) → RefusedBy (1 ∷ 11 ∷ []) (contract.FieldNumberSizeAt s p) (said_read size_told)
  pub field_text_string_at : (s : List ℕ) (p : ℕ) → RefusedBy (1 ∷ []) (contract.FieldTextStringAt s p) (said_read part)
  pub field_text_string_of : (leaf : ℕ) (s : List ℕ) (p : ℕ) → RefusedBy (1 ∷ []) (contract.FieldTextStringOf leaf s p) (said_read part)
  pub field_text_after_padding : (s : List ℕ) (p : ℕ) → RefusedBy (1 ∷ []) (contract.FieldTextAfterPadding s p) (said itself)
  pub record_data_type_data : (s : List ℕ) → RefusedBy (1 ∷ 10 ∷ 11 ∷ 12 ∷ []) (contract.RecordDataTypeData s) (said type_values)
  pub record_id_id_data : (s : List ℕ) → RefusedBy (1 ∷ 10 ∷ []) (contract.RecordIdIdData s) (said id_values)
  pub record_list_start : (stream : Stream) (s : List ℕ) → RefusedBy (1 ∷ 10 ∷ []) (contract.RecordListStart stream s) (said itself)
  pub record_list_step : (s : List ℕ) (c : ListCursor) → RefusedBy (15 ∷ 1 ∷ 10 ∷ 11 ∷ []) (contract.RecordListStep s c) said_step
  pub record_list_element_from : (s : List ℕ) (c : ListCursor) (k : ℕ) → RefusedBy (15 ∷ 1 ∷ 10 ∷ 11 ∷ []) (contract.RecordListElementFrom s c k) (said element_values)
  pub record_member_member_at : (s : List ℕ) (p : ℕ) → RefusedBy (1 ∷ 10 ∷ 11 ∷ []) (contract.RecordMemberMemberAt s p) (said_read member_values)
  pub record_member_method_entry_at : (s : List ℕ) (p : ℕ) → RefusedBy (1 ∷ []) (contract.RecordMemberMethodEntryAt s p) (said_read entry_values)
  pub record_parse_parse : (tpi : List ℕ) (ipi : List ℕ) (entry : Entry) → RefusedBy (16 ∷ 1 ∷ 8 ∷ 10 ∷ 11 ∷ 12 ∷ []) (contract.RecordParseParse tpi ipi entry) said_parse
  pub record_reader_list_reader_element : (self : ListReader) (k : ℕ) → RefusedBy (15 ∷ 1 ∷ 10 ∷ 11 ∷ []) (contract.RecordReaderListReaderElement self k) (said element_values)
  pub record_reader_nth : (stream : Stream) (s : List ℕ) (k : ℕ) → RefusedBy (15 ∷ 1 ∷ 10 ∷ 11 ∷ []) (contract.RecordReaderNth stream s k) (said element_values)
  pub section_item_iter : (s : List ℕ) → RefusedBy (16 ∷ 1 ∷ 25 ∷ []) (contract.SectionItemIter s) (said itself)
  pub section_item_len : (s : List ℕ) → RefusedBy (16 ∷ 1 ∷ 25 ∷ 6 ∷ 7 ∷ []) (contract.SectionItemLen s) (said itself)
  pub section_read_parse : (s : List ℕ) (entry : Entry) → RefusedBy (16 ∷ 1 ∷ 8 ∷ 10 ∷ 11 ∷ 12 ∷ []) (contract.SectionReadParse s entry) said_parse
  pub section_read_start : (bytes : List ℕ) → RefusedBy (1 ∷ 10 ∷ []) (contract.SectionReadStart bytes) (said itself)
  pub stream_header_header_parse : (s : List ℕ) → RefusedBy (16 ∷ 1 ∷ 2 ∷ 3 ∷ 4 ∷ 5 ∷ []) (contract.StreamHeaderHeaderParse s) (said itself)
  pub stream_fit_fit : (s : List ℕ) → RefusedBy (16 ∷ 1 ∷ 2 ∷ 3 ∷ 4 ∷ 5 ∷ []) (contract.StreamFitFit s) said_fit
  pub stream_item_information_len : (s : List ℕ) → RefusedBy (16 ∷ 1 ∷ 2 ∷ 3 ∷ 4 ∷ 5 ∷ []) (contract.StreamItemInformationLen s) (said itself)
  pub stream_item_information_is_empty : (s : List ℕ) → RefusedBy (16 ∷ 1 ∷ 2 ∷ 3 ∷ 4 ∷ 5 ∷ []) (contract.StreamItemInformationIsEmpty s) (said itself)
  pub stream_item_iter_iter : (stream : Stream) (s : List ℕ) → RefusedBy (16 ∷ 1 ∷ 2 ∷ 3 ∷ 4 ∷ 5 ∷ []) (contract.StreamItemIterIter stream s) (said itself)
  pub stream_item_iter_next : (s : List ℕ) (c : ItemIter) → RefusedBy (16 ∷ 1 ∷ 6 ∷ 7 ∷ []) (contract.StreamItemIterNext s c) said_next
  pub stream_places_trailer_trailer_parse : (f : List ℕ) → RefusedBy (20 ∷ []) (contract.StreamPlacesTrailerTrailerParse f) (said itself)
  pub stream_places_trailer_trailer_parse_wide : (f : List ℕ) → RefusedBy (20 ∷ []) (contract.StreamPlacesTrailerTrailerParseWide f) (said itself)
  pub stream_view_view : (tpi : List ℕ) (ipi : List ℕ) (entry : Entry) → RefusedBy (16 ∷ 1 ∷ 8 ∷ []) (contract.StreamViewView tpi ipi entry) (λ r. said_view r.answer)
  pub stream_view_view_answer : (tpi : List ℕ) (ipi : List ℕ) (entry : Entry) → RefusedBy (16 ∷ 1 ∷ 8 ∷ []) (contract.StreamViewViewAnswer tpi ipi entry) said_view
  pub stream_view_raw_kind : (tpi : List ℕ) (ipi : List ℕ) (entry : Entry) → RefusedBy (16 ∷ 1 ∷ []) (contract.StreamViewRawKind tpi ipi entry) (said itself)
  pub word_attributes_pointer_attributes_pointer_kind : (self : PointerAttributes) → RefusedBy (12 ∷ []) (contract.WordAttributesPointerAttributesPointerKind self) (said itself)
  pub word_attributes_pointer_attributes_pointer_mode : (self : PointerAttributes) → RefusedBy (12 ∷ []) (contract.WordAttributesPointerAttributesPointerMode self) (said itself)
  pub word_attributes_pointer_attributes_pointer_to_member : (self : PointerAttributes) → RefusedBy (12 ∷ []) (contract.WordAttributesPointerAttributesPointerToMember self) (said itself)
  pub word_attributes_pointer_attributes_is_reference : (self : PointerAttributes) → RefusedBy (12 ∷ []) (contract.WordAttributesPointerAttributesIsReference self) (said itself)
  pub word_attributes_pointer_attributes_size : (self : PointerAttributes) → RefusedBy (12 ∷ []) (contract.WordAttributesPointerAttributesSize self) (said itself)
  pub word_primitive_primitive : (index : TypeIndex) → RefusedBy (8 ∷ []) (contract.WordPrimitivePrimitive index) (said itself)
  pub stream_finder_find_type : (s : List ℕ) (f : ItemFinder) (t : List ℕ) (i : TypeIndex) → FindRefusedBy (16 ∷ 26 ∷ 13 ∷ 8 ∷ 9 ∷ 1 ∷ []) (contract.StreamFinderFindType s f t i) said_find
  pub stream_finder_find_id : (s : List ℕ) (f : ItemFinder) (t : List ℕ) (i : IdIndex) → FindRefusedBy (16 ∷ 26 ∷ 13 ∷ 8 ∷ 9 ∷ 1 ∷ []) (contract.StreamFinderFindId s f t i) said_find
  -- ---- where memory is lent
  pub field_reader_reader_u8 : (self : Reader) (r : Result ℕ Refusal) (self' : Reader) → contract.FieldReaderReaderU8 self r self' → Refuses (1 ∷ []) (said_from itself r self'.at)
  pub field_reader_reader_u16 : (self : Reader) (r : Result ℕ Refusal) (self' : Reader) → contract.FieldReaderReaderU16 self r self' → Refuses (1 ∷ []) (said_from itself r self'.at)
  pub field_reader_reader_u32 : (self : Reader) (r : Result ℕ Refusal) (self' : Reader) → contract.FieldReaderReaderU32 self r self' → Refuses (1 ∷ []) (said_from itself r self'.at)
  pub field_reader_reader_skip : (self : Reader) (n : ℕ) (r : Result Unit Refusal) (self' : Reader) → contract.FieldReaderReaderSkip self n r self' → Refuses (1 ∷ []) (said_on r self'.at)
  pub field_reader_reader_index : {I : Type 0} (the_index : index_trait.Ghosts I) (self : Reader) (r : Result I Refusal) (self' : Reader) → contract.FieldReaderReaderIndex the_index self r self' → Refuses (1 ∷ []) (said_from the_index.counts r self'.at)
  pub field_reader_reader_optional : {I : Type 0} (the_optional_index : optional_index_trait.Ghosts I) (the_index : index_trait.Ghosts I) (self : Reader) (r : Result (Option I) Refusal) (self' : Reader) → contract.FieldReaderReaderOptional the_optional_index the_index self r self' → Refuses (1 ∷ []) (said_from (option_map the_index.counts) r self'.at)
  pub field_number_read_number : (r : Reader) (a : Result Variant Refusal) (r' : Reader) → contract.FieldNumberReadNumber r a r' → Refuses (1 ∷ 11 ∷ []) (said_from variant_told a r'.at)
  pub field_number_read_size : (r : Reader) (a : Result Size Refusal) (r' : Reader) → contract.FieldNumberReadSize r a r' → Refuses (1 ∷ 11 ∷ []) (said_from size_told a r'.at)
  pub field_text_read_string : (r : Reader) (a : Result RawString Refusal) (r' : Reader) → contract.FieldTextReadString r a r' → Refuses (1 ∷ []) (said_from part a r'.at)
  pub stream_finder_create : (s : List ℕ) (t : List ℕ) (r : Result ItemFinder Refusal) (t' : List ℕ) → contract.StreamFinderCreate s t r t' → Refuses (16 ∷ 1 ∷ 2 ∷ 3 ∷ 4 ∷ 5 ∷ 13 ∷ []) (said itself r)
  pub stream_finder_create_by : (s : List ℕ) (t : List ℕ) (shift : ℕ) (r : Result ItemFinder Refusal) (t' : List ℕ) → contract.StreamFinderCreateBy s t shift r t' → Refuses (16 ∷ 1 ∷ 2 ∷ 3 ∷ 4 ∷ 5 ∷ 26 ∷ 13 ∷ []) (said itself r)
  pub stream_finder_begin : (t : List ℕ) (records : Records) (shift : ℕ) (r : Result ItemFinder Refusal) (t' : List ℕ) → contract.StreamFinderBegin t records shift r t' → Refuses (26 ∷ 13 ∷ []) (said itself r)
  pub stream_finder_update : (f : ItemFinder) (t : List ℕ) (c : ItemIter) (r : Result ItemFinder Refusal) (t' : List ℕ) → contract.StreamFinderUpdate f t c r t' → Refuses (16 ∷ 26 ∷ 13 ∷ 14 ∷ []) (said itself r)
  pub stream_finder_lent_item_finder_update : (self : ItemFinder) (t : List ℕ) (c : ItemIter) (r : Result Unit Refusal) (self' : ItemFinder) (t' : List ℕ) → contract.StreamFinderLentItemFinderUpdate self t c r self' t' → Refuses (16 ∷ 26 ∷ 13 ∷ 14 ∷ []) (said itself r)
  pub stream_index_next_and_update : (s : List ℕ) (f : ItemFinder) (t : List ℕ) (c : ItemIter) (r : Result (Option (ItemFinder × ItemIter)) Refusal) (t' : List ℕ) → contract.StreamIndexNextAndUpdate s f t c r t' → Refuses (16 ∷ 1 ∷ 6 ∷ 7 ∷ 26 ∷ 13 ∷ 14 ∷ []) (said_turn r t')
  pub stream_places_load : (s : List ℕ) (f : List ℕ) (t : List ℕ) (r : Result ItemFinder Refusal) (t' : List ℕ) → contract.StreamPlacesLoad s f t r t' → Refuses (16 ∷ 1 ∷ 2 ∷ 3 ∷ 4 ∷ 5 ∷ 20 ∷ 21 ∷ 13 ∷ 22 ∷ []) (said itself r)
  pub stream_places_load_wide : (s : List ℕ) (f : List ℕ) (t : List ℕ) (r : Result ItemFinder Refusal) (t' : List ℕ) → contract.StreamPlacesLoadWide s f t r t' → Refuses (16 ∷ 1 ∷ 2 ∷ 3 ∷ 4 ∷ 5 ∷ 20 ∷ 21 ∷ 13 ∷ 22 ∷ []) (said itself r)
  pub stream_places_save : (s : List ℕ) (f : ItemFinder) (t : List ℕ) (out : List ℕ) (r : Result ℕ Refusal) (out' : List ℕ) → contract.StreamPlacesSave s f t out r out' → Refuses (16 ∷ 1 ∷ 2 ∷ 3 ∷ 4 ∷ 5 ∷ 21 ∷ 26 ∷ 13 ∷ 19 ∷ []) (said itself r)
  pub stream_places_save_wide : (s : List ℕ) (f : ItemFinder) (t : List ℕ) (out : List ℕ) (r : Result ℕ Refusal) (out' : List ℕ) → contract.StreamPlacesSaveWide s f t out r out' → Refuses (16 ∷ 1 ∷ 2 ∷ 3 ∷ 4 ∷ 5 ∷ 21 ∷ 26 ∷ 13 ∷ 19 ∷ []) (said itself r)
  pub stream_report_add : (totals : Totals) (table : List ℕ) (s : List ℕ) (r : Result Totals Refusal) (table' : List ℕ) → contract.StreamReportAdd totals table s r table' → Refuses (27 ∷ 28 ∷ []) (said itself r)
  pub stream_drop_drop : (s : List ℕ) (roots : List ℕ) (table : List ℕ) (out : List ℕ) (r : Result ℕ Refusal) (table' : List ℕ) (out' : List ℕ) → contract.StreamDropDrop s roots table out r table' out' → Refuses (16 ∷ 1 ∷ 2 ∷ 3 ∷ 4 ∷ 5 ∷ 29 ∷ 8 ∷ 13 ∷ 30 ∷ 19 ∷ []) (said itself r)
  pub record_reader_list_reader_step : (self : ListReader) (r : Result Element Refusal) (self' : ListReader) → contract.RecordReaderListReaderStep self r self' → Refuses (15 ∷ 1 ∷ 10 ∷ 11 ∷ []) (said element_values r)
  pub section_finder_create : (s : List ℕ) (t : List ℕ) (r : Result ItemFinder Refusal) (t' : List ℕ) → contract.SectionFinderCreate s t r t' → Refuses (16 ∷ 1 ∷ 25 ∷ 6 ∷ 7 ∷ 26 ∷ 13 ∷ []) (said itself r)
  pub section_finder_create_by : (s : List ℕ) (t : List ℕ) (shift : ℕ) (r : Result ItemFinder Refusal) (t' : List ℕ) → contract.SectionFinderCreateBy s t shift r t' → Refuses (16 ∷ 1 ∷ 25 ∷ 6 ∷ 7 ∷ 26 ∷ 13 ∷ []) (said itself r)
  pub section_stream_to_stream : (s : List ℕ) (out : List ℕ) (r : Result ℕ Refusal) (out' : List ℕ) → contract.SectionStreamToStream s out r out' → Refuses (16 ∷ 1 ∷ 25 ∷ 6 ∷ 7 ∷ 19 ∷ []) (said itself r)
  pub write_header_write_header : (h : Header) (out : List ℕ) (at : ℕ) (r : Result ℕ Refusal) (out' : List ℕ) → contract.WriteHeaderWriteHeader h out at r out' → Refuses (2 ∷ 3 ∷ 4 ∷ 5 ∷ 19 ∷ []) (said itself r)
  pub write_list_write_field_list : (text : List ℕ) (rows : List (List ℕ)) (out : List ℕ) (at : ℕ) (r : Result ℕ Refusal) (out' : List ℕ) → contract.WriteListWriteFieldList text rows out at r out' → Refuses (17 ∷ 18 ∷ 19 ∷ []) (said itself r)
  pub write_list_write_method_list : (text : List ℕ) (rows : List (List ℕ)) (out : List ℕ) (at : ℕ) (r : Result ℕ Refusal) (out' : List ℕ) → contract.WriteListWriteMethodList text rows out at r out' → Refuses (17 ∷ 18 ∷ 19 ∷ []) (said itself r)
  pub write_cells_write_type : (text : List ℕ) (leaf : ℕ) (row : List ℕ) (out : List ℕ) (at : ℕ) (r : Result ℕ Refusal) (out' : List ℕ) → contract.WriteCellsWriteType text leaf row out at r out' → Refuses (17 ∷ 18 ∷ 19 ∷ []) (said itself r)
  pub write_cells_write_id : (text : List ℕ) (leaf : ℕ) (row : List ℕ) (out : List ℕ) (at : ℕ) (r : Result ℕ Refusal) (out' : List ℕ) → contract.WriteCellsWriteId text leaf row out at r out' → Refuses (17 ∷ 18 ∷ 19 ∷ []) (said itself r)
  pub write_pieces_write_plain : (text : List ℕ) (xs : List Piece) (out : List ℕ) (at : ℕ) (r : Result ℕ Refusal) (out' : List ℕ) → contract.WritePiecesWritePlain text xs out at r out' → Refuses (17 ∷ 18 ∷ 19 ∷ []) (said itself r)
  pub write_pieces_write_filled : (text : List ℕ) (xs : List Piece) (out : List ℕ) (at : ℕ) (r : Result ℕ Refusal) (out' : List ℕ) → contract.WritePiecesWriteFilled text xs out at r out' → Refuses (17 ∷ 18 ∷ 19 ∷ []) (said itself r)
