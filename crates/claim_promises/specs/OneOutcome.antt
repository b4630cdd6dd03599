-- One outcome: no two outcomes of a public function meet its contract. A field for each, named as the function; where memory is lent, the outcome is
-- the answer and the memory after; where the answer holds a slice, what that holds, and the other fields. Written by tools/contracts.
use Rattle.std.specs.Borrow.{Bor}
use Rattle.std.specs.Prelude.{Bool, List, ℕ, ◌≡◌}
use Rattle.answer.specs.declared.Refusal.{Refusal}
use Rattle.declare_spelling.specs.declared.Quals.{Quals}
use Rattle.field.specs.declared.index.IdIndex.{IdIndex}
use Rattle.field.specs.declared.index.Index as index_trait
use Rattle.field.specs.declared.index.ItemIndex.{ItemIndex}
use Rattle.field.specs.declared.index.OptionalIndex as optional_index_trait
use Rattle.field.specs.declared.index.Stream.{Stream}
use Rattle.field.specs.declared.index.TypeIndex.{TypeIndex}
use Rattle.field.specs.declared.reader.Reader.{Reader}
use Rattle.field_text.specs.declared.RawString.{RawString}
use Rattle.record_data.specs.declared.TypeData.{TypeData}
use Rattle.record_id.specs.declared.IdData.{IdData}
use Rattle.record_list.specs.declared.Element.{Element}
use Rattle.record_list.specs.declared.ListCursor.{ListCursor}
use Rattle.record_member.specs.declared.Member.{Member}
use Rattle.record_member.specs.declared.MethodListEntry.{MethodListEntry}
use Rattle.record_reader.specs.declared.ListReader.{ListReader}
use Rattle.stream_finder.specs.declared.ItemFinder.{ItemFinder}
use Rattle.stream_finder.specs.declared.Records.{Records}
use Rattle.stream_fit.specs.declared.Rule.{Rule}
use Rattle.stream_header.specs.declared.Header.{Header}
use Rattle.stream_index.specs.declared.Tour.{Tour}
use Rattle.stream_item.specs.declared.Entry.{Entry}
use Rattle.stream_item.specs.declared.iter.ItemIter.{ItemIter}
use Rattle.stream_report.specs.declared.Totals.{Totals}
use Rattle.stream_view.specs.declared.EntryView.{EntryView}
use Rattle.word_attributes.specs.declared.FieldAttributes.{FieldAttributes}
use Rattle.word_attributes.specs.declared.FunctionAttributes.{FunctionAttributes}
use Rattle.word_attributes.specs.declared.ModifierFlags.{ModifierFlags}
use Rattle.word_attributes.specs.declared.PointerAttributes.{PointerAttributes}
use Rattle.word_attributes.specs.declared.TypeProperties.{TypeProperties}
use Rattle.word_primitive.specs.declared.Indirection.{Indirection}
use Rattle.word_primitive.specs.declared.PrimitiveKind.{PrimitiveKind}
use Rattle.write_pieces.specs.declared.Piece.{Piece}
use Rattle.claim_promises.specs.PublicContracts as contract

-- the contract C admits one answer
abbrev pub Once : {R : Type 0} → (R → Type 0) → Type 0
Once {R = R} C = (r q : R) → C r → C q → r ≡ q

-- the contract C admits one answer and one content of the lent memory after it
abbrev pub OnceLent : {R M : Type 0} → (R → M → Type 0) → Type 0
OnceLent {R = R} {M = M} C = (r q : R) (m k : M) → C r m → C q k → (r ≡ q) × (m ≡ k)

-- the same, where memory is lent at two places
abbrev pub OnceLentTwo : {R M N : Type 0} → (R → M → N → Type 0) → Type 0
OnceLentTwo {R = R} {M = M} {N = N} C = (r q : R) (m k : M) (n l : N) → C r m n → C q k l → (r ≡ q) × (m ≡ k) × (n ≡ l)

abbrev pub OnceLentThree : {R M N O : Type 0} → (R → M → N → O → Type 0) → Type 0
OnceLentThree {R = R} {M = M} {N = N} {O = O} C = (r q : R) (m k : M) (n l : N) (o u : O) → C r m n o → C q k l u → (r ≡ q) × (m ≡ k) × (n ≡ l) × (o ≡ u)

pub record OneOutcome : Type 1 where
  -- answer
  pub answer_refusal_number : (self : Refusal) → Once (contract.AnswerRefusalNumber self)
  pub answer_refusal_details : (self : Refusal) → Once (contract.AnswerRefusalDetails self)
  -- answer_name
  pub answer_name_name_of : (e : Refusal) → Once (contract.AnswerNameNameOf e)
  -- declare_spelling
  pub declare_spelling_indirection : (y : Indirection) → Once (contract.DeclareSpellingIndirection y)
  pub declare_spelling_mode : (m : ℕ) → Once (contract.DeclareSpellingMode m)
  pub declare_spelling_qualifiers : (q : Quals) → Once (contract.DeclareSpellingQualifiers q)
  pub declare_spelling_kind_spelled : (k : PrimitiveKind) → Once (contract.DeclareSpellingKindSpelled k)
  pub declare_spelling_kind_size : (k : PrimitiveKind) (by : Indirection) → Once (contract.DeclareSpellingKindSize k by)
  -- declare_type
  pub declare_type_declare : (s : List ℕ) (f : ItemFinder) (t : List ℕ) (i : TypeIndex) (out : List ℕ) → OnceLent (contract.DeclareTypeDeclare s f t i out)
  -- field
  pub field_fixed_u8_at : (s : List ℕ) (p : ℕ) → Once (contract.FieldFixedU8At s p)
  pub field_fixed_u16_at : (s : List ℕ) (p : ℕ) → Once (contract.FieldFixedU16At s p)
  pub field_fixed_u32_at : (s : List ℕ) (p : ℕ) → Once (contract.FieldFixedU32At s p)
  pub field_fixed_u64_at : (s : List ℕ) (p : ℕ) → Once (contract.FieldFixedU64At s p)
  pub field_index_stream_index : (self : Stream) (n : ℕ) → Once (contract.FieldIndexStreamIndex self n)
  pub field_index_item_index_stream : (self : ItemIndex) → Once (contract.FieldIndexItemIndexStream self)
  pub field_index_item_index_number : (self : ItemIndex) → Once (contract.FieldIndexItemIndexNumber self)
  pub field_index_type_index_is_cross_module : (self : TypeIndex) → Once (contract.FieldIndexTypeIndexIsCrossModule self)
  pub field_index_type_index_optional : (self : TypeIndex) → Once (contract.FieldIndexTypeIndexOptional self)
  pub field_index_id_index_is_cross_module : (self : IdIndex) → Once (contract.FieldIndexIdIndexIsCrossModule self)
  pub field_index_id_index_optional : (self : IdIndex) → Once (contract.FieldIndexIdIndexOptional self)
  pub field_index_type_at : (s : List ℕ) (p : ℕ) → Once (contract.FieldIndexTypeAt s p)
  pub field_index_id_at : (s : List ℕ) (p : ℕ) → Once (contract.FieldIndexIdAt s p)
  pub field_index_string_ref_at : (s : List ℕ) (p : ℕ) → Once (contract.FieldIndexStringRefAt s p)
  pub field_index_optional_type_at : (s : List ℕ) (p : ℕ) → Once (contract.FieldIndexOptionalTypeAt s p)
  pub field_index_optional_id_at : (s : List ℕ) (p : ℕ) → Once (contract.FieldIndexOptionalIdAt s p)
  pub field_index_type_index_index_from_number : (n : ℕ) → Once (contract.FieldIndexTypeIndexIndexFromNumber n)
  pub field_index_id_index_index_from_number : (n : ℕ) → Once (contract.FieldIndexIdIndexIndexFromNumber n)
  pub field_index_string_ref_index_from_number : (n : ℕ) → Once (contract.FieldIndexStringRefIndexFromNumber n)
  pub field_index_type_index_optional_index_or_none : (self : TypeIndex) → Once (contract.FieldIndexTypeIndexOptionalIndexOrNone self)
  pub field_index_id_index_optional_index_or_none : (self : IdIndex) → Once (contract.FieldIndexIdIndexOptionalIndexOrNone self)
  pub field_reader_reader_u8 : (self : Reader) → OnceLent (contract.FieldReaderReaderU8 self)
  pub field_reader_reader_u16 : (self : Reader) → OnceLent (contract.FieldReaderReaderU16 self)
  pub field_reader_reader_u32 : (self : Reader) → OnceLent (contract.FieldReaderReaderU32 self)
  pub field_reader_reader_skip : (self : Reader) (n : ℕ) → OnceLent (contract.FieldReaderReaderSkip self n)
  pub field_reader_reader_index : {I : Type 0} (the_index : index_trait.Ghosts I) (self : Reader) → ((n : ℕ) → the_index.counts (the_index.counted n) ≡ n) → ((i : I) → the_index.counted (the_index.counts i) ≡ i) → OnceLent (contract.FieldReaderReaderIndex the_index self)
  pub field_reader_reader_optional : {I : Type 0} (the_optional_index : optional_index_trait.Ghosts I) (the_index : index_trait.Ghosts I) (self : Reader) → ((n : ℕ) → the_index.counts (the_index.counted n) ≡ n) → ((i : I) → the_index.counted (the_index.counts i) ≡ i) → OnceLent (contract.FieldReaderReaderOptional the_optional_index the_index self)
  pub field_run_after_bytes : (s : List ℕ) (p : ℕ) (n : ℕ) → Once (contract.FieldRunAfterBytes s p n)
  pub field_run_bytes_at : (s : List ℕ) (p : ℕ) (n : ℕ) → Once (contract.FieldRunBytesAt s p n)
  -- field_number
  pub field_number_number_at : (s : List ℕ) (p : ℕ) → Once (contract.FieldNumberNumberAt s p)
  pub field_number_size_at : (s : List ℕ) (p : ℕ) → Once (contract.FieldNumberSizeAt s p)
  pub field_number_read_number : (r : Reader) → OnceLent (contract.FieldNumberReadNumber r)
  pub field_number_read_size : (r : Reader) → OnceLent (contract.FieldNumberReadSize r)
  -- field_put
  pub field_put_put8 : (out : List ℕ) (p : ℕ) (x : ℕ) → OnceLent (contract.FieldPutPut8 out p x)
  pub field_put_put16 : (out : List ℕ) (p : ℕ) (x : ℕ) → OnceLent (contract.FieldPutPut16 out p x)
  pub field_put_put32 : (out : List ℕ) (p : ℕ) (x : ℕ) → OnceLent (contract.FieldPutPut32 out p x)
  pub field_put_put_all : (out : List ℕ) (p : ℕ) (xs : List ℕ) → OnceLent (contract.FieldPutPutAll out p xs)
  -- field_text
  pub field_text_string_at : (s : List ℕ) (p : ℕ) → Once (contract.FieldTextStringAt s p)
  pub field_text_read_string : (r : Reader) → OnceLent (contract.FieldTextReadString r)
  pub field_text_raw_string_bytes : (self : RawString) (s : List ℕ) → Once (contract.FieldTextRawStringBytes self s)
  pub field_text_string_of : (leaf : ℕ) (s : List ℕ) (p : ℕ) → Once (contract.FieldTextStringOf leaf s p)
  pub field_text_after_padding : (s : List ℕ) (p : ℕ) → Once (contract.FieldTextAfterPadding s p)
  -- pane
  pub pane_pdb_header : (s : List ℕ) → OnceLent (contract.PanePdbHeader s)
  pub pane_pdb_next : (s : List ℕ) (at : ℕ) (index : ℕ) → OnceLent (contract.PanePdbNext s at index)
  pub pane_pdb_update : (table : List ℕ) (minimum : ℕ) (maximum : ℕ) (held : ℕ) (shift : ℕ) (at : ℕ) (index : ℕ) → OnceLentTwo (contract.PanePdbUpdate table minimum maximum held shift at index)
  pub pane_pdb_find : (s : List ℕ) (table : List ℕ) (minimum : ℕ) (maximum : ℕ) (held : ℕ) (shift : ℕ) (index : ℕ) → OnceLent (contract.PanePdbFind s table minimum maximum held shift index)
  pub pane_pdb_primitive : (index : ℕ) → OnceLent (contract.PanePdbPrimitive index)
  -- pane_declare
  pub pane_declare_pdb_declare : (s : List ℕ) (table : List ℕ) (minimum : ℕ) (maximum : ℕ) (held : ℕ) (shift : ℕ) (index : ℕ) (buffer : List ℕ) → OnceLentTwo (contract.PaneDeclarePdbDeclare s table minimum maximum held shift index buffer)
  -- pane_drop
  pub pane_drop_pdb_drop : (s : List ℕ) (roots : List ℕ) (table : List ℕ) (buffer : List ℕ) → OnceLentThree (contract.PaneDropPdbDrop s roots table buffer)
  -- pane_fit
  pub pane_fit_pdb_fit : (s : List ℕ) → OnceLent (contract.PaneFitPdbFit s)
  -- pane_index
  pub pane_index_pdb_create : (s : List ℕ) (table : List ℕ) (shift : ℕ) → OnceLentTwo (contract.PaneIndexPdbCreate s table shift)
  pub pane_index_pdb_index : (s : List ℕ) (table : List ℕ) (shift : ℕ) → OnceLentTwo (contract.PaneIndexPdbIndex s table shift)
  pub pane_index_pdb_max_index : (minimum : ℕ) (maximum : ℕ) (held : ℕ) (shift : ℕ) → Once (contract.PaneIndexPdbMaxIndex minimum maximum held shift)
  pub pane_index_pdb_view : (tpi : List ℕ) (ipi : List ℕ) (ids : ℕ) (item : ℕ) (index : ℕ) (place : ℕ) (length : ℕ) → OnceLent (contract.PaneIndexPdbView tpi ipi ids item index place length)
  pub pane_index_pdb_kind : (tpi : List ℕ) (ipi : List ℕ) (ids : ℕ) (item : ℕ) (index : ℕ) (place : ℕ) (length : ℕ) → OnceLent (contract.PaneIndexPdbKind tpi ipi ids item index place length)
  pub pane_index_pdb_load : (s : List ℕ) (file : List ℕ) (table : List ℕ) → OnceLentTwo (contract.PaneIndexPdbLoad s file table)
  pub pane_index_pdb_load_short : (s : List ℕ) (file : List ℕ) (table : List ℕ) → OnceLentTwo (contract.PaneIndexPdbLoadShort s file table)
  pub pane_index_pdb_save : (s : List ℕ) (table : List ℕ) (minimum : ℕ) (maximum : ℕ) (held : ℕ) (shift : ℕ) (buffer : List ℕ) → OnceLentTwo (contract.PaneIndexPdbSave s table minimum maximum held shift buffer)
  pub pane_index_pdb_save_short : (s : List ℕ) (table : List ℕ) (minimum : ℕ) (maximum : ℕ) (held : ℕ) (shift : ℕ) (buffer : List ℕ) → OnceLentTwo (contract.PaneIndexPdbSaveShort s table minimum maximum held shift buffer)
  -- pane_out
  pub pane_out_first : (e : Refusal) → Once (contract.PaneOutFirst e)
  pub pane_out_second : (e : Refusal) → Once (contract.PaneOutSecond e)
  pub pane_out_refused : (e : Refusal) (out : List ℕ) → OnceLent (contract.PaneOutRefused e out)
  pub pane_out_is_set : (n : ℕ) → Once (contract.PaneOutIsSet n)
  pub pane_out_flag : (b : Bool) → Once (contract.PaneOutFlag b)
  -- pane_parse
  pub pane_parse_pdb_parse : (tpi : List ℕ) (ipi : List ℕ) (ids : ℕ) (item : ℕ) (index : ℕ) (place : ℕ) (length : ℕ) → OnceLent (contract.PaneParsePdbParse tpi ipi ids item index place length)
  pub pane_parse_pdb_section_read : (s : List ℕ) (index : ℕ) (place : ℕ) (length : ℕ) → OnceLent (contract.PaneParsePdbSectionRead s index place length)
  -- pane_record
  pub pane_record_pdb_type : (s : List ℕ) → OnceLent (contract.PaneRecordPdbType s)
  pub pane_record_pdb_id : (s : List ℕ) → OnceLent (contract.PaneRecordPdbId s)
  pub pane_record_pdb_list : (s : List ℕ) (ids : ℕ) → OnceLent (contract.PaneRecordPdbList s ids)
  pub pane_record_pdb_step : (s : List ℕ) (leaf : ℕ) (at : ℕ) (left : ℕ) (padded : ℕ) → OnceLent (contract.PaneRecordPdbStep s leaf at left padded)
  -- pane_report
  pub pane_report_pdb_report : (s : List ℕ) (taken : ℕ) (refused : ℕ) (headers : ℕ) (records : ℕ) (bytes : ℕ) (length : ℕ) (stream : ℕ) (index : ℕ) (rows : ℕ) (table : List ℕ) → OnceLentTwo (contract.PaneReportPdbReport s taken refused headers records bytes length stream index rows table)
  -- pane_row
  pub pane_row_type_row : (d : TypeData) → Once (contract.PaneRowTypeRow d)
  pub pane_row_id_row : (d : IdData) → Once (contract.PaneRowIdRow d)
  pub pane_row_cursor_row : (c : ListCursor) → Once (contract.PaneRowCursorRow c)
  pub pane_row_member_row : (at : ℕ) (left : ℕ) (padded : ℕ) (m : Member) → Once (contract.PaneRowMemberRow at left padded m)
  pub pane_row_entry_row : (at : ℕ) (left : ℕ) (padded : ℕ) (m : MethodListEntry) → Once (contract.PaneRowEntryRow at left padded m)
  pub pane_row_index_row : (at : ℕ) (left : ℕ) (padded : ℕ) (i : ℕ) → Once (contract.PaneRowIndexRow at left padded i)
  -- pane_section
  pub pane_section_pdb_section_start : (s : List ℕ) → OnceLent (contract.PaneSectionPdbSectionStart s)
  pub pane_section_pdb_section_count : (s : List ℕ) → OnceLent (contract.PaneSectionPdbSectionCount s)
  pub pane_section_pdb_section_create : (s : List ℕ) (table : List ℕ) (shift : ℕ) → OnceLentTwo (contract.PaneSectionPdbSectionCreate s table shift)
  pub pane_section_pdb_section_index : (s : List ℕ) (table : List ℕ) (shift : ℕ) → OnceLentTwo (contract.PaneSectionPdbSectionIndex s table shift)
  pub pane_section_pdb_section_stream : (s : List ℕ) (buffer : List ℕ) → OnceLentTwo (contract.PaneSectionPdbSectionStream s buffer)
  pub pane_section_pdb_section_list : (s : List ℕ) → OnceLent (contract.PaneSectionPdbSectionList s)
  -- pane_state
  pub pane_state_cursor_given : (at : ℕ) (index : ℕ) → Once (contract.PaneStateCursorGiven at index)
  pub pane_state_finder_given : (minimum : ℕ) (maximum : ℕ) (held : ℕ) (shift : ℕ) → Once (contract.PaneStateFinderGiven minimum maximum held shift)
  pub pane_state_finder_out : (f : ItemFinder) → Once (contract.PaneStateFinderOut f)
  pub pane_state_walk_out : (t : Tour) → Once (contract.PaneStateWalkOut t)
  pub pane_state_entry_of : (ids : ℕ) (item : ℕ) (index : ℕ) (place : ℕ) (length : ℕ) → Once (contract.PaneStateEntryOf ids item index place length)
  -- pane_word
  pub pane_word_pdb_string : (s : List ℕ) (leaf : ℕ) (at : ℕ) → OnceLent (contract.PaneWordPdbString s leaf at)
  pub pane_word_pdb_padding : (s : List ℕ) (at : ℕ) → OnceLent (contract.PaneWordPdbPadding s at)
  pub pane_word_pdb_size : (s : List ℕ) (at : ℕ) → OnceLent (contract.PaneWordPdbSize s at)
  pub pane_word_pdb_number : (s : List ℕ) (at : ℕ) → OnceLent (contract.PaneWordPdbNumber s at)
  pub pane_word_pdb_optional_type : (index : ℕ) → Once (contract.PaneWordPdbOptionalType index)
  pub pane_word_pdb_optional_id : (index : ℕ) → Once (contract.PaneWordPdbOptionalId index)
  pub pane_word_pdb_is_cross_module : (index : ℕ) → Once (contract.PaneWordPdbIsCrossModule index)
  pub pane_word_pdb_properties : (word : ℕ) → OnceLent (contract.PaneWordPdbProperties word)
  pub pane_word_pdb_field_attributes : (word : ℕ) → OnceLent (contract.PaneWordPdbFieldAttributes word)
  pub pane_word_pdb_function_attributes : (word : ℕ) → OnceLent (contract.PaneWordPdbFunctionAttributes word)
  pub pane_word_pdb_pointer_attributes : (word : ℕ) → OnceLent (contract.PaneWordPdbPointerAttributes word)
  -- pane_write
  pub pane_write_pdb_write_type : (text : List ℕ) (leaf : ℕ) (cells : List ℕ) (buffer : List ℕ) (at : ℕ) → OnceLentTwo (contract.PaneWritePdbWriteType text leaf cells buffer at)
  pub pane_write_pdb_write_id : (text : List ℕ) (leaf : ℕ) (cells : List ℕ) (buffer : List ℕ) (at : ℕ) → OnceLentTwo (contract.PaneWritePdbWriteId text leaf cells buffer at)
  pub pane_write_pdb_write_fields : (text : List ℕ) (rows : List (List ℕ)) (buffer : List ℕ) (at : ℕ) → OnceLentTwo (contract.PaneWritePdbWriteFields text rows buffer at)
  pub pane_write_pdb_write_methods : (text : List ℕ) (rows : List (List ℕ)) (buffer : List ℕ) (at : ℕ) → OnceLentTwo (contract.PaneWritePdbWriteMethods text rows buffer at)
  pub pane_write_pdb_write_header : (fields : List ℕ) (stream : ℕ) (pad : ℕ) (buffer : List ℕ) (at : ℕ) → OnceLentTwo (contract.PaneWritePdbWriteHeader fields stream pad buffer at)
  pub pane_write_pdb_cells : (s : List ℕ) (ids : ℕ) (cells : List ℕ) → OnceLentTwo (contract.PaneWritePdbCells s ids cells)
  pub pane_write_pdb_layout : (which : ℕ) (leaf : ℕ) → Once (contract.PaneWritePdbLayout which leaf)
  -- record_cells
  pub record_cells_type_cells : (s : List ℕ) (leaf : ℕ) (at : ℕ) (out : List ℕ) → OnceLent (contract.RecordCellsTypeCells s leaf at out)
  pub record_cells_id_cells : (s : List ℕ) (leaf : ℕ) (at : ℕ) (out : List ℕ) → OnceLent (contract.RecordCellsIdCells s leaf at out)
  pub record_cells_layout_type_layout : (leaf : ℕ) → Once (contract.RecordCellsLayoutTypeLayout leaf)
  pub record_cells_layout_member_layout : (leaf : ℕ) → Once (contract.RecordCellsLayoutMemberLayout leaf)
  pub record_cells_layout_method_layout : Once (contract.RecordCellsLayoutMethodLayout)
  pub record_cells_layout_id_layout : (leaf : ℕ) → Once (contract.RecordCellsLayoutIdLayout leaf)
  -- record_data
  pub record_data_type_data_name : (self : TypeData) → Once (contract.RecordDataTypeDataName self)
  pub record_data_type_data : (s : List ℕ) → Once (contract.RecordDataTypeData s)
  -- record_id
  pub record_id_id_data : (s : List ℕ) → Once (contract.RecordIdIdData s)
  -- record_list
  pub record_list_start : (stream : Stream) (s : List ℕ) → Once (contract.RecordListStart stream s)
  pub record_list_step : (s : List ℕ) (c : ListCursor) → Once (contract.RecordListStep s c)
  pub record_list_element_from : (s : List ℕ) (c : ListCursor) (k : ℕ) → Once (contract.RecordListElementFrom s c k)
  -- record_member
  pub record_member_member_name : (self : Member) → Once (contract.RecordMemberMemberName self)
  pub record_member_member_at : (s : List ℕ) (p : ℕ) → Once (contract.RecordMemberMemberAt s p)
  pub record_member_method_entry_at : (s : List ℕ) (p : ℕ) → Once (contract.RecordMemberMethodEntryAt s p)
  -- record_parse
  pub record_parse_parse : (tpi : List ℕ) (ipi : List ℕ) (entry : Entry) → Once (contract.RecordParseParse tpi ipi entry)
  -- record_reader
  pub record_reader_list_reader_new : (bytes : Bor (List ℕ)) (cursor : ListCursor) → Once (contract.RecordReaderListReaderNew bytes cursor)
  pub record_reader_list_reader_element : (self : ListReader) (k : ℕ) → Once (contract.RecordReaderListReaderElement self k)
  pub record_reader_list_reader_step : (self : ListReader) → OnceLent (contract.RecordReaderListReaderStep self)
  pub record_reader_nth : (stream : Stream) (s : List ℕ) (k : ℕ) → Once (contract.RecordReaderNth stream s k)
  -- record_reference
  pub record_reference_record_references : (d : TypeData) → Once (contract.RecordReferenceRecordReferences d)
  pub record_reference_element_references : (e : Element) → Once (contract.RecordReferenceElementReferences e)
  -- section_finder
  pub section_finder_create : (s : List ℕ) (t : List ℕ) → OnceLent (contract.SectionFinderCreate s t)
  pub section_finder_create_by : (s : List ℕ) (t : List ℕ) (shift : ℕ) → OnceLent (contract.SectionFinderCreateBy s t shift)
  pub section_finder_index_all : (s : List ℕ) (t : List ℕ) → OnceLent (contract.SectionFinderIndexAll s t)
  pub section_finder_index_all_by : (s : List ℕ) (t : List ℕ) (shift : ℕ) → OnceLent (contract.SectionFinderIndexAllBy s t shift)
  -- section_item
  pub section_item_iter : (s : List ℕ) → Once (contract.SectionItemIter s)
  pub section_item_len : (s : List ℕ) → Once (contract.SectionItemLen s)
  -- section_read
  pub section_read_parse : (s : List ℕ) (entry : Entry) → Once (contract.SectionReadParse s entry)
  pub section_read_start : (bytes : List ℕ) → Once (contract.SectionReadStart bytes)
  -- section_stream
  pub section_stream_to_stream : (s : List ℕ) (out : List ℕ) → OnceLent (contract.SectionStreamToStream s out)
  -- stream_drop
  pub stream_drop_drop : (s : List ℕ) (roots : List ℕ) (table : List ℕ) (out : List ℕ) → OnceLentTwo (contract.StreamDropDrop s roots table out)
  -- stream_finder
  pub stream_finder_create : (s : List ℕ) (t : List ℕ) → OnceLent (contract.StreamFinderCreate s t)
  pub stream_finder_create_by : (s : List ℕ) (t : List ℕ) (shift : ℕ) → OnceLent (contract.StreamFinderCreateBy s t shift)
  pub stream_finder_begin : (t : List ℕ) (records : Records) (shift : ℕ) → OnceLent (contract.StreamFinderBegin t records shift)
  pub stream_finder_update : (f : ItemFinder) (t : List ℕ) (c : ItemIter) → OnceLent (contract.StreamFinderUpdate f t c)
  pub stream_finder_item_finder_max_type_index : (self : ItemFinder) → Once (contract.StreamFinderItemFinderMaxTypeIndex self)
  pub stream_finder_item_finder_max_id_index : (self : ItemFinder) → Once (contract.StreamFinderItemFinderMaxIdIndex self)
  pub stream_finder_find_type : (s : List ℕ) (f : ItemFinder) (t : List ℕ) (i : TypeIndex) → Once (contract.StreamFinderFindType s f t i)
  pub stream_finder_find_id : (s : List ℕ) (f : ItemFinder) (t : List ℕ) (i : IdIndex) → Once (contract.StreamFinderFindId s f t i)
  pub stream_finder_lent_item_finder_update : (self : ItemFinder) (t : List ℕ) (c : ItemIter) → OnceLentTwo (contract.StreamFinderLentItemFinderUpdate self t c)
  -- stream_fit
  pub stream_fit_rule_number : (self : Rule) → Once (contract.StreamFitRuleNumber self)
  pub stream_fit_fit : (s : List ℕ) → Once (contract.StreamFitFit s)
  -- stream_header
  pub stream_header_header_parse : (s : List ℕ) → Once (contract.StreamHeaderHeaderParse s)
  pub stream_header_header_count : (self : Header) → Once (contract.StreamHeaderHeaderCount self)
  -- stream_index
  pub stream_index_next_and_update : (s : List ℕ) (f : ItemFinder) (t : List ℕ) (c : ItemIter) → OnceLent (contract.StreamIndexNextAndUpdate s f t c)
  pub stream_index_index_on : (s : List ℕ) (f : ItemFinder) (t : List ℕ) (c : ItemIter) → OnceLent (contract.StreamIndexIndexOn s f t c)
  pub stream_index_index_all : (stream : Stream) (s : List ℕ) (t : List ℕ) → OnceLent (contract.StreamIndexIndexAll stream s t)
  pub stream_index_index_all_by : (stream : Stream) (s : List ℕ) (t : List ℕ) (shift : ℕ) → OnceLent (contract.StreamIndexIndexAllBy stream s t shift)
  -- stream_item
  pub stream_item_entry_index : (self : Entry) → Once (contract.StreamItemEntryIndex self)
  pub stream_item_entry_len : (self : Entry) → Once (contract.StreamItemEntryLen self)
  pub stream_item_entry_is_empty : (self : Entry) → Once (contract.StreamItemEntryIsEmpty self)
  pub stream_item_information_len : (s : List ℕ) → Once (contract.StreamItemInformationLen s)
  pub stream_item_information_is_empty : (s : List ℕ) → Once (contract.StreamItemInformationIsEmpty s)
  pub stream_item_iter_iter : (stream : Stream) (s : List ℕ) → Once (contract.StreamItemIterIter stream s)
  pub stream_item_iter_next : (s : List ℕ) (c : ItemIter) → Once (contract.StreamItemIterNext s c)
  pub stream_item_link_link_of : (s : List ℕ) (p : ℕ) (k : ℕ) → Once (contract.StreamItemLinkLinkOf s p k)
  -- stream_places
  pub stream_places_load : (s : List ℕ) (f : List ℕ) (t : List ℕ) → OnceLent (contract.StreamPlacesLoad s f t)
  pub stream_places_load_wide : (s : List ℕ) (f : List ℕ) (t : List ℕ) → OnceLent (contract.StreamPlacesLoadWide s f t)
  pub stream_places_save : (s : List ℕ) (f : ItemFinder) (t : List ℕ) (out : List ℕ) → OnceLent (contract.StreamPlacesSave s f t out)
  pub stream_places_save_wide : (s : List ℕ) (f : ItemFinder) (t : List ℕ) (out : List ℕ) → OnceLent (contract.StreamPlacesSaveWide s f t out)
  pub stream_places_trailer_trailer_parse : (f : List ℕ) → Once (contract.StreamPlacesTrailerTrailerParse f)
  pub stream_places_trailer_trailer_parse_wide : (f : List ℕ) → Once (contract.StreamPlacesTrailerTrailerParseWide f)
  -- stream_report
  pub stream_report_new : Once (contract.StreamReportNew)
  pub stream_report_add : (totals : Totals) (table : List ℕ) (s : List ℕ) → OnceLent (contract.StreamReportAdd totals table s)
  -- stream_view
  pub stream_view_view_answer : (tpi : List ℕ) (ipi : List ℕ) (entry : Entry) → Once (contract.StreamViewViewAnswer tpi ipi entry)
  pub stream_view_bytes_of : (tpi : List ℕ) (ipi : List ℕ) (entry : Entry) → Once (contract.StreamViewBytesOf tpi ipi entry)
  pub stream_view_view : (tpi : List ℕ) (ipi : List ℕ) (entry : Entry) (r q : EntryView) → contract.StreamViewView tpi ipi entry r → contract.StreamViewView tpi ipi entry q → (r.bytes.now ≡ q.bytes.now) × (r.answer ≡ q.answer)
  pub stream_view_raw_kind : (tpi : List ℕ) (ipi : List ℕ) (entry : Entry) → Once (contract.StreamViewRawKind tpi ipi entry)
  -- word_attributes
  pub word_attributes_type_properties_packed : (self : TypeProperties) → Once (contract.WordAttributesTypePropertiesPacked self)
  pub word_attributes_type_properties_constructors : (self : TypeProperties) → Once (contract.WordAttributesTypePropertiesConstructors self)
  pub word_attributes_type_properties_overloaded_operators : (self : TypeProperties) → Once (contract.WordAttributesTypePropertiesOverloadedOperators self)
  pub word_attributes_type_properties_is_nested_type : (self : TypeProperties) → Once (contract.WordAttributesTypePropertiesIsNestedType self)
  pub word_attributes_type_properties_contains_nested_types : (self : TypeProperties) → Once (contract.WordAttributesTypePropertiesContainsNestedTypes self)
  pub word_attributes_type_properties_overloaded_assignment : (self : TypeProperties) → Once (contract.WordAttributesTypePropertiesOverloadedAssignment self)
  pub word_attributes_type_properties_overloaded_casting : (self : TypeProperties) → Once (contract.WordAttributesTypePropertiesOverloadedCasting self)
  pub word_attributes_type_properties_forward_reference : (self : TypeProperties) → Once (contract.WordAttributesTypePropertiesForwardReference self)
  pub word_attributes_type_properties_scoped_definition : (self : TypeProperties) → Once (contract.WordAttributesTypePropertiesScopedDefinition self)
  pub word_attributes_type_properties_has_unique_name : (self : TypeProperties) → Once (contract.WordAttributesTypePropertiesHasUniqueName self)
  pub word_attributes_type_properties_sealed : (self : TypeProperties) → Once (contract.WordAttributesTypePropertiesSealed self)
  pub word_attributes_type_properties_intrinsic_type : (self : TypeProperties) → Once (contract.WordAttributesTypePropertiesIntrinsicType self)
  pub word_attributes_type_properties_hfa : (self : TypeProperties) → Once (contract.WordAttributesTypePropertiesHfa self)
  pub word_attributes_type_properties_mocom : (self : TypeProperties) → Once (contract.WordAttributesTypePropertiesMocom self)
  pub word_attributes_field_attributes_access : (self : FieldAttributes) → Once (contract.WordAttributesFieldAttributesAccess self)
  pub word_attributes_field_attributes_method_properties : (self : FieldAttributes) → Once (contract.WordAttributesFieldAttributesMethodProperties self)
  pub word_attributes_field_attributes_is_static : (self : FieldAttributes) → Once (contract.WordAttributesFieldAttributesIsStatic self)
  pub word_attributes_field_attributes_is_virtual : (self : FieldAttributes) → Once (contract.WordAttributesFieldAttributesIsVirtual self)
  pub word_attributes_field_attributes_is_pure_virtual : (self : FieldAttributes) → Once (contract.WordAttributesFieldAttributesIsPureVirtual self)
  pub word_attributes_field_attributes_is_intro_virtual : (self : FieldAttributes) → Once (contract.WordAttributesFieldAttributesIsIntroVirtual self)
  pub word_attributes_function_attributes_calling_convention : (self : FunctionAttributes) → Once (contract.WordAttributesFunctionAttributesCallingConvention self)
  pub word_attributes_function_attributes_cxx_return_udt : (self : FunctionAttributes) → Once (contract.WordAttributesFunctionAttributesCxxReturnUdt self)
  pub word_attributes_function_attributes_is_constructor : (self : FunctionAttributes) → Once (contract.WordAttributesFunctionAttributesIsConstructor self)
  pub word_attributes_function_attributes_is_constructor_with_virtual_bases : (self : FunctionAttributes) → Once (contract.WordAttributesFunctionAttributesIsConstructorWithVirtualBases self)
  pub word_attributes_modifier_flags_constant : (self : ModifierFlags) → Once (contract.WordAttributesModifierFlagsConstant self)
  pub word_attributes_modifier_flags_volatile : (self : ModifierFlags) → Once (contract.WordAttributesModifierFlagsVolatile self)
  pub word_attributes_modifier_flags_unaligned : (self : ModifierFlags) → Once (contract.WordAttributesModifierFlagsUnaligned self)
  pub word_attributes_pointer_attributes_pointer_kind : (self : PointerAttributes) → Once (contract.WordAttributesPointerAttributesPointerKind self)
  pub word_attributes_pointer_attributes_pointer_mode : (self : PointerAttributes) → Once (contract.WordAttributesPointerAttributesPointerMode self)
  pub word_attributes_pointer_attributes_pointer_to_member : (self : PointerAttributes) → Once (contract.WordAttributesPointerAttributesPointerToMember self)
  pub word_attributes_pointer_attributes_is_flat_32 : (self : PointerAttributes) → Once (contract.WordAttributesPointerAttributesIsFlat32 self)
  pub word_attributes_pointer_attributes_is_volatile : (self : PointerAttributes) → Once (contract.WordAttributesPointerAttributesIsVolatile self)
  pub word_attributes_pointer_attributes_is_const : (self : PointerAttributes) → Once (contract.WordAttributesPointerAttributesIsConst self)
  pub word_attributes_pointer_attributes_is_unaligned : (self : PointerAttributes) → Once (contract.WordAttributesPointerAttributesIsUnaligned self)
  pub word_attributes_pointer_attributes_is_restrict : (self : PointerAttributes) → Once (contract.WordAttributesPointerAttributesIsRestrict self)
  pub word_attributes_pointer_attributes_is_reference : (self : PointerAttributes) → Once (contract.WordAttributesPointerAttributesIsReference self)
  pub word_attributes_pointer_attributes_size : (self : PointerAttributes) → Once (contract.WordAttributesPointerAttributesSize self)
  pub word_attributes_pointer_attributes_is_mocom : (self : PointerAttributes) → Once (contract.WordAttributesPointerAttributesIsMocom self)
  -- word_primitive
  pub word_primitive_primitive : (index : TypeIndex) → Once (contract.WordPrimitivePrimitive index)
  -- write_cells
  pub write_cells_write_type : (text : List ℕ) (leaf : ℕ) (row : List ℕ) (out : List ℕ) (at : ℕ) → OnceLent (contract.WriteCellsWriteType text leaf row out at)
  pub write_cells_write_id : (text : List ℕ) (leaf : ℕ) (row : List ℕ) (out : List ℕ) (at : ℕ) → OnceLent (contract.WriteCellsWriteId text leaf row out at)
  -- write_header
  pub write_header_write_header : (h : Header) (out : List ℕ) (at : ℕ) → OnceLent (contract.WriteHeaderWriteHeader h out at)
  -- write_list
  pub write_list_write_field_list : (text : List ℕ) (rows : List (List ℕ)) (out : List ℕ) (at : ℕ) → OnceLent (contract.WriteListWriteFieldList text rows out at)
  pub write_list_write_method_list : (text : List ℕ) (rows : List (List ℕ)) (out : List ℕ) (at : ℕ) → OnceLent (contract.WriteListWriteMethodList text rows out at)
  pub write_list_rows_of_member : (m : Member) → Once (contract.WriteListRowsOfMember m)
  pub write_list_rows_of_method : (m : MethodListEntry) → Once (contract.WriteListRowsOfMethod m)
  -- write_pieces
  pub write_pieces_capped_sum : (n : ℕ) (k : ℕ) → Once (contract.WritePiecesCappedSum n k)
  pub write_pieces_measured : (text : List ℕ) (xs : List Piece) → Once (contract.WritePiecesMeasured text xs)
  pub write_pieces_write_plain : (text : List ℕ) (xs : List Piece) (out : List ℕ) (at : ℕ) → OnceLent (contract.WritePiecesWritePlain text xs out at)
  pub write_pieces_write_filled : (text : List ℕ) (xs : List Piece) (out : List ℕ) (at : ℕ) → OnceLent (contract.WritePiecesWriteFilled text xs out at)
  pub write_pieces_fields_two_bytes : (x : ℕ) → Once (contract.WritePiecesFieldsTwoBytes x)
  pub write_pieces_fields_natural : (n : ℕ) → Once (contract.WritePiecesFieldsNatural n)
  pub write_pieces_fields_unnamed : Once (contract.WritePiecesFieldsUnnamed)
