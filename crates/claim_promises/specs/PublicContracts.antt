-- The contract of each public function, word for word as its source has it, over the arguments' values. Written by tools/contracts.
use Rattle.std.specs.Borrow.{Bor}
use Rattle.std.specs.Prelude.{Bool, List, OnErr, Option, Result, Some, [], eqb, get_or, leb, length, min, option_map, pos, ℕ, ◌+◌, ◌-◌, ◌∷◌, ◌≡◌}
use Rattle.answer.specs.Answer.{answered, then}
use Rattle.answer.specs.Details.{details_value}
use Rattle.answer.specs.Refusals.{details_of, itself, number_of, said, said_from, said_on, said_read}
use Rattle.answer.specs.Tables.{find}
use Rattle.answer.specs.declared.Details.{Details}
use Rattle.answer.specs.declared.Refusal.{Refusal}
use Rattle.answer_name.specs.Names.{name_text}
use Rattle.declare_spelling.specs.Sizes.{primitive_size}
use Rattle.declare_spelling.specs.Spelled.{Spells}
use Rattle.declare_spelling.specs.Spellings.{indirection_text, kind_text, mode_text, quals_text}
use Rattle.declare_spelling.specs.declared.Quals.{Quals}
use Rattle.declare_spelling.specs.declared.Spelling.{Spelling}
use Rattle.declare_type.specs.Declares.{Declares, declare_of}
use Rattle.field.specs.Bytes.{bytes as bytes_of_field}
use Rattle.field.specs.Fields.{fixed_at}
use Rattle.field.specs.Indices.{id_option, index_in, index_number, no_id, no_type, optional_at, optional_of, said_id, said_string_ref, said_type, stream_in, type_option}
use Rattle.field.specs.Runs.{bytes_after, bytes_at}
use Rattle.field.specs.declared.index.IdIndex.{IdIndex}
use Rattle.field.specs.declared.index.Index as index_trait
use Rattle.field.specs.declared.index.ItemIndex.TheVariants as item_index
use Rattle.field.specs.declared.index.ItemIndex.{ItemIndex}
use Rattle.field.specs.declared.index.OptionalIndex as optional_index_trait
use Rattle.field.specs.declared.index.Stream.TheVariants.{Types}
use Rattle.field.specs.declared.index.Stream.{Stream}
use Rattle.field.specs.declared.index.StringRef.{StringRef}
use Rattle.field.specs.declared.index.TypeIndex.{TypeIndex}
use Rattle.field.specs.declared.reader.Reader.{Reader}
use Rattle.field_number.specs.Forms.{numeral_at, size_told, sized_at, variant_told}
use Rattle.field_number.specs.declared.Size.{Size}
use Rattle.field_number.specs.declared.Variant.{Variant}
use Rattle.field_put.specs.Bytes.{Lays, bytes as bytes_of_field_put}
use Rattle.field_text.specs.Texts.{padding_after, part, string_at, string_of, string_option}
use Rattle.field_text.specs.declared.RawString.{RawString}
use Rattle.pane.specs.Out.{out_find, out_header, out_next, out_primitive, out_update, type_at}
use Rattle.pane_declare.specs.Out.{out_declare}
use Rattle.pane_drop.specs.Out.{out_drop}
use Rattle.pane_fit.specs.Out.{out_fit}
use Rattle.pane_index.specs.Out.{out_kind, out_save, out_view}
use Rattle.pane_out.specs.Handed.{is_set, mark, refused_out}
use Rattle.pane_parse.specs.Out.{out_read, record_at}
use Rattle.pane_record.specs.Out.{list_cursor_at, out_id, out_list, out_step, out_type, stream_at}
use Rattle.pane_report.specs.Out.{out_report, totals_at}
use Rattle.pane_row.specs.ElementPlaces.{index_row, member_row, method_row}
use Rattle.pane_row.specs.IdPlaces.{id_row}
use Rattle.pane_row.specs.ListPlaces.{cursor_row}
use Rattle.pane_row.specs.TypePlaces.{type_row}
use Rattle.pane_section.specs.Out.{out_count, out_section_list, out_start, out_stream, section_index_by}
use Rattle.pane_state.specs.Entries.{entry_at}
use Rattle.pane_state.specs.Finders.{finder_fields, out_finder}
use Rattle.pane_state.specs.Given.{cursor_at, finder_at, finder_with}
use Rattle.pane_state.specs.Walk.{index_all_by, out_walk, tour_out}
use Rattle.pane_word.specs.Fields.{out_number, out_padding, out_size, out_string, present}
use Rattle.pane_word.specs.Words.{out_field, out_function, out_pointer, out_properties}
use Rattle.pane_write.specs.Read.{codes_of, leaves_of, out_cells, table_of}
use Rattle.pane_write.specs.Written.{header_in, out_write}
use Rattle.record_cells.specs.Cells.{cells_of}
use Rattle.record_cells.specs.Codes.{code_in, id_codes, layout_in, member_codes, method_code, type_codes}
use Rattle.record_cells.specs.Filled.{FillsCells, fields_by}
use Rattle.record_data.specs.Said.{string_value, type_data_name, type_values}
use Rattle.record_data.specs.declared.TypeData.{TypeData}
use Rattle.record_id.specs.Said.{id_values}
use Rattle.record_id.specs.declared.IdData.{IdData}
use Rattle.record_layout.specs.Fields.{number, read_fields}
use Rattle.record_layout.specs.Layouts.{id_leaves, member_leaves, method, read_record, record_of, type_leaves}
use Rattle.record_list.specs.Lists.{element_by, element_of, start_of, step_of}
use Rattle.record_list.specs.Said.{element_values, said_step}
use Rattle.record_list.specs.declared.Element.{Element}
use Rattle.record_list.specs.declared.ListCursor.{ListCursor}
use Rattle.record_member.specs.Said.{entry_values, member_name, member_values}
use Rattle.record_member.specs.declared.Member.{Member}
use Rattle.record_member.specs.declared.MethodListEntry.{MethodListEntry}
use Rattle.record_parse.specs.Record.{parse_of, said_parse}
use Rattle.record_parse.specs.declared.EntryData.{EntryData}
use Rattle.record_reader.specs.Reader.{Steps}
use Rattle.record_reader.specs.declared.ListReader.{ListReader}
use Rattle.record_reference.specs.Said.{said_of_element, said_references}
use Rattle.record_reference.specs.Values.{element_refs, slots, slots_by}
use Rattle.record_reference.specs.declared.ElementReferences.{ElementReferences}
use Rattle.record_reference.specs.declared.References.{References}
use Rattle.section_finder.specs.Finders.{SectionIndexes, SectionIndexesBy, section_create_by, section_create_of}
use Rattle.section_item.specs.Sections as specs
use Rattle.section_item.specs.Sections.{count_of, section_start}
use Rattle.section_read.specs.Readers.{read_of, reader_at}
use Rattle.section_stream.specs.Streams.{section_stream}
use Rattle.stream_drop.specs.Drop.{Drops, drop_of}
use Rattle.stream_finder.specs.Finder.{Fills, begun_in, create_by, create_of, find_of, max_index_of, said_find, state, update_of}
use Rattle.stream_finder.specs.Lent.{Updates}
use Rattle.stream_finder.specs.declared.ItemFinder.{ItemFinder}
use Rattle.stream_finder.specs.declared.Records.{Records}
use Rattle.stream_fit.specs.Fit.{fit_of, rule_number, said_fit}
use Rattle.stream_fit.specs.declared.Fitness.{Fitness}
use Rattle.stream_fit.specs.declared.Rule.{Rule}
use Rattle.stream_header.specs.Header.{header_of}
use Rattle.stream_header.specs.declared.Header.{Header}
use Rattle.stream_index.specs.Walk.{Indexes, IndexesBy, Leads, Walks, turn_of}
use Rattle.stream_index.specs.declared.Tour.{Tour}
use Rattle.stream_item.specs.Information.{is_empty_of, len_of}
use Rattle.stream_item.specs.Items.{index_of, length_of}
use Rattle.stream_item.specs.Iterator.{iter_of, next_of, said_next}
use Rattle.stream_item.specs.Links.{link_of}
use Rattle.stream_item.specs.declared.Entry.{Entry}
use Rattle.stream_item.specs.declared.Item.{Item}
use Rattle.stream_item.specs.declared.iter.ItemIter.{ItemIter}
use Rattle.stream_item.specs.declared.link.Hit.{Hit}
use Rattle.stream_places.specs.File.{trailer_of, trailer_of_either}
use Rattle.stream_places.specs.Places.{Saves, load_of, load_wide_of, save_of, save_wide_of}
use Rattle.stream_places.specs.declared.trailer.Trailer.{Trailer}
use Rattle.stream_report.specs.Report.{Reports, add_of, fresh, report_in, totals_of}
use Rattle.stream_report.specs.declared.Totals.{Totals}
use Rattle.stream_view.specs.Views.{raw_kind_of, said_view, view_bytes, view_of}
use Rattle.stream_view.specs.declared.EntryView.{EntryView}
use Rattle.word_attributes.specs.Bits.{bit, bits}
use Rattle.word_attributes.specs.Pointers.{kind_of, mode_of, reference_of, size_of, to_member_of}
use Rattle.word_attributes.specs.Words.{introducing, method_property}
use Rattle.word_attributes.specs.declared.FieldAttributes.{FieldAttributes}
use Rattle.word_attributes.specs.declared.FunctionAttributes.{FunctionAttributes}
use Rattle.word_attributes.specs.declared.ModifierFlags.{ModifierFlags}
use Rattle.word_attributes.specs.declared.PointerAttributes.{PointerAttributes}
use Rattle.word_attributes.specs.declared.PointerKind.{PointerKind}
use Rattle.word_attributes.specs.declared.PointerMode.{PointerMode}
use Rattle.word_attributes.specs.declared.TypeProperties.{TypeProperties}
use Rattle.word_primitive.specs.Primitive.{primitive_of}
use Rattle.word_primitive.specs.declared.Indirection.{Indirection}
use Rattle.word_primitive.specs.declared.PrimitiveKind.{PrimitiveKind}
use Rattle.word_primitive.specs.declared.PrimitiveType.{PrimitiveType}
use Rattle.write_cells.specs.Cells.{cell_values}
use Rattle.write_header.specs.Headers.{header_bytes}
use Rattle.write_layout.specs.Buffer.{Writes, lay}
use Rattle.write_layout.specs.Fields.{fixed_bytes, given_all, numeric_bytes}
use Rattle.write_layout.specs.Lists.{field_list_bytes, filled_each, method_list_bytes}
use Rattle.write_layout.specs.Records.{limited, write_record}
use Rattle.write_layout.specs.Types.{written_leaves}
use Rattle.write_list.specs.Rows.{member_rows, method_rows, row_of_member, row_of_method}
use Rattle.write_pieces.specs.Fit.{half_piece, natural_piece}
use Rattle.write_pieces.specs.Pieces.{piece_of, pieces_of}
use Rattle.write_pieces.specs.declared.Piece.{Piece}

-- answer::Refusal::number
abbrev pub AnswerRefusalNumber : (self : Refusal) → ℕ → Type 0
AnswerRefusalNumber self result = result ≡ number_of self

-- answer::Refusal::details
abbrev pub AnswerRefusalDetails : (self : Refusal) → Details → Type 0
AnswerRefusalDetails self result = details_value result ≡ details_of self

-- answer_name::name_of
abbrev pub AnswerNameNameOf : (e : Refusal) → List ℕ → Type 0
AnswerNameNameOf e result = result ≡ name_text e

-- declare_spelling::indirection
abbrev pub DeclareSpellingIndirection : (y : Indirection) → Spelling → Type 0
DeclareSpellingIndirection y result = Spells result (indirection_text y)

-- declare_spelling::mode
abbrev pub DeclareSpellingMode : (m : ℕ) → Spelling → Type 0
DeclareSpellingMode m result = Spells result (mode_text m)

-- declare_spelling::qualifiers
abbrev pub DeclareSpellingQualifiers : (q : Quals) → Spelling → Type 0
DeclareSpellingQualifiers q result = Spells result (quals_text q)

-- declare_spelling::kind::spelled
abbrev pub DeclareSpellingKindSpelled : (k : PrimitiveKind) → Spelling → Type 0
DeclareSpellingKindSpelled k result = Spells result (kind_text k)

-- declare_spelling::kind::size
abbrev pub DeclareSpellingKindSize : (k : PrimitiveKind) (by : Indirection) → ℕ → Type 0
DeclareSpellingKindSize k by result = result ≡ primitive_size k by

-- declare_type::declare
abbrev pub DeclareTypeDeclare : (s : List ℕ) (f : ItemFinder) (t : List ℕ) (i : TypeIndex) (out : List ℕ) → Result ℕ Refusal → List ℕ → Type 0
DeclareTypeDeclare s f t i out result out' = Declares (declare_of s (state f t) i.0 (length out)) out result out'

-- field::fixed::u8_at
abbrev pub FieldFixedU8At : (s : List ℕ) (p : ℕ) → Result (ℕ × ℕ) Refusal → Type 0
FieldFixedU8At s p result = said_read itself result ≡ fixed_at 1 s p

-- field::fixed::u16_at
abbrev pub FieldFixedU16At : (s : List ℕ) (p : ℕ) → Result (ℕ × ℕ) Refusal → Type 0
FieldFixedU16At s p result = said_read itself result ≡ fixed_at 2 s p

-- field::fixed::u32_at
abbrev pub FieldFixedU32At : (s : List ℕ) (p : ℕ) → Result (ℕ × ℕ) Refusal → Type 0
FieldFixedU32At s p result = said_read itself result ≡ fixed_at 4 s p

-- field::fixed::u64_at
abbrev pub FieldFixedU64At : (s : List ℕ) (p : ℕ) → Result (ℕ × ℕ) Refusal → Type 0
FieldFixedU64At s p result = said_read itself result ≡ fixed_at 8 s p

-- field::index::Stream::index
abbrev pub FieldIndexStreamIndex : (self : Stream) (n : ℕ) → ItemIndex → Type 0
FieldIndexStreamIndex self n result = result ≡ index_in self n

-- field::index::ItemIndex::stream
abbrev pub FieldIndexItemIndexStream : (self : ItemIndex) → Stream → Type 0
FieldIndexItemIndexStream self result = result ≡ stream_in self

-- field::index::ItemIndex::number
abbrev pub FieldIndexItemIndexNumber : (self : ItemIndex) → ℕ → Type 0
FieldIndexItemIndexNumber self result = result ≡ index_number self

-- field::index::TypeIndex::is_cross_module
abbrev pub FieldIndexTypeIndexIsCrossModule : (self : TypeIndex) → Bool → Type 0
FieldIndexTypeIndexIsCrossModule self result = result ≡ leb 0x80000000 self.0

-- field::index::TypeIndex::optional
abbrev pub FieldIndexTypeIndexOptional : (self : TypeIndex) → Option TypeIndex → Type 0
FieldIndexTypeIndexOptional self result = type_option result ≡ optional_of no_type self.0

-- field::index::IdIndex::is_cross_module
abbrev pub FieldIndexIdIndexIsCrossModule : (self : IdIndex) → Bool → Type 0
FieldIndexIdIndexIsCrossModule self result = result ≡ leb 0x80000000 self.0

-- field::index::IdIndex::optional
abbrev pub FieldIndexIdIndexOptional : (self : IdIndex) → Option IdIndex → Type 0
FieldIndexIdIndexOptional self result = id_option result ≡ optional_of no_id self.0

-- field::index::type_at
abbrev pub FieldIndexTypeAt : (s : List ℕ) (p : ℕ) → Result (TypeIndex × ℕ) Refusal → Type 0
FieldIndexTypeAt s p result = said_type result ≡ fixed_at 4 s p

-- field::index::id_at
abbrev pub FieldIndexIdAt : (s : List ℕ) (p : ℕ) → Result (IdIndex × ℕ) Refusal → Type 0
FieldIndexIdAt s p result = said_id result ≡ fixed_at 4 s p

-- field::index::string_ref_at
abbrev pub FieldIndexStringRefAt : (s : List ℕ) (p : ℕ) → Result (StringRef × ℕ) Refusal → Type 0
FieldIndexStringRefAt s p result = said_string_ref result ≡ fixed_at 4 s p

-- field::index::optional_type_at
abbrev pub FieldIndexOptionalTypeAt : (s : List ℕ) (p : ℕ) → Result (Option TypeIndex × ℕ) Refusal → Type 0
FieldIndexOptionalTypeAt s p result = said_read type_option result ≡ optional_at no_type s p

-- field::index::optional_id_at
abbrev pub FieldIndexOptionalIdAt : (s : List ℕ) (p : ℕ) → Result (Option IdIndex × ℕ) Refusal → Type 0
FieldIndexOptionalIdAt s p result = said_read id_option result ≡ optional_at no_id s p

-- field::index::TypeIndexIndex::from_number
abbrev pub FieldIndexTypeIndexIndexFromNumber : (n : ℕ) → TypeIndex → Type 0
FieldIndexTypeIndexIndexFromNumber n result = result ≡ (record { 0 = n })

-- field::index::IdIndexIndex::from_number
abbrev pub FieldIndexIdIndexIndexFromNumber : (n : ℕ) → IdIndex → Type 0
FieldIndexIdIndexIndexFromNumber n result = result ≡ (record { 0 = n })

-- field::index::StringRefIndex::from_number
abbrev pub FieldIndexStringRefIndexFromNumber : (n : ℕ) → StringRef → Type 0
FieldIndexStringRefIndexFromNumber n result = result ≡ (record { 0 = n })

-- field::index::TypeIndexOptionalIndex::or_none
abbrev pub FieldIndexTypeIndexOptionalIndexOrNone : (self : TypeIndex) → Option TypeIndex → Type 0
FieldIndexTypeIndexOptionalIndexOrNone self result = option_map (λ i. i.0) result ≡ optional_of no_type (self.0)

-- field::index::IdIndexOptionalIndex::or_none
abbrev pub FieldIndexIdIndexOptionalIndexOrNone : (self : IdIndex) → Option IdIndex → Type 0
FieldIndexIdIndexOptionalIndexOrNone self result = option_map (λ i. i.0) result ≡ optional_of no_id (self.0)

-- field::reader::Reader::u8
abbrev pub FieldReaderReaderU8Value : (self : Reader) → Result ℕ Refusal → Reader → Type 0
FieldReaderReaderU8Value self result self' = said_from itself result self'.at ≡ fixed_at 1 self.bytes.now self.at

abbrev pub FieldReaderReaderU8Stays : (self : Reader) → Result ℕ Refusal → Reader → Type 0
FieldReaderReaderU8Stays self result self' = OnErr result (self'.at ≡ self.at)

abbrev pub FieldReaderReaderU8Bytes : (self : Reader) → Result ℕ Refusal → Reader → Type 0
FieldReaderReaderU8Bytes self result self' = self'.bytes ≡ self.bytes

abbrev pub FieldReaderReaderU8 : (self : Reader) → Result ℕ Refusal → Reader → Type 0
FieldReaderReaderU8 self result self' = FieldReaderReaderU8Value self result self' × FieldReaderReaderU8Stays self result self' × FieldReaderReaderU8Bytes self result self'

-- field::reader::Reader::u16
abbrev pub FieldReaderReaderU16Value : (self : Reader) → Result ℕ Refusal → Reader → Type 0
FieldReaderReaderU16Value self result self' = said_from itself result self'.at ≡ fixed_at 2 self.bytes.now self.at

abbrev pub FieldReaderReaderU16Stays : (self : Reader) → Result ℕ Refusal → Reader → Type 0
FieldReaderReaderU16Stays self result self' = OnErr result (self'.at ≡ self.at)

abbrev pub FieldReaderReaderU16Bytes : (self : Reader) → Result ℕ Refusal → Reader → Type 0
FieldReaderReaderU16Bytes self result self' = self'.bytes ≡ self.bytes

abbrev pub FieldReaderReaderU16 : (self : Reader) → Result ℕ Refusal → Reader → Type 0
FieldReaderReaderU16 self result self' = FieldReaderReaderU16Value self result self' × FieldReaderReaderU16Stays self result self' × FieldReaderReaderU16Bytes self result self'

-- field::reader::Reader::u32
abbrev pub FieldReaderReaderU32Value : (self : Reader) → Result ℕ Refusal → Reader → Type 0
FieldReaderReaderU32Value self result self' = said_from itself result self'.at ≡ fixed_at 4 self.bytes.now self.at

abbrev pub FieldReaderReaderU32Stays : (self : Reader) → Result ℕ Refusal → Reader → Type 0
FieldReaderReaderU32Stays self result self' = OnErr result (self'.at ≡ self.at)

abbrev pub FieldReaderReaderU32Bytes : (self : Reader) → Result ℕ Refusal → Reader → Type 0
FieldReaderReaderU32Bytes self result self' = self'.bytes ≡ self.bytes

abbrev pub FieldReaderReaderU32 : (self : Reader) → Result ℕ Refusal → Reader → Type 0
FieldReaderReaderU32 self result self' = FieldReaderReaderU32Value self result self' × FieldReaderReaderU32Stays self result self' × FieldReaderReaderU32Bytes self result self'

-- field::reader::Reader::skip
abbrev pub FieldReaderReaderSkipPlace : (self : Reader) (n : ℕ) → Result Unit Refusal → Reader → Type 0
FieldReaderReaderSkipPlace self n result self' = said_on result self'.at ≡ bytes_after n self.bytes.now self.at

abbrev pub FieldReaderReaderSkipStays : (self : Reader) (n : ℕ) → Result Unit Refusal → Reader → Type 0
FieldReaderReaderSkipStays self n result self' = OnErr result (self'.at ≡ self.at)

abbrev pub FieldReaderReaderSkipBytes : (self : Reader) (n : ℕ) → Result Unit Refusal → Reader → Type 0
FieldReaderReaderSkipBytes self n result self' = self'.bytes ≡ self.bytes

abbrev pub FieldReaderReaderSkip : (self : Reader) (n : ℕ) → Result Unit Refusal → Reader → Type 0
FieldReaderReaderSkip self n result self' = FieldReaderReaderSkipPlace self n result self' × FieldReaderReaderSkipStays self n result self' × FieldReaderReaderSkipBytes self n result self'

-- field::reader::Reader::index
abbrev pub FieldReaderReaderIndexValue : {I : Type 0} (the_index : index_trait.Ghosts I) (self : Reader) → Result I Refusal → Reader → Type 0
FieldReaderReaderIndexValue the_index self result self' = said_from the_index.counts result self'.at ≡ fixed_at 4 self.bytes.now self.at

abbrev pub FieldReaderReaderIndexStays : {I : Type 0} (the_index : index_trait.Ghosts I) (self : Reader) → Result I Refusal → Reader → Type 0
FieldReaderReaderIndexStays the_index self result self' = OnErr result (self'.at ≡ self.at)

abbrev pub FieldReaderReaderIndexBytes : {I : Type 0} (the_index : index_trait.Ghosts I) (self : Reader) → Result I Refusal → Reader → Type 0
FieldReaderReaderIndexBytes the_index self result self' = self'.bytes ≡ self.bytes

abbrev pub FieldReaderReaderIndex : {I : Type 0} (the_index : index_trait.Ghosts I) (self : Reader) → Result I Refusal → Reader → Type 0
FieldReaderReaderIndex the_index self result self' = FieldReaderReaderIndexValue the_index self result self' × FieldReaderReaderIndexStays the_index self result self' × FieldReaderReaderIndexBytes the_index self result self'

-- field::reader::Reader::optional
abbrev pub FieldReaderReaderOptionalValue : {I : Type 0} (the_optional_index : optional_index_trait.Ghosts I) (the_index : index_trait.Ghosts I) (self : Reader) → Result (Option I) Refusal → Reader → Type 0
FieldReaderReaderOptionalValue the_optional_index the_index self result self' = said_from (option_map the_index.counts) result self'.at ≡ optional_at the_optional_index.nones self.bytes.now self.at

abbrev pub FieldReaderReaderOptionalStays : {I : Type 0} (the_optional_index : optional_index_trait.Ghosts I) (the_index : index_trait.Ghosts I) (self : Reader) → Result (Option I) Refusal → Reader → Type 0
FieldReaderReaderOptionalStays the_optional_index the_index self result self' = OnErr result (self'.at ≡ self.at)

abbrev pub FieldReaderReaderOptionalBytes : {I : Type 0} (the_optional_index : optional_index_trait.Ghosts I) (the_index : index_trait.Ghosts I) (self : Reader) → Result (Option I) Refusal → Reader → Type 0
FieldReaderReaderOptionalBytes the_optional_index the_index self result self' = self'.bytes ≡ self.bytes

abbrev pub FieldReaderReaderOptional : {I : Type 0} (the_optional_index : optional_index_trait.Ghosts I) (the_index : index_trait.Ghosts I) (self : Reader) → Result (Option I) Refusal → Reader → Type 0
FieldReaderReaderOptional the_optional_index the_index self result self' = FieldReaderReaderOptionalValue the_optional_index the_index self result self' × FieldReaderReaderOptionalStays the_optional_index the_index self result self' × FieldReaderReaderOptionalBytes the_optional_index the_index self result self'

-- field::run::after_bytes
abbrev pub FieldRunAfterBytes : (s : List ℕ) (p : ℕ) (n : ℕ) → Result ℕ Refusal → Type 0
FieldRunAfterBytes s p n result = said itself result ≡ bytes_after n s p

-- field::run::bytes_at
abbrev pub FieldRunBytesAt : (s : List ℕ) (p : ℕ) (n : ℕ) → List ℕ → Type 0
FieldRunBytesAt s p n result = result ≡ bytes_at n s p

-- field_number::number_at
abbrev pub FieldNumberNumberAt : (s : List ℕ) (p : ℕ) → Result (Variant × ℕ) Refusal → Type 0
FieldNumberNumberAt s p result = said_read variant_told result ≡ numeral_at s p

-- field_number::size_at
abbrev pub FieldNumberSizeAt : (s : List ℕ) (p : ℕ) → Result (Size × ℕ) Refusal → Type 0
FieldNumberSizeAt s p result = said_read size_told result ≡ sized_at s p

-- field_number::read_number
abbrev pub FieldNumberReadNumberValue : (r : Reader) → Result Variant Refusal → Reader → Type 0
FieldNumberReadNumberValue r result r' = said_from variant_told result r'.at ≡ numeral_at r.bytes.now r.at

abbrev pub FieldNumberReadNumberStays : (r : Reader) → Result Variant Refusal → Reader → Type 0
FieldNumberReadNumberStays r result r' = OnErr result (r'.at ≡ r.at)

abbrev pub FieldNumberReadNumberBytes : (r : Reader) → Result Variant Refusal → Reader → Type 0
FieldNumberReadNumberBytes r result r' = r'.bytes ≡ r.bytes

abbrev pub FieldNumberReadNumber : (r : Reader) → Result Variant Refusal → Reader → Type 0
FieldNumberReadNumber r result r' = FieldNumberReadNumberValue r result r' × FieldNumberReadNumberStays r result r' × FieldNumberReadNumberBytes r result r'

-- field_number::read_size
abbrev pub FieldNumberReadSizeValue : (r : Reader) → Result Size Refusal → Reader → Type 0
FieldNumberReadSizeValue r result r' = said_from size_told result r'.at ≡ sized_at r.bytes.now r.at

abbrev pub FieldNumberReadSizeStays : (r : Reader) → Result Size Refusal → Reader → Type 0
FieldNumberReadSizeStays r result r' = OnErr result (r'.at ≡ r.at)

abbrev pub FieldNumberReadSizeBytes : (r : Reader) → Result Size Refusal → Reader → Type 0
FieldNumberReadSizeBytes r result r' = r'.bytes ≡ r.bytes

abbrev pub FieldNumberReadSize : (r : Reader) → Result Size Refusal → Reader → Type 0
FieldNumberReadSize r result r' = FieldNumberReadSizeValue r result r' × FieldNumberReadSizeStays r result r' × FieldNumberReadSizeBytes r result r'

-- field_put::put8
abbrev pub FieldPutPut8 : (out : List ℕ) (p : ℕ) (x : ℕ) → ℕ → List ℕ → Type 0
FieldPutPut8 out p x result out' = Lays out p (bytes_of_field_put 1 x) result out'

-- field_put::put16
abbrev pub FieldPutPut16 : (out : List ℕ) (p : ℕ) (x : ℕ) → ℕ → List ℕ → Type 0
FieldPutPut16 out p x result out' = Lays out p (bytes_of_field_put 2 x) result out'

-- field_put::put32
abbrev pub FieldPutPut32 : (out : List ℕ) (p : ℕ) (x : ℕ) → ℕ → List ℕ → Type 0
FieldPutPut32 out p x result out' = Lays out p (bytes_of_field_put 4 x) result out'

-- field_put::put_all
abbrev pub FieldPutPutAll : (out : List ℕ) (p : ℕ) (xs : List ℕ) → ℕ → List ℕ → Type 0
FieldPutPutAll out p xs result out' = Lays out p xs result out'

-- field_text::string_at
abbrev pub FieldTextStringAt : (s : List ℕ) (p : ℕ) → Result (RawString × ℕ) Refusal → Type 0
FieldTextStringAt s p result = said_read part result ≡ string_at s p

-- field_text::read_string
abbrev pub FieldTextReadStringValue : (r : Reader) → Result RawString Refusal → Reader → Type 0
FieldTextReadStringValue r result r' = said_from part result r'.at ≡ string_at r.bytes.now r.at

abbrev pub FieldTextReadStringStays : (r : Reader) → Result RawString Refusal → Reader → Type 0
FieldTextReadStringStays r result r' = OnErr result (r'.at ≡ r.at)

abbrev pub FieldTextReadStringBytes : (r : Reader) → Result RawString Refusal → Reader → Type 0
FieldTextReadStringBytes r result r' = r'.bytes ≡ r.bytes

abbrev pub FieldTextReadString : (r : Reader) → Result RawString Refusal → Reader → Type 0
FieldTextReadString r result r' = FieldTextReadStringValue r result r' × FieldTextReadStringStays r result r' × FieldTextReadStringBytes r result r'

-- field_text::RawString::bytes
abbrev pub FieldTextRawStringBytes : (self : RawString) (s : List ℕ) → List ℕ → Type 0
FieldTextRawStringBytes self s result = result ≡ bytes_at self.length s self.place

-- field_text::string_of
abbrev pub FieldTextStringOf : (leaf : ℕ) (s : List ℕ) (p : ℕ) → Result (RawString × ℕ) Refusal → Type 0
FieldTextStringOf leaf s p result = said_read part result ≡ string_of leaf s p

-- field_text::after_padding
abbrev pub FieldTextAfterPadding : (s : List ℕ) (p : ℕ) → Result ℕ Refusal → Type 0
FieldTextAfterPadding s p result = said itself result ≡ padding_after s p

-- pane::pdb_header
abbrev pub PanePdbHeader : (s : List ℕ) → ℕ → List ℕ → Type 0
PanePdbHeader s result out' = (result, out') ≡ out_header (header_of s)

-- pane::pdb_next
abbrev pub PanePdbNext : (s : List ℕ) (at : ℕ) (index : ℕ) → ℕ → List ℕ → Type 0
PanePdbNext s at index result out' = (result, out') ≡ out_next (next_of s (cursor_at at index))

-- pane::pdb_update
abbrev pub PanePdbUpdate : (table : List ℕ) (minimum : ℕ) (maximum : ℕ) (held : ℕ) (shift : ℕ) (at : ℕ) (index : ℕ) → ℕ → List ℕ → List ℕ → Type 0
PanePdbUpdate table minimum maximum held shift at index result table' out' = (result, out', table') ≡ out_update table (update_of (finder_at minimum maximum held shift table) (cursor_at at index))

-- pane::pdb_find
abbrev pub PanePdbFind : (s : List ℕ) (table : List ℕ) (minimum : ℕ) (maximum : ℕ) (held : ℕ) (shift : ℕ) (index : ℕ) → ℕ → List ℕ → Type 0
PanePdbFind s table minimum maximum held shift index result out' = (result, out') ≡ out_find (find_of s (finder_at minimum maximum held shift table) (type_at index))

-- pane::pdb_primitive
abbrev pub PanePdbPrimitive : (index : ℕ) → ℕ → List ℕ → Type 0
PanePdbPrimitive index result out' = (result, out') ≡ out_primitive index (primitive_of index)

-- pane_declare::pdb_declare
abbrev pub PaneDeclarePdbDeclare : (s : List ℕ) (table : List ℕ) (minimum : ℕ) (maximum : ℕ) (held : ℕ) (shift : ℕ) (index : ℕ) (buffer : List ℕ) → ℕ → List ℕ → List ℕ → Type 0
PaneDeclarePdbDeclare s table minimum maximum held shift index buffer result buffer' out' = (result, out', buffer') ≡ out_declare buffer (declare_of s (finder_at minimum maximum held shift table) index (length buffer))

-- pane_drop::pdb_drop
abbrev pub PaneDropPdbDrop : (s : List ℕ) (roots : List ℕ) (table : List ℕ) (buffer : List ℕ) → ℕ → List ℕ → List ℕ → List ℕ → Type 0
PaneDropPdbDrop s roots table buffer result table' buffer' out' = (result, out', table', buffer') ≡ out_drop table buffer (drop_of s roots (length table) (length buffer))

-- pane_fit::pdb_fit
abbrev pub PaneFitPdbFit : (s : List ℕ) → ℕ → List ℕ → Type 0
PaneFitPdbFit s result out' = (result, out') ≡ out_fit (fit_of s)

-- pane_index::pdb_create
abbrev pub PaneIndexPdbCreate : (s : List ℕ) (table : List ℕ) (shift : ℕ) → ℕ → List ℕ → List ℕ → Type 0
PaneIndexPdbCreate s table shift result table' out' = (result, out', table') ≡ out_finder table (create_by shift s table)

-- pane_index::pdb_index
abbrev pub PaneIndexPdbIndex : (s : List ℕ) (table : List ℕ) (shift : ℕ) → ℕ → List ℕ → List ℕ → Type 0
PaneIndexPdbIndex s table shift result table' out' = (result, out', table') ≡ out_walk table (index_all_by shift Types s table)

-- pane_index::pdb_max_index
abbrev pub PaneIndexPdbMaxIndex : (minimum : ℕ) (maximum : ℕ) (held : ℕ) (shift : ℕ) → ℕ → Type 0
PaneIndexPdbMaxIndex minimum maximum held shift result = result ≡ max_index_of (finder_with minimum maximum held shift)

-- pane_index::pdb_view
abbrev pub PaneIndexPdbView : (tpi : List ℕ) (ipi : List ℕ) (ids : ℕ) (item : ℕ) (index : ℕ) (place : ℕ) (length : ℕ) → ℕ → List ℕ → Type 0
PaneIndexPdbView tpi ipi ids item index place length result out' = (result, out') ≡ out_view (view_of tpi ipi (entry_at ids item index place length))

-- pane_index::pdb_kind
abbrev pub PaneIndexPdbKind : (tpi : List ℕ) (ipi : List ℕ) (ids : ℕ) (item : ℕ) (index : ℕ) (place : ℕ) (length : ℕ) → ℕ → List ℕ → Type 0
PaneIndexPdbKind tpi ipi ids item index place length result out' = (result, out') ≡ out_kind (raw_kind_of tpi ipi (entry_at ids item index place length))

-- pane_index::pdb_load
abbrev pub PaneIndexPdbLoad : (s : List ℕ) (file : List ℕ) (table : List ℕ) → ℕ → List ℕ → List ℕ → Type 0
PaneIndexPdbLoad s file table result table' out' = (result, out', table') ≡ out_finder table (load_wide_of s file table)

-- pane_index::pdb_load_short
abbrev pub PaneIndexPdbLoadShort : (s : List ℕ) (file : List ℕ) (table : List ℕ) → ℕ → List ℕ → List ℕ → Type 0
PaneIndexPdbLoadShort s file table result table' out' = (result, out', table') ≡ out_finder table (load_of s file table)

-- pane_index::pdb_save
abbrev pub PaneIndexPdbSave : (s : List ℕ) (table : List ℕ) (minimum : ℕ) (maximum : ℕ) (held : ℕ) (shift : ℕ) (buffer : List ℕ) → ℕ → List ℕ → List ℕ → Type 0
PaneIndexPdbSave s table minimum maximum held shift buffer result buffer' out' = (result, out', buffer') ≡ out_save buffer (save_wide_of s (finder_at minimum maximum held shift table) (length buffer))

-- pane_index::pdb_save_short
abbrev pub PaneIndexPdbSaveShort : (s : List ℕ) (table : List ℕ) (minimum : ℕ) (maximum : ℕ) (held : ℕ) (shift : ℕ) (buffer : List ℕ) → ℕ → List ℕ → List ℕ → Type 0
PaneIndexPdbSaveShort s table minimum maximum held shift buffer result buffer' out' = (result, out', buffer') ≡ out_save buffer (save_of s (finder_at minimum maximum held shift table) (length buffer))

-- pane_out::first
abbrev pub PaneOutFirst : (e : Refusal) → ℕ → Type 0
PaneOutFirst e result = result ≡ get_or (details_of e) 0 0

-- pane_out::second
abbrev pub PaneOutSecond : (e : Refusal) → ℕ → Type 0
PaneOutSecond e result = result ≡ get_or (details_of e) 1 0

-- pane_out::refused
abbrev pub PaneOutRefused : (e : Refusal) (out : List ℕ) → ℕ → List ℕ → Type 0
PaneOutRefused e out result out' = (result, out') ≡ refused_out (length out) e

-- pane_out::is_set
abbrev pub PaneOutIsSet : (n : ℕ) → Bool → Type 0
PaneOutIsSet n result = result ≡ is_set n

-- pane_out::flag
abbrev pub PaneOutFlag : (b : Bool) → ℕ → Type 0
PaneOutFlag b result = result ≡ mark b

-- pane_parse::pdb_parse
abbrev pub PaneParsePdbParse : (tpi : List ℕ) (ipi : List ℕ) (ids : ℕ) (item : ℕ) (index : ℕ) (place : ℕ) (length : ℕ) → ℕ → List ℕ → Type 0
PaneParsePdbParse tpi ipi ids item index place length result out' = (result, out') ≡ out_read index (parse_of tpi ipi (entry_at ids item index place length))

-- pane_parse::pdb_section_read
abbrev pub PaneParsePdbSectionRead : (s : List ℕ) (index : ℕ) (place : ℕ) (length : ℕ) → ℕ → List ℕ → Type 0
PaneParsePdbSectionRead s index place length result out' = (result, out') ≡ out_read index (read_of s (record_at index place length))

-- pane_record::pdb_type
abbrev pub PaneRecordPdbType : (s : List ℕ) → ℕ → List ℕ → Type 0
PaneRecordPdbType s result out' = (result, out') ≡ out_type (record_of type_leaves s)

-- pane_record::pdb_id
abbrev pub PaneRecordPdbId : (s : List ℕ) → ℕ → List ℕ → Type 0
PaneRecordPdbId s result out' = (result, out') ≡ out_id (record_of id_leaves s)

-- pane_record::pdb_list
abbrev pub PaneRecordPdbList : (s : List ℕ) (ids : ℕ) → ℕ → List ℕ → Type 0
PaneRecordPdbList s ids result out' = (result, out') ≡ out_list (start_of (stream_at ids) s)

-- pane_record::pdb_step
abbrev pub PaneRecordPdbStep : (s : List ℕ) (leaf : ℕ) (at : ℕ) (left : ℕ) (padded : ℕ) → ℕ → List ℕ → Type 0
PaneRecordPdbStep s leaf at left padded result out' = (result, out') ≡ out_step (step_of s (list_cursor_at leaf at left padded))

-- pane_report::pdb_report
abbrev pub PaneReportPdbReport : (s : List ℕ) (taken : ℕ) (refused : ℕ) (headers : ℕ) (records : ℕ) (bytes : ℕ) (length : ℕ) (stream : ℕ) (index : ℕ) (rows : ℕ) (table : List ℕ) → ℕ → List ℕ → List ℕ → Type 0
PaneReportPdbReport s taken refused headers records bytes length stream index rows table result table' out' = (result, out', table') ≡ out_report table (add_of (report_in (totals_at taken refused headers records bytes length stream index rows) table) s)

-- pane_row::type_row
abbrev pub PaneRowTypeRow : (d : TypeData) → List ℕ → Type 0
PaneRowTypeRow d result = result ≡ 0 ∷ 0 ∷ type_row (type_values d)

-- pane_row::id_row
abbrev pub PaneRowIdRow : (d : IdData) → List ℕ → Type 0
PaneRowIdRow d result = result ≡ 0 ∷ 0 ∷ id_row (id_values d)

-- pane_row::cursor_row
abbrev pub PaneRowCursorRow : (c : ListCursor) → List ℕ → Type 0
PaneRowCursorRow c result = result ≡ 0 ∷ 0 ∷ cursor_row c

-- pane_row::member_row
abbrev pub PaneRowMemberRow : (at : ℕ) (left : ℕ) (padded : ℕ) (m : Member) → List ℕ → Type 0
PaneRowMemberRow at left padded m result = result ≡ 0 ∷ 0 ∷ at ∷ left ∷ padded ∷ member_row (member_values m)

-- pane_row::entry_row
abbrev pub PaneRowEntryRow : (at : ℕ) (left : ℕ) (padded : ℕ) (m : MethodListEntry) → List ℕ → Type 0
PaneRowEntryRow at left padded m result = result ≡ 0 ∷ 0 ∷ at ∷ left ∷ padded ∷ method_row (entry_values m)

-- pane_row::index_row
abbrev pub PaneRowIndexRow : (at : ℕ) (left : ℕ) (padded : ℕ) (i : ℕ) → List ℕ → Type 0
PaneRowIndexRow at left padded i result = result ≡ 0 ∷ 0 ∷ at ∷ left ∷ padded ∷ index_row (number i ∷ [])

-- pane_section::pdb_section_start
abbrev pub PaneSectionPdbSectionStart : (s : List ℕ) → ℕ → List ℕ → Type 0
PaneSectionPdbSectionStart s result out' = (result, out') ≡ out_start (specs.section_start s)

-- pane_section::pdb_section_count
abbrev pub PaneSectionPdbSectionCount : (s : List ℕ) → ℕ → List ℕ → Type 0
PaneSectionPdbSectionCount s result out' = (result, out') ≡ out_count (specs.count_of s)

-- pane_section::pdb_section_create
abbrev pub PaneSectionPdbSectionCreate : (s : List ℕ) (table : List ℕ) (shift : ℕ) → ℕ → List ℕ → List ℕ → Type 0
PaneSectionPdbSectionCreate s table shift result table' out' = (result, out', table') ≡ out_finder table (section_create_by shift s table)

-- pane_section::pdb_section_index
abbrev pub PaneSectionPdbSectionIndex : (s : List ℕ) (table : List ℕ) (shift : ℕ) → ℕ → List ℕ → List ℕ → Type 0
PaneSectionPdbSectionIndex s table shift result table' out' = (result, out', table') ≡ out_walk table (section_index_by shift s table)

-- pane_section::pdb_section_stream
abbrev pub PaneSectionPdbSectionStream : (s : List ℕ) (buffer : List ℕ) → ℕ → List ℕ → List ℕ → Type 0
PaneSectionPdbSectionStream s buffer result buffer' out' = (result, out', buffer') ≡ out_stream buffer (lay (section_stream s) buffer 0)

-- pane_section::pdb_section_list
abbrev pub PaneSectionPdbSectionList : (s : List ℕ) → ℕ → List ℕ → Type 0
PaneSectionPdbSectionList s result out' = (result, out') ≡ out_section_list (start_of (reader_at s 0) s)

-- pane_state::cursor_given
abbrev pub PaneStateCursorGiven : (at : ℕ) (index : ℕ) → ItemIter → Type 0
PaneStateCursorGiven at index result = result ≡ cursor_at at index

-- pane_state::finder_given
abbrev pub PaneStateFinderGiven : (minimum : ℕ) (maximum : ℕ) (held : ℕ) (shift : ℕ) → ItemFinder → Type 0
PaneStateFinderGiven minimum maximum held shift result = result ≡ finder_with minimum maximum held shift

-- pane_state::finder_out
abbrev pub PaneStateFinderOut : (f : ItemFinder) → List ℕ → Type 0
PaneStateFinderOut f result = result ≡ 0 ∷ 0 ∷ finder_fields f

-- pane_state::walk_out
abbrev pub PaneStateWalkOut : (t : Tour) → List ℕ → Type 0
PaneStateWalkOut t result = result ≡ tour_out t

-- pane_state::entry_of
abbrev pub PaneStateEntryOf : (ids : ℕ) (item : ℕ) (index : ℕ) (place : ℕ) (length : ℕ) → Entry → Type 0
PaneStateEntryOf ids item index place length result = result ≡ entry_at ids item index place length

-- pane_word::pdb_string
abbrev pub PaneWordPdbString : (s : List ℕ) (leaf : ℕ) (at : ℕ) → ℕ → List ℕ → Type 0
PaneWordPdbString s leaf at result out' = (result, out') ≡ out_string (string_of leaf s at)

-- pane_word::pdb_padding
abbrev pub PaneWordPdbPadding : (s : List ℕ) (at : ℕ) → ℕ → List ℕ → Type 0
PaneWordPdbPadding s at result out' = (result, out') ≡ out_padding (padding_after s at)

-- pane_word::pdb_size
abbrev pub PaneWordPdbSize : (s : List ℕ) (at : ℕ) → ℕ → List ℕ → Type 0
PaneWordPdbSize s at result out' = (result, out') ≡ out_size (sized_at s at)

-- pane_word::pdb_number
abbrev pub PaneWordPdbNumber : (s : List ℕ) (at : ℕ) → ℕ → List ℕ → Type 0
PaneWordPdbNumber s at result out' = (result, out') ≡ out_number (numeral_at s at)

-- pane_word::pdb_optional_type
abbrev pub PaneWordPdbOptionalType : (index : ℕ) → ℕ → Type 0
PaneWordPdbOptionalType index result = result ≡ present (optional_of no_type index)

-- pane_word::pdb_optional_id
abbrev pub PaneWordPdbOptionalId : (index : ℕ) → ℕ → Type 0
PaneWordPdbOptionalId index result = result ≡ present (optional_of no_id index)

-- pane_word::pdb_is_cross_module
abbrev pub PaneWordPdbIsCrossModule : (index : ℕ) → ℕ → Type 0
PaneWordPdbIsCrossModule index result = result ≡ mark (leb 0x80000000 index)

-- pane_word::pdb_properties
abbrev pub PaneWordPdbProperties : (word : ℕ) → ℕ → List ℕ → Type 0
PaneWordPdbProperties word result out' = (result, out') ≡ out_properties word

-- pane_word::pdb_field_attributes
abbrev pub PaneWordPdbFieldAttributes : (word : ℕ) → ℕ → List ℕ → Type 0
PaneWordPdbFieldAttributes word result out' = (result, out') ≡ out_field word

-- pane_word::pdb_function_attributes
abbrev pub PaneWordPdbFunctionAttributes : (word : ℕ) → ℕ → List ℕ → Type 0
PaneWordPdbFunctionAttributes word result out' = (result, out') ≡ out_function word

-- pane_word::pdb_pointer_attributes
abbrev pub PaneWordPdbPointerAttributes : (word : ℕ) → ℕ → List ℕ → Type 0
PaneWordPdbPointerAttributes word result out' = (result, out') ≡ out_pointer word

-- pane_write::pdb_write_type
abbrev pub PaneWritePdbWriteType : (text : List ℕ) (leaf : ℕ) (cells : List ℕ) (buffer : List ℕ) (at : ℕ) → ℕ → List ℕ → List ℕ → Type 0
PaneWritePdbWriteType text leaf cells buffer at result buffer' out' = (result, out', buffer') ≡ out_write buffer (lay (write_record written_leaves (given_all text (cell_values leaf cells))) buffer at)

-- pane_write::pdb_write_id
abbrev pub PaneWritePdbWriteId : (text : List ℕ) (leaf : ℕ) (cells : List ℕ) (buffer : List ℕ) (at : ℕ) → ℕ → List ℕ → List ℕ → Type 0
PaneWritePdbWriteId text leaf cells buffer at result buffer' out' = (result, out', buffer') ≡ out_write buffer (lay (write_record id_leaves (given_all text (cell_values leaf cells))) buffer at)

-- pane_write::pdb_write_fields
abbrev pub PaneWritePdbWriteFields : (text : List ℕ) (rows : List (List ℕ)) (buffer : List ℕ) (at : ℕ) → ℕ → List ℕ → List ℕ → Type 0
PaneWritePdbWriteFields text rows buffer at result buffer' out' = (result, out', buffer') ≡ out_write buffer (lay (field_list_bytes (member_rows text rows)) buffer at)

-- pane_write::pdb_write_methods
abbrev pub PaneWritePdbWriteMethods : (text : List ℕ) (rows : List (List ℕ)) (buffer : List ℕ) (at : ℕ) → ℕ → List ℕ → List ℕ → Type 0
PaneWritePdbWriteMethods text rows buffer at result buffer' out' = (result, out', buffer') ≡ out_write buffer (lay (method_list_bytes (method_rows text rows)) buffer at)

-- pane_write::pdb_write_header
abbrev pub PaneWritePdbWriteHeader : (fields : List ℕ) (stream : ℕ) (pad : ℕ) (buffer : List ℕ) (at : ℕ) → ℕ → List ℕ → List ℕ → Type 0
PaneWritePdbWriteHeader fields stream pad buffer at result buffer' out' = (result, out', buffer') ≡ out_write buffer (lay (header_bytes (header_in fields stream pad)) buffer at)

-- pane_write::pdb_cells
abbrev pub PaneWritePdbCells : (s : List ℕ) (ids : ℕ) (cells : List ℕ) → ℕ → List ℕ → List ℕ → Type 0
PaneWritePdbCells s ids cells result cells' out' = (result, out', cells') ≡ out_cells cells (record_of (table_of (is_set ids)) s)

-- pane_write::pdb_layout
abbrev pub PaneWritePdbLayout : (which : ℕ) (leaf : ℕ) → ℕ → Type 0
PaneWritePdbLayout which leaf result = (layout_in result ≡ leaves_of which leaf) × (result ≡ codes_of which leaf)

-- record_cells::type_cells
abbrev pub RecordCellsTypeCells : (s : List ℕ) (leaf : ℕ) (at : ℕ) (out : List ℕ) → Result ℕ Refusal → List ℕ → Type 0
RecordCellsTypeCells s leaf at out result out' = FillsCells (cells_of 9) (fields_by (find leaf type_leaves) leaf s at) result out out'

-- record_cells::id_cells
abbrev pub RecordCellsIdCells : (s : List ℕ) (leaf : ℕ) (at : ℕ) (out : List ℕ) → Result ℕ Refusal → List ℕ → Type 0
RecordCellsIdCells s leaf at out result out' = FillsCells (cells_of 9) (fields_by (find leaf id_leaves) leaf s at) result out out'

-- record_cells::layout::type_layout
abbrev pub RecordCellsLayoutTypeLayout : (leaf : ℕ) → ℕ → Type 0
RecordCellsLayoutTypeLayout leaf result = (layout_in result ≡ find leaf type_leaves) × (result ≡ code_in type_codes leaf)

-- record_cells::layout::member_layout
abbrev pub RecordCellsLayoutMemberLayout : (leaf : ℕ) → ℕ → Type 0
RecordCellsLayoutMemberLayout leaf result = (layout_in result ≡ find leaf member_leaves) × (result ≡ code_in member_codes leaf)

-- record_cells::layout::method_layout
abbrev pub RecordCellsLayoutMethodLayout : ℕ → Type 0
RecordCellsLayoutMethodLayout result = (layout_in result ≡ Some method) × (result ≡ method_code)

-- record_cells::layout::id_layout
abbrev pub RecordCellsLayoutIdLayout : (leaf : ℕ) → ℕ → Type 0
RecordCellsLayoutIdLayout leaf result = (layout_in result ≡ find leaf id_leaves) × (result ≡ code_in id_codes leaf)

-- record_data::TypeData::name
abbrev pub RecordDataTypeDataName : (self : TypeData) → Option RawString → Type 0
RecordDataTypeDataName self result = string_value result ≡ type_data_name (type_values self)

-- record_data::type_data
abbrev pub RecordDataTypeData : (s : List ℕ) → Result TypeData Refusal → Type 0
RecordDataTypeData s result = said type_values result ≡ record_of type_leaves s

-- record_id::id_data
abbrev pub RecordIdIdData : (s : List ℕ) → Result IdData Refusal → Type 0
RecordIdIdData s result = said id_values result ≡ record_of id_leaves s

-- record_list::start
abbrev pub RecordListStart : (stream : Stream) (s : List ℕ) → Result ListCursor Refusal → Type 0
RecordListStart stream s result = said itself result ≡ start_of stream s

-- record_list::step
abbrev pub RecordListStep : (s : List ℕ) (c : ListCursor) → Result (Element × ListCursor) Refusal → Type 0
RecordListStep s c result = said_step result ≡ step_of s c

-- record_list::element_from
abbrev pub RecordListElementFrom : (s : List ℕ) (c : ListCursor) (k : ℕ) → Result Element Refusal → Type 0
RecordListElementFrom s c k result = said element_values result ≡ element_by (step_of s) k c

-- record_member::Member::name
abbrev pub RecordMemberMemberName : (self : Member) → Option RawString → Type 0
RecordMemberMemberName self result = string_option result ≡ member_name (member_values self)

-- record_member::member_at
abbrev pub RecordMemberMemberAt : (s : List ℕ) (p : ℕ) → Result (Member × ℕ) Refusal → Type 0
RecordMemberMemberAt s p result = said_read member_values result ≡ read_record member_leaves s p

-- record_member::method_entry_at
abbrev pub RecordMemberMethodEntryAt : (s : List ℕ) (p : ℕ) → Result (MethodListEntry × ℕ) Refusal → Type 0
RecordMemberMethodEntryAt s p result = said_read entry_values result ≡ read_fields method 0 s p

-- record_parse::parse
abbrev pub RecordParseParse : (tpi : List ℕ) (ipi : List ℕ) (entry : Entry) → Result EntryData Refusal → Type 0
RecordParseParse tpi ipi entry result = said_parse result ≡ parse_of tpi ipi entry

-- record_reader::ListReader::new
abbrev pub RecordReaderListReaderNew : (bytes : Bor (List ℕ)) (cursor : ListCursor) → ListReader → Type 0
RecordReaderListReaderNew bytes cursor result = (result.bytes ≡ bytes) × (result.cursor ≡ cursor)

-- record_reader::ListReader::element
abbrev pub RecordReaderListReaderElement : (self : ListReader) (k : ℕ) → Result Element Refusal → Type 0
RecordReaderListReaderElement self k result = said element_values result ≡ element_by (step_of self.bytes.now) k self.cursor

-- record_reader::ListReader::step
abbrev pub RecordReaderListReaderStep : (self : ListReader) → Result Element Refusal → ListReader → Type 0
RecordReaderListReaderStep self result self' = Steps self.cursor (step_of self.bytes.now self.cursor) result self'.cursor × (self'.bytes ≡ self.bytes)

-- record_reader::nth
abbrev pub RecordReaderNth : (stream : Stream) (s : List ℕ) (k : ℕ) → Result Element Refusal → Type 0
RecordReaderNth stream s k result = said element_values result ≡ element_of stream s k

-- record_reference::record_references
abbrev pub RecordReferenceRecordReferences : (d : TypeData) → References → Type 0
RecordReferenceRecordReferences d result = said_references result ≡ slots 4 (slots_by type_leaves (type_values d) 2)

-- record_reference::element_references
abbrev pub RecordReferenceElementReferences : (e : Element) → ElementReferences → Type 0
RecordReferenceElementReferences e result = (p : ℕ) → said_of_element result p ≡ element_refs (element_values e) p

-- section_finder::create
abbrev pub SectionFinderCreate : (s : List ℕ) (t : List ℕ) → Result ItemFinder Refusal → List ℕ → Type 0
SectionFinderCreate s t result t' = Fills t (section_create_of s t) result t'

-- section_finder::create_by
abbrev pub SectionFinderCreateBy : (s : List ℕ) (t : List ℕ) (shift : ℕ) → Result ItemFinder Refusal → List ℕ → Type 0
SectionFinderCreateBy s t shift result t' = Fills t (section_create_by shift s t) result t'

-- section_finder::index_all
abbrev pub SectionFinderIndexAll : (s : List ℕ) (t : List ℕ) → Result Tour Refusal → List ℕ → Type 0
SectionFinderIndexAll s t result t' = SectionIndexes s t result t'

-- section_finder::index_all_by
abbrev pub SectionFinderIndexAllBy : (s : List ℕ) (t : List ℕ) (shift : ℕ) → Result Tour Refusal → List ℕ → Type 0
SectionFinderIndexAllBy s t shift result t' = SectionIndexesBy shift s t result t'

-- section_item::iter
abbrev pub SectionItemIter : (s : List ℕ) → Result ItemIter Refusal → Type 0
SectionItemIter s result = said itself result ≡ section_start s

-- section_item::len
abbrev pub SectionItemLen : (s : List ℕ) → Result ℕ Refusal → Type 0
SectionItemLen s result = said itself result ≡ count_of s

-- section_read::parse
abbrev pub SectionReadParse : (s : List ℕ) (entry : Entry) → Result EntryData Refusal → Type 0
SectionReadParse s entry result = said_parse result ≡ read_of s entry

-- section_read::start
abbrev pub SectionReadStart : (bytes : List ℕ) → Result ListCursor Refusal → Type 0
SectionReadStart bytes result = said itself result ≡ start_of (reader_at bytes 0) bytes

-- section_stream::to_stream
abbrev pub SectionStreamToStream : (s : List ℕ) (out : List ℕ) → Result ℕ Refusal → List ℕ → Type 0
SectionStreamToStream s out result out' = Writes out (lay (section_stream s) out 0) (said itself result) out'

-- stream_drop::drop
abbrev pub StreamDropDrop : (s : List ℕ) (roots : List ℕ) (table : List ℕ) (out : List ℕ) → Result ℕ Refusal → List ℕ → List ℕ → Type 0
StreamDropDrop s roots table out result table' out' = Drops table out (drop_of s roots (length table) (length out)) result table' out'

-- stream_finder::create
abbrev pub StreamFinderCreate : (s : List ℕ) (t : List ℕ) → Result ItemFinder Refusal → List ℕ → Type 0
StreamFinderCreate s t result t' = Fills t (create_of s t) result t'

-- stream_finder::create_by
abbrev pub StreamFinderCreateBy : (s : List ℕ) (t : List ℕ) (shift : ℕ) → Result ItemFinder Refusal → List ℕ → Type 0
StreamFinderCreateBy s t shift result t' = Fills t (create_by shift s t) result t'

-- stream_finder::begin
abbrev pub StreamFinderBegin : (t : List ℕ) (records : Records) (shift : ℕ) → Result ItemFinder Refusal → List ℕ → Type 0
StreamFinderBegin t records shift result t' = Fills t (begun_in shift t records) result t'

-- stream_finder::update
abbrev pub StreamFinderUpdate : (f : ItemFinder) (t : List ℕ) (c : ItemIter) → Result ItemFinder Refusal → List ℕ → Type 0
StreamFinderUpdate f t c result t' = Fills t (update_of (state f t) c) result t'

-- stream_finder::ItemFinder::max_type_index
abbrev pub StreamFinderItemFinderMaxTypeIndex : (self : ItemFinder) → TypeIndex → Type 0
StreamFinderItemFinderMaxTypeIndex self result = result.0 ≡ max_index_of self

-- stream_finder::ItemFinder::max_id_index
abbrev pub StreamFinderItemFinderMaxIdIndex : (self : ItemFinder) → IdIndex → Type 0
StreamFinderItemFinderMaxIdIndex self result = result.0 ≡ max_index_of self

-- stream_finder::find_type
abbrev pub StreamFinderFindType : (s : List ℕ) (f : ItemFinder) (t : List ℕ) (i : TypeIndex) → Result (Entry × ℕ) Refusal → Type 0
StreamFinderFindType s f t i result = said_find result ≡ find_of s (state f t) (item_index.Types i)

-- stream_finder::find_id
abbrev pub StreamFinderFindId : (s : List ℕ) (f : ItemFinder) (t : List ℕ) (i : IdIndex) → Result (Entry × ℕ) Refusal → Type 0
StreamFinderFindId s f t i result = said_find result ≡ find_of s (state f t) (item_index.Ids i)

-- stream_finder::lent::ItemFinder::update
abbrev pub StreamFinderLentItemFinderUpdate : (self : ItemFinder) (t : List ℕ) (c : ItemIter) → Result Unit Refusal → ItemFinder → List ℕ → Type 0
StreamFinderLentItemFinderUpdate self t c result self' t' = Updates (state self t) c result (state self' t')

-- stream_fit::Rule::number
abbrev pub StreamFitRuleNumber : (self : Rule) → ℕ → Type 0
StreamFitRuleNumber self result = result ≡ rule_number self

-- stream_fit::fit
abbrev pub StreamFitFit : (s : List ℕ) → Result Fitness Refusal → Type 0
StreamFitFit s result = said_fit result ≡ fit_of s

-- stream_header::Header::parse
abbrev pub StreamHeaderHeaderParse : (s : List ℕ) → Result Header Refusal → Type 0
StreamHeaderHeaderParse s result = said itself result ≡ header_of s

-- stream_header::Header::count
abbrev pub StreamHeaderHeaderCount : (self : Header) → ℕ → Type 0
StreamHeaderHeaderCount self result = result ≡ self.maximum_index - self.minimum_index

-- stream_index::next_and_update
abbrev pub StreamIndexNextAndUpdate : (s : List ℕ) (f : ItemFinder) (t : List ℕ) (c : ItemIter) → Result (Option (ItemFinder × ItemIter)) Refusal → List ℕ → Type 0
StreamIndexNextAndUpdate s f t c result t' = Leads t (turn_of s (state f t) c) result t'

-- stream_index::index_on
abbrev pub StreamIndexIndexOn : (s : List ℕ) (f : ItemFinder) (t : List ℕ) (c : ItemIter) → Tour → List ℕ → Type 0
StreamIndexIndexOn s f t c result t' = Walks s c (state f t) result t'

-- stream_index::index_all
abbrev pub StreamIndexIndexAll : (stream : Stream) (s : List ℕ) (t : List ℕ) → Result Tour Refusal → List ℕ → Type 0
StreamIndexIndexAll stream s t result t' = Indexes stream s t result t'

-- stream_index::index_all_by
abbrev pub StreamIndexIndexAllBy : (stream : Stream) (s : List ℕ) (t : List ℕ) (shift : ℕ) → Result Tour Refusal → List ℕ → Type 0
StreamIndexIndexAllBy stream s t shift result t' = IndexesBy shift stream s t result t'

-- stream_item::Entry::index
abbrev pub StreamItemEntryIndex : (self : Entry) → ItemIndex → Type 0
StreamItemEntryIndex self result = result ≡ index_of self

-- stream_item::Entry::len
abbrev pub StreamItemEntryLen : (self : Entry) → ℕ → Type 0
StreamItemEntryLen self result = result ≡ length_of self

-- stream_item::Entry::is_empty
abbrev pub StreamItemEntryIsEmpty : (self : Entry) → Bool → Type 0
StreamItemEntryIsEmpty self result = result ≡ eqb (length_of self) 0

-- stream_item::information::len
abbrev pub StreamItemInformationLen : (s : List ℕ) → Result ℕ Refusal → Type 0
StreamItemInformationLen s result = said itself result ≡ len_of s

-- stream_item::information::is_empty
abbrev pub StreamItemInformationIsEmpty : (s : List ℕ) → Result Bool Refusal → Type 0
StreamItemInformationIsEmpty s result = said itself result ≡ is_empty_of s

-- stream_item::iter::iter
abbrev pub StreamItemIterIter : (stream : Stream) (s : List ℕ) → Result ItemIter Refusal → Type 0
StreamItemIterIter stream s result = said itself result ≡ iter_of stream s

-- stream_item::iter::next
abbrev pub StreamItemIterNext : (s : List ℕ) (c : ItemIter) → Result (Option (Item × ItemIter)) Refusal → Type 0
StreamItemIterNext s c result = said_next result ≡ next_of s c

-- stream_item::link::link_of
abbrev pub StreamItemLinkLinkOf : (s : List ℕ) (p : ℕ) (k : ℕ) → Hit → Type 0
StreamItemLinkLinkOf s p k result = result ≡ link_of s p k

-- stream_places::load
abbrev pub StreamPlacesLoad : (s : List ℕ) (f : List ℕ) (t : List ℕ) → Result ItemFinder Refusal → List ℕ → Type 0
StreamPlacesLoad s f t result t' = Fills t (load_of s f t) result t'

-- stream_places::load_wide
abbrev pub StreamPlacesLoadWide : (s : List ℕ) (f : List ℕ) (t : List ℕ) → Result ItemFinder Refusal → List ℕ → Type 0
StreamPlacesLoadWide s f t result t' = Fills t (load_wide_of s f t) result t'

-- stream_places::save
abbrev pub StreamPlacesSave : (s : List ℕ) (f : ItemFinder) (t : List ℕ) (out : List ℕ) → Result ℕ Refusal → List ℕ → Type 0
StreamPlacesSave s f t out result out' = Saves out (save_of s (state f t) (length out)) result out'

-- stream_places::save_wide
abbrev pub StreamPlacesSaveWide : (s : List ℕ) (f : ItemFinder) (t : List ℕ) (out : List ℕ) → Result ℕ Refusal → List ℕ → Type 0
StreamPlacesSaveWide s f t out result out' = Saves out (save_wide_of s (state f t) (length out)) result out'

-- stream_places::trailer::Trailer::parse
abbrev pub StreamPlacesTrailerTrailerParse : (f : List ℕ) → Result Trailer Refusal → Type 0
StreamPlacesTrailerTrailerParse f result = said itself result ≡ trailer_of f

-- stream_places::trailer::Trailer::parse_wide
abbrev pub StreamPlacesTrailerTrailerParseWide : (f : List ℕ) → Result Trailer Refusal → Type 0
StreamPlacesTrailerTrailerParseWide f result = said itself result ≡ trailer_of_either f

-- stream_report::new
abbrev pub StreamReportNew : Totals → Type 0
StreamReportNew result = result ≡ totals_of fresh

-- stream_report::add
abbrev pub StreamReportAdd : (totals : Totals) (table : List ℕ) (s : List ℕ) → Result Totals Refusal → List ℕ → Type 0
StreamReportAdd totals table s result table' = Reports table (add_of (report_in totals table) s) result table'

-- stream_view::view_answer
abbrev pub StreamViewViewAnswer : (tpi : List ℕ) (ipi : List ℕ) (entry : Entry) → Result (ℕ × ℕ) Refusal → Type 0
StreamViewViewAnswer tpi ipi entry result = said_view result ≡ view_of tpi ipi entry

-- stream_view::bytes_of
abbrev pub StreamViewBytesOf : (tpi : List ℕ) (ipi : List ℕ) (entry : Entry) → List ℕ → Type 0
StreamViewBytesOf tpi ipi entry result = result ≡ view_bytes tpi ipi entry

-- stream_view::view
abbrev pub StreamViewView : (tpi : List ℕ) (ipi : List ℕ) (entry : Entry) → EntryView → Type 0
StreamViewView tpi ipi entry result = (said_view result.answer ≡ view_of tpi ipi entry) × (result.bytes.now ≡ view_bytes tpi ipi entry)

-- stream_view::raw_kind
abbrev pub StreamViewRawKind : (tpi : List ℕ) (ipi : List ℕ) (entry : Entry) → Result ℕ Refusal → Type 0
StreamViewRawKind tpi ipi entry result = said itself result ≡ raw_kind_of tpi ipi entry

-- word_attributes::TypeProperties::packed
abbrev pub WordAttributesTypePropertiesPacked : (self : TypeProperties) → Bool → Type 0
WordAttributesTypePropertiesPacked self result = result ≡ bit 0 self.0

-- word_attributes::TypeProperties::constructors
abbrev pub WordAttributesTypePropertiesConstructors : (self : TypeProperties) → Bool → Type 0
WordAttributesTypePropertiesConstructors self result = result ≡ bit 1 self.0

-- word_attributes::TypeProperties::overloaded_operators
abbrev pub WordAttributesTypePropertiesOverloadedOperators : (self : TypeProperties) → Bool → Type 0
WordAttributesTypePropertiesOverloadedOperators self result = result ≡ bit 2 self.0

-- word_attributes::TypeProperties::is_nested_type
abbrev pub WordAttributesTypePropertiesIsNestedType : (self : TypeProperties) → Bool → Type 0
WordAttributesTypePropertiesIsNestedType self result = result ≡ bit 3 self.0

-- word_attributes::TypeProperties::contains_nested_types
abbrev pub WordAttributesTypePropertiesContainsNestedTypes : (self : TypeProperties) → Bool → Type 0
WordAttributesTypePropertiesContainsNestedTypes self result = result ≡ bit 4 self.0

-- word_attributes::TypeProperties::overloaded_assignment
abbrev pub WordAttributesTypePropertiesOverloadedAssignment : (self : TypeProperties) → Bool → Type 0
WordAttributesTypePropertiesOverloadedAssignment self result = result ≡ bit 5 self.0

-- word_attributes::TypeProperties::overloaded_casting
abbrev pub WordAttributesTypePropertiesOverloadedCasting : (self : TypeProperties) → Bool → Type 0
WordAttributesTypePropertiesOverloadedCasting self result = result ≡ bit 6 self.0

-- word_attributes::TypeProperties::forward_reference
abbrev pub WordAttributesTypePropertiesForwardReference : (self : TypeProperties) → Bool → Type 0
WordAttributesTypePropertiesForwardReference self result = result ≡ bit 7 self.0

-- word_attributes::TypeProperties::scoped_definition
abbrev pub WordAttributesTypePropertiesScopedDefinition : (self : TypeProperties) → Bool → Type 0
WordAttributesTypePropertiesScopedDefinition self result = result ≡ bit 8 self.0

-- word_attributes::TypeProperties::has_unique_name
abbrev pub WordAttributesTypePropertiesHasUniqueName : (self : TypeProperties) → Bool → Type 0
WordAttributesTypePropertiesHasUniqueName self result = result ≡ bit 9 self.0

-- word_attributes::TypeProperties::sealed
abbrev pub WordAttributesTypePropertiesSealed : (self : TypeProperties) → Bool → Type 0
WordAttributesTypePropertiesSealed self result = result ≡ bit 10 self.0

-- word_attributes::TypeProperties::intrinsic_type
abbrev pub WordAttributesTypePropertiesIntrinsicType : (self : TypeProperties) → Bool → Type 0
WordAttributesTypePropertiesIntrinsicType self result = result ≡ bit 13 self.0

-- word_attributes::TypeProperties::hfa
abbrev pub WordAttributesTypePropertiesHfa : (self : TypeProperties) → ℕ → Type 0
WordAttributesTypePropertiesHfa self result = result ≡ bits 11 12 self.0

-- word_attributes::TypeProperties::mocom
abbrev pub WordAttributesTypePropertiesMocom : (self : TypeProperties) → ℕ → Type 0
WordAttributesTypePropertiesMocom self result = result ≡ bits 14 15 self.0

-- word_attributes::FieldAttributes::access
abbrev pub WordAttributesFieldAttributesAccess : (self : FieldAttributes) → ℕ → Type 0
WordAttributesFieldAttributesAccess self result = result ≡ bits 0 1 self.0

-- word_attributes::FieldAttributes::method_properties
abbrev pub WordAttributesFieldAttributesMethodProperties : (self : FieldAttributes) → ℕ → Type 0
WordAttributesFieldAttributesMethodProperties self result = result ≡ method_property self.0

-- word_attributes::FieldAttributes::is_static
abbrev pub WordAttributesFieldAttributesIsStatic : (self : FieldAttributes) → Bool → Type 0
WordAttributesFieldAttributesIsStatic self result = result ≡ eqb (method_property self.0) 2

-- word_attributes::FieldAttributes::is_virtual
abbrev pub WordAttributesFieldAttributesIsVirtual : (self : FieldAttributes) → Bool → Type 0
WordAttributesFieldAttributesIsVirtual self result = result ≡ eqb (method_property self.0) 1

-- word_attributes::FieldAttributes::is_pure_virtual
abbrev pub WordAttributesFieldAttributesIsPureVirtual : (self : FieldAttributes) → Bool → Type 0
WordAttributesFieldAttributesIsPureVirtual self result = result ≡ eqb (method_property self.0) 5

-- word_attributes::FieldAttributes::is_intro_virtual
abbrev pub WordAttributesFieldAttributesIsIntroVirtual : (self : FieldAttributes) → Bool → Type 0
WordAttributesFieldAttributesIsIntroVirtual self result = result ≡ introducing self.0

-- word_attributes::FunctionAttributes::calling_convention
abbrev pub WordAttributesFunctionAttributesCallingConvention : (self : FunctionAttributes) → ℕ → Type 0
WordAttributesFunctionAttributesCallingConvention self result = result ≡ bits 0 7 self.0

-- word_attributes::FunctionAttributes::cxx_return_udt
abbrev pub WordAttributesFunctionAttributesCxxReturnUdt : (self : FunctionAttributes) → Bool → Type 0
WordAttributesFunctionAttributesCxxReturnUdt self result = result ≡ bit 8 self.0

-- word_attributes::FunctionAttributes::is_constructor
abbrev pub WordAttributesFunctionAttributesIsConstructor : (self : FunctionAttributes) → Bool → Type 0
WordAttributesFunctionAttributesIsConstructor self result = result ≡ bit 9 self.0

-- word_attributes::FunctionAttributes::is_constructor_with_virtual_bases
abbrev pub WordAttributesFunctionAttributesIsConstructorWithVirtualBases : (self : FunctionAttributes) → Bool → Type 0
WordAttributesFunctionAttributesIsConstructorWithVirtualBases self result = result ≡ bit 10 self.0

-- word_attributes::ModifierFlags::constant
abbrev pub WordAttributesModifierFlagsConstant : (self : ModifierFlags) → Bool → Type 0
WordAttributesModifierFlagsConstant self result = result ≡ bit 0 self.0

-- word_attributes::ModifierFlags::volatile
abbrev pub WordAttributesModifierFlagsVolatile : (self : ModifierFlags) → Bool → Type 0
WordAttributesModifierFlagsVolatile self result = result ≡ bit 1 self.0

-- word_attributes::ModifierFlags::unaligned
abbrev pub WordAttributesModifierFlagsUnaligned : (self : ModifierFlags) → Bool → Type 0
WordAttributesModifierFlagsUnaligned self result = result ≡ bit 2 self.0

-- word_attributes::PointerAttributes::pointer_kind
abbrev pub WordAttributesPointerAttributesPointerKind : (self : PointerAttributes) → Result PointerKind Refusal → Type 0
WordAttributesPointerAttributesPointerKind self result = said itself result ≡ kind_of self.0

-- word_attributes::PointerAttributes::pointer_mode
abbrev pub WordAttributesPointerAttributesPointerMode : (self : PointerAttributes) → Result PointerMode Refusal → Type 0
WordAttributesPointerAttributesPointerMode self result = said itself result ≡ mode_of self.0

-- word_attributes::PointerAttributes::pointer_to_member
abbrev pub WordAttributesPointerAttributesPointerToMember : (self : PointerAttributes) → Result Bool Refusal → Type 0
WordAttributesPointerAttributesPointerToMember self result = said itself result ≡ to_member_of self.0

-- word_attributes::PointerAttributes::is_flat_32
abbrev pub WordAttributesPointerAttributesIsFlat32 : (self : PointerAttributes) → Bool → Type 0
WordAttributesPointerAttributesIsFlat32 self result = result ≡ bit 8 self.0

-- word_attributes::PointerAttributes::is_volatile
abbrev pub WordAttributesPointerAttributesIsVolatile : (self : PointerAttributes) → Bool → Type 0
WordAttributesPointerAttributesIsVolatile self result = result ≡ bit 9 self.0

-- word_attributes::PointerAttributes::is_const
abbrev pub WordAttributesPointerAttributesIsConst : (self : PointerAttributes) → Bool → Type 0
WordAttributesPointerAttributesIsConst self result = result ≡ bit 10 self.0

-- word_attributes::PointerAttributes::is_unaligned
abbrev pub WordAttributesPointerAttributesIsUnaligned : (self : PointerAttributes) → Bool → Type 0
WordAttributesPointerAttributesIsUnaligned self result = result ≡ bit 11 self.0

-- word_attributes::PointerAttributes::is_restrict
abbrev pub WordAttributesPointerAttributesIsRestrict : (self : PointerAttributes) → Bool → Type 0
WordAttributesPointerAttributesIsRestrict self result = result ≡ bit 12 self.0

-- word_attributes::PointerAttributes::is_reference
abbrev pub WordAttributesPointerAttributesIsReference : (self : PointerAttributes) → Result Bool Refusal → Type 0
WordAttributesPointerAttributesIsReference self result = said itself result ≡ reference_of self.0

-- word_attributes::PointerAttributes::size
abbrev pub WordAttributesPointerAttributesSize : (self : PointerAttributes) → Result ℕ Refusal → Type 0
WordAttributesPointerAttributesSize self result = said itself result ≡ size_of self.0

-- word_attributes::PointerAttributes::is_mocom
abbrev pub WordAttributesPointerAttributesIsMocom : (self : PointerAttributes) → Bool → Type 0
WordAttributesPointerAttributesIsMocom self result = result ≡ bit 19 self.0

-- word_primitive::primitive
abbrev pub WordPrimitivePrimitive : (index : TypeIndex) → Result PrimitiveType Refusal → Type 0
WordPrimitivePrimitive index result = said itself result ≡ primitive_of index.0

-- write_cells::write_type
abbrev pub WriteCellsWriteType : (text : List ℕ) (leaf : ℕ) (row : List ℕ) (out : List ℕ) (at : ℕ) → Result ℕ Refusal → List ℕ → Type 0
WriteCellsWriteType text leaf row out at result out' = Writes out (lay (write_record written_leaves (given_all text (cell_values leaf row))) out at) (said itself result) out'

-- write_cells::write_id
abbrev pub WriteCellsWriteId : (text : List ℕ) (leaf : ℕ) (row : List ℕ) (out : List ℕ) (at : ℕ) → Result ℕ Refusal → List ℕ → Type 0
WriteCellsWriteId text leaf row out at result out' = Writes out (lay (write_record id_leaves (given_all text (cell_values leaf row))) out at) (said itself result) out'

-- write_header::write_header
abbrev pub WriteHeaderWriteHeader : (h : Header) (out : List ℕ) (at : ℕ) → Result ℕ Refusal → List ℕ → Type 0
WriteHeaderWriteHeader h out at result out' = Writes out (lay (header_bytes h) out at) (said itself result) out'

-- write_list::write_field_list
abbrev pub WriteListWriteFieldList : (text : List ℕ) (rows : List (List ℕ)) (out : List ℕ) (at : ℕ) → Result ℕ Refusal → List ℕ → Type 0
WriteListWriteFieldList text rows out at result out' = Writes out (lay (field_list_bytes (member_rows text rows)) out at) (said itself result) out'

-- write_list::write_method_list
abbrev pub WriteListWriteMethodList : (text : List ℕ) (rows : List (List ℕ)) (out : List ℕ) (at : ℕ) → Result ℕ Refusal → List ℕ → Type 0
WriteListWriteMethodList text rows out at result out' = Writes out (lay (method_list_bytes (method_rows text rows)) out at) (said itself result) out'

-- write_list::rows::of_member
abbrev pub WriteListRowsOfMember : (m : Member) → List ℕ → Type 0
WriteListRowsOfMember m result = result ≡ row_of_member m

-- write_list::rows::of_method
abbrev pub WriteListRowsOfMethod : (m : MethodListEntry) → List ℕ → Type 0
WriteListRowsOfMethod m result = result ≡ row_of_method m

-- write_pieces::capped_sum
abbrev pub WritePiecesCappedSum : (n : ℕ) (k : ℕ) → ℕ → Type 0
WritePiecesCappedSum n k result = result ≡ min (n + k) 65536

-- write_pieces::measured
abbrev pub WritePiecesMeasured : (text : List ℕ) (xs : List Piece) → Result ℕ Refusal → Type 0
WritePiecesMeasured text xs result = said itself result ≡ then (pieces_of text xs) (λ bs. answered (min (length bs) 65536))

-- write_pieces::write_plain
abbrev pub WritePiecesWritePlain : (text : List ℕ) (xs : List Piece) (out : List ℕ) (at : ℕ) → Result ℕ Refusal → List ℕ → Type 0
WritePiecesWritePlain text xs out at result out' = Writes out (lay (limited (pieces_of text xs)) out at) (said itself result) out'

-- write_pieces::write_filled
abbrev pub WritePiecesWriteFilled : (text : List ℕ) (xs : List Piece) (out : List ℕ) (at : ℕ) → Result ℕ Refusal → List ℕ → Type 0
WritePiecesWriteFilled text xs out at result out' = Writes out (lay (limited (filled_each (pieces_of text xs))) out at) (said itself result) out'

-- write_pieces::fields::two_bytes
abbrev pub WritePiecesFieldsTwoBytes : (x : ℕ) → Piece → Type 0
WritePiecesFieldsTwoBytes x result = (result ≡ half_piece x) × ((t : List ℕ) → piece_of t result ≡ fixed_bytes 2 x)

-- write_pieces::fields::natural
abbrev pub WritePiecesFieldsNatural : (n : ℕ) → Piece → Type 0
WritePiecesFieldsNatural n result = (result ≡ natural_piece n) × ((t : List ℕ) → piece_of t result ≡ numeric_bytes (pos n))

-- write_pieces::fields::unnamed
abbrev pub WritePiecesFieldsUnnamed : Piece → Type 0
WritePiecesFieldsUnnamed result = (result ≡ half_piece 0) × ((t : List ℕ) → piece_of t result ≡ answered (bytes_of_field 2 0))
