-- Every public contract admits one outcome. A contract `r ≡ x` does of itself; a contract `said.. r ≡ x` because what an answer says fixes it, by the law
-- `one-..` of its crate; those over lent memory, and that of `view`, whose answer holds a slice, by laws of theirs. Assumes nothing.
use Prim.Native.Nat.{ℕ}
use mathlib.Core.List.{List}
use mathlib.Core.Path.{refl, sym, ap, ◌∙◌}
use Rattle.std.specs.Prelude.{option_map}
use Rattle.answer.specs.Refusals.{itself}
use Rattle.field.specs.declared.index.IdIndex.{IdIndex}
use Rattle.field.specs.declared.index.TypeIndex.{TypeIndex}
use Rattle.field_number.specs.Forms.{size_told, variant_told}
use Rattle.field_number.proofs.OneOutcome.{back-number, hear_number}
use Rattle.field_text.specs.Texts.{part}
use Rattle.claim_promises.proofs.ReaderOnce.{one_from, one_on, option-back}
use Rattle.answer.proofs.OneOutcome.{one_of, one-details}
use Rattle.field.proofs.OneOutcome.{one-u8, one-u16, one-u32, one-u64, one_type, one-id, one-string-ref, one-optional-type, one-optional-id, one-read-type, one-read-id}
use Rattle.field_put.specs.Bytes.{bytes}
use Rattle.field_put.proofs.OneOutcome.{one-lays}
use Rattle.field_text.proofs.OneOutcome.{one-optional-string, one-string, one-after}
use Rattle.field_number.proofs.OneOutcome.{one-variant, one_size}
use Rattle.word_primitive.proofs.OneOutcome.{one-primitive}
use Rattle.word_attributes.proofs.OneOutcome.{one-kind as one-pointer-kind, one-mode, one-flag, one_size as one-pointer-size}
use Rattle.stream_header.proofs.OneOutcome.{one-header}
use Rattle.stream_item.proofs.OneOutcome.{one-iter, one-next, one-len, one-empty}
use Rattle.stream_view.proofs.OneOutcome.{one-view, one-entry-view, one-kind}
use Rattle.stream_finder.proofs.OneOutcome.{one-change, one-find, one-fills}
use Rattle.stream_places.specs.Places.{load_of, load_wide_of, save_of, save_wide_of}
use Rattle.stream_places.proofs.OneOutcome.{one-trailer, one-saves}
use Rattle.stream_report.specs.Report.{add_of, report_in}
use Rattle.stream_report.proofs.OneOutcome.{one-reports}
use Rattle.stream_drop.specs.Drop.{drop_of}
use Rattle.stream_drop.proofs.OneOutcome.{one-drops}
use lib.ListN.{length}
use Rattle.stream_index.proofs.OneOutcome.{one-leads}
use Rattle.stream_index.proofs.OneWalk.{one-walks, one-indexes}
use Rattle.record_id.proofs.OneOutcome.{one-id as one-id-data}
use Rattle.record_data.proofs.OneOutcome.{one-type-data, one_name as one-type-name}
use Rattle.record_member.proofs.OneOutcome.{one-member, one_entry}
use Rattle.record_list.proofs.OneOutcome.{one-start, one-step, one-element}
use Rattle.record_reader.proofs.OneOutcome.{one_reader, one-steps}
use Rattle.record_parse.proofs.OneOutcome.{one-parse}
use Rattle.pane_out.proofs.OneOutcome.{one_out, one-out-table, one-out-both}
use Rattle.answer.specs.Tables.{find}
use Rattle.record_cells.specs.Cells.{cells_of}
use Rattle.record_cells.specs.Filled.{fields_by}
use Rattle.record_cells.proofs.OneOutcome.{one_answer as one-cells, one_out as one-cells-out}
use Rattle.write_cells.specs.Cells.{cell_values}
use Rattle.write_pieces.proofs.OneOutcome.{one-measure, one_writes}
use Rattle.stream_item.specs.declared.iter.ItemIter.{ItemIter}
use Rattle.stream_finder.specs.Finder.{State, state, begun_in, create_of, create_by, update_of}
use Rattle.stream_finder.specs.declared.ItemFinder.{ItemFinder}
use Rattle.stream_index.specs.Walk.{turn_of}
use Rattle.record_list.specs.Lists.{step_of}
use Rattle.record_reader.specs.declared.ListReader.{ListReader}
use Rattle.record_layout.specs.Layouts.{type_leaves, id_leaves}
use Rattle.write_layout.specs.Fields.{given_all}
use Rattle.write_layout.specs.Records.{limited, write_record}
use Rattle.write_layout.specs.Lists.{filled_each, field_list_bytes, method_list_bytes}
use Rattle.write_layout.specs.Buffer.{lay}
use Rattle.write_pieces.specs.Pieces.{pieces_of}
use Rattle.write_header.specs.Headers.{header_bytes}
use Rattle.section_finder.specs.Finders as sections
use Rattle.section_finder.proofs.OneOutcome.{one-indexes as one-section}
use Rattle.section_stream.specs.Streams.{section_stream}
use Rattle.write_list.specs.Rows.{member_rows, method_rows}
use Rattle.declare_spelling.specs.Spellings.{kind_text, indirection_text, mode_text, quals_text}
use Rattle.declare_spelling.proofs.OneOutcome.{one-spells}
use Rattle.declare_type.specs.Declares.{declare_of}
use Rattle.declare_type.proofs.OneOutcome.{one-declares}
use Rattle.write_layout.specs.Types.{written_leaves}
use Rattle.claim_promises.specs.PublicContracts as contract
use Rattle.claim_promises.specs.OneOutcome.{OnceLent, OnceLentTwo, OneOutcome}
use Rattle.record_reference.proofs.OneOutcome.{one-references, one-element-references}
use Rattle.stream_fit.proofs.OneOutcome.{one-fit}

one-update-lent : (f : ItemFinder) (t : List ℕ) (c : ItemIter) → OnceLentTwo (contract.StreamFinderLentItemFinderUpdate f t c)
one-update-lent f t c r q g h m k x y =
    let e = one-change (state f t) (update_of (state f t) c) r q (state g m) (state h k) x y in
    (e.0, ap (λ (σ : State). σ.finder) e.1, ap (λ (σ : State). σ.table) e.1)

one-reader-step : (x : ListReader) → OnceLent (contract.RecordReaderListReaderStep x)
one-reader-step x r q m k a b =
    let h = one-steps x.cursor (step_of x.bytes.now x.cursor) r q m.cursor k.cursor a.0 b.0 in
    (h.0, one_reader m k (a.1 ∙ sym b.1) h.1)

pub one-outcome : OneOutcome
one-outcome = record {
  field_index_type_index_index_from_number = λ n r q a b. a ∙ sym b;
  field_index_id_index_index_from_number = λ n r q a b. a ∙ sym b;
  field_index_string_ref_index_from_number = λ n r q a b. a ∙ sym b;
  field_index_type_index_optional_index_or_none = λ self r q a b. one_of (option_map (λ (i : TypeIndex). i.0)) (option_map (λ (n : ℕ). record { 0 = n })) (option-back (λ (i : TypeIndex). i.0) (λ (n : ℕ). record { 0 = n }) (λ i. refl)) r q (a ∙ sym b);
  field_index_id_index_optional_index_or_none = λ self r q a b. one_of (option_map (λ (i : IdIndex). i.0)) (option_map (λ (n : ℕ). record { 0 = n })) (option-back (λ (i : IdIndex). i.0) (λ (n : ℕ). record { 0 = n }) (λ i. refl)) r q (a ∙ sym b);
  field_reader_reader_u8 = λ self. one_from itself itself (λ a. refl) _ self;
  field_reader_reader_u16 = λ self. one_from itself itself (λ a. refl) _ self;
  field_reader_reader_u32 = λ self. one_from itself itself (λ a. refl) _ self;
  field_reader_reader_skip = λ self n. one_on _ self;
  field_reader_reader_index = λ {I} the_index self same told. one_from the_index.counts the_index.counted told _ self;
  field_reader_reader_optional = λ {I} the_optional_index the_index self same told. one_from (option_map the_index.counts) (option_map the_index.counted) (option-back the_index.counts the_index.counted told) _ self;
  field_number_read_number = λ r. one_from variant_told (λ x. record { value = hear_number x.value; width = x.form.width; shorter = x.form.shorter }) (λ v. rw (back-number v.value)) _ r;
  field_number_read_size = λ r. one_from size_told (λ x. record { value = x.value; width = x.form.width; shorter = x.form.shorter }) (λ v. refl) _ r;
  field_text_read_string = λ r. one_from part (λ x. record { place = x.place; length = x.length }) (λ t. refl) _ r;
  pane_row_member_row = λ at left padded m u q a b. a ∙ sym b;
  pane_row_entry_row = λ at left padded m u q a b. a ∙ sym b;
  pane_row_index_row = λ at left padded i u q a b. a ∙ sym b;
  pane_declare_pdb_declare = λ s table minimum maximum held shift index buffer. one-out-table _;
  pane_drop_pdb_drop = λ s roots table buffer. one-out-both _;
  pane_fit_pdb_fit = λ s. one_out _;
  pane_index_pdb_create = λ s table shift. one-out-table _;
  pane_index_pdb_index = λ s table shift. one-out-table _;
  pane_index_pdb_max_index = λ minimum maximum held shift r q a b. a ∙ sym b;
  pane_index_pdb_view = λ tpi ipi ids item index place length. one_out _;
  pane_index_pdb_kind = λ tpi ipi ids item index place length. one_out _;
  pane_index_pdb_load = λ s file table. one-out-table _;
  pane_index_pdb_load_short = λ s file table. one-out-table _;
  pane_index_pdb_save = λ s table minimum maximum held shift buffer. one-out-table _;
  pane_index_pdb_save_short = λ s table minimum maximum held shift buffer. one-out-table _;
  pane_out_refused = λ e out. one_out _;
  pane_state_cursor_given = λ at index r q a b. a ∙ sym b;
  pane_state_finder_given = λ minimum maximum held shift r q a b. a ∙ sym b;
  pane_state_finder_out = λ f r q a b. a ∙ sym b;
  pane_out_first = λ e r q a b. a ∙ sym b;
  pane_out_second = λ e r q a b. a ∙ sym b;
  pane_out_is_set = λ n r q a b. a ∙ sym b;
  pane_out_flag = λ yes r q a b. a ∙ sym b;
  pane_parse_pdb_parse = λ tpi ipi ids item index place length. one_out _;
  pane_parse_pdb_section_read = λ s index place length. one_out _;
  pane_record_pdb_type = λ s. one_out _;
  pane_record_pdb_id = λ s. one_out _;
  pane_record_pdb_list = λ s ids. one_out _;
  pane_record_pdb_step = λ s leaf at left padded. one_out _;
  pane_report_pdb_report = λ s taken refused headers records bytes length stream index rows table. one-out-table _;
  pane_row_type_row = λ d r q a b. a ∙ sym b;
  pane_row_id_row = λ d r q a b. a ∙ sym b;
  pane_row_cursor_row = λ c r q a b. a ∙ sym b;
  pane_section_pdb_section_start = λ s. one_out _;
  pane_section_pdb_section_count = λ s. one_out _;
  pane_section_pdb_section_create = λ s table shift. one-out-table _;
  pane_section_pdb_section_index = λ s table shift. one-out-table _;
  pane_section_pdb_section_stream = λ s buffer. one-out-table _;
  pane_section_pdb_section_list = λ s. one_out _;
  pane_state_walk_out = λ t r q a b. a ∙ sym b;
  pane_state_entry_of = λ ids item index place length r q a b. a ∙ sym b;
  pane_word_pdb_string = λ s leaf at. one_out _;
  pane_word_pdb_padding = λ s at. one_out _;
  pane_word_pdb_size = λ s at. one_out _;
  pane_word_pdb_number = λ s at. one_out _;
  pane_word_pdb_optional_type = λ index r q a b. a ∙ sym b;
  pane_word_pdb_optional_id = λ index r q a b. a ∙ sym b;
  pane_word_pdb_is_cross_module = λ index r q a b. a ∙ sym b;
  pane_word_pdb_properties = λ word. one_out _;
  pane_word_pdb_field_attributes = λ word. one_out _;
  pane_word_pdb_function_attributes = λ word. one_out _;
  pane_word_pdb_pointer_attributes = λ word. one_out _;
  pane_write_pdb_write_type = λ text leaf cells buffer at. one-out-table _;
  pane_write_pdb_write_id = λ text leaf cells buffer at. one-out-table _;
  pane_write_pdb_write_fields = λ text rows buffer at. one-out-table _;
  pane_write_pdb_write_methods = λ text rows buffer at. one-out-table _;
  pane_write_pdb_write_header = λ fields stream pad buffer at. one-out-table _;
  pane_write_pdb_cells = λ s ids cells. one-out-table _;
  pane_write_pdb_layout = λ which leaf r q a b. a.1 ∙ sym b.1;
  record_cells_type_cells = λ s leaf at out r q m k a b. (one-cells (cells_of 9) (fields_by (find leaf type_leaves) leaf s at) r q out m k a b, one-cells-out (cells_of 9) (fields_by (find leaf type_leaves) leaf s at) r q out m k a b);
  record_cells_id_cells = λ s leaf at out r q m k a b. (one-cells (cells_of 9) (fields_by (find leaf id_leaves) leaf s at) r q out m k a b, one-cells-out (cells_of 9) (fields_by (find leaf id_leaves) leaf s at) r q out m k a b);
  record_cells_layout_type_layout = λ leaf r q a b. a.1 ∙ sym b.1;
  record_cells_layout_member_layout = λ leaf r q a b. a.1 ∙ sym b.1;
  record_cells_layout_method_layout = λ r q a b. a.1 ∙ sym b.1;
  record_cells_layout_id_layout = λ leaf r q a b. a.1 ∙ sym b.1;
  write_cells_write_type = λ text leaf row out at. one_writes out (lay (write_record written_leaves (given_all text (cell_values leaf row))) out at);
  write_cells_write_id = λ text leaf row out at. one_writes out (lay (write_record id_leaves (given_all text (cell_values leaf row))) out at);
  declare_spelling_kind_spelled = λ k. one-spells (kind_text k);
  declare_spelling_kind_size = λ k by r q a b. a ∙ sym b;
  declare_type_declare = λ s f t i out. one-declares (declare_of s (state f t) i.0 (length out)) out;
  declare_spelling_indirection = λ y. one-spells (indirection_text y);
  declare_spelling_mode = λ m. one-spells (mode_text m);
  declare_spelling_qualifiers = λ q. one-spells (quals_text q);
  answer_name_name_of = λ e r q a b. a ∙ sym b;
  answer_refusal_number = λ self r q a b. a ∙ sym b;
  answer_refusal_details = λ self r q a b. one-details r q (a ∙ sym b);
  field_fixed_u8_at = λ s p r q a b. one-u8 r q (a ∙ sym b);
  field_fixed_u16_at = λ s p r q a b. one-u16 r q (a ∙ sym b);
  field_fixed_u32_at = λ s p r q a b. one-u32 r q (a ∙ sym b);
  field_fixed_u64_at = λ s p r q a b. one-u64 r q (a ∙ sym b);
  field_index_stream_index = λ self n r q a b. a ∙ sym b;
  field_index_item_index_stream = λ self r q a b. a ∙ sym b;
  field_index_item_index_number = λ self r q a b. a ∙ sym b;
  field_index_type_index_is_cross_module = λ self r q a b. a ∙ sym b;
  field_index_type_index_optional = λ self r q a b. one-optional-type r q (a ∙ sym b);
  field_index_id_index_is_cross_module = λ self r q a b. a ∙ sym b;
  field_index_id_index_optional = λ self r q a b. one-optional-id r q (a ∙ sym b);
  field_index_type_at = λ s p r q a b. one_type r q (a ∙ sym b);
  field_index_id_at = λ s p r q a b. one-id r q (a ∙ sym b);
  field_index_string_ref_at = λ s p r q a b. one-string-ref r q (a ∙ sym b);
  field_index_optional_type_at = λ s p r q a b. one-read-type r q (a ∙ sym b);
  field_index_optional_id_at = λ s p r q a b. one-read-id r q (a ∙ sym b);
  field_run_after_bytes = λ s p n r q a b. one-after r q (a ∙ sym b);
  field_run_bytes_at = λ s p n r q a b. a ∙ sym b;
  field_number_number_at = λ s p r q a b. one-variant r q (a ∙ sym b);
  field_number_size_at = λ s p r q a b. one_size r q (a ∙ sym b);
  field_put_put8 = λ out p x. one-lays out p (bytes 1 x);
  field_put_put16 = λ out p x. one-lays out p (bytes 2 x);
  field_put_put32 = λ out p x. one-lays out p (bytes 4 x);
  field_put_put_all = λ out p xs. one-lays out p xs;
  field_text_string_at = λ s p r q a b. one-string r q (a ∙ sym b);
  field_text_raw_string_bytes = λ self s r q a b. a ∙ sym b;
  field_text_string_of = λ leaf s p r q a b. one-string r q (a ∙ sym b);
  field_text_after_padding = λ s p r q a b. one-after r q (a ∙ sym b);
  pane_pdb_header = λ s. one_out _;
  pane_pdb_next = λ s at index. one_out _;
  pane_pdb_update = λ table minimum maximum held shift at index. one-out-table _;
  pane_pdb_find = λ s table minimum maximum held shift index. one_out _;
  pane_pdb_primitive = λ index. one_out _;
  record_data_type_data_name = λ self r q a b. one-type-name r q (a ∙ sym b);
  record_data_type_data = λ s r q a b. one-type-data r q (a ∙ sym b);
  record_id_id_data = λ s r q a b. one-id-data r q (a ∙ sym b);
  record_list_start = λ stream s r q a b. one-start r q (a ∙ sym b);
  record_list_step = λ s c r q a b. one-step r q (a ∙ sym b);
  record_list_element_from = λ s c k r q a b. one-element r q (a ∙ sym b);
  record_member_member_name = λ self r q a b. one-optional-string r q (a ∙ sym b);
  record_member_member_at = λ s p r q a b. one-member r q (a ∙ sym b);
  record_member_method_entry_at = λ s p r q a b. one_entry r q (a ∙ sym b);
  record_parse_parse = λ tpi ipi entry r q a b. one-parse r q (a ∙ sym b);
  record_reader_list_reader_new = λ bytes cursor r q a b. one_reader r q (a.0 ∙ sym b.0) (a.1 ∙ sym b.1);
  record_reader_list_reader_element = λ self k r q a b. one-element r q (a ∙ sym b);
  record_reader_list_reader_step = one-reader-step;
  record_reader_nth = λ stream s k r q a b. one-element r q (a ∙ sym b);
  section_finder_create = λ s t. one-fills t (sections.section_create_of s t);
  section_finder_create_by = λ s t shift. one-fills t (sections.section_create_by shift s t);
  section_finder_index_all = one-section 3;
  section_finder_index_all_by = λ s t shift. one-section shift s t;
  section_item_iter = λ s r q a b. one-iter r q (a ∙ sym b);
  section_item_len = λ s r q a b. one-len r q (a ∙ sym b);
  section_read_parse = λ s entry r q a b. one-parse r q (a ∙ sym b);
  section_read_start = λ bytes r q a b. one-start r q (a ∙ sym b);
  section_stream_to_stream = λ s out. one_writes out (lay (section_stream s) out 0);
  stream_finder_create = λ s t. one-fills t (create_of s t);
  stream_finder_begin = λ t records shift. one-fills t (begun_in shift t records);
  stream_finder_create_by = λ s t shift. one-fills t (create_by shift s t);
  stream_finder_update = λ f t c. one-fills t (update_of (state f t) c);
  stream_finder_item_finder_max_type_index = λ self r q a b i. record { 0 = (a ∙ sym b) i };
  stream_finder_item_finder_max_id_index = λ self r q a b i. record { 0 = (a ∙ sym b) i };
  stream_finder_find_type = λ s f t i r q a b. one-find r q (a ∙ sym b);
  stream_finder_find_id = λ s f t i r q a b. one-find r q (a ∙ sym b);
  stream_finder_lent_item_finder_update = one-update-lent;
  stream_header_header_parse = λ s r q a b. one-header r q (a ∙ sym b);
  record_reference_record_references = λ d r q a b. one-references r q (a ∙ sym b);
  record_reference_element_references = λ e r q a b. one-element-references _ r q a b;
  stream_fit_rule_number = λ self r q a b. a ∙ sym b;
  stream_fit_fit = λ s r q a b. one-fit r q (a ∙ sym b);
  stream_header_header_count = λ self r q a b. a ∙ sym b;
  stream_index_next_and_update = λ s f t c. one-leads t (turn_of s (state f t) c);
  stream_index_index_on = λ s f t c. one-walks s c (state f t);
  stream_index_index_all = one-indexes 3;
  stream_index_index_all_by = λ stream s t shift. one-indexes shift stream s t;
  stream_item_entry_index = λ self r q a b. a ∙ sym b;
  stream_item_entry_len = λ self r q a b. a ∙ sym b;
  stream_item_entry_is_empty = λ self r q a b. a ∙ sym b;
  stream_item_information_len = λ s r q a b. one-len r q (a ∙ sym b);
  stream_item_information_is_empty = λ s r q a b. one-empty r q (a ∙ sym b);
  stream_item_iter_iter = λ stream s r q a b. one-iter r q (a ∙ sym b);
  stream_item_iter_next = λ s c r q a b. one-next r q (a ∙ sym b);
  stream_item_link_link_of = λ s p k r q a b. a ∙ sym b;
  stream_places_load = λ s f t. one-fills t (load_of s f t);
  stream_places_load_wide = λ s f t. one-fills t (load_wide_of s f t);
  stream_places_save = λ s f t out. one-saves out (save_of s (state f t) (length out));
  stream_places_save_wide = λ s f t out. one-saves out (save_wide_of s (state f t) (length out));
  stream_places_trailer_trailer_parse = λ f r q a b. one-trailer r q (a ∙ sym b);
  stream_places_trailer_trailer_parse_wide = λ f r q a b. one-trailer r q (a ∙ sym b);
  stream_report_new = λ r q a b. a ∙ sym b;
  stream_report_add = λ totals table s. one-reports table (add_of (report_in totals table) s);
  stream_drop_drop = λ s roots table out. one-drops table out (drop_of s roots (length table) (length out));
  stream_view_bytes_of = λ tpi ipi entry r q a b. a ∙ sym b;
  stream_view_view = λ tpi ipi entry r q a b. one-entry-view r q a b;
  stream_view_view_answer = λ tpi ipi entry r q a b. one-view r q (a ∙ sym b);
  stream_view_raw_kind = λ tpi ipi entry r q a b. one-kind r q (a ∙ sym b);
  word_attributes_type_properties_packed = λ self r q a b. a ∙ sym b;
  word_attributes_type_properties_constructors = λ self r q a b. a ∙ sym b;
  word_attributes_type_properties_overloaded_operators = λ self r q a b. a ∙ sym b;
  word_attributes_type_properties_is_nested_type = λ self r q a b. a ∙ sym b;
  word_attributes_type_properties_contains_nested_types = λ self r q a b. a ∙ sym b;
  word_attributes_type_properties_overloaded_assignment = λ self r q a b. a ∙ sym b;
  word_attributes_type_properties_overloaded_casting = λ self r q a b. a ∙ sym b;
  word_attributes_type_properties_forward_reference = λ self r q a b. a ∙ sym b;
  word_attributes_type_properties_scoped_definition = λ self r q a b. a ∙ sym b;
  word_attributes_type_properties_has_unique_name = λ self r q a b. a ∙ sym b;
  word_attributes_type_properties_sealed = λ self r q a b. a ∙ sym b;
  word_attributes_type_properties_intrinsic_type = λ self r q a b. a ∙ sym b;
  word_attributes_type_properties_hfa = λ self r q a b. a ∙ sym b;
  word_attributes_type_properties_mocom = λ self r q a b. a ∙ sym b;
  word_attributes_field_attributes_access = λ self r q a b. a ∙ sym b;
  word_attributes_field_attributes_method_properties = λ self r q a b. a ∙ sym b;
  word_attributes_field_attributes_is_static = λ self r q a b. a ∙ sym b;
  word_attributes_field_attributes_is_virtual = λ self r q a b. a ∙ sym b;
  word_attributes_field_attributes_is_pure_virtual = λ self r q a b. a ∙ sym b;
  word_attributes_field_attributes_is_intro_virtual = λ self r q a b. a ∙ sym b;
  word_attributes_function_attributes_calling_convention = λ self r q a b. a ∙ sym b;
  word_attributes_function_attributes_cxx_return_udt = λ self r q a b. a ∙ sym b;
  word_attributes_function_attributes_is_constructor = λ self r q a b. a ∙ sym b;
  word_attributes_function_attributes_is_constructor_with_virtual_bases = λ self r q a b. a ∙ sym b;
  word_attributes_modifier_flags_constant = λ self r q a b. a ∙ sym b;
  word_attributes_modifier_flags_volatile = λ self r q a b. a ∙ sym b;
  word_attributes_modifier_flags_unaligned = λ self r q a b. a ∙ sym b;
  word_attributes_pointer_attributes_pointer_kind = λ self r q a b. one-pointer-kind r q (a ∙ sym b);
  word_attributes_pointer_attributes_pointer_mode = λ self r q a b. one-mode r q (a ∙ sym b);
  word_attributes_pointer_attributes_pointer_to_member = λ self r q a b. one-flag r q (a ∙ sym b);
  word_attributes_pointer_attributes_is_flat_32 = λ self r q a b. a ∙ sym b;
  word_attributes_pointer_attributes_is_volatile = λ self r q a b. a ∙ sym b;
  word_attributes_pointer_attributes_is_const = λ self r q a b. a ∙ sym b;
  word_attributes_pointer_attributes_is_unaligned = λ self r q a b. a ∙ sym b;
  word_attributes_pointer_attributes_is_restrict = λ self r q a b. a ∙ sym b;
  word_attributes_pointer_attributes_is_reference = λ self r q a b. one-flag r q (a ∙ sym b);
  word_attributes_pointer_attributes_size = λ self r q a b. one-pointer-size r q (a ∙ sym b);
  word_attributes_pointer_attributes_is_mocom = λ self r q a b. a ∙ sym b;
  word_primitive_primitive = λ index r q a b. one-primitive r q (a ∙ sym b);
  write_pieces_fields_two_bytes = λ x r q a b. a.0 ∙ sym b.0;
  write_pieces_fields_natural = λ n r q a b. a.0 ∙ sym b.0;
  write_pieces_fields_unnamed = λ r q a b. a.0 ∙ sym b.0;
  write_header_write_header = λ h out at. one_writes out (lay (header_bytes h) out at);
  write_list_write_field_list = λ text rows out at. one_writes out (lay (field_list_bytes (member_rows text rows)) out at);
  write_list_write_method_list = λ text rows out at. one_writes out (lay (method_list_bytes (method_rows text rows)) out at);
  write_pieces_capped_sum = λ n k r q a b. a ∙ sym b;
  write_pieces_measured = λ text xs r q a b. one-measure r q (a ∙ sym b);
  write_pieces_write_plain = λ text xs out at. one_writes out (lay (limited (pieces_of text xs)) out at);
  write_pieces_write_filled = λ text xs out at. one_writes out (lay (limited (filled_each (pieces_of text xs))) out at);
  write_list_rows_of_member = λ m r q a b. a ∙ sym b;
  write_list_rows_of_method = λ m r q a b. a ∙ sym b;
}
