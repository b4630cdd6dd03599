-- What C gets: of each exported function the result, what stands behind `out`, and what lent memory holds after the call, by the definition that the plain
-- function's contract cites. As Answers.antt says it of the plain functions, and by hand as there: an export that comes to hand out another definition has no
-- proof here.
use Rattle.std.specs.Prelude.{ℕ, leb, length, List, ◌≡◌}
use Rattle.declare_type.specs.Declares.{declare_of}
use Rattle.field.specs.Indices.{no_id, no_type, optional_of}
use Rattle.field.specs.declared.index.Stream.TheVariants.{Types}
use Rattle.field_number.specs.Forms.{numeral_at, sized_at}
use Rattle.field_text.specs.Texts.{padding_after, string_of}
use Rattle.pane.specs.Out.{out_find, out_header, out_next, out_primitive, out_update, type_at}
use Rattle.pane_declare.specs.Out.{out_declare}
use Rattle.pane_drop.specs.Out.{out_drop}
use Rattle.pane_fit.specs.Out.{out_fit}
use Rattle.pane_index.specs.Out.{out_kind, out_save, out_view}
use Rattle.pane_out.specs.Handed.{is_set, mark}
use Rattle.pane_parse.specs.Out.{out_read, record_at}
use Rattle.pane_record.specs.Out.{list_cursor_at as cursor_at_of_pane_record, out_id, out_list as out_list_of_pane_record, out_step, out_type, stream_at}
use Rattle.pane_report.specs.Out.{out_report, totals_at}
use Rattle.pane_section.specs.Out.{section_index_by, out_count, out_section_list as out_list_of_pane_section, out_start, out_stream}
use Rattle.pane_state.specs.Entries.{entry_at}
use Rattle.pane_state.specs.Finders.{out_finder}
use Rattle.pane_state.specs.Given.{cursor_at as cursor_at_of_pane_state, finder_at, finder_with}
use Rattle.pane_state.specs.Walk.{index_all_by, out_walk}
use Rattle.pane_word.specs.Fields.{out_number, out_padding, out_size, out_string, present}
use Rattle.pane_word.specs.Words.{out_field, out_function, out_pointer, out_properties}
use Rattle.pane_write.specs.Read.{codes_of, leaves_of, out_cells, table_of}
use Rattle.pane_write.specs.Written.{header_in, out_write}
use Rattle.record_cells.specs.Codes.{layout_in}
use Rattle.record_layout.specs.Layouts.{id_leaves, record_of, type_leaves}
use Rattle.record_list.specs.Lists.{start_of as start_of_of_record_list, step_of as step_of_of_record_list}
use Rattle.record_parse.specs.Record.{parse_of}
use Rattle.section_finder.specs.Finders.{section_create_by}
use Rattle.section_item.specs.Sections as specs
use Rattle.section_read.specs.Readers.{read_of, reader_at}
use Rattle.section_stream.specs.Streams.{section_stream}
use Rattle.stream_drop.specs.Drop.{drop_of}
use Rattle.stream_finder.specs.Finder.{create_by, find_of, max_index_of, update_of}
use Rattle.stream_fit.specs.Fit.{fit_of}
use Rattle.stream_header.specs.Header.{header_of}
use Rattle.stream_item.specs.Iterator.{next_of}
use Rattle.stream_places.specs.Places.{load_of, load_wide_of, save_of, save_wide_of}
use Rattle.stream_report.specs.Report.{add_of, report_in}
use Rattle.stream_view.specs.Views.{raw_kind_of, view_of}
use Rattle.word_primitive.specs.Primitive.{primitive_of}
use Rattle.write_cells.specs.Cells.{cell_values}
use Rattle.write_header.specs.Headers.{header_bytes}
use Rattle.write_layout.specs.Buffer.{lay}
use Rattle.write_layout.specs.Fields.{given_all}
use Rattle.write_layout.specs.Lists.{field_list_bytes, method_list_bytes}
use Rattle.write_layout.specs.Records.{write_record}
use Rattle.write_layout.specs.Types.{written_leaves}
use Rattle.write_list.specs.Rows.{member_rows, method_rows}
use Rattle.claim_promises.specs.PublicContracts as contract

pub record Border : Type 0 where
  -- the five of R-14
  pub pane_pdb_header : (s : List ℕ) (r : ℕ) (out' : List ℕ) → contract.PanePdbHeader s r out' → (r, out') ≡ out_header (header_of s)
  pub pane_pdb_next : (s : List ℕ) (at : ℕ) (index : ℕ) (r : ℕ) (out' : List ℕ) → contract.PanePdbNext s at index r out' → (r, out') ≡ out_next (next_of s (cursor_at_of_pane_state at index))
  pub pane_pdb_update : (table : List ℕ) (minimum : ℕ) (maximum : ℕ) (held : ℕ) (shift : ℕ) (at : ℕ) (index : ℕ) (r : ℕ) (table' : List ℕ) (out' : List ℕ) → contract.PanePdbUpdate table minimum maximum held shift at index r table' out' → (r, out', table') ≡ out_update table (update_of (finder_at minimum maximum held shift table) (cursor_at_of_pane_state at index))
  pub pane_pdb_find : (s : List ℕ) (table : List ℕ) (minimum : ℕ) (maximum : ℕ) (held : ℕ) (shift : ℕ) (index : ℕ) (r : ℕ) (out' : List ℕ) → contract.PanePdbFind s table minimum maximum held shift index r out' → (r, out') ≡ out_find (find_of s (finder_at minimum maximum held shift table) (type_at index))
  pub pane_pdb_primitive : (index : ℕ) (r : ℕ) (out' : List ℕ) → contract.PanePdbPrimitive index r out' → (r, out') ≡ out_primitive index (primitive_of index)
  -- a type as a C declaration
  pub pane_declare_pdb_declare : (s : List ℕ) (table : List ℕ) (minimum : ℕ) (maximum : ℕ) (held : ℕ) (shift : ℕ) (index : ℕ) (buffer : List ℕ) (r : ℕ) (buffer' : List ℕ) (out' : List ℕ) → contract.PaneDeclarePdbDeclare s table minimum maximum held shift index buffer r buffer' out' → (r, out', buffer') ≡ out_declare buffer (declare_of s (finder_at minimum maximum held shift table) index (length buffer))
  -- what some roots reach
  pub pane_drop_pdb_drop : (s : List ℕ) (roots : List ℕ) (table : List ℕ) (buffer : List ℕ) (r : ℕ) (table' : List ℕ) (buffer' : List ℕ) (out' : List ℕ) → contract.PaneDropPdbDrop s roots table buffer r table' buffer' out' → (r, out', table', buffer') ≡ out_drop table buffer (drop_of s roots (length table) (length buffer))
  -- is a stream fit to bind
  pub pane_fit_pdb_fit : (s : List ℕ) (r : ℕ) (out' : List ℕ) → contract.PaneFitPdbFit s r out' → (r, out') ≡ out_fit (fit_of s)
  -- a stream's finder, entries, and places in a file
  pub pane_index_pdb_create : (s : List ℕ) (table : List ℕ) (shift : ℕ) (r : ℕ) (table' : List ℕ) (out' : List ℕ) → contract.PaneIndexPdbCreate s table shift r table' out' → (r, out', table') ≡ out_finder table (create_by shift s table)
  pub pane_index_pdb_index : (s : List ℕ) (table : List ℕ) (shift : ℕ) (r : ℕ) (table' : List ℕ) (out' : List ℕ) → contract.PaneIndexPdbIndex s table shift r table' out' → (r, out', table') ≡ out_walk table (index_all_by shift Types s table)
  pub pane_index_pdb_max_index : (minimum : ℕ) (maximum : ℕ) (held : ℕ) (shift : ℕ) (r : ℕ) → contract.PaneIndexPdbMaxIndex minimum maximum held shift r → r ≡ max_index_of (finder_with minimum maximum held shift)
  pub pane_index_pdb_view : (tpi : List ℕ) (ipi : List ℕ) (ids : ℕ) (item : ℕ) (index : ℕ) (place : ℕ) (length : ℕ) (r : ℕ) (out' : List ℕ) → contract.PaneIndexPdbView tpi ipi ids item index place length r out' → (r, out') ≡ out_view (view_of tpi ipi (entry_at ids item index place length))
  pub pane_index_pdb_kind : (tpi : List ℕ) (ipi : List ℕ) (ids : ℕ) (item : ℕ) (index : ℕ) (place : ℕ) (length : ℕ) (r : ℕ) (out' : List ℕ) → contract.PaneIndexPdbKind tpi ipi ids item index place length r out' → (r, out') ≡ out_kind (raw_kind_of tpi ipi (entry_at ids item index place length))
  pub pane_index_pdb_load : (s : List ℕ) (file : List ℕ) (table : List ℕ) (r : ℕ) (table' : List ℕ) (out' : List ℕ) → contract.PaneIndexPdbLoad s file table r table' out' → (r, out', table') ≡ out_finder table (load_wide_of s file table)
  pub pane_index_pdb_load_short : (s : List ℕ) (file : List ℕ) (table : List ℕ) (r : ℕ) (table' : List ℕ) (out' : List ℕ) → contract.PaneIndexPdbLoadShort s file table r table' out' → (r, out', table') ≡ out_finder table (load_of s file table)
  pub pane_index_pdb_save : (s : List ℕ) (table : List ℕ) (minimum : ℕ) (maximum : ℕ) (held : ℕ) (shift : ℕ) (buffer : List ℕ) (r : ℕ) (buffer' : List ℕ) (out' : List ℕ) → contract.PaneIndexPdbSave s table minimum maximum held shift buffer r buffer' out' → (r, out', buffer') ≡ out_save buffer (save_wide_of s (finder_at minimum maximum held shift table) (length buffer))
  pub pane_index_pdb_save_short : (s : List ℕ) (table : List ℕ) (minimum : ℕ) (maximum : ℕ) (held : ℕ) (shift : ℕ) (buffer : List ℕ) (r : ℕ) (buffer' : List ℕ) (out' : List ℕ) → contract.PaneIndexPdbSaveShort s table minimum maximum held shift buffer r buffer' out' → (r, out', buffer') ≡ out_save buffer (save_of s (finder_at minimum maximum held shift table) (length buffer))
  -- an entry by the reader that takes it
  pub pane_parse_pdb_parse : (tpi : List ℕ) (ipi : List ℕ) (ids : ℕ) (item : ℕ) (index : ℕ) (place : ℕ) (length : ℕ) (r : ℕ) (out' : List ℕ) → contract.PaneParsePdbParse tpi ipi ids item index place length r out' → (r, out') ≡ out_read index (parse_of tpi ipi (entry_at ids item index place length))
  pub pane_parse_pdb_section_read : (s : List ℕ) (index : ℕ) (place : ℕ) (length : ℕ) (r : ℕ) (out' : List ℕ) → contract.PaneParsePdbSectionRead s index place length r out' → (r, out') ≡ out_read index (read_of s (record_at index place length))
  -- records and elements
  pub pane_record_pdb_type : (s : List ℕ) (r : ℕ) (out' : List ℕ) → contract.PaneRecordPdbType s r out' → (r, out') ≡ out_type (record_of type_leaves s)
  pub pane_record_pdb_id : (s : List ℕ) (r : ℕ) (out' : List ℕ) → contract.PaneRecordPdbId s r out' → (r, out') ≡ out_id (record_of id_leaves s)
  pub pane_record_pdb_list : (s : List ℕ) (ids : ℕ) (r : ℕ) (out' : List ℕ) → contract.PaneRecordPdbList s ids r out' → (r, out') ≡ out_list_of_pane_record (start_of_of_record_list (stream_at ids) s)
  pub pane_record_pdb_step : (s : List ℕ) (leaf : ℕ) (at : ℕ) (left : ℕ) (padded : ℕ) (r : ℕ) (out' : List ℕ) → contract.PaneRecordPdbStep s leaf at left padded r out' → (r, out') ≡ out_step (step_of_of_record_list s (cursor_at_of_pane_record leaf at left padded))
  -- reports
  pub pane_report_pdb_report : (s : List ℕ) (taken : ℕ) (refused : ℕ) (headers : ℕ) (records : ℕ) (bytes : ℕ) (length : ℕ) (stream : ℕ) (index : ℕ) (rows : ℕ) (table : List ℕ) (r : ℕ) (table' : List ℕ) (out' : List ℕ) → contract.PaneReportPdbReport s taken refused headers records bytes length stream index rows table r table' out' → (r, out', table') ≡ out_report table (add_of (report_in (totals_at taken refused headers records bytes length stream index rows) table) s)
  -- sections
  pub pane_section_pdb_section_start : (s : List ℕ) (r : ℕ) (out' : List ℕ) → contract.PaneSectionPdbSectionStart s r out' → (r, out') ≡ out_start (specs.section_start s)
  pub pane_section_pdb_section_count : (s : List ℕ) (r : ℕ) (out' : List ℕ) → contract.PaneSectionPdbSectionCount s r out' → (r, out') ≡ out_count (specs.count_of s)
  pub pane_section_pdb_section_create : (s : List ℕ) (table : List ℕ) (shift : ℕ) (r : ℕ) (table' : List ℕ) (out' : List ℕ) → contract.PaneSectionPdbSectionCreate s table shift r table' out' → (r, out', table') ≡ out_finder table (section_create_by shift s table)
  pub pane_section_pdb_section_index : (s : List ℕ) (table : List ℕ) (shift : ℕ) (r : ℕ) (table' : List ℕ) (out' : List ℕ) → contract.PaneSectionPdbSectionIndex s table shift r table' out' → (r, out', table') ≡ out_walk table (section_index_by shift s table)
  pub pane_section_pdb_section_stream : (s : List ℕ) (buffer : List ℕ) (r : ℕ) (buffer' : List ℕ) (out' : List ℕ) → contract.PaneSectionPdbSectionStream s buffer r buffer' out' → (r, out', buffer') ≡ out_stream buffer (lay (section_stream s) buffer 0)
  pub pane_section_pdb_section_list : (s : List ℕ) (r : ℕ) (out' : List ℕ) → contract.PaneSectionPdbSectionList s r out' → (r, out') ≡ out_list_of_pane_section (start_of_of_record_list (reader_at s 0) s)
  -- strings, numbers, words
  pub pane_word_pdb_string : (s : List ℕ) (leaf : ℕ) (at : ℕ) (r : ℕ) (out' : List ℕ) → contract.PaneWordPdbString s leaf at r out' → (r, out') ≡ out_string (string_of leaf s at)
  pub pane_word_pdb_padding : (s : List ℕ) (at : ℕ) (r : ℕ) (out' : List ℕ) → contract.PaneWordPdbPadding s at r out' → (r, out') ≡ out_padding (padding_after s at)
  pub pane_word_pdb_size : (s : List ℕ) (at : ℕ) (r : ℕ) (out' : List ℕ) → contract.PaneWordPdbSize s at r out' → (r, out') ≡ out_size (sized_at s at)
  pub pane_word_pdb_number : (s : List ℕ) (at : ℕ) (r : ℕ) (out' : List ℕ) → contract.PaneWordPdbNumber s at r out' → (r, out') ≡ out_number (numeral_at s at)
  pub pane_word_pdb_optional_type : (index : ℕ) (r : ℕ) → contract.PaneWordPdbOptionalType index r → r ≡ present (optional_of no_type index)
  pub pane_word_pdb_optional_id : (index : ℕ) (r : ℕ) → contract.PaneWordPdbOptionalId index r → r ≡ present (optional_of no_id index)
  pub pane_word_pdb_is_cross_module : (index : ℕ) (r : ℕ) → contract.PaneWordPdbIsCrossModule index r → r ≡ mark (leb 0x80000000 index)
  pub pane_word_pdb_properties : (word : ℕ) (r : ℕ) (out' : List ℕ) → contract.PaneWordPdbProperties word r out' → (r, out') ≡ out_properties word
  pub pane_word_pdb_field_attributes : (word : ℕ) (r : ℕ) (out' : List ℕ) → contract.PaneWordPdbFieldAttributes word r out' → (r, out') ≡ out_field word
  pub pane_word_pdb_function_attributes : (word : ℕ) (r : ℕ) (out' : List ℕ) → contract.PaneWordPdbFunctionAttributes word r out' → (r, out') ≡ out_function word
  pub pane_word_pdb_pointer_attributes : (word : ℕ) (r : ℕ) (out' : List ℕ) → contract.PaneWordPdbPointerAttributes word r out' → (r, out') ≡ out_pointer word
  -- writing, and what is written from
  pub pane_write_pdb_write_type : (text : List ℕ) (leaf : ℕ) (cells : List ℕ) (buffer : List ℕ) (at : ℕ) (r : ℕ) (buffer' : List ℕ) (out' : List ℕ) → contract.PaneWritePdbWriteType text leaf cells buffer at r buffer' out' → (r, out', buffer') ≡ out_write buffer (lay (write_record written_leaves (given_all text (cell_values leaf cells))) buffer at)
  pub pane_write_pdb_write_id : (text : List ℕ) (leaf : ℕ) (cells : List ℕ) (buffer : List ℕ) (at : ℕ) (r : ℕ) (buffer' : List ℕ) (out' : List ℕ) → contract.PaneWritePdbWriteId text leaf cells buffer at r buffer' out' → (r, out', buffer') ≡ out_write buffer (lay (write_record id_leaves (given_all text (cell_values leaf cells))) buffer at)
  pub pane_write_pdb_write_fields : (text : List ℕ) (rows : List (List ℕ)) (buffer : List ℕ) (at : ℕ) (r : ℕ) (buffer' : List ℕ) (out' : List ℕ) → contract.PaneWritePdbWriteFields text rows buffer at r buffer' out' → (r, out', buffer') ≡ out_write buffer (lay (field_list_bytes (member_rows text rows)) buffer at)
  pub pane_write_pdb_write_methods : (text : List ℕ) (rows : List (List ℕ)) (buffer : List ℕ) (at : ℕ) (r : ℕ) (buffer' : List ℕ) (out' : List ℕ) → contract.PaneWritePdbWriteMethods text rows buffer at r buffer' out' → (r, out', buffer') ≡ out_write buffer (lay (method_list_bytes (method_rows text rows)) buffer at)
  pub pane_write_pdb_write_header : (fields : List ℕ) (stream : ℕ) (pad : ℕ) (buffer : List ℕ) (at : ℕ) (r : ℕ) (buffer' : List ℕ) (out' : List ℕ) → contract.PaneWritePdbWriteHeader fields stream pad buffer at r buffer' out' → (r, out', buffer') ≡ out_write buffer (lay (header_bytes (header_in fields stream pad)) buffer at)
  pub pane_write_pdb_cells : (s : List ℕ) (ids : ℕ) (cells : List ℕ) (r : ℕ) (cells' : List ℕ) (out' : List ℕ) → contract.PaneWritePdbCells s ids cells r cells' out' → (r, out', cells') ≡ out_cells cells (record_of (table_of (is_set ids)) s)
  pub pane_write_pdb_layout : (which : ℕ) (leaf : ℕ) (r : ℕ) → contract.PaneWritePdbLayout which leaf r → (layout_in r ≡ leaves_of which leaf) × (r ≡ codes_of which leaf)
