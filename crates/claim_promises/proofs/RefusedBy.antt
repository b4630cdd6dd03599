-- Demand 1 of the contracts: what Demand1 says of each definition, by the one step of Answers. Where memory is lent, an answer says a part of what the
-- definition does, and its refusals. Assumes nothing.
use Prim.Native.Nat.{ℕ}
use mathlib.Core.List.{List, [], ◌∷◌}
use Rattle.answer.specs.Answer.{Answer}
use Rattle.stream_finder.specs.Finder.{State, finder_of, state}
use Rattle.stream_finder.specs.Lent.{outcome}
use Rattle.stream_places.specs.Places.{file_size}
use Rattle.stream_report.specs.Report.{Report, totals_in, report_in}
use Rattle.record_list.specs.Lists.{Step}
use Rattle.record_reader.specs.Reader.{element_in}
use Rattle.record_layout.specs.Layouts.{id_leaves}
use Rattle.write_layout.specs.Fields.{given_all}
use Rattle.write_layout.specs.Types.{written_leaves}
use Rattle.write_cells.specs.Cells.{cell_values}
use Rattle.write_layout.specs.Buffer.{Written, place_after}
use Rattle.field.specs.Indices.{no_id, no_type}
use Rattle.write_list.specs.Rows.{member_rows, method_rows}
use lib.ListN.{length}
use Rattle.field.specs.declared.index.ItemIndex.TheVariants as item_index
use Rattle.claim_promises.specs.ByTable.{Refuses, FindRefuses, gives, refuses}
use Rattle.claim_promises.specs.RefusedBy.{EachRefusedBy}
use Rattle.claim_promises.proofs.Demand1.{demand1}
use Rattle.claim_promises.proofs.SectionsProof.{sections-refuse}
use Rattle.claim_promises.proofs.Answers.{along, answers}

of-finder : {ns : List ℕ} {a : Answer State} → Refuses ns a → Refuses ns (finder_of a)
of-finder gives = gives
of-finder (refuses e) = refuses e

of-outcome : {ns : List ℕ} {a : Answer State} → Refuses ns a → Refuses ns (outcome a)
of-outcome gives = gives
of-outcome (refuses e) = refuses e

of_size : {ns : List ℕ} {a : Answer (List ℕ)} → Refuses ns a → Refuses ns (file_size a)
of_size gives = gives
of_size (refuses e) = refuses e

of-totals : {ns : List ℕ} {a : Answer Report} → Refuses ns a → Refuses ns (totals_in a)
of-totals gives = gives
of-totals (refuses e) = refuses e

of-element : {ns : List ℕ} {a : Answer Step} → Refuses ns a → Refuses ns (element_in a)
of-element gives = gives
of-element (refuses e) = refuses e

of-place : {ns : List ℕ} {a : Answer Written} → Refuses ns a → Refuses ns (place_after a)
of-place gives = gives
of-place (refuses e) = refuses e

pub each-refused-by : EachRefusedBy
each-refused-by = record {
  field_fixed_u8_at = λ s p. answers.field_fixed_u8_at s p (Refuses (1 ∷ [])) (demand1.fields 1 s p);
  field_fixed_u16_at = λ s p. answers.field_fixed_u16_at s p (Refuses (1 ∷ [])) (demand1.fields 2 s p);
  field_fixed_u32_at = λ s p. answers.field_fixed_u32_at s p (Refuses (1 ∷ [])) (demand1.fields 4 s p);
  field_fixed_u64_at = λ s p. answers.field_fixed_u64_at s p (Refuses (1 ∷ [])) (demand1.fields 8 s p);
  field_index_type_at = λ s p. answers.field_index_type_at s p (Refuses (1 ∷ [])) (demand1.fields 4 s p);
  field_index_id_at = λ s p. answers.field_index_id_at s p (Refuses (1 ∷ [])) (demand1.fields 4 s p);
  field_index_string_ref_at = λ s p. answers.field_index_string_ref_at s p (Refuses (1 ∷ [])) (demand1.fields 4 s p);
  field_index_optional_type_at = λ s p. answers.field_index_optional_type_at s p (Refuses (1 ∷ [])) (demand1.optional_indices no_type s p);
  field_index_optional_id_at = λ s p. answers.field_index_optional_id_at s p (Refuses (1 ∷ [])) (demand1.optional_indices no_id s p);
  field_run_after_bytes = λ s p n. answers.field_run_after_bytes s p n (Refuses (1 ∷ [])) (demand1.runs n s p);
  field_number_number_at = λ s p. answers.field_number_number_at s p (Refuses (1 ∷ 11 ∷ [])) (demand1.numbers s p);
  field_number_size_at = λ s p. answers.field_number_size_at s p (Refuses (1 ∷ 11 ∷ [])) (demand1.sizes s p);
  field_text_string_at = λ s p. answers.field_text_string_at s p (Refuses (1 ∷ [])) (demand1.strings s p);
  field_text_string_of = λ leaf s p. answers.field_text_string_of leaf s p (Refuses (1 ∷ [])) (demand1.strings_by_leaf leaf s p);
  field_text_after_padding = λ s p. answers.field_text_after_padding s p (Refuses (1 ∷ [])) (demand1.paddings s p);
  record_data_type_data = λ s. answers.record_data_type_data s (Refuses (1 ∷ 10 ∷ 11 ∷ 12 ∷ [])) (demand1.types s);
  record_id_id_data = λ s. answers.record_id_id_data s (Refuses (1 ∷ 10 ∷ [])) (demand1.ids s);
  record_list_start = λ stream s. answers.record_list_start stream s (Refuses (1 ∷ 10 ∷ [])) (demand1.starts stream s);
  record_list_step = λ s c. answers.record_list_step s c (Refuses (15 ∷ 1 ∷ 10 ∷ 11 ∷ [])) (demand1.steps s c);
  record_list_element_from = λ s c k. answers.record_list_element_from s c k (Refuses (15 ∷ 1 ∷ 10 ∷ 11 ∷ [])) (demand1.elements_on s k c);
  record_member_member_at = λ s p. answers.record_member_member_at s p (Refuses (1 ∷ 10 ∷ 11 ∷ [])) (demand1.members s p);
  record_member_method_entry_at = λ s p. answers.record_member_method_entry_at s p (Refuses (1 ∷ [])) (demand1.methods s p);
  record_parse_parse = λ tpi ipi entry. answers.record_parse_parse tpi ipi entry (Refuses (16 ∷ 1 ∷ 8 ∷ 10 ∷ 11 ∷ 12 ∷ [])) (demand1.entries tpi ipi entry);
  record_reader_list_reader_element = λ self k. answers.record_reader_list_reader_element self k (Refuses (15 ∷ 1 ∷ 10 ∷ 11 ∷ [])) (demand1.elements_on self.bytes.now k self.cursor);
  record_reader_nth = λ stream s k. answers.record_reader_nth stream s k (Refuses (15 ∷ 1 ∷ 10 ∷ 11 ∷ [])) (demand1.elements stream s k);
  section_item_iter = λ s. answers.section_item_iter s (Refuses (16 ∷ 1 ∷ 25 ∷ [])) (sections-refuse.starts s);
  section_item_len = λ s. answers.section_item_len s (Refuses (16 ∷ 1 ∷ 25 ∷ 6 ∷ 7 ∷ [])) (sections-refuse.counts s);
  section_read_parse = λ s entry. answers.section_read_parse s entry (Refuses (16 ∷ 1 ∷ 8 ∷ 10 ∷ 11 ∷ 12 ∷ [])) (sections-refuse.entries s entry);
  section_read_start = λ bytes. answers.section_read_start bytes (Refuses (1 ∷ 10 ∷ [])) (sections-refuse.lists bytes);
  stream_header_header_parse = λ s. answers.stream_header_header_parse s (Refuses (16 ∷ 1 ∷ 2 ∷ 3 ∷ 4 ∷ 5 ∷ [])) (demand1.headers s);
  stream_fit_fit = λ s. answers.stream_fit_fit s (Refuses (16 ∷ 1 ∷ 2 ∷ 3 ∷ 4 ∷ 5 ∷ [])) (demand1.fits s);
  stream_item_information_len = λ s. answers.stream_item_information_len s (Refuses (16 ∷ 1 ∷ 2 ∷ 3 ∷ 4 ∷ 5 ∷ [])) (demand1.counts s);
  stream_item_information_is_empty = λ s. answers.stream_item_information_is_empty s (Refuses (16 ∷ 1 ∷ 2 ∷ 3 ∷ 4 ∷ 5 ∷ [])) (demand1.empties s);
  stream_item_iter_iter = λ stream s. answers.stream_item_iter_iter stream s (Refuses (16 ∷ 1 ∷ 2 ∷ 3 ∷ 4 ∷ 5 ∷ [])) (demand1.iterators stream s);
  stream_item_iter_next = λ s c. answers.stream_item_iter_next s c (Refuses (16 ∷ 1 ∷ 6 ∷ 7 ∷ [])) (demand1.nexts s c);
  stream_places_trailer_trailer_parse = λ f. answers.stream_places_trailer_trailer_parse f (Refuses (20 ∷ [])) (demand1.trailers f);
  stream_places_trailer_trailer_parse_wide = λ f. answers.stream_places_trailer_trailer_parse_wide f (Refuses (20 ∷ [])) (demand1.wide_trailers f);
  stream_view_view = λ tpi ipi entry. answers.stream_view_view tpi ipi entry (Refuses (16 ∷ 1 ∷ 8 ∷ [])) (demand1.views tpi ipi entry);
  stream_view_view_answer = λ tpi ipi entry. answers.stream_view_view_answer tpi ipi entry (Refuses (16 ∷ 1 ∷ 8 ∷ [])) (demand1.views tpi ipi entry);
  stream_view_raw_kind = λ tpi ipi entry. answers.stream_view_raw_kind tpi ipi entry (Refuses (16 ∷ 1 ∷ [])) (demand1.raw_kinds tpi ipi entry);
  word_attributes_pointer_attributes_pointer_kind = λ self. answers.word_attributes_pointer_attributes_pointer_kind self (Refuses (12 ∷ [])) (demand1.pointer_kinds self.0);
  word_attributes_pointer_attributes_pointer_mode = λ self. answers.word_attributes_pointer_attributes_pointer_mode self (Refuses (12 ∷ [])) (demand1.pointer_modes self.0);
  word_attributes_pointer_attributes_pointer_to_member = λ self. answers.word_attributes_pointer_attributes_pointer_to_member self (Refuses (12 ∷ [])) (demand1.pointers_to_members self.0);
  word_attributes_pointer_attributes_is_reference = λ self. answers.word_attributes_pointer_attributes_is_reference self (Refuses (12 ∷ [])) (demand1.references self.0);
  word_attributes_pointer_attributes_size = λ self. answers.word_attributes_pointer_attributes_size self (Refuses (12 ∷ [])) (demand1.pointer_sizes self.0);
  word_primitive_primitive = λ index. answers.word_primitive_primitive index (Refuses (8 ∷ [])) (demand1.primitives index.0);
  stream_finder_find_type = λ s f t i. answers.stream_finder_find_type s f t i (FindRefuses (16 ∷ 26 ∷ 13 ∷ 8 ∷ 9 ∷ 1 ∷ [])) (demand1.finds s (state f t) (item_index.Types i));
  stream_finder_find_id = λ s f t i. answers.stream_finder_find_id s f t i (FindRefuses (16 ∷ 26 ∷ 13 ∷ 8 ∷ 9 ∷ 1 ∷ [])) (demand1.finds s (state f t) (item_index.Ids i));
  field_reader_reader_u8 = λ self r self' it. along (Refuses (1 ∷ [])) it.0 (demand1.fields 1 self.bytes.now self.at);
  field_reader_reader_u16 = λ self r self' it. along (Refuses (1 ∷ [])) it.0 (demand1.fields 2 self.bytes.now self.at);
  field_reader_reader_u32 = λ self r self' it. along (Refuses (1 ∷ [])) it.0 (demand1.fields 4 self.bytes.now self.at);
  field_reader_reader_skip = λ self n r self' it. along (Refuses (1 ∷ [])) it.0 (demand1.runs n self.bytes.now self.at);
  field_reader_reader_index = λ {I} the_index self r self' it. along (Refuses (1 ∷ [])) it.0 (demand1.fields 4 self.bytes.now self.at);
  field_reader_reader_optional = λ {I} the_optional_index the_index self r self' it. along (Refuses (1 ∷ [])) it.0 (demand1.optional_indices the_optional_index.nones self.bytes.now self.at);
  field_number_read_number = λ r a r' it. along (Refuses (1 ∷ 11 ∷ [])) it.0 (demand1.numbers r.bytes.now r.at);
  field_number_read_size = λ r a r' it. along (Refuses (1 ∷ 11 ∷ [])) it.0 (demand1.sizes r.bytes.now r.at);
  field_text_read_string = λ r a r' it. along (Refuses (1 ∷ [])) it.0 (demand1.strings r.bytes.now r.at);
  stream_finder_create = λ s t r t' it. along (Refuses (16 ∷ 1 ∷ 2 ∷ 3 ∷ 4 ∷ 5 ∷ 13 ∷ [])) it.answer (of-finder (demand1.creations s t));
  stream_finder_create_by = λ s t shift r t' it. along (Refuses (16 ∷ 1 ∷ 2 ∷ 3 ∷ 4 ∷ 5 ∷ 26 ∷ 13 ∷ [])) it.answer (of-finder (demand1.creations_by shift s t));
  stream_finder_begin = λ t records shift r t' it. along (Refuses (26 ∷ 13 ∷ [])) it.answer (of-finder (demand1.beginnings shift t records));
  stream_finder_update = λ f t c r t' it. along (Refuses (16 ∷ 26 ∷ 13 ∷ 14 ∷ [])) it.answer (of-finder (demand1.updates (state f t) c));
  stream_finder_lent_item_finder_update = λ self t c r self' t' it. along (Refuses (16 ∷ 26 ∷ 13 ∷ 14 ∷ [])) it.answer (of-outcome (demand1.updates (state self t) c));
  stream_index_next_and_update = λ s f t c r t' it. along (Refuses (16 ∷ 1 ∷ 6 ∷ 7 ∷ 26 ∷ 13 ∷ 14 ∷ [])) it.answer (demand1.turns s (state f t) c);
  stream_places_load = λ s f t r t' it. along (Refuses (16 ∷ 1 ∷ 2 ∷ 3 ∷ 4 ∷ 5 ∷ 20 ∷ 21 ∷ 13 ∷ 22 ∷ [])) it.answer (of-finder (demand1.loads s f t));
  stream_places_load_wide = λ s f t r t' it. along (Refuses (16 ∷ 1 ∷ 2 ∷ 3 ∷ 4 ∷ 5 ∷ 20 ∷ 21 ∷ 13 ∷ 22 ∷ [])) it.answer (of-finder (demand1.wide_loads s f t));
  stream_places_save = λ s f t out r out' it. along (Refuses (16 ∷ 1 ∷ 2 ∷ 3 ∷ 4 ∷ 5 ∷ 21 ∷ 26 ∷ 13 ∷ 19 ∷ [])) it.answer (of_size (demand1.saves s (state f t) (length out)));
  stream_places_save_wide = λ s f t out r out' it. along (Refuses (16 ∷ 1 ∷ 2 ∷ 3 ∷ 4 ∷ 5 ∷ 21 ∷ 26 ∷ 13 ∷ 19 ∷ [])) it.answer (of_size (demand1.wide_saves s (state f t) (length out)));
  stream_report_add = λ totals table s r table' it. along (Refuses (27 ∷ 28 ∷ [])) it.answer (of-totals (demand1.additions (report_in totals table) s));
  stream_drop_drop = λ s roots table out r table' out' it. along (Refuses (16 ∷ 1 ∷ 2 ∷ 3 ∷ 4 ∷ 5 ∷ 29 ∷ 8 ∷ 13 ∷ 30 ∷ 19 ∷ [])) it.says (demand1.drops s roots (length table) (length out));
  record_reader_list_reader_step = λ self r self' it. along (Refuses (15 ∷ 1 ∷ 10 ∷ 11 ∷ [])) it.0.answer (of-element (demand1.steps self.bytes.now self.cursor));
  section_finder_create = λ s t r t' it. along (Refuses (16 ∷ 1 ∷ 25 ∷ 6 ∷ 7 ∷ 26 ∷ 13 ∷ [])) it.answer (of-finder (sections-refuse.creations 3 s t));
  section_finder_create_by = λ s t shift r t' it. along (Refuses (16 ∷ 1 ∷ 25 ∷ 6 ∷ 7 ∷ 26 ∷ 13 ∷ [])) it.answer (of-finder (sections-refuse.creations shift s t));
  section_stream_to_stream = λ s out r out' it. along (Refuses (16 ∷ 1 ∷ 25 ∷ 6 ∷ 7 ∷ 19 ∷ [])) it.answer (of-place (sections-refuse.streams s out));
  write_header_write_header = λ h out at r out' it. along (Refuses (2 ∷ 3 ∷ 4 ∷ 5 ∷ 19 ∷ [])) it.answer (of-place (demand1.headers_written h out at));
  write_list_write_field_list = λ text rows out at r out' it. along (Refuses (17 ∷ 18 ∷ 19 ∷ [])) it.answer (of-place (demand1.field_lists_written (member_rows text rows) out at));
  write_list_write_method_list = λ text rows out at r out' it. along (Refuses (17 ∷ 18 ∷ 19 ∷ [])) it.answer (of-place (demand1.method_lists_written (method_rows text rows) out at));
  write_cells_write_type = λ text leaf row out at r out' it. along (Refuses (17 ∷ 18 ∷ 19 ∷ [])) it.answer (of-place (demand1.records_written written_leaves (given_all text (cell_values leaf row)) out at));
  write_cells_write_id = λ text leaf row out at r out' it. along (Refuses (17 ∷ 18 ∷ 19 ∷ [])) it.answer (of-place (demand1.records_written id_leaves (given_all text (cell_values leaf row)) out at));
  write_pieces_write_plain = λ text xs out at r out' it. along (Refuses (17 ∷ 18 ∷ 19 ∷ [])) it.answer (of-place (demand1.pieces_written text xs out at));
  write_pieces_write_filled = λ text xs out at r out' it. along (Refuses (17 ∷ 18 ∷ 19 ∷ [])) it.answer (of-place (demand1.pieces_filled text xs out at));
}
