-- Each contract gives what its definition says, by one step along its equation; the attribute words by demand 2 too. Assumes nothing.
use Prim.Native.Nat.{ℕ, zero, suc}
use mathlib.Core.Bool.{Bool, false}
use mathlib.Core.List.{List, [], ◌∷◌}
use mathlib.Core.Path.{◌≡◌, sym, ap, subst, ◌∙◌}
use Rattle.claim_model.proofs.Demand2.{demand2}
use Rattle.claim_promises.specs.Answers.{Answers}

pub along : {A : Type 0} {x y : A} (Q : A → Type 0) → x ≡ y → Q y → Q x
along Q e q = subst Q (sym e) q

-- element k of a list of flags
abbrev place : ℕ → List Bool → Bool
place k [] = false
place zero (b ∷ bs) = b
place (suc k) (b ∷ bs) = place k bs

pub answers : Answers
answers = record {
  field_fixed_u8_at = λ s p Q q r it. along Q it q;
  field_fixed_u16_at = λ s p Q q r it. along Q it q;
  field_fixed_u32_at = λ s p Q q r it. along Q it q;
  field_fixed_u64_at = λ s p Q q r it. along Q it q;
  field_index_type_index_is_cross_module = λ self Q q r it. along Q it q;
  field_index_id_index_is_cross_module = λ self Q q r it. along Q it q;
  field_index_type_at = λ s p Q q r it. along Q it q;
  field_index_id_at = λ s p Q q r it. along Q it q;
  field_index_string_ref_at = λ s p Q q r it. along Q it q;
  field_index_optional_type_at = λ s p Q q r it. along Q it q;
  field_index_optional_id_at = λ s p Q q r it. along Q it q;
  field_run_after_bytes = λ s p n Q q r it. along Q it q;
  field_number_number_at = λ s p Q q r it. along Q it q;
  field_number_size_at = λ s p Q q r it. along Q it q;
  field_text_string_at = λ s p Q q r it. along Q it q;
  field_text_string_of = λ leaf s p Q q r it. along Q it q;
  field_text_after_padding = λ s p Q q r it. along Q it q;
  field_reader_reader_u8 = λ self r self' it. it.0;
  field_reader_reader_u16 = λ self r self' it. it.0;
  field_reader_reader_u32 = λ self r self' it. it.0;
  field_reader_reader_skip = λ self n r self' it. it.0;
  field_reader_reader_index = λ {I} the_index self r self' it. it.0;
  field_reader_reader_optional = λ {I} the_optional_index the_index self r self' it. it.0;
  field_number_read_number = λ r a r' it. it.0;
  field_number_read_size = λ r a r' it. it.0;
  field_text_read_string = λ r a r' it. it.0;
  word_primitive_primitive = λ index Q q r it. along Q it q;
  stream_finder_create = λ s t r t' it. it;
  stream_finder_create_by = λ s t shift r t' it. it;
  stream_finder_begin = λ t records shift r t' it. it;
  stream_finder_update = λ f t c r t' it. it;
  stream_finder_item_finder_max_type_index = λ self Q q r it. along Q it q;
  stream_finder_item_finder_max_id_index = λ self Q q r it. along Q it q;
  stream_finder_find_type = λ s f t i Q q r it. along Q it q;
  stream_finder_find_id = λ s f t i Q q r it. along Q it q;
  stream_finder_lent_item_finder_update = λ self t c r self' t' it. it;
  stream_header_header_parse = λ s Q q r it. along Q it q;
  stream_fit_fit = λ s Q q r it. along Q it q;
  record_reference_record_references = λ d Q q r it. along Q it q;
  stream_index_next_and_update = λ s f t c r t' it. it;
  stream_index_index_on = λ s f t c r t' it. it;
  stream_index_index_all = λ stream s t r t' it. it;
  stream_index_index_all_by = λ stream s t shift r t' it. it;
  stream_item_entry_index = λ self Q q r it. along Q it q;
  stream_item_entry_len = λ self Q q r it. along Q it q;
  stream_item_entry_is_empty = λ self Q q r it. along Q it q;
  stream_item_information_len = λ s Q q r it. along Q it q;
  stream_item_information_is_empty = λ s Q q r it. along Q it q;
  stream_item_iter_iter = λ stream s Q q r it. along Q it q;
  stream_item_iter_next = λ s c Q q r it. along Q it q;
  stream_item_link_link_of = λ s p k Q q r it. along Q it q;
  stream_places_load = λ s f t r t' it. it;
  stream_places_load_wide = λ s f t r t' it. it;
  stream_places_save = λ s f t out r out' it. it;
  stream_places_save_wide = λ s f t out r out' it. it;
  stream_places_trailer_trailer_parse = λ f Q q r it. along Q it q;
  stream_places_trailer_trailer_parse_wide = λ f Q q r it. along Q it q;
  stream_report_new = λ Q q r it. along Q it q;
  stream_report_add = λ totals table s r table' it. it;
  stream_drop_drop = λ s roots table out r table' out' it. it;
  stream_view_bytes_of = λ tpi ipi entry Q q r it. along Q it q;
  stream_view_view = λ tpi ipi entry Q q r it. along Q it.0 q;
  stream_view_view_answer = λ tpi ipi entry Q q r it. along Q it q;
  stream_view_raw_kind = λ tpi ipi entry Q q r it. along Q it q;
  record_data_type_data = λ s Q q r it. along Q it q;
  record_id_id_data = λ s Q q r it. along Q it q;
  record_list_start = λ stream s Q q r it. along Q it q;
  record_list_step = λ s c Q q r it. along Q it q;
  record_list_element_from = λ s c k Q q r it. along Q it q;
  record_member_member_at = λ s p Q q r it. along Q it q;
  record_member_method_entry_at = λ s p Q q r it. along Q it q;
  record_parse_parse = λ tpi ipi entry Q q r it. along Q it q;
  record_reader_list_reader_element = λ self k Q q r it. along Q it q;
  record_reader_list_reader_step = λ self r self' it. it.0;
  record_reader_nth = λ stream s k Q q r it. along Q it q;
  section_finder_create = λ s t r t' it. it;
  section_finder_create_by = λ s t shift r t' it. it;
  section_finder_index_all = λ s t r t' it. it;
  section_finder_index_all_by = λ s t shift r t' it. it;
  section_item_iter = λ s Q q r it. along Q it q;
  section_item_len = λ s Q q r it. along Q it q;
  section_read_parse = λ s entry Q q r it. along Q it q;
  section_read_start = λ bytes Q q r it. along Q it q;
  section_stream_to_stream = λ s out r out' it. it;
  declare_type_declare = λ s f t i out r out' it. it;
  write_header_write_header = λ h out at r out' it. it;
  write_list_write_field_list = λ text rows out at r out' it. it;
  write_list_write_method_list = λ text rows out at r out' it. it;
  write_cells_write_type = λ text leaf row out at r out' it. it;
  write_cells_write_id = λ text leaf row out at r out' it. it;
  write_pieces_write_plain = λ text xs out at r out' it. it;
  write_pieces_write_filled = λ text xs out at r out' it. it;
  word_attributes_type_properties_packed = λ self Q q r it. along Q (it ∙ sym (ap (place 0) (demand2.type_flags self.0))) q;
  word_attributes_type_properties_constructors = λ self Q q r it. along Q (it ∙ sym (ap (place 1) (demand2.type_flags self.0))) q;
  word_attributes_type_properties_overloaded_operators = λ self Q q r it. along Q (it ∙ sym (ap (place 2) (demand2.type_flags self.0))) q;
  word_attributes_type_properties_is_nested_type = λ self Q q r it. along Q (it ∙ sym (ap (place 3) (demand2.type_flags self.0))) q;
  word_attributes_type_properties_contains_nested_types = λ self Q q r it. along Q (it ∙ sym (ap (place 4) (demand2.type_flags self.0))) q;
  word_attributes_type_properties_overloaded_assignment = λ self Q q r it. along Q (it ∙ sym (ap (place 5) (demand2.type_flags self.0))) q;
  word_attributes_type_properties_overloaded_casting = λ self Q q r it. along Q (it ∙ sym (ap (place 6) (demand2.type_flags self.0))) q;
  word_attributes_type_properties_forward_reference = λ self Q q r it. along Q (it ∙ sym (ap (place 7) (demand2.type_flags self.0))) q;
  word_attributes_type_properties_scoped_definition = λ self Q q r it. along Q (it ∙ sym (ap (place 8) (demand2.type_flags self.0))) q;
  word_attributes_type_properties_has_unique_name = λ self Q q r it. along Q (it ∙ sym (ap (place 9) (demand2.type_flags self.0))) q;
  word_attributes_type_properties_sealed = λ self Q q r it. along Q (it ∙ sym (ap (place 10) (demand2.type_flags self.0))) q;
  word_attributes_type_properties_hfa = λ self Q q r it. along Q (it ∙ sym (demand2.hfas self.0)) q;
  word_attributes_field_attributes_access = λ self Q q r it. along Q (it ∙ sym (demand2.accesses self.0)) q;
  word_attributes_field_attributes_method_properties = λ self Q q r it. along Q (it ∙ sym (demand2.method_fields self.0)) q;
  word_attributes_field_attributes_is_static = λ self Q q r it. along Q (it ∙ sym (ap (place 0) (demand2.method_kinds self.0))) q;
  word_attributes_field_attributes_is_virtual = λ self Q q r it. along Q (it ∙ sym (ap (place 1) (demand2.method_kinds self.0))) q;
  word_attributes_field_attributes_is_pure_virtual = λ self Q q r it. along Q (it ∙ sym (ap (place 2) (demand2.method_kinds self.0))) q;
  word_attributes_field_attributes_is_intro_virtual = λ self Q q r it. along Q (it ∙ sym (ap (place 3) (demand2.method_kinds self.0))) q;
  word_attributes_function_attributes_calling_convention = λ self Q q r it. along Q (it ∙ sym (demand2.conventions self.0)) q;
  word_attributes_function_attributes_cxx_return_udt = λ self Q q r it. along Q (it ∙ sym (ap (place 0) (demand2.function_flags self.0))) q;
  word_attributes_function_attributes_is_constructor = λ self Q q r it. along Q (it ∙ sym (ap (place 1) (demand2.function_flags self.0))) q;
  word_attributes_function_attributes_is_constructor_with_virtual_bases = λ self Q q r it. along Q (it ∙ sym (ap (place 2) (demand2.function_flags self.0))) q;
  word_attributes_pointer_attributes_is_flat_32 = λ self Q q r it. along Q (it ∙ sym (ap (place 0) (demand2.pointer_flags self.0))) q;
  word_attributes_pointer_attributes_is_volatile = λ self Q q r it. along Q (it ∙ sym (ap (place 1) (demand2.pointer_flags self.0))) q;
  word_attributes_pointer_attributes_is_const = λ self Q q r it. along Q (it ∙ sym (ap (place 2) (demand2.pointer_flags self.0))) q;
  word_attributes_pointer_attributes_is_unaligned = λ self Q q r it. along Q (it ∙ sym (ap (place 3) (demand2.pointer_flags self.0))) q;
  word_attributes_pointer_attributes_is_restrict = λ self Q q r it. along Q (it ∙ sym (ap (place 4) (demand2.pointer_flags self.0))) q;
  word_attributes_type_properties_intrinsic_type = λ self Q q r it. along Q it q;
  word_attributes_type_properties_mocom = λ self Q q r it. along Q it q;
  word_attributes_pointer_attributes_pointer_kind = λ self Q q r it. along Q it q;
  word_attributes_pointer_attributes_pointer_mode = λ self Q q r it. along Q it q;
  word_attributes_pointer_attributes_pointer_to_member = λ self Q q r it. along Q it q;
  word_attributes_pointer_attributes_is_reference = λ self Q q r it. along Q it q;
  word_attributes_pointer_attributes_size = λ self Q q r it. along Q it q;
  word_attributes_pointer_attributes_is_mocom = λ self Q q r it. along Q it q;
}
