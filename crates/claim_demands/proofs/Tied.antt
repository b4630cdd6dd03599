-- Each public function is tied to its contract: the clauses are that contract by `refl`, and the function's theorem says the rest. Assumes nothing.
-- Written by tools/ties.
use Rattle.std.proofs.Common.{refl}
use Rattle.answer.proofs.Refusal.details.Met as answer_refusal_details
use Rattle.answer.proofs.Refusal.number.Met as answer_refusal_number
use Rattle.answer_name.proofs.name_of.Met as answer_name_name_of
use Rattle.declare_spelling.proofs.indirection.Met as declare_spelling_indirection
use Rattle.declare_spelling.proofs.kind.size.Met as declare_spelling_kind_size
use Rattle.declare_spelling.proofs.kind.spelled.Met as declare_spelling_kind_spelled
use Rattle.declare_spelling.proofs.mode.Met as declare_spelling_mode
use Rattle.declare_spelling.proofs.qualifiers.Met as declare_spelling_qualifiers
use Rattle.declare_type.proofs.declare.Met as declare_type_declare
use Rattle.field.proofs.fixed.u16_at.Met as field_fixed_u16_at
use Rattle.field.proofs.fixed.u32_at.Met as field_fixed_u32_at
use Rattle.field.proofs.fixed.u64_at.Met as field_fixed_u64_at
use Rattle.field.proofs.fixed.u8_at.Met as field_fixed_u8_at
use Rattle.field.proofs.index.IdIndex.is_cross_module.Met as field_index_id_index_is_cross_module
use Rattle.field.proofs.index.IdIndex.optional.Met as field_index_id_index_optional
use Rattle.field.proofs.index.IdIndexIndex.from_number.Met as field_index_id_index_index_from_number
use Rattle.field.proofs.index.IdIndexOptionalIndex.or_none.Met as field_index_id_index_optional_index_or_none
use Rattle.field.proofs.index.ItemIndex.number.Met as field_index_item_index_number
use Rattle.field.proofs.index.ItemIndex.stream.Met as field_index_item_index_stream
use Rattle.field.proofs.index.Stream.index.Met as field_index_stream_index
use Rattle.field.proofs.index.StringRefIndex.from_number.Met as field_index_string_ref_index_from_number
use Rattle.field.proofs.index.TypeIndex.is_cross_module.Met as field_index_type_index_is_cross_module
use Rattle.field.proofs.index.TypeIndex.optional.Met as field_index_type_index_optional
use Rattle.field.proofs.index.TypeIndexIndex.from_number.Met as field_index_type_index_index_from_number
use Rattle.field.proofs.index.TypeIndexOptionalIndex.or_none.Met as field_index_type_index_optional_index_or_none
use Rattle.field.proofs.index.id_at.Met as field_index_id_at
use Rattle.field.proofs.index.optional_id_at.Met as field_index_optional_id_at
use Rattle.field.proofs.index.optional_type_at.Met as field_index_optional_type_at
use Rattle.field.proofs.index.string_ref_at.Met as field_index_string_ref_at
use Rattle.field.proofs.index.type_at.Met as field_index_type_at
use Rattle.field.proofs.reader.Reader.index.Met as field_reader_reader_index
use Rattle.field.proofs.reader.Reader.optional.Met as field_reader_reader_optional
use Rattle.field.proofs.reader.Reader.skip.Met as field_reader_reader_skip
use Rattle.field.proofs.reader.Reader.u16.Met as field_reader_reader_u16
use Rattle.field.proofs.reader.Reader.u32.Met as field_reader_reader_u32
use Rattle.field.proofs.reader.Reader.u8.Met as field_reader_reader_u8
use Rattle.field.proofs.run.after_bytes.Met as field_run_after_bytes
use Rattle.field.proofs.run.bytes_at.Met as field_run_bytes_at
use Rattle.field_number.proofs.number_at.Met as field_number_number_at
use Rattle.field_number.proofs.read_number.Met as field_number_read_number
use Rattle.field_number.proofs.read_size.Met as field_number_read_size
use Rattle.field_number.proofs.size_at.Met as field_number_size_at
use Rattle.field_put.proofs.put16.Met as field_put_put16
use Rattle.field_put.proofs.put32.Met as field_put_put32
use Rattle.field_put.proofs.put8.Met as field_put_put8
use Rattle.field_put.proofs.put_all.Met as field_put_put_all
use Rattle.field_text.proofs.RawString.bytes.Met as field_text_raw_string_bytes
use Rattle.field_text.proofs.after_padding.Met as field_text_after_padding
use Rattle.field_text.proofs.read_string.Met as field_text_read_string
use Rattle.field_text.proofs.string_at.Met as field_text_string_at
use Rattle.field_text.proofs.string_of.Met as field_text_string_of
use Rattle.pane.proofs.pdb_find.Met as pane_pdb_find
use Rattle.pane.proofs.pdb_header.Met as pane_pdb_header
use Rattle.pane.proofs.pdb_next.Met as pane_pdb_next
use Rattle.pane.proofs.pdb_primitive.Met as pane_pdb_primitive
use Rattle.pane.proofs.pdb_update.Met as pane_pdb_update
use Rattle.pane_declare.proofs.pdb_declare.Met as pane_declare_pdb_declare
use Rattle.pane_drop.proofs.pdb_drop.Met as pane_drop_pdb_drop
use Rattle.pane_fit.proofs.pdb_fit.Met as pane_fit_pdb_fit
use Rattle.pane_index.proofs.pdb_create.Met as pane_index_pdb_create
use Rattle.pane_index.proofs.pdb_index.Met as pane_index_pdb_index
use Rattle.pane_index.proofs.pdb_kind.Met as pane_index_pdb_kind
use Rattle.pane_index.proofs.pdb_load.Met as pane_index_pdb_load
use Rattle.pane_index.proofs.pdb_load_short.Met as pane_index_pdb_load_short
use Rattle.pane_index.proofs.pdb_max_index.Met as pane_index_pdb_max_index
use Rattle.pane_index.proofs.pdb_save.Met as pane_index_pdb_save
use Rattle.pane_index.proofs.pdb_save_short.Met as pane_index_pdb_save_short
use Rattle.pane_index.proofs.pdb_view.Met as pane_index_pdb_view
use Rattle.pane_out.proofs.first.Met as pane_out_first
use Rattle.pane_out.proofs.flag.Met as pane_out_flag
use Rattle.pane_out.proofs.is_set.Met as pane_out_is_set
use Rattle.pane_out.proofs.refused.Met as pane_out_refused
use Rattle.pane_out.proofs.second.Met as pane_out_second
use Rattle.pane_parse.proofs.pdb_parse.Met as pane_parse_pdb_parse
use Rattle.pane_parse.proofs.pdb_section_read.Met as pane_parse_pdb_section_read
use Rattle.pane_record.proofs.pdb_id.Met as pane_record_pdb_id
use Rattle.pane_record.proofs.pdb_list.Met as pane_record_pdb_list
use Rattle.pane_record.proofs.pdb_step.Met as pane_record_pdb_step
use Rattle.pane_record.proofs.pdb_type.Met as pane_record_pdb_type
use Rattle.pane_report.proofs.pdb_report.Met as pane_report_pdb_report
use Rattle.pane_row.proofs.cursor_row.Met as pane_row_cursor_row
use Rattle.pane_row.proofs.entry_row.Met as pane_row_entry_row
use Rattle.pane_row.proofs.id_row.Met as pane_row_id_row
use Rattle.pane_row.proofs.index_row.Met as pane_row_index_row
use Rattle.pane_row.proofs.member_row.Met as pane_row_member_row
use Rattle.pane_row.proofs.type_row.Met as pane_row_type_row
use Rattle.pane_section.proofs.pdb_section_count.Met as pane_section_pdb_section_count
use Rattle.pane_section.proofs.pdb_section_create.Met as pane_section_pdb_section_create
use Rattle.pane_section.proofs.pdb_section_index.Met as pane_section_pdb_section_index
use Rattle.pane_section.proofs.pdb_section_list.Met as pane_section_pdb_section_list
use Rattle.pane_section.proofs.pdb_section_start.Met as pane_section_pdb_section_start
use Rattle.pane_section.proofs.pdb_section_stream.Met as pane_section_pdb_section_stream
use Rattle.pane_state.proofs.cursor_given.Met as pane_state_cursor_given
use Rattle.pane_state.proofs.entry_of.Met as pane_state_entry_of
use Rattle.pane_state.proofs.finder_given.Met as pane_state_finder_given
use Rattle.pane_state.proofs.finder_out.Met as pane_state_finder_out
use Rattle.pane_state.proofs.walk_out.Met as pane_state_walk_out
use Rattle.pane_word.proofs.pdb_field_attributes.Met as pane_word_pdb_field_attributes
use Rattle.pane_word.proofs.pdb_function_attributes.Met as pane_word_pdb_function_attributes
use Rattle.pane_word.proofs.pdb_is_cross_module.Met as pane_word_pdb_is_cross_module
use Rattle.pane_word.proofs.pdb_number.Met as pane_word_pdb_number
use Rattle.pane_word.proofs.pdb_optional_id.Met as pane_word_pdb_optional_id
use Rattle.pane_word.proofs.pdb_optional_type.Met as pane_word_pdb_optional_type
use Rattle.pane_word.proofs.pdb_padding.Met as pane_word_pdb_padding
use Rattle.pane_word.proofs.pdb_pointer_attributes.Met as pane_word_pdb_pointer_attributes
use Rattle.pane_word.proofs.pdb_properties.Met as pane_word_pdb_properties
use Rattle.pane_word.proofs.pdb_size.Met as pane_word_pdb_size
use Rattle.pane_word.proofs.pdb_string.Met as pane_word_pdb_string
use Rattle.pane_write.proofs.pdb_cells.Met as pane_write_pdb_cells
use Rattle.pane_write.proofs.pdb_layout.Met as pane_write_pdb_layout
use Rattle.pane_write.proofs.pdb_write_fields.Met as pane_write_pdb_write_fields
use Rattle.pane_write.proofs.pdb_write_header.Met as pane_write_pdb_write_header
use Rattle.pane_write.proofs.pdb_write_id.Met as pane_write_pdb_write_id
use Rattle.pane_write.proofs.pdb_write_methods.Met as pane_write_pdb_write_methods
use Rattle.pane_write.proofs.pdb_write_type.Met as pane_write_pdb_write_type
use Rattle.record_cells.proofs.id_cells.Met as record_cells_id_cells
use Rattle.record_cells.proofs.layout.id_layout.Met as record_cells_layout_id_layout
use Rattle.record_cells.proofs.layout.member_layout.Met as record_cells_layout_member_layout
use Rattle.record_cells.proofs.layout.method_layout.Met as record_cells_layout_method_layout
use Rattle.record_cells.proofs.layout.type_layout.Met as record_cells_layout_type_layout
use Rattle.record_cells.proofs.type_cells.Met as record_cells_type_cells
use Rattle.record_data.proofs.TypeData.name.Met as record_data_type_data_name
use Rattle.record_data.proofs.type_data.Met as record_data_type_data
use Rattle.record_id.proofs.id_data.Met as record_id_id_data
use Rattle.record_list.proofs.element_from.Met as record_list_element_from
use Rattle.record_list.proofs.start.Met as record_list_start
use Rattle.record_list.proofs.step.Met as record_list_step
use Rattle.record_member.proofs.Member.name.Met as record_member_member_name
use Rattle.record_member.proofs.member_at.Met as record_member_member_at
use Rattle.record_member.proofs.method_entry_at.Met as record_member_method_entry_at
use Rattle.record_parse.proofs.parse.Met as record_parse_parse
use Rattle.record_reader.proofs.ListReader.element.Met as record_reader_list_reader_element
use Rattle.record_reader.proofs.ListReader.new.Met as record_reader_list_reader_new
use Rattle.record_reader.proofs.ListReader.step.Met as record_reader_list_reader_step
use Rattle.record_reader.proofs.nth.Met as record_reader_nth
use Rattle.record_reference.proofs.element_references.Met as record_reference_element_references
use Rattle.record_reference.proofs.record_references.Met as record_reference_record_references
use Rattle.section_finder.proofs.create.Met as section_finder_create
use Rattle.section_finder.proofs.create_by.Met as section_finder_create_by
use Rattle.section_finder.proofs.index_all.Met as section_finder_index_all
use Rattle.section_finder.proofs.index_all_by.Met as section_finder_index_all_by
use Rattle.section_item.proofs.iter.Met as section_item_iter
use Rattle.section_item.proofs.len.Met as section_item_len
use Rattle.section_read.proofs.parse.Met as section_read_parse
use Rattle.section_read.proofs.start.Met as section_read_start
use Rattle.section_stream.proofs.to_stream.Met as section_stream_to_stream
use Rattle.stream_drop.proofs.drop.Met as stream_drop_drop
use Rattle.stream_finder.proofs.ItemFinder.max_id_index.Met as stream_finder_item_finder_max_id_index
use Rattle.stream_finder.proofs.ItemFinder.max_type_index.Met as stream_finder_item_finder_max_type_index
use Rattle.stream_finder.proofs.ItemFinder.update.Met as stream_finder_lent_item_finder_update
use Rattle.stream_finder.proofs.begin.Met as stream_finder_begin
use Rattle.stream_finder.proofs.create.Met as stream_finder_create
use Rattle.stream_finder.proofs.create_by.Met as stream_finder_create_by
use Rattle.stream_finder.proofs.find_id.Met as stream_finder_find_id
use Rattle.stream_finder.proofs.find_type.Met as stream_finder_find_type
use Rattle.stream_finder.proofs.update.Met as stream_finder_update
use Rattle.stream_fit.proofs.Rule.number.Met as stream_fit_rule_number
use Rattle.stream_fit.proofs.fit.Met as stream_fit_fit
use Rattle.stream_header.proofs.Header.count.Met as stream_header_header_count
use Rattle.stream_header.proofs.Header.parse.Met as stream_header_header_parse
use Rattle.stream_index.proofs.index_all.Met as stream_index_index_all
use Rattle.stream_index.proofs.index_all_by.Met as stream_index_index_all_by
use Rattle.stream_index.proofs.index_on.Met as stream_index_index_on
use Rattle.stream_index.proofs.next_and_update.Met as stream_index_next_and_update
use Rattle.stream_item.proofs.Entry.index.Met as stream_item_entry_index
use Rattle.stream_item.proofs.Entry.is_empty.Met as stream_item_entry_is_empty
use Rattle.stream_item.proofs.Entry.len.Met as stream_item_entry_len
use Rattle.stream_item.proofs.information.is_empty.Met as stream_item_information_is_empty
use Rattle.stream_item.proofs.information.len.Met as stream_item_information_len
use Rattle.stream_item.proofs.iter.iter.Met as stream_item_iter_iter
use Rattle.stream_item.proofs.iter.next.Met as stream_item_iter_next
use Rattle.stream_item.proofs.link.link_of.Met as stream_item_link_link_of
use Rattle.stream_places.proofs.load.Met as stream_places_load
use Rattle.stream_places.proofs.load_wide.Met as stream_places_load_wide
use Rattle.stream_places.proofs.save.Met as stream_places_save
use Rattle.stream_places.proofs.save_wide.Met as stream_places_save_wide
use Rattle.stream_places.proofs.trailer.Trailer.parse.Met as stream_places_trailer_trailer_parse
use Rattle.stream_places.proofs.trailer.Trailer.parse_wide.Met as stream_places_trailer_trailer_parse_wide
use Rattle.stream_report.proofs.add.Met as stream_report_add
use Rattle.stream_report.proofs.new.Met as stream_report_new
use Rattle.stream_view.proofs.bytes_of.Met as stream_view_bytes_of
use Rattle.stream_view.proofs.raw_kind.Met as stream_view_raw_kind
use Rattle.stream_view.proofs.view.Met as stream_view_view
use Rattle.stream_view.proofs.view_answer.Met as stream_view_view_answer
use Rattle.word_attributes.proofs.FieldAttributes.access.Met as word_attributes_field_attributes_access
use Rattle.word_attributes.proofs.FieldAttributes.is_intro_virtual.Met as word_attributes_field_attributes_is_intro_virtual
use Rattle.word_attributes.proofs.FieldAttributes.is_pure_virtual.Met as word_attributes_field_attributes_is_pure_virtual
use Rattle.word_attributes.proofs.FieldAttributes.is_static.Met as word_attributes_field_attributes_is_static
use Rattle.word_attributes.proofs.FieldAttributes.is_virtual.Met as word_attributes_field_attributes_is_virtual
use Rattle.word_attributes.proofs.FieldAttributes.method_properties.Met as word_attributes_field_attributes_method_properties
use Rattle.word_attributes.proofs.FunctionAttributes.calling_convention.Met as word_attributes_function_attributes_calling_convention
use Rattle.word_attributes.proofs.FunctionAttributes.cxx_return_udt.Met as word_attributes_function_attributes_cxx_return_udt
use Rattle.word_attributes.proofs.FunctionAttributes.is_constructor.Met as word_attributes_function_attributes_is_constructor
use Rattle.word_attributes.proofs.FunctionAttributes.is_constructor_with_virtual_bases.Met as word_attributes_function_attributes_is_constructor_with_virtual_bases
use Rattle.word_attributes.proofs.ModifierFlags.constant.Met as word_attributes_modifier_flags_constant
use Rattle.word_attributes.proofs.ModifierFlags.unaligned.Met as word_attributes_modifier_flags_unaligned
use Rattle.word_attributes.proofs.ModifierFlags.volatile.Met as word_attributes_modifier_flags_volatile
use Rattle.word_attributes.proofs.PointerAttributes.is_const.Met as word_attributes_pointer_attributes_is_const
use Rattle.word_attributes.proofs.PointerAttributes.is_flat_32.Met as word_attributes_pointer_attributes_is_flat_32
use Rattle.word_attributes.proofs.PointerAttributes.is_mocom.Met as word_attributes_pointer_attributes_is_mocom
use Rattle.word_attributes.proofs.PointerAttributes.is_reference.Met as word_attributes_pointer_attributes_is_reference
use Rattle.word_attributes.proofs.PointerAttributes.is_restrict.Met as word_attributes_pointer_attributes_is_restrict
use Rattle.word_attributes.proofs.PointerAttributes.is_unaligned.Met as word_attributes_pointer_attributes_is_unaligned
use Rattle.word_attributes.proofs.PointerAttributes.is_volatile.Met as word_attributes_pointer_attributes_is_volatile
use Rattle.word_attributes.proofs.PointerAttributes.pointer_kind.Met as word_attributes_pointer_attributes_pointer_kind
use Rattle.word_attributes.proofs.PointerAttributes.pointer_mode.Met as word_attributes_pointer_attributes_pointer_mode
use Rattle.word_attributes.proofs.PointerAttributes.pointer_to_member.Met as word_attributes_pointer_attributes_pointer_to_member
use Rattle.word_attributes.proofs.PointerAttributes.size.Met as word_attributes_pointer_attributes_size
use Rattle.word_attributes.proofs.TypeProperties.constructors.Met as word_attributes_type_properties_constructors
use Rattle.word_attributes.proofs.TypeProperties.contains_nested_types.Met as word_attributes_type_properties_contains_nested_types
use Rattle.word_attributes.proofs.TypeProperties.forward_reference.Met as word_attributes_type_properties_forward_reference
use Rattle.word_attributes.proofs.TypeProperties.has_unique_name.Met as word_attributes_type_properties_has_unique_name
use Rattle.word_attributes.proofs.TypeProperties.hfa.Met as word_attributes_type_properties_hfa
use Rattle.word_attributes.proofs.TypeProperties.intrinsic_type.Met as word_attributes_type_properties_intrinsic_type
use Rattle.word_attributes.proofs.TypeProperties.is_nested_type.Met as word_attributes_type_properties_is_nested_type
use Rattle.word_attributes.proofs.TypeProperties.mocom.Met as word_attributes_type_properties_mocom
use Rattle.word_attributes.proofs.TypeProperties.overloaded_assignment.Met as word_attributes_type_properties_overloaded_assignment
use Rattle.word_attributes.proofs.TypeProperties.overloaded_casting.Met as word_attributes_type_properties_overloaded_casting
use Rattle.word_attributes.proofs.TypeProperties.overloaded_operators.Met as word_attributes_type_properties_overloaded_operators
use Rattle.word_attributes.proofs.TypeProperties.packed.Met as word_attributes_type_properties_packed
use Rattle.word_attributes.proofs.TypeProperties.scoped_definition.Met as word_attributes_type_properties_scoped_definition
use Rattle.word_attributes.proofs.TypeProperties.sealed.Met as word_attributes_type_properties_sealed
use Rattle.word_primitive.proofs.primitive.Met as word_primitive_primitive
use Rattle.write_cells.proofs.write_id.Met as write_cells_write_id
use Rattle.write_cells.proofs.write_type.Met as write_cells_write_type
use Rattle.write_header.proofs.write_header.Met as write_header_write_header
use Rattle.write_list.proofs.rows.of_member.Met as write_list_rows_of_member
use Rattle.write_list.proofs.rows.of_method.Met as write_list_rows_of_method
use Rattle.write_list.proofs.write_field_list.Met as write_list_write_field_list
use Rattle.write_list.proofs.write_method_list.Met as write_list_write_method_list
use Rattle.write_pieces.proofs.capped_sum.Met as write_pieces_capped_sum
use Rattle.write_pieces.proofs.fields.natural.Met as write_pieces_fields_natural
use Rattle.write_pieces.proofs.fields.two_bytes.Met as write_pieces_fields_two_bytes
use Rattle.write_pieces.proofs.fields.unnamed.Met as write_pieces_fields_unnamed
use Rattle.write_pieces.proofs.measured.Met as write_pieces_measured
use Rattle.write_pieces.proofs.write_filled.Met as write_pieces_write_filled
use Rattle.write_pieces.proofs.write_plain.Met as write_pieces_write_plain
use Rattle.claim_demands.specs.Tied.{Tied}

pub tied : Tied
tied = record {
  answer_refusal_number = record { says = λ M 𝓤 𝓛 mem run. refl; meets = λ M. answer_refusal_number.met };
  answer_refusal_details = record { says = λ M 𝓤 𝓛 mem run. refl; meets = λ M. answer_refusal_details.met };
  answer_name_name_of = record { says = λ M 𝓤 𝓛 mem run. refl; meets = λ M. answer_name_name_of.met };
  declare_spelling_indirection = record { says = λ M 𝓤 𝓛 mem run. refl; meets = λ M. declare_spelling_indirection.met };
  declare_spelling_mode = record { says = λ M 𝓤 𝓛 mem run. refl; meets = λ M. declare_spelling_mode.met };
  declare_spelling_qualifiers = record { says = λ M 𝓤 𝓛 mem run. refl; meets = λ M. declare_spelling_qualifiers.met };
  declare_spelling_kind_spelled = record { says = λ M 𝓤 𝓛 mem run. refl; meets = λ M. declare_spelling_kind_spelled.met };
  declare_spelling_kind_size = record { says = λ M 𝓤 𝓛 mem run. refl; meets = λ M. declare_spelling_kind_size.met };
  declare_type_declare = record { says = λ M 𝓤 𝓛 mem run. refl; meets = λ M. declare_type_declare.met };
  field_fixed_u8_at = record { says = λ M 𝓤 𝓛 mem run. refl; meets = λ M. field_fixed_u8_at.met };
  field_fixed_u16_at = record { says = λ M 𝓤 𝓛 mem run. refl; meets = λ M. field_fixed_u16_at.met };
  field_fixed_u32_at = record { says = λ M 𝓤 𝓛 mem run. refl; meets = λ M. field_fixed_u32_at.met };
  field_fixed_u64_at = record { says = λ M 𝓤 𝓛 mem run. refl; meets = λ M. field_fixed_u64_at.met };
  field_index_stream_index = record { says = λ M 𝓤 𝓛 mem run. refl; meets = λ M. field_index_stream_index.met };
  field_index_item_index_stream = record { says = λ M 𝓤 𝓛 mem run. refl; meets = λ M. field_index_item_index_stream.met };
  field_index_item_index_number = record { says = λ M 𝓤 𝓛 mem run. refl; meets = λ M. field_index_item_index_number.met };
  field_index_type_index_is_cross_module = record { says = λ M 𝓤 𝓛 mem run. refl; meets = λ M. field_index_type_index_is_cross_module.met };
  field_index_type_index_optional = record { says = λ M 𝓤 𝓛 mem run. refl; meets = λ M. field_index_type_index_optional.met };
  field_index_id_index_is_cross_module = record { says = λ M 𝓤 𝓛 mem run. refl; meets = λ M. field_index_id_index_is_cross_module.met };
  field_index_id_index_optional = record { says = λ M 𝓤 𝓛 mem run. refl; meets = λ M. field_index_id_index_optional.met };
  field_index_type_at = record { says = λ M 𝓤 𝓛 mem run. refl; meets = λ M. field_index_type_at.met };
  field_index_id_at = record { says = λ M 𝓤 𝓛 mem run. refl; meets = λ M. field_index_id_at.met };
  field_index_string_ref_at = record { says = λ M 𝓤 𝓛 mem run. refl; meets = λ M. field_index_string_ref_at.met };
  field_index_optional_type_at = record { says = λ M 𝓤 𝓛 mem run. refl; meets = λ M. field_index_optional_type_at.met };
  field_index_optional_id_at = record { says = λ M 𝓤 𝓛 mem run. refl; meets = λ M. field_index_optional_id_at.met };
  field_index_type_index_index_from_number = record { says = λ M 𝓤 𝓛 mem run. refl; meets = λ M. field_index_type_index_index_from_number.met };
  field_index_id_index_index_from_number = record { says = λ M 𝓤 𝓛 mem run. refl; meets = λ M. field_index_id_index_index_from_number.met };
  field_index_string_ref_index_from_number = record { says = λ M 𝓤 𝓛 mem run. refl; meets = λ M. field_index_string_ref_index_from_number.met };
  field_index_type_index_optional_index_or_none = record { says = λ M 𝓤 𝓛 mem run. refl; meets = λ M. field_index_type_index_optional_index_or_none.met };
  field_index_id_index_optional_index_or_none = record { says = λ M 𝓤 𝓛 mem run. refl; meets = λ M. field_index_id_index_optional_index_or_none.met };
  field_reader_reader_u8 = record { says = λ M 𝓤 𝓛 mem run. refl; meets = λ M. field_reader_reader_u8.met };
  field_reader_reader_u16 = record { says = λ M 𝓤 𝓛 mem run. refl; meets = λ M. field_reader_reader_u16.met };
  field_reader_reader_u32 = record { says = λ M 𝓤 𝓛 mem run. refl; meets = λ M. field_reader_reader_u32.met };
  field_reader_reader_skip = record { says = λ M 𝓤 𝓛 mem run. refl; meets = λ M. field_reader_reader_skip.met };
  field_reader_reader_index = λ I the_index the_index_dict the_clone the_clone_dict. record { says = λ M 𝓤 𝓛 mem run. refl; meets = λ M. field_reader_reader_index.met };
  field_reader_reader_optional = λ I the_optional_index the_optional_index_dict the_index the_index_dict the_clone the_clone_dict. record { says = λ M 𝓤 𝓛 mem run. refl; meets = λ M. field_reader_reader_optional.met };
  field_run_after_bytes = record { says = λ M 𝓤 𝓛 mem run. refl; meets = λ M. field_run_after_bytes.met };
  field_run_bytes_at = record { says = λ M 𝓤 𝓛 mem run. refl; meets = λ M. field_run_bytes_at.met };
  field_number_number_at = record { says = λ M 𝓤 𝓛 mem run. refl; meets = λ M. field_number_number_at.met };
  field_number_size_at = record { says = λ M 𝓤 𝓛 mem run. refl; meets = λ M. field_number_size_at.met };
  field_number_read_number = record { says = λ M 𝓤 𝓛 mem run. refl; meets = λ M. field_number_read_number.met };
  field_number_read_size = record { says = λ M 𝓤 𝓛 mem run. refl; meets = λ M. field_number_read_size.met };
  field_put_put8 = record { says = λ M 𝓤 𝓛 mem run. refl; meets = λ M. field_put_put8.met };
  field_put_put16 = record { says = λ M 𝓤 𝓛 mem run. refl; meets = λ M. field_put_put16.met };
  field_put_put32 = record { says = λ M 𝓤 𝓛 mem run. refl; meets = λ M. field_put_put32.met };
  field_put_put_all = record { says = λ M 𝓤 𝓛 mem run. refl; meets = λ M. field_put_put_all.met };
  field_text_string_at = record { says = λ M 𝓤 𝓛 mem run. refl; meets = λ M. field_text_string_at.met };
  field_text_read_string = record { says = λ M 𝓤 𝓛 mem run. refl; meets = λ M. field_text_read_string.met };
  field_text_raw_string_bytes = record { says = λ M 𝓤 𝓛 mem run. refl; meets = λ M. field_text_raw_string_bytes.met };
  field_text_string_of = record { says = λ M 𝓤 𝓛 mem run. refl; meets = λ M. field_text_string_of.met };
  field_text_after_padding = record { says = λ M 𝓤 𝓛 mem run. refl; meets = λ M. field_text_after_padding.met };
  pane_pdb_header = record { says = λ M 𝓤 𝓛 mem run. refl; meets = λ M. pane_pdb_header.met };
  pane_pdb_next = record { says = λ M 𝓤 𝓛 mem run. refl; meets = λ M. pane_pdb_next.met };
  pane_pdb_update = record { says = λ M 𝓤 𝓛 mem run. refl; meets = λ M. pane_pdb_update.met };
  pane_pdb_find = record { says = λ M 𝓤 𝓛 mem run. refl; meets = λ M. pane_pdb_find.met };
  pane_pdb_primitive = record { says = λ M 𝓤 𝓛 mem run. refl; meets = λ M. pane_pdb_primitive.met };
  pane_declare_pdb_declare = record { says = λ M 𝓤 𝓛 mem run. refl; meets = λ M. pane_declare_pdb_declare.met };
  pane_drop_pdb_drop = record { says = λ M 𝓤 𝓛 mem run. refl; meets = λ M. pane_drop_pdb_drop.met };
  pane_fit_pdb_fit = record { says = λ M 𝓤 𝓛 mem run. refl; meets = λ M. pane_fit_pdb_fit.met };
  pane_index_pdb_create = record { says = λ M 𝓤 𝓛 mem run. refl; meets = λ M. pane_index_pdb_create.met };
  pane_index_pdb_index = record { says = λ M 𝓤 𝓛 mem run. refl; meets = λ M. pane_index_pdb_index.met };
  pane_index_pdb_max_index = record { says = λ M 𝓤 𝓛 mem run. refl; meets = λ M. pane_index_pdb_max_index.met };
  pane_index_pdb_view = record { says = λ M 𝓤 𝓛 mem run. refl; meets = λ M. pane_index_pdb_view.met };
  pane_index_pdb_kind = record { says = λ M 𝓤 𝓛 mem run. refl; meets = λ M. pane_index_pdb_kind.met };
  pane_index_pdb_load = record { says = λ M 𝓤 𝓛 mem run. refl; meets = λ M. pane_index_pdb_load.met };
  pane_index_pdb_load_short = record { says = λ M 𝓤 𝓛 mem run. refl; meets = λ M. pane_index_pdb_load_short.met };
  pane_index_pdb_save = record { says = λ M 𝓤 𝓛 mem run. refl; meets = λ M. pane_index_pdb_save.met };
  pane_index_pdb_save_short = record { says = λ M 𝓤 𝓛 mem run. refl; meets = λ M. pane_index_pdb_save_short.met };
  pane_out_first = record { says = λ M 𝓤 𝓛 mem run. refl; meets = λ M. pane_out_first.met };
  pane_out_second = record { says = λ M 𝓤 𝓛 mem run. refl; meets = λ M. pane_out_second.met };
  pane_out_refused = record { says = λ M 𝓤 𝓛 mem run. refl; meets = λ M. pane_out_refused.met };
  pane_out_is_set = record { says = λ M 𝓤 𝓛 mem run. refl; meets = λ M. pane_out_is_set.met };
  pane_out_flag = record { says = λ M 𝓤 𝓛 mem run. refl; meets = λ M. pane_out_flag.met };
  pane_parse_pdb_parse = record { says = λ M 𝓤 𝓛 mem run. refl; meets = λ M. pane_parse_pdb_parse.met };
  pane_parse_pdb_section_read = record { says = λ M 𝓤 𝓛 mem run. refl; meets = λ M. pane_parse_pdb_section_read.met };
  pane_record_pdb_type = record { says = λ M 𝓤 𝓛 mem run. refl; meets = λ M. pane_record_pdb_type.met };
  pane_record_pdb_id = record { says = λ M 𝓤 𝓛 mem run. refl; meets = λ M. pane_record_pdb_id.met };
  pane_record_pdb_list = record { says = λ M 𝓤 𝓛 mem run. refl; meets = λ M. pane_record_pdb_list.met };
  pane_record_pdb_step = record { says = λ M 𝓤 𝓛 mem run. refl; meets = λ M. pane_record_pdb_step.met };
  pane_report_pdb_report = record { says = λ M 𝓤 𝓛 mem run. refl; meets = λ M. pane_report_pdb_report.met };
  pane_row_type_row = record { says = λ M 𝓤 𝓛 mem run. refl; meets = λ M. pane_row_type_row.met };
  pane_row_id_row = record { says = λ M 𝓤 𝓛 mem run. refl; meets = λ M. pane_row_id_row.met };
  pane_row_cursor_row = record { says = λ M 𝓤 𝓛 mem run. refl; meets = λ M. pane_row_cursor_row.met };
  pane_row_member_row = record { says = λ M 𝓤 𝓛 mem run. refl; meets = λ M. pane_row_member_row.met };
  pane_row_entry_row = record { says = λ M 𝓤 𝓛 mem run. refl; meets = λ M. pane_row_entry_row.met };
  pane_row_index_row = record { says = λ M 𝓤 𝓛 mem run. refl; meets = λ M. pane_row_index_row.met };
  pane_section_pdb_section_start = record { says = λ M 𝓤 𝓛 mem run. refl; meets = λ M. pane_section_pdb_section_start.met };
  pane_section_pdb_section_count = record { says = λ M 𝓤 𝓛 mem run. refl; meets = λ M. pane_section_pdb_section_count.met };
  pane_section_pdb_section_create = record { says = λ M 𝓤 𝓛 mem run. refl; meets = λ M. pane_section_pdb_section_create.met };
  pane_section_pdb_section_index = record { says = λ M 𝓤 𝓛 mem run. refl; meets = λ M. pane_section_pdb_section_index.met };
  pane_section_pdb_section_stream = record { says = λ M 𝓤 𝓛 mem run. refl; meets = λ M. pane_section_pdb_section_stream.met };
  pane_section_pdb_section_list = record { says = λ M 𝓤 𝓛 mem run. refl; meets = λ M. pane_section_pdb_section_list.met };
  pane_state_cursor_given = record { says = λ M 𝓤 𝓛 mem run. refl; meets = λ M. pane_state_cursor_given.met };
  pane_state_finder_given = record { says = λ M 𝓤 𝓛 mem run. refl; meets = λ M. pane_state_finder_given.met };
  pane_state_finder_out = record { says = λ M 𝓤 𝓛 mem run. refl; meets = λ M. pane_state_finder_out.met };
  pane_state_walk_out = record { says = λ M 𝓤 𝓛 mem run. refl; meets = λ M. pane_state_walk_out.met };
  pane_state_entry_of = record { says = λ M 𝓤 𝓛 mem run. refl; meets = λ M. pane_state_entry_of.met };
  pane_word_pdb_string = record { says = λ M 𝓤 𝓛 mem run. refl; meets = λ M. pane_word_pdb_string.met };
  pane_word_pdb_padding = record { says = λ M 𝓤 𝓛 mem run. refl; meets = λ M. pane_word_pdb_padding.met };
  pane_word_pdb_size = record { says = λ M 𝓤 𝓛 mem run. refl; meets = λ M. pane_word_pdb_size.met };
  pane_word_pdb_number = record { says = λ M 𝓤 𝓛 mem run. refl; meets = λ M. pane_word_pdb_number.met };
  pane_word_pdb_optional_type = record { says = λ M 𝓤 𝓛 mem run. refl; meets = λ M. pane_word_pdb_optional_type.met };
  pane_word_pdb_optional_id = record { says = λ M 𝓤 𝓛 mem run. refl; meets = λ M. pane_word_pdb_optional_id.met };
  pane_word_pdb_is_cross_module = record { says = λ M 𝓤 𝓛 mem run. refl; meets = λ M. pane_word_pdb_is_cross_module.met };
  pane_word_pdb_properties = record { says = λ M 𝓤 𝓛 mem run. refl; meets = λ M. pane_word_pdb_properties.met };
  pane_word_pdb_field_attributes = record { says = λ M 𝓤 𝓛 mem run. refl; meets = λ M. pane_word_pdb_field_attributes.met };
  pane_word_pdb_function_attributes = record { says = λ M 𝓤 𝓛 mem run. refl; meets = λ M. pane_word_pdb_function_attributes.met };
  pane_word_pdb_pointer_attributes = record { says = λ M 𝓤 𝓛 mem run. refl; meets = λ M. pane_word_pdb_pointer_attributes.met };
  pane_write_pdb_write_type = record { says = λ M 𝓤 𝓛 mem run. refl; meets = λ M. pane_write_pdb_write_type.met };
  pane_write_pdb_write_id = record { says = λ M 𝓤 𝓛 mem run. refl; meets = λ M. pane_write_pdb_write_id.met };
  pane_write_pdb_write_fields = record { says = λ M 𝓤 𝓛 mem run. refl; meets = λ M. pane_write_pdb_write_fields.met };
  pane_write_pdb_write_methods = record { says = λ M 𝓤 𝓛 mem run. refl; meets = λ M. pane_write_pdb_write_methods.met };
  pane_write_pdb_write_header = record { says = λ M 𝓤 𝓛 mem run. refl; meets = λ M. pane_write_pdb_write_header.met };
  pane_write_pdb_cells = record { says = λ M 𝓤 𝓛 mem run. refl; meets = λ M. pane_write_pdb_cells.met };
  pane_write_pdb_layout = record { says = λ M 𝓤 𝓛 mem run. refl; meets = λ M. pane_write_pdb_layout.met };
  record_cells_type_cells = record { says = λ M 𝓤 𝓛 mem run. refl; meets = λ M. record_cells_type_cells.met };
  record_cells_id_cells = record { says = λ M 𝓤 𝓛 mem run. refl; meets = λ M. record_cells_id_cells.met };
  record_cells_layout_type_layout = record { says = λ M 𝓤 𝓛 mem run. refl; meets = λ M. record_cells_layout_type_layout.met };
  record_cells_layout_member_layout = record { says = λ M 𝓤 𝓛 mem run. refl; meets = λ M. record_cells_layout_member_layout.met };
  record_cells_layout_method_layout = record { says = λ M 𝓤 𝓛 mem run. refl; meets = λ M. record_cells_layout_method_layout.met };
  record_cells_layout_id_layout = record { says = λ M 𝓤 𝓛 mem run. refl; meets = λ M. record_cells_layout_id_layout.met };
  record_data_type_data_name = record { says = λ M 𝓤 𝓛 mem run. refl; meets = λ M. record_data_type_data_name.met };
  record_data_type_data = record { says = λ M 𝓤 𝓛 mem run. refl; meets = λ M. record_data_type_data.met };
  record_id_id_data = record { says = λ M 𝓤 𝓛 mem run. refl; meets = λ M. record_id_id_data.met };
  record_list_start = record { says = λ M 𝓤 𝓛 mem run. refl; meets = λ M. record_list_start.met };
  record_list_step = record { says = λ M 𝓤 𝓛 mem run. refl; meets = λ M. record_list_step.met };
  record_list_element_from = record { says = λ M 𝓤 𝓛 mem run. refl; meets = λ M. record_list_element_from.met };
  record_member_member_name = record { says = λ M 𝓤 𝓛 mem run. refl; meets = λ M. record_member_member_name.met };
  record_member_member_at = record { says = λ M 𝓤 𝓛 mem run. refl; meets = λ M. record_member_member_at.met };
  record_member_method_entry_at = record { says = λ M 𝓤 𝓛 mem run. refl; meets = λ M. record_member_method_entry_at.met };
  record_parse_parse = record { says = λ M 𝓤 𝓛 mem run. refl; meets = λ M. record_parse_parse.met };
  record_reader_list_reader_new = record { says = λ M 𝓤 𝓛 mem run. refl; meets = λ M. record_reader_list_reader_new.met };
  record_reader_list_reader_element = record { says = λ M 𝓤 𝓛 mem run. refl; meets = λ M. record_reader_list_reader_element.met };
  record_reader_list_reader_step = record { says = λ M 𝓤 𝓛 mem run. refl; meets = λ M. record_reader_list_reader_step.met };
  record_reader_nth = record { says = λ M 𝓤 𝓛 mem run. refl; meets = λ M. record_reader_nth.met };
  record_reference_record_references = record { says = λ M 𝓤 𝓛 mem run. refl; meets = λ M. record_reference_record_references.met };
  record_reference_element_references = record { says = λ M 𝓤 𝓛 mem run. refl; meets = λ M. record_reference_element_references.met };
  section_finder_create = record { says = λ M 𝓤 𝓛 mem run. refl; meets = λ M. section_finder_create.met };
  section_finder_create_by = record { says = λ M 𝓤 𝓛 mem run. refl; meets = λ M. section_finder_create_by.met };
  section_finder_index_all = record { says = λ M 𝓤 𝓛 mem run. refl; meets = λ M. section_finder_index_all.met };
  section_finder_index_all_by = record { says = λ M 𝓤 𝓛 mem run. refl; meets = λ M. section_finder_index_all_by.met };
  section_item_iter = record { says = λ M 𝓤 𝓛 mem run. refl; meets = λ M. section_item_iter.met };
  section_item_len = record { says = λ M 𝓤 𝓛 mem run. refl; meets = λ M. section_item_len.met };
  section_read_parse = record { says = λ M 𝓤 𝓛 mem run. refl; meets = λ M. section_read_parse.met };
  section_read_start = record { says = λ M 𝓤 𝓛 mem run. refl; meets = λ M. section_read_start.met };
  section_stream_to_stream = record { says = λ M 𝓤 𝓛 mem run. refl; meets = λ M. section_stream_to_stream.met };
  stream_drop_drop = record { says = λ M 𝓤 𝓛 mem run. refl; meets = λ M. stream_drop_drop.met };
  stream_finder_create = record { says = λ M 𝓤 𝓛 mem run. refl; meets = λ M. stream_finder_create.met };
  stream_finder_create_by = record { says = λ M 𝓤 𝓛 mem run. refl; meets = λ M. stream_finder_create_by.met };
  stream_finder_begin = record { says = λ M 𝓤 𝓛 mem run. refl; meets = λ M. stream_finder_begin.met };
  stream_finder_update = record { says = λ M 𝓤 𝓛 mem run. refl; meets = λ M. stream_finder_update.met };
  stream_finder_item_finder_max_type_index = record { says = λ M 𝓤 𝓛 mem run. refl; meets = λ M. stream_finder_item_finder_max_type_index.met };
  stream_finder_item_finder_max_id_index = record { says = λ M 𝓤 𝓛 mem run. refl; meets = λ M. stream_finder_item_finder_max_id_index.met };
  stream_finder_find_type = record { says = λ M 𝓤 𝓛 mem run. refl; meets = λ M. stream_finder_find_type.met };
  stream_finder_find_id = record { says = λ M 𝓤 𝓛 mem run. refl; meets = λ M. stream_finder_find_id.met };
  stream_finder_lent_item_finder_update = record { says = λ M 𝓤 𝓛 mem run. refl; meets = λ M. stream_finder_lent_item_finder_update.met };
  stream_fit_rule_number = record { says = λ M 𝓤 𝓛 mem run. refl; meets = λ M. stream_fit_rule_number.met };
  stream_fit_fit = record { says = λ M 𝓤 𝓛 mem run. refl; meets = λ M. stream_fit_fit.met };
  stream_header_header_parse = record { says = λ M 𝓤 𝓛 mem run. refl; meets = λ M. stream_header_header_parse.met };
  stream_header_header_count = record { says = λ M 𝓤 𝓛 mem run. refl; meets = λ M. stream_header_header_count.met };
  stream_index_next_and_update = record { says = λ M 𝓤 𝓛 mem run. refl; meets = λ M. stream_index_next_and_update.met };
  stream_index_index_on = record { says = λ M 𝓤 𝓛 mem run. refl; meets = λ M. stream_index_index_on.met };
  stream_index_index_all = record { says = λ M 𝓤 𝓛 mem run. refl; meets = λ M. stream_index_index_all.met };
  stream_index_index_all_by = record { says = λ M 𝓤 𝓛 mem run. refl; meets = λ M. stream_index_index_all_by.met };
  stream_item_entry_index = record { says = λ M 𝓤 𝓛 mem run. refl; meets = λ M. stream_item_entry_index.met };
  stream_item_entry_len = record { says = λ M 𝓤 𝓛 mem run. refl; meets = λ M. stream_item_entry_len.met };
  stream_item_entry_is_empty = record { says = λ M 𝓤 𝓛 mem run. refl; meets = λ M. stream_item_entry_is_empty.met };
  stream_item_information_len = record { says = λ M 𝓤 𝓛 mem run. refl; meets = λ M. stream_item_information_len.met };
  stream_item_information_is_empty = record { says = λ M 𝓤 𝓛 mem run. refl; meets = λ M. stream_item_information_is_empty.met };
  stream_item_iter_iter = record { says = λ M 𝓤 𝓛 mem run. refl; meets = λ M. stream_item_iter_iter.met };
  stream_item_iter_next = record { says = λ M 𝓤 𝓛 mem run. refl; meets = λ M. stream_item_iter_next.met };
  stream_item_link_link_of = record { says = λ M 𝓤 𝓛 mem run. refl; meets = λ M. stream_item_link_link_of.met };
  stream_places_load = record { says = λ M 𝓤 𝓛 mem run. refl; meets = λ M. stream_places_load.met };
  stream_places_load_wide = record { says = λ M 𝓤 𝓛 mem run. refl; meets = λ M. stream_places_load_wide.met };
  stream_places_save = record { says = λ M 𝓤 𝓛 mem run. refl; meets = λ M. stream_places_save.met };
  stream_places_save_wide = record { says = λ M 𝓤 𝓛 mem run. refl; meets = λ M. stream_places_save_wide.met };
  stream_places_trailer_trailer_parse = record { says = λ M 𝓤 𝓛 mem run. refl; meets = λ M. stream_places_trailer_trailer_parse.met };
  stream_places_trailer_trailer_parse_wide = record { says = λ M 𝓤 𝓛 mem run. refl; meets = λ M. stream_places_trailer_trailer_parse_wide.met };
  stream_report_new = record { says = λ M 𝓤 𝓛 mem run. refl; meets = λ M. stream_report_new.met };
  stream_report_add = record { says = λ M 𝓤 𝓛 mem run. refl; meets = λ M. stream_report_add.met };
  stream_view_view_answer = record { says = λ M 𝓤 𝓛 mem run. refl; meets = λ M. stream_view_view_answer.met };
  stream_view_bytes_of = record { says = λ M 𝓤 𝓛 mem run. refl; meets = λ M. stream_view_bytes_of.met };
  stream_view_view = record { says = λ M 𝓤 𝓛 mem run. refl; meets = λ M. stream_view_view.met };
  stream_view_raw_kind = record { says = λ M 𝓤 𝓛 mem run. refl; meets = λ M. stream_view_raw_kind.met };
  word_attributes_type_properties_packed = record { says = λ M 𝓤 𝓛 mem run. refl; meets = λ M. word_attributes_type_properties_packed.met };
  word_attributes_type_properties_constructors = record { says = λ M 𝓤 𝓛 mem run. refl; meets = λ M. word_attributes_type_properties_constructors.met };
  word_attributes_type_properties_overloaded_operators = record { says = λ M 𝓤 𝓛 mem run. refl; meets = λ M. word_attributes_type_properties_overloaded_operators.met };
  word_attributes_type_properties_is_nested_type = record { says = λ M 𝓤 𝓛 mem run. refl; meets = λ M. word_attributes_type_properties_is_nested_type.met };
  word_attributes_type_properties_contains_nested_types = record { says = λ M 𝓤 𝓛 mem run. refl; meets = λ M. word_attributes_type_properties_contains_nested_types.met };
  word_attributes_type_properties_overloaded_assignment = record { says = λ M 𝓤 𝓛 mem run. refl; meets = λ M. word_attributes_type_properties_overloaded_assignment.met };
  word_attributes_type_properties_overloaded_casting = record { says = λ M 𝓤 𝓛 mem run. refl; meets = λ M. word_attributes_type_properties_overloaded_casting.met };
  word_attributes_type_properties_forward_reference = record { says = λ M 𝓤 𝓛 mem run. refl; meets = λ M. word_attributes_type_properties_forward_reference.met };
  word_attributes_type_properties_scoped_definition = record { says = λ M 𝓤 𝓛 mem run. refl; meets = λ M. word_attributes_type_properties_scoped_definition.met };
  word_attributes_type_properties_has_unique_name = record { says = λ M 𝓤 𝓛 mem run. refl; meets = λ M. word_attributes_type_properties_has_unique_name.met };
  word_attributes_type_properties_sealed = record { says = λ M 𝓤 𝓛 mem run. refl; meets = λ M. word_attributes_type_properties_sealed.met };
  word_attributes_type_properties_intrinsic_type = record { says = λ M 𝓤 𝓛 mem run. refl; meets = λ M. word_attributes_type_properties_intrinsic_type.met };
  word_attributes_type_properties_hfa = record { says = λ M 𝓤 𝓛 mem run. refl; meets = λ M. word_attributes_type_properties_hfa.met };
  word_attributes_type_properties_mocom = record { says = λ M 𝓤 𝓛 mem run. refl; meets = λ M. word_attributes_type_properties_mocom.met };
  word_attributes_field_attributes_access = record { says = λ M 𝓤 𝓛 mem run. refl; meets = λ M. word_attributes_field_attributes_access.met };
  word_attributes_field_attributes_method_properties = record { says = λ M 𝓤 𝓛 mem run. refl; meets = λ M. word_attributes_field_attributes_method_properties.met };
  word_attributes_field_attributes_is_static = record { says = λ M 𝓤 𝓛 mem run. refl; meets = λ M. word_attributes_field_attributes_is_static.met };
  word_attributes_field_attributes_is_virtual = record { says = λ M 𝓤 𝓛 mem run. refl; meets = λ M. word_attributes_field_attributes_is_virtual.met };
  word_attributes_field_attributes_is_pure_virtual = record { says = λ M 𝓤 𝓛 mem run. refl; meets = λ M. word_attributes_field_attributes_is_pure_virtual.met };
  word_attributes_field_attributes_is_intro_virtual = record { says = λ M 𝓤 𝓛 mem run. refl; meets = λ M. word_attributes_field_attributes_is_intro_virtual.met };
  word_attributes_function_attributes_calling_convention = record { says = λ M 𝓤 𝓛 mem run. refl; meets = λ M. word_attributes_function_attributes_calling_convention.met };
  word_attributes_function_attributes_cxx_return_udt = record { says = λ M 𝓤 𝓛 mem run. refl; meets = λ M. word_attributes_function_attributes_cxx_return_udt.met };
  word_attributes_function_attributes_is_constructor = record { says = λ M 𝓤 𝓛 mem run. refl; meets = λ M. word_attributes_function_attributes_is_constructor.met };
  word_attributes_function_attributes_is_constructor_with_virtual_bases = record { says = λ M 𝓤 𝓛 mem run. refl; meets = λ M. word_attributes_function_attributes_is_constructor_with_virtual_bases.met };
  word_attributes_modifier_flags_constant = record { says = λ M 𝓤 𝓛 mem run. refl; meets = λ M. word_attributes_modifier_flags_constant.met };
  word_attributes_modifier_flags_volatile = record { says = λ M 𝓤 𝓛 mem run. refl; meets = λ M. word_attributes_modifier_flags_volatile.met };
  word_attributes_modifier_flags_unaligned = record { says = λ M 𝓤 𝓛 mem run. refl; meets = λ M. word_attributes_modifier_flags_unaligned.met };
  word_attributes_pointer_attributes_pointer_kind = record { says = λ M 𝓤 𝓛 mem run. refl; meets = λ M. word_attributes_pointer_attributes_pointer_kind.met };
  word_attributes_pointer_attributes_pointer_mode = record { says = λ M 𝓤 𝓛 mem run. refl; meets = λ M. word_attributes_pointer_attributes_pointer_mode.met };
  word_attributes_pointer_attributes_pointer_to_member = record { says = λ M 𝓤 𝓛 mem run. refl; meets = λ M. word_attributes_pointer_attributes_pointer_to_member.met };
  word_attributes_pointer_attributes_is_flat_32 = record { says = λ M 𝓤 𝓛 mem run. refl; meets = λ M. word_attributes_pointer_attributes_is_flat_32.met };
  word_attributes_pointer_attributes_is_volatile = record { says = λ M 𝓤 𝓛 mem run. refl; meets = λ M. word_attributes_pointer_attributes_is_volatile.met };
  word_attributes_pointer_attributes_is_const = record { says = λ M 𝓤 𝓛 mem run. refl; meets = λ M. word_attributes_pointer_attributes_is_const.met };
  word_attributes_pointer_attributes_is_unaligned = record { says = λ M 𝓤 𝓛 mem run. refl; meets = λ M. word_attributes_pointer_attributes_is_unaligned.met };
  word_attributes_pointer_attributes_is_restrict = record { says = λ M 𝓤 𝓛 mem run. refl; meets = λ M. word_attributes_pointer_attributes_is_restrict.met };
  word_attributes_pointer_attributes_is_reference = record { says = λ M 𝓤 𝓛 mem run. refl; meets = λ M. word_attributes_pointer_attributes_is_reference.met };
  word_attributes_pointer_attributes_size = record { says = λ M 𝓤 𝓛 mem run. refl; meets = λ M. word_attributes_pointer_attributes_size.met };
  word_attributes_pointer_attributes_is_mocom = record { says = λ M 𝓤 𝓛 mem run. refl; meets = λ M. word_attributes_pointer_attributes_is_mocom.met };
  word_primitive_primitive = record { says = λ M 𝓤 𝓛 mem run. refl; meets = λ M. word_primitive_primitive.met };
  write_cells_write_type = record { says = λ M 𝓤 𝓛 mem run. refl; meets = λ M. write_cells_write_type.met };
  write_cells_write_id = record { says = λ M 𝓤 𝓛 mem run. refl; meets = λ M. write_cells_write_id.met };
  write_header_write_header = record { says = λ M 𝓤 𝓛 mem run. refl; meets = λ M. write_header_write_header.met };
  write_list_write_field_list = record { says = λ M 𝓤 𝓛 mem run. refl; meets = λ M. write_list_write_field_list.met };
  write_list_write_method_list = record { says = λ M 𝓤 𝓛 mem run. refl; meets = λ M. write_list_write_method_list.met };
  write_list_rows_of_member = record { says = λ M 𝓤 𝓛 mem run. refl; meets = λ M. write_list_rows_of_member.met };
  write_list_rows_of_method = record { says = λ M 𝓤 𝓛 mem run. refl; meets = λ M. write_list_rows_of_method.met };
  write_pieces_capped_sum = record { says = λ M 𝓤 𝓛 mem run. refl; meets = λ M. write_pieces_capped_sum.met };
  write_pieces_measured = record { says = λ M 𝓤 𝓛 mem run. refl; meets = λ M. write_pieces_measured.met };
  write_pieces_write_plain = record { says = λ M 𝓤 𝓛 mem run. refl; meets = λ M. write_pieces_write_plain.met };
  write_pieces_write_filled = record { says = λ M 𝓤 𝓛 mem run. refl; meets = λ M. write_pieces_write_filled.met };
  write_pieces_fields_two_bytes = record { says = λ M 𝓤 𝓛 mem run. refl; meets = λ M. write_pieces_fields_two_bytes.met };
  write_pieces_fields_natural = record { says = λ M 𝓤 𝓛 mem run. refl; meets = λ M. write_pieces_fields_natural.met };
  write_pieces_fields_unnamed = record { says = λ M 𝓤 𝓛 mem run. refl; meets = λ M. write_pieces_fields_unnamed.met };
}
