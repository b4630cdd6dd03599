-- What C gets of each exported function is what its contract says. Assumes nothing.
use Rattle.claim_promises.specs.Border.{Border}

pub border : Border
border = record {
  pane_pdb_header = λ s r out' it. it;
  pane_pdb_next = λ s at index r out' it. it;
  pane_pdb_update = λ table minimum maximum held shift at index r table' out' it. it;
  pane_pdb_find = λ s table minimum maximum held shift index r out' it. it;
  pane_pdb_primitive = λ index r out' it. it;
  pane_declare_pdb_declare = λ s table minimum maximum held shift index buffer r buffer' out' it. it;
  pane_drop_pdb_drop = λ s roots table buffer r table' buffer' out' it. it;
  pane_fit_pdb_fit = λ s r out' it. it;
  pane_index_pdb_create = λ s table shift r table' out' it. it;
  pane_index_pdb_index = λ s table shift r table' out' it. it;
  pane_index_pdb_max_index = λ minimum maximum held shift r it. it;
  pane_index_pdb_view = λ tpi ipi ids item index place length r out' it. it;
  pane_index_pdb_kind = λ tpi ipi ids item index place length r out' it. it;
  pane_index_pdb_load = λ s file table r table' out' it. it;
  pane_index_pdb_load_short = λ s file table r table' out' it. it;
  pane_index_pdb_save = λ s table minimum maximum held shift buffer r buffer' out' it. it;
  pane_index_pdb_save_short = λ s table minimum maximum held shift buffer r buffer' out' it. it;
  pane_parse_pdb_parse = λ tpi ipi ids item index place length r out' it. it;
  pane_parse_pdb_section_read = λ s index place length r out' it. it;
  pane_record_pdb_type = λ s r out' it. it;
  pane_record_pdb_id = λ s r out' it. it;
  pane_record_pdb_list = λ s ids r out' it. it;
  pane_record_pdb_step = λ s leaf at left padded r out' it. it;
  pane_report_pdb_report = λ s taken refused headers records bytes length stream index rows table r table' out' it. it;
  pane_section_pdb_section_start = λ s r out' it. it;
  pane_section_pdb_section_count = λ s r out' it. it;
  pane_section_pdb_section_create = λ s table shift r table' out' it. it;
  pane_section_pdb_section_index = λ s table shift r table' out' it. it;
  pane_section_pdb_section_stream = λ s buffer r buffer' out' it. it;
  pane_section_pdb_section_list = λ s r out' it. it;
  pane_word_pdb_string = λ s leaf at r out' it. it;
  pane_word_pdb_padding = λ s at r out' it. it;
  pane_word_pdb_size = λ s at r out' it. it;
  pane_word_pdb_number = λ s at r out' it. it;
  pane_word_pdb_optional_type = λ index r it. it;
  pane_word_pdb_optional_id = λ index r it. it;
  pane_word_pdb_is_cross_module = λ index r it. it;
  pane_word_pdb_properties = λ word r out' it. it;
  pane_word_pdb_field_attributes = λ word r out' it. it;
  pane_word_pdb_function_attributes = λ word r out' it. it;
  pane_word_pdb_pointer_attributes = λ word r out' it. it;
  pane_write_pdb_write_type = λ text leaf cells buffer at r buffer' out' it. it;
  pane_write_pdb_write_id = λ text leaf cells buffer at r buffer' out' it. it;
  pane_write_pdb_write_fields = λ text rows buffer at r buffer' out' it. it;
  pane_write_pdb_write_methods = λ text rows buffer at r buffer' out' it. it;
  pane_write_pdb_write_header = λ fields stream pad buffer at r buffer' out' it. it;
  pane_write_pdb_cells = λ s ids cells r cells' out' it. it;
  pane_write_pdb_layout = λ which leaf r it. it;
}
