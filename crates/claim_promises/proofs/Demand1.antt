-- Demand 1 is met: each field by its law. Assumes nothing.
use Rattle.answer.proofs.OneOutcome.{in-table}
use Rattle.stream_finder.specs.Finder.{state, begun_in, create_by, update_of}
use mathlib.Core.Path.{sym, ap, ◌∙◌}
use lib.ListN.{length}
use Rattle.stream_index.specs.Walk.{turn_of, said_end}
use Rattle.stream_places.specs.File.{narrow, file_form_of}
use Rattle.stream_places.specs.Places.{load_of, load_wide_of, form_for, save_of, save_wide_of}
use Rattle.record_list.specs.Lists.{step_of}
use Rattle.claim_promises.proofs.ReadingRefuses.{fixed-refuses, signed-refuses, optional-refuses, string-refuses, counted-refuses, string-of-refuses, bytes-refuses, padding-refuses, numeral-refuses, sized-refuses}
use Rattle.claim_promises.proofs.StreamRefuses.{primitive-refuses, kind-refuses, mode-refuses, to-member-refuses, reference-refuses, pointer-size-refuses, header-refuses, iter-refuses, len-refuses, is-empty-refuses, next-refuses, view-refuses, raw-kind-refuses, fit-refuses, create-refuses, begun-in-refuses, create-by-refuses, update-refuses, find-refuses, turn-refuses, type-refuses, id-refuses, member-refuses, method-refuses, start-refuses, step-refuses, element-by-refuses, element-refuses, element-ids-refuses, parse-refuses}
use Rattle.claim_promises.proofs.LeftAlone.{leaves-alone, changes-nothing, leads-nowhere, steps-nowhere, saves-nothing}
use Rattle.declare_type.specs.Declares.{declare_of}
use Rattle.claim_promises.proofs.DeclareRefuses.{declares-nothing}
use Rattle.claim_promises.proofs.DeclareParts.{node-says, list-says, step-says, walk-says, capped-says, declare-says}
use Rattle.stream_report.specs.Report.{add_of}
use Rattle.claim_promises.proofs.ReportRefuses.{add-refuses, reports-nothing}
use Rattle.stream_drop.specs.Drop.{drop_of}
use Rattle.claim_promises.proofs.DropRefuses.{drop-refuses, drops-no-bytes, drops-no-entry}
use Rattle.claim_promises.proofs.DropLeaves.{drop-leaves}
use Rattle.claim_promises.proofs.PlacesRefuse.{trailer-refuses, load-refuses, save-refuses}
use Rattle.claim_promises.proofs.WritersRefuse.{header-laid-refuses, record-laid-refuses, field-list-laid-refuses, method-list-laid-refuses, pieces-refuse, plain-laid-refuses, filled-laid-refuses, pieces-laid-refuses, writes_nothing}
use Rattle.claim_promises.specs.Demand1.{Demand1}
use Rattle.answer.specs.Refusals.{itself, said}

pub demand1 : Demand1
demand1 = record {
  table = in-table;
  fields = fixed-refuses;
  signed_fields = signed-refuses;
  optional_indices = optional-refuses;
  strings = string-refuses;
  counted_strings = counted-refuses;
  strings_by_leaf = string-of-refuses;
  runs = bytes-refuses;
  paddings = padding-refuses;
  numbers = numeral-refuses;
  sizes = sized-refuses;
  primitives = primitive-refuses;
  pointer_kinds = kind-refuses;
  pointer_modes = mode-refuses;
  pointers_to_members = to-member-refuses;
  references = reference-refuses;
  pointer_sizes = pointer-size-refuses;
  headers = header-refuses;
  counts = len-refuses;
  empties = is-empty-refuses;
  iterators = iter-refuses;
  nexts = next-refuses;
  views = view-refuses;
  raw_kinds = raw-kind-refuses;
  creations = create-refuses;
  creations_by = create-by-refuses;
  beginnings = begun-in-refuses;
  updates = update-refuses;
  finds = find-refuses;
  turns = turn-refuses;
  fits = fit-refuses;
  trailers = trailer-refuses narrow;
  loads = load-refuses narrow;
  saves = save-refuses narrow;
  wide_trailers = λ f. trailer-refuses (file_form_of f) f;
  wide_loads = λ s f t. load-refuses (file_form_of f) s f t;
  wide_saves = λ s σ room. save-refuses (form_for σ.finder.held) s σ room;
  additions = add-refuses;
  drops = drop-refuses;
  declares = declare-says;
  nodes = node-says;
  argument_lists = list-says;
  declaration_steps = step-says;
  declaration_walks = walk-says;
  declarators = capped-says;
  types = type-refuses;
  ids = id-refuses;
  members = member-refuses;
  methods = method-refuses;
  entries = parse-refuses;
  starts = start-refuses;
  steps = step-refuses;
  elements_on = element-by-refuses;
  elements = element-refuses;
  id_elements = element-ids-refuses;
  headers_written = header-laid-refuses;
  records_written = record-laid-refuses;
  field_lists_written = field-list-laid-refuses;
  method_lists_written = method-list-laid-refuses;
  pieces = pieces-refuse;
  pieces_written = plain-laid-refuses;
  pieces_filled = filled-laid-refuses;
  pieces_recorded = pieces-laid-refuses;
  create_keeps = λ shift s t. leaves-alone t (create_by shift s t);
  begin_keeps = λ shift t records. leaves-alone t (begun_in shift t records);
  update_keeps = λ f t c. leaves-alone t (update_of (state f t) c);
  load_keeps = λ s f t. leaves-alone t (load_of s f t);
  save_keeps = λ s σ o. saves-nothing o (save_of s σ (length o));
  wide_load_keeps = λ s f t. leaves-alone t (load_wide_of s f t);
  wide_save_keeps = λ s σ o. saves-nothing o (save_wide_of s σ (length o));
  add_keeps = λ ρ s t. reports-nothing t (add_of ρ s);
  write_keeps = λ o w r. writes_nothing o w (said itself r);
  declare_keeps = λ s σ i o. declares-nothing o (declare_of s σ i (length o));
  turn_keeps = λ s f t c. leads-nowhere t (turn_of s (state f t) c);
  index_all_keeps = λ shift tag s t e t' h. h.1;
  index_on_keeps = λ s f t c r t' e w h. sym w.ended ∙ ap said_end h;
  lent_update_keeps = λ σ c. changes-nothing σ (update_of σ c);
  step_keeps = λ s c. steps-nowhere c (step_of s c);
  drop_keeps_buffer = λ s roots t b. drops-no-bytes t b (drop_of s roots (length t) (length b));
  drop_keeps_table = drops-no-entry;
  drop_excepted = drop-leaves;
}
