-- All that is promised is proved. Assumes nothing.
use Rattle.field_number.proofs.FormsProof.{shortest-form, width-said, as_before}
use Rattle.record_layout.proofs.AsIn01.{as-in-01}
use Rattle.word_primitive.proofs.SheetLaws.{sheet}
use Rattle.claim_model.proofs.Demand2.{demand2}
use Rattle.stream_finder.proofs.DemandProof.{demand3, demand3-every, not-indexed, not-indexed-every}
use Rattle.stream_finder.proofs.SharedProof.{shared, of-records}
use Rattle.record_reference.proofs.DecodedLaws.{has-exactly}
use Rattle.stream_fit.proofs.AfterLaws.{after-yes}
use Rattle.stream_fit.proofs.SentenceLaws.{sentences}
use Rattle.record_rewrite.proofs.Rewritten.{rewriting}
use Rattle.stream_drop.proofs.SentenceLaws.{sentences as drop-sentences}
use Rattle.stream_places.proofs.KeptProof.{load-serves, wide-serves, round_trip, wide-trip, one-encoding, one-encoding-wide, loaders-agree}
use Rattle.stream_report.proofs.SumLaws.{adds-up, exactly}
use Rattle.stream_report.proofs.MadeSums.{made-sums}
use Rattle.write_layout.proofs.RoundTripProof.{fields-read-back, record-reads-back}
use Rattle.write_layout.proofs.Rewrite.{exactly-17}
use Rattle.write_layout.proofs.TypeLaws.{types-written}
use Rattle.write_list.proofs.RowLaws.{rows-show}
use Rattle.write_list.proofs.ListBack.{lists-read-back}
use Rattle.write_list.proofs.Lists17.{lists-exactly-17}
use Rattle.write_header.proofs.HeaderBack.{header-reads-back}
use Rattle.write_header.proofs.StreamWalks.{stream-walks}
use Rattle.section_item.proofs.SectionLaws.{counts}
use Rattle.section_finder.proofs.DemandProof.{of-sections}
use Rattle.section_read.proofs.TakenProof.{each-taken}
use Rattle.section_stream.proofs.MadeProof.{stream-made}
use Rattle.pane.proofs.TallyProof.{tally-holds}
use Rattle.pane.proofs.SameProof.{same}
use Rattle.pane_row.proofs.RowsTellProof.{rows_tell}
use Rattle.pane_row.proofs.Stands.{slots-stand}
use Rattle.pane_state.proofs.SameWalkProof.{same-walk}
use Rattle.pane_word.proofs.WordLaws.{named}
use Rattle.record_cells.proofs.CellsTell.{cells-tell}
use Rattle.claim_promises.proofs.Border.{border}
use Rattle.claim_promises.proofs.Demand1.{demand1}
use Rattle.claim_promises.proofs.RefusedBy.{each-refused-by}
use Rattle.claim_promises.proofs.ExactlyWhen.{exactly-when}
use Rattle.claim_promises.proofs.RecordsWhen.{records-when}
use Rattle.claim_promises.proofs.ListsWhen.{lists-when}
use Rattle.claim_promises.proofs.EntriesWhen.{entries-when}
use Rattle.claim_promises.proofs.PlacesWhen.{places-when}
use Rattle.claim_promises.proofs.CreatedWhen.{created-when}
use Rattle.claim_promises.proofs.WritesWhen.{writes-when}
use Rattle.claim_promises.proofs.PiecesWhen.{pieces-when}
use Rattle.claim_promises.proofs.SectionsProof.{sections-refuse, sections-when}
use Rattle.claim_promises.proofs.DeclareRefuses.{declare-when}
use Rattle.claim_promises.proofs.Digits.{lengths-shown}
use Rattle.claim_promises.proofs.OneBuffer.{one-buffer}
use Rattle.claim_promises.proofs.Widths.{size-width-said}
use Rattle.claim_promises.proofs.Indexed.{streams-indexed}
use Rattle.claim_promises.proofs.Paged.{section-tally}
use Rattle.claim_promises.proofs.Examples.{examples-hold}
use Rattle.claim_promises.proofs.DeclareExamples.{declarations-hold}
use Rattle.claim_promises.proofs.Answers.{answers}
use Rattle.claim_promises.proofs.OneOutcome.{one-outcome}
use Rattle.claim_demands.proofs.Tied.{tied}
use Rattle.claim_demands.specs.Demands.{Demands}

pub demands : Demands
demands = record {
  first = demand1;
  refused_by = each-refused-by;
  given = exactly-when;
  given_records = records-when;
  given_lists = lists-when;
  given_entries = entries-when;
  given_creations = created-when;
  second = demand2;
  sheet = sheet;
  third = demand3;
  exactly_if = not-indexed;
  third_every = demand3-every;
  exactly_if_every = not-indexed-every;
  shared_by_many = shared;
  streams_indexed = streams-indexed;
  shortest_form = shortest-form;
  width_said = width-said;
  size_width_said = size-width-said;
  numbers_as_before = as_before;
  layouts_as_before = as-in-01;
  loaded = load-serves;
  saved_and_loaded = round_trip;
  one_file = one-encoding;
  fitness = sentences;
  after_fitness = after-yes;
  references = has-exactly;
  drops = drop-sentences;
  rewrites = rewriting;
  wide_loaded = wide-serves;
  wide_saved_and_loaded = wide-trip;
  wide_one_file = one-encoding-wide;
  loaders = loaders-agree;
  given_places = places-when;
  adds_up = adds-up;
  reports_refuse = exactly;
  reports_sum = made-sums;
  fields_read_back = fields-read-back;
  records_read_back = record-reads-back;
  exactly_17 = exactly-17;
  types_written = types-written;
  lists_read_back = lists-read-back;
  lists_exactly_17 = lists-exactly-17;
  rows_show = rows-show;
  headers_read_back = header-reads-back;
  streams_walk = stream-walks;
  one_buffer = one-buffer;
  given_writing = writes-when;
  given_pieces = pieces-when;
  given_declarations = declare-when;
  lengths_shown = lengths-shown;
  declarations_shown = declarations-hold;
  paged = tally-holds;
  sections_paged = section-tally;
  five = same;
  border = border;
  rows_tell = rows_tell;
  rows_stand = slots-stand;
  cells_tell = cells-tell;
  same_walk = same-walk;
  words_named = named;
  of_records = of-records;
  of_sections = of-sections;
  sections_counted = counts;
  made_stream = stream-made;
  each_taken = each-taken;
  sections = sections-refuse;
  given_sections = sections-when;
  shown = examples-hold;
  answered = answers;
  tied = tied;
  one = one-outcome;
}
