-- What is promised, in one place: the customer's three demands, what document 02 asks of them, document 01's examples, that every public function meets
-- its contract, and that every contract admits one outcome. A file that is named without its crate stands in crates/claim_promises/specs.
-- `demands : Demands` (proofs/Demands.antt) is its proof.
use Rattle.std.specs.Prelude.{◌≡◌, map}
use Rattle.field_number.specs.Forms.{ShortestForm, WidthSaid, AsBefore}
use Rattle.record_layout.specs.Fields.{AsIn01}
use Rattle.word_primitive.specs.Sheet.{Sheet}
use Rattle.claim_model.specs.Demand2.{Demand2}
use Rattle.stream_finder.specs.Demand.{Demand3, Demand3Every, NotIndexed, NotIndexedEvery}
use Rattle.stream_finder.specs.Shared.{Shared}
use Rattle.record_reference.specs.Decoded.{HasExactly}
use Rattle.stream_fit.specs.After.{AfterYes}
use Rattle.stream_fit.specs.Sentences.{FitSentences}
use Rattle.record_rewrite.specs.Kept.{Rewriting}
use Rattle.stream_drop.specs.Sentences.{DropSentences}
use Rattle.stream_places.specs.File.{FileForm}
use Rattle.stream_places.specs.Kept.{LoadServes, WideServes, RoundTrip, WideTrip, OneEncoding, OneEncodingWide, LoadersAgree}
use Rattle.stream_report.specs.Sums.{AddsUp, Exactly, MadeSums}
use Rattle.write_layout.specs.RoundTrip.{FieldsReadBack, RecordReadsBack, Exactly17}
use Rattle.write_layout.specs.Types.{TypesWritten}
use Rattle.write_list.specs.Rows.{RowsShow}
use Rattle.write_list.specs.ListsBack.{ListsReadBack, ListsExactly17}
use Rattle.write_header.specs.Headers.{HeaderReadsBack}
use Rattle.write_header.specs.Streams.{StreamWalks}
use Rattle.stream_finder.specs.OfRecords.{OfRecords}
use Rattle.section_item.specs.Sections.{SectionCounts}
use Rattle.section_finder.specs.Demand.{OfSections}
use Rattle.section_read.specs.Readers.{EachTaken}
use Rattle.section_stream.specs.Made.{StreamMade}
use Rattle.pane.specs.Tally.{Tally}
use Rattle.pane.specs.Same.{SameForC}
use Rattle.pane_row.specs.Back.{RowsTell}
use Rattle.pane_row.specs.Stand.{SlotsStand}
use Rattle.pane_state.specs.Walk.{SameWalk}
use Rattle.pane_word.specs.Words.{KindsNamed}
use Rattle.record_cells.specs.Filled.{CellsTell}
use Rattle.claim_promises.specs.Border.{Border}
use Rattle.claim_promises.specs.Demand1.{Demand1}
use Rattle.claim_promises.specs.RefusedBy.{EachRefusedBy}
use Rattle.claim_promises.specs.ExactlyWhen.{ExactlyWhen}
use Rattle.claim_promises.specs.RecordsWhen.{RecordsWhen}
use Rattle.claim_promises.specs.ListsWhen.{ListsWhen}
use Rattle.claim_promises.specs.EntriesWhen.{EntriesWhen}
use Rattle.claim_promises.specs.PlacesWhen.{PlacesWhen}
use Rattle.claim_promises.specs.CreatedWhen.{CreatedWhen}
use Rattle.claim_promises.specs.WritesWhen.{WritesWhen}
use Rattle.claim_promises.specs.PiecesWhen.{PiecesWhen}
use Rattle.claim_promises.specs.Sections.{SectionsRefuse, SectionsWhen}
use Rattle.claim_promises.specs.DeclareWhen.{DeclareWhen}
use Rattle.claim_promises.specs.Digits.{LengthsShown}
use Rattle.claim_promises.specs.OneBuffer.{OneBuffer}
use Rattle.claim_promises.specs.Widths.{SizeWidthSaid}
use Rattle.claim_promises.specs.Indexed.{StreamsIndexed}
use Rattle.claim_promises.specs.Paged.{SectionTally}
use Rattle.claim_promises.specs.Examples.{examples, asked, expected_of as answers}
use Rattle.claim_promises.specs.DeclareExamples.{declarations, declared, expected}
use Rattle.claim_promises.specs.Answers.{Answers}
use Rattle.claim_promises.specs.OneOutcome.{OneOutcome}
use Rattle.claim_demands.specs.Tied.{Tied}

pub record Demands : Type 2 where
  -- "Every byte string and every number is answered or refused by document 01's table. A refusal gives nothing but its number and named detail,
  -- and all lent memory stays unchanged." But for a table after 30 and 19, which R-13 excepts. Demand1.antt
  pub first : Demand1
  -- the same of the contracts, function by function: RefusedBy.antt
  pub refused_by : EachRefusedBy
  -- the table's column "Given exactly when": each number is given just then. ExactlyWhen.antt
  pub given : ExactlyWhen
  -- the same of what reads a record, field by field: RecordsWhen.antt
  pub given_records : RecordsWhen
  -- of lists and their elements, and of a stream's entries: ListsWhen.antt, EntriesWhen.antt
  pub given_lists : ListsWhen
  pub given_entries : EntriesWhen
  -- and the creation of a finder whole, its answers too: CreatedWhen.antt
  pub given_creations : CreatedWhen
  -- "Header, iteration, finding, ids, primitives and attribute words equal the crate's on the domain in 01": crates/claim_model/specs/Demand2.antt.
  -- "Type leaves equal 01's layouts" is the contracts of `type_data`, `member_at` and the lists, which cite the tables of
  -- crates/record_layout/specs/Layouts.antt
  pub second : Demand2
  -- document 02, R-8: "its rule shown over the whole table at once", at every index: crates/word_primitive/specs/Sheet.antt. That the code's rows have these
  -- numbers is the contract of the function `entry`, which reads them
  pub sheet : Sheet
  -- "Take an accepted stream counting at least one record, .. A lookup .. at distance d .. gives link d of the chain counted by lengths alone,
  -- having skipped d mod 8 links, or 'ended' if that chain breaks first": crates/stream_finder/specs/Demand.antt
  pub third : Demand3
  -- "is 'not indexed' exactly if d/8 exceeds N/8, both rounded down"
  pub exactly_if : NotIndexed
  -- document 02, R-7: "demand 3 read[s] 2^s for 8 throughout", for every shift s from 0 to 6; the two above are the shift 3
  pub third_every : Demand3Every
  pub exactly_if_every : NotIndexedEvery
  -- document 02, R-11: "any order of updates to a finder fresh on this stream, from any number of cursors ..": crates/stream_finder/specs/Shared.antt
  pub shared_by_many : Shared
  -- a stream that `index_all_by` has indexed: demand 3 holds of what it leaves, N being the records that it walked; and indexed, saved and loaded, each
  -- lookup is what it was: Indexed.antt
  pub streams_indexed : StreamsIndexed
  -- document 02, R-4: what is said of the form of a number, "and whether a shorter form existed under R-1's rule": crates/field_number/specs/Forms.antt; of
  -- one that is read as a size, Widths.antt.
  -- "Values and refusals of 01 stay", of a numeric leaf and of every layout: crates/record_layout/specs/Fields.antt
  pub shortest_form : ShortestForm
  pub width_said : WidthSaid
  pub size_width_said : SizeWidthSaid
  pub numbers_as_before : AsBefore
  pub layouts_as_before : AsIn01
  -- document 02, R-9: a stream is fit exactly when every sentence holds, and the no names the lowest faulty record and the first rule that it breaks:
  -- crates/stream_fit/specs/Sentences.antt. After a yes a filled finder finds every record, and all of it reads: After.antt. A payload has its references
  -- exactly if the record and every element decode: crates/record_reference/specs/Decoded.antt
  pub fitness : FitSentences
  pub after_fitness : AfterYes
  pub references : HasExactly
  -- document 02, R-13, sentence by sentence: "exactly the records reached from the roots through type references, in their old order, renumbered from the
  -- old minimum without holes, references rewritten, the header kept but for its maximum", what the table holds, that dropping twice changes nothing, and
  -- when each number is given: crates/stream_drop/specs/Sentences.antt. "All other payload bytes kept": crates/record_rewrite/specs/Kept.antt
  pub drops : DropSentences
  pub rewrites : Rewriting
  -- document 02, R-3: a loaded finder is one "for which demand 3 reads with N = 2^s × (places − 1)"; what was saved is loaded as it was; of a file that
  -- is loaded, saving gives that file: crates/stream_places/specs/Kept.antt
  pub loaded : LoadServes
  pub saved_and_loaded : RoundTrip
  pub one_file : OneEncoding
  -- R-10: the same of the new pair, over both forms together, N being a number that may pass 32 bits; on a file of the old form the two loaders agree, and
  -- one of the new form is the stream's own or 20 to the old one
  pub wide_loaded : WideServes
  pub wide_saved_and_loaded : WideTrip
  pub wide_one_file : OneEncodingWide
  pub loaders : LoadersAgree
  -- and when each of their numbers is given, and no other, of either form: PlacesWhen.antt
  pub given_places : (form : FileForm) → PlacesWhen form
  -- document 02, R-12: "header bytes, two per record, and payload bytes add up to the stream's length"; 27 and 28 exactly when; "the report's totals are
  -- those of the streams it counted", and its entries too: crates/stream_report/specs/Sums.antt
  pub adds_up : AddsUp
  pub reports_refuse : Exactly
  pub reports_sum : MadeSums
  -- document 02, R-1: "Reading back gives the fields, and writing those the same bytes", of every layout and of a record of every table; 17 exactly
  -- where no bytes read back: crates/write_layout/specs/RoundTrip.antt. Of the elements of the two lists, which are given as rows, with where the members
  -- stand: crates/write_list/specs/ListsBack.antt, Rows.antt beside it. Of a header, and of a stream of a written header and written records:
  -- crates/write_header/specs/Headers.antt, Streams.antt; of such a stream made in one buffer, OneBuffer.antt
  pub fields_read_back : FieldsReadBack
  pub records_read_back : RecordReadsBack
  pub exactly_17 : Exactly17
  -- by a table without the two lists, which are 17 where no elements are given: crates/write_layout/specs/Types.antt
  pub types_written : TypesWritten
  pub lists_read_back : ListsReadBack
  pub lists_exactly_17 : ListsExactly17
  pub rows_show : RowsShow
  pub headers_read_back : HeaderReadsBack
  pub streams_walk : StreamWalks
  pub one_buffer : OneBuffer
  -- and when each of its numbers is given: WritesWhen.antt
  pub given_writing : WritesWhen
  -- of the pieces that records and lists are made of: PiecesWhen.antt
  pub given_pieces : PiecesWhen
  -- document 02, R-5: "19 exactly if the bytes that the walk has fixed pass the room before another is met", and else the answer of "a definition that
  -- prints with no limit on room": DeclareWhen.antt
  pub given_declarations : DeclareWhen
  -- and an array's length is printed whole, in digits without a leading zero, of every 64-bit number: Digits.antt
  pub lengths_shown : LengthsShown
  -- examples of declarations and of their refusals, together as one statement over their list: DeclareExamples.antt
  pub declarations_shown : map declared declarations ≡ map expected declarations
  -- document 02, R-14: "the links passed for looking up each of c indices once, upward from the minimum": crates/pane/specs/Tally.antt, of a section's
  -- finder Paged.antt; and that the five functions for C are enough: crates/pane/specs/Same.antt
  pub paged : Tally
  pub sections_paged : SectionTally
  pub five : SameForC
  -- what C gets of every other export, by the definition that the plain function's contract cites: crates/claim_promises/specs/Border.antt. A row gives the
  -- values of the record or element that it was made of back, and so do a record's cells; a row's places stand as the layouts do; where a walk is said to end,
  -- it ends; and the numbers of a pointer's kind and mode name them: crates/pane_row/specs/Back.antt, Stand.antt, crates/record_cells/specs/Filled.antt,
  -- crates/pane_state/specs/Walk.antt, crates/pane_word/specs/Words.antt
  pub border : Border
  pub rows_tell : RowsTell
  pub rows_stand : SlotsStand
  pub cells_tell : CellsTell
  pub same_walk : SameWalk
  pub words_named : KindsNamed
  -- document 02, R-6: "Demand 3 holds of the section with 4 for header_size, 4096 for the minimum and 4096 plus the records for the maximum":
  -- crates/section_finder/specs/Demand.antt, by the theorems of any records, crates/stream_finder/specs/OfRecords.antt; the records are those of a whole walk:
  -- crates/section_item/specs/Sections.antt
  pub of_records : OfRecords
  pub of_sections : OfSections
  pub sections_counted : SectionCounts
  -- the stream that is made of a section: its header is accepted and counts the section's records, their bytes are kept, its walk is the section's with
  -- places 52 higher, its lookups agree: crates/section_stream/specs/Made.antt
  pub made_stream : StreamMade
  -- "each item goes to the reader that takes its leaf": crates/section_read/specs/Readers.antt
  pub each_taken : EachTaken
  -- what refuses a section, and when: Sections.antt
  pub sections : SectionsRefuse
  pub given_sections : SectionsWhen
  -- "P marks those proved, together as one statement over their list": Examples.antt
  pub shown : map asked examples ≡ map answers examples
  -- what is proved of a definition, here and above, is so of what a function answers by its contract: Answers.antt
  pub answered : Answers
  -- every public function meets its contract, and the contract is a definition that the theorems name: Tied.antt beside this file, over PublicContracts.antt
  pub tied : Tied
  -- "For each, show that the contract admits one outcome": OneOutcome.antt
  pub one : OneOutcome
