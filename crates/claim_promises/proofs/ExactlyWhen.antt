-- Each number of document 01's table is given exactly when the table says. Assumes nothing.
use Rattle.std.specs.Prelude.{Some}
use Prim.Native.Nat.{ℕ, ◌≤◌, ◌<◌}
use mathlib.Core.Path.{◌≡◌, refl, sym, ap, ◌∙◌}
use mathlib.Core.Logic.{◌⊎◌}
use mathlib.Core.List.{List, [], ◌∷◌}
use lib.ListN.{length}
use Rattle.answer.specs.Answer.{answered, refused, then, got}
use Rattle.answer.specs.Tables.{find, among}
use Rattle.field.specs.Fields.{little_at}
use Rattle.field.proofs.FieldLaws.{field-there}
use Rattle.stream_header.specs.Header.{longest}
use Rattle.stream_item.specs.Iterator.{yielded, next_of}
use Rattle.stream_item.specs.declared.Item.{Item}
use Rattle.stream_item.specs.declared.Entry.{Entry}
use Rattle.stream_item.specs.declared.iter.ItemIter.{ItemIter}
use Rattle.stream_finder.specs.Finder.{State, update_of}
use Rattle.stream_index.specs.Walk.{updating, turn_of}
use Rattle.record_layout.specs.Fields.{Field, word_after, read_field, read_fields, Shown, read_fields_by}
use Rattle.record_layout.specs.Layouts.{Layout, Table, read_leaf, leaf_of, record_of}
use Rattle.record_list.specs.Lists.{step_of, element_by}
use Rattle.record_list.specs.declared.ListCursor.{ListCursor}
use Rattle.record_list.proofs.ListLaws.{element-next, element-refused}
use Rattle.record_parse.specs.Record.{entry_of as parsed_of, parse_of}
use Rattle.claim_promises.specs.Given.{Given, refusal_of}
use Rattle.claim_promises.specs.ExactlyWhen.{ExactlyWhen}
use Rattle.claim_promises.proofs.Given.{not-by, carried}
use Rattle.claim_promises.proofs.StreamRefuses.{parsed-refuses}
use Rattle.claim_promises.proofs.GivenStreams as streams
use Rattle.claim_promises.proofs.GivenReading as reading

entries-16 : (t p : List ℕ) (e : Entry) → Given 16 [] (parse_of t p e) ((longest < length t) ⊎ (longest < length p))
unfolding parse_of among
entries-16 t p e = streams.view-long t p (parsed_of t p e) (not-by 16 refl (parsed-refuses t p e))

turns-update : (s : List ℕ) (σ : State) (c : ItemIter) (i : Item) (c' : ItemIter) → next_of s c ≡ answered (yielded i c') → refusal_of (turn_of s σ c) ≡ refusal_of (update_of σ c')
unfolding turn_of
turns-update s σ c i c' e = rw e (carried _ (update_of σ c'))

turns_next : (s : List ℕ) (σ : State) (c : ItemIter) (n : ℕ) (d : List ℕ) → next_of s c ≡ refused n d → turn_of s σ c ≡ refused n d
unfolding turn_of
turns_next s σ c n d e = ap (λ x. then x (updating σ)) e

records-fields : (table : Table) (s : List ℕ) (fs : Layout) → 2 ≤ length s → find (little_at 2 s 0) table ≡ Some fs → refusal_of (record_of table s) ≡ refusal_of (read_fields fs 0 s 2)
unfolding record_of leaf_of read_leaf
records-fields table s fs a e = rw (sym (field-there 2 s 0 (little_at 2 s 0) a refl), e) (carried _ (then (read_fields fs 0 s 2) _) ∙ carried _ (read_fields fs 0 s 2))

fields-first : (f : Field) (fs : Layout) (w : ℕ) (s : List ℕ) (p n : ℕ) (d : List ℕ) → read_field f w s p ≡ refused n d → read_fields (f ∷ fs) w s p ≡ refused n d
unfolding read_fields_by
fields-first f fs w s p n d e = rw e refl

fields-later : (f : Field) (fs : Layout) (w : ℕ) (s : List ℕ) (p : ℕ) (v : Shown) (q : ℕ) → read_field f w s p ≡ got v q
    → refusal_of (read_fields (f ∷ fs) w s p) ≡ refusal_of (read_fields fs (word_after f v w) s q)
unfolding read_fields_by
fields-later f fs w s p v q e = rw e (carried _ (read_fields fs (word_after f v w) s q))

elements-here : (s : List ℕ) (c : ListCursor) → refusal_of (element_by (step_of s) 0 c) ≡ refusal_of (step_of s c)
unfolding element_by
elements-here s c = carried _ (step_of s c)

pub exactly-when : ExactlyWhen
exactly-when = record {
  fields = reading.fields;
  signed_fields = reading.signed-fields;
  optional_indices = reading.optional-indices;
  runs = reading.runs;
  strings = reading.strings;
  counted_strings = reading.counted-strings;
  paddings = reading.paddings;
  headers_1 = streams.headers-1;
  nexts_1 = streams.nexts-1;
  views_1 = streams.views-1;
  raw_kinds_1 = streams.raw-kinds-1;
  finds_1 = streams.finds-1;
  headers_2 = streams.headers-2;
  headers_3 = streams.headers-3;
  headers_4 = streams.headers-4;
  headers_5 = streams.headers-5;
  iterators = λ tag s. streams.iterators s tag;
  counts = streams.counts;
  empties = streams.empties;
  creations = streams.creations;
  nexts_6 = streams.nexts-6;
  nexts_7 = streams.nexts-7;
  finds_8 = streams.finds-8;
  primitives_8 = reading.primitives-8;
  views_8 = streams.views-8;
  finds_9 = streams.finds-9;
  records_10 = reading.records-10;
  members_10 = reading.members-10;
  type_lists_10 = reading.type-lists-10;
  id_lists_10 = reading.id-lists-10;
  numbers_11 = reading.numbers-11;
  sizes_11 = reading.sizes-11;
  kinds_12 = reading.kinds-12;
  modes_12 = reading.modes-12;
  members_12 = reading.members-12;
  references_12 = reading.references-12;
  sizes_12 = reading.sizes-12;
  pointers_12 = reading.pointers-12;
  creations_13 = streams.creations-13;
  updates_13 = streams.updates-13;
  finds_13 = streams.finds-13;
  updates_14 = streams.updates-14;
  counted_15 = reading.counted-15;
  methods_15 = reading.methods-15;
  members_15 = reading.members-15;
  arguments_15 = reading.arguments-15;
  build_arguments_15 = reading.build-arguments-15;
  substrings_15 = reading.substrings-15;
  headers_16 = streams.headers-16;
  nexts_16 = streams.nexts-16;
  views_16 = streams.views-16;
  raw_kinds_16 = streams.raw-kinds-16;
  entries_16 = entries-16;
  updates_16 = streams.updates-16;
  finds_16 = streams.finds-16;
  creations_26 = streams.creations-26;
  updates_26 = streams.updates-26;
  finds_26 = streams.finds-26;
  turns_next = turns_next;
  turns_update = turns-update;
  records_fields = records-fields;
  fields_first = fields-first;
  fields_later = fields-later;
  elements_here = elements-here;
  elements_before = λ s c k n d. element-refused (step_of s) c k n d;
  elements_later = λ s c k x. element-next (step_of s) c k x;
}
