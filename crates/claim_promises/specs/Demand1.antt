-- Demand 1: "Every byte string and every number is answered or refused by document 01's table. A refusal gives nothing but its number and named
-- detail, and all lent memory stays unchanged."
--
-- A contract is an equation between what an answer says and a definition, so what is said here of a definition holds of the function's answer.
-- `Refuses ns a`: a is an answer, or a refusal by one of the numbers ns, with as many details as the table gives that number (ByTable.antt).
-- Document 02 excepts one thing from it, the table of `drop` after 30 and 19: `drop_excepted`, the last field.
use Rattle.std.specs.Prelude.{Result, Err, Option, ℕ, true, false, ◌≡◌, List, [], ◌∷◌, length}
use Rattle.record_list.specs.declared.Element.{Element}
use Rattle.stream_report.specs.declared.Totals.{Totals}
use Rattle.answer.specs.Answer.{Answer, answered, refused}
use Rattle.answer.specs.Refusals.{number_of, details_of, no, listed, itself, said}
use Rattle.answer.specs.declared.Refusal.{Refusal}
use Rattle.field.specs.Fields.{fixed_at, signed_at}
use Rattle.field.specs.Indices.{optional_at}
use Rattle.field.specs.Runs.{bytes_after}
use Rattle.field_text.specs.Texts.{string_at, counted_string_at, string_of, padding_after}
use Rattle.field_number.specs.Forms.{numeral_at, sized_at}
use Rattle.word_primitive.specs.Primitive.{primitive_of}
use Rattle.word_attributes.specs.Pointers.{kind_of, mode_of, to_member_of, reference_of, size_of}
use Rattle.stream_header.specs.Header.{header_of}
use Rattle.stream_header.specs.declared.Header.{Header}
use Rattle.stream_item.specs.Iterator.{iter_of, next_of}
use Rattle.stream_view.specs.Views.{view_of, raw_kind_of}
use Rattle.stream_item.specs.Information.{len_of, is_empty_of}
use Rattle.field.specs.declared.index.Stream.{Stream}
use Rattle.field.specs.declared.index.Stream.TheVariants as stream
use Rattle.field.specs.declared.index.ItemIndex.{ItemIndex}
use Rattle.stream_item.specs.declared.Entry.{Entry}
use Rattle.stream_item.specs.declared.iter.ItemIter.{ItemIter}
use Rattle.stream_finder.specs.Finder.{State, state, begun_in, create_of, create_by, update_of, find_of, Fills}
use Rattle.stream_finder.specs.Lent.{Updates}
use Rattle.stream_finder.specs.declared.ItemFinder.{ItemFinder}
use Rattle.stream_finder.specs.declared.Records.{Records}
use Rattle.stream_index.specs.Walk.{said_turn, turn_of, Leads, Walks, IndexesBy}
use Rattle.stream_index.specs.declared.Tour.{Tour}
use Rattle.stream_fit.specs.Fit.{fit_of}
use Rattle.stream_places.specs.File.{trailer_of, trailer_of_either}
use Rattle.stream_places.specs.Places.{load_of, load_wide_of, save_of, save_wide_of, Saves}
use Rattle.field_put.specs.Bytes.{put, Octets}
use Rattle.stream_prune.specs.Links.{ComesPast}
use Rattle.stream_drop.specs.Drop.{drop_of, answer_of, Drops}
use Rattle.stream_drop.specs.Sentences.{OldToNew}
use Rattle.stream_report.specs.Report.{Report, add_of, Reports}
use Rattle.answer.specs.Tables.{among}
use Rattle.declare_type.specs.Nodes.{node_of, list_of}
use Rattle.declare_type.specs.declared.node.Node.TheVariants as node
use Rattle.declare_type.specs.Steps as declare
use Rattle.declare_type.specs.declared.step.Around.{Around}
use Rattle.declare_type.specs.declared.step.Step.TheVariants as step
use Rattle.declare_type.specs.Walk as declaring
use Rattle.declare_type.specs.Walk.{stopped, capped}
use Rattle.declare_type.specs.Declares.{declare_of, Declares}
use Rattle.record_layout.specs.Fields.{read_fields}
use Rattle.record_layout.specs.Layouts.{Table, type_leaves, member_leaves, method, id_leaves, read_record, record_of}
use Rattle.record_list.specs.Lists.{start_of, step_of, element_by, element_of}
use Rattle.record_list.specs.declared.ListCursor.{ListCursor}
use Rattle.record_reader.specs.Reader.{Steps}
use Rattle.record_parse.specs.Record.{parse_of}
use Rattle.write_layout.specs.Fields.{ToWrite}
use Rattle.write_layout.specs.Records.{record_bytes, limited, write_record}
use Rattle.write_layout.specs.Lists.{filled_each, field_list_bytes, method_list_bytes}
use Rattle.write_layout.specs.Buffer.{Written, lay, Writes}
use Rattle.write_pieces.specs.Pieces.{pieces_of}
use Rattle.write_pieces.specs.declared.Piece.{Piece}
use Rattle.write_header.specs.Headers.{header_bytes}
use Rattle.claim_promises.specs.ByTable.{Refuses, FindRefuses}
use Rattle.record_list.specs.Said.{element_values}

-- a refusal by one of these numbers
abbrev pub OneOf : List ℕ → Refusal → Type 0
OneOf ns e = among (number_of e) ns ≡ true

-- What the table of `drop` holds after 30 and 19: t' is t but for its first entries, which are old to new by every sentence of 02 on it (OldToNew), of
-- the stream whose header is h and whose walk by `next` comes past the payloads ps
pub record HoldsOldToNew (s roots t t' : List ℕ) : Type 0 where
  pub entries : List ℕ
  pub table : t' ≡ put t 0 entries
  pub old_to_new : (h : Header) (c : ItemIter) (ps : List (List ℕ)) → Octets s → header_of s ≡ answered h → iter_of stream.Types s ≡ answered c → ComesPast s c ps → OldToNew roots h ps entries

pub record Demand1 : Type 0 where
  -- "Numbers a caller gets back": every case of the enum `Refusal`, which is all that a refused answer holds, is a line of the table
  pub table : (e : Refusal) → listed (number_of e) (details_of e) ≡ true
  -- ---- every byte string and every number is answered, or refused by these numbers

  -- fields at any place, over the width; strings, padding and numeric leaves
  pub fields : (k : ℕ) (s : List ℕ) (p : ℕ) → Refuses (1 ∷ []) (fixed_at k s p)
  pub signed_fields : (k : ℕ) (s : List ℕ) (p : ℕ) → Refuses (1 ∷ []) (signed_at k s p)
  pub optional_indices : (nones s : List ℕ) (p : ℕ) → Refuses (1 ∷ []) (optional_at nones s p)
  pub strings : (s : List ℕ) (p : ℕ) → Refuses (1 ∷ []) (string_at s p)
  pub counted_strings : (s : List ℕ) (p : ℕ) → Refuses (1 ∷ []) (counted_string_at s p)
  pub strings_by_leaf : (leaf : ℕ) (s : List ℕ) (p : ℕ) → Refuses (1 ∷ []) (string_of leaf s p)
  pub runs : (n : ℕ) (s : List ℕ) (p : ℕ) → Refuses (1 ∷ []) (bytes_after n s p)
  pub paddings : (s : List ℕ) (p : ℕ) → Refuses (1 ∷ []) (padding_after s p)
  pub numbers : (s : List ℕ) (p : ℕ) → Refuses (1 ∷ 11 ∷ []) (numeral_at s p)
  pub sizes : (s : List ℕ) (p : ℕ) → Refuses (1 ∷ 11 ∷ []) (sized_at s p)
  -- primitives, and what a pointer word answers
  pub primitives : (i : ℕ) → Refuses (8 ∷ []) (primitive_of i)
  pub pointer_kinds : (w : ℕ) → Refuses (12 ∷ []) (kind_of w)
  pub pointer_modes : (w : ℕ) → Refuses (12 ∷ []) (mode_of w)
  pub pointers_to_members : (w : ℕ) → Refuses (12 ∷ []) (to_member_of w)
  pub references : (w : ℕ) → Refuses (12 ∷ []) (reference_of w)
  pub pointer_sizes : (w : ℕ) → Refuses (12 ∷ []) (size_of w)
  -- streams: header, count, iterator; items: view and raw kind
  pub headers : (s : List ℕ) → Refuses (16 ∷ 1 ∷ 2 ∷ 3 ∷ 4 ∷ 5 ∷ []) (header_of s)
  pub counts : (s : List ℕ) → Refuses (16 ∷ 1 ∷ 2 ∷ 3 ∷ 4 ∷ 5 ∷ []) (len_of s)
  pub empties : (s : List ℕ) → Refuses (16 ∷ 1 ∷ 2 ∷ 3 ∷ 4 ∷ 5 ∷ []) (is_empty_of s)
  pub iterators : (tag : Stream) (s : List ℕ) → Refuses (16 ∷ 1 ∷ 2 ∷ 3 ∷ 4 ∷ 5 ∷ []) (iter_of tag s)
  pub nexts : (s : List ℕ) (c : ItemIter) → Refuses (16 ∷ 1 ∷ 6 ∷ 7 ∷ []) (next_of s c)
  pub views : (t p : List ℕ) (e : Entry) → Refuses (16 ∷ 1 ∷ 8 ∷ []) (view_of t p e)
  pub raw_kinds : (t p : List ℕ) (e : Entry) → Refuses (16 ∷ 1 ∷ []) (raw_kind_of t p e)
  -- the finder, by its own shift, which `create` makes 3; 1 has links passed from `find` only
  pub creations : (s t : List ℕ) → Refuses (16 ∷ 1 ∷ 2 ∷ 3 ∷ 4 ∷ 5 ∷ 13 ∷ []) (create_of s t)
  pub creations_by : (shift : ℕ) (s t : List ℕ) → Refuses (16 ∷ 1 ∷ 2 ∷ 3 ∷ 4 ∷ 5 ∷ 26 ∷ 13 ∷ []) (create_by shift s t)
  pub beginnings : (shift : ℕ) (t : List ℕ) (r : Records) → Refuses (26 ∷ 13 ∷ []) (begun_in shift t r)
  pub updates : (σ : State) (c : ItemIter) → Refuses (16 ∷ 26 ∷ 13 ∷ 14 ∷ []) (update_of σ c)
  pub finds : (s : List ℕ) (σ : State) (i : ItemIndex) → FindRefuses (16 ∷ 26 ∷ 13 ∷ 8 ∷ 9 ∷ 1 ∷ []) (find_of s σ i)
  pub turns : (s : List ℕ) (σ : State) (c : ItemIter) → Refuses (16 ∷ 1 ∷ 6 ∷ 7 ∷ 26 ∷ 13 ∷ 14 ∷ []) (turn_of s σ c)
  -- document 02, R-9: the check of a stream; yes and no are answers
  pub fits : (s : List ℕ) → Refuses (16 ∷ 1 ∷ 2 ∷ 3 ∷ 4 ∷ 5 ∷ []) (fit_of s)
  -- document 02, R-3: a places file's trailer, its loading for a stream, and the writer
  pub trailers : (f : List ℕ) → Refuses (20 ∷ []) (trailer_of f)
  pub loads : (s f t : List ℕ) → Refuses (16 ∷ 1 ∷ 2 ∷ 3 ∷ 4 ∷ 5 ∷ 20 ∷ 21 ∷ 13 ∷ 22 ∷ []) (load_of s f t)
  pub saves : (s : List ℕ) (σ : State) (room : ℕ) → Refuses (16 ∷ 1 ∷ 2 ∷ 3 ∷ 4 ∷ 5 ∷ 21 ∷ 26 ∷ 13 ∷ 19 ∷ []) (save_of s σ room)
  -- R-10: the same of either form
  pub wide_trailers : (f : List ℕ) → Refuses (20 ∷ []) (trailer_of_either f)
  pub wide_loads : (s f t : List ℕ) → Refuses (16 ∷ 1 ∷ 2 ∷ 3 ∷ 4 ∷ 5 ∷ 20 ∷ 21 ∷ 13 ∷ 22 ∷ []) (load_wide_of s f t)
  pub wide_saves : (s : List ℕ) (σ : State) (room : ℕ) → Refuses (16 ∷ 1 ∷ 2 ∷ 3 ∷ 4 ∷ 5 ∷ 21 ∷ 26 ∷ 13 ∷ 19 ∷ []) (save_wide_of s σ room)
  -- R-12: an addition to a report; a stream that is refused is answered
  pub additions : (ρ : Report) (s : List ℕ) → Refuses (27 ∷ 28 ∷ []) (add_of ρ s)
  -- document 02, R-13: the stream of the records that some roots reach. 8 has the first root at or above the maximum
  pub drops : (s roots : List ℕ) (places room : ℕ) → Refuses (16 ∷ 1 ∷ 2 ∷ 3 ∷ 4 ∷ 5 ∷ 29 ∷ 8 ∷ 13 ∷ 30 ∷ 19 ∷ []) (answer_of (drop_of s roots places room))
  -- document 02, R-5: a declaration. 1 has the lookup's links passed, or none where a reader gives it; never 10, since each leaf that is read is known
  pub declares : (s : List ℕ) (σ : State) (i room n : ℕ) (d : List ℕ) → declare_of s σ i room ≡ refused n d
      → (among n (19 ∷ 16 ∷ 26 ∷ 13 ∷ 8 ∷ 9 ∷ 1 ∷ 11 ∷ 12 ∷ 23 ∷ 24 ∷ []) ≡ true) × (listed n d ≡ true)
  -- and its parts: what a type and an argument list are, what a type adds, the walk with any number of types left to nest, and that walk in a room. That
  -- each is one of these is all there is to say: every refusal is a line of the table, by `table`
  pub nodes : (s : List ℕ) (σ : State) (i : ℕ) (e : Refusal) → node_of s σ i ≡ node.Refused e → OneOf (16 ∷ 26 ∷ 13 ∷ 8 ∷ 9 ∷ 1 ∷ 11 ∷ 12 ∷ 24 ∷ []) e
  pub argument_lists : (s : List ℕ) (σ : State) (i : ℕ) (e : Refusal) → list_of s σ i ≡ Err e → OneOf (16 ∷ 26 ∷ 13 ∷ 8 ∷ 9 ∷ 1 ∷ 11 ∷ 12 ∷ 24 ∷ []) e
  pub declaration_steps : (s : List ℕ) (σ : State) (i : ℕ) (a : Around) (e : Refusal) → declare.inward_step s σ i a ≡ step.Refused e
      → OneOf (16 ∷ 26 ∷ 13 ∷ 8 ∷ 9 ∷ 1 ∷ 11 ∷ 12 ∷ 24 ∷ []) e
  pub declaration_walks : (s : List ℕ) (σ : State) (left i : ℕ) (a : Around) (k : ℕ) (e : Refusal) → declaring.walk s σ left i a ≡ stopped k e
      → OneOf (16 ∷ 26 ∷ 13 ∷ 8 ∷ 9 ∷ 1 ∷ 11 ∷ 12 ∷ 23 ∷ 24 ∷ []) e
  pub declarators : (room : ℕ) (s : List ℕ) (σ : State) (left i : ℕ) (a : Around) (e : Refusal) → capped room (declaring.walk s σ left i a) ≡ Err e
      → OneOf (19 ∷ 16 ∷ 26 ∷ 13 ∷ 8 ∷ 9 ∷ 1 ∷ 11 ∷ 12 ∷ 23 ∷ 24 ∷ []) e
  -- records, members, methods, and entries of a stream
  pub types : (s : List ℕ) → Refuses (1 ∷ 10 ∷ 11 ∷ 12 ∷ []) (record_of type_leaves s)
  pub ids : (s : List ℕ) → Refuses (1 ∷ 10 ∷ []) (record_of id_leaves s)
  pub members : (s : List ℕ) (p : ℕ) → Refuses (1 ∷ 10 ∷ 11 ∷ []) (read_record member_leaves s p)
  pub methods : (s : List ℕ) (p : ℕ) → Refuses (1 ∷ []) (read_fields method 0 s p)
  pub entries : (t s : List ℕ) (e : Entry) → Refuses (16 ∷ 1 ∷ 8 ∷ 10 ∷ 11 ∷ 12 ∷ []) (parse_of t s e)
  -- lists: where they start, a step from any cursor, element k from any cursor, element k of a record; of an id record never 11
  pub starts : (tag : Stream) (s : List ℕ) → Refuses (1 ∷ 10 ∷ []) (start_of tag s)
  pub steps : (s : List ℕ) (c : ListCursor) → Refuses (15 ∷ 1 ∷ 10 ∷ 11 ∷ []) (step_of s c)
  pub elements_on : (s : List ℕ) (k : ℕ) (c : ListCursor) → Refuses (15 ∷ 1 ∷ 10 ∷ 11 ∷ []) (element_by (step_of s) k c)
  pub elements : (tag : Stream) (s : List ℕ) (k : ℕ) → Refuses (15 ∷ 1 ∷ 10 ∷ 11 ∷ []) (element_of tag s k)
  pub id_elements : (s : List ℕ) (k : ℕ) → Refuses (15 ∷ 1 ∷ 10 ∷ []) (element_of stream.Ids s k)
  -- document 02, R-1: a header, a record of any table, types and ids among them, and the two lists with their elements, at a place of a buffer
  pub headers_written : (h : Header) (o : List ℕ) (p : ℕ) → Refuses (2 ∷ 3 ∷ 4 ∷ 5 ∷ 19 ∷ []) (lay (header_bytes h) o p)
  pub records_written : (table : Table) (vs : List ToWrite) (o : List ℕ) (p : ℕ) → Refuses (17 ∷ 18 ∷ 19 ∷ []) (lay (write_record table vs) o p)
  pub field_lists_written : (vss : List (List ToWrite)) (o : List ℕ) (p : ℕ) → Refuses (17 ∷ 18 ∷ 19 ∷ []) (lay (field_list_bytes vss) o p)
  pub method_lists_written : (vss : List (List ToWrite)) (o : List ℕ) (p : ℕ) → Refuses (17 ∷ 18 ∷ 19 ∷ []) (lay (method_list_bytes vss) o p)
  -- and the pieces that they are made of: measured; written as they are, filled, and as a record
  pub pieces : (t : List ℕ) (xs : List Piece) → Refuses (17 ∷ []) (pieces_of t xs)
  pub pieces_written : (t : List ℕ) (xs : List Piece) (o : List ℕ) (p : ℕ) → Refuses (17 ∷ 18 ∷ 19 ∷ []) (lay (limited (pieces_of t xs)) o p)
  pub pieces_filled : (t : List ℕ) (xs : List Piece) (o : List ℕ) (p : ℕ) → Refuses (17 ∷ 18 ∷ 19 ∷ []) (lay (limited (filled_each (pieces_of t xs))) o p)
  pub pieces_recorded : (t : List ℕ) (xs : List Piece) (o : List ℕ) (p : ℕ) → Refuses (17 ∷ 18 ∷ 19 ∷ []) (lay (record_bytes (pieces_of t xs)) o p)
  -- ---- "all lent memory stays unchanged": where the function's answer r is a refusal, what was lent is after the call what it was before

  -- the table, lent to creation with any shift, to `update` by value, to a turn and to a walk
  pub create_keeps : (shift : ℕ) (s t : List ℕ) (r : Result ItemFinder Refusal) (t' : List ℕ) (n : ℕ) (d : List ℕ) → Fills t (create_by shift s t) r t' → said itself r ≡ refused n d → t' ≡ t
  pub begin_keeps : (shift : ℕ) (t : List ℕ) (records : Records) (r : Result ItemFinder Refusal) (t' : List ℕ) (n : ℕ) (d : List ℕ) → Fills t (begun_in shift t records) r t' → said itself r ≡ refused n d → t' ≡ t
  pub update_keeps : (f : ItemFinder) (t : List ℕ) (c : ItemIter) (r : Result ItemFinder Refusal) (t' : List ℕ) (n : ℕ) (d : List ℕ)
      → Fills t (update_of (state f t) c) r t' → said itself r ≡ refused n d → t' ≡ t
  -- the table, lent to `load`, and the buffer, lent to `save`
  pub load_keeps : (s f t : List ℕ) (r : Result ItemFinder Refusal) (t' : List ℕ) (n : ℕ) (d : List ℕ) → Fills t (load_of s f t) r t' → said itself r ≡ refused n d → t' ≡ t
  pub save_keeps : (s : List ℕ) (σ : State) (o : List ℕ) (r : Result ℕ Refusal) (o' : List ℕ) (n : ℕ) (d : List ℕ)
      → Saves o (save_of s σ (length o)) r o' → said itself r ≡ refused n d → o' ≡ o
  pub wide_load_keeps : (s f t : List ℕ) (r : Result ItemFinder Refusal) (t' : List ℕ) (n : ℕ) (d : List ℕ) → Fills t (load_wide_of s f t) r t' → said itself r ≡ refused n d → t' ≡ t
  pub wide_save_keeps : (s : List ℕ) (σ : State) (o : List ℕ) (r : Result ℕ Refusal) (o' : List ℕ) (n : ℕ) (d : List ℕ)
      → Saves o (save_wide_of s σ (length o)) r o' → said itself r ≡ refused n d → o' ≡ o
  -- the table, lent to `add`
  pub add_keeps : (ρ : Report) (s t : List ℕ) (r : Result Totals Refusal) (t' : List ℕ) (n : ℕ) (d : List ℕ) → Reports t (add_of ρ s) r t' → said itself r ≡ refused n d → t' ≡ t
  -- the buffer, lent to any writer: w is what its definition answers
  pub write_keeps : (o : List ℕ) (w : Answer Written) (r : Result ℕ Refusal) (o' : List ℕ) (n : ℕ) (d : List ℕ) → Writes o w (said itself r) o' → said itself r ≡ refused n d → o' ≡ o
  -- the buffer, lent to `declare`
  pub declare_keeps : (s : List ℕ) (σ : State) (i : ℕ) (o : List ℕ) (r : Result ℕ Refusal) (o' : List ℕ) (n : ℕ) (d : List ℕ)
      → Declares (declare_of s σ i (length o)) o r o' → said itself r ≡ refused n d → o' ≡ o
  pub turn_keeps : (s : List ℕ) (f : ItemFinder) (t : List ℕ) (c : ItemIter) (r : Result (Option (ItemFinder × ItemIter)) Refusal) (t' : List ℕ) (n : ℕ) (d : List ℕ)
      → Leads t (turn_of s (state f t) c) r t' → said_turn r t' ≡ refused n d → t' ≡ t
  pub index_all_keeps : (shift : ℕ) (tag : Stream) (s t : List ℕ) (e : Refusal) (t' : List ℕ) → IndexesBy shift tag s t (Err e) t' → t' ≡ t
  -- a walk that ends in a refusal is answered, and says so: the turns before it have stored their places, and the turn that was refused has changed
  -- nothing. It is the next turn from where the walk stands, and can be tried again, with a longer table for example
  pub index_on_keeps : (s : List ℕ) (f : ItemFinder) (t : List ℕ) (c : ItemIter) (r : Tour) (t' : List ℕ) (e : Refusal)
      → Walks s c (state f t) r t' → r.end ≡ Err e → turn_of s (state r.finder t') r.cursor ≡ no e
  -- finder and table, lent to `update` in place
  pub lent_update_keeps : (σ : State) (c : ItemIter) (r : Result Unit Refusal) (τ : State) (n : ℕ) (d : List ℕ) → Updates σ c r τ → said itself r ≡ refused n d → τ ≡ σ
  -- the list reader, lent to its step: its bytes stay by the contract itself
  pub step_keeps : (s : List ℕ) (c : ListCursor) (r : Result Element Refusal) (c' : ListCursor) (n : ℕ) (d : List ℕ) → Steps c (step_of s c) r c' → said element_values r ≡ refused n d → c' ≡ c
  -- the buffer, lent to `drop`; and the table, after every refusal but two
  pub drop_keeps_buffer : (s roots t b : List ℕ) (r : Result ℕ Refusal) (t' b' : List ℕ) (n : ℕ) (d : List ℕ)
      → Drops t b (drop_of s roots (length t) (length b)) r t' b' → said itself r ≡ refused n d → b' ≡ b
  pub drop_keeps_table : (s roots t b : List ℕ) (r : Result ℕ Refusal) (t' b' : List ℕ) (n : ℕ) (d : List ℕ)
      → Drops t b (drop_of s roots (length t) (length b)) r t' b' → said itself r ≡ refused n d → among n (30 ∷ 19 ∷ []) ≡ false → t' ≡ t
  -- ---- the one exception. Document 02, R-13: "the output is unchanged, the table too except after 30 and 19, when it holds old to new (demand 1 excepts
  -- this)". After these two the table's first entries hold old to new, and the rest of it is as it was

  pub drop_excepted : (s roots t b : List ℕ) (r : Result ℕ Refusal) (t' b' : List ℕ) (n : ℕ) (d : List ℕ)
      → Drops t b (drop_of s roots (length t) (length b)) r t' b' → said itself r ≡ refused n d → among n (30 ∷ 19 ∷ []) ≡ true → HoldsOldToNew s roots t t'
