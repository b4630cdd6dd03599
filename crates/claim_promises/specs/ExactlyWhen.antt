-- Document 01's table of numbers, column "Given exactly when": for each line, over the definitions that the contracts cite, when just that number
-- is given, and the values of its details. `Given n d a P` (Given.antt): a is refused by n exactly when P, and then with the details d.
--
-- Where a definition is another one carried on, its refusals are said to be that one's.
use Rattle.std.specs.Prelude.{None, Some, ℕ, ◌+◌, ◌-◌, ◌*◌, ◌/◌, ◌%◌, ◌^◌, ◌≤◌, ◌<◌, true, false, ◌≡◌, ◌⊎◌, List, [], ◌∷◌, ℤ, pos, negsuc, length, get_or}
use Rattle.answer.specs.Answer.{Answer, answered, refused, pick, Read, got}
use Rattle.answer.specs.Tables.{find, among}
use Rattle.field.specs.Fields.{little_at, fixed_at, signed_at}
use Rattle.field.specs.Indices.{optional_at, index_number}
use Rattle.field.specs.Runs.{bytes_after}
use Rattle.field_text.specs.Texts.{string_at, counted_string_at, more, padding_after}
use Rattle.field_number.specs.Numbers.{prefixes, numeric_at}
use Rattle.field_number.specs.Forms.{numeral_at, sized_at}
use Rattle.word_primitive.specs.Kinds.{kinds}
use Rattle.word_primitive.specs.Primitive.{primitive_of}
use Rattle.word_attributes.specs.Bits.{bits}
use Rattle.word_attributes.specs.Pointers.{kind_of, mode_of, to_member_of, reference_of, size_of}
use Rattle.stream_header.specs.Header.{longest, fields_of, header_of}
use Rattle.stream_header.specs.declared.Header.{Header}
use Rattle.stream_item.specs.Links.{link_of}
use Rattle.stream_item.specs.Iterator.{iter_of, yielded, next_of}
use Rattle.stream_item.specs.Information.{len_of, is_empty_of}
use Rattle.field.specs.declared.index.Stream.{Stream}
use Rattle.field.specs.declared.index.Stream.TheVariants as stream
use Rattle.stream_item.specs.declared.Item.{Item}
use Rattle.field.specs.declared.index.ItemIndex.{ItemIndex}
use Rattle.stream_item.specs.declared.Entry.{Entry}
use Rattle.stream_item.specs.declared.Entry.TheVariants as entry
use Rattle.stream_item.specs.declared.iter.ItemIter.{ItemIter}
use Rattle.stream_item.specs.declared.link.Hit.{Hit}
use Rattle.stream_item.specs.declared.link.Hit.TheVariants.{Landed, Missed}
use Rattle.stream_view.specs.Views.{stream_named, view_of, raw_kind_of}
use Rattle.stream_finder.specs.Finder.{State, block_of, create_by, update_of, max_index_of, find_of}
use Rattle.stream_index.specs.Walk.{turn_of}
use Rattle.record_layout.specs.Fields.{Field, word_after, read_field, read_fields, Shown}
use Rattle.record_layout.specs.Layouts.{Layout, Table, type_leaves, read_record, record_of}
use Rattle.record_list.specs.Lists.{start_of, Step, step_of, element_by, element_of}
use Rattle.record_list.specs.declared.ListCursor.{ListCursor}
use Rattle.record_parse.specs.Record.{parse_of}
use Rattle.claim_promises.specs.Given.{Given, refusal_of}

-- ---- words of the conditions

-- no zero byte stands at place p or after it
abbrev pub NoZero : List ℕ → ℕ → Type 0
NoZero s p = (k : ℕ) → p ≤ k → k < length s → get_or s k 0 ≡ 0 → ⊥

-- the padding at place p passes the end: its pad byte takes more bytes than there are, or a later one does
pub data PadsPast (s : List ℕ) : ℕ → Type 0 where
  short : {p : ℕ} → p < length s → 0xf0 ≤ get_or s p 0 → length s < p + (more (get_or s p 0) + 1) → PadsPast s p
  later : {p : ℕ} → 0xf0 ≤ get_or s p 0 → p + (more (get_or s p 0) + 1) ≤ length s → PadsPast s (p + (more (get_or s p 0) + 1)) → PadsPast s p

-- the length of the record at a cursor
abbrev pub length_at : List ℕ → ItemIter → ℕ
length_at s c = little_at 2 s c.at

-- both streams may be so long
abbrev pub Short : List ℕ → List ℕ → Type 0
Short t p = (length t ≤ longest) × (length p ≤ longest)

-- the stream may be so long, the finder's shift is at most 6, and it claims no more places than its table has
abbrev pub Usable : List ℕ → State → Type 0
Usable s σ = (length s ≤ longest) × (σ.finder.shift ≤ 6) × (σ.finder.held ≤ length σ.table)

-- the number n is one of the stream's indices
abbrev pub InBounds : State → ℕ → Type 0
InBounds σ n = (σ.finder.minimum_index ≤ n) × (n ≤ σ.finder.maximum_index)

-- d / 2^shift and d mod 2^shift, where d is how far n is above the minimum
abbrev pub block : State → ℕ → ℕ
block σ n = (n - σ.finder.minimum_index) / block_of σ.finder

abbrev pub links_skipped : State → ℕ → ℕ
links_skipped σ n = (n - σ.finder.minimum_index) % block_of σ.finder

-- the links that a lookup goes along
abbrev pub walked : List ℕ → State → ℕ → Hit
walked s σ n = link_of s (get_or σ.table (block σ n) 0) (links_skipped σ n)

abbrev pub LinkBreaks : Hit → Type 0
LinkBreaks (Landed p n) = ⊥
LinkBreaks (Missed j) = Unit {0}

abbrev pub broke_after : Hit → ℕ
broke_after (Landed p n) = 0
broke_after (Missed j) = j

-- a place must be stored: the cursor's index starts a block, and the finder holds just the places before it
abbrev pub Due : State → ItemIter → Type 0
Due σ c = (links_skipped σ c.index ≡ 0) × (block σ c.index ≡ σ.finder.held)

-- a number that was read is negative
abbrev pub Below : ℤ → Type 0
Below (pos n) = ⊥
Below (negsuc n) = Unit {0}

abbrev pub Negative : Read ℤ → Type 0
Negative (answered g) = Below g.value
Negative (refused n d) = ⊥

-- no byte is left at the next member's place, which is behind the padding after a member
abbrev pub NoMoreMembers : List ℕ → Answer ℕ → Type 0
NoMoreMembers s (answered q) = length s ≤ q
NoMoreMembers s (refused n d) = ⊥

abbrev pub AtEnd : List ℕ → ListCursor → Type 0
AtEnd s c = NoMoreMembers s (pick c.padded (padding_after s c.at) (answered c.at))

pub record ExactlyWhen : Type 0 where
  -- 1, ended: "a field, string, padding run or record passes the end of its bytes"
  pub fields : (k : ℕ) (s : List ℕ) (p : ℕ) → Given 1 [] (fixed_at k s p) (length s < p + k)
  pub signed_fields : (k : ℕ) (s : List ℕ) (p : ℕ) → Given 1 [] (signed_at k s p) (length s < p + k)
  pub optional_indices : (nones s : List ℕ) (p : ℕ) → Given 1 [] (optional_at nones s p) (length s < p + 4)
  pub runs : (n : ℕ) (s : List ℕ) (p : ℕ) → Given 1 [] (bytes_after n s p) (length s < p + n)
  pub strings : (s : List ℕ) (p : ℕ) → Given 1 [] (string_at s p) (NoZero s p)
  pub counted_strings : (s : List ℕ) (p : ℕ) → Given 1 [] (counted_string_at s p) (length s < p + 1 + little_at 1 s p)
  pub paddings : (s : List ℕ) (p : ℕ) → Given 1 [] (padding_after s p) ((length s < p) ⊎ PadsPast s p)
  -- a stream: neither empty nor 56 bytes long, or shorter than its good header_size
  pub headers_1 : (s : List ℕ) → Given 1 [] (header_of s)
      (((0 < length s) × (length s < 56))
      ⊎ ((56 ≤ length s) × (length s ≤ longest) × (56 ≤ (fields_of s).header_size) × ((fields_of s).header_size ≤ 1024) × (length s < (fields_of s).header_size)))
  -- a record: the cursor past the end, its length cut, or its payload cut where the length is not 0 or 1
  pub nexts_1 : (s : List ℕ) (c : ItemIter) → Given 1 [] (next_of s c)
      ((length s ≤ longest)
      × ((length s < c.at)
      ⊎ ((c.at < length s) × (length s < c.at + 2))
      ⊎ ((c.at + 2 ≤ length s) × (2 ≤ length_at s c) × (length s < c.at + 2 + length_at s c))))
  -- an item
  pub views_1 : (t p : List ℕ) (i : Item) → Given 1 [] (view_of t p (entry.Record i)) (Short t p × (length (stream_named t p i.index) < i.place + i.length))
  pub raw_kinds_1 : (t p : List ℕ) (i : Item) → Given 1 [] (raw_kind_of t p (entry.Record i))
      (Short t p × ((length (stream_named t p i.index) < i.place + i.length) ⊎ (i.length < 2)))
  -- from `find`, with the links passed
  pub finds_1 : (s : List ℕ) (σ : State) (i : ItemIndex) → Given 1 (broke_after (walked s σ (index_number i)) ∷ []) (find_of s σ i)
      (Usable s σ × InBounds σ (index_number i) × (block σ (index_number i) < σ.finder.held) × LinkBreaks (walked s σ (index_number i)))
  -- 2, header small; 3, header large; 4, minimum low; 5, maximum low
  pub headers_2 : (s : List ℕ) → Given 2 [] (header_of s) ((56 ≤ length s) × (length s ≤ longest) × ((fields_of s).header_size < 56))
  pub headers_3 : (s : List ℕ) → Given 3 [] (header_of s) ((56 ≤ length s) × (length s ≤ longest) × (1024 < (fields_of s).header_size))
  pub headers_4 : (s : List ℕ) → Given 4 [] (header_of s)
      ((56 ≤ length s) × (length s ≤ longest) × (56 ≤ (fields_of s).header_size) × ((fields_of s).header_size ≤ 1024) × ((fields_of s).header_size ≤ length s)
      × ((fields_of s).minimum_index < 4096))
  pub headers_5 : (s : List ℕ) → Given 5 [] (header_of s)
      ((56 ≤ length s) × (length s ≤ longest) × (56 ≤ (fields_of s).header_size) × ((fields_of s).header_size ≤ 1024) × ((fields_of s).header_size ≤ length s)
      × (4096 ≤ (fields_of s).minimum_index) × ((fields_of s).maximum_index < (fields_of s).minimum_index))
  -- "iterator and finder creation then the header's": what starts with the header is refused as the header is, and creation, by any shift, else by 26 or 13 only
  pub iterators : (tag : Stream) (s : List ℕ) → refusal_of (iter_of tag s) ≡ refusal_of (header_of s)
  pub counts : (s : List ℕ) → refusal_of (len_of s) ≡ refusal_of (header_of s)
  pub empties : (s : List ℕ) → refusal_of (is_empty_of s) ≡ refusal_of (header_of s)
  pub creations : (shift : ℕ) (s t : List ℕ) (n : ℕ) (d : List ℕ) → header_of s ≡ refused n d → create_by shift s t ≡ refused n d
  -- 6, too short: "`next` reads a length < 2"
  pub nexts_6 : (s : List ℕ) (c : ItemIter) → Given 6 [] (next_of s c) ((length s ≤ longest) × (c.at + 2 ≤ length s) × (length_at s c < 2))
  -- 7, indices used up: "a whole record is there, but the index is 4,294,967,295"
  pub nexts_7 : (s : List ℕ) (c : ItemIter) → Given 7 [] (next_of s c)
      ((length s ≤ longest) × (2 ≤ length_at s c) × (c.at + 2 + length_at s c ≤ length s) × (4294967295 ≤ c.index))
  -- 8, not found, with the index: "lookup above maximum_index; unknown primitive; the marker's view"
  pub finds_8 : (s : List ℕ) (σ : State) (i : ItemIndex) → Given 8 (index_number i ∷ []) (find_of s σ i)
      (Usable s σ × (σ.finder.minimum_index ≤ index_number i) × (σ.finder.maximum_index < index_number i))
  pub primitives_8 : (i : ℕ) → Given 8 (i ∷ []) (primitive_of i) ((0x1000 ≤ i) ⊎ (8 ≤ i / 2 ^ 8 % 2 ^ 4) ⊎ (find (i % 2 ^ 8) kinds ≡ None))
  pub views_8 : (t p : List ℕ) (i : ItemIndex) → Given 8 (index_number i ∷ []) (view_of t p (entry.Marker i)) (Short t p)
  -- 9, not indexed, with the index and the highest indexed: its block is no held place
  pub finds_9 : (s : List ℕ) (σ : State) (i : ItemIndex) → Given 9 (index_number i ∷ max_index_of σ.finder ∷ []) (find_of s σ i)
      (Usable s σ × InBounds σ (index_number i) × (σ.finder.held ≤ block σ (index_number i)))
  -- 10, leaf unknown, with the leaf: "leaf not among those this reader takes", of a record by any table, of a member, of a list
  pub records_10 : (table : Table) (s : List ℕ) → Given 10 (little_at 2 s 0 ∷ []) (record_of table s) ((2 ≤ length s) × (find (little_at 2 s 0) table ≡ None))
  pub members_10 : (table : Table) (s : List ℕ) (p : ℕ) → Given 10 (little_at 2 s p ∷ []) (read_record table s p) ((p + 2 ≤ length s) × (find (little_at 2 s p) table ≡ None))
  pub type_lists_10 : (s : List ℕ) → Given 10 (little_at 2 s 0 ∷ []) (start_of stream.Types s)
      ((2 ≤ length s) × (among (little_at 2 s 0) (0x1201 ∷ 0x1206 ∷ 0x1203 ∷ []) ≡ false))
  pub id_lists_10 : (s : List ℕ) → Given 10 (little_at 2 s 0 ∷ []) (start_of stream.Ids s) ((2 ≤ length s) × (among (little_at 2 s 0) (0x1603 ∷ 0x1604 ∷ []) ≡ false))
  -- 11, number bad: "numeric prefix unknown, or negative where a size or offset is wanted"
  pub numbers_11 : (s : List ℕ) (p : ℕ) → Given 11 [] (numeral_at s p) ((p + 2 ≤ length s) × (0x8000 ≤ little_at 2 s p) × (find (little_at 2 s p) prefixes ≡ None))
  pub sizes_11 : (s : List ℕ) (p : ℕ) → Given 11 [] (sized_at s p) ((numeric_at s p ≡ refused 11 []) ⊎ Negative (numeric_at s p))
  -- 12, pointer word: "kind 13 to 31 where the kind is needed, mode 5 to 7 where the mode is"
  pub kinds_12 : (w : ℕ) → Given 12 [] (kind_of w) (13 ≤ bits 0 4 w)
  pub modes_12 : (w : ℕ) → Given 12 [] (mode_of w) (5 ≤ bits 5 7 w)
  pub members_12 : (w : ℕ) → Given 12 [] (to_member_of w) (5 ≤ bits 5 7 w)
  pub references_12 : (w : ℕ) → Given 12 [] (reference_of w) (5 ≤ bits 5 7 w)
  pub sizes_12 : (w : ℕ) → Given 12 [] (size_of w) ((bits 13 18 w ≡ 0) × (13 ≤ bits 0 4 w))
  pub pointers_12 : (s : List ℕ) → little_at 2 s 0 ≡ 0x1002 → Given 12 [] (record_of type_leaves s)
      ((10 ≤ length s) × ((13 ≤ bits 0 4 (little_at 4 s 6)) ⊎ (5 ≤ bits 5 7 (little_at 4 s 6))))
  -- 13, table full: "a place must be stored and the lent table has none, or a finder claims more places than its table has"
  pub creations_13 : (shift : ℕ) (s t : List ℕ) (h : Header) → header_of s ≡ answered h
      → Given 13 [] (create_by shift s t) ((shift ≤ 6) × (h.minimum_index < h.maximum_index) × (length t ≡ 0))
  pub updates_13 : (σ : State) (c : ItemIter) → Given 13 [] (update_of σ c)
      ((c.at ≤ longest)
      × (σ.finder.shift ≤ 6)
      × ((length σ.table < σ.finder.held)
      ⊎ ((σ.finder.held ≡ length σ.table) × (σ.finder.minimum_index ≤ c.index) × Due σ c)))
  pub finds_13 : (s : List ℕ) (σ : State) (i : ItemIndex) → Given 13 [] (find_of s σ i) ((length s ≤ longest) × (σ.finder.shift ≤ 6) × (length σ.table < σ.finder.held))
  -- 14, foreign cursor: "update with an index below the minimum"
  pub updates_14 : (σ : State) (c : ItemIter) → Given 14 [] (update_of σ c)
      ((c.at ≤ longest) × (σ.finder.shift ≤ 6) × (σ.finder.held ≤ length σ.table) × (c.index < σ.finder.minimum_index))
  -- 15, no such element: none is left of a counted list; 0x1206 and 0x1203 are at the end, 0x1203 after its padding or a continuation
  pub counted_15 : (s : List ℕ) (c : ListCursor) → among c.leaf (0x1201 ∷ 0x1603 ∷ 0x1604 ∷ []) ≡ true → Given 15 [] (step_of s c) (c.left ≡ 0)
  pub methods_15 : (s : List ℕ) (c : ListCursor) → c.leaf ≡ 0x1206 → Given 15 [] (step_of s c) (length s ≤ c.at)
  pub members_15 : (s : List ℕ) (c : ListCursor) → c.leaf ≡ 0x1203 → Given 15 [] (step_of s c) ((c.left ≡ 0) ⊎ AtEnd s c)
  -- "element number at or past a list's count": of a counted record that is whole
  pub arguments_15 : (s : List ℕ) → little_at 2 s 0 ≡ 0x1201 → (k : ℕ) → Given 15 [] (element_of stream.Types s k) ((6 + 4 * little_at 4 s 2 ≤ length s) × (little_at 4 s 2 ≤ k))
  pub build_arguments_15 : (s : List ℕ) → little_at 2 s 0 ≡ 0x1603 → (k : ℕ) → Given 15 [] (element_of stream.Ids s k) ((4 + 4 * little_at 2 s 2 ≤ length s) × (little_at 2 s 2 ≤ k))
  pub substrings_15 : (s : List ℕ) → little_at 2 s 0 ≡ 0x1604 → (k : ℕ) → Given 15 [] (element_of stream.Ids s k) ((6 + 4 * little_at 4 s 2 ≤ length s) × (little_at 4 s 2 ≤ k))
  -- 16, too long: "stream, or updating cursor's position, over 4,294,967,294"
  pub headers_16 : (s : List ℕ) → Given 16 [] (header_of s) (longest < length s)
  pub nexts_16 : (s : List ℕ) (c : ItemIter) → Given 16 [] (next_of s c) (longest < length s)
  pub views_16 : (t p : List ℕ) (e : Entry) → Given 16 [] (view_of t p e) ((longest < length t) ⊎ (longest < length p))
  pub raw_kinds_16 : (t p : List ℕ) (e : Entry) → Given 16 [] (raw_kind_of t p e) ((longest < length t) ⊎ (longest < length p))
  pub entries_16 : (t p : List ℕ) (e : Entry) → Given 16 [] (parse_of t p e) ((longest < length t) ⊎ (longest < length p))
  pub updates_16 : (σ : State) (c : ItemIter) → Given 16 [] (update_of σ c) (longest < c.at)
  pub finds_16 : (s : List ℕ) (σ : State) (i : ItemIndex) → Given 16 [] (find_of s σ i) (longest < length s)
  -- 26, shift: "shift above 6, right before the first 13": of a creation whose header is accepted, of an update and of a lookup
  pub creations_26 : (shift : ℕ) (s t : List ℕ) (h : Header) → header_of s ≡ answered h → Given 26 [] (create_by shift s t) (6 < shift)
  pub updates_26 : (σ : State) (c : ItemIter) → Given 26 [] (update_of σ c) ((c.at ≤ longest) × (6 < σ.finder.shift))
  pub finds_26 : (s : List ℕ) (σ : State) (i : ItemIndex) → Given 26 [] (find_of s σ i) ((length s ≤ longest) × (6 < σ.finder.shift))
  -- What is made of several parts is refused as the first of them that is: a turn by its step, then by its update; a record by its leaf's fields; fields
  -- in their order; an element by the steps to it
  pub turns_next : (s : List ℕ) (σ : State) (c : ItemIter) (n : ℕ) (d : List ℕ) → next_of s c ≡ refused n d → turn_of s σ c ≡ refused n d
  pub turns_update : (s : List ℕ) (σ : State) (c : ItemIter) (i : Item) (c' : ItemIter) → next_of s c ≡ answered (yielded i c') → refusal_of (turn_of s σ c) ≡ refusal_of (update_of σ c')
  pub records_fields : (table : Table) (s : List ℕ) (fs : Layout) → 2 ≤ length s → find (little_at 2 s 0) table ≡ Some fs → refusal_of (record_of table s) ≡ refusal_of (read_fields fs 0 s 2)
  pub fields_first : (f : Field) (fs : Layout) (w : ℕ) (s : List ℕ) (p n : ℕ) (d : List ℕ) → read_field f w s p ≡ refused n d → read_fields (f ∷ fs) w s p ≡ refused n d
  pub fields_later : (f : Field) (fs : Layout) (w : ℕ) (s : List ℕ) (p : ℕ) (v : Shown) (q : ℕ) → read_field f w s p ≡ got v q
      → refusal_of (read_fields (f ∷ fs) w s p) ≡ refusal_of (read_fields fs (word_after f v w) s q)
  pub elements_here : (s : List ℕ) (c : ListCursor) → refusal_of (element_by (step_of s) 0 c) ≡ refusal_of (step_of s c)
  pub elements_before : (s : List ℕ) (c : ListCursor) (k n : ℕ) (d : List ℕ) → step_of s c ≡ refused n d → element_by (step_of s) k c ≡ refused n d
  pub elements_later : (s : List ℕ) (c : ListCursor) (k : ℕ) (x : Step) → step_of s c ≡ answered x → element_by (step_of s) (k + 1) c ≡ element_by (step_of s) k x.next
