-- "Given exactly when" of a stream's entries: what one says, its view, its raw kind, and a turn. "A type item below 0x1000 is read as a primitive; any
-- other type item, and every id item, by its bytes, the marker's giving 10 with 0xffff." When each is 16 is said in ExactlyWhen.antt.
-- `Given n d a P` (Given.antt): a is refused by n exactly when P, and then with the details d; where P is ⊥, it is never refused by n.
use Rattle.std.specs.Prelude.{None, ℕ, ◌+◌, ◌/◌, ◌%◌, ◌^◌, ◌≤◌, ◌<◌, ◌≡◌, ◌⊎◌, List, [], ◌∷◌, length}
use Rattle.answer.specs.Answer.{answered}
use Rattle.answer.specs.Tables.{find}
use Rattle.field.specs.Fields.{little_at}
use Rattle.field.specs.Indices.{index_number}
use Rattle.field.specs.declared.index.ItemIndex.{ItemIndex}
use Rattle.field.specs.declared.index.ItemIndex.TheVariants as index
use Rattle.word_primitive.specs.Kinds.{kinds}
use Rattle.stream_item.specs.Items.{index_of}
use Rattle.stream_item.specs.Iterator.{done, next_of}
use Rattle.stream_item.specs.declared.Item.{Item}
use Rattle.stream_item.specs.declared.Entry.{Entry}
use Rattle.stream_item.specs.declared.Entry.TheVariants as entry
use Rattle.stream_item.specs.declared.iter.ItemIter.{ItemIter}
use Rattle.stream_view.specs.Views.{stream_named, view_of, raw_kind_of}
use Rattle.stream_finder.specs.Finder.{State}
use Rattle.stream_index.specs.Walk.{over, turn_of}
use Rattle.record_layout.specs.Layouts.{Table, type_leaves, id_leaves}
use Rattle.record_parse.specs.Record.{payload_at, parse_of}
use Rattle.section_read.specs.Readers.{sorted_of, read_of}
use Rattle.claim_promises.specs.Given.{Given}
use Rattle.claim_promises.specs.ExactlyWhen.{Short}
use Rattle.claim_promises.specs.RecordsWhen.{CutField, BadField, FailingField, AtLeaf}

-- ---- words of the conditions, over the TPI stream t and the IPI stream p

-- an index that is read as a primitive; and one that is none
abbrev pub OfNumber : ItemIndex → Type 0
OfNumber (index.Types i) = i.0 < 0x1000
OfNumber (index.Ids i) = ⊥

abbrev pub NoPrimitive : ℕ → Type 0
NoPrimitive i = (0x1000 ≤ i) ⊎ (8 ≤ i / 2 ^ 8 % 2 ^ 4) ⊎ (find (i % 2 ^ 8) kinds ≡ None)

-- the leaves that an item's reader takes, by its stream, and the bytes that it reads
abbrev pub leaves_for : ItemIndex → Table
leaves_for (index.Types i) = type_leaves
leaves_for (index.Ids i) = id_leaves

abbrev pub payload : List ℕ → List ℕ → Item → List ℕ
payload t p i = payload_at (stream_named t p i.index) i.place i.length

-- it is read by its bytes, and they are all in its stream
abbrev pub Whole : List ℕ → List ℕ → Item → Type 0
Whole t p i = (OfNumber i.index → ⊥) × (i.place + i.length ≤ length (stream_named t p i.index))

pub record EntriesWhen : Type 0 where
  -- an item, 1: it passes the end of its stream, or its record passes the end of the item
  pub items_1 : (t p : List ℕ) (i : Item) → Given 1 [] (parse_of t p (entry.Record i))
      (Short t p
      × (((OfNumber i.index → ⊥) × (length (stream_named t p i.index) < i.place + i.length))
      ⊎ (Whole t p i × ((length (payload t p i) < 2) ⊎ AtLeaf CutField (leaves_for i.index) (payload t p i) 0))))
  -- 10, with the leaf; 11; 12
  pub items_10 : (t p : List ℕ) (i : Item) → Given 10 (little_at 2 (payload t p i) 0 ∷ []) (parse_of t p (entry.Record i))
      (Short t p × (Whole t p i × ((2 ≤ length (payload t p i)) × (find (little_at 2 (payload t p i) 0) (leaves_for i.index) ≡ None))))
  pub items_11 : (t p : List ℕ) (i : Item) → Given 11 [] (parse_of t p (entry.Record i)) (Short t p × (Whole t p i × AtLeaf BadField (leaves_for i.index) (payload t p i) 0))
  pub items_12 : (t p : List ℕ) (i : Item) → Given 12 [] (parse_of t p (entry.Record i)) (Short t p × (Whole t p i × AtLeaf FailingField (leaves_for i.index) (payload t p i) 0))
  -- 8 of an item and of the marker, with the index: it is to be a primitive and is none
  pub entries_8 : (t p : List ℕ) (e : Entry) → Given 8 (index_number (index_of e) ∷ []) (parse_of t p e) (Short t p × (OfNumber (index_of e) × NoPrimitive (index_number (index_of e))))
  -- the marker: 10 with 0xffff unless it is to be a primitive, and never 1, 11 or 12
  pub markers_10 : (t p : List ℕ) (i : ItemIndex) → Given 10 (0xffff ∷ []) (parse_of t p (entry.Marker i)) (Short t p × (OfNumber i → ⊥))
  pub markers_1 : (t p : List ℕ) (i : ItemIndex) → Given 1 [] (parse_of t p (entry.Marker i)) ⊥
  pub markers_11 : (t p : List ℕ) (i : ItemIndex) → Given 11 [] (parse_of t p (entry.Marker i)) ⊥
  pub markers_12 : (t p : List ℕ) (i : ItemIndex) → Given 12 [] (parse_of t p (entry.Marker i)) ⊥
  -- an entry of a section, both streams of which are the section: under the tag of the reader that takes its leaf
  pub section_entries : (s : List ℕ) (e : Entry) → read_of s e ≡ parse_of s s (sorted_of s e)
  -- the view: 8 is the marker's alone, 1 a record's; and `raw_kind` of the marker is 0xffff
  pub item_views_8 : (t p : List ℕ) (i : Item) → Given 8 (index_number i.index ∷ []) (view_of t p (entry.Record i)) ⊥
  pub marker_views_1 : (t p : List ℕ) (i : ItemIndex) → Given 1 [] (view_of t p (entry.Marker i)) ⊥
  pub marker_kinds_1 : (t p : List ℕ) (i : ItemIndex) → Given 1 [] (raw_kind_of t p (entry.Marker i)) ⊥
  pub marker_kinds : (t p : List ℕ) (i : ItemIndex) → Short t p → raw_kind_of t p (entry.Marker i) ≡ answered 0xffff
  -- a turn where no record is left is over: no update refuses it
  pub turns_done : (s : List ℕ) (σ : State) (c : ItemIter) → next_of s c ≡ answered done → turn_of s σ c ≡ answered over
