-- Demand 2: "the domain of equality is every stream on which the Rust neither panics, wraps nor aborts, an iterator being compared up to its first
-- refusal, and a finder where no update came from an iterator that had refused and its lent table never lacked room." On the left of each
-- statement stands the crate's function (Tpi*.antt), on the right the definition that the port's contracts cite, its values shown as the
-- crate's (Shown.antt, EntryShown.antt). `Same`: the crate neither panics nor wraps, and the answers are equal. `Equal`: they are equal wherever it
-- does not.
use Rattle.std.specs.Prelude.{Result, ℕ, ◌*◌, ◌≤◌, ◌<◌, Bool, List, [], ◌∷◌, map, ◌≡◌, length, slice_get, leb, eqb}
use Rattle.record_id.specs.declared.IdData.{IdData}
use Rattle.answer.specs.declared.Refusal.{Refusal}
use Rattle.answer.specs.Answer.{answered}
use Rattle.field.specs.declared.index.TypeIndex.{TypeIndex}
use Rattle.field.specs.declared.index.IdIndex.{IdIndex}
use Rattle.field.specs.Fields.{little_at}
use Rattle.field.specs.Indices.{no_type, no_id, optional_at, index_number}
use Rattle.field_text.specs.Texts.{string_of, padding_after}
use Rattle.word_primitive.specs.Primitive.{primitive_of}
use Rattle.word_attributes.specs.Bits.{bit, bits}
use Rattle.word_attributes.specs.Words.{method_property, introducing}
use Rattle.word_attributes.specs.Pointers.{kind_of, mode_of, to_member_of, reference_of, size_of}
use Rattle.stream_header.specs.Header.{longest, header_of}
use Rattle.stream_item.specs.Items.{index_of, length_of}
use Rattle.stream_item.specs.Iterator.{iter_of, next_of}
use Rattle.stream_view.specs.Views.{stream_named, raw_kind_of}
use Rattle.stream_item.specs.Information.{len_of, is_empty_of}
use Rattle.field.specs.declared.index.Stream.{Stream}
use Rattle.field.specs.declared.index.Stream.TheVariants as stream
use Rattle.field.specs.declared.index.ItemIndex.{ItemIndex}
use Rattle.field.specs.declared.index.ItemIndex.TheVariants as index
use Rattle.stream_item.specs.declared.Entry.{Entry}
use Rattle.stream_item.specs.declared.iter.ItemIter.{ItemIter}
use Rattle.stream_finder.specs.Finder.{State, block_of, create_of, update_of, max_index_of, find_of}
use Rattle.stream_finder.specs.Places.{Ready}
use Rattle.record_layout.specs.Layouts.{id_leaves, record_of}
use Rattle.record_parse.specs.Record.{parse_of}
use Rattle.record_list.specs.Lists.{element_of}
use Rattle.claim_model.specs.Rust.{gives, ◌>>=◌, usize_top}
use Rattle.claim_model.specs.ParseBuffer.{at, Bytes}
use Rattle.claim_model.specs.TpiHeader.{parse_information}
use Rattle.claim_model.specs.TpiItems.{iter, finder, next, update, max_index, finder_find, item_len, item_is_empty, raw_kind, information_len, information_is_empty}
use Rattle.claim_model.specs.TpiPrimitive.{type_data_for_primitive}
use Rattle.claim_model.specs.TpiWords.{packed, constructors, overloaded_operators, is_nested_type, contains_nested_types, overloaded_assignment, overloaded_casting, forward_reference, scoped_definition, has_unique_name, sealed, intrinsic_type, hfa, mocom, access, method_properties, is_static, is_virtual, is_pure_virtual, is_intro_virtual, calling_convention, cxx_return_udt, is_constructor, is_constructor_with_virtual_bases, is_flat_32, is_volatile, is_const, is_unaligned, is_restrict, is_mocom, pointer_kind, pointer_mode, pointer_to_member, pointer_is_reference, pointer_size}
use Rattle.claim_model.specs.TpiHelpers.{parse_optional_type_index, parse_optional_id_index, parse_string, parse_padding, is_cross_module}
use Rattle.claim_model.specs.TpiId.{parse_id}
use Rattle.claim_model.specs.Equal.{Equal, Same, Replaced, Excepted, Stepwise, shown_by}
use Rattle.claim_model.specs.Shown.{information, iter_shown, next_shown, finder_shown, entry_shown, unlinked, Roomy, CanStand, read_shown, text_shown, primitive_shown, id_shown, id_answer_shown, LiesIn}
use Rattle.claim_model.specs.EntryShown.{vec_of, as_element, as_id, primitive_parsed}
use Rattle.claim_model.specs.Turns.{Lent, TurnsEqual, TurnsSame}
use Rattle.claim_model.specs.Course.{CoursesEqual}
use Rattle.answer.specs.Refusals.{said}
use Rattle.record_id.specs.Said.{id_values}

-- these methods of a word give these bits of it, for every word
abbrev Flags : List (ℕ → Bool) → List ℕ → Type 0
Flags methods places = (w : ℕ) → map (λ (f : ℕ → Bool). f w) methods ≡ map (λ k. bit k w) places

pub record Demand2 : Type 0 where
  -- "Header": every field, the i32 offsets too, and every refusal, for every stream that is not over-long
  pub headers : (s : List ℕ) → length s ≤ longest → Same (parse_information s) (shown_by (information s) (header_of s))
  -- "The record count is maximum minus minimum"
  pub counts : (s : List ℕ) → Lent s → Same (◌>>=◌ (parse_information s) information_len) (len_of s)
  pub empties : (s : List ℕ) → Lent s → Same (◌>>=◌ (parse_information s) information_is_empty) (is_empty_of s)
  -- "Links and the iterator": a fresh iterator of a stream, and a step wherever one that has not refused can stand; where the crate's index wraps, 7
  pub starts : (tag : Stream) (s : List ℕ) → Lent s → Same (◌>>=◌ (parse_information s) iter) (shown_by (iter_shown s) (iter_of tag s))
  pub steps : (s : List ℕ) (c : ItemIter) → CanStand s c → Stepwise (next_shown s c) (next (iter_shown s c)) (next_of s c)
  -- an item's length and raw kind; "`raw_kind` of fewer than two bytes is 1", where the crate panics
  pub lengths : (s : List ℕ) (e : Entry) → LiesIn s e → item_len (entry_shown s e) ≡ length_of e
  pub none_long : (s : List ℕ) (e : Entry) → LiesIn s e → item_is_empty (entry_shown s e) ≡ eqb (length_of e) 0
  pub raw_kinds : (t p : List ℕ) → Lent t → Lent p → (e : Entry) → LiesIn (stream_named t p (index_of e)) e
      → Equal (raw_kind (entry_shown (stream_named t p (index_of e)) e)) (raw_kind_of t p e)
  -- "Finder": a fresh finder of a stream, whose shift is 3 in both; and `update`, `find` and `max_index` for any places held in a table that does not
  -- lack room, the crate's finder having the port's shift, from 0 to 6; the places fit a u32 times the block
  pub creations : (s t : List ℕ) → Lent s → Roomy (create_of s t) → Same (◌>>=◌ (parse_information s) finder) (shown_by (finder_shown s) (create_of s t))
  pub updates : (s : List ℕ) (σ : State) (c : ItemIter) → c.at ≤ longest → σ.finder.shift ≤ 6 → σ.finder.held ≤ length σ.table → Roomy (update_of σ c)
      → Equal (update (finder_shown s σ) (iter_shown s c)) (shown_by (finder_shown s) (update_of σ c))
  pub lookups : (s : List ℕ) (σ : State) → Ready s σ → σ.finder.held * block_of σ.finder < 4294967296 → (i : ItemIndex)
      → Equal (finder_find (finder_shown s σ) (index_number i)) (unlinked s (find_of s σ i))
  pub highest : (s : List ℕ) (σ : State) → σ.finder.shift ≤ 6 → σ.finder.held ≤ length σ.table → σ.finder.held * block_of σ.finder < 4294967296
      → Equal (max_index (finder_shown s σ)) (answered (max_index_of σ.finder))
  -- from the header to a lookup, n turns of `next` and `update` between; and how far the domain reaches: minimum + 8 (n + 1) below 2 ^ 32
  pub turns : TurnsEqual
  pub reach : TurnsSame
  -- as many iterators as one likes, stepping and updating in any order, each up to its own first refusal, then a lookup
  pub courses : CoursesEqual
  -- "Indices and primitives": every index below 0x1000; from there up the crate panics
  pub primitives : (i : ℕ) → i < 0x1000 → Same (type_data_for_primitive i) (shown_by primitive_shown (primitive_of i))
  pub every_primitive : (i : ℕ) → Equal (type_data_for_primitive i) (shown_by primitive_shown (primitive_of i))
  -- "An optional type index is none at 0 and 0xffff; an optional id index is none at 0 only": at any place
  pub optional_types : (s : List ℕ) (p : ℕ) → Same (parse_optional_type_index (at s p)) (shown_by (read_shown s) (optional_at no_type s p))
  pub optional_ids : (s : List ℕ) (p : ℕ) → Same (parse_optional_id_index (at s p)) (shown_by (read_shown s) (optional_at no_id s p))
  pub cross_modules : (i : ℕ) → i < 4294967296 → is_cross_module i ≡ leb 0x80000000 i
  -- "Attribute words": every method of the four words, for every word; "12 replaces `unreachable!()`". Document 02's R-2 excepts three answers, in
  -- which the port follows cvinfo.h and the crate's masks do not: `intrinsic_type` is bit 13, where the crate gives bit 12, the high one of hfa;
  -- `mocom` is bits 14 and 15, where the crate gives bit 14 alone; a pointer's `is_mocom` is bit 19, where the crate gives bit 18, the high one of
  -- its size
  pub type_flags : Flags
      (packed ∷ constructors ∷ overloaded_operators ∷ is_nested_type ∷ contains_nested_types ∷ overloaded_assignment ∷ overloaded_casting ∷ forward_reference ∷ scoped_definition ∷ has_unique_name ∷ sealed ∷ [])
      (0 ∷ 1 ∷ 2 ∷ 3 ∷ 4 ∷ 5 ∷ 6 ∷ 7 ∷ 8 ∷ 9 ∷ 10 ∷ [])
  pub intrinsic_excepted : Excepted intrinsic_type (bit 12) (bit 13) 0x1000
  pub hfas : (w : ℕ) → hfa w ≡ bits 11 12 w
  pub mocom_excepted : Excepted mocom (bits 14 14) (bits 14 15) 0x8000
  pub accesses : (w : ℕ) → access w ≡ bits 0 1 w
  pub method_fields : (w : ℕ) → method_properties w ≡ method_property w
  pub method_kinds : (w : ℕ)
      → map (λ (f : ℕ → Bool). f w) (is_static ∷ is_virtual ∷ is_pure_virtual ∷ is_intro_virtual ∷ [])
      ≡ eqb (method_property w) 2 ∷ eqb (method_property w) 1 ∷ eqb (method_property w) 5 ∷ introducing w ∷ []
  pub conventions : (w : ℕ) → calling_convention w ≡ bits 0 7 w
  pub function_flags : Flags (cxx_return_udt ∷ is_constructor ∷ is_constructor_with_virtual_bases ∷ []) (8 ∷ 9 ∷ 10 ∷ [])
  pub pointer_flags : Flags (is_flat_32 ∷ is_volatile ∷ is_const ∷ is_unaligned ∷ is_restrict ∷ []) (8 ∷ 9 ∷ 10 ∷ 11 ∷ 12 ∷ [])
  pub is_mocom_excepted : Excepted is_mocom (bit 18) (bit 19) 0x40000
  pub pointer_kinds : (w : ℕ) → Replaced (pointer_kind w) (kind_of w)
  pub pointer_modes : (w : ℕ) → Replaced (pointer_mode w) (mode_of w)
  pub members : (w : ℕ) → Replaced (pointer_to_member w) (to_member_of w)
  pub references : (w : ℕ) → Replaced (pointer_is_reference w) (reference_of w)
  pub pointer_sizes : (w : ℕ) → Replaced (pointer_size w) (size_of w)
  -- "Strings, padding": a string by its leaf and padding, at any place within the bytes
  pub strings : (s : List ℕ) → length s < usize_top → (p : ℕ) → p ≤ length s → (leaf : ℕ) → Same (parse_string leaf (at s p)) (shown_by (text_shown s) (string_of leaf s p))
  pub paddings : (s : List ℕ) → Bytes s → (p : ℕ) → p ≤ length s → Same (parse_padding (at s p)) (shown_by (at s) (padding_after s p))
  -- "Ids": all bytes of an id record, all seven leaves, and 10 with the leaf for every other; and what the port's `id_data` answers by its contract
  pub ids : (s : List ℕ) → length s < usize_top → Same (parse_id s) (shown_by (id_shown s) (record_of id_leaves s))
  pub id_data : (s : List ℕ) → length s < usize_top → (r : Result IdData Refusal) → said id_values r ≡ record_of id_leaves s → Same (parse_id s) (id_answer_shown s r)
  -- "A type item below 0x1000 is read as a primitive; .. every id item by its bytes, the marker's giving 10 with 0xffff"
  pub type_items : (t p : List ℕ) → Lent t → Lent p → (e : Entry) (j : TypeIndex) → index_of e ≡ index.Types j → j.0 < 0x1000
      → Same (type_data_for_primitive j.0) (primitive_parsed (parse_of t p e))
  pub id_items : (t p : List ℕ) → Lent t → Lent p → (e : Entry) (j : IdIndex) → index_of e ≡ index.Ids j → LiesIn p e
      → Same (parse_id (entry_shown p e).bytes) (as_id (entry_shown p e).bytes (parse_of t p e))
  -- "`Vec` lists become a place and a count, or the reader": element k of the two counted id lists is the crate's, 15 where its `Vec` has none
  pub build_arguments : (s : List ℕ) → little_at 2 s 0 ≡ 0x1603 → (k : ℕ) → Same (◌>>=◌ (parse_id s) λ d. gives (slice_get (vec_of d) k)) (as_element (element_of stream.Ids s k))
  pub substrings : (s : List ℕ) → little_at 2 s 0 ≡ 0x1604 → (k : ℕ) → Same (◌>>=◌ (parse_id s) λ d. gives (slice_get (vec_of d) k)) (as_element (element_of stream.Ids s k))
