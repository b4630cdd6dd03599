-- What makes five functions enough for C: they serve both streams, an update creates a finder, most updates can be left out, and the two numbers of a
-- primitive name it.
use Rattle.std.specs.Prelude.{Some, ℕ, ◌/◌, ◌%◌, ◌^◌, ◌<◌, List, ◌≡◌}
use Rattle.answer.specs.Answer.{answered}
use Rattle.answer.specs.Tables.{find}
use Rattle.stream_header.specs.Header.{header_of}
use Rattle.stream_header.specs.declared.Header.{Header}
use Rattle.field.specs.Indices.{index_in}
use Rattle.stream_item.specs.Iterator.{next_of}
use Rattle.field.specs.declared.index.Stream.TheVariants.{Types, Ids}
use Rattle.stream_item.specs.declared.iter.ItemIter.{ItemIter}
use Rattle.stream_finder.specs.Finder.{State, block_of, distance, create_by, update_of, after, find_of}
use Rattle.word_primitive.specs.Kinds.{kinds, indirections}
use Rattle.word_primitive.specs.Primitive.{primitive_of}
use Rattle.word_primitive.specs.declared.PrimitiveType.{PrimitiveType}
use Rattle.pane_state.specs.Given.{cursor_at, finder_at}
use Rattle.pane.specs.Out.{out_next, out_find}

pub record SameForC : Type 0 where
  -- of an id stream, `next` and `find` give C the same numbers
  pub next_of_ids : (s : List ℕ) (at i : ℕ) → out_next (next_of s (record { stream = Ids; at = at; index = i })) ≡ out_next (next_of s (cursor_at at i))
  pub find_of_ids : (s : List ℕ) (τ : State) (i : ℕ) → out_find (find_of s τ (index_in Ids i)) ≡ out_find (find_of s τ (index_in Types i))
  -- of a stream that counts a record, creation is the update of a finder that holds no place by the fresh cursor: the whole answer, 26 and 13 too
  pub creation : (shift : ℕ) (s : List ℕ) (h : Header) (t : List ℕ)
      → header_of s ≡ answered h
      → h.minimum_index < h.maximum_index
      → create_by shift s t ≡ update_of (finder_at h.minimum_index h.maximum_index 0 shift t) (cursor_at h.header_size h.minimum_index)
  -- an update by a cursor that does not stand at the start of a block leaves finder and table, so that C may leave it out
  pub idle : (σ : State) (c : ItemIter) → (distance σ.finder c.index % block_of σ.finder ≡ 0 → ⊥) → after σ (update_of σ c) ≡ σ
  -- the numbers behind `out` are those of the kind and of the indirection in 01's lists
  pub kind : (i : ℕ) (p : PrimitiveType) → primitive_of i ≡ answered p → find (i % 2 ^ 8) kinds ≡ Some p.kind
  pub indirection : (i : ℕ) (p : PrimitiveType) → primitive_of i ≡ answered p → find (i / 2 ^ 8 % 2 ^ 4) indirections ≡ Some p.indirection
