-- Document 01, "Examples": those marked P, together as one statement over their list, of the definitions that the contracts cite.
-- `map asked examples ≡ map given examples` says that every line holds; proofs/Examples.antt shows it.
use Rattle.std.specs.Prelude.{ℕ, zero, suc, ◌+◌, List, [], ◌∷◌, take}
use Rattle.answer.specs.Answer.{Answer, answered, refused, then}
use Rattle.field_text.specs.Texts.{padding_after}
use Rattle.word_primitive.specs.Primitive.{primitive_of}
use Rattle.word_primitive.specs.declared.PrimitiveKind.{PrimitiveKind}
use Rattle.word_primitive.specs.declared.PrimitiveKind.TheVariants.{I32}
use Rattle.word_primitive.specs.declared.Indirection.{Indirection}
use Rattle.word_primitive.specs.declared.Indirection.TheVariants.{Near64}
use Rattle.word_attributes.specs.Pointers.{kind_of, mode_of, size_of}
use Rattle.word_attributes.specs.declared.PointerKind.{PointerKind}
use Rattle.word_attributes.specs.declared.PointerKind.TheVariants.{Ptr64}
use Rattle.word_attributes.specs.declared.PointerMode.{PointerMode}
use Rattle.word_attributes.specs.declared.PointerMode.TheVariants.{Pointer}
use Rattle.stream_header.specs.Header.{header_of}
use Rattle.stream_header.specs.Examples.{four, header_e, stream_e}
use Rattle.field.specs.Indices.{index_in, index_number}
use Rattle.stream_item.specs.Iterator.{iter_of, Next, done, yielded, next_of}
use Rattle.field.specs.declared.index.Stream.TheVariants.{Types}
use Rattle.stream_item.specs.declared.Entry.{Entry}
use Rattle.stream_item.specs.declared.Entry.TheVariants as entry
use Rattle.stream_finder.specs.Finder.{create_of, find_of}

-- what is asked: an entry and its input
pub data Asked : Type 0 where
  -- step k of a fresh iterator over a stream, the first being 0
  step : ℕ → List ℕ → Asked
  -- an index in a fresh finder of a stream, with room for one place
  lookup : List ℕ → ℕ → Asked
  -- a pointer word's kind, mode and size
  kind mode size : ℕ → Asked
  header : List ℕ → Asked
  padding : List ℕ → Asked
  primitive : ℕ → Asked

-- what is shown where it is not refused
pub data ExampleShown : Type 0 where
  -- an index, and where its payload starts and ends
  item : ℕ → ℕ → ℕ → ExampleShown
  over : ExampleShown
  -- where the payload starts and ends, and the links passed
  found : ℕ → ℕ → ℕ → ExampleShown
  marker : ℕ → ExampleShown
  pointer_kind : PointerKind → ExampleShown
  pointer_mode : PointerMode → ExampleShown
  number : ℕ → ExampleShown
  -- header_size, minimum and maximum
  bounds : ℕ → ℕ → ℕ → ExampleShown
  by : PrimitiveKind → Indirection → ExampleShown

abbrev step_again : List ℕ → Next → Answer Next
step_again s done = answered done
step_again s (yielded i c) = next_of s c

abbrev stepped : ℕ → List ℕ → Answer Next
stepped zero s = then (iter_of Types s) (next_of s)
stepped (suc k) s = then (stepped k s) (step_again s)

abbrev next_shown : Next → ExampleShown
next_shown done = over
next_shown (yielded i c) = item (index_number i.index) i.place (i.place + i.length)

abbrev entry_shown : Entry → ℕ → ExampleShown
entry_shown (entry.Record i) k = found i.place (i.place + i.length) k
entry_shown (entry.Marker i) k = marker (index_number i)

abbrev pub example_outcome : Asked → Answer ExampleShown
example_outcome (step k s) = then (stepped k s) (λ x. answered (next_shown x))
example_outcome (lookup s i) = then (create_of s (0 ∷ [])) (λ σ. then (find_of s σ (index_in Types i)) (λ x. answered (entry_shown x.entry x.passed)))
example_outcome (kind w) = then (kind_of w) (λ k. answered (pointer_kind k))
example_outcome (mode w) = then (mode_of w) (λ m. answered (pointer_mode m))
example_outcome (size w) = then (size_of w) (λ n. answered (number n))
example_outcome (header s) = then (header_of s) (λ h. answered (bounds h.header_size h.minimum_index h.maximum_index))
example_outcome (padding s) = then (padding_after s 0) (λ n. answered (number n))
example_outcome (primitive i) = then (primitive_of i) (λ t. answered (by t.kind t.indirection))

-- a line of 01: what is asked, and what is answered, or the number and its details
infix 15 ◌gives◌
pub data Example : Type 0 where
  ◌gives◌ : Asked → Answer ExampleShown → Example

unfoldable pub examples : List Example
examples =
    -- E iterates 4096 (payload 58 to 66) and 4097 (68 to 78), then done
    (step 0 stream_e gives answered (item 4096 58 66))
    ∷ (step 1 stream_e gives answered (item 4097 68 78))
    ∷ (step 2 stream_e gives answered over)
    -- `find` 4097 in E passes 1 link; 4098 gives 1 with 2 passed; 4099 gives 8; 4095 the marker
    ∷ (lookup stream_e 4097 gives answered (found 68 78 1))
    ∷ (lookup stream_e 4098 gives refused 1 (2 ∷ []))
    ∷ (lookup stream_e 4099 gives refused 8 (4099 ∷ []))
    ∷ (lookup stream_e 4095 gives answered (marker 4095))
    -- the pointer word 0x0001000c has kind 12, mode 0, size 8; 0x0d is 12
    ∷ (kind 0x0001000c gives answered (pointer_kind Ptr64))
    ∷ (mode 0x0001000c gives answered (pointer_mode Pointer))
    ∷ (size 0x0001000c gives answered (number 8))
    ∷ (kind 0x0d gives refused 12 [])
    -- empty stream, `find` 0 gives 9 with 0 and 0; `find` 1 gives 8
    ∷ (lookup [] 0 gives refused 9 (0 ∷ 0 ∷ []))
    ∷ (lookup [] 1 gives refused 8 (1 ∷ []))
    -- 55 bytes give 1; header_size 55 gives 2, 1025 gives 3
    ∷ (header (take 55 stream_e) gives refused 1 [])
    ∷ (header (header_e (four 55 0)) gives refused 2 [])
    ∷ (header (header_e (four 1 4)) gives refused 3 [])
    -- padding f3 f2 f1 consumes 3; f0 41 consumes 1; f2 alone gives 1
    ∷ (padding (0xf3 ∷ 0xf2 ∷ 0xf1 ∷ []) gives answered (number 3))
    ∷ (padding (0xf0 ∷ 0x41 ∷ []) gives answered (number 1))
    ∷ (padding (0xf2 ∷ []) gives refused 1 [])
    -- 0x0674 is I32 by Near64; 0x0874 and 0x0004 give 8
    ∷ (primitive 0x0674 gives answered (by I32 Near64))
    ∷ (primitive 0x0874 gives refused 8 (0x0874 ∷ []))
    ∷ (primitive 0x0004 gives refused 8 (0x0004 ∷ []))
    ∷ []

abbrev pub asked : Example → Answer ExampleShown
asked (a gives r) = example_outcome a

abbrev pub expected_of : Example → Answer ExampleShown
expected_of (a gives r) = r
