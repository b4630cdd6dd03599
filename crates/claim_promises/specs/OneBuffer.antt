-- R-1 of document 02, a stream made in one buffer: a header written at place 0 and records one after the other, each at the place that the write before it
-- gave. What then stands in the first bytes of the buffer is a stream that walks to done with those records as its items: crates/write_header/specs/Streams.antt
-- has that of bytes that stand one behind the other.
use Rattle.std.specs.Prelude.{ℕ, ◌+◌, ◌≤◌, ◌≡◌, List, [], ◌∷◌, ◌++◌, map, length, take, drop}
use Rattle.answer.specs.Answer.{Answer, answered, then}
use Rattle.field.specs.declared.index.Stream.{Stream}
use Rattle.stream_header.specs.Header.{longest}
use Rattle.stream_header.specs.declared.Header.{Header}
use Rattle.stream_item.specs.Iterator.{iter_of}
use Rattle.record_layout.specs.Layouts.{Table}
use Rattle.write_layout.specs.Fields.{ToWrite, Encoded}
use Rattle.write_layout.specs.Records.{write_record}
use Rattle.write_layout.specs.Lists.{field_list_bytes, method_list_bytes}
use Rattle.write_layout.specs.Buffer.{Written, lay}
use Rattle.write_header.specs.Headers.{header_bytes, Narrow}
use Rattle.write_header.specs.Streams.{in_order, behind_length, start, HasPayloads}

-- one write after the other: the buffer and the place behind the last, or the first refusal
unfoldable pub laid_all : List Encoded → List ℕ → ℕ → Answer Written
laid_all [] o p = answered (record { buffer = o; next = p })
laid_all (b ∷ bs) o p = then (lay b o p) (λ w. laid_all bs w.buffer w.next)

-- what a record is written as: by a table of layouts, types or ids, or as a list with its elements
pub data Writing : Encoded → Type 0 where
  by_table : (table : Table) (vs : List ToWrite) → Writing (write_record table vs)
  field_list : (vss : List (List ToWrite)) → Writing (field_list_bytes vss)
  method_list : (vss : List (List ToWrite)) → Writing (method_list_bytes vss)

unfoldable pub AllWriting : List Encoded → Type 0
AllWriting [] = Unit {0}
AllWriting (b ∷ bs) = Writing b × AllWriting bs

-- of the buffer o into which the header h and the records bs were written: w is what it is then, and the place behind the last
pub record InOneBuffer (h : Header) (bs : List Encoded) (o : List ℕ) (w : Written) : Type 0 where
  pub header : List ℕ
  pub header_is : header_bytes h ≡ answered header
  pub records : List (List ℕ)
  pub records_are : bs ≡ map (λ (rs : List ℕ). answered rs) records
  -- its first bytes are the stream, and all else of it is as before
  pub stream : take w.next w.buffer ≡ header ++ in_order records
  pub rest : drop w.next w.buffer ≡ drop w.next o
  -- which walks to done, with the records' payloads as its items
  pub walks : (tag : Stream) → Narrow h → AllWriting bs → w.next ≤ longest → h.minimum_index + length bs ≤ 4294967295
      → (iter_of tag (take w.next w.buffer) ≡ answered (start tag h)) × HasPayloads (take w.next w.buffer) (start tag h) (map behind_length records)

unfoldable pub OneBuffer : Type 0
OneBuffer = (h : Header) (bs : List Encoded) (o : List ℕ) (w : Written) → laid_all (header_bytes h ∷ bs) o 0 ≡ answered w → InOneBuffer h bs o w
