-- R-1 of a whole stream: a written header and written records walk to done, with those records as its items. proofs/StreamWalks.antt has it.
use Rattle.std.specs.Prelude.{ℕ, ◌+◌, ◌≤◌, ◌≡◌, List, [], ◌∷◌, ◌++◌, map, length, take, drop}
use Rattle.answer.specs.Answer.{answered}
use Rattle.field.specs.Bytes.{bytes}
use Rattle.stream_header.specs.Header.{longest}
use Rattle.stream_header.specs.declared.Header.{Header}
use Rattle.stream_item.specs.Iterator.{done, over_record, iter_of, next_of}
use Rattle.field.specs.declared.index.Stream.{Stream}
use Rattle.stream_item.specs.declared.iter.ItemIter.{ItemIter}
use Rattle.record_layout.specs.Layouts.{Table}
use Rattle.write_layout.specs.Fields.{ToWrite}
use Rattle.write_layout.specs.Records.{write_record}
use Rattle.write_layout.specs.Lists.{field_list_bytes, method_list_bytes}
use Rattle.write_header.specs.Headers.{header_bytes, Narrow}

-- records as they stand in a stream, by their payloads
unfoldable pub links_of : List (List ℕ) → List ℕ
links_of [] = []
links_of (x ∷ xs) = (bytes 2 (length x) ++ x) ++ links_of xs

-- a payload has two bytes for its leaf, and a length that a u16 holds
pub record Payload (x : List ℕ) : Type 0 where
  pub leaf : 2 ≤ length x
  pub short : length x ≤ 65535

unfoldable pub Payloads : List (List ℕ) → Type 0
Payloads [] = Unit {0}
Payloads (x ∷ xs) = Payload x × Payloads xs

-- the cursor behind a record of n bytes
abbrev pub behind_record : ItemIter → ℕ → ItemIter
behind_record c n = record { stream = c.stream; at = c.at + 2 + n; index = c.index + 1 }

-- from the cursor c on the stream s has exactly these payloads, one item each, and then is done
unfoldable pub HasPayloads : List ℕ → ItemIter → List (List ℕ) → Type 0
HasPayloads s c [] = next_of s c ≡ answered done
HasPayloads s c (x ∷ xs) = (next_of s c ≡ answered (over_record c (length x))) × (take (length x) (drop (c.at + 2) s) ≡ x) × HasPayloads s (behind_record c (length x)) xs

-- the cursor with which a stream of this header begins
abbrev pub start : Stream → Header → ItemIter
start tag h = record { stream = tag; at = h.header_size; index = h.minimum_index }

-- of payloads behind their lengths, where the stream is not too long and its indices do not pass the last
abbrev pub LinksWalk : Type 0
LinksWalk =
    (tag : Stream) (h : Header) (hs : List ℕ) (xs : List (List ℕ)) → header_bytes h ≡ answered hs → Narrow h → Payloads xs → length (hs ++ links_of xs) ≤ longest
    → h.minimum_index + length xs ≤ 4294967295
    → (iter_of tag (hs ++ links_of xs) ≡ answered (start tag h)) × HasPayloads (hs ++ links_of xs) (start tag h) xs

-- Written records -------------------------------------------------------------------------------------------------------------------

-- the bytes of a record that was written: by a table of layouts, types or ids, or as a list with its elements
pub data WrittenAs (rs : List ℕ) : Type 0 where
  by_table : (table : Table) (vs : List ToWrite) → write_record table vs ≡ answered rs → WrittenAs rs
  field_list : (vss : List (List ToWrite)) → field_list_bytes vss ≡ answered rs → WrittenAs rs
  method_list : (vss : List (List ToWrite)) → method_list_bytes vss ≡ answered rs → WrittenAs rs

unfoldable pub AllWritten : List (List ℕ) → Type 0
AllWritten [] = Unit {0}
AllWritten (rs ∷ rss) = WrittenAs rs × AllWritten rss

-- one after the other
unfoldable pub in_order : List (List ℕ) → List ℕ
in_order [] = []
in_order (rs ∷ rss) = rs ++ in_order rss

-- what stands behind a record's length
abbrev pub behind_length : List ℕ → List ℕ
behind_length rs = drop 2 rs

-- R-1: a stream of a written header and written records walks to done, with their payloads as its items
abbrev pub StreamWalks : Type 0
StreamWalks =
    (tag : Stream) (h : Header) (hs : List ℕ) (rss : List (List ℕ)) → header_bytes h ≡ answered hs → Narrow h → AllWritten rss → length (hs ++ in_order rss) ≤ longest
    → h.minimum_index + length rss ≤ 4294967295
    → (iter_of tag (hs ++ in_order rss) ≡ answered (start tag h)) × HasPayloads (hs ++ in_order rss) (start tag h) (map behind_length rss)
