-- R-6 of document 02: what is true of the stream that is made of a section: its header is accepted, and counts as many records as the section has; its
-- records are the section's, byte for byte; its walk is the section's with places 52 higher, and its lookups agree.
use Rattle.std.specs.Prelude.{ℕ, ◌+◌, ◌-◌, ◌≤◌, ◌≡◌, List, length, take, drop}
use Rattle.answer.specs.Answer.{Answer, answered, refused}
use Rattle.stream_header.specs.Header.{header_of}
use Rattle.field.specs.Indices.{index_in}
use Rattle.stream_item.specs.Links.{link_of}
use Rattle.stream_item.specs.Iterator.{iter_of, Next, done, yielded, next_of}
use Rattle.field.specs.declared.index.Stream.TheVariants.{Types}
use Rattle.stream_item.specs.declared.Item.{Item}
use Rattle.stream_item.specs.declared.Entry.{Entry}
use Rattle.stream_item.specs.declared.Entry.TheVariants as entry
use Rattle.stream_item.specs.declared.iter.ItemIter.{ItemIter}
use Rattle.stream_item.specs.declared.link.Hit.{Hit}
use Rattle.stream_item.specs.declared.link.Hit.TheVariants.{Landed, Missed}
use Rattle.stream_finder.specs.Finder.{State, Found, find_of}
use Rattle.stream_finder.specs.Demand as stream
use Rattle.section_item.specs.Sections.{first, count_of}
use Rattle.section_finder.specs.Demand.{SectionPremises}
use Rattle.section_stream.specs.Streams.{header_for, section_stream}

-- 52 higher, all else as it was
abbrev pub up_cursor : ItemIter → ItemIter
up_cursor c = record { stream = c.stream; at = c.at + 52; index = c.index }

abbrev pub up_item : Item → Item
up_item i = record { index = i.index; place = i.place + 52; length = i.length }

abbrev pub up_next : Answer Next → Answer Next
up_next (answered done) = answered done
up_next (answered (yielded i d)) = answered (yielded (up_item i) (up_cursor d))
up_next (refused n x) = refused n x

abbrev pub up_hit : Hit → Hit
up_hit (Landed p n) = Landed (p + 52) n
up_hit (Missed k) = Missed k

abbrev pub up_entry : Entry → Entry
up_entry (entry.Record i) = entry.Record (up_item i)
up_entry (entry.Marker i) = entry.Marker i

abbrev pub up_found : Answer Found → Answer Found
up_found (answered f) = answered (record { entry = up_entry f.entry; passed = f.passed })
up_found (refused n x) = refused n x

-- of the stream m that was made of the section s, n being its records
pub record SectionMade (s m : List ℕ) (n : ℕ) : Type 0 where
  pub counted : count_of s ≡ answered n
  pub long : length m ≡ length s + 52
  -- behind the header stands what stood behind the signature; so the bytes at a place of the section are those 52 higher, and a payload's are kept
  pub records : drop 56 m ≡ drop 4 s
  pub kept : (p k : ℕ) → 4 ≤ p → take k (drop (p + 52) m) ≡ take k (drop p s)
  -- the header is accepted, field by field what it was written as, and a fresh iterator stands where the section's does
  pub accepted : header_of m ≡ answered (header_for n (length s - 4))
  pub begun : iter_of Types m ≡ answered (up_cursor first)
  -- a step of the walk, from any cursor that is not inside the signature
  pub walk : (c : ItemIter) → 4 ≤ c.at → next_of m (up_cursor c) ≡ up_next (next_of s c)
  -- link d
  pub links : (d : ℕ) → link_of m 56 d ≡ up_hit (link_of s 4 d)
  -- lookups, details and links passed included: finders of one shift, after as many records
  pub lookups : (shift N d : ℕ) (t u : List ℕ) (σ τ : State) → shift ≤ 6
      → SectionPremises shift s n t N σ d
      → stream.Premises shift Types m (header_for n (length s - 4)) u N τ d
      → find_of m τ (index_in Types (4096 + d)) ≡ up_found (find_of s σ (index_in Types (4096 + d)))

unfoldable pub StreamMade : Type 0
StreamMade = (s m : List ℕ) → section_stream s ≡ answered m → (n : ℕ) × SectionMade s m n
