-- R-6 of document 02: "The `.debug$T` section is a u32 signature of 4 followed by the same length-and-payload records, numbered from 0x1000. ..
-- Refusals: 16 (section or stream), 1 below four bytes, 25 signature is not 4, then the iterator's own". Where a walk of a section starts, where
-- it ends, and how many records there are. A record itself is `next_of` of crates/stream_item, on the section's bytes as they are.
use Rattle.std.specs.Prelude.{ℕ, zero, suc, ◌-◌, List, [], ◌≡◌, ◌⊎◌, length, ltb, eqb}
use Rattle.answer.specs.Answer.{Answer, answered, refused, pick, stop, then}
use Rattle.field.specs.Fields.{little_at}
use Rattle.stream_header.specs.Header.{longest}
use Rattle.stream_item.specs.Iterator.{Next, done, yielded, next_of}
use Rattle.field.specs.declared.index.Stream.TheVariants as stream
use Rattle.stream_item.specs.declared.Item.{Item}
use Rattle.stream_item.specs.declared.iter.ItemIter.{ItemIter}

-- the cursor behind the signature, at 0x1000, with the type stream's tag
abbrev pub first : ItemIter
first = record { stream = stream.Types; at = 4; index = 0x1000 }

-- a fresh iterator: 16, 1 below four bytes, 25
unfoldable pub section_start : List ℕ → Answer ItemIter
section_start s =
    stop (ltb longest (length s)) 16
    (stop (ltb (length s) 4) 1
    (pick (eqb (little_at 4 s 0) 4) (answered first) (refused 25 [])))

-- after a step: the walk is over where no record is left, and goes on behind the record that was yielded
abbrev pub section_on : (ItemIter → Answer ItemIter) → ItemIter → Next → Answer ItemIter
section_on on c done = answered c
section_on on c (yielded i d) = on d

-- A walk from a cursor, of at most k steps: where it is over, or the iterator's own refusal. A record takes four bytes, so that a walk is over
-- before it has made as many steps as there are bytes, and the first line is never met (`last-ends`, proofs/SectionLaws.antt)
unfoldable pub walk_by : ℕ → List ℕ → ItemIter → Answer ItemIter
walk_by zero s c = answered c
walk_by (suc k) s c = then (next_of s c) (section_on (walk_by k s) c)

-- the whole walk: the cursor behind the last record
unfoldable pub last_of : List ℕ → ItemIter → Answer ItemIter
last_of s c = walk_by (suc (length s)) s c

-- the records of a section: as many as its last cursor is above 0x1000
unfoldable pub count_of : List ℕ → Answer ℕ
count_of s = then (section_start s) (λ c. then (last_of s c) (λ d. answered (d.index - 0x1000)))

-- ---- what a whole walk is, by steps

-- n records are yielded from cursor c to cursor d
pub data SectionPassed (s : List ℕ) : ItemIter → ℕ → ItemIter → Type 0 where
  none : {c : ItemIter} → SectionPassed s c 0 c
  more : {c d e : ItemIter} {i : Item} {n : ℕ} → next_of s c ≡ answered (yielded i d) → SectionPassed s d n e → SectionPassed s c (suc n) e

-- a walk from c is over at d
pub record SectionEnds (s : List ℕ) (c d : ItemIter) : Type 0 where
  pub records : ℕ
  pub led : SectionPassed s c records d
  pub over : next_of s d ≡ answered done

-- So the count is that of a walk from behind the signature that ends at the section's end, and of every such walk; and a walk that the iterator
-- refuses is refused by the iterator's own number, and nothing else refuses a count: the start, or a step of such a walk
pub record SectionCounts : Type 0 where
  pub walked : (s : List ℕ) (n : ℕ) → count_of s ≡ answered n → (d : ItemIter) × SectionPassed s first n d × (next_of s d ≡ answered done) × (d.at ≡ length s)
  pub counted : (s : List ℕ) (n : ℕ) (d : ItemIter) → section_start s ≡ answered first → SectionPassed s first n d → next_of s d ≡ answered done → count_of s ≡ answered n
  pub own : (s : List ℕ) (n : ℕ) (d : ItemIter) (k : ℕ) (x : List ℕ) → section_start s ≡ answered first → SectionPassed s first n d → next_of s d ≡ refused k x → count_of s ≡ refused k x
  pub only_own : (s : List ℕ) (k : ℕ) (x : List ℕ) → count_of s ≡ refused k x
      → (section_start s ≡ refused k x) ⊎ ((n : ℕ) × (d : ItemIter) × (section_start s ≡ answered first) × SectionPassed s first n d × (next_of s d ≡ refused k x))
