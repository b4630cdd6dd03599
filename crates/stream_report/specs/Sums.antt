-- R-12 of document 02, what is promised: "For each accepted stream whose walk ends in done, header bytes, two per record, and payload bytes add up to
-- the stream's length, and the report's totals are those of the streams it counted." Over the list of a stream's records.
use Rattle.std.specs.Prelude.{ℕ, zero, suc, ◌+◌, ◌*◌, ◌≤◌, ◌<◌, ◌≡◌, Bool, true, false, List, [], ◌∷◌, ◌⊎◌, length, ltb, eqb}
use Rattle.answer.specs.Answer.{Answer, answered, refused, pick, then}
use Rattle.field.specs.Fields.{little_at}
use Rattle.field.specs.declared.index.Stream.TheVariants as stream
use Rattle.stream_item.specs.Iterator.{iter_of, Next, done, yielded, next_of}
use Rattle.stream_item.specs.declared.iter.ItemIter.{ItemIter}
use Rattle.stream_report.specs.Report.{Entry, Report, fresh, Counting, counted, tallied, has, begun, refusing, settled_report, add_of}
use Rattle.stream_report.specs.declared.Largest.{Largest}

-- ---- the records of a stream

pub record RecordSeen : Type 0 where
  pub index : ℕ
  pub leaf : ℕ
  pub bytes : ℕ

pub record Stream : Type 0 where
  pub header : ℕ
  pub records : List RecordSeen

abbrev pub seeing : (ItemIter → Answer (List RecordSeen)) → List ℕ → ItemIter → Next → Answer (List RecordSeen)
seeing on s c done = answered []
seeing on s c (yielded i d) = then (on d) (λ xs. answered (record { index = c.index; leaf = little_at 2 s i.place; bytes = i.length } ∷ xs))

unfoldable pub seen_by : ℕ → List ℕ → ItemIter → Answer (List RecordSeen)
seen_by zero s c = answered []
seen_by (suc k) s c = then (next_of s c) (seeing (seen_by k s) s c)

-- a stream that is accepted and whose walk ends in done; or what refuses it
unfoldable pub stream_of : List ℕ → Answer Stream
stream_of s = then (iter_of stream.Types s) (λ c. then (seen_by (suc (length s)) s c) (λ xs. answered (record { header = c.at; records = xs })))

unfoldable pub seen_bytes : List RecordSeen → ℕ
seen_bytes [] = 0
seen_bytes (x ∷ xs) = x.bytes + seen_bytes xs

-- those with a leaf
unfoldable pub records_with : ℕ → List RecordSeen → ℕ
records_with leaf [] = 0
records_with leaf (x ∷ xs) = pick (eqb x.leaf leaf) 1 0 + records_with leaf xs

unfoldable pub bytes_with : ℕ → List RecordSeen → ℕ
bytes_with leaf [] = 0
bytes_with leaf (x ∷ xs) = pick (eqb x.leaf leaf) x.bytes 0 + bytes_with leaf xs

-- "header bytes, two per record, and payload bytes add up to the stream's length"
unfoldable pub AddsUp : Type 0
AddsUp = (s : List ℕ) (z : Stream) → stream_of s ≡ answered z → z.header + 2 * length z.records + seen_bytes z.records ≡ length s

-- ---- a report by the records

unfoldable pub count_all : ℕ → Counting → List RecordSeen → Counting
count_all number x [] = x
count_all number x (y ∷ ys) = count_all number (counted number y.index y.leaf y.bytes x) ys

-- what a stream is added to a report by
abbrev pub by_records : Report → Answer Stream → Answer Report
by_records ρ (answered z) = settled_report (count_all ρ.taken (begun ρ z.header) z.records).report (count_all ρ.taken (begun ρ z.header) z.records).full
by_records ρ (refused n d) = settled_report (refusing ρ) false

-- the entries with room for every leaf
unfoldable pub tally_all : List Entry → List RecordSeen → List Entry
tally_all es [] = es
tally_all es (y ∷ ys) = tally_all (tallied es y.leaf y.bytes) ys

-- 27 and 28 exactly when, 27 before 28: `add` is the records' sums, then 27 if a number of the report after the whole stream passes 64 bits, then 28
-- exactly if the entries and the stream's new leaves are more than 64
pub record Exactly : Type 0 where
  pub is : (ρ : Report) (s : List ℕ) → add_of ρ s ≡ by_records ρ (stream_of s)
  pub leaves : (ρ : Report) (z : Stream) → length ρ.entries ≤ 64
      → (count_all ρ.taken (begun ρ z.header) z.records).full ≡ ltb 64 (length (tally_all ρ.entries z.records))

-- ---- a report made from a fresh one

-- by these additions, the last one first; 27 and 28 leave it as it was, and such a stream is none of them
pub data Made : Report → List (List ℕ) → Type 0 where
  new : Made fresh []
  added : {ρ ρ' : Report} {ss : List (List ℕ)} {s : List ℕ} → Made ρ ss → add_of ρ s ≡ answered ρ' → Made ρ' (s ∷ ss)

abbrev pub each : (Stream → ℕ) → Answer Stream → ℕ
each f (answered z) = f z
each f (refused n d) = 0

-- a sum over the streams that were counted
unfoldable pub sum : (Stream → ℕ) → List (List ℕ) → ℕ
sum f [] = 0
sum f (s ∷ ss) = sum f ss + each f (stream_of s)

-- their lengths
unfoldable pub lengths : List (List ℕ) → ℕ
lengths [] = 0
lengths (s ∷ ss) = lengths ss + each (λ z. length s) (stream_of s)

abbrev pub one : Answer Stream → ℕ
one (answered z) = 0
one (refused n d) = 1

unfoldable pub refused_streams : List (List ℕ) → ℕ
refused_streams [] = 0
refused_streams (s ∷ ss) = refused_streams ss + one (stream_of s)

-- of the first entry with a leaf
unfoldable pub records_for : List Entry → ℕ → ℕ
records_for [] leaf = 0
records_for (e ∷ es) leaf = pick (eqb e.leaf leaf) e.records (records_for es leaf)

unfoldable pub bytes_for : List Entry → ℕ → ℕ
bytes_for [] leaf = 0
bytes_for (e ∷ es) leaf = pick (eqb e.leaf leaf) e.bytes (bytes_for es leaf)

unfoldable pub all_records : List Entry → ℕ
all_records [] = 0
all_records (e ∷ es) = e.records + all_records es

unfoldable pub all_bytes : List Entry → ℕ
all_bytes [] = 0
all_bytes (e ∷ es) = e.bytes + all_bytes es

unfoldable pub distinct : List Entry → Bool
distinct [] = true
distinct (e ∷ es) = pick (has es e.leaf) false (distinct es)

-- ---- the largest payload

pub data Among : List RecordSeen → RecordSeen → Type 0 where
  first : {x : RecordSeen} {xs : List RecordSeen} → Among (x ∷ xs) x
  later : {x y : RecordSeen} {xs : List RecordSeen} → Among xs y → Among (x ∷ xs) y

-- a record of the stream with this number, which was counted; the last stream stands first in the list
pub data RecordIn : List (List ℕ) → ℕ → RecordSeen → Type 0 where
  in_last : {s : List ℕ} {ss : List (List ℕ)} {z : Stream} {y : RecordSeen} → stream_of s ≡ answered z → Among z.records y → RecordIn (s ∷ ss) (length ss) y
  in_earlier : {s : List ℕ} {ss : List (List ℕ)} {number : ℕ} {y : RecordSeen} → RecordIn ss number y → RecordIn (s ∷ ss) number y

-- an earlier stream, or the same and a lower index
abbrev pub Precedes : ℕ → ℕ → ℕ → ℕ → Type 0
Precedes number index number' index' = (number < number') ⊎ ((number ≡ number') × (index < index'))

-- no record was counted, and all is 0
pub record NoRecord (l : Largest) (ss : List (List ℕ)) : Type 0 where
  pub length : l.length ≡ 0
  pub stream : l.stream ≡ 0
  pub index : l.index ≡ 0
  pub none : (number : ℕ) (y : RecordSeen) → RecordIn ss number y → ⊥

-- "largest payload with the first stream (numbered from 0, refused ones too) and index that have it": that of a counted record, none is longer, and every
-- one before it is shorter
pub record FirstLongest (l : Largest) (ss : List (List ℕ)) : Type 0 where
  pub has : RecordSeen
  pub there : RecordIn ss l.stream has
  pub index : has.index ≡ l.index
  pub length : has.bytes ≡ l.length
  pub longest : (number : ℕ) (y : RecordSeen) → RecordIn ss number y → y.bytes ≤ l.length
  pub before : (number : ℕ) (y : RecordSeen) → RecordIn ss number y → Precedes number y.index l.stream l.index → y.bytes < l.length

-- what is true of it
pub record Sums (ρ : Report) (ss : List (List ℕ)) : Type 0 where
  pub taken : ρ.taken ≡ length ss
  pub refused : ρ.refused ≡ refused_streams ss
  pub headers : ρ.headers ≡ sum (λ z. z.header) ss
  pub records : ρ.records ≡ sum (λ z. length z.records) ss
  pub bytes : ρ.bytes ≡ sum (λ z. seen_bytes z.records) ss
  -- all bytes of the streams it counted
  pub whole : ρ.headers + 2 * ρ.records + ρ.bytes ≡ lengths ss
  -- the entries add up to the totals, have distinct leaves, and each is the sum over those streams
  pub records_add_up : all_records ρ.entries ≡ ρ.records
  pub bytes_add_up : all_bytes ρ.entries ≡ ρ.bytes
  pub leaves : distinct ρ.entries ≡ true
  pub each_records : (leaf : ℕ) → records_for ρ.entries leaf ≡ sum (λ z. records_with leaf z.records) ss
  pub each_bytes : (leaf : ℕ) → bytes_for ρ.entries leaf ≡ sum (λ z. bytes_with leaf z.records) ss
  pub few : length ρ.entries ≤ 64
  pub largest : NoRecord ρ.largest ss ⊎ FirstLongest ρ.largest ss

unfoldable pub MadeSums : Type 0
MadeSums = (ρ : Report) (ss : List (List ℕ)) → Made ρ ss → Sums ρ ss
