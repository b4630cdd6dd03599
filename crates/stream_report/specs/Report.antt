-- R-12 of document 02: "A report over any number of lent streams: records per leaf, payload bytes per leaf, largest payload with the first stream
-- (numbered from 0, refused ones too) and index that have it, streams refused. [..] Streams refused at the header or midway add only to the refused
-- count. Refusals: 27 a total would pass 64 bits, with the report as before that stream; 28 a leaf that the report's table of 64 distinct leaves has
-- no room for, likewise; 27 precedes 28." The numbers here have no bound: they are added up first, and then 27 is asked.
use Rattle.std.specs.Prelude.{Result, ℕ, zero, suc, ◌+◌, ◌*◌, ◌≡◌, Bool, true, false, List, [], ◌∷◌, ◌++◌, length, get_or, drop, ltb, eqb}
use Rattle.answer.specs.declared.Refusal.{Refusal}
use Rattle.answer.specs.Answer.{Answer, answered, refused, pick, stop, then}
use Rattle.answer.specs.Refusals.{itself, said}
use Rattle.field.specs.Fields.{little_at}
use Rattle.field.specs.declared.index.Stream.TheVariants as stream
use Rattle.stream_item.specs.Iterator.{iter_of, Next, done, yielded, next_of}
use Rattle.stream_item.specs.declared.iter.ItemIter.{ItemIter}
use Rattle.stream_report.specs.declared.Largest.{Largest}
use Rattle.stream_report.specs.declared.Totals.{Totals}

-- ---- what a report is

-- of the records with a leaf: how many, and their payload bytes
pub record Entry : Type 0 where
  pub leaf : ℕ
  pub records : ℕ
  pub bytes : ℕ

-- streams taken, and refused of them; header bytes, records and payload bytes of those that were counted; the largest payload with the first stream and
-- index that have it; an entry for each leaf, in the order of first appearance
pub record Report : Type 0 where
  pub taken : ℕ
  pub refused : ℕ
  pub headers : ℕ
  pub records : ℕ
  pub bytes : ℕ
  pub largest : Largest
  pub entries : List Entry

-- a fresh one
abbrev pub fresh : Report
fresh = record {
  taken = 0;
  refused = 0;
  headers = 0;
  records = 0;
  bytes = 0;
  largest = record { length = 0; stream = 0; index = 0 };
  entries = [];
}

-- ---- a record is counted

abbrev pub grown : Entry → ℕ → Entry
grown e n = record { leaf = e.leaf; records = e.records + 1; bytes = e.bytes + n }

-- in the first entry with its leaf, and without one in a new entry at the end
unfoldable pub tallied : List Entry → ℕ → ℕ → List Entry
tallied [] leaf n = record { leaf = leaf; records = 1; bytes = n } ∷ []
tallied (e ∷ es) leaf n = pick (eqb e.leaf leaf) (grown e n ∷ es) (e ∷ tallied es leaf n)

unfoldable pub has : List Entry → ℕ → Bool
has [] leaf = false
has (e ∷ es) leaf = pick (eqb e.leaf leaf) true (has es leaf)

-- the table of 64 leaves has it, or room for it
abbrev pub room : List Entry → ℕ → Bool
room es leaf = pick (has es leaf) true (ltb (length es) 64)

-- replaced only by a longer one, so that the first stream and in it the first index stay
abbrev pub larger : Largest → ℕ → ℕ → ℕ → Largest
larger l n number index = pick (ltb l.length n) (record { length = n; stream = number; index = index }) l

-- a report on the way through a stream, and whether a leaf had no room
pub record Counting : Type 0 where
  pub report : Report
  pub full : Bool

-- the record with this index, leaf and length, of the stream with this number
abbrev pub counted : ℕ → ℕ → ℕ → ℕ → Counting → Counting
counted number index leaf n x = record {
  report = record {
    taken = x.report.taken;
    refused = x.report.refused;
    headers = x.report.headers;
    records = x.report.records + 1;
    bytes = x.report.bytes + n;
    largest = larger x.report.largest n number index;
    entries = pick (room x.report.entries leaf) (tallied x.report.entries leaf n) x.report.entries;
  };
  full = pick (room x.report.entries leaf) x.full true;
}

-- ---- a stream is counted

-- after a step: the stream is counted where no record is left; a record that was yielded is counted, its leaf being its first two bytes
abbrev pub after_step : (ItemIter → Counting → Answer Counting) → List ℕ → ℕ → ItemIter → Counting → Next → Answer Counting
after_step on s number c x done = answered x
after_step on s number c x (yielded i d) = on d (counted number c.index (little_at 2 s i.place) i.length x)

-- at most k steps from a cursor; a record takes four bytes, so that a walk is over before it has made as many steps as there are bytes
unfoldable pub run_by : ℕ → List ℕ → ℕ → ItemIter → Counting → Answer Counting
run_by zero s number c x = answered x
run_by (suc k) s number c x = then (next_of s c) (after_step (run_by k s number) s number c x)

unfoldable pub count_run : List ℕ → ℕ → ItemIter → Counting → Answer Counting
count_run s number c x = run_by (suc (length s)) s number c x

-- a stream more, with so many header bytes
abbrev pub begun : Report → ℕ → Counting
begun ρ h = record {
  report = record {
    taken = ρ.taken + 1;
    refused = ρ.refused;
    headers = ρ.headers + h;
    records = ρ.records;
    bytes = ρ.bytes;
    largest = ρ.largest;
    entries = ρ.entries;
  };
  full = false;
}

-- the whole stream, or what refuses it at the header or midway
unfoldable pub count_stream : Report → List ℕ → Answer Counting
count_stream ρ s = then (iter_of stream.Types s) (λ c. count_run s ρ.taken c (begun ρ c.at))

-- "Streams refused at the header or midway add only to the refused count"
abbrev pub refusing : Report → Report
refusing ρ = record {
  taken = ρ.taken + 1;
  refused = ρ.refused + 1;
  headers = ρ.headers;
  records = ρ.records;
  bytes = ρ.bytes;
  largest = ρ.largest;
  entries = ρ.entries;
}

-- ---- 27 and 28

abbrev pub most : ℕ
most = 18446744073709551615

-- a number of an entry passes 64 bits
unfoldable pub passes : List Entry → Bool
passes [] = false
passes (e ∷ es) = pick (ltb most e.records) true (pick (ltb most e.bytes) true (passes es))

-- a number of the report does
unfoldable pub too_large : Report → Bool
too_large ρ =
    pick (ltb most ρ.taken) true
    (pick (ltb most ρ.refused) true
    (pick (ltb most ρ.headers) true
    (pick (ltb most ρ.records) true
    (pick (ltb most ρ.bytes) true
    (passes ρ.entries)))))

abbrev pub settled_report : Report → Bool → Answer Report
settled_report ρ full = stop (too_large ρ) 27 (stop full 28 (answered ρ))

abbrev pub concluded : Report → Answer Counting → Answer Report
concluded ρ (answered x) = settled_report x.report x.full
concluded ρ (refused n d) = settled_report (refusing ρ) false

-- a stream is added: 27, then 28
unfoldable pub add_of : Report → List ℕ → Answer Report
add_of ρ s = concluded ρ (count_stream ρ s)

-- ---- the report that totals and a lent table of 64 rows hold

abbrev pub row_at : List ℕ → ℕ → Entry
row_at t i = record { leaf = get_or t (3 * i) 0; records = get_or t (3 * i + 1) 0; bytes = get_or t (3 * i + 2) 0 }

-- k rows from row i on
unfoldable pub rows : ℕ → List ℕ → ℕ → List Entry
rows zero t i = []
rows (suc k) t i = row_at t i ∷ rows k t (suc i)

-- "a count of entries above 64 reads as 64"
abbrev pub at_most_64 : ℕ → ℕ
at_most_64 n = pick (ltb 64 n) 64 n

unfoldable pub report_in : Totals → List ℕ → Report
report_in τ t = record {
  taken = τ.taken;
  refused = τ.refused;
  headers = τ.headers;
  records = τ.records;
  bytes = τ.bytes;
  largest = τ.largest;
  entries = rows (at_most_64 τ.rows) t 0;
}

abbrev pub totals_of : Report → Totals
totals_of ρ = record {
  taken = ρ.taken;
  refused = ρ.refused;
  headers = ρ.headers;
  records = ρ.records;
  bytes = ρ.bytes;
  largest = ρ.largest;
  rows = length ρ.entries;
}

-- the numbers of entries, row by row
unfoldable pub flat : List Entry → List ℕ
flat [] = []
flat (e ∷ es) = e.leaf ∷ e.records ∷ e.bytes ∷ flat es

-- ---- what the answers say

abbrev pub totals_in : Answer Report → Answer Totals
totals_in (answered ρ) = answered (totals_of ρ)
totals_in (refused n d) = refused n d

-- the table t after it: the entries in its first rows, all else as before
abbrev pub report_table_after : List ℕ → Answer Report → List ℕ
report_table_after t (answered ρ) = flat ρ.entries ++ drop (3 * length ρ.entries) t
report_table_after t (refused n d) = t

-- the contract of a function that is lent the table t: a is the definition's answer, r the function's, t' the table after it
pub record Reports (t : List ℕ) (a : Answer Report) (r : Result Totals Refusal) (t' : List ℕ) : Type 0 where
  pub answer : said itself r ≡ totals_in a
  pub table : t' ≡ report_table_after t a
