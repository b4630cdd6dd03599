-- What the private functions of the count say of the lent table: which row a leaf has, and that the table holds the entries so far.
use Rattle.std.specs.Prelude.{Option, Some, None, ℕ, ◌+◌, ◌*◌, ◌≤◌, ◌<◌, ◌≡◌, Bool, true, false, List, ◌⊎◌, length, get_or, set, drop, ltb}
use Rattle.answer.specs.Answer.{Answer, answered, refused, pick, stop}
use Rattle.stream_item.specs.declared.iter.ItemIter.{ItemIter}
use Rattle.stream_report.specs.Report.{Entry, Counting, tallied, room, passes, rows, count_run, most, at_most_64}
use Rattle.stream_report.specs.declared.Largest.{Largest}
use Rattle.stream_header.specs.Header.{longest}
use Rattle.stream_report.specs.declared.Totals.{Totals}
use Rattle.stream_report.specs.declared.Count.{Count}
use Rattle.stream_report.specs.declared.Walked.{Walked}

-- r is the first of n rows that has the leaf, or n
pub record First (t : List ℕ) (n leaf r : ℕ) : Type 0 where
  pub within : r ≤ n
  pub before : (k : ℕ) → k < r → get_or t (3 * k) 0 ≡ leaf → ⊥
  pub at : r < n → get_or t (3 * r) 0 ≡ leaf

-- no row before r has r's leaf
pub record Foremost (t : List ℕ) (r : ℕ) : Type 0 where
  pub is : (k : ℕ) → k < r → get_or t (3 * k) 0 ≡ get_or t (3 * r) 0 → ⊥

-- the table has 192 numbers, each one of 64 bits
pub record Known (t : List ℕ) : Type 0 where
  pub size : length t ≡ 192
  pub small : (k : ℕ) → get_or t k 0 ≤ most

-- the table with a record of n bytes counted in row r
abbrev pub grown_table : List ℕ → ℕ → ℕ → List ℕ
grown_table t r n = set (set t (3 * r + 1) (get_or t (3 * r + 1) 0 + 1)) (3 * r + 2) (get_or t (3 * r + 2) 0 + n)

-- with a new row
abbrev pub new_table : List ℕ → ℕ → ℕ → ℕ → List ℕ
new_table t r leaf n = set (set (set t (3 * r) leaf) (3 * r + 1) 1) (3 * r + 2) n

-- whether the record's two sums stay below 2^64
abbrev pub fits_row : List ℕ → ℕ → ℕ → Bool
fits_row t r n = pick (ltb most (get_or t (3 * r + 1) 0 + 1)) false (pick (ltb most (get_or t (3 * r + 2) 0 + n)) false true)

-- of a function that counts a record in a row if the sums fit
pub record Grows (t : List ℕ) (r n : ℕ) (b : Bool) (t' : List ℕ) : Type 0 where
  pub test : b ≡ fits_row t r n
  pub table : t' ≡ pick (fits_row t r n) (grown_table t r n) t

-- what the walk's own numbers need
pub record Sound (t : List ℕ) (k : Count) : Type 0 where
  pub size : length t ≡ 192
  pub few : k.rows ≤ 64
  pub foremost : Foremost t k.last

-- the table holds these entries in its first rows, all else being as in t₀
pub record Exact (t₀ t : List ℕ) (k : Count) (es : List Entry) (full : Bool) : Type 0 where
  pub fine : k.over ≡ false
  pub entries : rows k.rows t 0 ≡ es
  pub said : k.full ≡ full
  pub rest : drop (3 * k.rows) t ≡ drop (3 * k.rows) t₀

-- or a number of them has passed 64 bits
pub record Past (k : Count) (es : List Entry) : Type 0 where
  pub over : k.over ≡ true
  pub past : passes es ≡ true

abbrev pub KeptTable : List ℕ → List ℕ → Count → List Entry → Bool → Type 0
KeptTable t₀ t k es full = Exact t₀ t k es full ⊎ Past k es

-- of a function that counts a record in the table
pub record Counts (t : List ℕ) (k : Count) (leaf n : ℕ) (r : Count) (t' : List ℕ) : Type 0 where
  pub sound : Sound t' r
  pub on : (t₀ : List ℕ) (es : List Entry) (full : Bool) → KeptTable t₀ t k es full
      → KeptTable t₀ t' r (pick (room es leaf) (tallied es leaf n) es) (pick (room es leaf) full true)

-- a walk that was over: its report, and what the table holds of it; how many records and payload bytes there were follows from the last cursor
pub record Finished (s : List ℕ) (number : ℕ) (c : ItemIter) (x : Counting) (t₀ : List ℕ) (w : Walked) (t' : List ℕ) : Type 0 where
  pub counting : Counting
  pub is : count_run s number c x ≡ answered counting
  pub few : w.count.rows ≤ 64
  pub kept : KeptTable t₀ t' w.count counting.report.entries counting.full
  pub largest : counting.report.largest ≡ w.largest
  pub taken : counting.report.taken ≡ x.report.taken
  pub refused : counting.report.refused ≡ x.report.refused
  pub headers : counting.report.headers ≡ x.report.headers
  pub records : counting.report.records + c.index ≡ x.report.records + w.cursor.index
  pub bytes : counting.report.bytes + 2 * counting.report.records + c.at ≡ x.report.bytes + 2 * x.report.records + w.cursor.at
  pub more : x.report.bytes ≤ counting.report.bytes
  pub up : c.index ≤ w.cursor.index
  pub inside : w.cursor.at ≤ longest
  pub known : Known t'

pub record RunRefuses (s : List ℕ) (number : ℕ) (c : ItemIter) (x : Counting) : Type 0 where
  pub reason : ℕ
  pub details : List ℕ
  pub is : count_run s number c x ≡ refused reason details

-- of a walk that began with a report whose entries the table holds
abbrev pub Told : List ℕ → ℕ → ItemIter → Counting → List ℕ → Option Walked → List ℕ → Type 0
Told s number c x t₀ (Some w) t' = Finished s number c x t₀ w t'
Told s number c x t₀ None t' = RunRefuses s number c x

pub record WalkCounts (s : List ℕ) (number : ℕ) (c : ItemIter) (k : Count) (l : Largest) (t : List ℕ) (r : Option Walked) (t' : List ℕ) : Type 0 where
  pub from : (x : Counting) (t₀ : List ℕ) → KeptTable t₀ t k x.report.entries x.full → x.report.largest ≡ l → Told s number c x t₀ r t'

-- the totals after a stream with so many header bytes, records and payload bytes
abbrev pub totals_after : Totals → ℕ → ℕ → ℕ → Count → Largest → Totals
totals_after τ h n b k l = record {
  taken = τ.taken + 1;
  refused = τ.refused;
  headers = τ.headers + h;
  records = τ.records + n;
  bytes = τ.bytes + b;
  largest = l;
  rows = k.rows;
}

-- 27, then 28
unfoldable pub settled_of : Totals → ℕ → ℕ → ℕ → Count → Largest → Answer Totals
settled_of τ h n b k l =
    stop k.over 27
    (stop (ltb most (τ.taken + 1)) 27
    (stop (ltb most (τ.headers + h)) 27
    (stop (ltb most (τ.records + n)) 27
    (stop (ltb most (τ.bytes + b)) 27
    (stop k.full 28
    (answered (totals_after τ h n b k l)))))))

-- the totals after a stream that was refused
unfoldable pub refused_of : Totals → Answer Totals
refused_of τ =
    stop (ltb most (τ.taken + 1)) 27
    (stop (ltb most (τ.refused + 1)) 27
    (answered (record {
      taken = τ.taken + 1;
      refused = τ.refused + 1;
      headers = τ.headers;
      records = τ.records;
      bytes = τ.bytes;
      largest = τ.largest;
      rows = at_most_64 τ.rows;
    })))

-- numbers of 64 bits
pub record Fits64 (τ : Totals) : Type 0 where
  pub refused : τ.refused ≤ most
  pub headers : τ.headers ≤ most
  pub records : τ.records ≤ most
  pub bytes : τ.bytes ≤ most
