-- R-6 of document 02, by the numbers: what refuses a section, a finder over it, the stream that is made of it and its entries; that a refusal leaves
-- what was lent; and when each number is given. Demand 3 and R-11 of a section are crates/section_finder/specs/Demand.antt, and what is true of the
-- stream that is made of one crates/section_stream/specs/Made.antt.
use Rattle.std.specs.Prelude.{Result, Err, ℕ, ◌+◌, ◌≤◌, ◌<◌, ◌≡◌, List, [], ◌∷◌, length}
use Rattle.stream_finder.specs.declared.ItemFinder.{ItemFinder}
use Rattle.answer.specs.Answer.{answered, refused}
use Rattle.answer.specs.declared.Refusal.{Refusal}
use Rattle.field.specs.Fields.{little_at}
use Rattle.stream_header.specs.Header.{longest}
use Rattle.stream_item.specs.declared.Entry.{Entry}
use Rattle.stream_finder.specs.Finder.{begun_in, Fills}
use Rattle.record_list.specs.Lists as lists
use Rattle.section_item.specs.Sections.{first, section_start, count_of}
use Rattle.section_finder.specs.Finders.{section_records, section_create_by, SectionIndexesBy}
use Rattle.section_read.specs.Readers.{reader_at, read_of}
use Rattle.section_stream.specs.Streams.{section_stream}
use Rattle.write_layout.specs.Buffer.{lay, Writes}
use Rattle.claim_promises.specs.ByTable.{Refuses}
use Rattle.claim_promises.specs.Given.{Given, RefusedAs}
use Rattle.answer.specs.Refusals.{itself, said}

-- demand 1: answered, or refused by these numbers; and lent memory stays
pub record SectionsRefuse : Type 0 where
  pub starts : (s : List ℕ) → Refuses (16 ∷ 1 ∷ 25 ∷ []) (section_start s)
  pub counts : (s : List ℕ) → Refuses (16 ∷ 1 ∷ 25 ∷ 6 ∷ 7 ∷ []) (count_of s)
  pub creations : (shift : ℕ) (s t : List ℕ) → Refuses (16 ∷ 1 ∷ 25 ∷ 6 ∷ 7 ∷ 26 ∷ 13 ∷ []) (section_create_by shift s t)
  pub streams : (s o : List ℕ) → Refuses (16 ∷ 1 ∷ 25 ∷ 6 ∷ 7 ∷ 19 ∷ []) (lay (section_stream s) o 0)
  pub entries : (s : List ℕ) (e : Entry) → Refuses (16 ∷ 1 ∷ 8 ∷ 10 ∷ 11 ∷ 12 ∷ []) (read_of s e)
  pub lists : (b : List ℕ) → Refuses (1 ∷ 10 ∷ []) (lists.start_of (reader_at b 0) b)
  -- the table, lent to creation and to indexing; the buffer, lent to what makes a stream
  pub create_keeps : (shift : ℕ) (s t : List ℕ) (r : Result ItemFinder Refusal) (t' : List ℕ) (n : ℕ) (d : List ℕ) → Fills t (section_create_by shift s t) r t' → said itself r ≡ refused n d → t' ≡ t
  pub index_keeps : (shift : ℕ) (s t : List ℕ) (e : Refusal) (t' : List ℕ) → SectionIndexesBy shift s t (Err e) t' → t' ≡ t
  pub stream_keeps : (s o : List ℕ) (r : Result ℕ Refusal) (o' : List ℕ) (n : ℕ) (d : List ℕ) → Writes o (lay (section_stream s) o 0) (said itself r) o' → said itself r ≡ refused n d → o' ≡ o

-- the column "Given exactly when", for what R-6 adds: "16 (section or stream), 1 below four bytes, 25 signature is not 4, then the iterator's own, then
-- 13 (finder) or 19 (stream)"
pub record SectionsWhen : Type 0 where
  pub starts_16 : (s : List ℕ) → Given 16 [] (section_start s) (longest < length s)
  pub starts_1 : (s : List ℕ) → Given 1 [] (section_start s) (length s < 4)
  pub starts_25 : (s : List ℕ) → Given 25 [] (section_start s) ((length s ≤ longest) × (4 ≤ length s) × (little_at 4 s 0 ≡ 4 → ⊥))
  -- else there is the cursor behind the signature
  pub starts_first : (s : List ℕ) → length s ≤ longest → 4 ≤ length s → little_at 4 s 0 ≡ 4 → section_start s ≡ answered first
  -- what refuses the start refuses the count; that else it is a step of the walk, and nothing else, is `Counts` (crates/section_item/specs/Sections.antt)
  pub counts_start : (s : List ℕ) (n : ℕ) (d : List ℕ) → section_start s ≡ refused n d → count_of s ≡ refused n d
  -- by the count's numbers creation is refused exactly as the count is; 26 and 13 come after it
  pub creations_own : (shift : ℕ) (s t : List ℕ) → RefusedAs (16 ∷ 1 ∷ 25 ∷ 6 ∷ 7 ∷ []) (section_create_by shift s t) (count_of s)
  pub creations_26 : (shift : ℕ) (s t : List ℕ) (n : ℕ) → count_of s ≡ answered n → Given 26 [] (section_create_by shift s t) (6 < shift)
  pub creations_13 : (shift : ℕ) (s t : List ℕ) (n : ℕ) → count_of s ≡ answered n → Given 13 [] (section_create_by shift s t) ((shift ≤ 6) × (0 < n) × (length t ≡ 0))
  -- and nothing else where the records are counted: creation is then `begun_in` of them, which CreatedWhen.antt has whole
  pub creations_else : (shift : ℕ) (s t : List ℕ) (n : ℕ) → count_of s ≡ answered n → Refuses (26 ∷ 13 ∷ []) (section_create_by shift s t)
  pub creations_begun : (shift : ℕ) (s t : List ℕ) (n : ℕ) → count_of s ≡ answered n → section_create_by shift s t ≡ begun_in shift t (section_records n)
  -- of a stream: 16 where it would be too long, the count's own refusal, and 19 where the buffer is shorter than the section and 52
  pub streams_16 : (s : List ℕ) → Given 16 [] (section_stream s) (longest < length s + 52)
  pub streams_own : (s o : List ℕ) → length s + 52 ≤ longest → RefusedAs (1 ∷ 25 ∷ 6 ∷ 7 ∷ []) (lay (section_stream s) o 0) (count_of s)
  pub streams_19 : (s o : List ℕ) (n : ℕ) → length s + 52 ≤ longest → count_of s ≡ answered n → Given 19 [] (lay (section_stream s) o 0) (length o < length s + 52)
  pub streams_else : (s o : List ℕ) (n : ℕ) → length s + 52 ≤ longest → count_of s ≡ answered n → Refuses (19 ∷ []) (lay (section_stream s) o 0)
