-- Document 01, "Finder", with R-7 of document 02: creation, `update`, `find` and `max_index`. A finder has a shift from 0 to 6 since its
-- creation, and its blocks have 2^shift links: 01's 8 is the shift 3. A shift above 6 is 26, right before the first 13.
use Rattle.std.specs.Prelude.{Result, ℕ, ◌+◌, ◌-◌, ◌*◌, ◌/◌, ◌%◌, ◌^◌, min, List, [], ◌∷◌, ◌≡◌, Bool, length, get_or, set, leb, ltb, eqb}
use Rattle.answer.specs.declared.Refusal.{Refusal}
use Rattle.answer.specs.Answer.{Answer, answered, refused, pick, stop, both, then}
use Rattle.answer.specs.Refusals.{itself, said}
use Rattle.stream_header.specs.Header.{longest, header_of}
use Rattle.stream_header.specs.declared.Header.{Header}
use Rattle.field.specs.Indices.{index_number}
use Rattle.stream_item.specs.Links.{link_of}
use Rattle.field.specs.declared.index.ItemIndex.{ItemIndex}
use Rattle.stream_item.specs.declared.Entry.{Entry}
use Rattle.stream_item.specs.declared.Entry.TheVariants as entry
use Rattle.stream_item.specs.declared.iter.ItemIter.{ItemIter}
use Rattle.stream_item.specs.declared.link.Hit.{Hit}
use Rattle.stream_item.specs.declared.link.Hit.TheVariants.{Landed, Missed}
use Rattle.stream_finder.specs.declared.Records.{Records}
use Rattle.stream_finder.specs.declared.ItemFinder.{ItemFinder}

-- a finder and the table that is lent to it
pub record State : Type 0 where
  pub finder : ItemFinder
  pub table : List ℕ

abbrev pub state : ItemFinder → List ℕ → State
state f t = record { finder = f; table = t }

-- how many links a block has, by the finder's own shift
abbrev pub block_of : ItemFinder → ℕ
block_of f = 2 ^ f.shift

-- d: how far an index is above the minimum
abbrev pub distance : ItemFinder → ℕ → ℕ
distance f n = n - f.minimum_index

-- ---- creation

-- records are three numbers to a finder: where link 0 starts, the least index, and the one behind the last. A stream's are its header's
abbrev pub header_records : Header → Records
header_records h = record { start = h.header_size; minimum = h.minimum_index; maximum = h.maximum_index }

-- the finder of these records that has this shift and holds n places
abbrev pub holding_in : Records → ℕ → ℕ → ItemFinder
holding_in r shift n = record { minimum_index = r.minimum; maximum_index = r.maximum; held = n; shift = shift }

-- that of a header's stream
abbrev pub holding : Header → ℕ → ℕ → ItemFinder
holding h = holding_in (header_records h)

-- 26 whether or not there are records; then where link 0 starts in place 0 if the count is positive (13 if there is no room), else none
abbrev pub begun_in : ℕ → List ℕ → Records → Answer State
begun_in shift t r =
    stop (ltb 6 shift) 26
    (pick (ltb r.minimum r.maximum)
    (stop (leb (length t) 0) 13 (answered (state (holding_in r shift 1) (set t 0 r.start))))
    (answered (state (holding_in r shift 0) t)))

-- of a header's stream: header_size in place 0
unfoldable pub begun_by : ℕ → List ℕ → Header → Answer State
begun_by shift t h = begun_in shift t (header_records h)

-- 16, the header's own, 26, then 13
unfoldable pub create_by : ℕ → List ℕ → List ℕ → Answer State
create_by shift s t = then (header_of s) (begun_by shift t)

-- without a shift it is 3
abbrev pub create_of : List ℕ → List ℕ → Answer State
create_of = create_by 3

-- ---- update

-- an index that starts a block, and the finder holds just the places before it: d mod 2^shift is 0 and d / 2^shift is the number of places held
abbrev pub due : ItemFinder → ℕ → Bool
due f i = both (eqb (distance f i % block_of f) 0) (eqb (distance f i / block_of f) f.held)

-- a new last place
abbrev pub stored : State → ℕ → State
stored σ at = record {
  finder = record {
    minimum_index = σ.finder.minimum_index;
    maximum_index = σ.finder.maximum_index;
    held = σ.finder.held + 1;
    shift = σ.finder.shift;
  };
  table = set σ.table σ.finder.held at;
}

-- 16 (the cursor's position), 26, 13 (the claim), 14, then 13 (no room for a place that is due)
unfoldable pub update_of : State → ItemIter → Answer State
update_of σ c =
    stop (ltb longest c.at) 16
    (stop (ltb 6 σ.finder.shift) 26
    (stop (ltb (length σ.table) σ.finder.held) 13
    (stop (ltb c.index σ.finder.minimum_index) 14
    (pick (due σ.finder c.index)
    (stop (leb (length σ.table) σ.finder.held) 13 (answered (stored σ c.at)))
    (answered σ)))))

-- what is left after an answer: a refusal changes nothing
abbrev pub after : State → Answer State → State
after σ (answered τ) = τ
after σ (refused n d) = σ

-- ---- find

-- what a lookup gives where it is not refused: an entry, and the links passed
pub record Found : Type 0 where
  pub entry : Entry
  pub passed : ℕ

-- 0 with a shift above 6 and with no place, else 2^shift times the places, plus minimum minus 1, held at 4,294,967,295
unfoldable pub max_index_of : ItemFinder → ℕ
max_index_of f =
    pick (ltb 6 f.shift) 0
    (pick (eqb f.held 0) 0
    (min (block_of f * f.held + f.minimum_index - 1) 4294967295))

-- the item of index i that a walk of k links landed on, or 1 with the links passed before one broke
abbrev pub landed : ItemIndex → ℕ → Hit → Answer Found
landed i k (Landed p n) = answered (record { entry = entry.Record (record { index = i; place = p; length = n }); passed = k })
landed i k (Missed j) = refused 1 (j ∷ [])

-- index i, whose number is n: 16; 26; 13 (the claim); below the minimum the marker; above the maximum 8; with d = n minus the minimum, 9 if
-- d / 2^shift is no held place; else from that place past d mod 2^shift links
unfoldable pub look_of : List ℕ → State → ItemIndex → ℕ → Answer Found
look_of s σ i n =
    stop (ltb longest (length s)) 16
    (stop (ltb 6 σ.finder.shift) 26
    (stop (ltb (length σ.table) σ.finder.held) 13
    (pick (ltb n σ.finder.minimum_index) (answered (record { entry = entry.Marker i; passed = 0 }))
    (pick (ltb σ.finder.maximum_index n) (refused 8 (n ∷ []))
    (pick (leb σ.finder.held (distance σ.finder n / block_of σ.finder)) (refused 9 (n ∷ max_index_of σ.finder ∷ []))
    (landed i (distance σ.finder n % block_of σ.finder)
    (link_of s (get_or σ.table (distance σ.finder n / block_of σ.finder) 0) (distance σ.finder n % block_of σ.finder))))))))

abbrev pub find_of : List ℕ → State → ItemIndex → Answer Found
find_of s σ i = look_of s σ i (index_number i)

-- ---- what the answers say
abbrev pub found : Entry × ℕ → Found
found x = record { entry = x.0; passed = x.1 }

abbrev pub said_find : Result (Entry × ℕ) Refusal → Answer Found
said_find = said found

abbrev pub finder_of : Answer State → Answer ItemFinder
finder_of (answered τ) = answered τ.finder
finder_of (refused n d) = refused n d

abbrev pub table_after : List ℕ → Answer State → List ℕ
table_after t (answered τ) = τ.table
table_after t (refused n d) = t

-- the contract of a function that is lent the table t and answers with a finder: a is the definition's answer, r the function's, t' the table
-- after it
pub record Fills (t : List ℕ) (a : Answer State) (r : Result ItemFinder Refusal) (t' : List ℕ) : Type 0 where
  pub answer : said itself r ≡ finder_of a
  pub table : t' ≡ table_after t a
