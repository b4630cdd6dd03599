-- R-13 of document 02, sentence by sentence: what an answer says, and when each refusal is given. Said over the table and the stream that the
-- caller gets, `next`, the readers and R-9's verdict; nothing here goes by how the records are found or numbered.
use Rattle.std.specs.Prelude.{ℕ, ◌+◌, ◌-◌, ◌≤◌, ◌<◌, true, ◌≡◌, ◌⊎◌, List, [], ◌∷◌, map, length, get_or, leb, eqb}
use Rattle.answer.specs.Answer.{answered, refused, pick}
use Rattle.field.specs.declared.index.Stream.TheVariants as stream
use Rattle.field_put.specs.Bytes.{Octets}
use Rattle.stream_header.specs.Header.{header_of}
use Rattle.stream_header.specs.declared.Header.{Header}
use Rattle.stream_item.specs.Iterator.{iter_of}
use Rattle.stream_item.specs.declared.iter.ItemIter.{ItemIter}
use Rattle.record_reference.specs.References.{Ref, refs_of}
use Rattle.record_rewrite.specs.Rewrite.{rewrite}
use Rattle.record_rewrite.specs.Kept.{Kept}
use Rattle.stream_fit.specs.Fit.{fit, unfit, fit_of}
use Rattle.stream_fit.specs.Sentences.{In}
use Rattle.stream_prune.specs.Links.{ComesPast}
use Rattle.stream_prune.specs.Pruned.{or_nothing, new_header}
use Rattle.stream_prune.specs.Dropped.{IsIn, Reached, roots_from, names_of}
use Rattle.stream_drop.specs.Drop.{stays, numbers_only, written, drop_of}

-- Through the table ------------------------------------------------------------------------------------------------------------------------

-- the new index of an old one, by the table; what is below the minimum stays
unfoldable pub renumbered_by : ℕ → List ℕ → ℕ → ℕ
renumbered_by minimum entries n = pick (leb minimum n) (get_or entries (n - minimum) 0) n

-- a record is kept exactly if its entry is not 0
abbrev pub IsKept : List ℕ → ℕ → Type 0
IsKept entries k = 0 < get_or entries k 0

-- a payload with its references rewritten
abbrev pub rewritten : ℕ → List ℕ → List ℕ → List ℕ
rewritten minimum entries p = rewrite (renumbered_by minimum entries) p (or_nothing (refs_of p))

-- the payloads of the kept records, from number i on
unfoldable pub kept_by : ℕ → List ℕ → ℕ → List (List ℕ) → List (List ℕ)
kept_by minimum entries i [] = []
kept_by minimum entries i (p ∷ ps) = pick (eqb (get_or entries i 0) 0) (kept_by minimum entries (i + 1) ps) (rewritten minimum entries p ∷ kept_by minimum entries (i + 1) ps)

-- as many numbers as there are payloads, from m up
unfoldable pub upward : ℕ → List (List ℕ) → List ℕ
upward m [] = []
upward m (p ∷ ps) = m ∷ upward (m + 1) ps

-- some record has this new number
pub record Stood (entries : List ℕ) (n : ℕ) : Type 0 where
  pub old : ℕ
  pub is : get_or entries old 0 ≡ n

-- The table ---------------------------------------------------------------------------------------------------------------------------------

-- Of a stream with this header, whose walk by `next` comes past the payloads ps: what old to new says
pub record OldToNew (roots : List ℕ) (h : Header) (ps : List (List ℕ)) (entries : List ℕ) : Type 0 where
  -- "A lent table's first entries, one per record"
  pub one_each : length entries ≡ length ps
  -- "exactly the records reached from the roots through type references": the least set that has the roots and is closed under references
  pub only : (k : ℕ) → IsKept entries k → Reached (names_of h.minimum_index ps) (roots_from h.minimum_index roots) k
  pub all : (k : ℕ) → Reached (names_of h.minimum_index ps) (roots_from h.minimum_index roots) k → IsKept entries k
  -- "in their old order": old to new keeps order, so it is one to one
  pub order : (i j : ℕ) → IsKept entries i → IsKept entries j → i < j → get_or entries i 0 < get_or entries j 0
  -- "renumbered from the old minimum without holes"
  pub low : (k : ℕ) → IsKept entries k → h.minimum_index ≤ get_or entries k 0
  pub high : (k : ℕ) → IsKept entries k → get_or entries k 0 < h.minimum_index + length (kept_by h.minimum_index entries 0 ps)
  pub no_hole : (n : ℕ) → n < length (kept_by h.minimum_index entries 0 ps) → Stood entries (h.minimum_index + n)

-- The stream --------------------------------------------------------------------------------------------------------------------------------

pub record DropSays (s roots : List ℕ) (h : Header) (c : ItemIter) (ps : List (List ℕ)) (entries new : List ℕ) : Type 0 where
  pub old_to_new : OldToNew roots h ps entries
  -- "the header kept but for its maximum"
  pub header : header_of new ≡ answered (new_header h (h.minimum_index + length (kept_by h.minimum_index entries 0 ps)))
  pub header_bytes : (i : ℕ) → i < h.header_size → (i < 12 ⊎ 16 ≤ i) → get_or new i 0 ≡ get_or s i 0
  -- "references rewritten, and all other payload bytes kept": the new stream's records are the kept ones, each as it was but for its references
  pub begins : iter_of stream.Types new ≡ answered c
  pub records : ComesPast new c (kept_by h.minimum_index entries 0 ps)
  pub alike : (k : ℕ) → IsKept entries k → (rs : List Ref) → refs_of (get_or ps k []) ≡ answered rs
      → Kept (renumbered_by h.minimum_index entries) (get_or ps k []) rs (rewritten h.minimum_index entries (get_or ps k []))
  -- what it is good for: it is fit to bind
  pub fit_again : fit_of new ≡ answered fit
  -- "Dropping twice with the renumbered roots changes nothing": the same bytes, and a table that says i to i
  pub twice : (places room : ℕ) → length (kept_by h.minimum_index entries 0 ps) ≤ places → length new ≤ room
      → drop_of new (map (renumbered_by h.minimum_index entries) roots) places room ≡ written (upward h.minimum_index (kept_by h.minimum_index entries 0 ps)) new

-- The refusals -----------------------------------------------------------------------------------------------------------------------------

-- An optional reference of a kept record whose new number reads as none
pub record ReadsAsNone (minimum : ℕ) (entries : List ℕ) (ps : List (List ℕ)) : Type 0 where
  pub holder : ℕ
  pub kept : IsKept entries holder
  pub refs : List Ref
  pub are : refs_of (get_or ps holder []) ≡ answered refs
  pub reference : Ref
  pub one : In reference refs
  pub optional : reference.optional ≡ true
  pub becomes : renumbered_by minimum entries reference.index ≡ 0xffff

-- the first of the roots that is at or above the maximum
pub data FirstAbove (maximum : ℕ) : List ℕ → ℕ → Type 0 where
  here : {x : ℕ} {xs : List ℕ} → maximum ≤ x → FirstAbove maximum (x ∷ xs) x
  later : {x y : ℕ} {xs : List ℕ} → x < maximum → FirstAbove maximum xs y → FirstAbove maximum (x ∷ xs) y

-- The cases of a fit stream: a root at or above the maximum; else too few places; else a reference that reads as none; else too little room; else none
-- of these
pub data Case (roots : List ℕ) (h : Header) (ps : List (List ℕ)) (entries new : List ℕ) (places room : ℕ) : Type 0 where
  by_8 : (x : ℕ) → FirstAbove h.maximum_index roots x → Case roots h ps entries new places room
  by_13 : ((x : ℕ) → IsIn x roots → x < h.maximum_index) → places < length ps → Case roots h ps entries new places room
  by_30 : ((x : ℕ) → IsIn x roots → x < h.maximum_index) → length ps ≤ places → ReadsAsNone h.minimum_index entries ps → Case roots h ps entries new places room
  by_19 : ((x : ℕ) → IsIn x roots → x < h.maximum_index) → length ps ≤ places → (ReadsAsNone h.minimum_index entries ps → ⊥) → room < length new → Case roots h ps entries new places room
  by_none : ((x : ℕ) → IsIn x roots → x < h.maximum_index) → length ps ≤ places → (ReadsAsNone h.minimum_index entries ps → ⊥) → length new ≤ room → Case roots h ps entries new places room

-- Of a fit stream with this header, whose walk comes past ps: which outcome there is, each where its premise holds and none before it does. `covers` says
-- that these are all, so each outcome is given exactly then
pub record When (s roots : List ℕ) (h : Header) (c : ItemIter) (ps : List (List ℕ)) : Type 0 where
  pub entries : List ℕ
  pub new : List ℕ
  pub old_to_new : ((x : ℕ) → IsIn x roots → x < h.maximum_index) → OldToNew roots h ps entries
  -- 8 with the first root at or above the maximum
  pub root : (x places room : ℕ) → FirstAbove h.maximum_index roots x → drop_of s roots places room ≡ stays 8 (x ∷ [])
  -- 13: the table has fewer entries than the stream records
  pub places : (places room : ℕ) → ((x : ℕ) → IsIn x roots → x < h.maximum_index) → places < length ps → drop_of s roots places room ≡ stays 13 []
  -- 30: an optional reference would become 0xffff; the table holds old to new
  pub none : (places room : ℕ) → ((x : ℕ) → IsIn x roots → x < h.maximum_index) → length ps ≤ places → ReadsAsNone h.minimum_index entries ps
      → drop_of s roots places room ≡ numbers_only 30 entries
  -- 19: the new stream does not fit the buffer; the table holds old to new
  pub room : (places room : ℕ) → ((x : ℕ) → IsIn x roots → x < h.maximum_index) → length ps ≤ places → (ReadsAsNone h.minimum_index entries ps → ⊥) → room < length new
      → drop_of s roots places room ≡ numbers_only 19 entries
  pub covers : (places room : ℕ) → Case roots h ps entries new places room
  -- else it is written
  pub answers : (places room : ℕ) → ((x : ℕ) → IsIn x roots → x < h.maximum_index) → length ps ≤ places → (ReadsAsNone h.minimum_index entries ps → ⊥) → length new ≤ room
      → drop_of s roots places room ≡ written entries new

-- The promises -----------------------------------------------------------------------------------------------------------------------------

pub record DropSentences : Type 0 where
  -- "Refusals: the header's, 29 R-9 says no"
  pub header : (s roots : List ℕ) (places room n : ℕ) (d : List ℕ) → header_of s ≡ refused n d → drop_of s roots places room ≡ stays n d
  pub unfit_is_29 : (s roots : List ℕ) (places room i rule : ℕ) → fit_of s ≡ answered (unfit i rule) → drop_of s roots places room ≡ stays 29 []
  pub when : (s roots : List ℕ) (h : Header) (c : ItemIter) (ps : List (List ℕ)) → Octets s → header_of s ≡ answered h → iter_of stream.Types s ≡ answered c → fit_of s ≡ answered fit
      → ComesPast s c ps → When s roots h c ps
  -- what an answer says, of a stream that has a header
  pub says : (s roots : List ℕ) (h : Header) (c : ItemIter) (ps : List (List ℕ)) → Octets s → 0 < length s → header_of s ≡ answered h → iter_of stream.Types s ≡ answered c → ComesPast s c ps
      → (places room : ℕ) (entries new : List ℕ) → drop_of s roots places room ≡ written entries new → DropSays s roots h c ps entries new
  -- the empty stream has no header to keep: nothing is written, and any root is 8
  pub empty : (places room : ℕ) → drop_of [] [] places room ≡ written [] []
  pub empty_root : (x : ℕ) (xs : List ℕ) (places room : ℕ) → drop_of [] (x ∷ xs) places room ≡ stays 8 (x ∷ [])
