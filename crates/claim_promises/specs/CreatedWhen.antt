-- The creation of a finder, whole: when it is refused, and by no other number; and what it answers else. Of any records, which is `begin`, and of a
-- stream whose header is accepted; of a section it is Sections.antt. The header's own numbers come first.
use Rattle.std.specs.Prelude.{ℕ, ◌≤◌, ◌<◌, ◌≡◌, List, [], ◌∷◌, length, set}
use Rattle.answer.specs.Answer.{answered}
use Rattle.stream_header.specs.Header.{header_of}
use Rattle.stream_header.specs.declared.Header.{Header}
use Rattle.stream_finder.specs.Finder.{state, header_records, holding_in, begun_in, create_by}
use Rattle.stream_finder.specs.declared.Records.{Records}
use Rattle.claim_promises.specs.ByTable.{Refuses}
use Rattle.claim_promises.specs.Given.{Given, RefusedAs}

pub record CreatedWhen : Type 0 where
  -- 26, "shift above 6, right before the first 13"; 13, "a place must be stored and the lent table has none"
  pub begins_26 : (shift : ℕ) (t : List ℕ) (r : Records) → Given 26 [] (begun_in shift t r) (6 < shift)
  pub begins_13 : (shift : ℕ) (t : List ℕ) (r : Records) → Given 13 [] (begun_in shift t r) ((shift ≤ 6) × (r.minimum < r.maximum) × (length t ≡ 0))
  pub begins_else : (shift : ℕ) (t : List ℕ) (r : Records) → Refuses (26 ∷ 13 ∷ []) (begun_in shift t r)
  -- where there is a record there is one place, where link 0 starts; where there is none there is no place, and the table stays
  pub begins_some : (shift : ℕ) (t : List ℕ) (r : Records) → shift ≤ 6 → r.minimum < r.maximum → 0 < length t
      → begun_in shift t r ≡ answered (state (holding_in r shift 1) (set t 0 r.start))
  pub begins_none : (shift : ℕ) (t : List ℕ) (r : Records) → shift ≤ 6 → r.maximum ≤ r.minimum → begun_in shift t r ≡ answered (state (holding_in r shift 0) t)
  -- "iterator and finder creation then the header's": by the header's numbers it is refused exactly as the header is
  pub creations_own : (shift : ℕ) (s t : List ℕ) → RefusedAs (16 ∷ 1 ∷ 2 ∷ 3 ∷ 4 ∷ 5 ∷ []) (create_by shift s t) (header_of s)
  -- a stream's is that of the records that its header counts
  pub creations : (shift : ℕ) (s t : List ℕ) (h : Header) → header_of s ≡ answered h → create_by shift s t ≡ begun_in shift t (header_records h)
  pub creations_else : (shift : ℕ) (s t : List ℕ) (h : Header) → header_of s ≡ answered h → Refuses (26 ∷ 13 ∷ []) (create_by shift s t)
