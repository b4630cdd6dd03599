-- R-13 of document 02: "exactly the records reached from the roots through type references". Which records are marked: one pass from the last
-- record down, each marked one marking what it names; and what is reached. Records are numbered from 0.
use Rattle.std.specs.Prelude.{ℕ, zero, suc, ◌+◌, ◌-◌, ◌<◌, true, ◌≡◌, ◌⊎◌, List, [], ◌∷◌, map, length, get_or, set, replicate, leb, eqb}
use Rattle.answer.specs.Answer.{answered, pick}
use Rattle.field_put.specs.Bytes.{Octets}
use Rattle.stream_header.specs.Header.{header_of}
use Rattle.stream_header.specs.declared.Header.{Header}
use Rattle.stream_item.specs.Iterator.{iter_of}
use Rattle.field.specs.declared.index.Stream.TheVariants as stream
use Rattle.stream_item.specs.declared.iter.ItemIter.{ItemIter}
use Rattle.record_reference.specs.References.{Ref, refs_of}
use Rattle.stream_fit.specs.Fit.{fit, fit_of}
use Rattle.stream_fit.specs.Sentences.{In}
use Rattle.stream_prune.specs.Links.{ComesPast}
use Rattle.stream_prune.specs.Pruned.{Marked, rank, numbers, new_index, or_nothing, kept_from, new_stream, new_header, Prunes, KeptAlike}

-- x is one of them
abbrev pub IsIn : ℕ → List ℕ → Type 0
IsIn x [] = ⊥
IsIn x (y ∷ ys) = (x ≡ y) ⊎ IsIn x ys

-- the least set that has the roots and is closed under references
pub data Reached (refs : ℕ → List ℕ) (roots : List ℕ) : ℕ → Type 0 where
  root : {i : ℕ} → IsIn i roots → Reached refs roots i
  named : {i j : ℕ} → Reached refs roots i → IsIn j (refs i) → Reached refs roots j

-- The pass: a table of marks, 1 for kept ------------------------------------------------------------------------------------------------

-- the table with these entries marked
unfoldable pub mark_all : List ℕ → List ℕ → List ℕ
mark_all [] t = t
mark_all (j ∷ js) t = mark_all js (set t j 1)

-- the table after record i: if that is marked, what it names is marked too
unfoldable pub visit : (ℕ → List ℕ) → ℕ → List ℕ → List ℕ
visit refs i t = pick (eqb (get_or t i 0) 1) (mark_all (refs i) t) t

-- the table after each record below the given number, the last one first
unfoldable pub pass : (ℕ → List ℕ) → ℕ → List ℕ → List ℕ
pass refs zero t = t
pass refs (suc i) t = pass refs i (visit refs i t)

-- the roots marked in a clean table of n records, then the pass over all
unfoldable pub marks : (ℕ → List ℕ) → ℕ → List ℕ → List ℕ
marks refs n roots = pass refs n (mark_all roots (replicate n 0))

-- Over payloads ---------------------------------------------------------------------------------------------------------------------------

-- the numbers of the records that these references name: those from the minimum on
unfoldable pub numbers_of : ℕ → List Ref → List ℕ
numbers_of minimum [] = []
numbers_of minimum (r ∷ rs) = pick (leb minimum r.index) ((r.index - minimum) ∷ numbers_of minimum rs) (numbers_of minimum rs)

-- the numbers of the records that these indices name
unfoldable pub roots_from : ℕ → List ℕ → List ℕ
roots_from minimum [] = []
roots_from minimum (x ∷ xs) = pick (leb minimum x) ((x - minimum) ∷ roots_from minimum xs) (roots_from minimum xs)

-- the numbers of the records that record i names
unfoldable pub names_of : ℕ → List (List ℕ) → ℕ → List ℕ
names_of minimum ps i = numbers_of minimum (or_nothing (refs_of (get_or ps i [])))

-- the marks of a stream's payloads, from the roots
unfoldable pub marks_of : ℕ → List (List ℕ) → List ℕ → List ℕ
marks_of minimum ps roots = marks (names_of minimum ps) (length ps) (roots_from minimum roots)

-- no root is at or above the maximum, which would be 8; no optional reference of a kept record becomes 0xffff, which would be 30
pub record Droppable (h : Header) (ps : List (List ℕ)) (roots : List ℕ) : Type 0 where
  pub inside : (x : ℕ) → IsIn x roots → x < h.maximum_index
  pub some : (i : ℕ) → i < length ps → Marked (marks_of h.minimum_index ps roots) i → (rs : List Ref) → refs_of (get_or ps i []) ≡ answered rs
      → (r : Ref) → In r rs → r.optional ≡ true → new_index h.minimum_index (marks_of h.minimum_index ps roots) r.index ≡ 0xffff → ⊥

-- What a second dropping starts from: the new payloads
abbrev pub payloads₂ : Header → List (List ℕ) → List ℕ → List (List ℕ)
payloads₂ h ps roots = kept_from h.minimum_index (marks_of h.minimum_index ps roots) 0 ps

-- the roots, renumbered
abbrev pub roots₂ : Header → List (List ℕ) → List ℕ → List ℕ
roots₂ h ps roots = map (new_index h.minimum_index (marks_of h.minimum_index ps roots)) roots

-- the new stream
abbrev pub stream₂ : List ℕ → Header → List (List ℕ) → List ℕ → List ℕ
stream₂ s h ps roots = new_stream s h (marks_of h.minimum_index ps roots) ps

-- and its header
abbrev pub header₂ : Header → List (List ℕ) → List ℕ → Header
header₂ h ps roots = new_header h (h.minimum_index + rank (marks_of h.minimum_index ps roots) (length ps))

-- R-13's promise of a stream s with this header, first cursor and payloads, and of these roots
pub record DropHolds (s : List ℕ) (h : Header) (c : ItemIter) (ps : List (List ℕ)) (roots : List ℕ) : Type 0 where
  -- kept are exactly the records reached
  pub only : (k : ℕ) → Marked (marks_of h.minimum_index ps roots) k → Reached (names_of h.minimum_index ps) (roots_from h.minimum_index roots) k
  pub all : (k : ℕ) → Reached (names_of h.minimum_index ps) (roots_from h.minimum_index roots) k → Marked (marks_of h.minimum_index ps roots) k
  -- the new stream has their records, and is fit
  pub prunes : Prunes s h c (marks_of h.minimum_index ps roots) ps
  -- each kept one is read alike but for its references
  pub alike : KeptAlike h.minimum_index (marks_of h.minimum_index ps roots) 0 ps
  -- "dropping twice with the renumbered roots changes nothing": all are kept, and the stream is the same
  pub all_again : (k : ℕ) → k < length (payloads₂ h ps roots) → Marked (marks_of h.minimum_index (payloads₂ h ps roots) (roots₂ h ps roots)) k
  pub twice : new_stream (stream₂ s h ps roots) (header₂ h ps roots) (marks_of h.minimum_index (payloads₂ h ps roots) (roots₂ h ps roots)) (payloads₂ h ps roots)
      ≡ stream₂ s h ps roots
  -- and the second table has each index for itself
  pub table_again : (k : ℕ) → k < length (payloads₂ h ps roots)
      → get_or (numbers h.minimum_index (marks_of h.minimum_index (payloads₂ h ps roots) (roots₂ h ps roots))) k 0 ≡ h.minimum_index + k

-- for every fit stream that has a header, and roots that are not refused
pub record Dropping : Type 0 where
  pub drops : (s : List ℕ) (h : Header) (c : ItemIter) (ps : List (List ℕ)) (roots : List ℕ) → Octets s → 0 < length s → header_of s ≡ answered h → iter_of stream.Types s ≡ answered c
      → fit_of s ≡ answered fit → ComesPast s c ps → Droppable h ps roots → DropHolds s h c ps roots
