-- R-13 of document 02: "exactly the records reached .., in their old order, renumbered from the old minimum without holes, references
-- rewritten, the header kept but for its maximum, and all other payload bytes kept". The new stream, from the old one's payloads and a table
-- of marks, 1 for kept. Which records are marked is said elsewhere; here it is asked only that what a kept record names is kept.
use Rattle.std.specs.Prelude.{ℕ, zero, suc, ◌+◌, ◌-◌, ◌≤◌, ◌<◌, true, ◌≡◌, List, [], ◌∷◌, ◌++◌, length, get_or, take, leb, eqb}
use Rattle.answer.specs.Answer.{Answer, answered, refused, pick}
use Rattle.field.specs.Bytes.{bytes}
use Rattle.field_put.specs.Bytes.{put, Octets}
use Rattle.stream_header.specs.Header.{zero_header, header_of}
use Rattle.stream_header.specs.declared.Header.{Header}
use Rattle.stream_item.specs.Iterator.{iter_of}
use Rattle.field.specs.declared.index.Stream.TheVariants as stream
use Rattle.stream_item.specs.declared.iter.ItemIter.{ItemIter}
use Rattle.record_reference.specs.References.{Ref, refs_of}
use Rattle.record_rewrite.specs.Rewrite.{rewrite}
use Rattle.record_rewrite.specs.Kept.{Kept}
use Rattle.stream_fit.specs.Fit.{fit, fit_of}
use Rattle.stream_fit.specs.Sentences.{In}
use Rattle.stream_prune.specs.Links.{links, ComesPast}

-- record i is marked, that is, kept
abbrev pub Marked : List ℕ → ℕ → Type 0
Marked t i = get_or t i 0 ≡ 1

-- how many are kept before i
unfoldable pub rank : List ℕ → ℕ → ℕ
rank t zero = 0
rank t (suc i) = rank t i + pick (eqb (get_or t i 0) 1) 1 0

-- the new numbers, one for each mark: the next one of a kept record, 0 of a dropped one
unfoldable pub numbers : ℕ → List ℕ → List ℕ
numbers next [] = []
numbers next (m ∷ ms) = pick (eqb m 1) (next ∷ numbers (next + 1) ms) (0 ∷ numbers next ms)

-- the new index of an old one; what is below the minimum stays
unfoldable pub new_index : ℕ → List ℕ → ℕ → ℕ
new_index minimum t n = pick (leb minimum n) (minimum + rank t (n - minimum)) n

-- the references, none where they are refused
abbrev pub or_nothing : Answer (List Ref) → List Ref
or_nothing (answered rs) = rs
or_nothing (refused n d) = []

-- a payload with its references renumbered
unfoldable pub renumbered : ℕ → List ℕ → List ℕ → List ℕ
renumbered minimum t p = rewrite (new_index minimum t) p (or_nothing (refs_of p))

-- the payloads that are kept, of those numbered from i on
unfoldable pub kept_from : ℕ → List ℕ → ℕ → List (List ℕ) → List (List ℕ)
kept_from minimum t i [] = []
kept_from minimum t i (p ∷ ps) = pick (eqb (get_or t i 0) 1) (renumbered minimum t p ∷ kept_from minimum t (i + 1) ps) (kept_from minimum t (i + 1) ps)

-- how many bytes the links of these kept payloads take
unfoldable pub link_bytes : List ℕ → ℕ → List (List ℕ) → ℕ
link_bytes t i [] = 0
link_bytes t i (p ∷ ps) = pick (eqb (get_or t i 0) 1) (2 + length p) 0 + link_bytes t (i + 1) ps

-- the header kept but for its maximum
unfoldable pub new_head : List ℕ → Header → ℕ → List ℕ
new_head s h maximum = put (take h.header_size s) 12 (bytes 4 maximum)

-- the new stream: that header, with as many records as are kept, then these
unfoldable pub new_stream : List ℕ → Header → List ℕ → List (List ℕ) → List ℕ
new_stream s h t ps = new_head s h (h.minimum_index + rank t (length ps)) ++ links (kept_from h.minimum_index t 0 ps)

-- what the new header reads as
abbrev pub new_header : Header → ℕ → Header
new_header h maximum = record {
  version = h.version;
  header_size = h.header_size;
  minimum_index = h.minimum_index;
  maximum_index = maximum;
  gprec_size = h.gprec_size;
  tpi_hash_stream = h.tpi_hash_stream;
  tpi_hash_pad_stream = h.tpi_hash_pad_stream;
  hash_key_size = h.hash_key_size;
  hash_bucket_size = h.hash_bucket_size;
  hash_values = h.hash_values;
  ti_off = h.ti_off;
  hash_adj = h.hash_adj;
}

-- of a kept payload: what it names from the minimum on is kept; and no optional reference would become 0xffff, which would be 30
pub record Closes (minimum : ℕ) (t p : List ℕ) : Type 0 where
  pub named : (rs : List Ref) → refs_of p ≡ answered rs → (r : Ref) → In r rs → minimum ≤ r.index → Marked t (r.index - minimum)
  pub some : (rs : List Ref) → refs_of p ≡ answered rs → (r : Ref) → In r rs → r.optional ≡ true → new_index minimum t r.index ≡ 0xffff → ⊥

-- each kept payload closes, of those numbered from i on
unfoldable pub AllClose : ℕ → List ℕ → ℕ → List (List ℕ) → Type 0
AllClose minimum t i [] = Unit
AllClose minimum t i (p ∷ ps) = (Marked t i → Closes minimum t p) × AllClose minimum t (i + 1) ps

-- each payload is a list of bytes
unfoldable pub AllOctets : List (List ℕ) → Type 0
AllOctets [] = Unit
AllOctets (p ∷ ps) = Octets p × AllOctets ps

-- R-13's promise of the new stream ------------------------------------------------------------------------------------------------------

-- Of a fit stream s that has a header and whose payloads are ps: the new one's header is the old but for its maximum, its walk comes past the
-- kept payloads, and it is fit
pub record Prunes (s : List ℕ) (h : Header) (c : ItemIter) (t : List ℕ) (ps : List (List ℕ)) : Type 0 where
  pub head : header_of (new_stream s h t ps) ≡ answered (new_header h (h.minimum_index + rank t (length ps)))
  pub begun : iter_of stream.Types (new_stream s h t ps) ≡ answered c
  pub walked : ComesPast (new_stream s h t ps) c (kept_from h.minimum_index t 0 ps)
  pub fit_again : fit_of (new_stream s h t ps) ≡ answered fit

-- each kept record is read alike but for its references
unfoldable pub KeptAlike : ℕ → List ℕ → ℕ → List (List ℕ) → Type 0
KeptAlike minimum t i [] = Unit
KeptAlike minimum t i (p ∷ ps) =
    (Marked t i → (rs : List Ref) → refs_of p ≡ answered rs → Kept (new_index minimum t) p rs (renumbered minimum t p)) × KeptAlike minimum t (i + 1) ps

-- for any marks that are closed, of any fit stream that has a header
pub record Pruning : Type 0 where
  -- the new stream is as promised
  pub new : (s : List ℕ) (h : Header) (c : ItemIter) (t : List ℕ) (ps : List (List ℕ)) → Octets s → 0 < length s → header_of s ≡ answered h → iter_of stream.Types s ≡ answered c
      → fit_of s ≡ answered fit → ComesPast s c ps → AllClose h.minimum_index t 0 ps → Prunes s h c t ps
  -- its records read alike
  pub alike : (s : List ℕ) (h : Header) (c : ItemIter) (t : List ℕ) (ps : List (List ℕ)) → Octets s → 0 < length s → header_of s ≡ answered h → iter_of stream.Types s ≡ answered c
      → fit_of s ≡ answered fit → ComesPast s c ps → AllClose h.minimum_index t 0 ps → KeptAlike h.minimum_index t 0 ps
  -- where all are kept, the new stream is the old one: dropping twice
  pub same : (s : List ℕ) (h : Header) (c : ItemIter) (t : List ℕ) (ps : List (List ℕ)) → Octets s → 0 < length s → header_of s ≡ answered h → iter_of stream.Types s ≡ answered c
      → fit_of s ≡ answered fit → ComesPast s c ps → ((i : ℕ) → i < length ps → Marked t i) → new_stream s h t ps ≡ s
  -- the empty stream has no header to keep
  pub empty_stream : (t : List ℕ) → new_stream [] zero_header t [] ≡ []
