-- R-13's new stream, for any marks that are closed: its header, its walk, that it is fit, that its records read alike, how long it is, and that
-- nothing changes where all is kept. Assumes nothing.
use Prim.Native.Nat.{ℕ, zero, suc, ◌+◌, ◌^◌, ◌≤◌, ◌<◌}
use native.Mathlib.Omega.{arith}
use mathlib.Core.Path.{◌≡◌, refl, ap, sym, ◌∙◌}
use mathlib.Core.List.{List, [], ◌∷◌, ◌++◌, append-nil}
use lib.ListN.{length, drop, length-append, length-drop, take-append-drop}
use lib.Seq.{get_or-drop}
use Rattle.answer.specs.Answer.{answered}
use Rattle.field.specs.Fields.{little_at}
use Rattle.field.specs.Bytes.{bytes}
use Rattle.field.specs.declared.index.Stream.TheVariants as stream
use Rattle.field.proofs.FieldLaws.{little-below}
use Rattle.field.proofs.ByteLaws.{Stands, stands, bytes_small}
use Rattle.field_put.specs.Bytes.{put, Octets}
use Rattle.stream_header.specs.Header.{zero_header, header_of}
use Rattle.stream_header.specs.declared.Header.{Header}
use Rattle.stream_item.specs.Iterator.{yielded, iter_of, next_of}
use Rattle.stream_item.specs.declared.Item.{Item}
use Rattle.stream_item.specs.declared.iter.ItemIter.{ItemIter}
use Rattle.stream_item.proofs.NextLaws.{iter-is, yields}
use Rattle.stream_item.proofs.LinkLaws.{whole_is}
use Rattle.stream_fit.specs.Fit.{fit, fit_of, payload_of}
use Rattle.stream_fit.proofs.SentenceLaws.{first-index, first-at, sentences}
use Rattle.stream_prune.specs.Links.{link, links, AllLinkable, ComesPast, ends, past, AllGood}
use Rattle.stream_prune.specs.Pruned.{Marked, rank, kept_from, link_bytes, new_head, new_stream, new_header, AllClose, AllOctets, Prunes, KeptAlike, Pruning}
use Rattle.stream_prune.proofs.Numbers.{rank-first, rank_below, rank-all}
use Rattle.stream_prune.proofs.LinkLaws.{record-onward, links-walked, walked-links, walked-fit}
use Rattle.stream_prune.proofs.Walks.{fit_count, fit-good}
use Rattle.stream_prune.proofs.PrunedLaws.{new-kept, kept-count, kept-linkable, kept-octets, kept-good, kept-bytes, bytes_most, same-payloads}
use Rattle.stream_prune.proofs.HeadLaws.{Opened, opened, take-octets, head-long, head-octets, minimum-is, maximum-is, size-inside, size-least, new-header, same_head}

-- How long it is -------------------------------------------------------------------------------------------------------------------------

pub new-long : (s : List ℕ) (h : Header) (t : List ℕ) (ps : List (List ℕ)) → h.header_size ≤ length s → length (new_stream s h t ps) ≡ h.header_size + link_bytes t 0 ps
unfolding new_stream
new-long s h t ps l =
    let m = h.minimum_index + rank t (length ps) in
    let L = links (kept_from h.minimum_index t 0 ps) in
    omega (arith, length-append (new_head s h m) L, head-long s h m l, kept-bytes h.minimum_index t 0 ps)

-- Bytes ------------------------------------------------------------------------------------------------------------------------------------

both-octets : (a b : List ℕ) → Octets a → Octets b → Octets (a ++ b)
unfolding Octets
both-octets [] b x y i = y i
both-octets (c ∷ a) b x y zero = x 0
both-octets (c ∷ a) b x y (suc i) = both-octets a b (λ j. x (suc j)) y i

none-octets : Octets []
unfolding Octets
none-octets i = omega arith

bytes-octets : (k n : ℕ) → Octets (bytes k n)
unfolding Octets
bytes-octets k n = bytes_small k n

links-octets : (ps : List (List ℕ)) → AllOctets ps → Octets (links ps)
unfolding AllOctets links link
links-octets [] o = none-octets
links-octets (p ∷ ps) o = both-octets (bytes 2 (length p) ++ p) (links ps) (both-octets (bytes 2 (length p)) p (bytes-octets 2 (length p)) o.0) (links-octets ps o.1)

payload-octets : (s : List ℕ) (c : ItemIter) (i : Item) (d : ItemIter) → Octets s → next_of s c ≡ answered (yielded i d) → Octets (payload_of s i)
unfolding Octets
payload-octets s c i d o e = rw (record-onward s c i d e).bytes (take-octets i.length (drop i.place s) (λ j. rw (get_or-drop i.place s j 0) (o (i.place + j))))

length-small : (s : List ℕ) (q : ℕ) → Octets s → little_at 2 s q < 65536
unfolding Octets
length-small s q o = little-below 2 s q o

index-small : (s : List ℕ) (q : ℕ) → Octets s → little_at 4 s q < 4294967296
unfolding Octets
index-small s q o = little-below 4 s q o

-- what a walk says of the payloads
record Facts (c : ItemIter) (ps : List (List ℕ)) : Type 0 where
  linkable : AllLinkable ps
  octets : AllOctets ps
  indices : c.index ≤ 4294967295 → c.index + length ps ≤ 4294967295

walked-facts : (s : List ℕ) (c : ItemIter) (ps : List (List ℕ)) → Octets s → ComesPast s c ps → Facts c ps
unfolding AllLinkable AllOctets
walked-facts s c ps o (ends e) = record { linkable = tt; octets = tt; indices = λ l. omega arith }
walked-facts s c ps o (past {d = d} {i = i} {p = p} {ps = qs} e f w) =
    let y = yields s c i d e in
    let k = whole_is s c.at i.place i.length y.whole in
    let r = walked-facts s d qs o w in
    let n : length (payload_of s i) ≡ i.length = (record-onward s c i d e).long in
    record {
      linkable = (rw (← f) (record { long = omega (arith, y.long); short = omega (arith, k.len, length-small s c.at o) }), r.linkable);
      octets = (rw (← f) (payload-octets s c i d o e), r.octets);
      indices = λ l. omega (arith, y.index, y.left, r.indices (omega (arith, y.index, y.left)));
    }

alike_from : (minimum : ℕ) (t : List ℕ) → 0x1000 ≤ minimum → (i : ℕ) (ps : List (List ℕ)) → AllOctets ps → AllClose minimum t i ps → KeptAlike minimum t i ps
unfolding AllOctets AllClose KeptAlike
alike_from minimum t up i [] o cl = tt
alike_from minimum t up i (p ∷ ps) o cl = (λ m rs at. new-kept minimum t p rs at up o.0 (cl.0 m), alike_from minimum t up (i + 1) ps o.1 cl.1)

-- The old stream ---------------------------------------------------------------------------------------------------------------------------

-- a fit stream that has a header, its first cursor and its payloads
pub record Old (s : List ℕ) (h : Header) (c : ItemIter) (ps : List (List ℕ)) : Type 0 where
  pub bytes : Octets s
  pub filled : 0 < length s
  pub header : header_of s ≡ answered h
  pub iter : iter_of stream.Types s ≡ answered c
  pub yes : fit_of s ≡ answered fit
  pub walked : ComesPast s c ps

module _ (s : List ℕ) (h : Header) (c : ItemIter) (ps : List (List ℕ)) (old : Old s h c ps) where
  pub op : Opened s h
  op = opened s h old.filled old.header

  pub low : 0x1000 ≤ h.minimum_index
  low = omega (arith, minimum-is s h op, op.low)

  index_is : c.index ≡ h.minimum_index
  index_is = first-index s h c old.header old.iter

  at-is : h.header_size ≡ c.at
  at-is = first-at s h c old.header old.iter

  facts : Facts c ps
  facts = walked-facts s c ps old.bytes old.walked

  pub octets : AllOctets ps
  octets = facts.octets

  pub goods : AllGood h.minimum_index h.minimum_index ps
  goods = fit-good s h c old.header old.iter old.yes ps old.walked

  goods-from : AllGood h.minimum_index (h.minimum_index + 0) ps
  goods-from = let z : h.minimum_index + 0 ≡ h.minimum_index = omega arith in rw z goods

  -- as many as the header says
  pub count : h.minimum_index + length ps ≡ h.maximum_index
  count = omega (arith, fit_count s h c old.header old.iter old.yes ps old.walked, op.up, minimum-is s h op, maximum-is s h op)

  bound : h.minimum_index + length ps ≤ 4294967295
  bound = omega (arith, facts.indices (omega (arith, index_is, minimum-is s h op, index-small s 8 old.bytes)), index_is)

  old-links : drop h.header_size s ≡ links ps
  old-links = ap (λ x. drop x s) at-is ∙ walked-links s c ps old.bytes (omega (arith, at-is, size-inside s h op)) old.walked

  -- The new stream ---------------------------------------------------------------------------------------------------------------------------

  module _ (t : List ℕ) where
    small : h.minimum_index + rank t (length ps) < 2 ^ 32
    small = omega (arith, bound, rank_below t (length ps))

    -- never longer than the old
    pub new-shorter : length (new_stream s h t ps) ≤ length s
    new-shorter = omega (arith, new-long s h t ps (size-inside s h op), bytes_most t 0 ps, ap length old-links, length-drop h.header_size s, size-inside s h op)

    pub new-octets : Octets (new_stream s h t ps)
    unfolding new_stream
    new-octets =
        let m = h.minimum_index + rank t (length ps) in
        let qs = kept_from h.minimum_index t 0 ps in
        both-octets (new_head s h m) (links qs) (head-octets s h m old.bytes) (links-octets qs (kept-octets h.minimum_index t 0 ps octets))

    pub new-filled : 0 < length (new_stream s h t ps)
    new-filled = omega (arith, new-long s h t ps (size-inside s h op), size-least s h op)

    new-head : header_of (new_stream s h t ps) ≡ answered (new_header h (h.minimum_index + rank t (length ps)))
    unfolding new_stream
    new-head =
        new-header s h op (h.minimum_index + rank t (length ps)) small (links (kept_from h.minimum_index t 0 ps)) (omega (arith, new-shorter, op.sized.there.short)) (omega arith)

    new-begun : iter_of stream.Types (new_stream s h t ps) ≡ answered c
    new-begun = iter-is stream.Types (new_stream s h t ps) _ new-head ∙ sym (iter-is stream.Types s h old.header) ∙ old.iter

    -- as many as are kept
    pub new-count : length (kept_from h.minimum_index t 0 ps) ≡ rank t (length ps)
    new-count = let z : 0 + length ps ≡ length ps = omega arith in omega (arith, rw z at (kept-count h.minimum_index t 0 ps), rank-first t)

    new-walked : ComesPast (new_stream s h t ps) c (kept_from h.minimum_index t 0 ps)
    unfolding new_stream
    new-walked =
        let m = h.minimum_index + rank t (length ps) in
        let qs = kept_from h.minimum_index t 0 ps in
        let st : Stands (new_head s h m ++ (links qs ++ [])) (length (new_head s h m)) (links qs) [] = stands (new_head s h m) (links qs) [] in
        let z : length (new_head s h m) ≡ c.at = head-long s h m (size-inside s h op) ∙ at-is in
        links-walked qs (new_stream s h t ps) c (rw z at (rw (append-nil (links qs)) at st)) (kept-linkable h.minimum_index t 0 ps facts.linkable)
        (omega (arith, new-shorter, op.sized.there.short)) (omega (arith, bound, index_is, new-count, rank_below t (length ps)))

    module _ (cl : AllClose h.minimum_index t 0 ps) where
      pub new-goods : AllGood h.minimum_index h.minimum_index (kept_from h.minimum_index t 0 ps)
      new-goods =
          let z : h.minimum_index + rank t 0 ≡ h.minimum_index = omega (arith, rank-first t) in
          rw z at (kept-good h.minimum_index t low 0 ps octets cl goods-from)

      new-fit : fit_of (new_stream s h t ps) ≡ answered fit
      new-fit =
          let k = new_header h (h.minimum_index + rank t (length ps)) in
          sentences.complete (new_stream s h t ps) k c new-head new-begun
          (walked-fit (new_stream s h t ps) k c (kept_from h.minimum_index t 0 ps) new-walked (rw index_is new-goods) (omega (arith, new-count)))

      pub prunes : Prunes s h c t ps
      prunes = record { head = new-head; begun = new-begun; walked = new-walked; fit_again = new-fit }

      -- the new stream is such a stream too
      pub renewed : Old (new_stream s h t ps) (new_header h (h.minimum_index + rank t (length ps))) c (kept_from h.minimum_index t 0 ps)
      renewed = record { bytes = new-octets; filled = new-filled; header = new-head; iter = new-begun; yes = new-fit; walked = new-walked }

      pub kept-alike : KeptAlike h.minimum_index t 0 ps
      kept-alike = alike_from h.minimum_index t low 0 ps octets cl

    -- Where all are kept: dropping twice
    module _ (all : (i : ℕ) → i < length ps → Marked t i) where
      same-maximum : h.minimum_index + rank t (length ps) ≡ h.maximum_index
      same-maximum = omega (arith, rank-all t (length ps) all, count)

      pub same-stream : new_stream s h t ps ≡ s
      unfolding new_stream
      same-stream =
          let k : kept_from h.minimum_index t 0 ps ≡ ps = same-payloads h.minimum_index t (length ps) all 0 ps (omega arith) octets goods-from in
          rw (same-maximum, same_head s h op old.bytes, k, ← old-links) (take-append-drop h.header_size s)

new-empty : (t : List ℕ) → new_stream [] zero_header t [] ≡ []
unfolding new_stream new_head kept_from links put bytes
new-empty t = refl

pub pruning : Pruning
pruning = record {
  new = λ s h c t ps o l e i y w cl. prunes s h c ps (record { bytes = o; filled = l; header = e; iter = i; yes = y; walked = w }) t cl;
  alike = λ s h c t ps o l e i y w cl. kept-alike s h c ps (record { bytes = o; filled = l; header = e; iter = i; yes = y; walked = w }) t cl;
  same = λ s h c t ps o l e i y w all. same-stream s h c ps (record { bytes = o; filled = l; header = e; iter = i; yes = y; walked = w }) t all;
  empty_stream = new-empty;
}
