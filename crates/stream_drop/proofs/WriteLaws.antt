-- The pass up that writes, over a fit stream's records, once the table has the new numbers: it leaves the links of the kept payloads,
-- renumbered; and behind the header it leaves the new stream. Assumes nothing.
use Prim.Native.Nat.{ℕ, ◌+◌, ◌-◌, ◌%◌, ◌≤◌, ◌<◌}
use native.Mathlib.Omega.{arith}
use mathlib.Core.Bool.{Bool, true, false}
use mathlib.Core.Path.{◌≡◌, refl, sym, ap, ◌∙◌}
use mathlib.Core.Logic.{◌⊎◌, inl, inr}
use mathlib.Core.List.{List, [], ◌∷◌}
use lib.ListN.{length, get_or, take}
use lib.Seq.{length-take-le}
use lib.Dec.{leb, ltb, eqb}
use borrow.Author.Tests.{leb-true, leb-false, le-leb, lt-ltb, le-ltb, eq-eqb, ne_eqb}
use Rattle.answer.specs.Answer.{pick}
use Rattle.field.specs.Fields.{little_at}
use Rattle.field.specs.Bytes.{bytes}
use Rattle.field.specs.Runs.{bytes_at}
use Rattle.field.proofs.RunLaws.{bytes-there}
use Rattle.field_put.specs.Bytes.{put, Octets}
use Rattle.field_put.proofs.PutLaws.{length-bytes, length-put, put-none, put-put}
use Rattle.stream_header.specs.declared.Header.{Header}
use Rattle.stream_item.specs.declared.iter.ItemIter.{ItemIter}
use Rattle.record_reference.specs.References.{Ref, refs_of}
use Rattle.record_rewrite.specs.Rewrite.{rewrite, Within, Stand}
use Rattle.record_rewrite.proofs.Settled.{little-alike}
use Rattle.record_rewrite.proofs.Places.{within-sooner, within-onward, put_four, put-octets, put_same, length-rewrite}
use Rattle.record_rewrite.proofs.Rewritten.{rewriting}
use Rattle.record_rewrite.proofs.InPlace.{put-into}
use Rattle.stream_fit.specs.Sentences.{In}
use Rattle.stream_prune.specs.Links.{link, links}
use Rattle.stream_prune.specs.Pruned.{Marked, rank, numbers, new_index, or_nothing, renumbered, kept_from, link_bytes, new_head, new_stream}
use Rattle.stream_prune.specs.Dropped.{IsIn, marks_of}
use Rattle.stream_prune.proofs.Numbers.{same_or, index_below}
use Rattle.stream_prune.proofs.MarkLaws.{marks-long}
use Rattle.stream_prune.proofs.LinkLaws.{link-length}
use Rattle.stream_prune.proofs.PrunedLaws.{new-length}
use Rattle.stream_prune.proofs.HeadLaws.{head-long, size-inside, size-least}
use Rattle.stream_prune.proofs.NewStream.{Old, op, new-long}
use Rattle.stream_drop.specs.Each.{held_of, laid, done, done_all, done_of}
use Rattle.stream_drop.specs.Passes.{link_laid, place_behind, up_at, up_from}
use Rattle.stream_drop.specs.declared.each.Job.TheVariants as job
use Rattle.stream_drop.proofs.DoneLaws.{done-refs}
use Rattle.stream_drop.proofs.UpLaws.{Known, AllKnown, Entries, entry_kept, entry-dropped, entry-index, all_known, all-entries}

-- Where there is room -------------------------------------------------------------------------------------------------------------------------

pub laid-there : (b : List ℕ) (p : ℕ) (bs : List ℕ) → p + length bs ≤ length b → laid b p bs ≡ put b p bs
unfolding laid
laid-there b p bs l = rw (le-leb _ _ l)

linked-there : (p : List ℕ) (q : ℕ) (b : List ℕ) → length p < 65536 → q + 2 + length p ≤ length b → link_laid p q b ≡ put (put b q (bytes 2 (length p))) (q + 2) p
unfolding link_laid
linked-there p q b h l =
    let z : length p % 65536 ≡ length p = omega arith in
    let xs = bytes 2 (length p) in
    let two : length xs ≡ 2 = length-bytes 2 (length p) in
    rw z (ap (λ x. laid x (q + 2) p) (laid-there b q xs (omega arith)) ∙ laid-there (put b q xs) (q + 2) p (omega (arith, length-put b q xs)))

-- a payload as long as the old one behind that length is its link
link-there : (p r : List ℕ) (q : ℕ) (b : List ℕ) → length r ≡ length p → put (put b q (bytes 2 (length p))) (q + 2) r ≡ put b q (link r)
unfolding link
link-there p r q b e =
    let two : 2 ≡ length (bytes 2 (length p)) = sym (length-bytes 2 (length p)) in
    rw e (ap (λ n. put (put b q (bytes 2 (length p))) (q + n) r) two ∙ put-put b q (bytes 2 (length p)) r)

-- the references behind one that is written stand as before
stand-put : (rs : List Ref) (p : List ℕ) (k n e : ℕ) → Within (k + 4) rs e → Stand p rs → Stand (put p k (bytes 4 n)) rs
unfolding Within Stand
stand-put [] p k n e w st = tt
stand-put (r ∷ rs) p k n e w st = (
  record { here = little-alike 4 p (put p k (bytes 4 n)) r.place (λ i x y. put_four p k n i (inr (omega (arith, w.0)))) ∙ st.0.here; some = st.0.some },
  stand-put rs p k n e (sooner rs w.0 w.1) st.1,
)
  where
    sooner : (us : List Ref) → k + 4 ≤ r.place → Within (r.place + 4) us e → Within (k + 4) us e
    sooner us l v = within-sooner us (k + 4) (r.place + 4) e (omega arith) v

-- One record ------------------------------------------------------------------------------------------------------------------------------------

module _ (minimum : ℕ) (ms t : List ℕ) (en : Entries minimum ms t) where
  write-one : (r : Ref) (at : ℕ) (g : Bool) (b p : List ℕ) → at + length p ≤ length b → r.place + 4 ≤ length p → Octets p → little_at 4 p r.place ≡ r.index
      → (minimum ≤ r.index → Marked ms (r.index - minimum))
      → done minimum (job.Write at) r (held_of g t (put b at p)) ≡ held_of g t (put b at (put p r.place (bytes 4 (new_index minimum ms r.index))))
  unfolding done
  write-one r at g b p l v o st k = go (leb minimum r.index) refl
    where
      go : (c : Bool) → leb minimum r.index ≡ c
          → pick (ltb r.index minimum) (held_of g t (put b at p)) (held_of g t (laid (put b at p) (at + r.place) (bytes 4 (get_or t (r.index - minimum) 0))))
          ≡ held_of g t (put b at (put p r.place (bytes 4 (new_index minimum ms r.index))))
      go true e =
          let u = leb-true minimum r.index e in
          let n = new_index minimum ms r.index in
          let four : length (bytes 4 n) ≡ 4 = length-bytes 4 n in
          rw (le-ltb r.index minimum u, entry-index minimum ms t en r.index u (k u))
          (ap (λ x. held_of g t x) (laid-there (put b at p) (at + r.place) (bytes 4 n) (omega (arith, length-put b at p)) ∙ sym (put-into b at p r.place (bytes 4 n) (omega arith) l)))
      go false e =
          let u = leb-false minimum r.index e in
          rw (lt-ltb r.index minimum u, index_below minimum ms r.index u)
          (ap (λ x. held_of g t (put b at x)) (sym (ap (λ y. put p r.place (bytes 4 y)) (sym st) ∙ put_same p r.place o v)))

  write-refs : (rs : List Ref) (at k : ℕ) (g : Bool) (b p : List ℕ) → at + length p ≤ length b → Within k rs (length p) → Octets p → Stand p rs
      → ((r : Ref) → In r rs → minimum ≤ r.index → Marked ms (r.index - minimum))
      → done_all minimum (job.Write at) rs (held_of g t (put b at p)) ≡ held_of g t (put b at (rewrite (new_index minimum ms) p rs))
  unfolding done_all rewrite Within Stand In
  write-refs [] at k g b p l w o st f = refl
  write-refs (r ∷ rs) at k g b p l w o st f =
      let n = new_index minimum ms r.index in
      let e : length (put p r.place (bytes 4 n)) ≡ length p = length-put p r.place (bytes 4 n) in
      let v = within-onward rs (r.place + 4) (length p) w.1 in
      ap (done_all minimum (job.Write at) rs) (write-one r at g b p l v o st.0.here (f r (inl refl)))
      ∙ write-refs rs at (r.place + 4) g b (put p r.place (bytes 4 n)) (omega arith) (rw e w.1) (put-octets p r.place n o) (stand-put rs p r.place n (length p) w.1 st.1) (λ y i. f y (inr i))

  write-record : (i q : ℕ) (g : Bool) (b p : List ℕ) → Known minimum ms i p → Marked ms i → q + 2 + length p ≤ length b
      → done_of minimum (job.Write (q + 2)) p (held_of g t (link_laid p q b)) ≡ held_of g t (put b q (link (renumbered minimum ms p)))
  unfolding renumbered
  write-record i q g b p k m l =
      let rs = k.refs in
      let f = new_index minimum ms in
      let xs = bytes 2 (length p) in
      let same : rewrite f p (or_nothing (refs_of p)) ≡ rewrite f p rs = ap (λ x. rewrite f p (or_nothing x)) k.are in
      done-refs minimum (job.Write (q + 2)) p rs (held_of g t (link_laid p q b)) k.are ∙ ap (λ x. done_all minimum (job.Write (q + 2)) rs (held_of g t x)) (linked-there p q b k.short l)
      ∙ write-refs rs (q + 2) 2 g (put b q xs) p (omega (arith, length-put b q xs)) (rewriting.apart p rs k.are) k.octets (rewriting.stand p rs k.are) (k.names m)
      ∙ ap (λ x. held_of g t x) (link-there p (rewrite f p rs) q b (length-rewrite f p rs) ∙ ap (λ x. put b q (link x)) (sym same))

  -- All of them --------------------------------------------------------------------------------------------------------------------------------------

  write-from : (i q : ℕ) (g : Bool) (b : List ℕ) (ps : List (List ℕ)) → i + length ps ≤ length ms → AllKnown minimum ms i ps → q + link_bytes ms i ps ≤ length b
      → up_from minimum true i q ps (held_of g t b) ≡ held_of g t (put b q (links (kept_from minimum ms i ps)))
  unfolding up_from AllKnown link_bytes kept_from links
  write-from i q g b [] l k room = ap (λ x. held_of g t x) (sym (put-none b q))
  write-from i q g b (p ∷ ps) l k room = go (same_or (get_or ms i 0) 1) room (λ y x. write-from (i + 1) y g x ps (omega arith) k.1)
    where
      go : (get_or ms i 0 ≡ 1) ⊎ (get_or ms i 0 ≡ 1 → ⊥) → q + (pick (eqb (get_or ms i 0) 1) (2 + length p) 0 + link_bytes ms (i + 1) ps) ≤ length b
          → ((y : ℕ) (x : List ℕ) → y + link_bytes ms (i + 1) ps ≤ length x → up_from minimum true (i + 1) y ps (held_of g t x) ≡ held_of g t (put x y (links (kept_from minimum ms (i + 1) ps))))
          → up_from minimum true (i + 1) (place_behind q (get_or t i 0) p) ps (up_at minimum true q (get_or t i 0) p (held_of g t b))
          ≡ held_of g t (put b q (links (pick (eqb (get_or ms i 0) 1) (renumbered minimum ms p ∷ kept_from minimum ms (i + 1) ps) (kept_from minimum ms (i + 1) ps))))
      go (inl m) room ih =
          let r = renumbered minimum ms p in
          let K = kept_from minimum ms (i + 1) ps in
          let there : q + (2 + length p + link_bytes ms (i + 1) ps) ≤ length b = rw (eq-eqb _ _ m) at room in
          let z : q + 2 + length p % 65536 ≡ q + length (link r) = omega (arith, k.0.short, link-length r, new-length minimum ms p) in
          rw (entry_kept minimum ms t en i m, eq-eqb _ _ m)
          (ap (up_from minimum true (i + 1) (q + 2 + length p % 65536) ps) (write-record i q g b p k.0 m (omega arith))
          ∙ ih (q + 2 + length p % 65536) (put b q (link r)) (omega (arith, k.0.short, length-put b q (link r)))
          ∙ ap (λ x. held_of g t x) (ap (λ n. put (put b q (link r)) n (links K)) z ∙ put-put b q (link r) (links K)))
      go (inr m) room ih =
          let there : q + (0 + link_bytes ms (i + 1) ps) ≤ length b = rw (ne_eqb _ _ m) at room in
          rw (entry-dropped minimum ms t en i (omega arith) m, ne_eqb _ _ m) (ih q b (omega arith))

-- Of a fit stream -----------------------------------------------------------------------------------------------------------------------------

module _ (s : List ℕ) (h : Header) (c : ItemIter) (ps : List (List ℕ)) (old : Old s h c ps) where
  -- the header is copied, then its maximum is written over
  pub head-all : (b : List ℕ) (maximum : ℕ) → h.header_size ≤ length b → laid (laid b 0 (bytes_at h.header_size s 0)) 12 (bytes 4 maximum) ≡ put b 0 (new_head s h maximum)
  unfolding new_head
  head-all b maximum l =
      let size = h.header_size in
      let o = op s h c ps old in
      let there : bytes_at size s 0 ≡ take size s = bytes-there size s 0 (omega (arith, size-inside s h o)) in
      let long : length (take size s) ≡ size = length-take-le size s (size-inside s h o) in
      let four : length (bytes 4 maximum) ≡ 4 = length-bytes 4 maximum in
      let least_size : 56 ≤ size = size-least s h o in
      rw there
      (ap (λ x. laid x 12 (bytes 4 maximum)) (laid-there b 0 (take size s) (omega arith))
      ∙ laid-there (put b 0 (take size s)) 12 (bytes 4 maximum) (omega (arith, length-put b 0 (take size s)))
      ∙ sym (put-into b 0 (take size s) 12 (bytes 4 maximum) (omega arith) (omega arith)))

module _ (s : List ℕ) (h : Header) (c : ItemIter) (ps : List (List ℕ)) (roots : List ℕ) (old : Old s h c ps) (inside : (x : ℕ) → IsIn x roots → x < h.maximum_index) where
  abbrev least : ℕ
  least = h.minimum_index

  abbrev ms : List ℕ
  ms = marks_of h.minimum_index ps roots

  module _ (t : List ℕ) (places : length ps ≤ length t) where
    -- the pass that writes leaves the links of the kept records at its place
    pub write-all : (q : ℕ) (b : List ℕ) → q + link_bytes ms 0 ps ≤ length b
        → up_from least true 0 q ps (held_of true (put t 0 (numbers least ms)) b) ≡ held_of true (put t 0 (numbers least ms)) (put b q (links (kept_from least ms 0 ps)))
    write-all q b room =
        write-from least ms (put t 0 (numbers least ms)) (all-entries s h c ps roots old inside t places) 0 q true b ps (omega (arith, marks-long least ps roots))
        (all_known s h c ps roots old inside) room

    -- behind the header that is the new stream
    pub stream-all : (b : List ℕ) → length (new_stream s h ms ps) ≤ length b
        → up_from least true 0 h.header_size ps (held_of true (put t 0 (numbers least ms)) (laid (laid b 0 (bytes_at h.header_size s 0)) 12 (bytes 4 (least + rank ms (length ps)))))
        ≡ held_of true (put t 0 (numbers least ms)) (put b 0 (new_stream s h ms ps))
    unfolding new_stream
    stream-all b l =
        let size = h.header_size in
        let maximum = least + rank ms (length ps) in
        let T = put t 0 (numbers least ms) in
        let H = new_head s h maximum in
        let L = links (kept_from least ms 0 ps) in
        let i = size-inside s h (op s h c ps old) in
        let long : length H ≡ size = head-long s h maximum i in
        let room : size + link_bytes ms 0 ps ≤ length b = omega (arith, l, new-long s h ms ps i) in
        let z : size ≡ 0 + length H = omega arith in
        ap (λ x. up_from least true 0 size ps (held_of true T x)) (head-all s h c ps old b maximum (omega arith)) ∙ write-all size (put b 0 H) (omega (arith, length-put b 0 H))
        ∙ ap (λ x. held_of true T x) (ap (λ n. put (put b 0 H) n L) z ∙ put-put b 0 H L)
