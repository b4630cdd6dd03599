-- The pass down over a fit stream's records leaves the marks of what the roots reach, and the pass after it their new numbers. Assumes nothing.
use Prim.Native.Nat.{ℕ, zero, suc, ◌+◌, ◌-◌, ◌*◌, ◌%◌, ◌≤◌, ◌<◌}
use native.Mathlib.Omega.{arith}
use mathlib.Core.Bool.{Bool, true, false}
use mathlib.Core.Path.{◌≡◌, refl, ap, sym, ◌∙◌}
use mathlib.Core.Logic.{◌⊎◌, inl, inr}
use mathlib.Core.List.{List, [], ◌∷◌, map}
use lib.ListN.{length, get_or, replicate, length-replicate, length-append, length-drop, length-map, get_or-map}
use lib.Dec.{eqb}
use borrow.Author.Tests.{lt-ltb, le-ltb, eq-eqb, ne_eqb}
use Rattle.answer.specs.Answer.{Answer, answered, refused, pick}
use Rattle.field.specs.Runs.{bytes_at}
use Rattle.field.proofs.FieldLaws.{little-below}
use Rattle.field_put.specs.Bytes.{put, Octets}
use Rattle.stream_header.specs.declared.Header.{Header}
use Rattle.stream_item.specs.Iterator.{Next, done, yielded, next_of}
use Rattle.stream_item.specs.declared.iter.ItemIter.{ItemIter}
use Rattle.stream_item.proofs.NextLaws.{yields}
use Rattle.stream_item.proofs.LinkLaws.{whole_is}
use Rattle.record_reference.specs.References.{Ref, refs_of}
use Rattle.record_reference.proofs.DecodedLaws.{has-exactly}
use Rattle.stream_fit.specs.Fit.{payload_of}
use Rattle.stream_fit.proofs.SentenceLaws.{first-at}
use Rattle.stream_prune.specs.Links.{link, links, ComesPast, ends, past, payloads_by, payloads_from}
use Rattle.stream_prune.specs.Pruned.{rank, numbers, link_bytes}
use Rattle.stream_prune.specs.Dropped.{IsIn, mark_all, visit, pass, marks, numbers_of, roots_from, names_of, marks_of}
use Rattle.stream_prune.proofs.Numbers.{same_or}
use Rattle.stream_prune.proofs.MarkLaws.{Bits, mark_all-length, visit-length, marks-long, marks-bits}
use Rattle.stream_prune.proofs.LinkLaws.{link-length, record-onward, walked-links}
use Rattle.stream_prune.proofs.HeadLaws.{size-inside}
use Rattle.stream_prune.proofs.NewStream.{Old, op, goods, count}
use Rattle.stream_prune.proofs.DroppedLaws.{good-at}
use Rattle.stream_drop.specs.Each.{held_of, done_of}
use Rattle.stream_drop.specs.Passes.{lengths_in, roots_in, visited, down_from, Numbered, number_from}
use Rattle.stream_drop.specs.declared.each.Job.TheVariants as job
use Rattle.stream_drop.proofs.DoneLaws.{done-refs}
use Rattle.stream_drop.proofs.TableLaws.{packed, Small, lengths-all, clean-bits, mark_all-bits, entry, roots-packed, marks-packed, numbering, number-packed}

-- Where the records stand ---------------------------------------------------------------------------------------------------------------

-- where record i starts, of payloads whose first link is at place a
unfoldable pub spot : ℕ → List (List ℕ) → ℕ → ℕ
spot a ps zero = a
spot a [] (suc i) = a
spot a (p ∷ ps) (suc i) = spot (a + 2 + length p) ps i

pub spot-first : (a : ℕ) (ps : List (List ℕ)) → spot a ps 0 ≡ a
unfolding spot
spot-first a ps = refl

pub spot-next : (a : ℕ) (ps : List (List ℕ)) (i : ℕ) → i < length ps → spot a ps (suc i) ≡ spot a ps i + 2 + length (get_or ps i [])
unfolding spot
spot-next a [] i l = absurd (omega arith)
spot-next a (p ∷ ps) zero l = refl
spot-next a (p ∷ ps) (suc i) l = spot-next (a + 2 + length p) ps i (omega arith)

pub spot-last : (a : ℕ) (ps : List (List ℕ)) → spot a ps (length ps) ≡ a + length (links ps)
unfolding spot links
spot-last a [] = omega arith
spot-last a (p ∷ ps) = omega (arith, spot-last (a + 2 + length p) ps, length-append (link p) (links ps), link-length p)

-- its payload is there
pub spot-bytes : (s : List ℕ) (c : ItemIter) (ps : List (List ℕ)) → ComesPast s c ps → (i : ℕ) → i < length ps
    → bytes_at (length (get_or ps i [])) s (spot c.at ps i + 2) ≡ get_or ps i []
unfolding spot
spot-bytes s c ps (ends e) i l = absurd (omega arith)
spot-bytes s c ps (past {d = d} {i = x} {p = p} {ps = qs} e f w) zero l =
    let n : x.length ≡ length p = sym (record-onward s c x d e).long ∙ ap length f in
    let a : x.place ≡ c.at + 2 = (whole_is s c.at x.place x.length (yields s c x d e).whole).start in
    ap (λ k. bytes_at k s (c.at + 2)) (sym n) ∙ ap (bytes_at x.length s) (sym a) ∙ f
spot-bytes s c ps (past {d = d} {i = x} {p = p} {ps = qs} e f w) (suc i) l =
    let n : x.length ≡ length p = sym (record-onward s c x d e).long ∙ ap length f in
    let a : x.place ≡ c.at + 2 = (whole_is s c.at x.place x.length (yields s c x d e).whole).start in
    let z : d.at ≡ c.at + 2 + length p = omega (arith, (yields s c x d e).at) in
    ap (λ k. bytes_at (length (get_or qs i [])) s (spot k qs i + 2)) (sym z) ∙ spot-bytes s d qs w i (omega arith)

pub walked-small : (s : List ℕ) (c : ItemIter) (ps : List (List ℕ)) → Octets s → ComesPast s c ps → Small (map length ps)
unfolding Octets
walked-small s c ps o (ends e) i = omega arith
walked-small s c ps o (past {d = d} {i = x} {p = p} {ps = qs} e f w) zero =
    let n : x.length ≡ length p = sym (record-onward s c x d e).long ∙ ap length f in
    let k = whole_is s c.at x.place x.length (yields s c x d e).whole in
    omega (arith, n, k.len, little-below 2 s c.at o)
walked-small s c ps o (past {d = d} {i = x} {p = p} {ps = qs} e f w) (suc i) = walked-small s d qs o w i

-- What one record leaves ----------------------------------------------------------------------------------------------------------------

visit-marked : (minimum : ℕ) (ps : List (List ℕ)) (i : ℕ) (ms : List ℕ) (rs : List Ref) → refs_of (get_or ps i []) ≡ answered rs → get_or ms i 0 ≡ 1
    → visit (names_of minimum ps) i ms ≡ mark_all (numbers_of minimum rs) ms
unfolding visit names_of
visit-marked minimum ps i ms rs e m = rw (eq-eqb _ _ m, e)

visit-clear : (minimum : ℕ) (ps : List (List ℕ)) (i : ℕ) (ms : List ℕ) → (get_or ms i 0 ≡ 1 → ⊥) → visit (names_of minimum ps) i ms ≡ ms
unfolding visit
visit-clear minimum ps i ms m = rw (ne_eqb _ _ m)

visit-bits : (refs : ℕ → List ℕ) (i : ℕ) (ms : List ℕ) → Bits ms → Bits (visit refs i ms)
unfolding visit
visit-bits refs i ms h = go (eqb (get_or ms i 0) 1)
  where
    go : (x : Bool) → Bits (pick x (mark_all (refs i) ms) ms)
    go true = mark_all-bits (refs i) ms h
    go false = h

module _ (s : List ℕ) (h : Header) (c : ItemIter) (ps : List (List ℕ)) (old : Old s h c ps) (t : List ℕ) (room : length ps ≤ length t) where
  abbrev least : ℕ
  least = h.minimum_index

  abbrev ls : List ℕ
  ls = map length ps

  small : Small ls
  small = walked-small s c ps old.bytes old.walked

  long : length ls ≡ length ps
  long = length-map ps length

  room_for : length ls ≤ length t
  room_for = omega (arith, long)

  length_at : (i : ℕ) → get_or ls i 0 ≡ length (get_or ps i [])
  length_at i = get_or-map length ps i []

  -- an entry's two parts
  entry_at : (ms : List ℕ) (i : ℕ) → length ms ≡ length ps → i < length ps → get_or (put t 0 (packed ls ms)) i 0 ≡ length (get_or ps i []) + 65536 * get_or ms i 0
  entry_at ms i e l = entry t ls small room_for ms i (omega (arith, long)) (omega arith) ∙ ap (λ x. x + 65536 * get_or ms i 0) (length_at i)

  entry-low : (ms : List ℕ) (i : ℕ) → length ms ≡ length ps → i < length ps → get_or (put t 0 (packed ls ms)) i 0 % 65536 ≡ length (get_or ps i [])
  entry-low ms i e l =
      let x = get_or ms i 0 in
      let y = length (get_or ps i []) in
      ap (λ z. z % 65536) (entry_at ms i e l) ∙ low y x (omega (arith, small i, length_at i))
    where
      low : (y x : ℕ) → y < 65536 → (y + 65536 * x) % 65536 ≡ y
      low y x b = omega arith

  module _ (g : Bool) (b : List ℕ) where
    visited-packed : (ms : List ℕ) (i : ℕ) → length ms ≡ length ps → Bits ms → i < length ps
        → visited least s (get_or (put t 0 (packed ls ms)) i 0) (spot c.at ps i + 2) (held_of g (put t 0 (packed ls ms)) b)
        ≡ held_of g (put t 0 (packed ls (visit (names_of least ps) i ms))) b
    visited-packed ms i e k l = go (same_or (get_or ms i 0) 1)
      where
        go : (get_or ms i 0 ≡ 1) ⊎ (get_or ms i 0 ≡ 1 → ⊥) → visited least s (get_or (put t 0 (packed ls ms)) i 0) (spot c.at ps i + 2) (held_of g (put t 0 (packed ls ms)) b)
            ≡ held_of g (put t 0 (packed ls (visit (names_of least ps) i ms))) b
        go (inl m) =
            let v = get_or (put t 0 (packed ls ms)) i 0 in
            let x = held_of g (put t 0 (packed ls ms)) b in
            let up : 65536 ≤ get_or (put t 0 (packed ls ms)) i 0 = omega (arith, entry_at ms i e l, m) in
            let a = good-at least least ps i (goods s h c ps old) l in
            let r = has-exactly.decoded_has (get_or ps i []) a.decodes in
            ap (λ y. pick y x (done_of least job.Mark (bytes_at (v % 65536) s (spot c.at ps i + 2)) x)) (le-ltb v 65536 up)
            ∙ ap (λ y. done_of least job.Mark (bytes_at y s (spot c.at ps i + 2)) x) (entry-low ms i e l)
            ∙ ap (λ y. done_of least job.Mark y x) (spot-bytes s c ps old.walked i l)
            ∙ done-refs least job.Mark (get_or ps i []) r.refs x r.are
            ∙ marks-packed t ls small room_for least r.refs ms g b (omega (arith, long)) k (λ y j u. omega (arith, a.order r.refs r.are y j u))
            ∙ ap (λ y. held_of g (put t 0 (packed ls y)) b) (sym (visit-marked least ps i ms r.refs r.are m))
        go (inr m) =
            let v = get_or (put t 0 (packed ls ms)) i 0 in
            let x = held_of g (put t 0 (packed ls ms)) b in
            let down : get_or (put t 0 (packed ls ms)) i 0 < 65536 = omega (arith, entry_at ms i e l, k i, m, small i, length_at i) in
            ap (λ y. pick y x (done_of least job.Mark (bytes_at (v % 65536) s (spot c.at ps i + 2)) x)) (lt-ltb v 65536 down)
            ∙ ap (λ y. held_of g (put t 0 (packed ls y)) b) (sym (visit-clear least ps i ms m))

    -- The pass ------------------------------------------------------------------------------------------------------------------------

    -- of the first i records, from where the next one starts
    pub down-from : (i : ℕ) (ms : List ℕ) → i ≤ length ps → length ms ≡ length ps → Bits ms
        → down_from h.minimum_index s i (spot c.at ps i) (held_of g (put t 0 (packed (map length ps) ms)) b)
        ≡ held_of g (put t 0 (packed (map length ps) (pass (names_of h.minimum_index ps) i ms))) b
    unfolding down_from pass
    down-from zero ms l e k = refl
    down-from (suc i) ms l e k =
        let v = get_or (put t 0 (packed ls ms)) i 0 in
        let x = held_of g (put t 0 (packed ls ms)) b in
        let place : spot c.at ps (suc i) - v % 65536 ≡ spot c.at ps i + 2 = omega (arith, spot-next c.at ps i l, entry-low ms i e l) in
        let before : spot c.at ps (suc i) - v % 65536 - 2 ≡ spot c.at ps i = omega (arith, place) in
        ap (λ y. down_from least s i y (visited least s v (spot c.at ps (suc i) - v % 65536) x)) before
        ∙ ap (λ y. down_from least s i (spot c.at ps i) (visited least s v y x)) place
        ∙ ap (down_from least s i (spot c.at ps i)) (visited-packed ms i e k l)
        ∙ down-from i (visit (names_of least ps) i ms) (omega arith) (visit-length (names_of least ps) i ms ∙ e) (visit-bits (names_of least ps) i ms k)

    -- the last record ends where the stream does
    ends_there : spot c.at ps (length ps) ≡ length s
    ends_there =
        let a : c.at ≤ length s = omega (arith, first-at s h c old.header old.iter, size-inside s h (op s h c ps old)) in
        omega (arith, spot-last c.at ps, ap length (walked-links s c ps old.bytes a old.walked), length-drop c.at s)

    pub down-packed : (ms : List ℕ) → length ms ≡ length ps → Bits ms
        → down_from h.minimum_index s (length ps) (length s) (held_of g (put t 0 (packed (map length ps) ms)) b)
        ≡ held_of g (put t 0 (packed (map length ps) (pass (names_of h.minimum_index ps) (length ps) ms))) b
    down-packed ms e k =
        ap (λ y. down_from least s (length ps) y (held_of g (put t 0 (packed ls ms)) b)) (sym ends_there) ∙ down-from (length ps) ms (omega arith) e k

    -- from the lengths and the roots
    pub down-all : (roots : List ℕ) → ((x : ℕ) → IsIn x roots → x < h.maximum_index)
        → down_from h.minimum_index s (length ps) (length s) (held_of g (roots_in h.minimum_index roots (lengths_in 0 ps t)) b)
        ≡ held_of g (put t 0 (packed (map length ps) (marks_of h.minimum_index ps roots))) b
    unfolding marks_of marks
    down-all roots inside =
        let clean : List ℕ = replicate (length ps) 0 in
        let n : length clean ≡ length ps = length-replicate (length ps) 0 in
        ap (λ y. down_from least s (length ps) (length s) (held_of g y b))
        (ap (roots_in least roots) (lengths-all ps t small)
        ∙ roots-packed t ls small room_for least roots clean (long ∙ sym n) (clean-bits (length ps)) (λ x i. omega (arith, inside x i, count s h c ps old, n)))
        ∙ down-packed (mark_all (roots_from least roots) clean) (mark_all-length (roots_from least roots) clean ∙ n) (mark_all-bits (roots_from least roots) clean (clean-bits (length ps)))

  -- The new numbers ---------------------------------------------------------------------------------------------------------------------

  pub number-all : (roots : List ℕ)
      → ◌≡◌ {A = Numbered} (number_from (length ps) 0 (record { table = put t 0 (packed (map length ps) (marks_of h.minimum_index ps roots)); next = h.minimum_index; bytes = 0 }))
      (record {
        table = put t 0 (numbers h.minimum_index (marks_of h.minimum_index ps roots));
        next = h.minimum_index + rank (marks_of h.minimum_index ps roots) (length ps);
        bytes = link_bytes (marks_of h.minimum_index ps roots) 0 ps;
      })
  number-all roots =
      let ms = marks_of least ps roots in
      let z : 0 + link_bytes ms 0 ps ≡ link_bytes ms 0 ps = omega arith in
      number-packed ps ms 0 t least 0 (marks-long least ps roots) small (marks-bits least ps roots) (omega arith)
      ∙ ap (λ (y : ℕ). numbering (put t 0 (numbers least ms)) (least + rank ms (length ps)) y) z

-- The payloads of a walk, by as many steps as they are -----------------------------------------------------------------------------------

pub payloads-enough : (m : ℕ) (s : List ℕ) (c : ItemIter) → payloads_from (length (payloads_from m s c)) s c ≡ payloads_from m s c
unfolding payloads_from
payloads-enough zero s c = refl
payloads-enough (suc n) s c = go (next_of s c) refl (λ d. payloads-enough n s d)
  where
    go : (a : Answer Next) → next_of s c ≡ a → ((d : ItemIter) → payloads_from (length (payloads_from n s d)) s d ≡ payloads_from n s d)
        → payloads_from (length (payloads_by s (λ d. payloads_from n s d) a)) s c ≡ payloads_by s (λ d. payloads_from n s d) a
    go (refused m es) e ih = refl
    go (answered done) e ih = refl
    go (answered (yielded i d)) e ih = ap (payloads_by s (λ x. payloads_from (length (payloads_from n s d)) s x)) e ∙ ap (λ y. payload_of s i ∷ y) (ih d)
