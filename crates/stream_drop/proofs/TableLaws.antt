-- Each entry of the lent table packs a length and a mark. What the passes leave in it, said of the lengths and the marks apart; and the new numbers
-- that come of them. Assumes nothing.
use Prim.Native.Nat.{ℕ, zero, suc, ◌+◌, ◌-◌, ◌*◌, ◌%◌, ◌≤◌, ◌<◌}
use native.Mathlib.Omega.{arith}
use mathlib.Core.Bool.{Bool, true, false}
use mathlib.Core.Path.{◌≡◌, refl, ap, sym, ◌∙◌}
use mathlib.Core.Logic.{◌⊎◌, inl, inr}
use mathlib.Core.List.{List, [], ◌∷◌, ◌++◌, map}
use lib.ListN.{length, get_or, set, drop, replicate, length-set, get_or-append}
use lib.Seq.{set-append_left, set-get_or, set-set, set_comm, get_or-set_same, get_or-set_other}
use lib.Dec.{leb, eqb}
use borrow.Author.Tests.{leb-true, leb-false, lt-ltb, le-ltb, eq-eqb, ne_eqb}
use Rattle.answer.specs.Answer.{pick}
use Rattle.field_put.specs.Bytes.{put}
use Rattle.field_put.proofs.PutLaws.{put_is}
use Rattle.record_reference.specs.References.{Ref}
use Rattle.stream_fit.specs.Sentences.{In}
use Rattle.stream_prune.specs.Links.{AllLinkable}
use Rattle.stream_prune.specs.Pruned.{rank, numbers, link_bytes}
use Rattle.stream_prune.specs.Dropped.{IsIn, mark_all, numbers_of, roots_from}
use Rattle.stream_prune.proofs.Numbers.{same_or, rank-first}
use Rattle.stream_prune.proofs.MarkLaws.{Bits}
use Rattle.stream_drop.specs.Each.{held_of, raised, done, done_all}
use Rattle.stream_drop.specs.Passes.{lengths_in, rooted, roots_in, Numbered, numbered_at, number_from}
use Rattle.stream_drop.specs.declared.each.Job.TheVariants as job
use Rattle.stream_drop.proofs.EachLaws.{raised-marked, raised-here, done_below, done-above}

-- Entries at the front ------------------------------------------------------------------------------------------------------------------

put_front : (t xs : List ℕ) → length xs ≤ length t → put t 0 xs ≡ xs ++ drop (length xs) t
put_front t xs h = let z : 0 + length xs ≡ length xs = omega arith in rw z at (put_is t 0 xs (omega arith))

pub get_d_front : (t xs : List ℕ) (d : ℕ) → d < length xs → length xs ≤ length t → get_or (put t 0 xs) d 0 ≡ get_or xs d 0
get_d_front t xs d l h = ap (λ y. get_or y d 0) (put_front t xs h) ∙ get_or-append xs (drop (length xs) t) 0 d l

pub set_front : (t xs : List ℕ) (d v : ℕ) → d < length xs → length xs ≤ length t → set (put t 0 xs) d v ≡ put t 0 (set xs d v)
set_front t xs d v l h =
    ap (λ y. set y d v) (put_front t xs h) ∙ set-append_left xs (drop (length xs) t) d v l ∙ ap (λ k. set xs d v ++ drop k t) (sym (length-set xs d v))
    ∙ sym (put_front t (set xs d v) (omega (arith, length-set xs d v)))

-- before the place of what is put
get_d-before : (s : List ℕ) (p : ℕ) (xs : List ℕ) (j : ℕ) → j < p → get_or (put s p xs) j 0 ≡ get_or s j 0
unfolding put
get_d-before s p [] j l = refl
get_d-before s p (x ∷ xs) j l = get_d-before (set s p x) (p + 1) xs j (omega arith) ∙ get_or-set_other s p j x 0 (λ (e : j ≡ p). omega arith)

set_before : (s : List ℕ) (p : ℕ) (xs : List ℕ) (j v : ℕ) → j < p → set (put s p xs) j v ≡ put (set s j v) p xs
unfolding put
set_before s p [] j v l = refl
set_before s p (x ∷ xs) j v l = set_before (set s p x) (p + 1) xs j v (omega arith) ∙ ap (λ y. put y (p + 1) xs) (set_comm s p j x v (λ (e : p ≡ j). omega arith))

-- A length and a mark -------------------------------------------------------------------------------------------------------------------

-- the marks stand above the lengths
unfoldable pub packed : List ℕ → List ℕ → List ℕ
packed [] ms = []
packed (l ∷ ls) [] = []
packed (l ∷ ls) (m ∷ ms) = (l + 65536 * m) ∷ packed ls ms

-- each is a length that a link can hold
abbrev pub Small : List ℕ → Type 0
Small ls = (i : ℕ) → get_or ls i 0 < 65536

pub linkable-small : (ps : List (List ℕ)) → AllLinkable ps → Small (map length ps)
unfolding AllLinkable
linkable-small [] h i = omega arith
linkable-small (p ∷ ps) h zero = h.0.short
linkable-small (p ∷ ps) h (suc i) = linkable-small ps h.1 i

pub packed-length : (ls ms : List ℕ) → length ls ≡ length ms → length (packed ls ms) ≡ length ls
unfolding packed
packed-length [] ms e = refl
packed-length (l ∷ ls) [] e = absurd (omega arith)
packed-length (l ∷ ls) (m ∷ ms) e = ap suc (packed-length ls ms (omega arith))

pub packed-at : (ls ms : List ℕ) (d : ℕ) → length ls ≡ length ms → get_or (packed ls ms) d 0 ≡ get_or ls d 0 + 65536 * get_or ms d 0
unfolding packed
packed-at [] [] d e = refl
packed-at [] (m ∷ ms) d e = absurd (omega arith)
packed-at (l ∷ ls) [] d e = absurd (omega arith)
packed-at (l ∷ ls) (m ∷ ms) zero e = refl
packed-at (l ∷ ls) (m ∷ ms) (suc d) e = packed-at ls ms d (omega arith)

packed-set : (ls ms : List ℕ) (d v : ℕ) → length ls ≡ length ms → packed ls (set ms d v) ≡ set (packed ls ms) d (get_or ls d 0 + 65536 * v)
unfolding packed
packed-set [] [] d v e = refl
packed-set [] (m ∷ ms) d v e = absurd (omega arith)
packed-set (l ∷ ls) [] d v e = absurd (omega arith)
packed-set (l ∷ ls) (m ∷ ms) zero v e = refl
packed-set (l ∷ ls) (m ∷ ms) (suc d) v e = ap (λ y. (l + 65536 * m) ∷ y) (packed-set ls ms d v (omega arith))

-- the pass that stores the lengths
lengths-from : (i : ℕ) (ps : List (List ℕ)) (t : List ℕ) → Small (map length ps) → lengths_in i ps t ≡ put t i (packed (map length ps) (replicate (length ps) 0))
unfolding lengths_in put packed
lengths-from i [] t h = refl
lengths-from i (p ∷ ps) t h =
    let z : length p % 65536 ≡ length p + 65536 * 0 = omega (arith, h 0) in
    lengths-from (i + 1) ps (set t i (length p % 65536)) (λ j. h (suc j)) ∙ ap (λ x. put (set t i x) (i + 1) (packed (map length ps) (replicate (length ps) 0))) z

pub lengths-all : (ps : List (List ℕ)) (t : List ℕ) → Small (map length ps) → lengths_in 0 ps t ≡ put t 0 (packed (map length ps) (replicate (length ps) 0))
lengths-all ps t h = lengths-from 0 ps t h

-- Marks ---------------------------------------------------------------------------------------------------------------------------------

pub set-bits : (ms : List ℕ) (j : ℕ) → Bits ms → Bits (set ms j 1)
set-bits [] j h i = h i
set-bits (x ∷ ms) zero h zero = omega arith
set-bits (x ∷ ms) zero h (suc i) = h (suc i)
set-bits (x ∷ ms) (suc j) h zero = h 0
set-bits (x ∷ ms) (suc j) h (suc i) = set-bits ms j (λ k. h (suc k)) i

pub clean-bits : (n : ℕ) → Bits (replicate n 0)
clean-bits zero i = omega arith
clean-bits (suc n) zero = omega arith
clean-bits (suc n) (suc i) = clean-bits n i

pub mark_all-bits : (js ms : List ℕ) → Bits ms → Bits (mark_all js ms)
unfolding mark_all
mark_all-bits [] ms h = h
mark_all-bits (j ∷ js) ms h = mark_all-bits js (set ms j 1) (set-bits ms j h)

module _ (t ls : List ℕ) (small : Small ls) (room : length ls ≤ length t) where
  -- what an entry holds
  pub entry : (ms : List ℕ) (d : ℕ) → length ls ≡ length ms → d < length ms → get_or (put t 0 (packed ls ms)) d 0 ≡ get_or ls d 0 + 65536 * get_or ms d 0
  entry ms d e l = let n = packed-length ls ms e in get_d_front t (packed ls ms) d (omega arith) (omega arith) ∙ packed-at ls ms d e

  pub raised-packed : (ms : List ℕ) (d : ℕ) → length ls ≡ length ms → Bits ms → d < length ms → raised (put t 0 (packed ls ms)) d ≡ put t 0 (packed ls (set ms d 1))
  raised-packed ms d e k l = go (same_or (get_or ms d 0) 1)
    where
      go : (get_or ms d 0 ≡ 1) ⊎ (get_or ms d 0 ≡ 1 → ⊥) → raised (put t 0 (packed ls ms)) d ≡ put t 0 (packed ls (set ms d 1))
      go (inl m) =
          let z : set ms d 1 ≡ ms = ap (set ms d) (sym m) ∙ set-get_or ms d 0 in
          sym (raised-marked (put t 0 (packed ls ms)) d (omega (arith, entry ms d e l))) ∙ ap (λ y. put t 0 (packed ls y)) (sym z)
      go (inr m) =
          let n = packed-length ls ms e in
          let x = entry ms d e l in
          let v : get_or (put t 0 (packed ls ms)) d 0 + 65536 ≡ get_or ls d 0 + 65536 * 1 = omega (arith, x, k d, m) in
          sym (raised-here (put t 0 (packed ls ms)) d (omega (arith, x, k d, m, small d)))
          ∙ ap (set (put t 0 (packed ls ms)) d) v ∙ set_front t (packed ls ms) d (get_or ls d 0 + 65536 * 1) (omega arith) (omega arith)
          ∙ ap (put t 0) (sym (packed-set ls ms d 1 e))

  -- the roots
  pub roots-packed : (minimum : ℕ) (roots ms : List ℕ) → length ls ≡ length ms → Bits ms → ((x : ℕ) → IsIn x roots → x < minimum + length ms)
      → roots_in minimum roots (put t 0 (packed ls ms)) ≡ put t 0 (packed ls (mark_all (roots_from minimum roots) ms))
  unfolding roots_in roots_from mark_all
  roots-packed minimum [] ms e k h = refl
  roots-packed minimum (x ∷ xs) ms e k h = go (leb minimum x) refl (λ us. roots-packed minimum xs us)
    where
      go : (b : Bool) → leb minimum x ≡ b
          → ((us : List ℕ) → length ls ≡ length us → Bits us → ((y : ℕ) → IsIn y xs → y < minimum + length us)
          → roots_in minimum xs (put t 0 (packed ls us)) ≡ put t 0 (packed ls (mark_all (roots_from minimum xs) us)))
          → roots_in minimum xs (rooted minimum x (put t 0 (packed ls ms)))
          ≡ put t 0 (packed ls (mark_all (pick b ((x - minimum) ∷ roots_from minimum xs) (roots_from minimum xs)) ms))
      go true q ih =
          let up : minimum ≤ x = leb-true minimum x q in
          let n = length-set ms (x - minimum) 1 in
          let z : rooted minimum x (put t 0 (packed ls ms)) ≡ put t 0 (packed ls (set ms (x - minimum) 1)) =
          ap (λ a. pick a (put t 0 (packed ls ms)) (raised (put t 0 (packed ls ms)) (x - minimum))) (le-ltb x minimum up)
          ∙ raised-packed ms (x - minimum) e k (omega (arith, h x (inl refl))) in
          ap (roots_in minimum xs) z ∙ ih (set ms (x - minimum) 1) (omega arith) (set-bits ms (x - minimum) k) (λ y i. omega (arith, n, h y (inr i)))
      go false q ih =
          let z : rooted minimum x (put t 0 (packed ls ms)) ≡ put t 0 (packed ls ms) =
          ap (λ a. pick a (put t 0 (packed ls ms)) (raised (put t 0 (packed ls ms)) (x - minimum))) (lt-ltb x minimum (leb-false minimum x q)) in
          ap (roots_in minimum xs) z ∙ ih ms e k (λ y i. h y (inr i))

  -- what references name
  pub marks-packed : (minimum : ℕ) (rs : List Ref) (ms : List ℕ) (g : Bool) (b : List ℕ) → length ls ≡ length ms → Bits ms
      → ((r : Ref) → In r rs → minimum ≤ r.index → r.index < minimum + length ms)
      → done_all minimum job.Mark rs (held_of g (put t 0 (packed ls ms)) b) ≡ held_of g (put t 0 (packed ls (mark_all (numbers_of minimum rs) ms))) b
  unfolding done_all numbers_of mark_all In
  marks-packed minimum [] ms g b e k h = refl
  marks-packed minimum (r ∷ rs) ms g b e k h = go (leb minimum r.index) refl (λ us. marks-packed minimum rs us g b)
    where
      go : (x : Bool) → leb minimum r.index ≡ x
          → ((us : List ℕ) → length ls ≡ length us → Bits us → ((q : Ref) → In q rs → minimum ≤ q.index → q.index < minimum + length us)
          → done_all minimum job.Mark rs (held_of g (put t 0 (packed ls us)) b) ≡ held_of g (put t 0 (packed ls (mark_all (numbers_of minimum rs) us))) b)
          → done_all minimum job.Mark rs (done minimum job.Mark r (held_of g (put t 0 (packed ls ms)) b))
          ≡ held_of g (put t 0 (packed ls (mark_all (pick x ((r.index - minimum) ∷ numbers_of minimum rs) (numbers_of minimum rs)) ms))) b
      go true q ih =
          let up : minimum ≤ r.index = leb-true minimum r.index q in
          let d = r.index - minimum in
          let n = length-set ms d 1 in
          let z : done minimum job.Mark r (held_of g (put t 0 (packed ls ms)) b) ≡ held_of g (put t 0 (packed ls (set ms d 1))) b =
          sym (done-above minimum r.place r.optional r.index job.Mark (held_of g (put t 0 (packed ls ms)) b) up)
          ∙ ap (λ y. held_of g y b) (raised-packed ms d e k (omega (arith, h r (inl refl) up))) in
          ap (done_all minimum job.Mark rs) z ∙ ih (set ms d 1) (omega arith) (set-bits ms d k) (λ y i v. omega (arith, n, h y (inr i) v))
      go false q ih =
          let z : done minimum job.Mark r (held_of g (put t 0 (packed ls ms)) b) ≡ held_of g (put t 0 (packed ls ms)) b =
          sym (done_below minimum r.place r.optional r.index job.Mark (held_of g (put t 0 (packed ls ms)) b) (leb-false minimum r.index q)) in
          ap (done_all minimum job.Mark rs) z ∙ ih ms e k (λ y i. h y (inr i))

-- New numbers ---------------------------------------------------------------------------------------------------------------------------

abbrev pub numbering : List ℕ → ℕ → ℕ → Numbered
numbering t k n = record { table = t; next = k; bytes = n }

module _ (i : ℕ) (t : List ℕ) (k n : ℕ) where
  numbered-dropped : get_or t i 0 < 65536 → numbered_at i (numbering t k n) ≡ numbering (set t i 0) k n
  unfolding numbered_at
  numbered-dropped h = rw (lt-ltb _ _ h)

  numbered-kept : (l : ℕ) → l < 65536 → get_or t i 0 ≡ l + 65536 → numbered_at i (numbering t k n) ≡ numbering (set t i k) (k + 1) (n + 2 + l)
  unfolding numbered_at
  numbered-kept l h e =
      let up : 65536 ≤ get_or t i 0 = omega arith in
      let z : get_or t i 0 % 65536 ≡ l = omega arith in
      rw (le-ltb _ _ up, z)

-- the first one counts too
rank-cons : (x : ℕ) (t : List ℕ) (i : ℕ) → rank (x ∷ t) (suc i) ≡ pick (eqb x 1) 1 0 + rank t i
unfolding rank
rank-cons x t zero = omega arith
rank-cons x t (suc i) = omega (arith, rank-cons x t i)

bytes-none : (t : List ℕ) → link_bytes t 0 [] ≡ 0
unfolding link_bytes
bytes-none t = refl

bytes-cons : (x : ℕ) (t : List ℕ) (i : ℕ) (ps : List (List ℕ)) → link_bytes (x ∷ t) (suc i) ps ≡ link_bytes t i ps
unfolding link_bytes
bytes-cons x t i [] = refl
bytes-cons x t i (p ∷ ps) =
    let z : suc i + 1 ≡ suc (i + 1) = omega arith in
    ap (λ y. pick (eqb (get_or t i 0) 1) (2 + length p) 0 + y) (ap (λ y. link_bytes (x ∷ t) y ps) z ∙ bytes-cons x t (i + 1) ps)

bytes-first : (p : List ℕ) (x : ℕ) (t : List ℕ) (ps : List (List ℕ)) → link_bytes (x ∷ t) 0 (p ∷ ps) ≡ pick (eqb x 1) (2 + length p) 0 + link_bytes t 0 ps
unfolding link_bytes
bytes-first p x t ps = ap (λ y. pick (eqb x 1) (2 + length p) 0 + y) (bytes-cons x t 0 ps)

same-numbering : (t u : List ℕ) (k l n o : ℕ) → t ≡ u → k ≡ l → n ≡ o → numbering t k n ≡ numbering u l o
same-numbering t u k l n o a b c = ap (λ y. numbering y k n) a ∙ ap (λ y. numbering u y n) b ∙ ap (λ y. numbering u l y) c

pub number-packed : (ps : List (List ℕ)) (ms : List ℕ) (i : ℕ) (t : List ℕ) (k n : ℕ) → length ms ≡ length ps → Small (map length ps) → Bits ms → i + length ps ≤ length t
    → number_from (length ps) i (numbering (put t i (packed (map length ps) ms)) k n)
    ≡ numbering (put t i (numbers k ms)) (k + rank ms (length ps)) (n + link_bytes ms 0 ps)
unfolding number_from put packed numbers
number-packed [] [] i t k n e sm bt room = same-numbering t t k (k + rank [] 0) n (n + link_bytes [] 0 []) refl (omega (arith, rank-first [])) (omega (arith, bytes-none []))
number-packed [] (m ∷ ms) i t k n e sm bt room = absurd (omega arith)
number-packed (p ∷ ps) [] i t k n e sm bt room = absurd (omega arith)
number-packed (p ∷ ps) (m ∷ ms) i t k n e sm bt room =
    go (same_or m 1) (λ y l o. number-packed ps ms (i + 1) (set t i y) l o (omega arith) (λ j. sm (suc j)) (λ j. bt (suc j)) (omega (arith, length-set t i y)))
  where
    holds : get_or (put (set t i (length p + 65536 * m)) (i + 1) (packed (map length ps) ms)) i 0 ≡ length p + 65536 * m
    holds =
        get_d-before (set t i (length p + 65536 * m)) (i + 1) (packed (map length ps) ms) i (omega arith) ∙ get_or-set_same t i (length p + 65536 * m) 0 (omega arith)

    stored : (y : ℕ) → set (put (set t i (length p + 65536 * m)) (i + 1) (packed (map length ps) ms)) i y ≡ put (set t i y) (i + 1) (packed (map length ps) ms)
    stored y =
        set_before (set t i (length p + 65536 * m)) (i + 1) (packed (map length ps) ms) i y (omega arith)
        ∙ ap (λ z. put z (i + 1) (packed (map length ps) ms)) (set-set t i (length p + 65536 * m) y)

    go : (m ≡ 1) ⊎ (m ≡ 1 → ⊥)
        → ((y l o : ℕ) → number_from (length ps) (i + 1) (numbering (put (set t i y) (i + 1) (packed (map length ps) ms)) l o)
        ≡ numbering (put (set t i y) (i + 1) (numbers l ms)) (l + rank ms (length ps)) (o + link_bytes ms 0 ps))
        → number_from (length ps) (i + 1) (numbered_at i (numbering (put (set t i (length p + 65536 * m)) (i + 1) (packed (map length ps) ms)) k n))
        ≡ numbering (put t i (pick (eqb m 1) (k ∷ numbers (k + 1) ms) (0 ∷ numbers k ms))) (k + rank (m ∷ ms) (suc (length ps))) (n + link_bytes (m ∷ ms) 0 (p ∷ ps))
    go (inl a) ih =
        let one : eqb m 1 ≡ true = eq-eqb m 1 a in
        let r : rank (m ∷ ms) (suc (length ps)) ≡ 1 + rank ms (length ps) = rank-cons m ms (length ps) ∙ ap (λ z. pick z 1 0 + rank ms (length ps)) one in
        let q : link_bytes (m ∷ ms) 0 (p ∷ ps) ≡ 2 + length p + link_bytes ms 0 ps = bytes-first p m ms ps ∙ ap (λ z. pick z (2 + length p) 0 + link_bytes ms 0 ps) one in
        ap (number_from (length ps) (i + 1))
        (numbered-kept i (put (set t i (length p + 65536 * m)) (i + 1) (packed (map length ps) ms)) k n (length p) (sm 0) (omega (arith, holds, a))
        ∙ ap (λ z. numbering z (k + 1) (n + 2 + length p)) (stored k))
        ∙ ih k (k + 1) (n + 2 + length p)
        ∙ same-numbering (put (set t i k) (i + 1) (numbers (k + 1) ms)) (put t i (pick (eqb m 1) (k ∷ numbers (k + 1) ms) (0 ∷ numbers k ms)))
        (k + 1 + rank ms (length ps)) (k + rank (m ∷ ms) (suc (length ps))) (n + 2 + length p + link_bytes ms 0 ps) (n + link_bytes (m ∷ ms) 0 (p ∷ ps))
        (ap (λ z. put t i (pick z (k ∷ numbers (k + 1) ms) (0 ∷ numbers k ms))) (sym one)) (omega arith) (omega arith)
    go (inr a) ih =
        let other : eqb m 1 ≡ false = ne_eqb m 1 a in
        let r : rank (m ∷ ms) (suc (length ps)) ≡ 0 + rank ms (length ps) = rank-cons m ms (length ps) ∙ ap (λ z. pick z 1 0 + rank ms (length ps)) other in
        let q : link_bytes (m ∷ ms) 0 (p ∷ ps) ≡ 0 + link_bytes ms 0 ps = bytes-first p m ms ps ∙ ap (λ z. pick z (2 + length p) 0 + link_bytes ms 0 ps) other in
        ap (number_from (length ps) (i + 1))
        (numbered-dropped i (put (set t i (length p + 65536 * m)) (i + 1) (packed (map length ps) ms)) k n (omega (arith, holds, a, bt 0, sm 0))
        ∙ ap (λ z. numbering z k n) (stored 0))
        ∙ ih 0 k n
        ∙ same-numbering (put (set t i 0) (i + 1) (numbers k ms)) (put t i (pick (eqb m 1) (k ∷ numbers (k + 1) ms) (0 ∷ numbers k ms)))
        (k + rank ms (length ps)) (k + rank (m ∷ ms) (suc (length ps))) (n + link_bytes ms 0 ps) (n + link_bytes (m ∷ ms) 0 (p ∷ ps))
        (ap (λ z. put t i (pick z (k ∷ numbers (k + 1) ms) (0 ∷ numbers k ms))) (sym other)) (omega arith) (omega arith)
