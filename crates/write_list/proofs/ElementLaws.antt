-- Laws of elements: what measuring shows, and a turn of each loop. Assumes nothing.
use Prim.Native.Nat.{ℕ, ◌+◌, ◌%◌, ◌≤◌, ◌<◌, min}
use native.Mathlib.Omega.{arith}
use native.Mathlib.Nat.{zero-add}
use native.Mathlib.Numerals.{add-one}
use mathlib.Core.Bool.{Bool, true, false}
use mathlib.Core.Path.{◌≡◌, refl, ap, sym, ◌∙◌}
use mathlib.Core.List.{List, [], ◌∷◌, ◌++◌, append-nil}
use lib.ListN.{length, get_or, drop, length-append, drop_of_length-le}
use lib.Seq.{drop-cons}
use lib.Dec.{leb}
use borrow.Author.Tests.{leb-true, leb-false, lt-ltb, le-ltb}
use Rattle.answer.specs.Answer.{Answer, answered, refused, both, then}
use Rattle.field.specs.Bytes.{bytes}
use Rattle.field.proofs.ByteLaws.{length-bytes}
use Rattle.field_put.specs.Bytes.{put, Puts, Room}
use Rattle.write_layout.specs.Runs.{pads}
use Rattle.write_layout.specs.Fields.{Encoded, fixed_bytes, and_also, encodes, encoded_bytes}
use Rattle.write_layout.specs.Records.{missing, limited, filled, record_bytes}
use Rattle.write_layout.specs.Lists.{filled_member, filled_each}
use Rattle.write_layout.specs.Buffer.{lay, Writes}
use Rattle.write_layout.proofs.Padding.{missing-fills}
use Rattle.write_pieces.proofs.RecordLaws.{member-length, refuse-long, refuse-small, laid}
use Rattle.write_list.specs.Elements.{element_bytes, ends_after, elements_bytes, good_all, held_all}

never : {X : Type 0} → false ≡ true → X
never h = let z : ◌≡◌ {A = ℕ} 0 1 = cc in absurd (omega arith)

both_left : (a b : Bool) → both a b ≡ true → a ≡ true
both_left true b h = refl
both_left false b h = never h

both_right : (a b : Bool) → both a b ≡ true → b ≡ true
both_right true b h = h
both_right false b h = never h

-- Measuring ---------------------------------------------------------------------------------------------------------------------

-- the sizes of what is left, added to n and held at 65,536; `ended` after a continuation
unfoldable pub measure_of : ℕ → List ℕ → Bool → List (List ℕ) → ℕ → Answer ℕ
measure_of leaf t ended [] n = answered n
measure_of leaf t true (row ∷ rows) n = refused 17 []
measure_of leaf t false (row ∷ rows) n =
    then (then (element_bytes leaf t row) (λ bs. answered (min (length bs) 65536))) (λ k. measure_of leaf t (ends_after leaf row) rows (min (n + (k + missing k)) 65536))

capped-sum : (n : ℕ) (bs : List ℕ) → min (min n 65536 + (min (length bs) 65536 + missing (min (length bs) 65536))) 65536 ≡ min (n + length (filled_member bs)) 65536
capped-sum n bs = go (leb (length bs) 65536) refl
  where
    go : (b : Bool) → leb (length bs) 65536 ≡ b
        → min (min n 65536 + (min (length bs) 65536 + missing (min (length bs) 65536))) 65536 ≡ min (n + length (filled_member bs)) 65536
    go true f =
        let e : min (length bs) 65536 ≡ length bs = omega (arith, leb-true (length bs) 65536 f) in
        rw (e, member-length bs) (omega arith)
    go false f =
        let e : min (length bs) 65536 ≡ 65536 = omega (arith, leb-false (length bs) 65536 f) in
        rw (e, member-length bs) (omega (arith, leb-false (length bs) 65536 f))

pub measure-is : (leaf : ℕ) (t : List ℕ) (ended : Bool) (rows : List (List ℕ)) (n : ℕ)
    → measure_of leaf t ended rows (min n 65536) ≡ then (elements_bytes leaf t ended rows) (λ bs. answered (min (n + length bs) 65536))
unfolding measure_of elements_bytes filled_each
measure-is leaf t true [] n = ap answered (omega arith)
measure-is leaf t false [] n = ap answered (omega arith)
measure-is leaf t true (row ∷ rows) n = refl
measure-is leaf t false (row ∷ rows) n = one (element_bytes leaf t row) (λ m. measure-is leaf t (ends_after leaf row) rows m)
  where
    two : (xs : List ℕ) (b : Encoded) → then b (λ ys. answered (min (n + length xs + length ys) 65536)) ≡ then (then b (λ ys. answered (xs ++ ys))) (λ zs. answered (min (n + length zs) 65536))
    two xs (answered ys) = ap answered (omega (arith, length-append xs ys))
    two xs (refused m d) = refl

    one : (b : Encoded) → ((m : ℕ) → measure_of leaf t (ends_after leaf row) rows (min m 65536) ≡ then (elements_bytes leaf t (ends_after leaf row) rows) (λ bs. answered (min (m + length bs) 65536)))
        → then (then b (λ bs. answered (min (length bs) 65536))) (λ k. measure_of leaf t (ends_after leaf row) rows (min (min n 65536 + (k + missing k)) 65536))
        ≡ then (and_also (then b (λ bs. answered (filled_member bs))) (elements_bytes leaf t (ends_after leaf row) rows)) (λ bs. answered (min (n + length bs) 65536))
    one (answered bs) ih = rw (capped-sum n bs) (ih (n + length (filled_member bs)) ∙ two (filled_member bs) (elements_bytes leaf t (ends_after leaf row) rows))
    one (refused m d) ih = refl

pub measure-all : (leaf : ℕ) (t : List ℕ) (rows : List (List ℕ)) → measure_of leaf t false rows 0 ≡ then (elements_bytes leaf t false rows) (λ bs. answered (min (length bs) 65536))
measure-all leaf t rows = measure-is leaf t false rows 0 ∙ simp zero-add

module _ (leaf : ℕ) (t : List ℕ) (rows : List (List ℕ)) (i : ℕ) (d : List ℕ) (h : i < length rows) where
  pub measure-turn : (n k : ℕ) → answered k ≡ then (element_bytes leaf t (get_or rows i d)) (λ bs. answered (min (length bs) 65536))
      → measure_of leaf t false (drop i rows) n ≡ measure_of leaf t (ends_after leaf (get_or rows i d)) (drop (i + 1) rows) (min (n + (k + missing k)) 65536)
  unfolding measure_of
  measure-turn n k e = rw (drop-cons rows i d, add-one, measure_of, ← e)

  pub measure-stop : (n m : ℕ) (e : List ℕ) → refused m e ≡ then (element_bytes leaf t (get_or rows i d)) (λ bs. answered (min (length bs) 65536)) → measure_of leaf t false (drop i rows) n ≡ refused m e
  unfolding measure_of
  measure-stop n m e f = rw (drop-cons rows i d, measure_of, ← f)

  pub measure-late : (n : ℕ) → measure_of leaf t true (drop i rows) n ≡ refused 17 []
  unfolding measure_of
  measure-late n = rw (drop-cons rows i d)

pub measure-done : (leaf : ℕ) (t : List ℕ) (ended : Bool) (rows : List (List ℕ)) (i n : ℕ) → length rows ≤ i → measure_of leaf t ended (drop i rows) n ≡ answered n
unfolding measure_of
measure-done leaf t true rows i n h = rw (drop_of_length-le rows h)
measure-done leaf t false rows i n h = rw (drop_of_length-le rows h)

-- Writing -----------------------------------------------------------------------------------------------------------------------

-- what elements that are answered are
pub record Elements (leaf : ℕ) (t : List ℕ) (rows : List (List ℕ)) (bs : List ℕ) : Type 0 where
  pub fine : good_all leaf t rows ≡ true
  pub are : held_all leaf t rows ≡ bs

pub elements : (leaf : ℕ) (t : List ℕ) (ended : Bool) (rows : List (List ℕ)) (bs : List ℕ) → elements_bytes leaf t ended rows ≡ answered bs → Elements leaf t rows bs
unfolding elements_bytes filled_each good_all held_all
elements leaf t true [] bs e = record { fine = refl; are = cc }
elements leaf t false [] bs e = record { fine = refl; are = cc }
elements leaf t true (row ∷ rows) bs e = let z : ◌≡◌ {A = ℕ} 0 1 = cc in absurd (omega arith)
elements leaf t false (row ∷ rows) bs e =
    let r = go (element_bytes leaf t row) (elements_bytes leaf t (ends_after leaf row) rows) refl e (λ ys f. elements leaf t (ends_after leaf row) rows ys f) in
    record { fine = r.0; are = r.1 }
  where
    go : (a b : Encoded) → elements_bytes leaf t (ends_after leaf row) rows ≡ b → and_also (then a (λ xs. answered (filled_member xs))) b ≡ answered bs
        → ((ys : List ℕ) → elements_bytes leaf t (ends_after leaf row) rows ≡ answered ys → Elements leaf t rows ys)
        → (both (encodes a) (good_all leaf t rows) ≡ true) × (filled_member (encoded_bytes a) ++ held_all leaf t rows ≡ bs)
    go (answered xs) (answered ys) f g ih = let m = ih ys f in (m.fine, rw m.are (cc))
    go (answered xs) (refused n d) f g ih = let z : ◌≡◌ {A = ℕ} 0 1 = cc in absurd (omega arith)
    go (refused n d) b f g ih = let z : ◌≡◌ {A = ℕ} 0 1 = cc in absurd (omega arith)

module _ (leaf : ℕ) (t : List ℕ) (rows : List (List ℕ)) (i : ℕ) (d : List ℕ) (h : i < length rows) where
  pub held_cons : held_all leaf t (drop i rows) ≡ filled_member (encoded_bytes (element_bytes leaf t (get_or rows i d))) ++ held_all leaf t (drop (i + 1) rows)
  unfolding held_all
  held_cons = rw (drop-cons rows i d, add-one)

  pub held-length : length (held_all leaf t (drop i rows)) ≡ length (filled_member (encoded_bytes (element_bytes leaf t (get_or rows i d)))) + length (held_all leaf t (drop (i + 1) rows))
  held-length = ap length held_cons ∙ length-append (filled_member (encoded_bytes (element_bytes leaf t (get_or rows i d)))) (held_all leaf t (drop (i + 1) rows))

  pub good-head : good_all leaf t (drop i rows) ≡ true → encodes (element_bytes leaf t (get_or rows i d)) ≡ true
  unfolding good_all
  good-head e = both_left _ _ (rw (drop-cons rows i d) at e)

  pub good-tail : good_all leaf t (drop i rows) ≡ true → good_all leaf t (drop (i + 1) rows) ≡ true
  unfolding good_all
  good-tail e = rw add-one (both_right (encodes (element_bytes leaf t (get_or rows i d))) _ (rw (drop-cons rows i d) at e))

pub held-done : (leaf : ℕ) (t : List ℕ) (rows : List (List ℕ)) (i : ℕ) → length rows ≤ i → (s : List ℕ) (p : ℕ) → Puts s p (held_all leaf t (drop i rows)) p s
unfolding held_all put
held-done leaf t rows i h s p = rw (drop_of_length-le rows h) (record { next = omega arith; left = refl })

pub size-held : (b : Encoded) (k : ℕ) → answered k ≡ then b (λ bs. answered (min (length bs) 65536)) → k ≤ 65536
size-held (answered bs) k e = let f : min (length bs) 65536 ≡ k = cc in omega arith
size-held (refused n d) k e = let z : ◌≡◌ {A = ℕ} 0 1 = cc in absurd (omega arith)

-- an element that is good and has room was written
pub element-put : (b : Encoded) (s : List ℕ) (p : ℕ) (r : Answer ℕ) (s' : List ℕ) → encodes b ≡ true → length (filled_member (encoded_bytes b)) ≤ 65535 → Room s p (filled_member (encoded_bytes b))
    → Writes s (lay (limited (filled_each b)) s p) r s' → (r ≡ answered (p + length (filled_member (encoded_bytes b)))) × (s' ≡ put s p (filled_member (encoded_bytes b)))
unfolding lay limited filled_each
element-put (refused n d) s p r s' g l h w = never g
element-put (answered bs) s p r s' g l h w =
    let v : Writes s (lay (limited (filled_each (answered bs))) s p) r s' = w in
    (rw (le-ltb _ _ l, le-ltb _ _ h.room) at v.answer, rw (le-ltb _ _ l, le-ltb _ _ h.room) at v.left)

pub written-put : (s : List ℕ) (p : ℕ) (bs : List ℕ) (q : ℕ) (s' : List ℕ) → ◌≡◌ {A = Answer ℕ} (answered q) (answered (p + length bs)) → s' ≡ put s p bs → Puts s p bs q s'
written-put s p bs q s' e f = record { next = cc; left = f }

pub not_written : {X : Type 0} {n m : ℕ} {d : List ℕ} → ◌≡◌ {A = Answer ℕ} (refused n d) (answered m) → X
not_written {X} {n} {m} {d} e = let z : ◌≡◌ {A = ℕ} 0 1 = cc in absurd (omega arith)

-- The record ----------------------------------------------------------------------------------------------------------------------

-- filled elements end at a multiple of four, so that the record has no pad bytes of its own
pub held-aligned : (leaf : ℕ) (t : List ℕ) (rows : List (List ℕ)) → length (held_all leaf t rows) % 4 ≡ 0
unfolding held_all
held-aligned leaf t [] = refl
held-aligned leaf t (row ∷ rows) =
    let b = encoded_bytes (element_bytes leaf t row) in
    omega (arith, length-append (filled_member b) (held_all leaf t rows), member-length b, missing-fills (length b), held-aligned leaf t rows)

nothing-missing : (n : ℕ) → n % 4 ≡ 0 → missing n ≡ 0
unfolding missing
nothing-missing n h = omega arith

module _ (leaf : ℕ) (t : List ℕ) (rows : List (List ℕ)) (k : leaf < 65536) where
  -- a refusal of one of them is that of the list
  pub list-bad : (n : ℕ) (d : List ℕ) → refused n d ≡ then (elements_bytes leaf t false rows) (λ bs. answered (min (length bs) 65536))
      → and_also (fixed_bytes 2 leaf) (elements_bytes leaf t false rows) ≡ refused n d
  unfolding fixed_bytes
  list-bad n d e = rw (lt-ltb leaf 65536 k) (go (elements_bytes leaf t false rows) e)
    where
      go : (b : Encoded) → refused n d ≡ then b (λ bs. answered (min (length bs) 65536)) → and_also (answered (bytes 2 leaf)) b ≡ refused n d
      go (answered bs) f = let z : ◌≡◌ {A = ℕ} 0 1 = cc in absurd (omega arith)
      go (refused m c) f = cc

  -- good, and n is the length of the elements, held at 65,536
  pub record Sized (n : ℕ) : Type 0 where
    pub fine : good_all leaf t rows ≡ true
    pub count : n ≡ min (length (held_all leaf t rows)) 65536
    pub is : and_also (fixed_bytes 2 leaf) (elements_bytes leaf t false rows) ≡ answered (bytes 2 leaf ++ held_all leaf t rows)

  pub list-size : (n : ℕ) → answered n ≡ then (elements_bytes leaf t false rows) (λ bs. answered (min (length bs) 65536)) → Sized n
  unfolding fixed_bytes
  list-size n e = go (elements_bytes leaf t false rows) refl e
    where
      go : (b : Encoded) → elements_bytes leaf t false rows ≡ b → answered n ≡ then b (λ bs. answered (min (length bs) 65536)) → Sized n
      go (refused m d) f g = let z : ◌≡◌ {A = ℕ} 0 1 = cc in absurd (omega arith)
      go (answered bs) f g =
          let m = elements leaf t false rows bs f in
          let c : min (length bs) 65536 ≡ n = cc in
          record { fine = m.fine; count = rw m.are (sym c); is = rw (f, lt-ltb leaf 65536 k, m.are) }

  abbrev payload : List ℕ
  payload = bytes 2 leaf ++ held_all leaf t rows

  payload-length : length (bytes 2 leaf ++ held_all leaf t rows) ≡ length (held_all leaf t rows) + 2
  payload-length = omega (arith, length-append (bytes 2 leaf) (held_all leaf t rows), length-bytes 2 leaf)

  unpadded : filled (bytes 2 leaf ++ held_all leaf t rows) ≡ bytes 2 leaf ++ held_all leaf t rows
  unfolding filled pads
  unpadded =
      let z : missing (length (bytes 2 leaf ++ held_all leaf t rows) + 2) ≡ 0 = nothing-missing _ (omega (arith, payload-length, held-aligned leaf t rows)) in
      rw z (append-nil (bytes 2 leaf ++ held_all leaf t rows))

  module _ (s : List ℕ) (p n : ℕ) (z : Sized n) where
    pub over : 65535 < n + 2 → Writes s (lay (record_bytes (and_also (fixed_bytes 2 leaf) (elements_bytes leaf t false rows))) s p) (refused 18 []) s
    over h = refuse-long _ s p _ z.is (rw unpadded (omega (arith, payload-length, z.count)))

    module _ (h : n + 2 ≤ 65535) where
      pub same_count : length (held_all leaf t rows) ≡ n
      same_count = omega (arith, z.count)

      fills : length (filled (bytes 2 leaf ++ held_all leaf t rows)) ≡ n + 2
      fills = ap length unpadded ∙ payload-length ∙ rw same_count

      pub small : length s < p + (n + 2 + 2) → Writes s (lay (record_bytes (and_also (fixed_bytes 2 leaf) (elements_bytes leaf t false rows))) s p) (refused 19 []) s
      small e = refuse-small _ s p _ z.is (n + 2) fills h e

      module _ (e : p + (n + 2 + 2) ≤ length s) where
        pub roomy : Room s p (bytes 2 (n + 2) ++ (bytes 2 leaf ++ held_all leaf t rows))
        roomy =
            let a = length-append (bytes 2 (n + 2)) (bytes 2 leaf ++ held_all leaf t rows) in
            record { room = omega (arith, a, length-bytes 2 (n + 2), payload-length, same_count) }

        pub done : (r : ℕ) (s' : List ℕ) → Puts s p (bytes 2 (n + 2) ++ (bytes 2 leaf ++ held_all leaf t rows)) r s'
            → Writes s (lay (record_bytes (and_also (fixed_bytes 2 leaf) (elements_bytes leaf t false rows))) s p) (answered r) s'
        done r s' w =
            let f : bytes 2 (n + 2) ++ (bytes 2 leaf ++ held_all leaf t rows) ≡ bytes 2 (length (filled (bytes 2 leaf ++ held_all leaf t rows))) ++ filled (bytes 2 leaf ++ held_all leaf t rows) =
            rw (fills, unpadded) in
            laid _ s p _ z.is (n + 2) fills h r s' e (rw f at w)
