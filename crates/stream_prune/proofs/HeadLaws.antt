-- The new stream's header: as long as the old one, read alike but for its maximum, and the same bytes where the maximum is the same. Assumes
-- nothing.
use Prim.Native.Nat.{ℕ, zero, suc, ◌+◌, ◌^◌, ◌≤◌, ◌<◌}
use native.Mathlib.Omega.{arith}
use mathlib.Core.Bool.{Bool, true, false}
use mathlib.Core.Path.{◌≡◌, ap, sym, ◌∙◌}
use mathlib.Core.Logic.{◌⊎◌, inl, inr}
use mathlib.Core.List.{List, [], ◌∷◌, ◌++◌}
use lib.ListN.{length, get_or, take, length-append, get_or-append}
use lib.Seq.{get_or-take, length-take-le}
use lib.Dec.{ltb, eqb}
use borrow.Author.Tests.{ltb-false, ne_eqb}
use Rattle.answer.specs.Answer.{Answer, answered, pick}
use Rattle.field.specs.Fields.{little_at}
use Rattle.field.specs.Bytes.{bytes}
use Rattle.field_put.specs.Bytes.{put, Octets}
use Rattle.field_put.proofs.PutLaws.{length-put}
use Rattle.stream_header.specs.Header.{longest, zero_header, fields_of, header_of}
use Rattle.stream_header.specs.declared.Header.{Header}
use Rattle.stream_header.proofs.HeaderLaws.{Sized, header-whole}
use Rattle.stream_item.proofs.NextLaws.{passed}
use Rattle.record_rewrite.proofs.Settled.{little-alike}
use Rattle.record_rewrite.proofs.Places.{put_four, put-here, put_same, put-octets}
use Rattle.stream_prune.specs.Pruned.{new_head, new_header}

-- The old header -------------------------------------------------------------------------------------------------------------------------

-- what an accepted header of a stream that is not empty says
pub record Opened (s : List ℕ) (h : Header) : Type 0 where
  pub sized : Sized s
  pub low : 4096 ≤ little_at 4 s 8
  pub up : little_at 4 s 8 ≤ little_at 4 s 12
  pub is : fields_of s ≡ h

filled : (b : Bool) (a : Answer Header) (h : Header) → b ≡ false → pick b (answered zero_header) a ≡ answered h → a ≡ answered h
filled true a h i e = let z : ◌≡◌ {A = ℕ} 0 1 = cc in absurd (omega arith)
filled false a h i e = e

pub opened : (s : List ℕ) (h : Header) → 0 < length s → header_of s ≡ answered h → Opened s h
unfolding header_of
opened s h l e =
    let some : length s ≡ 0 → ⊥ = λ z. omega arith in
    let t1 = passed (ltb longest (length s)) 16 _ _ e in
    let t2 = filled (eqb (length s) 0) _ h (ne_eqb _ _ some) t1.1 in
    let t3 = passed (ltb (length s) 56) 1 _ _ t2 in
    let t4 = passed (ltb (little_at 4 s 4) 56) 2 _ _ t3.1 in
    let t5 = passed (ltb 1024 (little_at 4 s 4)) 3 _ _ t4.1 in
    let t6 = passed (ltb (length s) (little_at 4 s 4)) 1 _ _ t5.1 in
    let t7 = passed (ltb (little_at 4 s 8) 4096) 4 _ _ t6.1 in
    let t8 = passed (ltb (little_at 4 s 12) (little_at 4 s 8)) 5 _ _ t7.1 in
    record {
      sized = record {
        there = record { short = ltb-false _ _ t1.0; whole = ltb-false _ _ t3.0 };
        least = ltb-false _ _ t4.0;
        most = ltb-false _ _ t5.0;
        inside = ltb-false _ _ t6.0;
      };
      low = ltb-false _ _ t7.0;
      up = ltb-false _ _ t8.0;
      is = cc t8.1;
    }

pub take-octets : (n : ℕ) (l : List ℕ) → ((i : ℕ) → get_or l i 0 < 256) → (i : ℕ) → get_or (take n l) i 0 < 256
take-octets zero l h i = omega arith
take-octets (suc n) [] h i = omega arith
take-octets (suc n) (x ∷ l) h zero = h 0
take-octets (suc n) (x ∷ l) h (suc i) = take-octets n l (λ j. h (suc j)) i

-- The new one ------------------------------------------------------------------------------------------------------------------------------

pub head-long : (s : List ℕ) (h : Header) (m : ℕ) → h.header_size ≤ length s → length (new_head s h m) ≡ h.header_size
unfolding new_head
head-long s h m l = length-put (take h.header_size s) 12 (bytes 4 m) ∙ length-take-le h.header_size s l

pub head-octets : (s : List ℕ) (h : Header) (m : ℕ) → Octets s → Octets (new_head s h m)
unfolding new_head Octets
head-octets s h m o = put-octets (take h.header_size s) 12 m (take-octets h.header_size s o)

module _ (s : List ℕ) (h : Header) (op : Opened s h) where
  pub size_is : little_at 4 s 4 ≡ h.header_size
  size_is = ap (λ x. x.header_size) op.is

  pub minimum-is : little_at 4 s 8 ≡ h.minimum_index
  minimum-is = ap (λ x. x.minimum_index) op.is

  pub maximum-is : little_at 4 s 12 ≡ h.maximum_index
  maximum-is = ap (λ x. x.maximum_index) op.is

  pub size-inside : h.header_size ≤ length s
  size-inside = omega (arith, size_is, op.sized.inside)

  pub size-least : 56 ≤ h.header_size
  size-least = omega (arith, size_is, op.sized.least)

  head-there : length (take h.header_size s) ≡ h.header_size
  head-there = length-take-le h.header_size s size-inside

  -- whatever stands behind it
  module _ (m : ℕ) (small : m < 2 ^ 32) (L : List ℕ) where
    new-byte : (i : ℕ) → i < h.header_size → (i < 12 ⊎ 12 + 4 ≤ i) → get_or (new_head s h m ++ L) i 0 ≡ get_or s i 0
    unfolding new_head
    new-byte i l k =
        get_or-append (new_head s h m) L 0 i (omega (arith, head-long s h m size-inside)) ∙ put_four (take h.header_size s) 12 m i k ∙ get_or-take h.header_size s i 0 l

    before : (k q : ℕ) → q + k ≤ 12 → little_at k (new_head s h m ++ L) q ≡ little_at k s q
    before k q l = little-alike k s (new_head s h m ++ L) q (λ i x y. new-byte i (omega (arith, size-least)) (inl (omega arith)))

    after : (k q : ℕ) → 16 ≤ q → q + k ≤ 56 → little_at k (new_head s h m ++ L) q ≡ little_at k s q
    after k q g l = little-alike k s (new_head s h m ++ L) q (λ i x y. new-byte i (omega (arith, size-least)) (inr (omega arith)))

    new-maximum : little_at 4 (new_head s h m ++ L) 12 ≡ m
    unfolding new_head
    new-maximum =
        little-alike 4 (new_head s h m) (new_head s h m ++ L) 12 (λ i x y. get_or-append (new_head s h m) L 0 i (omega (arith, head-long s h m size-inside, size-least)))
        ∙ put-here (take h.header_size s) 12 m (omega (arith, head-there, size-least)) small

    fields-kept : fields_of (new_head s h m ++ L) ≡ new_header h m
    fields-kept =
        rw (
          before 4 0 (omega arith),
          before 4 4 (omega arith),
          before 4 8 (omega arith),
          new-maximum,
          after 4 16 (omega arith) (omega arith),
          after 2 20 (omega arith) (omega arith),
          after 2 22 (omega arith) (omega arith),
          after 4 24 (omega arith) (omega arith),
          after 4 28 (omega arith) (omega arith),
          after 4 32 (omega arith) (omega arith),
          after 4 36 (omega arith) (omega arith),
          after 4 40 (omega arith) (omega arith),
          after 4 44 (omega arith) (omega arith),
          after 4 48 (omega arith) (omega arith),
          after 4 52 (omega arith) (omega arith),
        )
        (ap (λ x. new_header x m) op.is)

    pub new-header : length (new_head s h m ++ L) ≤ longest → h.minimum_index ≤ m → header_of (new_head s h m ++ L) ≡ answered (new_header h m)
    new-header short up =
        let size = before 4 4 (omega arith) in
        let min = before 4 8 (omega arith) in
        let max = new-maximum in
        let long : h.header_size ≤ length (new_head s h m ++ L) = omega (arith, length-append (new_head s h m) L, head-long s h m size-inside) in
        header-whole (new_head s h m ++ L) (record {
          there = record { short = short; whole = omega (arith, size-least) };
          least = omega (arith, size, op.sized.least);
          most = omega (arith, size, op.sized.most);
          inside = omega (arith, size, size_is);
        }) (omega (arith, min, op.low)) (omega (arith, min, max, minimum-is))
        ∙ ap answered fields-kept

  -- the same maximum, the same bytes
  pub same_head : Octets s → new_head s h h.maximum_index ≡ take h.header_size s
  unfolding new_head Octets
  same_head o =
      let m : little_at 4 (take h.header_size s) 12 ≡ h.maximum_index =
      little-alike 4 s (take h.header_size s) 12 (λ i x y. get_or-take h.header_size s i 0 (omega (arith, size-least))) ∙ maximum-is in
      ap (λ x. put (take h.header_size s) 12 (bytes 4 x)) (sym m)
      ∙ put_same (take h.header_size s) 12 (take-octets h.header_size s o) (omega (arith, head-there, size-least))
