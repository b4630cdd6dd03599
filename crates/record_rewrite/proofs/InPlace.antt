-- Copying a payload into a buffer and rewriting it there: the references' places move with it. Assumes nothing.
use Prim.Native.Nat.{ℕ, zero, suc, ◌+◌, ◌-◌, ◌≤◌, ◌<◌}
use native.Mathlib.Omega.{arith}
use mathlib.Core.Bool.{Bool, true, false}
use mathlib.Core.Path.{◌≡◌, refl, ap, sym, ◌∙◌}
use mathlib.Core.Logic.{◌⊎◌, inl, inr}
use mathlib.Core.List.{List, [], ◌∷◌}
use lib.ListN.{length, get_or, set, length-set}
use lib.Seq.{get_or-set_same, ext_get_or}
use lib.Dec.{ltb}
use borrow.Author.Tests.{ltb-true, ltb-false}
use Rattle.field.specs.Bytes.{bytes}
use Rattle.field.proofs.ByteLaws.{length-bytes}
use Rattle.field_put.specs.Bytes.{put}
use Rattle.field_put.proofs.PutLaws.{length-put}
use Rattle.record_reference.specs.References.{Ref}
use Rattle.record_rewrite.specs.Rewrite.{rewrite, Within, shifted, InPlace}
use Rattle.record_rewrite.proofs.Places.{within-onward, put-outside}

pub put-inside : (s : List ℕ) (p : ℕ) (bs : List ℕ) (i : ℕ) → p + length bs ≤ length s → i < length bs → get_or (put s p bs) (p + i) 0 ≡ get_or bs i 0
unfolding put
put-inside s p [] i h l = absurd (omega arith)
put-inside s p (b ∷ bs) zero h l =
    let z : p + 0 ≡ p = omega arith in
    rw z (put-outside (set s p b) (p + 1) bs p (inl (omega arith)) ∙ get_or-set_same s p b 0 (omega arith))
put-inside s p (b ∷ bs) (suc i) h l =
    let z : p + suc i ≡ p + 1 + i = omega arith in
    rw z (put-inside (set s p b) (p + 1) bs i (omega (arith, length-set s p b)) (omega arith))

-- writing into what is written is writing behind it
pub put-into : (b : List ℕ) (q : ℕ) (p : List ℕ) (k : ℕ) (bs : List ℕ) → k + length bs ≤ length p → q + length p ≤ length b → put b q (put p k bs) ≡ put (put b q p) (q + k) bs
put-into b q p k bs h l = ext_get_or 0 (put b q (put p k bs)) (put (put b q p) (q + k) bs) long (λ i x. go i)
  where
    long : length (put b q (put p k bs)) ≡ length (put (put b q p) (q + k) bs)
    long = length-put b q (put p k bs) ∙ sym (length-put (put b q p) (q + k) bs ∙ length-put b q p)

    inner : length (put p k bs) ≡ length p
    inner = length-put p k bs

    outside : (i : ℕ) → (i < q ⊎ q + length p ≤ i) → (i < q + k ⊎ q + k + length bs ≤ i) → get_or (put b q (put p k bs)) i 0 ≡ get_or (put (put b q p) (q + k) bs) i 0
    outside i x y = put-outside b q (put p k bs) i (rw inner x) ∙ sym (put-outside (put b q p) (q + k) bs i y ∙ put-outside b q p i x)

    around : (j : ℕ) → j < length p → (j < k ⊎ k + length bs ≤ j) → (q + j < q + k ⊎ q + k + length bs ≤ q + j) → get_or (put b q (put p k bs)) (q + j) 0 ≡ get_or (put (put b q p) (q + k) bs) (q + j) 0
    around j x y z =
        put-inside b q (put p k bs) j (omega (arith, inner)) (omega (arith, inner)) ∙ put-outside p k bs j y
        ∙ sym (put-outside (put b q p) (q + k) bs (q + j) z ∙ put-inside b q p j l x)

    within : (m : ℕ) → m < length bs → get_or (put b q (put p k bs)) (q + (k + m)) 0 ≡ get_or (put (put b q p) (q + k) bs) (q + (k + m)) 0
    within m x =
        let z : q + (k + m) ≡ q + k + m = omega arith in
        put-inside b q (put p k bs) (k + m) (omega (arith, inner)) (omega (arith, inner)) ∙ put-inside p k bs m h x
        ∙ sym (ap (λ y. get_or (put (put b q p) (q + k) bs) y 0) z ∙ put-inside (put b q p) (q + k) bs m (omega (arith, length-put b q p)) x)

    third : (j : ℕ) → j < length p → k ≤ j → (c : Bool) → ltb j (k + length bs) ≡ c → get_or (put b q (put p k bs)) (q + j) 0 ≡ get_or (put (put b q p) (q + k) bs) (q + j) 0
    third j x y true e =
        let u = ltb-true j (k + length bs) e in
        let z : k + (j - k) ≡ j = omega arith in
        rw z at (within (j - k) (omega arith))
    third j x y false e = let u = ltb-false j (k + length bs) e in around j x (inr u) (inr (omega arith))

    second : (j : ℕ) → j < length p → (c : Bool) → ltb j k ≡ c → get_or (put b q (put p k bs)) (q + j) 0 ≡ get_or (put (put b q p) (q + k) bs) (q + j) 0
    second j x true e = let u = ltb-true j k e in around j x (inl u) (inl (omega arith))
    second j x false e = third j x (ltb-false j k e) (ltb j (k + length bs)) refl

    last : (i : ℕ) → q ≤ i → (c : Bool) → ltb i (q + length p) ≡ c → get_or (put b q (put p k bs)) i 0 ≡ get_or (put (put b q p) (q + k) bs) i 0
    last i x true e =
        let u = ltb-true i (q + length p) e in
        let z : q + (i - q) ≡ i = omega arith in
        rw z at (second (i - q) (omega arith) (ltb (i - q) k) refl)
    last i x false e = let u = ltb-false i (q + length p) e in outside i (inr u) (inr (omega arith))

    before : (i : ℕ) (c : Bool) → ltb i q ≡ c → get_or (put b q (put p k bs)) i 0 ≡ get_or (put (put b q p) (q + k) bs) i 0
    before i true e = let u = ltb-true i q e in outside i (inl u) (inl (omega arith))
    before i false e = last i (ltb-false i q e) (ltb i (q + length p)) refl

    go : (i : ℕ) → get_or (put b q (put p k bs)) i 0 ≡ get_or (put (put b q p) (q + k) bs) i 0
    go i = before i (ltb i q) refl

in-place-from : (f : ℕ → ℕ) (rs : List Ref) (b : List ℕ) (q : ℕ) (p : List ℕ) (k : ℕ) → q + length p ≤ length b → Within k rs (length p)
    → put b q (rewrite f p rs) ≡ rewrite f (put b q p) (shifted q rs)
unfolding rewrite shifted Within
in-place-from f [] b q p k l w = refl
in-place-from f (r ∷ rs) b q p k l w =
    let bs = bytes 4 (f r.index) in
    let n : length bs ≡ 4 = length-bytes 4 (f r.index) in
    let e : length (put p r.place bs) ≡ length p = length-put p r.place bs in
    let v = within-onward rs (r.place + 4) (length p) w.1 in
    in-place-from f rs b q (put p r.place bs) (r.place + 4) (omega arith) (rw e w.1)
    ∙ ap (λ x. rewrite f x (shifted q rs)) (put-into b q p r.place bs (omega arith) l)

pub in_place : InPlace
unfolding InPlace
in_place f rs b q p l w = in-place-from f rs b q p 0 l w
