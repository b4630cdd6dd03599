-- Laws of runs of bytes: their lengths, a turn of a loop that writes or looks at one, and what the code that fills or looks at one has done. Assumes nothing.
use Prim.Native.Nat.{ℕ, zero, suc, ◌+◌, ◌-◌, ◌≤◌, ◌<◌}
use native.Mathlib.Omega.{arith}
use native.Mathlib.Numerals.{add-one}
use mathlib.Core.Bool.{false, not}
use mathlib.Core.Path.{◌≡◌, refl, ap}
use mathlib.Core.List.{List, [], ◌∷◌, append_assoc}
use borrow.Rule.Slice.PartMut.{put_mid}
use lib.ListN.{length, get_or, set, take, drop, replicate, length-drop}
use lib.Seq.{drop-cons, drop-drop, length-take-le}
use borrow.Author.Tests.{ne_eqb}
use Rattle.std.specs.List.{list_any}
use Rattle.std.specs.Prelude.{nat_eq}
use Rattle.field_put.specs.Bytes.{put}
use Rattle.field_put.proofs.PutLaws.{put_is}
use Rattle.write_layout.specs.Runs.{part_at, no_zero, pads, zeros}

pub part_none : (t : List ℕ) (p : ℕ) → part_at t p 0 ≡ []
unfolding part_at
part_none t p = refl

pub part-cons : (t : List ℕ) (p n : ℕ) → p < length t → part_at t p (suc n) ≡ get_or t p 0 ∷ part_at t (p + 1) n
unfolding part_at
part-cons t p n h = rw (add-one, drop-cons t p 0)

pub part_length : (t : List ℕ) (p n : ℕ) → p + n ≤ length t → length (part_at t p n) ≡ n
unfolding part_at
part_length t p n h = length-take-le n (drop p t) (omega (arith, length-drop p t))

pub length-pads : (k : ℕ) → length (pads k) ≡ k
unfolding pads
length-pads zero = refl
length-pads (suc k) = ap suc (length-pads k)

pub length-zeros : (k : ℕ) → length (zeros k) ≡ k
unfolding zeros
length-zeros zero = refl
length-zeros (suc k) = ap suc (length-zeros k)

-- a turn of each loop: n is what is left to do
module _ (s : List ℕ) (p : ℕ) where
  pub copy-turn : (t : List ℕ) (q n : ℕ) → 0 < n → q + n ≤ length t → put s p (part_at t q n) ≡ put (set s p (get_or t q 0)) (p + 1) (part_at t (q + 1) (n - 1))
  unfolding put
  copy-turn t q zero h k = absurd (omega arith)
  copy-turn t q (suc n) h k =
      let e : suc n - 1 ≡ n = omega arith in
      rw (part-cons t q n (omega arith), e)

  pub zero_turn : (n : ℕ) → 0 < n → put s p (zeros n) ≡ put (set s p 0) (p + 1) (zeros (n - 1))
  unfolding put zeros
  zero_turn zero h = absurd (omega arith)
  zero_turn (suc n) h = let e : suc n - 1 ≡ n = omega arith in rw e

  pub pad-turn : (n : ℕ) → 0 < n → put s p (pads n) ≡ put (set s p (240 + n)) (p + 1) (pads (n - 1))
  unfolding put pads
  pad-turn zero h = absurd (omega arith)
  pad-turn (suc n) h = let e : suc n - 1 ≡ n = omega arith in rw e

passed : (b : ℕ) (bs : List ℕ) → (b ≡ 0 → ⊥) → no_zero (b ∷ bs) ≡ no_zero bs
unfolding no_zero
passed zero bs h = absurd (h refl)
passed (suc b) bs h = refl

pub look-turn : (t : List ℕ) (q n : ℕ) → 0 < n → q + n ≤ length t → (get_or t q 0 ≡ 0 → ⊥) → no_zero (part_at t q n) ≡ no_zero (part_at t (q + 1) (n - 1))
look-turn t q zero h k z = absurd (omega arith)
look-turn t q (suc n) h k z =
    let e : suc n - 1 ≡ n = omega arith in
    rw (part-cons t q n (omega arith), e) (passed (get_or t q 0) (part_at t (q + 1) n) z)

pub look-found : (t : List ℕ) (q n : ℕ) → 0 < n → q + n ≤ length t → get_or t q 0 ≡ 0 → false ≡ no_zero (part_at t q n)
unfolding no_zero
look-found t q zero h k z = absurd (omega arith)
look-found t q (suc n) h k z = rw (part-cons t q n (omega arith), z)

-- bytes that were copied into a part of a buffer, and a part that was filled
pub mid-put : (s : List ℕ) (p k : ℕ) (bs : List ℕ) → length bs ≡ k → p + k ≤ length s → put_mid p k s bs ≡ put s p bs
mid-put s p k bs e h = rw (put_is s p bs (omega arith), e, drop-drop, append_assoc)

pub part-is : (t : List ℕ) (p n e : ℕ) → e ≡ p + n → take (e - p) (drop p t) ≡ part_at t p n
unfolding part_at
part-is t p n e h = let f : e - p ≡ n = omega arith in rw f

pub zeros-are : (k : ℕ) → replicate k 0 ≡ zeros k
unfolding zeros
zeros-are zero = refl
zeros-are (suc k) = ap (λ (l : List ℕ). 0 ∷ l) (zeros-are k)

-- the last n of three pad bytes
pub pads-are : (n : ℕ) → n ≤ 3 → take (3 - (3 - n)) (drop (3 - n) (0xf3 ∷ 0xf2 ∷ 0xf1 ∷ [])) ≡ pads n
unfolding pads
pads-are zero h = refl
pads-are (suc zero) h = refl
pads-are (suc (suc zero)) h = refl
pads-are (suc (suc (suc zero))) h = refl
pads-are (suc (suc (suc (suc n)))) h = absurd (omega arith)

-- no zero among them
pub none_zero : (bs : List ℕ) → not (list_any (λ y. nat_eq y 0) bs) ≡ no_zero bs
unfolding no_zero
none_zero [] = refl
none_zero (zero ∷ bs) = refl
none_zero (suc b ∷ bs) =
    let e : nat_eq (suc b) 0 ≡ false = ne_eqb (suc b) 0 (λ e. omega arith) in
    rw e (none_zero bs)
