-- What was written reads back, and what was read is written again: a number of k bytes, wherever it stands. Assumes nothing.
use Prim.Native.Nat.{ℕ, zero, suc, ◌+◌, ◌*◌, ◌/◌, ◌%◌, ◌^◌, ◌≤◌, ◌<◌}
use native.Mathlib.Omega.{arith}
use native.Mathlib.Nat.{add-zero, pow-succ', div-lt_iff_lt-mul, mul_comm}
use native.Mathlib.Numerals.{add-one}
use mathlib.Core.Path.{◌≡◌, ap, sym, ◌∙◌}
use mathlib.Core.List.{List, ◌∷◌, ◌++◌}
use lib.ListN.{length, get_or, drop}
use lib.Seq.{get_or-drop, drop-drop, drop-cons, drop-append_seam}
use Rattle.field.specs.Fields.{little_at}
use Rattle.field_put.specs.Bytes.{bytes, Octets}
use Rattle.field_put.proofs.PutLaws.{length-bytes}

-- ---- what stands at a place
module _ (s : List ℕ) (p : ℕ) where
  pub head_at : (b : ℕ) (t : List ℕ) → drop p s ≡ b ∷ t → get_or s p 0 ≡ b
  head_at b t e =
      let f : p + 0 ≡ p = omega arith in
      ap (λ (n : ℕ). get_or s n 0) (sym f) ∙ sym (get_or-drop p s 0 0) ∙ ap (λ (l : List ℕ). get_or l 0 0) e

  pub tail_at : (b : ℕ) (t : List ℕ) → drop p s ≡ b ∷ t → drop (p + 1) s ≡ t
  tail_at b t e = sym (drop-drop 1 p s) ∙ ap (λ (l : List ℕ). drop 1 l) e

  pub after-at : (xs ys : List ℕ) → drop p s ≡ xs ++ ys → drop (p + length xs) s ≡ ys
  after-at xs ys e = sym (drop-drop (length xs) p s) ∙ ap (λ (l : List ℕ). drop (length xs) l) e ∙ drop-append_seam xs ys

-- ---- a number that was written in k bytes reads back
pub little-back : (k n : ℕ) (s : List ℕ) (p : ℕ) (ys : List ℕ) → n < 256 ^ k → drop p s ≡ bytes k n ++ ys → little_at k s p ≡ n
unfolding bytes little_at
little-back zero n s p ys h e = omega arith
little-back (suc k) n s p ys h e =
    let b : n / 256 < 256 ^ k = (div-lt_iff_lt-mul {k = 256} {x = n} {y = 256 ^ k} (omega arith)).1 (rw (mul_comm (256 ^ k) 256, ← pow-succ' 256 k) h) in
    let i : little_at k s (p + 1) ≡ n / 256 = little-back k (n / 256) s (p + 1) ys b (tail_at s p _ _ e) in
    rw (head_at s p _ _ e, i) (omega arith)

-- and what stands after it
pub little-after : (k n : ℕ) (s : List ℕ) (p : ℕ) (ys : List ℕ) → drop p s ≡ bytes k n ++ ys → drop (p + k) s ≡ ys
little-after k n s p ys e = ap (λ (x : ℕ). drop (p + x) s) (sym (length-bytes k n)) ∙ after-at s p (bytes k n) ys e

-- ---- k bytes that are read are written again as they were
pub bytes_back : (k : ℕ) (s : List ℕ) (p : ℕ) → Octets s → p + k ≤ length s → bytes k (little_at k s p) ++ drop (p + k) s ≡ drop p s
unfolding bytes little_at Octets
bytes_back zero s p o h = ap (λ (x : ℕ). drop x s) (add-zero p)
bytes_back (suc k) s p o h =
    let b : get_or s p 0 < 256 = o p in
    let m : (get_or s p 0 + 256 * little_at k s (p + 1)) % 256 ≡ get_or s p 0 = omega arith in
    let d : (get_or s p 0 + 256 * little_at k s (p + 1)) / 256 ≡ little_at k s (p + 1) = omega arith in
    let e : p + suc k ≡ p + 1 + k = omega arith in
    rw (m, d, e)
    (ap (λ (l : List ℕ). get_or s p 0 ∷ l) (bytes_back k s (p + 1) o (omega arith) ∙ ap (λ (x : ℕ). drop x s) (add-one p)) ∙ sym (drop-cons s p 0 (omega arith)))
