-- Bytes that are written, and bytes that stand at a place: a number that was written reads back. Assumes nothing.
use Prim.Native.Nat.{ℕ, zero, suc, ◌+◌, ◌/◌, ◌^◌, ◌≤◌, ◌<◌}
use native.Mathlib.Omega.{arith}
use native.Mathlib.Nat.{pow-succ', div-lt_iff_lt-mul, mul_comm}
use mathlib.Core.Path.{◌≡◌, refl, ap, sym, ◌∙◌}
use mathlib.Core.List.{List, ◌∷◌, ◌++◌, append_assoc}
use lib.ListN.{length, get_or, drop, length-drop, length-append}
use lib.Seq.{get_or-drop, drop-drop, drop-append_seam}
use borrow.Author.Tests.{le-leb}
use Rattle.answer.specs.Answer.{got}
use Rattle.field.specs.Fields.{little_at, fixed_at}
use Rattle.field.specs.Bytes.{bytes}

pub length-bytes : (k n : ℕ) → length (bytes k n) ≡ k
unfolding bytes
length-bytes zero n = refl
length-bytes (suc k) n = ap suc (length-bytes k (n / 256))

-- each is below 256
pub bytes_small : (k n i : ℕ) → get_or (bytes k n) i 0 < 256
unfolding bytes
bytes_small zero n i = omega arith
bytes_small (suc k) n zero = omega arith
bytes_small (suc k) n (suc i) = bytes_small k (n / 256) i

-- the bytes bs stand at place p of s, and ys after them
pub record Stands (s : List ℕ) (p : ℕ) (bs ys : List ℕ) : Type 0 where
  pub inside : p ≤ length s
  pub here : drop p s ≡ bs ++ ys

pub stands : (xs bs ys : List ℕ) → Stands (xs ++ (bs ++ ys)) (length xs) bs ys
stands xs bs ys = record { inside = omega (arith, length-append xs (bs ++ ys)); here = drop-append_seam xs (bs ++ ys) }

module _ (s : List ℕ) (p : ℕ) where
  head_at : (b : ℕ) (t : List ℕ) → drop p s ≡ b ∷ t → get_or s p 0 ≡ b
  head_at b t e =
      let f : p + 0 ≡ p = omega arith in
      ap (λ (n : ℕ). get_or s n 0) (sym f) ∙ sym (get_or-drop p s 0 0) ∙ ap (λ (l : List ℕ). get_or l 0 0) e

  tail_at : (b : ℕ) (t : List ℕ) → drop p s ≡ b ∷ t → drop (p + 1) s ≡ t
  tail_at b t e = sym (drop-drop 1 p s) ∙ ap (λ (l : List ℕ). drop 1 l) e

  behind : (bs ys : List ℕ) → drop p s ≡ bs ++ ys → drop (p + length bs) s ≡ ys
  behind bs ys e = sym (drop-drop (length bs) p s) ∙ ap (λ (l : List ℕ). drop (length bs) l) e ∙ drop-append_seam bs ys

  pub room : (bs ys : List ℕ) → p ≤ length s → drop p s ≡ bs ++ ys → p + length bs ≤ length s
  room bs ys h e = omega (arith, length-drop p s, ap length e, length-append bs ys)

-- what stands first, and what stands after it
pub first : (s : List ℕ) (p : ℕ) (xs bs ys : List ℕ) → Stands s p (xs ++ bs) ys → Stands s p xs (bs ++ ys)
first s p xs bs ys st = record { inside = st.inside; here = st.here ∙ append_assoc xs bs ys }

pub next : (s : List ℕ) (p : ℕ) (xs bs ys : List ℕ) → Stands s p (xs ++ bs) ys → Stands s (p + length xs) bs ys
next s p xs bs ys st =
    let f = first s p xs bs ys st in
    record { inside = room s p xs (bs ++ ys) f.inside f.here; here = behind s p xs (bs ++ ys) f.here }

little-back : (k n : ℕ) (s : List ℕ) (p : ℕ) (ys : List ℕ) → n < 256 ^ k → drop p s ≡ bytes k n ++ ys → little_at k s p ≡ n
unfolding bytes little_at
little-back zero n s p ys h e = omega arith
little-back (suc k) n s p ys h e =
    let b : n / 256 < 256 ^ k = (div-lt_iff_lt-mul {k = 256} {x = n} {y = 256 ^ k} (omega arith)).1 (rw (mul_comm (256 ^ k) 256, ← pow-succ' 256 k) h) in
    let i : little_at k s (p + 1) ≡ n / 256 = little-back k (n / 256) s (p + 1) ys b (tail_at s p _ _ e) in
    rw (head_at s p _ _ e, i) (omega arith)

-- a number of k bytes
pub fixed_back : (k n : ℕ) (s : List ℕ) (p : ℕ) (ys : List ℕ) → n < 256 ^ k → Stands s p (bytes k n) ys → fixed_at k s p ≡ got n (p + length (bytes k n))
unfolding fixed_at
fixed_back k n s p ys h st =
    let f : p + k ≤ length s = omega (arith, room s p (bytes k n) ys st.inside st.here, length-bytes k n) in
    rw (le-leb _ _ f, little-back k n s p ys h st.here, length-bytes k n)
