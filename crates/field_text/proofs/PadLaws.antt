-- The laws of padding: one step of it at place i of the bytes s. Assumes nothing.
use Rattle.std.proofs.Common.{◌≡◌, ℕ, zero, suc, ◌+◌, ◌<◌, ◌≤◌, Bool, true, false, leb, List, ◌∷◌, length, get_or, drop, sym, refl, add-one, arith, drop_of_length-le, drop-cons, le-leb, leb-false, leb-true}
use borrow.Author.Tests.{lt-leb}
use Rattle.answer.specs.Answer.{answered, ended}
use Rattle.field_text.specs.Texts.{pad, more}

-- what is left at place i is its byte and what is left at the next place
drop-next : (s : List ℕ) (i : ℕ) → i < length s → drop i s ≡ get_or s i 0 ∷ drop (i + 1) s
drop-next s i h = rw (add-one, drop-cons s i 0 h)

module _ (s : List ℕ) (i : ℕ) where
  pub pad-end : length s ≤ i → answered i ≡ pad 0 i (drop i s)
  unfolding pad
  pad-end h = rw (drop_of_length-le s h)

  pub pad-stop : i < length s → get_or s i 0 < 240 → answered i ≡ pad 0 i (drop i s)
  unfolding pad
  pad-stop h e = rw (drop-next s i h, lt-leb _ _ e)

-- k bytes to pass: they are there, and what follows is padding again; or they are not
pub pad-jump : (s : List ℕ) (k i : ℕ) → i + k ≤ length s → pad k i (drop i s) ≡ pad 0 (i + k) (drop (i + k) s)
unfolding pad
pad-jump s zero i h = let e : i + 0 ≡ i = omega arith in rw e
pad-jump s (suc k) i h =
    let e : i + suc k ≡ i + 1 + k = omega arith in
    rw (drop-next s i (omega arith), e) (pad-jump s k (i + 1) (omega arith))

pub pad-short : (s : List ℕ) (k i : ℕ) → i ≤ length s → length s < i + k → ended ≡ pad k i (drop i s)
unfolding pad
pad-short s zero i g h = absurd (omega arith)
pad-short s (suc k) i g h = go (λ g'. pad-short s k (i + 1) g' (omega arith)) (leb (length s) i) refl
  where
    go : (i + 1 ≤ length s → ended ≡ pad k (i + 1) (drop (i + 1) s)) → (t : Bool) → leb (length s) i ≡ t → ended ≡ pad (suc k) i (drop i s)
    go ih true e = rw (drop_of_length-le s (leb-true _ _ e))
    go ih false e = let q : i < length s = leb-false _ _ e in rw (drop-next s i q) (ih (omega arith))

-- a pad byte at place i, with the bytes that it takes there, or not
pub pad-more : (s : List ℕ) (i n : ℕ) → i < length s → 240 ≤ get_or s i 0 → n ≡ more (get_or s i 0) + 1 → i + n ≤ length s → pad 0 (i + n) (drop (i + n) s) ≡ pad 0 i (drop i s)
unfolding pad
pad-more s i n h b e f =
    let q : i + n ≡ i + 1 + more (get_or s i 0) = omega arith in
    rw (drop-next s i h, le-leb _ _ b, q) (sym (pad-jump s (more (get_or s i 0)) (i + 1) (omega arith)))

pub pad-cut : (s : List ℕ) (i n : ℕ) → i < length s → 240 ≤ get_or s i 0 → n ≡ more (get_or s i 0) + 1 → length s < i + n → ended ≡ pad 0 i (drop i s)
unfolding pad
pad-cut s i n h b e f = rw (drop-next s i h, le-leb _ _ b) (pad-short s (more (get_or s i 0)) (i + 1) (omega arith) (omega arith))
