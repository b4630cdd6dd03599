-- The laws of fields of a fixed width, each stated once, over the width. Assumes nothing.
use Prim.Native.Nat.{ℕ, zero, suc, ◌+◌, ◌*◌, ◌^◌, ◌≤◌, ◌<◌}
use native.Mathlib.Omega.{arith}
use native.Mathlib.Nat.{mul_assoc, pow-succ', suc-add}
use mathlib.Core.Path.{◌≡◌, refl, ap, sym, ◌∙◌}
use mathlib.Core.List.{List}
use mathlib.Core.Bool.{Bool, true, false}
use lib.ListN.{length, get_or}
use lib.Dec.{leb}
use borrow.Author.Tests.{le-leb, lt-leb, leb-true}
use Rattle.answer.specs.Answer.{answered, refused, Read, got, ended, pick}
use Rattle.field.specs.Fields.{little_at, fixed_at}

-- one byte is itself
pub little-one : (s : List ℕ) (p : ℕ) → get_or s p 0 ≡ little_at 1 s p
unfolding little_at
little-one s p = omega arith

-- a number of j + k bytes is its low j bytes and, 256 ^ j times, the k bytes after them
pub little-add : (j k : ℕ) (s : List ℕ) (p : ℕ) → little_at j s p + 256 ^ j * little_at k s (p + j) ≡ little_at (j + k) s p
unfolding little_at
little-add zero k s p =
    let e : p + 0 ≡ p = omega arith in
    let f : 0 + k ≡ k = omega arith in
    rw (e, f) (omega arith)
little-add (suc j) k s p =
    let e : p + suc j ≡ p + 1 + j = omega arith in
    rw (e, suc-add, pow-succ', mul_assoc) (omega (arith, little-add j k s (p + 1)))

-- two halves of k bytes each make the number of k + k bytes
pub halves : (k : ℕ) (s : List ℕ) (p a b : ℕ) → a ≡ little_at k s p → b ≡ little_at k s (p + k) → a + 256 ^ k * b ≡ little_at (k + k) s p
halves k s p a b ea eb = rw (ea, eb) (little-add k k s p)

-- what the toolchain makes of two, four and eight bytes is the number that they make
module _ (s : List ℕ) (p v : ℕ) where
  abbrev byte : ℕ → ℕ
  byte i = get_or s (p + i) 0

  pub little-two : v ≡ get_or s p 0 + byte 1 * 256 → v ≡ little_at 2 s p
  unfolding little_at
  little-two h = omega (arith, h)

  pub little-four : v ≡ get_or s p 0 + byte 1 * 256 + byte 2 * 65536 + byte 3 * 16777216 → v ≡ little_at 4 s p
  unfolding little_at
  little-four h =
      let e : p + 1 + 1 ≡ p + 2 = omega arith in
      let f : p + 2 + 1 ≡ p + 3 = omega arith in
      rw (e, f) (omega (arith, h))

  pub little-eight : v ≡ get_or s p 0 + byte 1 * 256 + byte 2 * 65536 + byte 3 * 16777216 + byte 4 * 4294967296 + byte 5 * 1099511627776 + byte 6 * 281474976710656 + byte 7 * 72057594037927936
      → v ≡ little_at 8 s p
  unfolding little_at
  little-eight h =
      let a : p + 1 + 1 ≡ p + 2 = omega arith in
      let b : p + 2 + 1 ≡ p + 3 = omega arith in
      let c : p + 3 + 1 ≡ p + 4 = omega arith in
      let d : p + 4 + 1 ≡ p + 5 = omega arith in
      let e : p + 5 + 1 ≡ p + 6 = omega arith in
      let f : p + 6 + 1 ≡ p + 7 = omega arith in
      rw (a, b, c, d, e, f) (omega (arith, h))

-- k bytes, each below 256, make a number below 256 ^ k
pub little-below : (k : ℕ) (s : List ℕ) (p : ℕ) → ((i : ℕ) → get_or s i 0 < 256) → little_at k s p < 256 ^ k
unfolding little_at
little-below zero s p b = omega arith
little-below (suc k) s p b = rw pow-succ' (omega (arith, b p, little-below k s (p + 1) b))

-- the field is there, or it has passed the end
pub field-there : (k : ℕ) (s : List ℕ) (p v : ℕ) → p + k ≤ length s → v ≡ little_at k s p → got v (p + k) ≡ fixed_at k s p
unfolding fixed_at
field-there k s p v h e = rw (e, le-leb _ _ h)

pub field-ended : (k : ℕ) (s : List ℕ) (p : ℕ) → length s < p + k → ended ≡ fixed_at k s p
unfolding fixed_at
field-ended k s p h = rw (lt-leb _ _ h)

-- a field that was read is there: its bytes make the value, and it ends behind them
pub record There (k : ℕ) (s : List ℕ) (p v q : ℕ) : Type 0 where
  pub room : p + k ≤ length s
  pub value : v ≡ little_at k s p
  pub next : q ≡ p + k

pub field-got : (k : ℕ) (s : List ℕ) (p v q : ℕ) → fixed_at k s p ≡ got v q → There k s p v q
unfolding fixed_at
field-got k s p v q e = go (leb (p + k) (length s)) refl e
  where
    value_of : Read ℕ → ℕ
    value_of (answered g) = g.value
    value_of (refused n d) = 0

    next_of : Read ℕ → ℕ
    next_of (answered g) = g.next
    next_of (refused n d) = 0

    answers : Read ℕ → ℕ
    answers (answered g) = 1
    answers (refused n d) = 0

    go : (t : Bool) → leb (p + k) (length s) ≡ t → pick t (got (little_at k s p) (p + k)) ended ≡ got v q → There k s p v q
    go true h f = record { room = leb-true (p + k) (length s) h; value = sym (ap value_of f); next = sym (ap next_of f) }
    go false h f = absurd (omega (arith, ap answers f))

pub field-within : (k : ℕ) (s : List ℕ) (p v q : ℕ) → fixed_at k s p ≡ got v q → q ≤ length s
field-within k s p v q e = let t = field-got k s p v q e in omega (arith, t.room, t.next)

-- where the bytes are there, the field is: a refusal would make any number of them
pub never-refused : (k : ℕ) (s : List ℕ) (p n : ℕ) (d : List ℕ) → p + k ≤ length s → refused n d ≡ fixed_at k s p → 0 ≡ little_at k s p
never-refused k s p n d h e = ap (value-or (little_at k s p)) (field-there k s p (little_at k s p) h refl ∙ sym e)
  where
    value-or : ℕ → Read ℕ → ℕ
    value-or v (answered g) = 0
    value-or v (refused n d) = v
