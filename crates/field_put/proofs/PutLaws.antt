-- Laws of writing: what `put` leaves, a run of writes, and the contracts. Assumes nothing.
use Prim.Native.Nat.{ℕ, zero, suc, ◌+◌, ◌*◌, ◌/◌, ◌%◌, ◌^◌, ◌≤◌, ◌<◌}
use native.Mathlib.Omega.{arith}
use native.Mathlib.Nat.{add-zero, zero-add, suc-add, pow-suc, pow-succ', div-one, div-div-eq-div-mul}
use native.Mathlib.Numerals.{add-one}
use mathlib.Core.Path.{◌≡◌, refl, ap, sym, ◌∙◌}
use mathlib.Core.List.{List, [], ◌∷◌, ◌++◌}
use lib.ListN.{length, get_or, take, drop, set, length-set, length-append, drop_of_length-le}
use lib.Arith.{mod-mul, digits_mod, digits_div}
use lib.Seq.{sets, sets-eq, drop-cons}
use borrow.Author.Tests.{le-leb, lt-leb}
pub use Rattle.field.proofs.ByteLaws.{length-bytes}
use Rattle.field_put.specs.Bytes.{bytes, put, Room, Puts, Lays}

put-sets : (s : List ℕ) (p : ℕ) (bs : List ℕ) → put s p bs ≡ sets s p bs
unfolding put
put-sets s p [] = refl
put-sets s p (b ∷ bs) = rw add-one (put-sets (set s p b) (suc p) bs)

-- what was before the place and what is after the bytes stays
pub put_is : (s : List ℕ) (p : ℕ) (bs : List ℕ) → p + length bs ≤ length s → put s p bs ≡ take p s ++ bs ++ drop (p + length bs) s
put_is s p bs h = put-sets s p bs ∙ sets-eq bs s p h

pub length-put : (s : List ℕ) (p : ℕ) (bs : List ℕ) → length (put s p bs) ≡ length s
unfolding put
length-put s p [] = refl
length-put s p (b ∷ bs) = length-put (set s p b) (p + 1) bs ∙ length-set s p b

-- nothing written leaves the buffer
pub put-none : (s : List ℕ) (p : ℕ) → put s p [] ≡ s
unfolding put
put-none s p = refl

-- one after the other
pub put-put : (s : List ℕ) (p : ℕ) (xs bs : List ℕ) → put (put s p xs) (p + length xs) bs ≡ put s p (xs ++ bs)
unfolding put
put-put s p [] bs = rw add-zero
put-put s p (x ∷ xs) bs =
    let e : p + suc (length xs) ≡ p + 1 + length xs = omega arith in
    rw e (put-put (set s p x) (p + 1) xs bs)

-- one and two bytes
pub put_one : (s : List ℕ) (p x : ℕ) → x < 256 → set s p x ≡ put s p (bytes 1 x)
unfolding put bytes
put_one s p x h = let e : x % 256 ≡ x = omega arith in rw e

pub put_two : (s : List ℕ) (p x : ℕ) → x < 65536 → set (set s p (x % 256)) (p + 1) (x / 256) ≡ put s p (bytes 2 x)
unfolding put bytes
put_two s p x h = let e : x / 256 % 256 ≡ x / 256 = omega arith in rw e

-- by halves: j low bytes, and k bytes above them
pub pow_pos : (k : ℕ) → 0 < 256 ^ k
pow_pos zero = omega arith
pow_pos (suc k) = rw (pow-suc 256 k) (omega (arith, pow_pos k))

low : (j n : ℕ) → bytes j (n % 256 ^ j) ≡ bytes j n
unfolding bytes
low zero n = refl
low (suc j) n =
    let e : n % 256 ^ suc j ≡ n / 256 % 256 ^ j * 256 + n % 256 = ap (λ (x : ℕ). n % x) (pow-suc 256 j) ∙ mod-mul n (pow_pos j) (omega arith) in
    let m : n % 256 < 256 = omega arith in
    rw (e, digits_mod (n / 256 % 256 ^ j) m, digits_div (n / 256 % 256 ^ j) m, low j (n / 256))

high : (j k n : ℕ) → bytes j n ++ bytes k (n / 256 ^ j) ≡ bytes (j + k) n
unfolding bytes
high zero k n = rw (div-one n, zero-add k)
high (suc j) k n =
    let e : n / 256 ^ suc j ≡ n / 256 / 256 ^ j = ap (λ (x : ℕ). n / x) (pow-succ' 256 j) ∙ sym (div-div-eq-div-mul n 256 (256 ^ j)) in
    rw (e, suc-add j k) (ap (λ (l : List ℕ). n % 256 ∷ l) (high j k (n / 256)))

pub halves : (j k n : ℕ) → bytes j (n % 256 ^ j) ++ bytes k (n / 256 ^ j) ≡ bytes (j + k) n
halves j k n = rw (low j n) (high j k n)

-- a turn of a loop that copies: what is left to write stands from place q of t
pub copy-turn : (s : List ℕ) (p : ℕ) (t : List ℕ) (q : ℕ) → q < length t → put s p (drop q t) ≡ put (set s p (get_or t q 0)) (p + 1) (drop (q + 1) t)
unfolding put
copy-turn s p t q h =
    ap (put s p) (drop-cons t q 0 h) ∙ ap (λ (n : ℕ). put (set s p (get_or t q 0)) (p + 1) (drop n t)) (sym (add-one q))

-- and its end
pub copy-end : (s₀ s : List ℕ) (p to : ℕ) (xs : List ℕ) (i : ℕ) → put s₀ p xs ≡ put s to (drop i xs) → length xs ≤ i → s ≡ put s₀ p xs
copy-end s₀ s p to xs i e h = sym (e ∙ ap (put s to) (drop_of_length-le xs h) ∙ put-none s to)

-- ---- the contracts

-- of a known length
pub room_of : (s : List ℕ) (p : ℕ) (bs : List ℕ) (k : ℕ) → length bs ≡ k → Room s p bs → p + k ≤ length s
room_of s p bs k e h = omega (arith, h.room)

pub room_for : (s : List ℕ) (p : ℕ) (bs : List ℕ) (k : ℕ) → length bs ≡ k → p + k ≤ length s → Room s p bs
room_for s p bs k e h = record { room = omega arith }

pub puts_of : (s : List ℕ) (p : ℕ) (bs : List ℕ) (k : ℕ) (s' : List ℕ) → length bs ≡ k → s' ≡ put s p bs → Puts s p bs (p + k) s'
puts_of s p bs k s' e f = record { next = omega arith; left = f }

module _ (s : List ℕ) (p : ℕ) (bs : List ℕ) (r : ℕ) (s' : List ℕ) where
  -- where there is room the two are the same
  pub laid : Room s p bs → Lays s p bs r s' → Puts s p bs r s'
  laid h l = record { next = rw (le-leb _ _ h.room) at l.next; left = rw (le-leb _ _ h.room) at l.left }

  pub lays : Room s p bs → Puts s p bs r s' → Lays s p bs r s'
  lays h w = record { next = rw (le-leb _ _ h.room) w.next; left = rw (le-leb _ _ h.room) w.left }

-- without room nothing
pub lays-none : (s : List ℕ) (p : ℕ) (bs : List ℕ) (k : ℕ) → length bs ≡ k → length s < p + k → Lays s p bs p s
lays-none s p bs k e h =
    let l : length s < p + length bs = omega arith in
    record { next = rw (lt-leb _ _ l); left = rw (lt-leb _ _ l) }

-- a run of writes: room for the first, room for the others after it, and all of them
module _ (s : List ℕ) (p : ℕ) (xs ys : List ℕ) where
  pub room-first : Room s p (xs ++ ys) → Room s p xs
  room-first h = record { room = omega (arith, h.room, length-append xs ys) }

  pub room_after : (q : ℕ) (s₁ : List ℕ) → Room s p (xs ++ ys) → Puts s p xs q s₁ → Room s₁ q ys
  room_after q s₁ h w = record { room = omega (arith, h.room, w.next, length-append xs ys, ap length w.left, length-put s p xs) }

  pub puts-both : (q r : ℕ) (s₁ s₂ : List ℕ) → Puts s p xs q s₁ → Puts s₁ q ys r s₂ → Puts s p (xs ++ ys) r s₂
  puts-both q r s₁ s₂ v w = record {
    next = omega (arith, v.next, w.next, length-append xs ys);
    left = w.left ∙ ap (λ (l : List ℕ). put l q ys) v.left ∙ ap (λ (n : ℕ). put (put s p xs) n ys) v.next ∙ put-put s p xs ys;
  }

pub puts-length : (s : List ℕ) (p : ℕ) (bs : List ℕ) (r : ℕ) (s' : List ℕ) → Puts s p bs r s' → length s' ≡ length s
puts-length s p bs r s' w = ap length w.left ∙ length-put s p bs
