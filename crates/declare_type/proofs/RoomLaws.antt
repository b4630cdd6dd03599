-- A walk in a room: what is fixed first takes its bytes from the room of what comes after it. Assumes nothing.
use Rattle.std.specs.Prelude.{Result, Ok, Err, IsErrAnd}
use Prim.Native.Nat.{ℕ, ◌+◌, ◌-◌, ◌≤◌, ◌<◌}
use native.Mathlib.Omega.{arith}
use mathlib.Core.Path.{◌≡◌, refl, ap, sym, ◌∙◌}
use mathlib.Core.Bool.{Bool, true, false}
use mathlib.Core.List.{List, [], ◌++◌}
use lib.ListN.{length, length-append}
use lib.Dec.{ltb}
use borrow.Author.Tests.{lt-ltb, le-ltb, ltb-true, ltb-false}
use Rattle.answer.specs.Answer.{pick}
use Rattle.answer.specs.declared.Refusal.{Refusal}
use Rattle.answer.specs.declared.Refusal.TheVariants as refusal
use Rattle.declare_type.specs.Walk.{Spelled, printed, stopped, onto, fixed_then, capped}

-- how many bytes a walk has left and right of what stands around it
abbrev pub Sums : Type 0
Sums = Result (ℕ × ℕ) Refusal

abbrev pub left_sum : Sums → ℕ
left_sum (Ok (m, n)) = m
left_sum (Err e) = 0

abbrev pub right_sum : Sums → ℕ
right_sum (Ok (m, n)) = n
right_sum (Err e) = 0

-- a refusal that `?` passes on
pub passed : {T : Type 0} (r : Result T Refusal) (e : Refusal) → IsErrAnd r (λ y. y ≡ e) → r ≡ Err e
passed (Ok x) e h = absurd h
passed (Err y) e h = ap Err h

-- with x more bytes on the left and y more on the right
abbrev pub grown : ℕ → ℕ → Sums → Sums
grown x y (Ok (m, n)) = Ok (m + x, y + n)
grown x y (Err e) = Err e

-- two tests with one outcome
same_test : (a b c d : ℕ) → (a < b → c < d) → (b ≤ a → d ≤ c) → ltb a b ≡ ltb c d
same_test a b c d f g = go (ltb a b) refl where
  go : (x : Bool) → ltb a b ≡ x → x ≡ ltb c d
  go true e = sym (lt-ltb c d (f (ltb-true a b e)))
  go false e = sym (le-ltb c d (g (ltb-false a b e)))

grown-pick : (x y : ℕ) (b : Bool) (e : Refusal) (m n : ℕ) → grown x y (pick b (Err e) (Ok (m, n))) ≡ pick b (Err e) (Ok (m + x, y + n))
grown-pick x y true e m n = refl
grown-pick x y false e m n = refl

grown-refused : (x y : ℕ) (b : Bool) (e f : Refusal) → grown x y (pick b (Err e) (Err f)) ≡ pick b (Err e) (Err f)
grown-refused x y true e f = refl
grown-refused x y false e f = refl

-- what is fixed passes the room
pub over : (r : ℕ) (a b : List ℕ) (w : Spelled) → r < length a + length b → capped r (onto a b w) ≡ Err refusal.NoRoom
unfolding capped onto
over r a b (printed l m) h = rw (length-append l a, length-append b m, lt-ltb r (length l + length a + (length b + length m)) (omega arith))
over r a b (stopped k e) h = rw (lt-ltb r (length a + length b + k) (omega arith))

-- or it does not, and the rest has that much less
pub within : (r x y : ℕ) (a b : List ℕ) (w : Spelled) → x ≡ length a → y ≡ length b → x + y ≤ r → capped r (onto a b w) ≡ grown x y (capped (r - x - y) w)
unfolding capped onto
within r x y a b (printed l m) ex ey h =
    let e : ltb r (length l + length a + (length b + length m)) ≡ ltb (r - x - y) (length l + length m) =
    same_test r (length l + length a + (length b + length m)) (r - x - y) (length l + length m) (λ k. omega arith) (λ k. omega arith) in
    rw (length-append l a, length-append b m, e, grown-pick, ex, ey)
within r x y a b (stopped k e) ex ey h =
    let f : ltb r (length a + length b + k) ≡ ltb (r - x - y) k = same_test r (length a + length b + k) (r - x - y) k (λ j. omega arith) (λ j. omega arith) in
    rw (f, grown-refused)

-- the same of a text on the right
pub within-right : (r y : ℕ) (b : List ℕ) (w : Spelled) → y ≡ length b → y ≤ r → capped r (onto [] b w) ≡ grown 0 y (capped (r - y) w)
within-right r y b w ey h =
    let z : r - y ≡ r - 0 - y = omega arith in
    rw z (within r 0 y [] b w refl ey (omega arith))

-- what fits is within the room
pub fits-within : (r m n : ℕ) (w : Spelled) → Ok (m, n) ≡ capped r w → m + n ≤ r
unfolding capped
fits-within r m n (printed l t) e = go (ltb r (length l + length t)) refl e where
  go : (b : Bool) → ltb r (length l + length t) ≡ b → ◌≡◌ {A = Sums} (Ok (m, n)) (pick b (Err refusal.NoRoom) (Ok (length l, length t))) → m + n ≤ r
  go true f h = let z : ◌≡◌ {A = ℕ} 0 1 = cc in omega arith
  go false f h =
      let em : m ≡ length l = ap left_sum h in
      let en : n ≡ length t = ap right_sum h in
      omega (arith, ltb-false r (length l + length t) f)
fits-within r m n (stopped k q) e = go (ltb r k) e where
  go : (b : Bool) → ◌≡◌ {A = Sums} (Ok (m, n)) (pick b (Err refusal.NoRoom) (Err q)) → m + n ≤ r
  go true h = let z : ◌≡◌ {A = ℕ} 0 1 = cc in omega arith
  go false h = let z : ◌≡◌ {A = ℕ} 0 1 = cc in omega arith

-- a whole text that fits, and what comes after it
pub joined-fits : (r m n : ℕ) (v w : Spelled) → Ok (m, n) ≡ capped r v → capped r (fixed_then v w) ≡ grown 0 (m + n) (capped (r - (m + n)) w)
unfolding capped fixed_then
joined-fits r m n (printed l t) w e = go (ltb r (length l + length t)) refl e where
  go : (b : Bool) → ltb r (length l + length t) ≡ b → ◌≡◌ {A = Sums} (Ok (m, n)) (pick b (Err refusal.NoRoom) (Ok (length l, length t)))
      → capped r (onto [] (l ++ t) w) ≡ grown 0 (m + n) (capped (r - (m + n)) w)
  go true f h = cc
  go false f h =
      let em : m ≡ length l = ap left_sum h in
      let en : n ≡ length t = ap right_sum h in
      let k : m + n ≤ r = omega (arith, ltb-false r (length l + length t) f) in
      within-right r (m + n) (l ++ t) w (rw (length-append l t) (omega arith)) k
joined-fits r m n (stopped k q) w e = go (ltb r k) e where
  go : (b : Bool) → ◌≡◌ {A = Sums} (Ok (m, n)) (pick b (Err refusal.NoRoom) (Err q))
      → ◌≡◌ {A = Sums} (pick b (Err refusal.NoRoom) (Err q)) (grown 0 (m + n) (capped (r - (m + n)) w))
  go true h = cc
  go false h = cc

-- a text that is refused
pub joined-refused : (r : ℕ) (q : Refusal) (v w : Spelled) → Err q ≡ capped r v → Err q ≡ capped r (fixed_then v w)
unfolding capped fixed_then
joined-refused r q (printed l t) w e = go (ltb r (length l + length t)) refl e where
  go : (b : Bool) → ltb r (length l + length t) ≡ b → ◌≡◌ {A = Sums} (Err q) (pick b (Err refusal.NoRoom) (Ok (length l, length t)))
      → Err q ≡ capped r (onto [] (l ++ t) w)
  go true f h = h ∙ sym (over r [] (l ++ t) w (rw (length-append l t) (omega (arith, ltb-true r (length l + length t) f))))
  go false f h = cc
joined-refused r q (stopped k p) w e = e
