-- The buffer's reads at a place, from the lengths; and how `Same` and `Equal` are shown. Assumes nothing.
use Prim.Native.Nat.{ℕ, ◌+◌, ◌-◌, ◌≤◌, ◌<◌}
use mathlib.Core.Path.{◌≡◌, refl, sym, subst}
use mathlib.Core.List.{List, []}
use mathlib.Core.Bool.{Bool, true, false}
use native.Mathlib.Omega.{arith}
use lib.ListN.{length, take as front, drop, length-drop}
use lib.Dec.{leb}
use borrow.Author.Tests.{le-leb, lt-leb, lt-ltb, leb-true, leb-false, eq-eqb, ne_eqb}
use Rattle.answer.specs.Answer.{Answer, answered, refused, got, ended}
use Rattle.field.specs.Fields.{little_at, fixed_at}
use Rattle.claim_model.specs.Rust.{Rust, gives, errs, panics, wraps, Error, unexpected_eof, usize_top}
use Rattle.claim_model.specs.ParseBuffer.{at, len, is_empty, parse, peek, take}
use Rattle.claim_model.specs.Equal.{numbered, Equal, Same}

module _ (s : List ℕ) (p : ℕ) where
  pub some_left : p < length s → is_empty (at s p) ≡ gives false
  unfolding is_empty len
  some_left h =
      let h' : p ≤ length s = omega arith in
      simp (le-leb _ _ h', ne_eqb (length s - p) 0 (λ (e : length s - p ≡ 0). omega arith))

  pub none_left : p ≡ length s → is_empty (at s p) ≡ gives true
  unfolding is_empty len
  none_left h =
      let h' : p ≤ length s = omega arith in
      simp (le-leb _ _ h', eq-eqb (length s - p) 0 (omega arith))

  -- a number of k bytes, in the crate and in the port
  module _ (k : ℕ) where
    pub parse-in : p + k ≤ length s → parse k (at s p) ≡ gives (little_at k s p, at s (p + k))
    unfolding parse
    parse-in h = simp (le-leb _ _ h)

    pub parse-out : length s < p + k → parse k (at s p) ≡ errs unexpected_eof
    unfolding parse
    parse-out h = simp (lt-leb _ _ h)

    pub peek-in : p + k ≤ length s → peek k (at s p) ≡ gives (little_at k s p)
    unfolding peek
    peek-in h = simp (parse-in h)

    pub fixed_in : p + k ≤ length s → fixed_at k s p ≡ got (little_at k s p) (p + k)
    unfolding fixed_at
    fixed_in h = simp (le-leb _ _ h)

    pub fixed_out : length s < p + k → fixed_at k s p ≡ ended
    unfolding fixed_at
    fixed_out h = simp (lt-leb _ _ h)

  pub take_in : (n : ℕ) → length s < usize_top → p + n ≤ length s → take (at s p) n ≡ gives (front n (drop p s), at s (p + n))
  unfolding take
  take_in n l h =
      let a : p ≤ length s = omega arith in
      let b : n ≤ length (drop p s) = rw length-drop (omega arith) in
      let c : p + n < usize_top = omega arith in
      simp (le-leb _ _ a, le-leb _ _ b, lt-ltb _ _ c)

  pub take_out : (n : ℕ) → p ≤ length s → length s < p + n → take (at s p) n ≡ errs unexpected_eof
  unfolding take
  take_out n a h =
      let b : length (drop p s) < n = rw length-drop (omega arith) in
      simp (le-leb _ _ a, lt-leb _ _ b)

-- ---- from what the crate does
pub equal-wraps : {A : Type 0} (r : Rust A) (a : Answer A) → r ≡ wraps → Equal r a
equal-wraps r a e = subst (λ (x : Rust _). Equal x a) (sym e) tt

pub equal-panics : {A : Type 0} (r : Rust A) (a : Answer A) → r ≡ panics → Equal r a
equal-panics r a e = subst (λ (x : Rust _). Equal x a) (sym e) tt

pub same_gives : {A : Type 0} (r : Rust A) (v : A) (a : Answer A) → r ≡ gives v → a ≡ answered v → Same r a
same_gives r v a e q = subst (λ (x : Rust _). Same x a) (sym e) (record { stays = tt; equal = q })

pub same-errs : {A : Type 0} (r : Rust A) (x : Error) (a : Answer A) → r ≡ errs x → a ≡ numbered x → Same r a
same-errs r x a e q = subst (λ (y : Rust _). Same y a) (sym e) (record { stays = tt; equal = q })

-- what both give, and an end in both
pub same : {A : Type 0} (v : A) → Same (gives v) (answered v)
same v = record { stays = tt; equal = refl }

pub same_end : {A : Type 0} → Same {A = A} (errs unexpected_eof) (refused 1 [])
same_end = record { stays = tt; equal = refl }

-- ---- by the order of two numbers
pub by_order : {X : Type 0} (a b : ℕ) → (a ≤ b → X) → (b < a → X) → X
by_order {X = X} a b f g = go (leb a b) refl
  where
    go : (t : Bool) → leb a b ≡ t → X
    go true e = f (leb-true _ _ e)
    go false e = g (leb-false _ _ e)
