-- An answer, taken apart: what was read first, and what was made of it. Assumes nothing.
use Prim.Native.Nat.{ℕ}
use mathlib.Core.Path.{◌≡◌, refl, ap}
use Rattle.answer.specs.Answer.{Answer, answered, refused, Read, got, and_then}
use Rattle.record_reference.proofs.ValueLaws.{no_answer}

pub record From {A B : Type 0} (a : Read A) (f : A → ℕ → Answer B) (b : B) : Type 0 where
  pub value : A
  pub place : ℕ
  pub was : a ≡ got value place
  pub gives : f value place ≡ answered b

pub from : {A B : Type 0} (a : Read A) (f : A → ℕ → Answer B) (b : B) → and_then a f ≡ answered b → From a f b
from (answered g) f b e = record { value = g.value; place = g.next; was = refl; gives = e }
from (refused n d) f b e = no_answer e

value_in : {B : Type 0} → B → Read B → B
value_in v (answered g) = g.value
value_in v (refused n d) = v

place_in : {B : Type 0} → ℕ → Read B → ℕ
place_in q (answered g) = g.next
place_in q (refused n d) = q

-- the same reading has the same value and ends at the same place
pub same-value : {B : Type 0} (x v : B) (p q : ℕ) → got x p ≡ got v q → x ≡ v
unfolding value_in
same-value x v p q e = ap (value_in x) e

pub same_place : {B : Type 0} (x v : B) (p q : ℕ) → got x p ≡ got v q → p ≡ q
unfolding place_in
same_place x v p q e = ap (place_in p) e
