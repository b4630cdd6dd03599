-- What demand 3 uses of an accepted stream that counts at least one record, from the header's own definition. Assumes nothing.
use Prim.Native.Nat.{ℕ, ◌≤◌, ◌<◌}
use mathlib.Core.Path.{◌≡◌}
use mathlib.Core.List.{List}
use mathlib.Core.Bool.{Bool, true, false}
use native.Mathlib.Omega.{arith}
use lib.ListN.{length}
use lib.Dec.{ltb, eqb}
use borrow.Author.Tests.{ltb-false}
use Rattle.answer.specs.Answer.{Answer, answered, pick}
use Rattle.field.specs.Fields.{little_at}
use Rattle.stream_header.specs.Header.{longest, zero_header, header_of}
use Rattle.stream_header.specs.declared.Header.{Header}
use Rattle.stream_item.proofs.NextLaws.{passed}

pub record Accepted (s : List ℕ) (h : Header) : Type 0 where
  pub short : length s ≤ longest
  pub inside : h.header_size ≤ length s
  pub counts : h.minimum_index < h.maximum_index

-- the empty stream counts none
filled : (b : Bool) (a : Answer Header) (h : Header) → pick b (answered zero_header) a ≡ answered h → h.minimum_index < h.maximum_index → a ≡ answered h
filled true a h e l =
    let x : ◌≡◌ {A = ℕ} 0 h.minimum_index = cc in
    let y : ◌≡◌ {A = ℕ} 0 h.maximum_index = cc in
    absurd (omega arith)
filled false a h e l = e

pub accepted : (s : List ℕ) (h : Header) → header_of s ≡ answered h → h.minimum_index < h.maximum_index → Accepted s h
unfolding header_of
accepted s h e l =
    let t1 = passed (ltb longest (length s)) 16 _ _ e in
    let t2 = filled (eqb (length s) 0) _ h t1.1 l in
    let t3 = passed (ltb (length s) 56) 1 _ _ t2 in
    let t4 = passed (ltb (little_at 4 s 4) 56) 2 _ _ t3.1 in
    let t5 = passed (ltb 1024 (little_at 4 s 4)) 3 _ _ t4.1 in
    let t6 = passed (ltb (length s) (little_at 4 s 4)) 1 _ _ t5.1 in
    let t7 = passed (ltb (little_at 4 s 8) 4096) 4 _ _ t6.1 in
    let t8 = passed (ltb (little_at 4 s 12) (little_at 4 s 8)) 5 _ _ t7.1 in
    let w : little_at 4 s 4 ≤ length s = ltb-false _ _ t6.0 in
    let z : little_at 4 s 4 ≡ h.header_size = cc in
    record { short = ltb-false _ _ t1.0; inside = omega arith; counts = l }
