-- The ways out of `put_stream` and of `to_stream`. Assumes nothing.
use Rattle.std.specs.Prelude.{Result, Ok, Err}
use Prim.Native.Nat.{ℕ, ◌+◌, ◌-◌, ◌≤◌, ◌<◌}
use mathlib.Core.Path.{◌≡◌, refl, sym, ap, ◌∙◌}
use mathlib.Core.List.{List, [], ◌++◌}
use native.Mathlib.Omega.{arith}
use lib.ListN.{length, take, drop, length-append, length-drop}
use lib.Seq.{take_all}
use borrow.Author.Tests.{le-leb, le-ltb, lt-ltb}
use Rattle.answer.specs.Answer.{Answer, answered, refused, then}
use Rattle.answer.specs.Refusals.{no, itself, said}
use Rattle.answer.specs.declared.Refusal.{Refusal}
use Rattle.stream_header.specs.Header.{longest}
use Rattle.stream_header.specs.declared.Header.{Header}
use Rattle.field_put.specs.Bytes.{put, Lays}
use Rattle.field_put.proofs.PutLaws.{put-put, length-put}
use Rattle.write_layout.specs.Buffer.{lay, Writes}
use Rattle.write_header.specs.Headers.{header_fields, header_bytes}
use Rattle.write_header.proofs.HeaderLaws.{header-length}
use Rattle.section_item.specs.Sections.{count_of}
use Rattle.section_stream.specs.Streams.{header_for, stream_bytes, section_stream}

-- 56 bytes
pub head-length : (n size : ℕ) → length (header_fields (header_for n size)) ≡ 56
head-length n size = header-length (header_for n size) (omega arith)

pub stream-length : (n : ℕ) (s : List ℕ) → 4 ≤ length s → length (stream_bytes n s) ≡ length s + 52
unfolding stream_bytes
stream-length n s h =
    omega (arith, head-length n (length s - 4), length-append (header_fields (header_for n (length s - 4))) (drop 4 s), length-drop 4 s)

-- the rest of a list from place 4 on, as the code has it
pub rest-whole : (s : List ℕ) → take (length s - 4) (drop 4 s) ≡ drop 4 s
rest-whole s = take_all (length s - 4) (drop 4 s) (omega (arith, length-drop 4 s))

-- the header that is written passes its own checks
pub head_bytes : (n size : ℕ) → header_bytes (header_for n size) ≡ answered (header_fields (header_for n size))
unfolding header_bytes
head_bytes n size =
    let l : 4096 ≤ 4096 + n = omega arith in
    rw (le-ltb _ _ l)

-- the bytes of the header
abbrev hs : ℕ → List ℕ → List ℕ
hs n s = header_fields (header_for n (length s - 4))

module _ (s : List ℕ) (n : ℕ) (o : List ℕ) (four : 4 ≤ length s) where
  pub no_room : length o < length s + 52 → Writes o (lay (answered (stream_bytes n s)) o 0) (refused 19 []) o
  unfolding lay
  no_room h =
      let l : length o < 0 + length (stream_bytes n s) = omega (arith, stream-length n s four) in
      rw (lt-ltb _ _ l) (record { answer = refl; left = refl })

  module _ (room : length s + 52 ≤ length o) where
    head-laid : lay (header_bytes (header_for n (length s - 4))) o 0 ≡ answered (record { buffer = put o 0 (hs n s); next = 56 })
    unfolding lay
    head-laid =
        let e = head-length n (length s - 4) in
        let l : 0 + length (hs n s) ≤ length o = omega arith in
        rw (head_bytes n (length s - 4), le-ltb _ _ l, e)

    -- the header's writer does not refuse
    pub head-written : (r : Answer ℕ) (o₁ : List ℕ) → Writes o (lay (header_bytes (header_for n (length s - 4))) o 0) r o₁
        → (r ≡ answered 56) × (o₁ ≡ put o 0 (hs n s))
    head-written r o₁ w = (rw head-laid at w.answer, rw head-laid at w.left)

    -- and then the records
    pub both-written : (q : ℕ) (o₁ o₂ : List ℕ) → o₁ ≡ put o 0 (hs n s) → Lays o₁ 56 (drop 4 s) q o₂
        → Writes o (lay (answered (stream_bytes n s)) o 0) (answered q) o₂
    unfolding lay stream_bytes
    both-written q o₁ o₂ e l =
        let k : 0 + length (hs n s) ≡ 56 = omega (arith, head-length n (length s - 4)) in
        let m : length (hs n s ++ drop 4 s) ≡ length s + 52 = omega (arith, length-append (hs n s) (drop 4 s), length-drop 4 s) in
        let f : length o₁ ≡ length o = ap length e ∙ length-put o 0 (hs n s) in
        let r : 56 + length (drop 4 s) ≤ length o₁ = omega (arith, length-drop 4 s) in
        let x : q ≡ 56 + length (drop 4 s) = rw (le-leb _ _ r) at l.next in
        let y : o₂ ≡ put o₁ 56 (drop 4 s) = rw (le-leb _ _ r) at l.left in
        let z : put o₁ 56 (drop 4 s) ≡ put o 0 (hs n s ++ drop 4 s) =
        ap (λ (u : List ℕ). put u 56 (drop 4 s)) e ∙ ap (λ (j : ℕ). put (put o 0 (hs n s)) j (drop 4 s)) (sym k)
        ∙ put-put o 0 (hs n s) (drop 4 s) in
        let i : 0 + length (hs n s ++ drop 4 s) ≤ length o = omega arith in
        let j : q ≡ 0 + length (hs n s ++ drop 4 s) = omega (arith, length-drop 4 s) in
        rw (le-ltb _ _ i) (record { answer = ap (λ (v : ℕ). answered v) j; left = y ∙ z })

    -- the same as the code has it: the header that was made, and what its writer answered
    module _ (h : Header) (made : h ≡ header_for n (length s - 4)) (r : Result ℕ Refusal) (o₁ : List ℕ) (w : Writes o (lay (header_bytes h) o 0) (said itself r) o₁) where
      told-head : (said itself r ≡ answered 56) × (o₁ ≡ put o 0 (hs n s))
      told-head = head-written (said itself r) o₁ (rw made at w)

      pub stream-written : (p : ℕ) → r ≡ Ok p → (q : ℕ) (o₂ xs : List ℕ) → xs ≡ drop 4 s → Lays o₁ p xs q o₂
          → Writes o (lay (answered (stream_bytes n s)) o 0) (answered q) o₂
      stream-written p e q o₂ xs x l =
          let at : p ≡ 56 = let a : ◌≡◌ {A = Answer ℕ} (answered p) (answered 56) = sym (ap (said itself) e) ∙ told-head.0 in cc in
          both-written q o₁ o₂ told-head.1 (rw (at, x) at l)

      pub never-refused : (e : Refusal) → r ≡ Err e → ⊥
      never-refused e q =
          let a : ◌≡◌ {A = Answer ℕ} (no e) (answered 56) = sym (ap (said itself) q) ∙ told-head.0 in
          let z : ◌≡◌ {A = ℕ} 0 1 = cc in
          omega arith

-- ---- the whole
module _ (s : List ℕ) where
  pub stream-long : longest < length s + 52 → section_stream s ≡ refused 16 []
  unfolding section_stream
  stream-long h = rw (lt-ltb _ _ h)

  pub stream-is : (a : Answer ℕ) → length s + 52 ≤ longest → count_of s ≡ a → section_stream s ≡ then a (λ n. answered (stream_bytes n s))
  unfolding section_stream
  stream-is a h e = rw (le-ltb _ _ h, e)

  -- a refusal leaves the buffer
  pub writes-refused : (k : ℕ) (d : List ℕ) (o : List ℕ) → section_stream s ≡ refused k d → (r : Answer ℕ) → r ≡ refused k d → Writes o (lay (section_stream s) o 0) r o
  unfolding lay
  writes-refused k d o e r f = rw (e, f) (record { answer = refl; left = refl })
