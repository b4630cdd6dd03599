-- The two passes together. Assumes nothing.
use Rattle.std.specs.Prelude.{Ok, Err}
use Prim.Native.Nat.{ℕ, ◌+◌, ◌-◌, ◌≤◌, ◌<◌}
use native.Mathlib.Omega.{arith}
use mathlib.Core.Path.{◌≡◌, refl, ap, sym, ◌∙◌}
use mathlib.Core.Bool.{Bool, true, false, false≢true}
use mathlib.Core.List.{List, ◌++◌}
use lib.ListN.{length, drop, length-append}
use lib.Dec.{ltb}
use borrow.Author.Tests.{lt-ltb, le-ltb}
use Rattle.answer.specs.Answer.{answered, pick}
use Rattle.answer.specs.declared.Refusal.{Refusal}
use Rattle.answer.specs.declared.Refusal.TheVariants as refusal
use Rattle.stream_header.specs.Header.{longest}
use Rattle.stream_finder.specs.Finder.{State}
use Rattle.field_put.specs.Bytes.{put}
use Rattle.field_put.proofs.PutLaws.{put_is}
use Rattle.declare_type.specs.Walk.{Spelled, printed, stopped, capped, declaration_of}
use Rattle.declare_type.proofs.RoomLaws.{Sums, fits-within}
use Rattle.declare_type.specs.Sides.{SideRoom, Both}
use Rattle.declare_type.specs.Declares.{text_in, declare_of, Declares}
use Rattle.declare_type.proofs.PutLaws.{put-append}
use Rattle.declare_type.proofs.WriteLaws.{sides}

pub whole_room : (w : Spelled) (l : List ℕ) (m n : ℕ) → Ok (m, n) ≡ capped (length l) w → SideRoom w m m l
whole_room w l m n e =
    let s = sides (length l) m n w e in
    record { prints = s.0; low = omega (arith, s.1); apart = omega arith; high = omega (arith, s.2, fits-within (length l) m n w e) }

text-fits :
    (w : Spelled) (l l₁ : List ℕ) (m n r : ℕ) → Ok (m, n) ≡ capped (length l) w → Both w l m m r l₁ → Declares (text_in (length l) w) l (Ok (m + n)) l₁
unfolding text_in
text-fits (printed a b) l l₁ m n r e z =
    let s = sides (length l) m n (printed a b) e in
    let k : m + n ≤ length l = fits-within (length l) m n (printed a b) e in
    let c : length (a ++ b) ≡ m + n = omega (arith, length-append a b, s.1, s.2) in
    let k₂ : length (a ++ b) ≤ length l = omega (arith, c) in
    let i : m - length a ≡ 0 = omega (arith, s.1) in
    let j : m ≡ 0 + length a = omega (arith, s.1) in
    record {
      answer = rw (le-ltb (length l) (length (a ++ b)) k₂) (ap answered (sym c));
      buffer = rw (le-ltb (length l) (length (a ++ b)) k₂)
          (z.after
          ∙ ap (λ v. put (put l v a) m b) i
          ∙ ap (λ v. put (put l 0 a) v b) j
          ∙ sym (put-append a b l 0)
          ∙ put_is l 0 (a ++ b) (omega arith)
          ∙ ap (λ v. (a ++ b) ++ drop v l) (let f : 0 + length (a ++ b) ≡ length (a ++ b) = omega arith in f));
    }
text-fits (stopped k q) l l₁ m n r e z = absurd (false≢true (sides (length l) m n (stopped k q) e).0)

text-refused : (w : Spelled) (l : List ℕ) (q : Refusal) → Err q ≡ capped (length l) w → Declares (text_in (length l) w) l (Err q) l
unfolding text_in capped
text-refused (printed a b) l q e = go (ltb (length l) (length a + length b)) refl e where
  go : (x : Bool) → ltb (length l) (length a + length b) ≡ x → ◌≡◌ {A = Sums} (Err q) (pick x (Err refusal.NoRoom) (Ok (length a, length b)))
      → Declares (text_in (length l) (printed a b)) l (Err q) l
  go true f h =
      let g : q ≡ refusal.NoRoom = cc in
      record { answer = rw (length-append a b, f, g); buffer = rw (length-append a b, f) }
  go false f h = absurd (let z : ◌≡◌ {A = ℕ} 0 1 = cc in omega arith)
text-refused (stopped k p) l q e = go (ltb (length l) k) refl e where
  go : (x : Bool) → ltb (length l) k ≡ x → ◌≡◌ {A = Sums} (Err q) (pick x (Err refusal.NoRoom) (Err p)) → Declares (text_in (length l) (stopped k p)) l (Err q) l
  go true f h = let g : q ≡ refusal.NoRoom = cc in record { answer = rw (f, g); buffer = rw f }
  go false f h = let g : q ≡ p = cc in record { answer = rw (f, g); buffer = rw f }

module _ (s : List ℕ) (σ : State) (i : ℕ) (l : List ℕ) where
  pub declares-long : longest < length s → Declares (declare_of s σ i (length l)) l (Err refusal.TooLong) l
  unfolding declare_of
  declares-long h = record { answer = rw (lt-ltb longest (length s) h); buffer = rw (lt-ltb longest (length s) h) }

  module _ (short : length s ≤ longest) where
    short-is : declare_of s σ i (length l) ≡ text_in (length l) (declaration_of s σ i)
    unfolding declare_of
    short-is = rw (le-ltb longest (length s) short)

    pub declares-fits :
        (l₁ : List ℕ) (m n r : ℕ) → Ok (m, n) ≡ capped (length l) (declaration_of s σ i) → Both (declaration_of s σ i) l m m r l₁
        → Declares (declare_of s σ i (length l)) l (Ok (m + n)) l₁
    declares-fits l₁ m n r e z = rw short-is (text-fits (declaration_of s σ i) l l₁ m n r e z)

    pub declares-refused : (q : Refusal) → Err q ≡ capped (length l) (declaration_of s σ i) → Declares (declare_of s σ i (length l)) l (Err q) l
    declares-refused q e = rw short-is (text-refused (declaration_of s σ i) l q e)
