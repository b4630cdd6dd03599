-- Texts that are put into a list, one behind the other. Assumes nothing.
use Prim.Native.Nat.{ℕ, ◌+◌, ◌-◌, ◌≤◌, ◌<◌}
use native.Mathlib.Omega.{arith}
use mathlib.Core.Path.{◌≡◌, refl, sym, ◌∙◌}
use mathlib.Core.Bool.{Bool, true, false}
use mathlib.Core.List.{List, [], ◌∷◌, ◌++◌, append-nil}
use lib.Dec.{eqb}
use lib.ListN.{length, take, drop, set, length-take, length-drop}
use lib.Seq.{take_all}
use borrow.Author.Tests.{eq-eqb, ne_eqb}
use Rattle.field_put.specs.Bytes.{put, Room, Puts}
use Rattle.field_put.proofs.PutLaws.{room-first, room_after, puts-both}
use Rattle.declare_spelling.specs.Spellings.{quoted}
use Rattle.declare_type.specs.Tokens.{quals_in, space_before}
use Rattle.declare_spelling.specs.Spelled.{Spells}
use Rattle.declare_spelling.proofs.SpellingLaws.{says, short}
use Rattle.declare_type.specs.Lengths.{ending}
use Rattle.declare_spelling.specs.declared.Spelling.{Spelling}

-- two puts, one behind the other
pub puts-two : (l m n : List ℕ) (at x y : ℕ) (a b : List ℕ) → Puts l at a x m → Puts m x b y n → Puts l at (a ++ b) y n
puts-two l m n at x y a b p q = puts-both l at a b x y m n p q

-- nothing is put
pub puts_none : (l : List ℕ) (at : ℕ) → Puts l at [] at l
unfolding put
puts_none l at = record { next = omega arith; left = refl }

-- a text by another name
pub puts-as : (l m a b : List ℕ) (at x : ℕ) → a ≡ b → Puts l at a x m → Puts l at b x m
puts-as l m a b at x e p = rw e at p

pub fits-as : (l a b : List ℕ) (at : ℕ) → a ≡ b → Room l at a → Room l at b
fits-as l a b at e f = rw e at f

-- what is left for the second of two
pub fits-first : (l a b : List ℕ) (at : ℕ) → Room l at (a ++ b) → Room l at a
fits-first l a b at f = room-first l at a b f

pub fits-second : (l m a b : List ℕ) (at x : ℕ) → Room l at (a ++ b) → Puts l at a x m → Room m x b
fits-second l m a b at x f p = room_after l at a b x m f p

pub byte-puts : (l : List ℕ) (at b : ℕ) → Puts l at (b ∷ []) (at + 1) (set l at b)
unfolding put
byte-puts l at b = record { next = refl; left = refl }

-- a spelling and its text
pub spelling-fits :
    (w : Spelling) (text l : List ℕ) (at : ℕ) → Spells w text → Room l at text → Room l at (take w.n w.bytes) × (w.n ≤ 40) × (length w.bytes ≡ 40)
spelling-fits w text l at s f = (rw (says w text s) f, short w text s, s.all)

pub spelling-puts : (w : Spelling) (text l m : List ℕ) (at x : ℕ) → Spells w text → Puts l at (take w.n w.bytes) x m → Puts l at text x m
spelling-puts w text l m at x s p = rw (says w text s) at p

pub spelling-length : (w : Spelling) (text : List ℕ) → Spells w text → (w.n ≡ length text) × (w.n ≤ 40)
spelling-length w text s = (s.count, short w text s)

-- a pointer's qualifiers and what stands behind them
ending-is : (b : Bool) (text : List ℕ) (at e : ℕ) → e ≡ at + length text → quals_in b text ≡ text ++ ending b (eqb e at)
ending-is true text at e h = sym (append-nil text)
ending-is false [] at e h = rw (eq-eqb e at (omega arith))
ending-is false (a ∷ text) at e h = rw (ne_eqb e at (λ k. omega arith))

module _ (b : Bool) (text l : List ℕ) (at : ℕ) (f : Room l at (quals_in b text)) where
  pub ending-first : Room l at text
  ending-first = fits-first l text (ending b (eqb (at + length text) at)) at (rw (ending-is b text at (at + length text) refl) at f)

  pub ending-second : (m : List ℕ) (e : ℕ) → Puts l at text e m → Room m e (ending b (eqb e at))
  ending-second m e p = fits-second l m text (ending b (eqb e at)) at e (rw (ending-is b text at e p.next) at f) p

pub ending-puts : (b : Bool) (text l m n : List ℕ) (at e x : ℕ) → Puts l at text e m → Puts m e (ending b (eqb e at)) x n → Puts l at (quals_in b text) x n
ending-puts b text l m n at e x p q = rw (ending-is b text at e p.next) (puts-two l m n at e x text (ending b (eqb e at)) p q)

-- the qualifiers of a procedure
pub behind-none : (l : List ℕ) → length l ≡ 0 → space_before l ≡ []
behind-none [] e = refl
behind-none (a ∷ l) e = let z : ◌≡◌ {A = ℕ} 0 1 = omega arith in absurd (let y : 0 < 0 = omega arith in omega arith)

pub behind-some : (l : List ℕ) → (length l ≡ 0 → ⊥) → space_before l ≡ quoted " " ++ l
behind-some [] f = absurd (f refl)
behind-some (a ∷ l) f = refl

-- a name that passes the end
pub name-none : (s : List ℕ) (p n : ℕ) → length s < p → take n (drop p s) ≡ []
name-none s p n h = none_of (take n (drop p s)) (simp (length-take, length-drop) (omega arith)) where
  none_of : (l : List ℕ) → length l ≡ 0 → l ≡ []
  none_of [] e = refl
  none_of (a ∷ l) e = absurd (let z : ◌≡◌ {A = ℕ} 0 1 = omega arith in omega arith)

pub name-cut : (s : List ℕ) (p n : ℕ) → length s - p < n → take (length s - p) (drop p s) ≡ take n (drop p s)
name-cut s p n h =
    let e : length (drop p s) ≡ length s - p = length-drop p s in
    take_all (length s - p) (drop p s) (omega arith) ∙ sym (take_all n (drop p s) (omega arith))

pub name-whole : (s : List ℕ) (p n : ℕ) → take ((p + n) - p) (drop p s) ≡ take n (drop p s)
name-whole s p n = let e : (p + n) - p ≡ n = omega arith in rw e
