-- Laws of pieces. Assumes nothing.
use Prim.Native.Nat.{ℕ, ◌+◌, ◌≤◌, ◌<◌, min}
use native.Mathlib.Omega.{arith}
use native.Mathlib.Nat.{zero-add}
use native.Mathlib.Numerals.{add-one}
use mathlib.Core.Bool.{Bool, true, false}
use mathlib.Core.Path.{◌≡◌, refl, ap, ◌∙◌}
use mathlib.Core.List.{List, [], ◌∷◌, ◌++◌}
use lib.ListN.{length, get_or, drop, length-append, drop_of_length-le}
use lib.Seq.{drop-cons}
use borrow.Author.Tests.{le-leb, lt-leb, leb-true}
use Rattle.answer.specs.Answer.{Answer, answered, refused, both, then}
use Rattle.field_put.specs.Bytes.{Puts, put}
use Rattle.write_layout.specs.Runs.{part_at, no_zero}
use Rattle.write_layout.proofs.RunLaws.{part_length}
use Rattle.write_layout.specs.Fields.{Encoded, only, and_also}
use Rattle.write_pieces.specs.declared.Piece.{Piece}
use Rattle.write_pieces.specs.declared.Piece.TheVariants as piece
use Rattle.write_pieces.specs.Pieces.{raw, fine, piece_of, pieces_of, fine_all, raw_all}

never : {X : Type 0} → false ≡ true → X
never h = let z : ◌≡◌ {A = ℕ} 0 1 = cc in absurd (omega arith)

both_left : (a b : Bool) → both a b ≡ true → a ≡ true
both_left true b h = refl
both_left false b h = never h

both_right : (a b : Bool) → both a b ≡ true → b ≡ true
both_right true b h = h
both_right false b h = never h

-- One piece -------------------------------------------------------------------------------------------------------------------

abbrev sized : Encoded → Answer ℕ
sized b = then b (λ bs. answered (length bs))

pub size-bad : (t : List ℕ) (x : Piece) → fine t x ≡ false → refused 17 [] ≡ then (piece_of t x) (λ bs. answered (length bs))
unfolding piece_of
size-bad t x e = rw e

pub size_is : (t : List ℕ) (x : Piece) (k : ℕ) → fine t x ≡ true → length (raw t x) ≡ k → answered k ≡ then (piece_of t x) (λ bs. answered (length bs))
unfolding piece_of
size_is t x k e f = rw (e, f)

module _ (t : List ℕ) (p n : ℕ) where
  pub text-outside : length t < p + n → fine t (piece.Text p n) ≡ false
  unfolding fine
  text-outside h = rw (lt-leb _ _ h)

  pub text-by : p + n ≤ length t → fine t (piece.Text p n) ≡ no_zero (part_at t p n)
  unfolding fine
  text-by h = rw (le-leb _ _ h)

  pub text-length : p + n ≤ length t → length (raw t (piece.Text p n)) ≡ n + 1
  unfolding raw
  text-length h = omega (arith, length-append (part_at t p n) (0 ∷ []), part_length t p n h)

  pub run-outside : length t < p + n → fine t (piece.Run p n) ≡ false
  unfolding fine
  run-outside h = rw (lt-leb _ _ h)

  pub run_inside : p + n ≤ length t → fine t (piece.Run p n) ≡ true
  unfolding fine
  run_inside h = rw (le-leb _ _ h)

  pub run_length : p + n ≤ length t → length (raw t (piece.Run p n)) ≡ n
  unfolding raw
  run_length h = part_length t p n h

  -- a part of a fine piece is inside the text
  pub text_in : fine t (piece.Text p n) ≡ true → p + n ≤ length t
  unfolding fine
  text_in h = leb-true _ _ (both_left _ _ h)

  pub run_in : fine t (piece.Run p n) ≡ true → p + n ≤ length t
  unfolding fine
  run_in h = leb-true _ _ h

-- All of them -----------------------------------------------------------------------------------------------------------------

pub pieces-fine : (t : List ℕ) (xs : List Piece) → pieces_of t xs ≡ only (fine_all t xs) (raw_all t xs)
unfolding pieces_of fine_all raw_all piece_of
pieces-fine t [] = refl
pieces-fine t (x ∷ xs) = rw (pieces-fine t xs) (go (fine t x) (fine_all t xs))
  where
    go : (a b : Bool) → and_also (only a (raw t x)) (only b (raw_all t xs)) ≡ only (both a b) (raw t x ++ raw_all t xs)
    go true true = refl
    go true false = refl
    go false b = refl

-- the sizes of what is left, added to n and held at 65,536
unfoldable pub measure_of : List ℕ → List Piece → ℕ → Answer ℕ
measure_of t [] n = answered n
measure_of t (x ∷ xs) n = then (then (piece_of t x) (λ bs. answered (length bs))) (λ k. measure_of t xs (min (n + k) 65536))

pub measure-is : (t : List ℕ) (xs : List Piece) (n : ℕ) → measure_of t xs (min n 65536) ≡ then (pieces_of t xs) (λ bs. answered (min (n + length bs) 65536))
unfolding measure_of pieces_of
measure-is t [] n = ap answered (omega arith)
measure-is t (x ∷ xs) n = one (piece_of t x) (λ m. measure-is t xs m)
  where
    two : (bs : List ℕ) (b : Encoded) → then b (λ ys. answered (min (n + length bs + length ys) 65536)) ≡ then (then b (λ ys. answered (bs ++ ys))) (λ zs. answered (min (n + length zs) 65536))
    two bs (answered ys) = ap answered (omega (arith, length-append bs ys))
    two bs (refused m d) = refl

    one : (b : Encoded) → ((m : ℕ) → measure_of t xs (min m 65536) ≡ then (pieces_of t xs) (λ bs. answered (min (m + length bs) 65536)))
        → then (sized b) (λ k. measure_of t xs (min (min n 65536 + k) 65536)) ≡ then (and_also b (pieces_of t xs)) (λ bs. answered (min (n + length bs) 65536))
    one (answered bs) ih =
        let e : min (min n 65536 + length bs) 65536 ≡ min (n + length bs) 65536 = omega arith in
        rw e (ih (n + length bs) ∙ two bs (pieces_of t xs))
    one (refused m d) ih = refl

-- a turn of each loop
module _ (t : List ℕ) (xs : List Piece) (i : ℕ) (d : Piece) (h : i < length xs) where
  pub measure-turn : (n k : ℕ) → then (piece_of t (get_or xs i d)) (λ bs. answered (length bs)) ≡ answered k → measure_of t (drop i xs) n ≡ measure_of t (drop (i + 1) xs) (min (n + k) 65536)
  unfolding measure_of
  measure-turn n k e = rw (drop-cons xs i d, add-one, measure_of, e)

  pub measure-stop : (n : ℕ) → then (piece_of t (get_or xs i d)) (λ bs. answered (length bs)) ≡ refused 17 [] → measure_of t (drop i xs) n ≡ refused 17 []
  unfolding measure_of
  measure-stop n e = rw (drop-cons xs i d, measure_of, e)

  pub raw-cons : raw_all t (drop i xs) ≡ raw t (get_or xs i d) ++ raw_all t (drop (i + 1) xs)
  unfolding raw_all
  raw-cons = rw (drop-cons xs i d, add-one)

  pub fine-head : fine_all t (drop i xs) ≡ true → fine t (get_or xs i d) ≡ true
  unfolding fine_all
  fine-head e = both_left _ _ (rw (drop-cons xs i d) at e)

  pub fine-tail : fine_all t (drop i xs) ≡ true → fine_all t (drop (i + 1) xs) ≡ true
  unfolding fine_all
  fine-tail e = rw add-one (both_right (fine t (get_or xs i d)) _ (rw (drop-cons xs i d) at e))

pub measure-all : (t : List ℕ) (xs : List Piece) → measure_of t xs 0 ≡ then (pieces_of t xs) (λ bs. answered (min (length bs) 65536))
measure-all t xs = measure-is t xs 0 ∙ simp zero-add

-- the end of each loop
module _ (t : List ℕ) (xs : List Piece) (i : ℕ) (h : length xs ≤ i) where
  pub measure-done : (n : ℕ) → measure_of t (drop i xs) n ≡ answered n
  unfolding measure_of
  measure-done n = rw (drop_of_length-le xs h)

  pub raw-done : (s : List ℕ) (p : ℕ) → Puts s p (raw_all t (drop i xs)) p s
  unfolding raw_all put
  raw-done s p = rw (drop_of_length-le xs h) (record { next = omega arith; left = refl })
