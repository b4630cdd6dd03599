-- The laws of the two loops over a record's fields, over every layout. Assumes nothing.
use Prim.Native.Nat.{ℕ, zero, suc, ◌+◌, ◌-◌, ◌*◌, ◌/◌, ◌%◌, ◌<◌, min}
use native.Mathlib.Omega.{arith}
use native.Mathlib.Numerals.{add-one}
use mathlib.Core.Bool.{Bool, true, false}
use mathlib.Core.Path.{◌≡◌, refl, ap, sym, ◌∙◌}
use mathlib.Core.List.{List, [], ◌∷◌, ◌++◌}
use lib.ListN.{length, get_or, drop, length-append}
use lib.Seq.{drop-cons}
use borrow.Author.Tests.{ne_eqb}
use Rattle.answer.specs.Answer.{Answer, answered, refused, then}
use Rattle.field_put.specs.Bytes.{put, Puts}
use Rattle.record_layout.specs.Fields.{word_after}
use Rattle.record_cells.specs.Codes.{field_of, decode}
use Rattle.record_cells.specs.Cells.{values_in}
use Rattle.write_layout.specs.Fields.{ToWrite, given_all, Encoded, bad, only, and_also, write_field, write_fields, encodes, encoded_bytes}
use Rattle.write_pieces.specs.declared.Piece.{Piece}
use Rattle.write_pieces.specs.Pieces.{fine, raw, piece_of}
use Rattle.write_cells.specs.Cells.{cell_in, left_bytes}

never : {X : Type 0} → false ≡ true → X
never h = let z : ◌≡◌ {A = ℕ} 0 1 = cc in absurd (omega arith)

-- Good and held -----------------------------------------------------------------------------------------------------------------

pub good-is : (b : Encoded) → encodes b ≡ true → b ≡ answered (encoded_bytes b)
good-is (answered bs) e = refl
good-is (refused n d) e = never e

pub good-first : (a b : Encoded) → encodes (and_also a b) ≡ true → encodes a ≡ true
good-first (answered x) b e = refl
good-first (refused n d) b e = never e

pub good_more : (a b : Encoded) → encodes (and_also a b) ≡ true → encodes b ≡ true
good_more (answered x) (answered y) e = refl
good_more (answered x) (refused n d) e = never e
good_more (refused n d) b e = never e

pub held_both : (a b : Encoded) → encodes (and_also a b) ≡ true → encoded_bytes (and_also a b) ≡ encoded_bytes a ++ encoded_bytes b
held_both (answered x) (answered y) e = refl
held_both (answered x) (refused n d) e = never e
held_both (refused n d) b e = never e

-- a piece that is good is fine, and its bytes are held
module _ (t : List ℕ) (x : Piece) where
  pub piece-fine : encodes (piece_of t x) ≡ true → fine t x ≡ true
  unfolding piece_of
  piece-fine = go (fine t x)
    where
      go : (b : Bool) → encodes (only b (raw t x)) ≡ true → b ≡ true
      go true e = refl
      go false e = never e

  pub piece-held : encodes (piece_of t x) ≡ true → encoded_bytes (piece_of t x) ≡ raw t x
  unfolding piece_of
  piece-held = go (fine t x)
    where
      go : (b : Bool) → encodes (only b (raw t x)) ≡ true → encoded_bytes (only b (raw t x)) ≡ raw t x
      go true e = refl
      go false e = never e

pub puts_none : (s : List ℕ) (p : ℕ) (bs : List ℕ) → bs ≡ [] → Puts s p bs p s
unfolding put
puts_none s p bs e = rw e (record { next = omega arith; left = refl })

-- Measuring -------------------------------------------------------------------------------------------------------------------------

-- so many bytes, and n before them, held at 65,536
abbrev pub measure_of : Encoded → ℕ → Answer ℕ
measure_of b n = then b (λ bs. answered (min (n + length bs) 65536))

pub measure-more : (a b : Encoded) (n k : ℕ) → then a (λ bs. answered (length bs)) ≡ answered k → measure_of (and_also a b) n ≡ measure_of b (n + min (k + 0) 65536)
measure-more (answered x) (answered y) n k e = let f : length x ≡ k = cc in ap answered (omega (arith, length-append x y))
measure-more (answered x) (refused m d) n k e = refl
measure-more (refused m d) b n k e = let z : ◌≡◌ {A = ℕ} 0 1 = cc in absurd (omega arith)

pub measure-stop : (a b : Encoded) (n k : ℕ) (d : List ℕ) → then a (λ bs. answered (length bs)) ≡ refused k d → measure_of (and_also a b) n ≡ refused k d
measure-stop (answered x) b n k d e = let z : ◌≡◌ {A = ℕ} 0 1 = cc in absurd (omega arith)
measure-stop (refused m c) b n k d e = cc

pub measure-none : (b : Encoded) (n : ℕ) → b ≡ answered [] → measure_of b n ≡ answered (min (n + 0) 65536)
measure-none b n e = rw e

pub measure-bad : (b : Encoded) (n : ℕ) → b ≡ bad → measure_of b n ≡ refused 17 []
measure-bad b n e = rw e

-- Fields and cells --------------------------------------------------------------------------------------------------------------

-- a cell of a row, and those behind it
pub row_cons : (row : List ℕ) (k : ℕ) → k + 2 < length row
    → drop k row ≡ get_or row k 0 ∷ get_or row (k + 1) 0 ∷ get_or row (k + 2) 0 ∷ drop (k + 3) row
row_cons row k h =
    let a : drop k row ≡ get_or row k 0 ∷ drop (k + 1) row = rw (add-one k) (drop-cons row k 0 (omega arith)) in
    let b : drop (k + 1) row ≡ get_or row (k + 1) 0 ∷ drop (k + 2) row = let e : k + 2 ≡ suc (k + 1) = omega arith in rw e (drop-cons row (k + 1) 0 (omega arith)) in
    let c : drop (k + 2) row ≡ get_or row (k + 2) 0 ∷ drop (k + 3) row = let e : k + 3 ≡ suc (k + 2) = omega arith in rw e (drop-cons row (k + 2) 0 h) in
    a ∙ ap (λ l. get_or row k 0 ∷ l) (b ∙ ap (λ l. get_or row (k + 1) 0 ∷ l) c)

module _ (k n w : ℕ) (t : List ℕ) (a b c : ℕ) (cells : List ℕ) where
  pub field-turn : 0 < n → 0 < a → left_bytes (k + 1) n w t (a ∷ b ∷ c ∷ cells)
      ≡ and_also (write_field (field_of (n % 32)) w (cell_in t a b c)) (left_bytes k (n / 32) (word_after (field_of (n % 32)) (cell_in t a b c) w) t cells)
  unfolding left_bytes decode values_in write_fields
  field-turn g h = rw (add-one k, ne_eqb n 0 (omega arith), ne_eqb a 0 (omega arith))

  pub value-missing : 0 < n → a ≡ 0 → left_bytes (k + 1) n w t (a ∷ b ∷ c ∷ cells) ≡ bad
  unfolding left_bytes decode values_in write_fields
  value-missing g h = rw (add-one k, ne_eqb n 0 (omega arith), h)

  pub value-over : n ≡ 0 → 0 < a → left_bytes (k + 1) n w t (a ∷ b ∷ c ∷ cells) ≡ bad
  unfolding left_bytes decode values_in write_fields
  value-over g h = rw (add-one k, g, ne_eqb a 0 (omega arith))

  pub both_end : n ≡ 0 → a ≡ 0 → left_bytes (k + 1) n w t (a ∷ b ∷ c ∷ cells) ≡ answered []
  unfolding left_bytes decode values_in write_fields
  both_end g h = rw (add-one k, g, h)

pub none_left : (n w : ℕ) (t cells : List ℕ) → left_bytes 0 n w t cells ≡ answered []
unfolding left_bytes decode values_in write_fields
none_left n w t cells = refl

-- no field is left: whatever values are left are bad
pub fields-done : (k n w : ℕ) (t cells : List ℕ) → n ≡ 0 → encodes (left_bytes k n w t cells) ≡ true → encoded_bytes (left_bytes k n w t cells) ≡ []
unfolding left_bytes decode values_in write_fields
fields-done zero n w t cells z e = refl
fields-done (suc k) n w t cells z e = rw z (go (given_all t (values_in (suc k) cells)) (rw z at e))
  where
    go : (vs : List ToWrite) → encodes (write_fields [] w vs) ≡ true → encoded_bytes (write_fields [] w vs) ≡ []
    go [] f = refl
    go (v ∷ vs) f = never f

-- Where a loop stands: at field i, with n left of the layout and the word w -----------------------------------------------------------

-- what is left to do
abbrev pub left_at : List ℕ → List ℕ → ℕ → ℕ → ℕ → Encoded
left_at t row i n w = left_bytes (9 - i) n w t (drop (3 * i) row)

module _ (t row : List ℕ) (i n w : ℕ) (long : length row ≡ 27) where
  pub over-nine : i ≡ 9 → left_at t row i n w ≡ answered []
  over-nine e = let z : 9 - i ≡ 0 = omega arith in rw z (none_left n w t _)

  module _ (h : i < 9) where
    first : drop (3 * i) row ≡ get_or row (3 * i) 0 ∷ get_or row (3 * i + 1) 0 ∷ get_or row (3 * i + 2) 0 ∷ drop (3 * i + 3) row
    first = row_cons row (3 * i) (omega arith)

    one_less : 9 - i ≡ 8 - i + 1
    one_less = omega arith

    pub missing-value : 0 < n → get_or row (3 * i) 0 ≡ 0 → left_at t row i n w ≡ bad
    missing-value g e = rw (one_less, first) (value-missing (8 - i) n w t _ _ _ _ g e)

    pub value-left : n ≡ 0 → 0 < get_or row (3 * i) 0 → left_at t row i n w ≡ bad
    value-left g e = rw (one_less, first) (value-over (8 - i) n w t _ _ _ _ g e)

    pub no_value : n ≡ 0 → get_or row (3 * i) 0 ≡ 0 → left_at t row i n w ≡ answered []
    no_value g e = rw (one_less, first) (both_end (8 - i) n w t _ _ _ _ g e)

    -- where what is left is good there is a value
    pub value_there : 0 < n → encodes (left_at t row i n w) ≡ true → 0 < get_or row (3 * i) 0
    value_there g e = go (get_or row (3 * i) 0) refl
      where
        go : (a : ℕ) → get_or row (3 * i) 0 ≡ a → 0 < a
        go zero f = never (rw (missing-value g f) at e)
        go (suc a) f = omega arith

    -- the next field is good where all that is left is
    pub this-good : 0 < n → 0 < get_or row (3 * i) 0 → encodes (left_at t row i n w) ≡ true
        → encodes (write_field (field_of (n % 32)) w (cell_in t (get_or row (3 * i) 0) (get_or row (3 * i + 1) 0) (get_or row (3 * i + 2) 0))) ≡ true
    this-good g a fit =
        let cell = cell_in t (get_or row (3 * i) 0) (get_or row (3 * i + 1) 0) (get_or row (3 * i + 2) 0) in
        let f = write_field (field_of (n % 32)) w cell in
        let b = left_bytes (8 - i) (n / 32) (word_after (field_of (n % 32)) cell w) t (drop (3 * i + 3) row) in
        let e : left_at t row i n w ≡ and_also f b = rw (one_less, first) (field-turn (8 - i) n w t _ _ _ _ g a) in
        good-first f b (sym (ap encodes e) ∙ fit)

    -- x is the piece of the next field, and v the word after it
    module _ (g : 0 < n) (a : 0 < get_or row (3 * i) 0) (x : Piece)
        (e : piece_of t x ≡ write_field (field_of (n % 32)) w (cell_in t (get_or row (3 * i) 0) (get_or row (3 * i + 1) 0) (get_or row (3 * i + 2) 0)))
        (v : ℕ) (u : v ≡ word_after (field_of (n % 32)) (cell_in t (get_or row (3 * i) 0) (get_or row (3 * i + 1) 0) (get_or row (3 * i + 2) 0)) w) where
      abbrev now : Encoded
      now = left_at t row i n w

      abbrev after : Encoded
      after = left_at t row (i + 1) (n / 32) v

      turn : now ≡ and_also (piece_of t x) after
      turn =
          let f2 : 9 - (i + 1) ≡ 8 - i = omega arith in
          let f3 : 3 * (i + 1) ≡ 3 * i + 3 = omega arith in
          rw (f2, f3, one_less, first, e, u) (field-turn (8 - i) n w t _ _ _ _ g a)

      pub size-next : (m k : ℕ) → then (piece_of t x) (λ bs. answered (length bs)) ≡ answered k
          → measure_of (left_at t row i n w) m ≡ measure_of (left_at t row (i + 1) (n / 32) v) (m + min (k + 0) 65536)
      size-next m k f = ap (λ (b : Encoded). measure_of b m) turn ∙ measure-more (piece_of t x) after m k f

      module _ (fit : encodes (left_at t row i n w) ≡ true) where
        both-good : encodes (and_also (piece_of t x) after) ≡ true
        both-good = sym (ap encodes turn) ∙ fit

        pub next-good : encodes (left_at t row (i + 1) (n / 32) v) ≡ true
        next-good = good_more (piece_of t x) after both-good

        pub this-fine : fine t x ≡ true
        this-fine = piece-fine t x (good-first (piece_of t x) after both-good)

        pub next-held : encoded_bytes (left_at t row i n w) ≡ raw t x ++ encoded_bytes (left_at t row (i + 1) (n / 32) v)
        next-held = ap encoded_bytes turn ∙ held_both (piece_of t x) after both-good ∙ ap (λ (l : List ℕ). l ++ encoded_bytes after) (piece-held t x (good-first (piece_of t x) after both-good))

    -- the next field is refused
    pub size-stop : 0 < n → 0 < get_or row (3 * i) 0 → (x : Piece)
        → piece_of t x ≡ write_field (field_of (n % 32)) w (cell_in t (get_or row (3 * i) 0) (get_or row (3 * i + 1) 0) (get_or row (3 * i + 2) 0))
        → (m k : ℕ) (d : List ℕ) → refused k d ≡ then (piece_of t x) (λ bs. answered (length bs)) → refused k d ≡ measure_of (left_at t row i n w) m
    size-stop g a x e m k d f = sym (ap (λ (b : Encoded). measure_of b m) (turn g a x e _ refl) ∙ measure-stop (piece_of t x) _ m k d (sym f))
