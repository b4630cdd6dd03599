-- A declaration's two sides in a buffer: what private functions tell each other.
use Rattle.std.specs.Prelude.{ℕ, ◌+◌, ◌-◌, ◌≤◌, ◌≡◌, Bool, true, false, List, [], length}
use Rattle.declare_type.specs.Walk.{Spelled, printed, stopped, whole_text}
use Rattle.field_put.specs.Bytes.{put}

abbrev pub is_printed : Spelled → Bool
is_printed (printed l r) = true
is_printed (stopped k e) = false

abbrev pub left_of : Spelled → List ℕ
left_of (printed l r) = l
left_of (stopped k e) = []

abbrev pub right_of : Spelled → List ℕ
right_of (printed l r) = r
right_of (stopped k e) = []

-- it is printed, and there is room in l: its left side ends at `left`, its right side starts at `right`
pub record SideRoom (w : Spelled) (left right : ℕ) (l : List ℕ) : Type 0 where
  pub prints : is_printed w ≡ true
  pub low : length (left_of w) ≤ left
  pub apart : left ≤ right
  pub high : right + length (right_of w) ≤ length l

-- l' is l with both sides, and r is the place behind the right one
pub record Both (w : Spelled) (l : List ℕ) (left right r : ℕ) (l' : List ℕ) : Type 0 where
  pub end : r ≡ right + length (right_of w)
  pub after : l' ≡ put (put l (left - length (left_of w)) (left_of w)) right (right_of w)

-- it is printed, and its whole text has room in l from place `at` on
pub record WholeRoom (w : Spelled) (at : ℕ) (l : List ℕ) : Type 0 where
  pub prints : is_printed w ≡ true
  pub high : at + length (whole_text w) ≤ length l

-- the rest w of arguments v: with it, what is written in l becomes their whole text in l₀
pub record Rest (w v : Spelled) (l : List ℕ) (e : ℕ) (l₀ : List ℕ) (at : ℕ) : Type 0 where
  pub prints : is_printed w ≡ true
  pub flat : left_of w ≡ []
  pub high : e + length (right_of w) ≤ length l
  pub same : length l ≡ length l₀
  pub end : e + length (right_of w) ≡ at + length (whole_text v)
  pub text : put l e (right_of w) ≡ put l₀ at (whole_text v)
