-- The laws of filling a row, over every layout. Assumes nothing.
use Rattle.std.specs.Prelude.{Result, Ok, Err, IsErrAnd, slice_set}
use Prim.Native.Nat.{ℕ, zero, suc, ◌+◌, ◌-◌, ◌*◌, ◌/◌, ◌%◌, ◌<◌, ◌≤◌}
use native.Mathlib.Omega.{arith}
use native.Mathlib.Numerals.{add-one}
use mathlib.Core.Path.{◌≡◌, refl, ap, sym, ◌∙◌}
use mathlib.Core.List.{List, [], ◌∷◌, ◌++◌, append_assoc}
use lib.ListN.{length, length-append}
use borrow.Author.Tests.{ne_eqb}
use Rattle.answer.specs.Answer.{Answer, answered, refused, Read, got, and_then}
use Rattle.answer.specs.Refusals.{no}
use Rattle.answer.specs.declared.Refusal.{Refusal}
use Rattle.record_layout.specs.Fields.{Shown, Field, read_field, read_field_by, read_fields, read_fields_by, word_after}
use Rattle.record_layout.specs.Layouts.{pointer}
use Rattle.record_layout.proofs.PointerLaws.{bad-kind, bad-mode}
use Rattle.word_attributes.specs.declared.PointerKind.{PointerKind}
use Rattle.word_attributes.specs.Pointers.{kind_of, mode_of}
use Rattle.field.specs.Fields.{fixed_at}
use Rattle.record_cells.specs.Codes.{field_of, decode, layout_of}
use Rattle.record_cells.specs.Cells.{cell_of, cells_of, put_cell, fill}
use Rattle.record_cells.specs.Filled.{CellStep, step, cell_step_by, cells_from, FillsCells}
use Rattle.record_cells.specs.declared.Cell.{Cell}

-- filling after the first cell
fill_on : (r : Read (List Shown)) (v : Shown) (k : ℕ) (cells : List ℕ)
    → and_then (and_then r (λ vs e. got (v ∷ vs) e)) (λ vs q. got (fill (suc k) cells vs) q)
    ≡ and_then r (λ vs q. got (fill k (put_cell cells (27 - 3 * suc k) (cell_of v)) vs) q)
unfolding fill
fill_on (answered g) v k cells = refl
fill_on (refused n d) v k cells = refl

turn-of : (r : Read Shown) (f : Field) (fs : List Field) (k w : ℕ) (s : List ℕ) (cells : List ℕ)
    → and_then (and_then r (λ v q. and_then (read_fields fs (word_after f v w) s q) (λ vs e. got (v ∷ vs) e))) (λ vs q. got (fill (suc k) cells vs) q)
    ≡ and_then (and_then r (λ v q. got (step v (word_after f v w)) q))
    (λ x q. and_then (read_fields fs x.word s q) (λ vs e. got (fill k (put_cell cells (27 - 3 * suc k) x.cell) vs) e))
turn-of (answered g) f fs k w s cells = fill_on (read_fields fs (word_after f g.value w) s g.next) g.value k cells
turn-of (refused n d) f fs k w s cells = refl

module _ (k n w : ℕ) (s : List ℕ) (p : ℕ) (cells : List ℕ) where
  -- a row is the first field's cell and the row of the rest
  turn : 0 < n → cells_from (k + 1) n w s p cells
      ≡ and_then (cell_step_by (field_of (n % 32)) w s p) (λ x q. cells_from k (n / 32) x.word s q (put_cell cells (27 - 3 * (k + 1)) x.cell))
  unfolding cells_from decode read_fields_by cell_step_by
  turn h = rw (add-one k, ne_eqb n 0 (omega arith)) (turn-of (read_field (field_of (n % 32)) w s p) (field_of (n % 32)) (decode k (n / 32)) k w s cells)

  pub goes : (x : CellStep) (q : ℕ) → 0 < n → cell_step_by (field_of (n % 32)) w s p ≡ got x q
      → cells_from (k + 1) n w s p cells ≡ cells_from k (n / 32) x.word s q (put_cell cells (27 - 3 * (k + 1)) x.cell)
  goes x q h e = turn h ∙ rw e

  pub stops : (m : ℕ) (d : List ℕ) → 0 < n → cell_step_by (field_of (n % 32)) w s p ≡ refused m d → cells_from (k + 1) n w s p cells ≡ refused m d
  stops m d h e = turn h ∙ rw e

module _ (w : ℕ) (s : List ℕ) (p : ℕ) (cells : List ℕ) where
  -- no field is left
  pub ends : (k : ℕ) → cells_from k 0 w s p cells ≡ got cells p
  unfolding cells_from decode read_fields_by fill
  ends zero = refl
  ends (suc k) = refl

  -- no cell is left
  pub full : (n : ℕ) → cells_from 0 n w s p cells ≡ got cells p
  unfolding cells_from decode read_fields_by fill
  full n = refl

-- A row that is filled from zeros ------------------------------------------------------------------------------------------------

pub put-at : (before after : List ℕ) (c : Cell) → put_cell (before ++ (0 ∷ 0 ∷ 0 ∷ after)) (length before) c ≡ before ++ (c.kind ∷ c.value ∷ c.more ∷ after)
unfolding put_cell
put-at [] after c = refl
put-at (x ∷ before) after c =
    let e : suc (length before) + 1 ≡ suc (length before + 1) = omega arith in
    let f : suc (length before) + 2 ≡ suc (length before + 2) = omega arith in
    rw (e, f) (ap (λ l. x ∷ l) (put-at before after c))

-- the cells before stay, and each value has its cell
fill_is : (n : ℕ) (before : List ℕ) (vs : List Shown) → length before + 3 * n ≡ 27 → fill n (before ++ cells_of n []) vs ≡ before ++ cells_of n vs
unfolding fill cells_of
fill_is zero before vs e = refl
fill_is (suc n) before [] e = refl
fill_is (suc n) before (v ∷ vs) e =
    let k : 27 - 3 * suc n ≡ length before = omega arith in
    let a : List ℕ = (cell_of v).kind ∷ (cell_of v).value ∷ (cell_of v).more ∷ [] in
    let l : length (before ++ a) + 3 * n ≡ 27 = simp length-append (omega arith) in
    rw (k, put-at before (cells_of n []) (cell_of v), ← append_assoc before a (cells_of n []), fill_is n (before ++ a) vs l) (append_assoc before a (cells_of n vs))

-- what the loop starts from
whole : (r : Read (List Shown)) → and_then r (λ vs q. got (fill 9 (cells_of 9 []) vs) q) ≡ and_then r (λ vs q. got (cells_of 9 vs) q)
whole (answered g) = ap (λ l. got l g.next) (fill_is 9 [] g.value refl)
whole (refused n d) = refl

abbrev next_in : Read (List ℕ) → Answer ℕ
next_in r = and_then r (λ cells q. answered q)

abbrev row_in : Read (List ℕ) → List ℕ
row_in (answered g) = g.value
row_in (refused n d) = []

abbrev flag_of : Read (List ℕ) → ℕ
flag_of (answered g) = 1
flag_of (refused n d) = 0

never : {X : Type 0} (a b : Read (List ℕ)) → a ≡ b → flag_of a ≡ 0 → flag_of b ≡ 1 → X
never a b e f g = absurd (omega (arith, ap flag_of e))

module _ {A : Type 0} (cells : A → List ℕ) where
  pub got-fills : (r : Read A) (before after : List ℕ) (p : ℕ) → and_then r (λ x q. got (cells x) q) ≡ got after p → FillsCells cells r (Ok p) before after
  got-fills (answered g) before after p e = record { said = sym (ap next_in e); filled = sym (ap row_in e) }
  got-fills (refused n d) before after p e = never _ _ e refl refl

  pub refusal-fills : (r : Read A) (before : List ℕ) (x : Refusal) → and_then r (λ x q. got (cells x) q) ≡ no x → FillsCells cells r (Err x) before before
  refusal-fills (answered g) before x e = never _ _ (sym e) refl refl
  refusal-fills (refused n d) before x e = record { said = sym (ap next_in e); filled = refl }

module _ (n : ℕ) (s : List ℕ) (p : ℕ) (before : List ℕ) where
  pub fills : (cells : List ℕ) (q : ℕ) → cells_from 9 n 0 s p (cells_of 9 []) ≡ got cells q → FillsCells (cells_of 9) (read_fields (layout_of n) 0 s p) (Ok q) before cells
  unfolding cells_from layout_of
  fills cells q e = got-fills (cells_of 9) (read_fields (layout_of n) 0 s p) before cells q (sym (whole (read_fields (layout_of n) 0 s p)) ∙ e)

  pub refuses : (x : Refusal) → cells_from 9 n 0 s p (cells_of 9 []) ≡ no x → FillsCells (cells_of 9) (read_fields (layout_of n) 0 s p) (Err x) before before
  unfolding cells_from layout_of
  refuses x e = refusal-fills (cells_of 9) (read_fields (layout_of n) 0 s p) before x (sym (whole (read_fields (layout_of n) 0 s p)) ∙ e)

-- The loop that fills a row ------------------------------------------------------------------------------------------------------

-- how many cells are left
abbrev pub left : ℕ → ℕ
left k = (27 - k) / 3

-- where it stands: `out` is as it was, and the row wanted is what is left to do from here
pub record Filling (layout : ℕ) (s : List ℕ) (at : ℕ) (before out row : List ℕ) (k rest word here : ℕ) : Type 0 where
  pub same : out ≡ before
  pub whole_cells : k + 3 * left k ≡ 27
  pub wanted : cells_from (left k) rest word s here row ≡ cells_from 9 layout 0 s at (cells_of 9 [])

module _ {layout : ℕ} {s : List ℕ} {at : ℕ} {before out row : List ℕ} {k rest word here : ℕ} (l : Filling layout s at before out row k rest word here) where
  pub filling-on : (c : Cell) (w q : ℕ) → 0 < rest → k ≤ 24 → got (record { cell = c; word = w }) q ≡ cell_step_by (field_of (rest % 32)) word s here
      → Filling layout s at before out (slice_set (slice_set (slice_set row k c.kind) (k + 1) c.value) (k + 2) c.more) (k + 3) (rest / 32) w q
  unfolding put_cell
  filling-on c w q more room e =
      let f : left (k + 3) + 1 ≡ left k = omega (arith, room) in
      let h : 27 - 3 * left k ≡ k = omega (arith, l.whole_cells) in
      let g = goes (left (k + 3)) rest word s here row _ _ more (sym e) in
      record { same = l.same; whole_cells = omega (arith, l.whole_cells); wanted = sym (rw (f, h) at g) ∙ l.wanted }

  -- as `?` leaves it
  pub filling-refused : (r : Result ℕ Refusal) (x : Refusal) → 0 < rest → k ≤ 24 → no x ≡ cell_step_by (field_of (rest % 32)) word s here → IsErrAnd r (λ y. y ≡ x)
      → FillsCells (cells_of 9) (read_fields (layout_of layout) 0 s at) r before out
  filling-refused (Ok q) x more room e h = absurd h
  filling-refused (Err y) x more room e h =
      let f : left (k + 3) + 1 ≡ left k = omega (arith, room) in
      let g = stops (left (k + 3)) rest word s here row _ _ more (sym e) in
      rw (l.same, h) (refuses layout s at before x (sym l.wanted ∙ rw f at g))

  pub filling-full : 24 < k → FillsCells (cells_of 9) (read_fields (layout_of layout) 0 s at) (Ok here) before row
  filling-full most =
      let z : left k ≡ 0 = omega (arith, most) in
      fills layout s at before row here (sym l.wanted ∙ rw z (full word s here row rest))

  pub filling-ended : rest ≤ 0 → FillsCells (cells_of 9) (read_fields (layout_of layout) 0 s at) (Ok here) before row
  filling-ended none =
      let z : rest ≡ 0 = omega (arith, none) in
      fills layout s at before row here (sym l.wanted ∙ rw z (ends word s here row (left k)))

-- A pointer word with a bad kind or mode ----------------------------------------------------------------------------------------

module _ (s : List ℕ) (p w e n : ℕ) (d : List ℕ) (is : got w e ≡ fixed_at 4 s p) where
  pub bad-kind-field : refused n d ≡ kind_of w → (v : ℕ) → refused n d ≡ cell_step_by pointer v s p
  unfolding read_field_by cell_step_by
  bad-kind-field h v = rw (sym is, sym h) (bad-kind n d w h)

  pub bad-mode-field : {k : PointerKind} → answered k ≡ kind_of w → refused n d ≡ mode_of w → (v : ℕ) → refused n d ≡ cell_step_by pointer v s p
  unfolding read_field_by cell_step_by
  bad-mode-field k h v = rw (sym is, sym k, sym h) (bad-mode n d w h)
