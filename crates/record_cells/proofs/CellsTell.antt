-- A row tells the values that it was filled from. Assumes nothing.
use Rattle.std.specs.Prelude.{Option, None, Some}
use Prim.Native.Nat.{ℕ, zero, suc, ◌/◌, ◌%◌, ◌+◌, ◌≤◌}
use native.Mathlib.Omega.{arith}
use mathlib.Core.Bool.{Bool, true, false}
use mathlib.Core.Path.{◌≡◌, refl, ap, sym, ◌∙◌}
use mathlib.Core.List.{List, [], ◌∷◌}
use lib.IntN.{pos, negsuc}
use lib.ListN.{length}
use lib.Dec.{eqb}
use Rattle.answer.specs.Answer.{answered, refused, Read, got, pick, and_then}
use Rattle.answer.specs.Tables.{find}
use Rattle.record_layout.specs.Fields.{Shown, number, numeral, absent, many, Field, read_field, read_fields, read_fields_by, word_after}
use Rattle.record_layout.specs.Layouts.{Layout, Table, by_layout, read_leaf}
use Rattle.record_cells.specs.Codes.{field_of, decode, layout_of}
use Rattle.record_cells.specs.Cells.{flag, cell_of, cells_of, value_in, values_in}
use Rattle.record_cells.specs.Filled.{fields_by, CellsTell}

natural-back : (n width : ℕ) (shorter : Bool) → value_in (3 + flag shorter) n width ≡ numeral (pos n) (record { width = width; shorter = shorter })
natural-back n width true = refl
natural-back n width false = refl

negative_back : (n width : ℕ) (shorter : Bool) → value_in (5 + flag shorter) n width ≡ numeral (negsuc n) (record { width = width; shorter = shorter })
negative_back n width true = refl
negative_back n width false = refl

value-back : (v : Shown) → value_in (cell_of v).kind (cell_of v).value (cell_of v).more ≡ v
value-back (number n) = refl
value-back (numeral (pos n) f) = natural-back n f.width f.shorter
value-back (numeral (negsuc n) f) = negative_back n f.width f.shorter
value-back absent = refl
value-back (many x) = refl

natural-there : (b : Bool) → eqb (3 + flag b) 0 ≡ false
natural-there true = refl
natural-there false = refl

negative-there : (b : Bool) → eqb (5 + flag b) 0 ≡ false
negative-there true = refl
negative-there false = refl

there : (v : Shown) → eqb (cell_of v).kind 0 ≡ false
there (number n) = refl
there (numeral (pos n) f) = natural-there f.shorter
there (numeral (negsuc n) f) = negative-there f.shorter
there absent = refl
there (many x) = refl

row_back : (n : ℕ) (vs : List Shown) → length vs ≤ n → values_in n (cells_of n vs) ≡ vs
unfolding values_in cells_of
row_back zero [] h = refl
row_back zero (v ∷ vs) h = absurd (omega arith)
row_back (suc n) [] h = refl
row_back (suc n) (v ∷ vs) h = rw (there v, value-back v, row_back n vs (omega arith))

row_one : (n : ℕ) (vs us : List Shown) → length vs ≤ n → length us ≤ n → cells_of n vs ≡ cells_of n us → vs ≡ us
row_one n vs us h k e = sym (row_back n vs h) ∙ ap (values_in n) e ∙ row_back n us k

-- How many values there are: one for each field, and no number decodes to more fields than are asked for

decoded : (k n : ℕ) → length (decode k n) ≤ k
unfolding decode
decoded zero n = omega arith
decoded (suc k) n = go (eqb n 0) (decoded k (n / 32))
  where
    go : (b : Bool) → length (decode k (n / 32)) ≤ k → length (pick b [] (field_of (n % 32) ∷ decode k (n / 32))) ≤ suc k
    go true h = omega arith
    go false h = omega arith

-- of a reading that is answered
abbrev Long : ℕ → Read (List Shown) → Type 0
Long n (answered g) = length g.value ≡ n
Long n (refused m d) = Unit {0}

each : (fs : List Field) (w : ℕ) (s : List ℕ) (p : ℕ) → Long (length fs) (read_fields fs w s p)
unfolding read_fields_by
each [] w s p = refl
each (f ∷ fs) w s p = go (λ v q. each fs (word_after f v w) s q) (read_field f w s p)
  where
    more : (v : Shown) (r : Read (List Shown)) → Long (length fs) r → Long (suc (length fs)) (and_then r (λ vs e. got (v ∷ vs) e))
    more v (answered g) h = ap suc h
    more v (refused m d) h = tt

    go : ((v : Shown) (q : ℕ) → Long (length fs) (read_fields fs (word_after f v w) s q)) → (r : Read Shown)
        → Long (suc (length fs)) (and_then r (λ v q. and_then (read_fields fs (word_after f v w) s q) (λ vs e. got (v ∷ vs) e)))
    go ih (answered g) = more g.value (read_fields fs (word_after f g.value w) s g.next) (ih g.value g.next)
    go ih (refused m d) = tt

row_told : (n : ℕ) (s : List ℕ) (p : ℕ) (vs : List Shown) (q : ℕ) → read_fields (layout_of n) 0 s p ≡ got vs q → values_in 9 (cells_of 9 vs) ≡ vs
unfolding layout_of
row_told n s p vs q e =
    let h : length vs ≡ length (decode 9 n) = rw e at (each (decode 9 n) 0 s p) in
    row_back 9 vs (omega (arith, decoded 9 n))

by-leaf : (o : Option Layout) (leaf : ℕ) (s : List ℕ) (p : ℕ) → and_then (fields_by o leaf s p) (λ vs e. got (number leaf ∷ vs) e) ≡ by_layout o leaf s p
by-leaf None leaf s p = refl
by-leaf (Some fs) leaf s p = refl

leaf-read : (table : Table) (leaf : ℕ) (s : List ℕ) (p : ℕ) → and_then (fields_by (find leaf table) leaf s p) (λ vs e. got (number leaf ∷ vs) e) ≡ read_leaf table leaf s p
unfolding read_leaf
leaf-read table leaf s p = by-leaf (find leaf table) leaf s p

pub cells-tell : CellsTell
cells-tell = record { back = row_back; one_row = row_one; told = row_told; as_read = leaf-read }
