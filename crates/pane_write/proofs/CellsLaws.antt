-- What C gets of a record that is read into cells, from what the reader says of its fields. Assumes nothing.
use Prim.Native.Nat.{ℕ}
use mathlib.Core.Path.{◌≡◌, refl, sym, ap, ◌∙◌}
use mathlib.Core.List.{List, [], ◌∷◌}
use lib.ListN.{get_or}
use Rattle.answer.specs.Answer.{Answer, answered, refused, Read, got, and_then}
use Rattle.answer.specs.declared.Refusal.{Refusal}
use Rattle.answer.specs.Refusals.{no}
use Rattle.answer.specs.Tables.{find}
use Rattle.field.specs.Fields.{fixed_at}
use Rattle.record_layout.specs.Fields.{Shown, number}
use Rattle.record_layout.specs.Layouts.{Table, leaf_of, record_of}
use Rattle.record_cells.specs.Cells.{cells_of}
use Rattle.record_cells.specs.Filled.{fields_by, cells_after}
use Rattle.record_cells.proofs.CellsTell.{cells-tell}
use Rattle.pane_out.specs.Handed.{refused_out}
use Rattle.pane_write.specs.Read.{out_cells}

abbrev fields_only : ℕ → Read (List Shown) → Answer (List Shown)
fields_only leaf r = and_then r (λ vs e. answered (number leaf ∷ vs))

-- what the leaf's reader answers, from its fields
onward : (leaf : ℕ) (r : Read (List Shown)) → and_then (and_then r (λ vs e. got (number leaf ∷ vs) e)) (λ vs e. answered vs) ≡ fields_only leaf r
onward leaf (answered g) = refl
onward leaf (refused n d) = refl

leaf-is : (table : Table) (leaf : ℕ) (s : List ℕ) (p : ℕ) → leaf_of table leaf s p ≡ fields_only leaf (fields_by (find leaf table) leaf s p)
unfolding leaf_of
leaf-is table leaf s p = ap (λ (r : Read (List Shown)). and_then r (λ vs e. answered vs)) (sym (cells-tell.as_read table leaf s p)) ∙ onward leaf (fields_by (find leaf table) leaf s p)

-- and the record's, once its leaf is read
pub record_is : (table : Table) (leaf : ℕ) (s : List ℕ) (p : ℕ) → fixed_at 2 s 0 ≡ got leaf p
    → record_of table s ≡ fields_only leaf (fields_by (find leaf table) leaf s p)
unfolding record_of
record_is table leaf s p e = ap (λ (r : Read ℕ). and_then r (λ leaf q. leaf_of table leaf s q)) e ∙ leaf-is table leaf s p

-- what C gets of an answer of the reader x
abbrev out_by : ℕ → List ℕ → Answer ℕ → ℕ × List ℕ × List ℕ
out_by leaf after (answered q) = (0, 0 ∷ 0 ∷ leaf ∷ [], after)
out_by leaf after (refused n d) = (n, get_or d 0 0 ∷ get_or d 1 0 ∷ 0 ∷ [], after)

by-fields : (leaf : ℕ) (r : Read (List Shown)) (before after : List ℕ) → after ≡ cells_after (cells_of 9) r before
    → out_by leaf after (and_then r (λ vs q. answered q)) ≡ out_cells before (fields_only leaf r)
by-fields leaf (answered g) before after f = rw f
by-fields leaf (refused n d) before after f = rw f

pub cells_out : (table : Table) (leaf : ℕ) (s : List ℕ) (p : ℕ) (x : Answer ℕ) (before after : List ℕ)
    → fixed_at 2 s 0 ≡ got leaf p
    → and_then (fields_by (find leaf table) leaf s p) (λ vs q. answered q) ≡ x
    → after ≡ cells_after (cells_of 9) (fields_by (find leaf table) leaf s p) before
    → out_by leaf after x ≡ out_cells before (record_of table s)
cells_out table leaf s p x before after e h f =
    ap (out_by leaf after) (sym h) ∙ by-fields leaf (fields_by (find leaf table) leaf s p) before after f ∙ ap (out_cells before) (sym (record_is table leaf s p e))

-- where it is refused, n and m being what the refusal gives
pub cells_refused : (table : Table) (leaf : ℕ) (s : List ℕ) (p : ℕ) (e : Refusal) (n k : ℕ) (m before after : List ℕ)
    → fixed_at 2 s 0 ≡ got leaf p
    → and_then (fields_by (find leaf table) leaf s p) (λ vs q. answered q) ≡ no e
    → after ≡ cells_after (cells_of 9) (fields_by (find leaf table) leaf s p) before
    → (n, m) ≡ refused_out k e
    → k ≡ 3
    → (n, m, after) ≡ out_cells before (record_of table s)
cells_refused table leaf s p e n k m before after a h f r l =
    ap (λ (x : ℕ × List ℕ). (x.0, x.1, after)) (r ∙ ap (λ (j : ℕ). refused_out j e) l) ∙ cells_out table leaf s p (no e) before after a h f
