-- The table without the two lists: a leaf that is left is written as by the whole table, and one that is not is 17. Assumes nothing.
use Rattle.std.specs.Prelude.{Option, None, Some}
use Prim.Native.Nat.{ℕ, ◌^◌}
use native.Mathlib.Omega.{arith}
use mathlib.Core.Bool.{Bool, true, false}
use mathlib.Core.Path.{◌≡◌, refl, sym, ap, ◌∙◌}
use mathlib.Core.List.{List, [], ◌∷◌}
use lib.Dec.{ltb, eqb}
use borrow.Author.Tests.{eqb-true}
use Rattle.answer.specs.Answer.{answered, refused, pick}
use Rattle.answer.specs.Tables.{◌is◌, find, among}
use Rattle.field.specs.Bytes.{bytes}
use Rattle.record_layout.specs.Fields.{number, numeral, absent, many}
use Rattle.record_layout.specs.Layouts.{Layout, Table, type_leaves}
use Rattle.write_layout.specs.Fields.{ToWrite, Encoded, bad, fixed_bytes, and_also}
use Rattle.write_layout.specs.Records.{write_leaf, record_bytes, write_record}
use Rattle.write_layout.specs.Types.{without, element_leaves, written_leaves, TypesWritten}

-- what is found without some leaves
find-without : (leaf : ℕ) (leaves : List ℕ) (table : Table) → find leaf (without leaves table) ≡ pick (among leaf leaves) None (find leaf table)
unfolding find without
find-without leaf leaves [] = go (among leaf leaves)
  where
    go : (b : Bool) → ◌≡◌ {A = Option Layout} None (pick b None None)
    go true = refl
    go false = refl
find-without leaf leaves ((m is fs) ∷ table) = go (among m leaves) refl (eqb leaf m) refl (find-without leaf leaves table)
  where
    go : (b : Bool) → among m leaves ≡ b → (c : Bool) → eqb leaf m ≡ c → find leaf (without leaves table) ≡ pick (among leaf leaves) None (find leaf table)
        → find leaf (pick b (without leaves table) ((m is fs) ∷ without leaves table)) ≡ pick (among leaf leaves) None (pick c (Some fs) (find leaf table))
    go true e true f later =
        let a : among leaf leaves ≡ true = ap (λ (k : ℕ). among k leaves) (eqb-true leaf m f) ∙ e in
        later ∙ rw a
    go true e false f later = later
    go false e true f later =
        let a : among leaf leaves ≡ false = ap (λ (k : ℕ). among k leaves) (eqb-true leaf m f) ∙ e in
        rw (f, a)
    go false e false f later = rw f later

pub leaf-other : (leaf : ℕ) (vs : List ToWrite) → among leaf element_leaves ≡ false → write_leaf written_leaves (number leaf ∷ vs) ≡ write_leaf type_leaves (number leaf ∷ vs)
unfolding write_leaf written_leaves
leaf-other leaf vs e = rw (find-without leaf element_leaves type_leaves, e)

-- a leaf has its two bytes, or is 17
abbrev Fixed : Encoded → Type 0
Fixed (answered bs) = Unit {0}
Fixed (refused n d) = ◌≡◌ {A = Encoded} (refused n d) bad

fixed-answered : (leaf : ℕ) → Fixed (fixed_bytes 2 leaf)
unfolding fixed_bytes
fixed-answered leaf = go (ltb leaf (256 ^ 2)) (bytes 2 leaf)
  where
    go : (b : Bool) (bs : List ℕ) → Fixed (pick b (answered bs) bad)
    go true bs = tt
    go false bs = refl

also-bad : (leaf : ℕ) → and_also (fixed_bytes 2 leaf) bad ≡ bad
also-bad leaf = go (fixed_bytes 2 leaf) (fixed-answered leaf)
  where
    go : (a : Encoded) → Fixed a → and_also a bad ≡ bad
    go (answered bs) f = refl
    go (refused n d) f = f

pub leaf-list : (leaf : ℕ) (vs : List ToWrite) → among leaf element_leaves ≡ true → write_leaf written_leaves (number leaf ∷ vs) ≡ bad
unfolding write_leaf written_leaves
leaf-list leaf vs e = rw (find-without leaf element_leaves type_leaves, e) (also-bad leaf)

record-list : (leaf : ℕ) (vs : List ToWrite) → among leaf element_leaves ≡ true → write_record written_leaves (number leaf ∷ vs) ≡ bad
unfolding write_record record_bytes
record-list leaf vs e = rw (leaf-list leaf vs e)

record-other : (leaf : ℕ) (vs : List ToWrite) → among leaf element_leaves ≡ false → write_record written_leaves (number leaf ∷ vs) ≡ write_record type_leaves (number leaf ∷ vs)
unfolding write_record
record-other leaf vs e = rw (leaf-other leaf vs e)

no_answer : {X : Type 0} {rs : List ℕ} → ◌≡◌ {A = Encoded} bad (answered rs) → X
no_answer {X} {rs} h = let z : ◌≡◌ {A = ℕ} 0 1 = cc in absurd (omega arith)

record_same : (vs : List ToWrite) (rs : List ℕ) → write_record written_leaves vs ≡ answered rs → write_record type_leaves vs ≡ answered rs
unfolding write_record record_bytes write_leaf
record_same [] rs h = no_answer h
record_same (numeral z u ∷ vs) rs h = no_answer h
record_same (absent ∷ vs) rs h = no_answer h
record_same (many x ∷ vs) rs h = no_answer h
record_same (number leaf ∷ vs) rs h = go (among leaf element_leaves) refl
  where
    go : (b : Bool) → among leaf element_leaves ≡ b → write_record type_leaves (number leaf ∷ vs) ≡ answered rs
    go true e = no_answer (sym (record-list leaf vs e) ∙ h)
    go false e = sym (record-other leaf vs e) ∙ h

pub types-written : TypesWritten
types-written = record { lists = record-list; others = record-other; same = record_same }
