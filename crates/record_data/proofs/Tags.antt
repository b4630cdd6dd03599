-- Written by tools/leaves.
-- The leaf of a record says its case of `TypeData`, so where a `match` has left some cases over, their leaves are not there. Assumes nothing.
use Rattle.std.specs.Prelude.{Some}
use Prim.Native.Nat.{ℕ}
use mathlib.Core.Bool.{Bool, true, false, not}
use mathlib.Core.Path.{◌≡◌, refl, sym, ap, subst, ◌∙◌}
use mathlib.Core.List.{List, [], ◌∷◌}
use lib.Dec.{T, eqb}
use borrow.Author.Tests.{eqb-true}
use denote.Enum.Declared.{tag_of}
use mir.Val.{has_key}
use types.Run.{OneOf, miss}
use Rattle.answer.specs.Answer.{pick}
use Rattle.answer.specs.Tables.{Line, ◌is◌, find}
use Rattle.record_layout.specs.Values.{nth, number_in}
use Rattle.record_data.specs.Said.{kind_values, type_values}
use Rattle.record_data.specs.declared.ClassKind.{ClassKind}
use Rattle.record_data.specs.declared.ClassKind.TheVariants as kind
use Rattle.record_data.specs.declared.ClassType.{ClassType}
use Rattle.record_data.specs.declared.TypeData.{TypeData}
use Rattle.record_data.specs.declared.TypeData.TheVariants as type
use Rattle.record_data.specs.contracts.TypeData.{the_type}

unfoldable pub leaf_tags : List (Line ℕ)
leaf_tags =
    (0x1504 is 0)
    ∷ (0x1505 is 0)
    ∷ (0x1519 is 0)
    ∷ (0x1609 is 0)
    ∷ (0x1009 is 1)
    ∷ (0x1008 is 2)
    ∷ (0x1002 is 3)
    ∷ (0x1001 is 4)
    ∷ (0x1507 is 5)
    ∷ (0x1503 is 6)
    ∷ (0x1506 is 7)
    ∷ (0x1205 is 8)
    ∷ (0x000a is 9)
    ∷ (0x1203 is 10)
    ∷ (0x1201 is 11)
    ∷ (0x1206 is 12)
    ∷ []

class-tag : (k : ClassKind) (r : ClassType) → find (number_in (nth 0 (kind_values k r))) leaf_tags ≡ Some 0
unfolding find leaf_tags
class-tag kind.Class r = refl
class-tag kind.Struct r = refl
class-tag kind.Interface r = refl
class-tag kind.Struct19 r = refl

pub leaf-tag : (d : TypeData) → find (number_in (nth 0 (type_values d))) leaf_tags ≡ Some (tag_of the_type d)
unfolding find leaf_tags
leaf-tag (type.Class r) = class-tag r.kind r
leaf-tag (type.MemberFunction r) = refl
leaf-tag (type.Procedure r) = refl
leaf-tag (type.Pointer r) = refl
leaf-tag (type.Modifier r) = refl
leaf-tag (type.Enumeration r) = refl
leaf-tag (type.Array r) = refl
leaf-tag (type.Union r) = refl
leaf-tag (type.Bitfield r) = refl
leaf-tag (type.VirtualTableShape r) = refl
leaf-tag type.FieldList = refl
leaf-tag (type.ArgumentList r) = refl
leaf-tag type.MethodList = refl

-- the tags that a `match` leaves over: all but these
abbrev leave : List ℕ → List ℕ → List ℕ
leave known [] = []
leave known (t ∷ ts) = pick (has_key known t) (leave known ts) (t ∷ leave known ts)

abbrev pub others : List ℕ → List ℕ
others known = leave known (0 ∷ 1 ∷ 2 ∷ 3 ∷ 4 ∷ 5 ∷ 6 ∷ 7 ∷ 8 ∷ 9 ∷ 10 ∷ 11 ∷ 12 ∷ [])

-- a record whose case is left over has no leaf of a case that is not
pub not-leaf : (known : List ℕ) (d : TypeData) → OneOf (others known) (tag_of the_type d) → (leaf tag : ℕ) → find leaf leaf_tags ≡ Some tag → T (not (has_key (others known) tag))
    → eqb (number_in (nth 0 (type_values d))) leaf ≡ false
not-leaf known d left leaf tag e there = go (eqb (number_in (nth 0 (type_values d))) leaf) refl
  where
    go : (b : Bool) → eqb (number_in (nth 0 (type_values d))) leaf ≡ b → b ≡ false
    go false h = refl
    go true h =
        let both : Some (tag_of the_type d) ≡ Some tag = sym (leaf-tag d) ∙ ap (λ (n : ℕ). find n leaf_tags) (eqb-true _ _ h) ∙ e in
        let same : tag_of the_type d ≡ tag = cc in
        absurd (miss (others known) tag there (subst (OneOf (others known)) same left))
