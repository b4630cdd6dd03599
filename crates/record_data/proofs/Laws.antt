-- A pointer record is refused where its word has a bad kind or mode; the name of a class, and its layout. Assumes nothing.
use Rattle.std.specs.Prelude.{Option, None, Some}
use Prim.Native.Nat.{ℕ}
use native.Mathlib.Omega.{arith}
use mathlib.Core.Bool.{Bool, true, false}
use mathlib.Core.Path.{◌≡◌, refl, subst, sym}
use mathlib.Core.List.{List}
use lib.Dec.{eqb}
use borrow.Author.Tests.{eqb-true}
use Rattle.answer.specs.Answer.{answered, refused, got, pick}
use Rattle.answer.specs.Tables.{find}
use Rattle.field.specs.Fields.{fixed_at}
use Rattle.field_text.specs.Texts.{part}
use Rattle.record_layout.specs.Fields.{many, read_field_by, read_fields_by}
use Rattle.record_layout.specs.Layouts.{read_leaf, leaf_of, type_leaves}
use Rattle.record_layout.proofs.PointerLaws.{bad-kind, bad-mode}
use Rattle.record_data.specs.declared.ClassKind.{ClassKind}
use Rattle.record_data.specs.declared.ClassKind.TheVariants as kind
use Rattle.record_data.specs.declared.ClassType.{ClassType}
use Rattle.record_data.specs.Said.{kind_leaf, kind_values, Plain, class_kinds, class_of, name_places, type_data_name}
use Rattle.word_attributes.specs.declared.PointerKind.{PointerKind}
use Rattle.word_attributes.specs.Pointers.{kind_of, mode_of}

-- a pointer record's line of the table refuses as its kind or its mode does
module _ (s : List ℕ) (p t q w e n : ℕ) (d : List ℕ) (type : got t q ≡ fixed_at 4 s p) (word : got w e ≡ fixed_at 4 s q) where
  pub bad-pointer-kind : refused n d ≡ kind_of w → refused n d ≡ leaf_of type_leaves 0x1002 s p
  unfolding find read_field_by read_fields_by leaf_of read_leaf type_leaves
  bad-pointer-kind h = rw (sym type, sym word, sym h) (bad-kind n d w h)

  pub bad-pointer-mode : {k : PointerKind} → answered k ≡ kind_of w → refused n d ≡ mode_of w → refused n d ≡ leaf_of type_leaves 0x1002 s p
  unfolding find read_field_by read_fields_by leaf_of read_leaf type_leaves
  bad-pointer-mode k h = rw (sym type, sym word, sym k, sym h) (bad-mode n d w h)

-- the name of a class, whichever of the four leaves it was read from
pub class-name : (k : ClassKind) (r : ClassType) → type_data_name (kind_values k r) ≡ many (part r.name)
unfolding find name_places type_data_name
class-name kind.Class r = refl
class-name kind.Struct r = refl
class-name kind.Interface r = refl
class-name kind.Struct19 r = refl

-- a leaf of the three that have a class's layout: its kind's values, and its line of the table
pub record IsClass (leaf : ℕ) (k : ClassKind) : Type 0 where
  pub values : Plain k
  pub line : (s : List ℕ) (p : ℕ) → class_of (kind_leaf k) s p ≡ leaf_of type_leaves leaf s p

-- none of the three
pub record NoClass (leaf : ℕ) : Type 0 where
  pub not_1504 : eqb leaf 0x1504 ≡ false
  pub not_1505 : eqb leaf 0x1505 ≡ false
  pub not_1519 : eqb leaf 0x1519 ≡ false

module _ (leaf : ℕ) where
  abbrev kinds : Bool → Bool → Bool → Option ClassKind
  kinds a b c = pick a (Some kind.Class) (pick b (Some kind.Struct) (pick c (Some kind.Interface) None))

  pub is-class : (k : ClassKind) → find leaf class_kinds ≡ Some k → IsClass leaf k
  unfolding find class_kinds leaf_of read_leaf type_leaves
  is-class k h = go (eqb leaf 0x1504) refl (eqb leaf 0x1505) refl (eqb leaf 0x1519) refl h
    where
      go : (a : Bool) → eqb leaf 0x1504 ≡ a → (b : Bool) → eqb leaf 0x1505 ≡ b → (c : Bool) → eqb leaf 0x1519 ≡ c → kinds a b c ≡ Some k → IsClass leaf k
      go true ea b eb c ec e =
          let q : kind.Class ≡ k = cc in
          subst (IsClass leaf) q (record { values = λ r. refl; line = λ s p. rw (eqb-true leaf 0x1504 ea) })
      go false ea true eb c ec e =
          let q : kind.Struct ≡ k = cc in
          subst (IsClass leaf) q (record { values = λ r. refl; line = λ s p. rw (eqb-true leaf 0x1505 eb) })
      go false ea false eb true ec e =
          let q : kind.Interface ≡ k = cc in
          subst (IsClass leaf) q (record { values = λ r. refl; line = λ s p. rw (eqb-true leaf 0x1519 ec) })
      go false ea false eb false ec e = let z : ◌≡◌ {A = ℕ} 0 1 = cc in absurd (omega arith)

  pub no-class : find leaf class_kinds ≡ None → NoClass leaf
  unfolding find class_kinds
  no-class h = go (eqb leaf 0x1504) refl (eqb leaf 0x1505) refl (eqb leaf 0x1519) refl h
    where
      go : (a : Bool) → eqb leaf 0x1504 ≡ a → (b : Bool) → eqb leaf 0x1505 ≡ b → (c : Bool) → eqb leaf 0x1519 ≡ c → kinds a b c ≡ None → NoClass leaf
      go true ea b eb c ec e = let z : ◌≡◌ {A = ℕ} 0 1 = cc in absurd (omega arith)
      go false ea true eb c ec e = let z : ◌≡◌ {A = ℕ} 0 1 = cc in absurd (omega arith)
      go false ea false eb true ec e = let z : ◌≡◌ {A = ℕ} 0 1 = cc in absurd (omega arith)
      go false ea false eb false ec e = record { not_1504 = ea; not_1505 = eb; not_1519 = ec }
