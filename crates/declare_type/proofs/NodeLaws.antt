-- The laws of nodes, lists and sizes. Assumes nothing.
use Rattle.std.specs.Prelude.{Result, Ok, Err, Some, None}
use Rattle.answer.specs.declared.Refusal.{Refusal}
use Prim.Native.Nat.{ℕ, zero, suc, ◌+◌, ◌-◌, ◌*◌, ◌/◌, ◌%◌, ◌≤◌, ◌<◌}
use native.Mathlib.Omega.{arith}
use mathlib.Core.Path.{◌≡◌, refl, ap, sym, ◌∙◌}
use mathlib.Core.Bool.{Bool, true, false}
use mathlib.Core.List.{List}
use lib.ListN.{length}
use lib.Dec.{leb, eqb}
use borrow.Author.Tests.{le-leb, lt-leb, leb-true, eq-eqb, ne_eqb}
use Rattle.answer.specs.Answer.{pick}
use Rattle.answer.specs.Tables.{among}
use Rattle.answer.specs.declared.Refusal.TheVariants as refusal
use Rattle.field_text.specs.Texts.{Part, part}
use Rattle.record_layout.specs.Fields.{Shown, number, numeral, absent, many}
use Rattle.record_layout.specs.Values.{nth}
use Rattle.record_data.specs.Said.{kind_values}
use Rattle.record_data.specs.declared.ClassKind.{ClassKind}
use Rattle.record_data.specs.declared.ClassKind.TheVariants as kind
use Rattle.record_data.specs.declared.ClassType.{ClassType}
use Rattle.stream_finder.specs.Finder.{State}
use Rattle.declare_type.specs.declared.node.Node.TheVariants as node
use Rattle.declare_type.specs.declared.node.Sized.{Sized}
use Rattle.declare_type.specs.declared.node.Sized.TheVariants as sized
use Rattle.declare_type.specs.Looked.{Seen, held, type_seen}
use Rattle.declare_type.specs.Nodes.{leaf_in, num, classes, sized_in, sized_from, through, size_through, extent_of, name_in, node_in, list_in, list_by}
use Rattle.declare_type.specs.Inside.{ListInside}
use Rattle.field.specs.declared.index.TypeIndex.{TypeIndex}

-- ---- a class, by its kind

pub class-size : (k : ClassKind) (r : ClassType) → sized.Known r.size.value ≡ sized_in (leaf_in (kind_values k r)) (kind_values k r)
unfolding sized_in among classes
class-size kind.Class r = refl
class-size kind.Struct r = refl
class-size kind.Interface r = refl
class-size kind.Struct19 r = refl

pub class-name :
    (s : List ℕ) (σ : State) (p n : ℕ) (k : ClassKind) (r : ClassType) → name_in p n (many (part r.name)) ≡ node_in s σ p n (leaf_in (kind_values k r)) (kind_values k r)
unfolding node_in among classes
class-name s σ p n kind.Class r = refl
class-name s σ p n kind.Struct r = refl
class-name s σ p n kind.Interface r = refl
class-name s σ p n kind.Struct19 r = refl

-- ---- names and lists

module _ (p n : ℕ) (x : Part) where
  pub name-past : n < x.place + x.length → node.Refused refusal.Ended ≡ name_in p n (many x)
  name-past h = rw (lt-leb (x.place + x.length) n h)

  pub name-there : x.place + x.length ≤ n → node.Named (p + x.place) x.length ≡ name_in p n (many x)
  name-there h = rw (le-leb (x.place + x.length) n h)

  pub list-past : (k : ℕ) → n < x.place + 4 * k → Err refusal.Ended ≡ list_in p n k (many x)
  list-past k h = rw (lt-leb (x.place + 4 * k) n h)

  pub list-there : (k : ℕ) → x.place + 4 * k ≤ n → Ok (p + x.place, k) ≡ list_in p n k (many x)
  list-there k h = rw (le-leb (x.place + 4 * k) n h)

-- ---- lengths of arrays

module _ (all one : ℕ) where
  pub extent-none : one ≡ 0 → None ≡ extent_of all one
  unfolding extent_of
  extent-none h = rw (eq-eqb one 0 h)

  pub extent-known : (one ≡ 0 → ⊥) → all % one ≡ 0 → Some (all / one) ≡ extent_of all one
  unfolding extent_of
  extent-known h k = rw (ne_eqb one 0 h, eq-eqb (all % one) 0 k)

  pub extent-odd : (one ≡ 0 → ⊥) → (all % one ≡ 0 → ⊥) → None ≡ extent_of all one
  unfolding extent_of
  extent-odd h k = rw (ne_eqb one 0 h, ne_eqb (all % one) 0 k)

-- ---- sizes

module _ (s : List ℕ) (σ : State) (k i : ℕ) (z : Sized) (v : Seen) (y : z ≡ sized_from v) (w : v ≡ type_seen s σ i) where
  at-known : (k : ℕ) (n : ℕ) → z ≡ sized.Known n → n ≡ size_through s σ k i
  unfolding size_through
  at-known zero n e = rw (sym w, sym y ∙ e)
  at-known (suc k) n e = rw (sym w, sym y ∙ e)

  pub size-known : (n : ℕ) → z ≡ sized.Known n → n ≡ size_through s σ k i
  size-known n e = at-known k n e

  pub size-stopped : (j : TypeIndex) → z ≡ sized.Through j → k ≡ 0 → 0 ≡ size_through s σ k i
  unfolding size_through
  size-stopped j e h = rw (h, sym w, sym y ∙ e)

  pub size-through : (j : TypeIndex) → z ≡ sized.Through j → 0 < k → size_through s σ (k - 1) j.0 ≡ size_through s σ k i
  unfolding size_through
  size-through j e h =
      let f : k ≡ suc (k - 1) = omega arith in
      let g : through (λ b. size_through s σ (k - 1) b) (sized_from (type_seen s σ i)) ≡ size_through s σ (k - 1) j.0 = rw (sym w, sym y ∙ e) in
      sym g ∙ ap (λ m. size_through s σ m i) (sym f)

-- ---- inside the stream

pub list_inside : (s : List ℕ) (p n : ℕ) (vs : List Shown) (r : Result (ℕ × ℕ) Refusal) → r ≡ list_by (held p n vs) → p + n ≤ length s → ListInside s r
list_inside s p n vs r e h = rw e (go (eqb (leaf_in vs) 0x1201) (nth 2 vs)) where
  in-it : (k : ℕ) (x : Part) (b : Bool) → leb (x.place + 4 * k) n ≡ b → ListInside s (pick b (Ok (p + x.place, k)) (Err refusal.Ended))
  in-it k x true f = omega (arith, h, leb-true (x.place + 4 * k) n f)
  in-it k x false f = tt

  go : (b : Bool) (v : Shown) → ListInside s (pick b (list_in p n (num vs 1) v) (Err refusal.LeafNotPrinted))
  go false v = tt
  go true (many x) = in-it (num vs 1) x (leb (x.place + 4 * num vs 1) n) refl
  go true (number k) = tt
  go true (numeral z f) = tt
  go true absent = tt
