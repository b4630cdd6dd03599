-- The laws of lookups. Assumes nothing.
use Prim.Native.Nat.{ℕ, ◌+◌, ◌-◌, ◌≤◌, ◌<◌}
use native.Mathlib.Omega.{arith}
use mathlib.Core.Path.{◌≡◌, refl, ap, sym}
use mathlib.Core.Bool.{Bool, true, false}
use mathlib.Core.List.{List}
use lib.ListN.{length, take, drop, length-take, length-drop}
use borrow.Author.Tests.{lt-ltb, le-ltb, ne_eqb}
use Rattle.answer.specs.Answer.{Answer, answered, refused, pick}
use Rattle.answer.specs.Tables.{among}
use Rattle.answer.specs.Refusals.{number_of, details_of}
use Rattle.answer.proofs.OneOutcome.{back}
use Rattle.answer.specs.declared.Refusal.{Refusal}
use Rattle.answer.specs.declared.Refusal.TheVariants as refusal
use Rattle.field.specs.Fields.{fixed_at}
use Rattle.declare_type.specs.declared.node.Looked as declared
use Rattle.declare_type.specs.declared.node.Looked.TheVariants as looked
use Rattle.word_primitive.specs.declared.PrimitiveType.{PrimitiveType}
use Rattle.declare_type.specs.Inside.{HeldAt, HeldInside}
use Rattle.declare_type.specs.Looked.{Seen, nothing, or_ended, unread, declared_leaves, as_primitive, by_leaf, bytes_seen, said_looked}

-- a refusal that is passed on
pub passed_on : (e : Refusal) → nothing e ≡ unread (number_of e) (details_of e)
passed_on e = ap (λ q. nothing (or_ended q)) (sym (back e))

pub test-is : (b : Bool) → b ≡ pick b true false
test-is true = refl
test-is false = refl

pub not_taken :
    (n : ℕ) → (n ≡ 0x1001 → ⊥) → (n ≡ 0x1002 → ⊥) → (n ≡ 0x1008 → ⊥) → (n ≡ 0x1503 → ⊥) → (n ≡ 0x1504 → ⊥) → (n ≡ 0x1505 → ⊥) → (n ≡ 0x1519 → ⊥) → (n ≡ 0x1506 → ⊥)
    → (n ≡ 0x1507 → ⊥) → (n ≡ 0x1609 → ⊥) → false ≡ among n declared_leaves
unfolding among declared_leaves
not_taken n a b c d e f g h i j =
    rw (ne_eqb n 0x1001 a, ne_eqb n 0x1002 b, ne_eqb n 0x1008 c, ne_eqb n 0x1503 d, ne_eqb n 0x1504 e, ne_eqb n 0x1505 f, ne_eqb n 0x1519 g, ne_eqb n 0x1506 h, ne_eqb n 0x1507 i, ne_eqb n 0x1609 j)

module _ (leaves s : List ℕ) (p n : ℕ) where
  pub past_end : length s < p + n → nothing refusal.Ended ≡ bytes_seen leaves s p n
  unfolding bytes_seen
  past_end h = rw (lt-ltb (length s) (p + n) h)

  pub in-stream :
      (r : Seen) → p + n ≤ length s
      → r ≡ by_leaf leaves p (length (take ((p + n) - p) (drop p s))) (take ((p + n) - p) (drop p s)) (fixed_at 2 (take ((p + n) - p) (drop p s)) 0) → r ≡ bytes_seen leaves s p n
  unfolding bytes_seen
  in-stream r h e =
      let k : (p + n) - p ≡ n = omega arith in
      let l : length (take n (drop p s)) ≡ n = simp (length-take, length-drop) (omega arith) in
      rw (le-ltb (length s) (p + n) h) (rw (k, l) at e)

pub held_in : (s : List ℕ) (p m : ℕ) (r : declared.Looked) → HeldAt p m r → p + m ≤ length s → HeldInside s r
held_in s p m (looked.Numbered q) h k = tt
held_in s p m (looked.Held q n d) h k = omega (arith, h.0, h.1)
held_in s p m (looked.Nothing w) h k = tt

pub part_length : (s : List ℕ) (p n : ℕ) → p + n ≤ length s → p + length (take ((p + n) - p) (drop p s)) ≤ length s
part_length s p n h = simp (length-take, length-drop) (omega arith)

-- a primitive is no record
pub primitive-inside : (s : List ℕ) (r : declared.Looked) (a : Answer PrimitiveType) → said_looked r ≡ as_primitive a → HeldInside s r
primitive-inside s (looked.Numbered q) a e = tt
primitive-inside s (looked.Held q n d) (answered b) e = let z : ◌≡◌ {A = ℕ} 0 1 = cc in omega arith
primitive-inside s (looked.Held q n d) (refused k l) e = let z : ◌≡◌ {A = ℕ} 0 1 = cc in omega arith
primitive-inside s (looked.Nothing w) a e = tt
