-- A pointer that is declared has one of the five modes: its reader refuses another by 12. Assumes nothing.
use Rattle.std.specs.Prelude.{Option, None, Some}
use Prim.Native.Nat.{ℕ, ◌+◌, ◌≤◌, ◌<◌}
use native.Mathlib.Omega.{arith}
use mathlib.Core.Bool.{Bool, true, false, false≢true}
use mathlib.Core.Path.{◌≡◌, refl, sym, ◌∙◌}
use mathlib.Core.List.{List, [], ◌∷◌}
use lib.ListN.{length, take, drop}
use lib.Dec.{ltb, leb, eqb}
use borrow.Author.Tests.{leb-true, leb-false, eqb-true, eqb-false}
use Rattle.answer.specs.Answer.{Answer, answered, refused, Read, got, and_then, pick, both}
use Rattle.answer.specs.Tables.{find, among}
use Rattle.answer.specs.declared.Refusal.TheVariants as refusal
use Rattle.field.specs.Fields.{fixed_at}
use Rattle.field.specs.declared.index.TypeIndex.{TypeIndex}
use Rattle.field.specs.declared.index.ItemIndex.TheVariants as index
use Rattle.field_number.specs.Forms.{form_of}
use Rattle.word_attributes.specs.Bits.{bits}
use Rattle.word_attributes.specs.Pointers.{kind_of, mode_of}
use Rattle.word_primitive.specs.Primitive.{primitive_of}
use Rattle.word_primitive.specs.declared.PrimitiveType.{PrimitiveType}
use Rattle.record_layout.specs.Fields.{Shown, number, numeral, absent, many, number_or, read_field_by, read_fields_by, read_fields}
use Rattle.record_layout.specs.Values.{nth, number_in}
use Rattle.record_layout.specs.Layouts.{Layout, type_index, pointer, member_class, is_answered, by_layout, type_leaves, read_leaf, leaf_of, record_of}
use Rattle.stream_item.specs.declared.Entry.{Entry}
use Rattle.stream_item.specs.declared.Entry.TheVariants as entry
use Rattle.stream_finder.specs.Finder.{State, Found, find_of}
use Rattle.declare_spelling.specs.declared.Quals.{Quals}
use Rattle.declare_type.specs.Looked.{Seen, numbered, held, nothing, declared_leaves, as_primitive, as_record, by_leaf, bytes_seen, entry_seen, found_seen, record_seen, type_seen}
use Rattle.declare_type.specs.Nodes.{leaf_in, num, classes, name_in, node_in, node_by, node_of}
use Rattle.declare_type.specs.declared.node.Node.{Node}
use Rattle.declare_type.specs.declared.node.Node.TheVariants as node
use Rattle.claim_promises.proofs.ByTable.{both-second}
use Rattle.claim_promises.proofs.GivenReading.{modes-12}

-- ---- a record's leaf

-- what a record's reader answers has the record's leaf first
abbrev pub LeafFirst : ℕ → Answer (List Shown) → Type 0
LeafFirst leaf (answered vs) = leaf_in vs ≡ leaf
LeafFirst leaf (refused n d) = Unit

pub layout-first : (o : Option Layout) (leaf : ℕ) (b : List ℕ) (p : ℕ) → LeafFirst leaf (and_then (by_layout o leaf b p) (λ vs e. answered vs))
layout-first None leaf b p = tt
layout-first (Some fs) leaf b p = go (read_fields fs 0 b p) where
  go : (r : Read (List Shown)) → LeafFirst leaf (and_then (and_then r (λ vs e. got (number leaf ∷ vs) e)) (λ vs e. answered vs))
  go (answered g) = refl
  go (refused n d) = tt

-- ---- a pointer's record

mode-low : (w : ℕ) → both (is_answered (kind_of w)) (is_answered (mode_of w)) ≡ true → bits 5 7 w ≤ 4
mode-low w h = go (leb 5 (bits 5 7 w)) refl where
  go : (b : Bool) → leb 5 (bits 5 7 w) ≡ b → bits 5 7 w ≤ 4
  go true e = absurd (false≢true (rw ((modes-12 w).when (leb-true 5 (bits 5 7 w) e)) at (both-second (is_answered (kind_of w)) (is_answered (mode_of w)) h)))
  go false e =
      let k : bits 5 7 w < 5 = leb-false 5 (bits 5 7 w) e in
      omega arith

abbrev WordFirst : Read (List Shown) → Type 0
WordFirst (answered g) = bits 5 7 (number_in (nth 0 g.value)) ≤ 4
WordFirst (refused n d) = Unit

word-last : (w : ℕ) → bits 5 7 w ≤ 4 → (r : Read (List Shown)) → WordFirst (and_then r (λ vs e. got (number w ∷ vs) e))
word-last w h (answered g) = h
word-last w h (refused n d) = tt

module _ (b : List ℕ) where
  abbrev onward : Read Shown → Read (List Shown)
  onward r = and_then r (λ v q. and_then (read_fields_by form_of (member_class ∷ []) (number_or v 0) b q) (λ vs e. got (v ∷ vs) e))

  word_good : (w q : ℕ) (c : Bool) → both (is_answered (kind_of w)) (is_answered (mode_of w)) ≡ c → WordFirst (onward (pick c (got (number w) q) (refused 12 [])))
  word_good w q true e = word-last w (mode-low w e) (read_fields_by form_of (member_class ∷ []) w b q)
  word_good w q false e = tt

  word_read : (r : Read ℕ)
      → WordFirst (onward (and_then r (λ n q. pick (both (is_answered (kind_of n)) (is_answered (mode_of n))) (got (number n) q) (refused 12 []))))
  word_read (answered g) = word_good g.value g.next (both (is_answered (kind_of g.value)) (is_answered (mode_of g.value))) refl
  word_read (refused n d) = tt

  word_first : (q : ℕ) → WordFirst (read_fields_by form_of (pointer ∷ member_class ∷ []) 0 b q)
  unfolding read_fields_by read_field_by
  word_first q = word_read (fixed_at 4 b q)

abbrev ModeOk : List Shown → Type 0
ModeOk vs = leaf_in vs ≡ 0x1002 → bits 5 7 (num vs 2) ≤ 4

abbrev AnswerOk : Answer (List Shown) → Type 0
AnswerOk (answered vs) = ModeOk vs
AnswerOk (refused n d) = Unit

behind-it : (v : Shown) (r : Read (List Shown)) → WordFirst r
    → AnswerOk (and_then (and_then (and_then r (λ vs e. got (v ∷ vs) e)) (λ vs e. got (number 0x1002 ∷ vs) e)) (λ vs e. answered vs))
behind-it v (answered g) h = λ e. h
behind-it v (refused n d) h = tt

pointer_ok : (b : List ℕ) (p : ℕ) → AnswerOk (and_then (by_layout (Some (type_index ∷ pointer ∷ member_class ∷ [])) 0x1002 b p) (λ vs e. answered vs))
unfolding read_fields_by read_field_by
pointer_ok b p = go (fixed_at 4 b p) (λ q. word_first b q) where
  go : (r : Read ℕ) → ((q : ℕ) → WordFirst (read_fields_by form_of (pointer ∷ member_class ∷ []) 0 b q))
      → AnswerOk (and_then (and_then (and_then (and_then r (λ n q. got (number n) q)) (λ v q.
      and_then (read_fields_by form_of (pointer ∷ member_class ∷ []) 0 b q) (λ vs e.
      got (v ∷ vs) e))) (λ vs e. got (number 0x1002 ∷ vs) e)) (λ vs e. answered vs))
  go (answered g) f = behind-it (number g.value) (read_fields_by form_of (pointer ∷ member_class ∷ []) 0 b g.next) (f g.next)
  go (refused n d) f = tt

other-ok : (leaf : ℕ) (a : Answer (List Shown)) → eqb leaf 0x1002 ≡ false → LeafFirst leaf a → AnswerOk a
other-ok leaf (answered vs) e f = λ k. absurd (eqb-false leaf 0x1002 e (sym f ∙ k))
other-ok leaf (refused n d) e f = tt

table-has : find 0x1002 type_leaves ≡ Some (type_index ∷ pointer ∷ member_class ∷ [])
unfolding find type_leaves
table-has = refl

leaf-ok : (leaf : ℕ) (b : List ℕ) (p : ℕ) → AnswerOk (leaf_of type_leaves leaf b p)
unfolding leaf_of read_leaf
leaf-ok leaf b p = go (eqb leaf 0x1002) refl where
  go : (c : Bool) → eqb leaf 0x1002 ≡ c → AnswerOk (and_then (by_layout (find leaf type_leaves) leaf b p) (λ vs e. answered vs))
  go true e = rw (eqb-true leaf 0x1002 e, table-has) (pointer_ok b p)
  go false e = other-ok leaf (and_then (by_layout (find leaf type_leaves) leaf b p) (λ vs e. answered vs)) e (layout-first (find leaf type_leaves) leaf b p)

record-ok : (b : List ℕ) → AnswerOk (record_of type_leaves b)
unfolding record_of
record-ok b = go (fixed_at 2 b 0) where
  go : (r : Read ℕ) → AnswerOk (and_then r (λ leaf p. leaf_of type_leaves leaf b p))
  go (answered g) = leaf-ok g.value b g.next
  go (refused n d) = tt

-- ---- lookups

abbrev SeenOk : Seen → Type 0
SeenOk (numbered p) = Unit
SeenOk (held p n vs) = ModeOk vs
SeenOk (nothing e) = Unit

seen_pick : (b : Bool) (x y : Seen) → SeenOk x → SeenOk y → SeenOk (pick b x y)
seen_pick true x y p q = p
seen_pick false x y p q = q

as-record-ok : (p n : ℕ) (a : Answer (List Shown)) → AnswerOk a → SeenOk (as_record p n a)
as-record-ok p n (answered vs) h = h
as-record-ok p n (refused k d) h = tt

by-leaf-ok : (leaves : List ℕ) (p n : ℕ) (b : List ℕ) (r : Read ℕ) → SeenOk (by_leaf leaves p n b r)
by-leaf-ok leaves p n b (answered g) =
    seen_pick (among g.value leaves) (as_record p n (record_of type_leaves b)) (nothing refusal.LeafNotPrinted)
    (as-record-ok p n (record_of type_leaves b) (record-ok b)) tt
by-leaf-ok leaves p n b (refused k d) = tt

entry-ok : (leaves s : List ℕ) (e : Entry) → SeenOk (entry_seen leaves s e)
unfolding bytes_seen
entry-ok leaves s (entry.Record m) =
    seen_pick (ltb (length s) (m.place + m.length)) (nothing refusal.Ended) _ tt
    (by-leaf-ok leaves m.place m.length (take m.length (drop m.place s)) (fixed_at 2 (take m.length (drop m.place s)) 0))
entry-ok leaves s (entry.Marker m) = tt

found_ok : (leaves s : List ℕ) (a : Answer Found) → SeenOk (found_seen leaves s a)
found_ok leaves s (answered f) = entry-ok leaves s f.entry
found_ok leaves s (refused n d) = tt

primitive-ok : (a : Answer PrimitiveType) → SeenOk (as_primitive a)
primitive-ok (answered p) = tt
primitive-ok (refused n d) = tt

type-ok : (s : List ℕ) (σ : State) (i : ℕ) → SeenOk (type_seen s σ i)
unfolding type_seen record_seen
type-ok s σ i =
    seen_pick (ltb i 0x1000) (as_primitive (primitive_of i)) (found_seen declared_leaves s (find_of s σ (index.Types (record { 0 = i })))) (primitive-ok (primitive_of i))
    (found_ok declared_leaves s (find_of s σ (index.Types (record { 0 = i }))))

-- ---- nodes

abbrev NodeOk : Node → Type 0
NodeOk (node.Primitive k y) = Unit
NodeOk (node.Named p n) = Unit
NodeOk (node.Pointer i m q) = m ≤ 4
NodeOk (node.Modifier i q) = Unit
NodeOk (node.Array i e) = Unit
NodeOk (node.Procedure i j) = Unit
NodeOk (node.Refused e) = Unit

node-pick : (b : Bool) (x y : Node) → (b ≡ true → NodeOk x) → NodeOk y → NodeOk (pick b x y)
node-pick true x y p q = p refl
node-pick false x y p q = q

name-ok : (p n : ℕ) (v : Shown) → NodeOk (name_in p n v)
name-ok p n (many x) = node-pick (leb (x.place + x.length) n) (node.Named (p + x.place) x.length) (node.Refused refusal.Ended) (λ e. tt) tt
name-ok p n (number k) = tt
name-ok p n (numeral z f) = tt
name-ok p n absent = tt

node_ok : (s : List ℕ) (σ : State) (v : Seen) → SeenOk v → NodeOk (node_by s σ v)
unfolding node_in
node_ok s σ (numbered p) h = tt
node_ok s σ (held p n vs) h =
    node-pick (eqb (leaf_in vs) 0x1001) _ _ (λ e. tt)
    (node-pick (eqb (leaf_in vs) 0x1002) _ _ (λ e. h (eqb-true (leaf_in vs) 0x1002 e))
    (node-pick (eqb (leaf_in vs) 0x1008) _ _ (λ e. tt)
    (node-pick (eqb (leaf_in vs) 0x1503) _ _ (λ e. tt)
    (node-pick (eqb (leaf_in vs) 0x1506) _ _ (λ e. name-ok p n (nth 5 vs))
    (node-pick (eqb (leaf_in vs) 0x1507) _ _ (λ e. name-ok p n (nth 5 vs))
    (node-pick (eqb (leaf_in vs) 0x1609) _ _ (λ e. name-ok p n (nth 8 vs))
    (node-pick (among (leaf_in vs) classes) _ _ (λ e. name-ok p n (nth 7 vs)) tt)))))))
node_ok s σ (nothing e) h = tt

node-is-ok : (s : List ℕ) (σ : State) (i : ℕ) → NodeOk (node_of s σ i)
unfolding node_of
node-is-ok s σ i = node_ok s σ (type_seen s σ i) (type-ok s σ i)

pub five-modes : (s : List ℕ) (σ : State) (i : ℕ) (j : TypeIndex) (m : ℕ) (q : Quals) → node_of s σ i ≡ node.Pointer j m q → m ≤ 4
five-modes s σ i j m q h = rw h at (node-is-ok s σ i)
