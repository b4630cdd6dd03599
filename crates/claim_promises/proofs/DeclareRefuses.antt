-- The numbers that a declaration is refused by, and when 16, 19, 23 and 24 are given. Assumes nothing.
use Rattle.std.specs.Prelude.{Result, Ok, Err, Option, None, Some}
use Prim.Native.Nat.{ℕ, zero, suc, ◌+◌, ◌*◌, ◌≤◌, ◌<◌}
use native.Mathlib.Omega.{arith}
use mathlib.Core.Bool.{Bool, true, false, false≢true}
use mathlib.Core.Logic.{◌⊎◌, inl, inr}
use mathlib.Core.Path.{◌≡◌, refl, ap, sym, subst, ◌∙◌}
use mathlib.Core.List.{List, [], ◌∷◌, ◌++◌}
use lib.ListN.{length, take, drop}
use lib.Dec.{ltb, leb, eqb}
use borrow.Author.Tests.{lt-ltb, le-ltb, le-leb, ltb-true, ltb-false, leb-true, eqb-true}
use Rattle.answer.specs.Answer.{Answer, answered, refused, Read, Got, got, pick, stop, both}
use Rattle.answer.specs.Tables.{Line, ◌is◌, find, among}
use Rattle.answer.specs.Refusals.{number_of, details_of, no, Named, plain, one, two, refusals, with_details, in_table, listed, itself, said}
use Rattle.answer.proofs.OneOutcome.{in-table}
use Rattle.answer.specs.declared.Refusal.{Refusal}
use Rattle.answer.specs.declared.Refusal.TheVariants as refusal
use Rattle.field.specs.Fields.{little_at, fixed_at}
use Rattle.field.specs.declared.index.TypeIndex.{TypeIndex}
use Rattle.word_primitive.specs.Primitive.{primitive_of}
use Rattle.word_primitive.specs.declared.PrimitiveType.{PrimitiveType}
use Rattle.record_layout.specs.Fields.{Shown, number, numeral, absent, many}
use Rattle.record_layout.specs.Values.{nth}
use Rattle.record_layout.specs.Layouts.{type_leaves, read_leaf, leaf_of, record_of}
use Rattle.stream_header.specs.Header.{longest}
use Rattle.field.specs.declared.index.ItemIndex.TheVariants as index
use Rattle.stream_item.specs.declared.Entry.{Entry}
use Rattle.stream_item.specs.declared.Entry.TheVariants as entry
use Rattle.stream_finder.specs.Finder.{State, Found, find_of}
use Rattle.declare_type.specs.Looked.{Seen, numbered, held, nothing, or_ended, declared_leaves, list_leaves, as_primitive, as_record, by_leaf, bytes_seen, entry_seen, found_seen, record_seen, type_seen, list_seen}
use Rattle.declare_type.specs.Nodes.{leaf_in, num, index_at, classes, name_in, node_in, node_by, node_of, list_in, list_by, list_of}
use Rattle.declare_type.specs.Inside.{ListInside}
use Rattle.declare_type.proofs.NodeLaws.{list_inside}
use Rattle.declare_type.specs.declared.node.Node.{Node}
use Rattle.declare_type.specs.declared.node.Node.TheVariants as node
use Rattle.declare_type.specs.Tokens.{text_of}
use Rattle.declare_type.specs.declared.token.Token.TheVariants as token
use Rattle.declare_type.specs.Steps.{step_by, inward_step, around_first}
use Rattle.declare_type.specs.declared.step.Around.{Around}
use Rattle.declare_type.specs.declared.step.Step.{Step}
use Rattle.declare_type.specs.declared.step.Step.TheVariants as step
use Rattle.declare_type.specs.Walk.{Spelled, printed, stopped, onto, fixed_then, rest_of, arguments_of, over_arguments as listed_arguments, stepped, walk, capped, declaration_of}
use Rattle.declare_type.specs.Declares.{text_in, declare_of, text_length, text_buffer_after, Declares}
use Rattle.claim_promises.specs.ByTable.{Links, fits, links_fit, By, refuses}
use Rattle.claim_promises.specs.Given.{by, Given}
use Rattle.claim_promises.specs.DeclareWhen.{fixed_by, unlimited, TypeVisits, Fault, too_deep, its_own, its_lists, Meets, StopsBy, TooDeep, EntryOther, FoundOther, OtherLeaf, NotPrinted, other_leaf, no_list, other_list, OtherMet, HasRoom, DeclareWhen, Declined, long, full, met}
use Rattle.claim_promises.proofs.ByTable.{within, among-within, both_first, both-second, wider}
use Rattle.claim_promises.proofs.DeclareModes.{LeafFirst, layout-first, five-modes}
use Rattle.claim_promises.proofs.DeclarePaths.{printing, stopping, printed-has, stopped-meets}
use Rattle.claim_promises.proofs.StreamRefuses.{primitive-refuses, find-refuses, type-refuses}

-- ---- a line of the table has its own number

abbrev Right : ℕ → Named → Type 0
Right m (plain e) = number_of e ≡ m
Right m (one f) = (a : ℕ) → number_of (f a) ≡ m
Right m (two f) = (a b : ℕ) → number_of (f a b) ≡ m

abbrev AllRight : List (Line Named) → Type 0
AllRight [] = Unit
AllRight ((m is w) ∷ ls) = Right m w × AllRight ls

same : (x e : Refusal) → Some x ≡ Some e → x ≡ e
same x e h = cc

never : {A : Type 0} (e : Refusal) → None ≡ Some e → A
never e h = absurd (let z : ◌≡◌ {A = ℕ} 0 1 = cc in omega arith)

filled-right : (m : ℕ) (w : Named) (d : List ℕ) (e : Refusal) → Right m w → with_details w d ≡ Some e → number_of e ≡ m
filled-right m (plain x) [] e r h = rw (sym (same x e h)) r
filled-right m (plain x) (a ∷ d) e r h = never e h
filled-right m (one f) [] e r h = never e h
filled-right m (one f) (a ∷ []) e r h = rw (sym (same (f a) e h)) (r a)
filled-right m (one f) (a ∷ b ∷ d) e r h = never e h
filled-right m (two f) [] e r h = never e h
filled-right m (two f) (a ∷ []) e r h = never e h
filled-right m (two f) (a ∷ b ∷ []) e r h = rw (sym (same (f a b) e h)) (r a b)
filled-right m (two f) (a ∷ b ∷ c ∷ d) e r h = never e h

pub named-right : (ls : List (Line Named)) → AllRight ls → (n : ℕ) (d : List ℕ) (e : Refusal) → in_table ls n d ≡ Some e → number_of e ≡ n
unfolding in_table
named-right [] r n d e h = never e h
named-right ((m is w) ∷ ls) r n d e h = go (eqb n m) refl (with_details w d) refl (λ k. named-right ls r.1 n d e k) where
  go : (b : Bool) → eqb n m ≡ b → (o : Option Refusal) → with_details w d ≡ o → (in_table ls n d ≡ Some e → number_of e ≡ n) → number_of e ≡ n
  go true f (Some x) g later =
      let k : Some x ≡ Some e = rw (f, g) at h in
      rw (sym (same x e k)) (filled-right m w d x r.0 g ∙ sym (eqb-true n m f))
  go true f None g later = later (rw (f, g) at h)
  go false f o g later = later (rw f at h)

pub all_right : AllRight refusals
unfolding refusals
all_right =
    (refl, (λ a. refl, (refl, (refl, (refl, (refl, (refl, (refl, (λ a. refl, (λ a b. refl, (λ a. refl, (refl, (refl, (refl, (refl, (refl, (refl, (refl, (refl, (refl, (refl, (refl, (refl, (refl, (refl, (refl, (refl, (refl, (refl, (refl, (refl, tt)))))))))))))))))))))))))))))))

-- ---- what a walk is refused by: the lookup's numbers, the readers', 23 and 24

abbrev of_lookups : List ℕ
of_lookups = 16 ∷ 26 ∷ 13 ∷ 8 ∷ 9 ∷ 1 ∷ 10 ∷ 11 ∷ 12 ∷ []

abbrev pub of_walks : List ℕ
of_walks = 16 ∷ 26 ∷ 13 ∷ 8 ∷ 9 ∷ 1 ∷ 10 ∷ 11 ∷ 12 ∷ 23 ∷ 24 ∷ []

record Low (e : Refusal) : Type 0 where
  pub low : among (number_of e) of_lookups ≡ true

record Good (e : Refusal) : Type 0 where
  pub good : among (number_of e) of_walks ≡ true

low-named : (n : ℕ) (d : List ℕ) → listed n d ≡ true → among n of_lookups ≡ true → Low (or_ended (in_table refusals n d))
unfolding listed
low-named n d l a = go (in_table refusals n d) refl where
  go : (o : Option Refusal) → in_table refusals n d ≡ o → Low (or_ended (in_table refusals n d))
  go None f = absurd (false≢true (rw f at l))
  go (Some e) f = rw f (record { low = rw (named-right refusals all_right n d e f) a })

low_by : (l : Links) (n : ℕ) (d : List ℕ) → fits l of_lookups n d ≡ true → Low (or_ended (in_table refusals n d))
unfolding fits
low_by l n d p =
    low-named n d (both_first (listed n d) (links_fit l n d) (both-second (among n of_lookups) (both (listed n d) (links_fit l n d)) p))
    (both_first (among n of_lookups) (both (listed n d) (links_fit l n d)) p)

low-ended : Low refusal.Ended
unfolding among
low-ended = record { low = refl }

-- one of those numbers, or 24 where it is due
abbrev Reason : Type 0 → Refusal → Type 0
Reason O e = Low e ⊎ ((e ≡ refusal.LeafNotPrinted) × O)

reason-good : (O : Type 0) (e : Refusal) → Reason O e → Good e
unfolding among within
reason-good O e (inl l) = record { good = among-within (number_of e) of_lookups of_walks refl l.low }
reason-good O e (inr h) = rw h.0 (record { good = refl })

-- 24 is no other than where it is due
due : (O : Type 0) (e : Refusal) → Reason O e → number_of e ≡ 24 → O
unfolding among
due O e (inl l) h = absurd (false≢true (rw h at l.low))
due O e (inr x) h = x.1

not-23 : (O : Type 0) (e : Refusal) → Reason O e → number_of e ≡ 23 → ⊥
unfolding among
not-23 O e (inl l) h = false≢true (rw h at l.low)
not-23 O e (inr x) h = let z : ◌≡◌ {A = ℕ} 24 23 = ap number_of (sym x.0) ∙ h in absurd (omega arith)

-- ---- lookups: what is held has one of the leaves

abbrev SeenRight : Type 0 → List ℕ → Seen → Type 0
SeenRight O leaves (numbered p) = Unit
SeenRight O leaves (held p n vs) = among (leaf_in vs) leaves ≡ true
SeenRight O leaves (nothing e) = Reason O e

primitive-seen : {l : Links} (O : Type 0) (leaves : List ℕ) (a : Answer PrimitiveType) → By l of_lookups a → SeenRight O leaves (as_primitive a)
primitive-seen O leaves (answered p) h = tt
primitive-seen {l = l} O leaves (refused n d) (refuses p) = inl (low_by l n d p)

record-first : (b : List ℕ) (g : Got ℕ) → fixed_at 2 b 0 ≡ answered g → LeafFirst g.value (record_of type_leaves b)
unfolding record_of leaf_of read_leaf
record-first b g h = rw h (layout-first (find g.value type_leaves) g.value b g.next)

record-seen : {l : Links} (O : Type 0) (leaves : List ℕ) (leaf p n : ℕ) (a : Answer (List Shown))
    → among leaf leaves ≡ true → LeafFirst leaf a → By l of_lookups a → SeenRight O leaves (as_record p n a)
record-seen O leaves leaf p n (answered vs) m f h = rw f m
record-seen {l = l} O leaves leaf p n (refused k d) m f (refuses q) = inl (low_by l k d q)

-- a payload's leaf is there, and is none of these
abbrev LeafElse : List ℕ → List ℕ → Type 0
LeafElse leaves b = (2 ≤ length b) × (among (little_at 2 b 0) leaves ≡ false)

leaf-seen : (leaves : List ℕ) (p n : ℕ) (b : List ℕ) → SeenRight (LeafElse leaves b) leaves (by_leaf leaves p n b (fixed_at 2 b 0))
unfolding fixed_at among within
leaf-seen leaves p n b = go (leb 2 (length b)) refl where
  more : (c : Bool) → among (little_at 2 b 0) leaves ≡ c → 2 ≤ length b → fixed_at 2 b 0 ≡ got (little_at 2 b 0) 2
      → SeenRight (LeafElse leaves b) leaves (pick c (as_record p n (record_of type_leaves b)) (nothing refusal.LeafNotPrinted))
  more true e k f =
      record-seen (LeafElse leaves b) leaves (little_at 2 b 0) p n (record_of type_leaves b) e (record-first b _ f) (wider refl (type-refuses b))
  more false e k f = inr (refl, (k, e))

  go : (c : Bool) → leb 2 (length b) ≡ c → SeenRight (LeafElse leaves b) leaves (by_leaf leaves p n b (fixed_at 2 b 0))
  go true e = rw e (more (among (little_at 2 b 0) leaves) refl (leb-true 2 (length b) e) (rw e))
  go false e = rw e (inl low-ended)

seen_as : (O P : Type 0) (leaves : List ℕ) (v : Seen) → (O → P) → SeenRight O leaves v → SeenRight P leaves v
seen_as O P leaves (numbered p) f h = tt
seen_as O P leaves (held p n vs) f h = h
seen_as O P leaves (nothing e) f (inl h) = inl h
seen_as O P leaves (nothing e) f (inr h) = inr (h.0, f h.1)

bytes-seen : (leaves s : List ℕ) (p n : ℕ) (b : List ℕ) (c : Bool) → ltb (length s) (p + n) ≡ c
    → SeenRight ((p + n ≤ length s) × (2 ≤ length b) × (among (little_at 2 b 0) leaves ≡ false)) leaves (pick c (nothing refusal.Ended) (by_leaf leaves p n b (fixed_at 2 b 0)))
bytes-seen leaves s p n b true e = inl low-ended
bytes-seen leaves s p n b false e =
    seen_as (LeafElse leaves b) ((p + n ≤ length s) × (2 ≤ length b) × (among (little_at 2 b 0) leaves ≡ false)) leaves (by_leaf leaves p n b (fixed_at 2 b 0))
    (λ x. (ltb-false (length s) (p + n) e, x.0, x.1)) (leaf-seen leaves p n b)

entry_seen_lem : (leaves s : List ℕ) (e : Entry) → SeenRight (EntryOther leaves s e) leaves (entry_seen leaves s e)
unfolding bytes_seen
entry_seen_lem leaves s (entry.Record m) =
    bytes-seen leaves s m.place m.length (take m.length (drop m.place s)) (ltb (length s) (m.place + m.length)) refl
entry_seen_lem leaves s (entry.Marker m) = inr (refl, tt)

found-seen : {l : Links} (leaves s : List ℕ) (a : Answer Found) → By l of_lookups a → SeenRight (FoundOther leaves s a) leaves (found_seen leaves s a)
found-seen leaves s (answered f) h = entry_seen_lem leaves s f.entry
found-seen {l = l} leaves s (refused n d) (refuses p) = inl (low_by l n d p)

record-of-seen : (leaves s : List ℕ) (σ : State) (i : ℕ) → SeenRight (OtherLeaf leaves s σ i) leaves (record_seen leaves s σ i)
unfolding record_seen among within
record-of-seen leaves s σ i =
    found-seen leaves s (find_of s σ (index.Types (record { 0 = i }))) (wider refl (find-refuses s σ (index.Types (record { 0 = i }))))

type-seen : (s : List ℕ) (σ : State) (i : ℕ) → SeenRight ((0x1000 ≤ i) × OtherLeaf declared_leaves s σ i) declared_leaves (type_seen s σ i)
unfolding type_seen among within
type-seen s σ i = go (ltb i 0x1000) refl where
  go : (c : Bool) → ltb i 0x1000 ≡ c
      → SeenRight ((0x1000 ≤ i) × OtherLeaf declared_leaves s σ i) declared_leaves (pick c (as_primitive (primitive_of i)) (record_seen declared_leaves s σ i))
  go true e = primitive-seen _ declared_leaves (primitive_of i) (wider refl (primitive-refuses i))
  go false e =
      seen_as (OtherLeaf declared_leaves s σ i) _ declared_leaves (record_seen declared_leaves s σ i) (λ x. (ltb-false i 0x1000 e, x)) (record-of-seen declared_leaves s σ i)

abbrev ListOther : List ℕ → State → ℕ → Type 0
ListOther s σ i = (i < 0x1000) ⊎ ((0x1000 ≤ i) × OtherLeaf list_leaves s σ i)

list-seen : (s : List ℕ) (σ : State) (i : ℕ) → SeenRight (ListOther s σ i) list_leaves (list_seen s σ i)
unfolding list_seen
list-seen s σ i = go (ltb i 0x1000) refl where
  go : (c : Bool) → ltb i 0x1000 ≡ c → SeenRight (ListOther s σ i) list_leaves (pick c (nothing refusal.LeafNotPrinted) (record_seen list_leaves s σ i))
  go true e = inr (refl, inl (ltb-true i 0x1000 e))
  go false e =
      seen_as (OtherLeaf list_leaves s σ i) (ListOther s σ i) list_leaves (record_seen list_leaves s σ i) (λ x. inr (ltb-false i 0x1000 e, x)) (record-of-seen list_leaves s σ i)

-- ---- nodes and lists

abbrev NodeRight : Type 0 → Node → Type 0
NodeRight O (node.Primitive k y) = Unit
NodeRight O (node.Named p n) = Unit
NodeRight O (node.Pointer i m q) = Unit
NodeRight O (node.Modifier i q) = Unit
NodeRight O (node.Array i e) = Unit
NodeRight O (node.Procedure i j) = Unit
NodeRight O (node.Refused e) = Reason O e

node-pick : (O : Type 0) (b : Bool) (x y : Node) → NodeRight O x → (b ≡ false → NodeRight O y) → NodeRight O (pick b x y)
node-pick O true x y p q = p
node-pick O false x y p q = q refl

name-right : (O : Type 0) (p n : ℕ) (v : Shown) → NodeRight O (name_in p n v)
name-right O p n (many x) = node-pick O (leb (x.place + x.length) n) (node.Named (p + x.place) x.length) (node.Refused refusal.Ended) tt (λ e. inl low-ended)
name-right O p n (number k) = inl low-ended
name-right O p n (numeral z f) = inl low-ended
name-right O p n absent = inl low-ended

-- a leaf among those that have a declaration is one of those that have a node
no_other : (v : ℕ) → among v declared_leaves ≡ true → eqb v 0x1001 ≡ false → eqb v 0x1002 ≡ false → eqb v 0x1008 ≡ false → eqb v 0x1503 ≡ false → eqb v 0x1506 ≡ false
    → eqb v 0x1507 ≡ false → eqb v 0x1609 ≡ false → among v classes ≡ false → ⊥
unfolding among declared_leaves classes
no_other v h a b c d e f g k = go (eqb v 0x1504) refl (eqb v 0x1505) refl (eqb v 0x1519) refl where
  go : (x : Bool) → eqb v 0x1504 ≡ x → (y : Bool) → eqb v 0x1505 ≡ y → (z : Bool) → eqb v 0x1519 ≡ z → ⊥
  go true i y j z l = false≢true (sym (rw i at k))
  go false i true j z l = false≢true (sym (rw (i, j) at k))
  go false i false j true l = false≢true (sym (rw (i, j, l) at k))
  go false i false j false l = false≢true (rw (a, b, c, d, i, j, l, e, f, g) at h)

node-right : (O : Type 0) (s : List ℕ) (σ : State) (v : Seen) → SeenRight O declared_leaves v → NodeRight O (node_by s σ v)
unfolding node_in
node-right O s σ (numbered p) h = tt
node-right O s σ (held p n vs) h =
    node-pick O (eqb (leaf_in vs) 0x1001) _ _ tt
    (λ a. node-pick O (eqb (leaf_in vs) 0x1002) _ _ tt
    (λ b. node-pick O (eqb (leaf_in vs) 0x1008) _ _ tt
    (λ c. node-pick O (eqb (leaf_in vs) 0x1503) _ _ tt
    (λ d. node-pick O (eqb (leaf_in vs) 0x1506) _ _ (name-right O p n (nth 5 vs))
    (λ e. node-pick O (eqb (leaf_in vs) 0x1507) _ _ (name-right O p n (nth 5 vs))
    (λ f. node-pick O (eqb (leaf_in vs) 0x1609) _ _ (name-right O p n (nth 8 vs))
    (λ g. node-pick O (among (leaf_in vs) classes) _ _ (name-right O p n (nth 7 vs)) (λ k. absurd (no_other (leaf_in vs) h a b c d e f g k)))))))))
node-right O s σ (nothing e) h = h

abbrev ListRight : Type 0 → Result (ℕ × ℕ) Refusal → Type 0
ListRight O (Ok (p, n)) = Unit
ListRight O (Err e) = Reason O e

list-pick : (O : Type 0) (b : Bool) (x y : Result (ℕ × ℕ) Refusal) → ListRight O x → (b ≡ false → ListRight O y) → ListRight O (pick b x y)
list-pick O true x y p q = p
list-pick O false x y p q = q refl

list-in-right : (O : Type 0) (p n k : ℕ) (v : Shown) → ListRight O (list_in p n k v)
list-in-right O p n k (many x) = list-pick O (leb (x.place + 4 * k) n) (Ok (p + x.place, k)) (Err refusal.Ended) tt (λ e. inl low-ended)
list-in-right O p n k (number j) = inl low-ended
list-in-right O p n k (numeral z f) = inl low-ended
list-in-right O p n k absent = inl low-ended

-- no list is a primitive, and its bytes are there
abbrev Kept : List ℕ → Seen → Type 0
Kept s (numbered p) = ⊥
Kept s (held p n vs) = p + n ≤ length s
Kept s (nothing e) = Unit

kept-pick : (s : List ℕ) (b : Bool) (x y : Seen) → Kept s x → Kept s y → Kept s (pick b x y)
kept-pick s true x y p q = p
kept-pick s false x y p q = q

kept_record : (s : List ℕ) (p n : ℕ) (a : Answer (List Shown)) → p + n ≤ length s → Kept s (as_record p n a)
kept_record s p n (answered vs) h = h
kept_record s p n (refused k d) h = tt

kept-leaf : (leaves s : List ℕ) (p n : ℕ) (b : List ℕ) (r : Read ℕ) → p + n ≤ length s → Kept s (by_leaf leaves p n b r)
kept-leaf leaves s p n b (answered g) h = kept-pick s (among g.value leaves) _ _ (kept_record s p n (record_of type_leaves b) h) tt
kept-leaf leaves s p n b (refused k d) h = tt

kept-bytes : (leaves s : List ℕ) (p n : ℕ) (b : List ℕ) (c : Bool) → ltb (length s) (p + n) ≡ c
    → Kept s (pick c (nothing refusal.Ended) (by_leaf leaves p n b (fixed_at 2 b 0)))
kept-bytes leaves s p n b true e = tt
kept-bytes leaves s p n b false e = kept-leaf leaves s p n b (fixed_at 2 b 0) (ltb-false (length s) (p + n) e)

kept_entry : (leaves s : List ℕ) (e : Entry) → Kept s (entry_seen leaves s e)
unfolding bytes_seen
kept_entry leaves s (entry.Record m) =
    kept-bytes leaves s m.place m.length (take m.length (drop m.place s)) (ltb (length s) (m.place + m.length)) refl
kept_entry leaves s (entry.Marker m) = tt

kept-found : (leaves s : List ℕ) (a : Answer Found) → Kept s (found_seen leaves s a)
kept-found leaves s (answered f) = kept_entry leaves s f.entry
kept-found leaves s (refused n d) = tt

kept-list : (s : List ℕ) (σ : State) (i : ℕ) → Kept s (list_seen s σ i)
unfolding list_seen record_seen
kept-list s σ i = kept-pick s (ltb i 0x1000) (nothing refusal.LeafNotPrinted) _ tt (kept-found list_leaves s (find_of s σ (index.Types (record { 0 = i }))))

list-kept : (s : List ℕ) (v : Seen) → Kept s v → ListInside s (list_by v)
list-kept s (numbered p) k = absurd k
list-kept s (held p n vs) k = list_inside s p n vs (list_by (held p n vs)) refl k
list-kept s (nothing e) k = tt

list-there : (s : List ℕ) (σ : State) (i : ℕ) → ListInside s (list_of s σ i)
unfolding list_of
list-there s σ i = list-kept s (list_seen s σ i) (kept-list s σ i)

there-is : (s : List ℕ) (σ : State) (i p n : ℕ) → list_of s σ i ≡ Ok (p, n) → p + 4 * n ≤ length s
there-is s σ i p n h = rw h at (list-there s σ i)

list_right : (O : Type 0) (s : List ℕ) (v : Seen) → Kept s v → SeenRight O list_leaves v → ListRight O (list_by v)
unfolding among list_leaves
list_right O s (numbered p) k h = absurd k
list_right O s (held p n vs) k h =
    list-pick O (eqb (leaf_in vs) 0x1201) _ _ (list-in-right O p n (num vs 1) (nth 2 vs)) (λ e. absurd (false≢true (rw e at h)))
list_right O s (nothing e) k h = h

node-is : (s : List ℕ) (σ : State) (i : ℕ) → NodeRight ((0x1000 ≤ i) × OtherLeaf declared_leaves s σ i) (node_of s σ i)
unfolding node_of
node-is s σ i = node-right _ s σ (type_seen s σ i) (type-seen s σ i)

list-is : (s : List ℕ) (σ : State) (i : ℕ) → ListRight (ListOther s σ i) (list_of s σ i)
unfolding list_of
list-is s σ i = list_right _ s (list_seen s σ i) (kept-list s σ i) (list-seen s σ i)

-- ---- walks

abbrev GoodWalk : Spelled → Type 0
GoodWalk (printed l r) = Unit
GoodWalk (stopped k e) = Good e

onto-good : (l r : List ℕ) (w : Spelled) → GoodWalk w → GoodWalk (onto l r w)
unfolding onto
onto-good l r (printed a b) h = tt
onto-good l r (stopped k e) h = h

joined-good : (v w : Spelled) → GoodWalk v → GoodWalk w → GoodWalk (fixed_then v w)
unfolding fixed_then
joined-good (printed l r) w h k = onto-good [] (l ++ r) w k
joined-good (stopped j e) w h k = h

rest-good : (f : ℕ → Spelled) (s : List ℕ) (p n : ℕ) → ((j : ℕ) → GoodWalk (f j)) → GoodWalk (rest_of f s p n)
unfolding rest_of
rest-good f s p zero g = tt
rest-good f s p (suc n) g =
    onto-good [] (text_of s token.Comma) (fixed_then (f (index_at s p).0) (rest_of f s (p + 4) n)) (joined-good (f (index_at s p).0) (rest_of f s (p + 4) n) (g _) (rest-good f s (p + 4) n g))

arguments-good : (f : ℕ → Spelled) (s : List ℕ) (O : Type 0) (l : Result (ℕ × ℕ) Refusal) → ListRight O l → ((j : ℕ) → GoodWalk (f j)) → GoodWalk (listed_arguments f s l)
unfolding listed_arguments arguments_of
arguments-good f s O (Ok (p, zero)) h g = tt
arguments-good f s O (Ok (p, suc n)) h g = joined-good (f (index_at s p).0) (rest_of f s (p + 4) n) (g _) (rest-good f s (p + 4) n g)
arguments-good f s O (Err e) h g = reason-good O e h

abbrev GoodStep : Step → Type 0
GoodStep (step.Last p) = Unit
GoodStep (step.Inward l r i a) = Unit
GoodStep (step.Call l r z g i a) = Unit
GoodStep (step.Refused e) = Good e

step-good : (O : Type 0) (n : Node) (a : Around) → NodeRight O n → GoodStep (step_by n a)
step-good O (node.Primitive k y) a h = tt
step-good O (node.Named p n) a h = tt
step-good O (node.Pointer i m q) a h = tt
step-good O (node.Modifier i q) a h = tt
step-good O (node.Array i e) a h = tt
step-good O (node.Procedure i j) a h = tt
step-good O (node.Refused e) a h = reason-good O e h

stepped-good : (go : ℕ → Around → Spelled) (s : List ℕ) (σ : State) (o : Step) → GoodStep o → ((j : ℕ) (b : Around) → GoodWalk (go j b)) → GoodWalk (stepped go s σ o)
unfolding stepped
stepped-good go s σ (step.Last p) h g = tt
stepped-good go s σ (step.Inward l r i a) h g = onto-good (text_of s l) (text_of s r) (go i.0 a) (g _ _)
stepped-good go s σ (step.Call l r z k i a) h g =
    onto-good (text_of s l) (text_of s r) (fixed_then (listed_arguments (λ j. go j around_first) s (list_of s σ k.0)) (onto [] (text_of s z) (go i.0 a)))
    (joined-good (listed_arguments (λ j. go j around_first) s (list_of s σ k.0)) (onto [] (text_of s z) (go i.0 a))
    (arguments-good (λ j. go j around_first) s _ (list_of s σ k.0) (list-is s σ k.0) (λ j. g j around_first))
    (onto-good [] (text_of s z) (go i.0 a) (g _ _)))
stepped-good go s σ (step.Refused e) h g = h

walk-good : (s : List ℕ) (σ : State) (d i : ℕ) (a : Around) → GoodWalk (walk s σ d i a)
unfolding walk among inward_step
walk-good s σ zero i a = record { good = refl }
walk-good s σ (suc d) i a =
    stepped-good (λ j b. walk s σ d j b) s σ (inward_step s σ i a) (step-good _ (node_of s σ i) a (node-is s σ i)) (λ j b. walk-good s σ d j b)

-- ---- declarations

module _ (s : List ℕ) (σ : State) (i room : ℕ) where
  long-is : longest < length s → declare_of s σ i room ≡ refused 16 []
  unfolding declare_of
  long-is h = rw (lt-ltb longest (length s) h)

  short-is : length s ≤ longest → declare_of s σ i room ≡ text_in room (declaration_of s σ i)
  unfolding declare_of
  short-is h = rw (le-ltb longest (length s) h)

over-is : (room : ℕ) (w : Spelled) → room < fixed_by w → text_in room w ≡ refused 19 []
unfolding text_in
over-is room (printed l r) h = rw (lt-ltb room (length (l ++ r)) h)
over-is room (stopped k e) h = rw (lt-ltb room k h)

within-is : (room : ℕ) (w : Spelled) → fixed_by w ≤ room → text_in room w ≡ unlimited w
unfolding text_in
within-is room (printed l r) h = rw (le-ltb room (length (l ++ r)) h)
within-is room (stopped k e) h = rw (le-ltb room k h)

only-19 : (room : ℕ) (w : Spelled) → GoodWalk w → text_in room w ≡ refused 19 [] → room < fixed_by w
unfolding text_in among
only-19 room (printed l r) g h = go (ltb room (length (l ++ r))) refl h where
  go : (b : Bool) → ltb room (length (l ++ r)) ≡ b → stop b 19 (answered (l ++ r)) ≡ refused 19 [] → room < length (l ++ r)
  go true e k = ltb-true room (length (l ++ r)) e
  go false e k = absurd (let z : ◌≡◌ {A = ℕ} 0 1 = cc in omega arith)
only-19 room (stopped f q) g h = go (ltb room f) refl h where
  go : (b : Bool) → ltb room f ≡ b → stop {A = List ℕ} b 19 (no q) ≡ refused 19 [] → room < f
  go true e k = ltb-true room f e
  go false e k =
      let n : number_of q ≡ 19 = cc in
      absurd (false≢true (rw n at g.good))

only-19-is : (s : List ℕ) (σ : State) (i room : ℕ) → declare_of s σ i room ≡ refused 19 [] → room < fixed_by (declaration_of s σ i)
unfolding declare_of
only-19-is s σ i room h = go (ltb longest (length s)) h where
  go : (b : Bool) → stop b 16 (text_in room (declaration_of s σ i)) ≡ refused 19 [] → room < fixed_by (declaration_of s σ i)
  go true k = absurd (let z : ◌≡◌ {A = ℕ} 16 19 = cc in omega arith)
  go false k = only-19 room (declaration_of s σ i) (walk-good s σ 32 i around_first) k

-- ---- 23 and 24

entry_other : (leaves s : List ℕ) (e : Entry) → EntryOther leaves s e → entry_seen leaves s e ≡ nothing refusal.LeafNotPrinted
unfolding bytes_seen fixed_at
entry_other leaves s (entry.Record m) h =
    rw (le-ltb (length s) (m.place + m.length) h.0, le-leb 2 (length (take m.length (drop m.place s))) h.1, h.2)
entry_other leaves s (entry.Marker m) h = refl

found-other : (leaves s : List ℕ) (a : Answer Found) → FoundOther leaves s a → found_seen leaves s a ≡ nothing refusal.LeafNotPrinted
found-other leaves s (answered f) h = entry_other leaves s f.entry h
found-other leaves s (refused n d) h = absurd h

other-node : (s : List ℕ) (σ : State) (i : ℕ) → 0x1000 ≤ i → OtherLeaf declared_leaves s σ i → node_of s σ i ≡ node.Refused refusal.LeafNotPrinted
unfolding node_of type_seen record_seen
other-node s σ i h o = rw (le-ltb i 0x1000 h, found-other declared_leaves s (find_of s σ (index.Types (record { 0 = i }))) o)

no-list-is : (s : List ℕ) (σ : State) (i : ℕ) → i < 0x1000 → list_of s σ i ≡ Err refusal.LeafNotPrinted
unfolding list_of list_seen
no-list-is s σ i h = rw (lt-ltb i 0x1000 h)

other-list-is : (s : List ℕ) (σ : State) (i : ℕ) → 0x1000 ≤ i → OtherLeaf list_leaves s σ i → list_of s σ i ≡ Err refusal.LeafNotPrinted
unfolding list_of list_seen record_seen
other-list-is s σ i h o = rw (le-ltb i 0x1000 h, found-other list_leaves s (find_of s σ (index.Types (record { 0 = i }))) o)

other-fault : (s : List ℕ) (σ : State) (d i : ℕ) → NotPrinted s σ i → Fault s σ (suc d) i refusal.LeafNotPrinted
other-fault s σ d i (other_leaf h o) = its_own (other-node s σ i h o)
other-fault s σ d i (no_list {l = l} h o) = its_lists h (no-list-is s σ l.0 o)
other-fault s σ d i (other_list {l = l} h k o) = its_lists h (other-list-is s σ l.0 k o)

other-of : (s : List ℕ) (σ : State) (i : ℕ) (j l : TypeIndex) → node_of s σ i ≡ node.Procedure j l → ListOther s σ l.0 → NotPrinted s σ i
other-of s σ i j l h (inl x) = no_list h x
other-of s σ i j l h (inr x) = other_list h x.0 x.1

met-24 : (s : List ℕ) (σ : State) (i left at : ℕ) (e : Refusal) → TypeVisits s σ 32 i left at → Fault s σ left at e → number_of e ≡ 24 → OtherMet s σ i
met-24 s σ i left at e v too_deep n = absurd (omega arith)
met-24 s σ i (suc d) at e v (its_own h) n =
    let x : (0x1000 ≤ at) × OtherLeaf declared_leaves s σ at = due _ e (rw h at (node-is s σ at)) n in
    record { left = d; at = at; path = v; other = other_leaf x.0 x.1 }
met-24 s σ i (suc d) at e v (its_lists {j = j} {l = l} h m) n =
    record { left = d; at = at; path = v; other = other-of s σ at j l h (due _ e (rw m at (list-is s σ l.0)) n) }

met-23 : (s : List ℕ) (σ : State) (i left at : ℕ) (e : Refusal) → TypeVisits s σ 32 i left at → Fault s σ left at e → number_of e ≡ 23 → TooDeep s σ i
met-23 s σ i left at e v too_deep n = record { at = at; path = v }
met-23 s σ i left at e v (its_own h) n = absurd (not-23 _ e (rw h at (node-is s σ at)) n)
met-23 s σ i left at e v (its_lists {l = l} h m) n = absurd (not-23 _ e (rw m at (list-is s σ l.0)) n)

stops-unlimited : (e : Refusal) (w : Spelled) → StopsBy e w → unlimited w ≡ no e
stops-unlimited e (printed l r) h = absurd h
stops-unlimited e (stopped k x) h = rw h

-- a walk that is refused by number n in a room
record StoppedBy (n room : ℕ) (w : Spelled) : Type 0 where
  pub refusal : Refusal
  pub stops : StopsBy refusal w
  pub number : number_of refusal ≡ n
  pub fits : fixed_by w ≤ room

text-only : (n room : ℕ) (w : Spelled) → eqb 19 n ≡ false → by n (text_in room w) ≡ true → StoppedBy n room w
unfolding text_in
text-only n room (printed l r) f h = go (ltb room (length (l ++ r))) h where
  go : (b : Bool) → by n (stop b 19 (answered (l ++ r))) ≡ true → StoppedBy n room (printed l r)
  go true k = absurd (false≢true (sym f ∙ k))
  go false k = absurd (false≢true k)
text-only n room (stopped j q) f h = go (ltb room j) refl h where
  go : (b : Bool) → ltb room j ≡ b → by n (stop {A = List ℕ} b 19 (no q)) ≡ true → StoppedBy n room (stopped j q)
  go true e k = absurd (false≢true (sym f ∙ k))
  go false e k = record { refusal = q; stops = refl; number = eqb-true (number_of q) n k; fits = ltb-false room j e }

declare-only : (s : List ℕ) (σ : State) (i room n : ℕ) → eqb 16 n ≡ false → eqb 19 n ≡ false → by n (declare_of s σ i room) ≡ true
    → (length s ≤ longest) × StoppedBy n room (declaration_of s σ i)
unfolding declare_of
declare-only s σ i room n a b h = go (ltb longest (length s)) refl h where
  go : (c : Bool) → ltb longest (length s) ≡ c → by n (stop c 16 (text_in room (declaration_of s σ i))) ≡ true
      → (length s ≤ longest) × StoppedBy n room (declaration_of s σ i)
  go true e k = absurd (false≢true (sym a ∙ k))
  go false e k = (ltb-false longest (length s) e, text-only n room (declaration_of s σ i) b k)

given_by : (s : List ℕ) (σ : State) (i room : ℕ) (e : Refusal) → HasRoom s σ i room → StopsBy e (declaration_of s σ i) → declare_of s σ i room ≡ no e
given_by s σ i room e h k = short-is s σ i room h.0 ∙ within-is room (declaration_of s σ i) h.1 ∙ stops-unlimited e (declaration_of s σ i) k

is-23 : (s : List ℕ) (σ : State) (i room : ℕ) → Given 23 [] (declare_of s σ i room) (HasRoom s σ i room × TooDeep s σ i)
is-23 s σ i room = record {
  when = λ h. given_by s σ i room refusal.TooDeep h.0 (stopping s σ refusal.TooDeep 32 i 0 h.1.at h.1.path too_deep around_first);
  only = λ h. go (declare-only s σ i room 23 refl refl h);
} where
  go : (length s ≤ longest) × StoppedBy 23 room (declaration_of s σ i) → HasRoom s σ i room × TooDeep s σ i
  go x =
      let m : Meets s σ 32 i x.1.refusal = stopped-meets s σ x.1.refusal 32 i around_first x.1.stops in
      ((x.0, x.1.fits), met-23 s σ i m.left m.at x.1.refusal m.path m.fault x.1.number)

is-24 : (s : List ℕ) (σ : State) (i room : ℕ) → Given 24 [] (declare_of s σ i room) (HasRoom s σ i room × OtherMet s σ i)
is-24 s σ i room = record {
  when = λ h. given_by s σ i room refusal.LeafNotPrinted h.0
      (stopping s σ refusal.LeafNotPrinted 32 i (suc h.1.left) h.1.at h.1.path (other-fault s σ h.1.left h.1.at h.1.other) around_first);
  only = λ h. go (declare-only s σ i room 24 refl refl h);
} where
  go : (length s ≤ longest) × StoppedBy 24 room (declaration_of s σ i) → HasRoom s σ i room × OtherMet s σ i
  go x =
      let m : Meets s σ 32 i x.1.refusal = stopped-meets s σ x.1.refusal 32 i around_first x.1.stops in
      ((x.0, x.1.fits), met-24 s σ i m.left m.at x.1.refusal m.path m.fault x.1.number)

-- ---- each refusal

declined : (s : List ℕ) (σ : State) (i room n : ℕ) (d : List ℕ) → Declined s σ i room n d → declare_of s σ i room ≡ refused n d
declined s σ i room n d (long h) = long-is s σ i room h
declined s σ i room n d (full h k) = short-is s σ i room h ∙ over-is room (declaration_of s σ i) k
declined s σ i room n d (met {e = e} h m) = given_by s σ i room e h (stopping s σ e 32 i m.left m.at m.path m.fault around_first)

declined-only : (s : List ℕ) (σ : State) (i room n : ℕ) (d : List ℕ) → declare_of s σ i room ≡ refused n d → Declined s σ i room n d
unfolding declare_of text_in
declined-only s σ i room n d h = first (ltb longest (length s)) refl h
  where
    over : length s ≤ longest → (w : Spelled) → declaration_of s σ i ≡ w → room < fixed_by w → ◌≡◌ {A = Answer (List ℕ)} (refused 19 []) (refused n d) → Declined s σ i room n d
    over l w q k x =
        let e : 19 ≡ n = cc in
        let f : [] ≡ d = cc in
        rw (sym e, sym f) (full l (rw q k))

    walked : length s ≤ longest → (w : Spelled) → declaration_of s σ i ≡ w → text_in room w ≡ refused n d → Declined s σ i room n d
    walked l (printed a b) q x = go (ltb room (length (a ++ b))) refl x where
      go : (c : Bool) → ltb room (length (a ++ b)) ≡ c → stop c 19 (answered (a ++ b)) ≡ refused n d → Declined s σ i room n d
      go true t y = over l (printed a b) q (ltb-true _ _ t) y
      go false t y = absurd (let z : ◌≡◌ {A = ℕ} 0 1 = cc in omega arith)
    walked l (stopped k r) q x = go (ltb room k) refl x where
      go : (c : Bool) → ltb room k ≡ c → stop {A = List ℕ} c 19 (no r) ≡ refused n d → Declined s σ i room n d
      go true t y = over l (stopped k r) q (ltb-true _ _ t) y
      go false t y =
          let e : number_of r ≡ n = cc in
          let f : details_of r ≡ d = cc in
          let m : Meets s σ 32 i r = stopped-meets s σ r 32 i around_first (rw q refl) in
          rw (sym e, sym f) (met (l, rw q (ltb-false _ _ t)) m)

    first : (b : Bool) → ltb longest (length s) ≡ b → stop b 16 (text_in room (declaration_of s σ i)) ≡ refused n d → Declined s σ i room n d
    first true t x =
        let e : 16 ≡ n = cc in
        let f : [] ≡ d = cc in
        rw (sym e, sym f) (long (ltb-true _ _ t))
    first false t x = walked (ltb-false _ _ t) (declaration_of s σ i) refl x

pub declare-when : DeclareWhen
declare-when = record {
  declined = declined;
  declined_only = declined-only;
  too_long = long-is;
  no_room = λ s σ i room h k. short-is s σ i room h ∙ over-is room (declaration_of s σ i) k;
  only_then = only-19-is;
  as_unlimited = λ s σ i room h k. short-is s σ i room h ∙ within-is room (declaration_of s σ i) k;
  prints = λ s σ i h. printing s σ 32 i h around_first;
  prints_only = λ s σ i h. printed-has s σ 32 i around_first h;
  stops = λ s σ i e m. stopping s σ e 32 i m.left m.at m.path m.fault around_first;
  stops_only = λ s σ i e h. stopped-meets s σ e 32 i around_first h;
  at_23 = is-23;
  at_24 = is-24;
  five_modes = five-modes;
  arguments_there = there-is;
}

-- ---- demand 1

buffer-of : (o : List ℕ) (a : Answer (List ℕ)) (n : ℕ) (d : List ℕ) → text_length a ≡ refused n d → text_buffer_after o a ≡ o
buffer-of o (answered bs) n d e = let z : ◌≡◌ {A = ℕ} 0 1 = cc in absurd (omega arith)
buffer-of o (refused m x) n d e = refl

pub declares-nothing : (o : List ℕ) (a : Answer (List ℕ)) (r : Result ℕ Refusal) (o' : List ℕ) (n : ℕ) (d : List ℕ) → Declares a o r o' → said itself r ≡ refused n d → o' ≡ o
declares-nothing o a r o' n d l e = l.buffer ∙ buffer-of o a n d (sym l.answer ∙ e)

one_more : (n : ℕ) → among n of_walks ≡ true → among n (19 ∷ of_walks) ≡ true
unfolding among
one_more n h = go (eqb n 19) where
  go : (b : Bool) → pick b true (among n of_walks) ≡ true
  go true = refl
  go false = h

abbrev Said : ℕ → List ℕ → Type 0
Said n d = (among n (19 ∷ of_walks) ≡ true) × (listed n d ≡ true)

said-19 : Said 19 []
unfolding among listed in_table refusals
said-19 = (refl, refl)

said-16 : Said 16 []
unfolding among listed in_table refusals
said-16 = (refl, refl)

text_says : (room : ℕ) (w : Spelled) → GoodWalk w → (n : ℕ) (d : List ℕ) → text_in room w ≡ refused n d → Said n d
unfolding text_in
text_says room (printed l r) g n d h = go (ltb room (length (l ++ r))) h where
  go : (b : Bool) → stop b 19 (answered (l ++ r)) ≡ refused n d → Said n d
  go true k = let e : 19 ≡ n = cc in let f : [] ≡ d = cc in rw (sym e, sym f) said-19
  go false k = absurd (let z : ◌≡◌ {A = ℕ} 0 1 = cc in omega arith)
text_says room (stopped j q) g n d h = go (ltb room j) h where
  go : (b : Bool) → stop {A = List ℕ} b 19 (no q) ≡ refused n d → Said n d
  go true k = let e : 19 ≡ n = cc in let f : [] ≡ d = cc in rw (sym e, sym f) said-19
  go false k =
      let e : number_of q ≡ n = cc in
      let f : details_of q ≡ d = cc in
      rw (sym e, sym f) (one_more (number_of q) g.good, in-table q)

pub declare-says : (s : List ℕ) (σ : State) (i room n : ℕ) (d : List ℕ) → declare_of s σ i room ≡ refused n d → Said n d
unfolding declare_of
declare-says s σ i room n d h = go (ltb longest (length s)) h where
  go : (b : Bool) → stop b 16 (text_in room (declaration_of s σ i)) ≡ refused n d → Said n d
  go true k = let e : 16 ≡ n = cc in let f : [] ≡ d = cc in rw (sym e, sym f) said-16
  go false k = text_says room (declaration_of s σ i) (walk-good s σ 32 i around_first) n d k

-- ---- a declaration's parts

abbrev of_nodes : List ℕ
of_nodes = 16 ∷ 26 ∷ 13 ∷ 8 ∷ 9 ∷ 1 ∷ 10 ∷ 11 ∷ 12 ∷ 24 ∷ []

-- of a node and of a list: all but 23
reason-says : (O : Type 0) (e : Refusal) → Reason O e → among (number_of e) of_nodes ≡ true
unfolding among within
reason-says O e (inl l) = among-within (number_of e) of_lookups of_nodes refl l.low
reason-says O e (inr h) = rw h.0 refl

pub node-says : (s : List ℕ) (σ : State) (i : ℕ) (e : Refusal) → node_of s σ i ≡ node.Refused e → among (number_of e) of_nodes ≡ true
node-says s σ i e h = reason-says _ e (rw h at (node-is s σ i))

pub list-says : (s : List ℕ) (σ : State) (i : ℕ) (e : Refusal) → list_of s σ i ≡ Err e → among (number_of e) of_nodes ≡ true
list-says s σ i e h = reason-says _ e (rw h at (list-is s σ i))

abbrev StepRight : Type 0 → Step → Type 0
StepRight O (step.Last p) = Unit
StepRight O (step.Inward l r i a) = Unit
StepRight O (step.Call l r z g i a) = Unit
StepRight O (step.Refused e) = Reason O e

step_right : (O : Type 0) (n : Node) (a : Around) → NodeRight O n → StepRight O (step_by n a)
step_right O (node.Primitive k y) a h = tt
step_right O (node.Named p n) a h = tt
step_right O (node.Pointer i m q) a h = tt
step_right O (node.Modifier i q) a h = tt
step_right O (node.Array i e) a h = tt
step_right O (node.Procedure i j) a h = tt
step_right O (node.Refused e) a h = h

step_is : (s : List ℕ) (σ : State) (i : ℕ) (a : Around) → StepRight ((0x1000 ≤ i) × OtherLeaf declared_leaves s σ i) (inward_step s σ i a)
unfolding inward_step
step_is s σ i a = step_right _ (node_of s σ i) a (node-is s σ i)

pub step-says : (s : List ℕ) (σ : State) (i : ℕ) (a : Around) (e : Refusal) → inward_step s σ i a ≡ step.Refused e → among (number_of e) of_nodes ≡ true
step-says s σ i a e h = reason-says _ e (rw h at (step_is s σ i a))

pub walk-says : (s : List ℕ) (σ : State) (d i : ℕ) (a : Around) (k : ℕ) (e : Refusal) → walk s σ d i a ≡ stopped k e → among (number_of e) of_walks ≡ true
walk-says s σ d i a k e h = let g : Good e = subst (λ (w : Spelled). GoodWalk w) h (walk-good s σ d i a) in g.good

-- in a room
abbrev GoodMeasured : Result (ℕ × ℕ) Refusal → Type 0
GoodMeasured (Ok (l, r)) = Unit
GoodMeasured (Err e) = Said (number_of e) (details_of e)

measured-pick : (b : Bool) (x y : Result (ℕ × ℕ) Refusal) → GoodMeasured x → GoodMeasured y → GoodMeasured (pick b x y)
measured-pick true x y p q = p
measured-pick false x y p q = q

capped-good : (room : ℕ) (w : Spelled) → GoodWalk w → GoodMeasured (capped room w)
unfolding capped
capped-good room (printed l r) g = measured-pick (ltb room (length l + length r)) (Err refusal.NoRoom) (Ok (length l, length r)) said-19 tt
capped-good room (stopped k e) g = measured-pick (ltb room k) (Err refusal.NoRoom) (Err e) said-19 (one_more (number_of e) g.good, in-table e)

pub capped-says : (room : ℕ) (s : List ℕ) (σ : State) (d i : ℕ) (a : Around) (e : Refusal) → capped room (walk s σ d i a) ≡ Err e → among (number_of e) (19 ∷ of_walks) ≡ true
capped-says room s σ d i a e h = let g : Said (number_of e) (details_of e) = subst (λ (m : Result (ℕ × ℕ) Refusal). GoodMeasured m) h (capped-good room (walk s σ d i a) (walk-good s σ d i a)) in g.0
