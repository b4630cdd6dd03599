-- A declaration and its parts are never refused by 10: a leaf that is asked for is one that the reader takes. Assumes nothing.
use Rattle.std.specs.Prelude.{Result, Ok, Err, Option, None, Some}
use Prim.Native.Nat.{ℕ, ◌+◌, ◌*◌}
use mathlib.Core.Bool.{Bool, true, false, false≢true}
use mathlib.Core.Path.{◌≡◌, refl, ap, sym, subst, ◌∙◌}
use mathlib.Core.List.{List, [], ◌∷◌, ◌++◌}
use lib.ListN.{length, take, drop}
use lib.Dec.{ltb, leb, eqb}
use borrow.Author.Tests.{eqb-true}
use Rattle.answer.specs.Answer.{Answer, answered, refused, got, ended, pick, stop, both}
use Rattle.answer.specs.Tables.{find, among}
use Rattle.answer.specs.Refusals.{number_of, no, refusals, in_table, listed}
use Rattle.answer.specs.declared.Refusal.{Refusal}
use Rattle.answer.specs.declared.Refusal.TheVariants as refusal
use Rattle.field.specs.Fields.{little_at, fixed_at}
use Rattle.word_primitive.specs.Primitive.{primitive_of}
use Rattle.word_primitive.specs.declared.PrimitiveType.{PrimitiveType}
use Rattle.record_layout.specs.Fields.{Shown, number, numeral, absent, many}
use Rattle.record_layout.specs.Values.{nth}
use Rattle.record_layout.specs.Layouts.{type_leaves, record_of}
use Rattle.field.specs.declared.index.ItemIndex.TheVariants as index
use Rattle.stream_item.specs.declared.Entry.{Entry}
use Rattle.stream_item.specs.declared.Entry.TheVariants as entry
use Rattle.stream_finder.specs.Finder.{State, Found, find_of}
use Rattle.declare_type.specs.Looked.{Seen, numbered, held, nothing, or_ended, declared_leaves, list_leaves, as_primitive, as_record, by_leaf, bytes_seen, entry_seen, found_seen, record_seen, type_seen, list_seen}
use Rattle.declare_type.specs.Nodes.{leaf_in, num, classes, name_in, node_in, node_by, node_of, list_in, list_by, list_of}
use Rattle.declare_type.specs.declared.node.Node.{Node}
use Rattle.declare_type.specs.declared.node.Node.TheVariants as node
use Rattle.declare_type.specs.Steps.{step_by, inward_step, around_first}
use Rattle.declare_type.specs.declared.step.Around.{Around}
use Rattle.declare_type.specs.declared.step.Step.{Step}
use Rattle.declare_type.specs.declared.step.Step.TheVariants as step
use Rattle.declare_type.specs.Walk.{Spelled, printed, stopped, walk, capped, declaration_of}
use Rattle.declare_type.specs.Declares.{text_in, declare_of}
use Rattle.stream_header.specs.Header.{longest}
use Rattle.claim_promises.specs.Given.{by}
use Rattle.claim_promises.specs.DeclareWhen.{Fault, too_deep, its_own, its_lists, Meets, StopsBy}
use Rattle.claim_promises.proofs.ByTable.{both_first, both-second}
use Rattle.claim_promises.proofs.Given.{not-by}
use Rattle.claim_promises.proofs.GivenReading.{records-10}
use Rattle.claim_promises.proofs.StreamRefuses.{primitive-refuses, find-refuses}
use Rattle.claim_promises.proofs.DeclareRefuses.{named-right, all_right, node-says as node-within, list-says as list-within, step-says as step-within, walk-says as walk-within, capped-says as capped-within, declare-says as declare-within}
use Rattle.claim_promises.proofs.DeclarePaths.{stopped-meets}

record Not10 (e : Refusal) : Type 0 where
  pub other : eqb (number_of e) 10 ≡ false

not-ended : Not10 refusal.Ended
not-ended = record { other = refl }

not-leaf : Not10 refusal.LeafNotPrinted
not-leaf = record { other = refl }

not_named : (n : ℕ) (d : List ℕ) → eqb n 10 ≡ false → Not10 (or_ended (in_table refusals n d))
not_named n d h = go (in_table refusals n d) refl where
  go : (o : Option Refusal) → in_table refusals n d ≡ o → Not10 (or_ended o)
  go None f = not-ended
  go (Some e) f = record { other = rw (named-right refusals all_right n d e f) h }

-- ---- the leaves that the reader takes

abbrev there : {A : Type 0} → Option A → Bool
there None = false
there (Some x) = true

unfoldable takes : List ℕ → Bool
takes [] = true
takes (l ∷ ls) = both (there (find l type_leaves)) (takes ls)

taken : (n : ℕ) (ls : List ℕ) → takes ls ≡ true → among n ls ≡ true → there (find n type_leaves) ≡ true
unfolding takes among
taken n [] w p = absurd (false≢true p)
taken n (m ∷ ls) w p = go (eqb n m) refl (taken n ls (both-second (there (find m type_leaves)) (takes ls) w)) p where
  go : (b : Bool) → eqb n m ≡ b → (among n ls ≡ true → there (find n type_leaves) ≡ true) → pick b true (among n ls) ≡ true → there (find n type_leaves) ≡ true
  go true e later q = subst (λ (k : ℕ). there (find k type_leaves) ≡ true) (sym (eqb-true n m e)) (both_first (there (find m type_leaves)) (takes ls) w)
  go false e later q = later q

never-10 : (leaves b : List ℕ) → takes leaves ≡ true → among (little_at 2 b 0) leaves ≡ true → by 10 (record_of type_leaves b) ≡ false
never-10 leaves b w h = go (by 10 (record_of type_leaves b)) refl where
  go : (x : Bool) → by 10 (record_of type_leaves b) ≡ x → x ≡ false
  go true e = absurd (false≢true (sym (ap there ((records-10 type_leaves b).only e).1) ∙ taken (little_at 2 b 0) leaves w h))
  go false e = refl

declared-taken : takes declared_leaves ≡ true
unfolding takes declared_leaves find type_leaves
declared-taken = refl

list-taken : takes list_leaves ≡ true
unfolding takes list_leaves find type_leaves
list-taken = refl

-- ---- lookups

abbrev SeenNot : Seen → Type 0
SeenNot (numbered p) = Unit
SeenNot (held p n vs) = Unit
SeenNot (nothing e) = Not10 e

seen_pick : (b : Bool) (x y : Seen) → SeenNot x → SeenNot y → SeenNot (pick b x y)
seen_pick true x y p q = p
seen_pick false x y p q = q

primitive-seen : (a : Answer PrimitiveType) → by 10 a ≡ false → SeenNot (as_primitive a)
primitive-seen (answered p) h = tt
primitive-seen (refused n d) h = not_named n d h

record-seen : (p n : ℕ) (a : Answer (List Shown)) → by 10 a ≡ false → SeenNot (as_record p n a)
record-seen p n (answered vs) h = tt
record-seen p n (refused k d) h = not_named k d h

leaf-seen : (leaves : List ℕ) → takes leaves ≡ true → (p n : ℕ) (b : List ℕ) → SeenNot (by_leaf leaves p n b (fixed_at 2 b 0))
unfolding fixed_at
leaf-seen leaves w p n b = go (leb (0 + 2) (length b)) where
  read : (x : Bool) → among (little_at 2 b 0) leaves ≡ x → SeenNot (pick x (as_record p n (record_of type_leaves b)) (nothing refusal.LeafNotPrinted))
  read true e = record-seen p n (record_of type_leaves b) (never-10 leaves b w e)
  read false e = not-leaf

  go : (x : Bool) → SeenNot (by_leaf leaves p n b (pick x (got (little_at 2 b 0) (0 + 2)) ended))
  go true = read (among (little_at 2 b 0) leaves) refl
  go false = not-ended

module _ (leaves : List ℕ) (w : takes leaves ≡ true) (s : List ℕ) where
  entry_seen_lem : (e : Entry) → SeenNot (entry_seen leaves s e)
  unfolding bytes_seen
  entry_seen_lem (entry.Record m) =
      seen_pick (ltb (length s) (m.place + m.length)) (nothing refusal.Ended) _ not-ended
      (leaf-seen leaves w m.place m.length (take m.length (drop m.place s)))
  entry_seen_lem (entry.Marker m) = not-leaf

  found-seen : (a : Answer Found) → by 10 a ≡ false → SeenNot (found_seen leaves s a)
  found-seen (answered f) h = entry_seen_lem f.entry
  found-seen (refused n d) h = not_named n d h

  record-of-seen : (σ : State) (i : ℕ) → SeenNot (record_seen leaves s σ i)
  unfolding record_seen among
  record-of-seen σ i = found-seen (find_of s σ (index.Types (record { 0 = i }))) (not-by 10 refl (find-refuses s σ (index.Types (record { 0 = i }))))

type-seen : (s : List ℕ) (σ : State) (i : ℕ) → SeenNot (type_seen s σ i)
unfolding type_seen among
type-seen s σ i =
    seen_pick (ltb i 0x1000) (as_primitive (primitive_of i)) (record_seen declared_leaves s σ i) (primitive-seen (primitive_of i) (not-by 10 refl (primitive-refuses i)))
    (record-of-seen declared_leaves declared-taken s σ i)

list-seen : (s : List ℕ) (σ : State) (i : ℕ) → SeenNot (list_seen s σ i)
unfolding list_seen
list-seen s σ i = seen_pick (ltb i 0x1000) (nothing refusal.LeafNotPrinted) (record_seen list_leaves s σ i) not-leaf (record-of-seen list_leaves list-taken s σ i)

-- ---- nodes and lists

abbrev NodeNot : Node → Type 0
NodeNot (node.Primitive k y) = Unit
NodeNot (node.Named p n) = Unit
NodeNot (node.Pointer i m q) = Unit
NodeNot (node.Modifier i q) = Unit
NodeNot (node.Array i e) = Unit
NodeNot (node.Procedure i j) = Unit
NodeNot (node.Refused e) = Not10 e

node-pick : (b : Bool) (x y : Node) → NodeNot x → NodeNot y → NodeNot (pick b x y)
node-pick true x y p q = p
node-pick false x y p q = q

name-not : (p n : ℕ) (v : Shown) → NodeNot (name_in p n v)
name-not p n (many x) = node-pick (leb (x.place + x.length) n) (node.Named (p + x.place) x.length) (node.Refused refusal.Ended) tt not-ended
name-not p n (number k) = not-ended
name-not p n (numeral z f) = not-ended
name-not p n absent = not-ended

node-by-not : (s : List ℕ) (σ : State) (v : Seen) → SeenNot v → NodeNot (node_by s σ v)
unfolding node_in
node-by-not s σ (numbered p) h = tt
node-by-not s σ (held p n vs) h =
    node-pick (eqb (leaf_in vs) 0x1001) _ _ tt
    (node-pick (eqb (leaf_in vs) 0x1002) _ _ tt
    (node-pick (eqb (leaf_in vs) 0x1008) _ _ tt
    (node-pick (eqb (leaf_in vs) 0x1503) _ _ tt
    (node-pick (eqb (leaf_in vs) 0x1506) _ _ (name-not p n (nth 5 vs))
    (node-pick (eqb (leaf_in vs) 0x1507) _ _ (name-not p n (nth 5 vs))
    (node-pick (eqb (leaf_in vs) 0x1609) _ _ (name-not p n (nth 8 vs))
    (node-pick (among (leaf_in vs) classes) _ _ (name-not p n (nth 7 vs)) not-leaf)))))))
node-by-not s σ (nothing e) h = h

abbrev ListNot : Result (ℕ × ℕ) Refusal → Type 0
ListNot (Ok (p, n)) = Unit
ListNot (Err e) = Not10 e

list-pick : (b : Bool) (x y : Result (ℕ × ℕ) Refusal) → ListNot x → ListNot y → ListNot (pick b x y)
list-pick true x y p q = p
list-pick false x y p q = q

list-in-not : (p n k : ℕ) (v : Shown) → ListNot (list_in p n k v)
list-in-not p n k (many x) = list-pick (leb (x.place + 4 * k) n) (Ok (p + x.place, k)) (Err refusal.Ended) tt not-ended
list-in-not p n k (number j) = not-ended
list-in-not p n k (numeral z f) = not-ended
list-in-not p n k absent = not-ended

list-by-not : (v : Seen) → SeenNot v → ListNot (list_by v)
list-by-not (numbered p) h = not-leaf
list-by-not (held p n vs) h = list-pick (eqb (leaf_in vs) 0x1201) _ _ (list-in-not p n (num vs 1) (nth 2 vs)) not-leaf
list-by-not (nothing e) h = h

node-of-not : (s : List ℕ) (σ : State) (i : ℕ) → NodeNot (node_of s σ i)
unfolding node_of
node-of-not s σ i = node-by-not s σ (type_seen s σ i) (type-seen s σ i)

list-of-not : (s : List ℕ) (σ : State) (i : ℕ) → ListNot (list_of s σ i)
unfolding list_of
list-of-not s σ i = list-by-not (list_seen s σ i) (list-seen s σ i)

node-not : (s : List ℕ) (σ : State) (i : ℕ) (e : Refusal) → node_of s σ i ≡ node.Refused e → Not10 e
node-not s σ i e h = subst (λ (n : Node). NodeNot n) h (node-of-not s σ i)

list-not : (s : List ℕ) (σ : State) (i : ℕ) (e : Refusal) → list_of s σ i ≡ Err e → Not10 e
list-not s σ i e h = subst (λ (l : Result (ℕ × ℕ) Refusal). ListNot l) h (list-of-not s σ i)

-- ---- steps and walks

abbrev StepNot : Step → Type 0
StepNot (step.Last p) = Unit
StepNot (step.Inward l r i a) = Unit
StepNot (step.Call l r z g i a) = Unit
StepNot (step.Refused e) = Not10 e

step-by-not : (n : Node) (a : Around) → NodeNot n → StepNot (step_by n a)
step-by-not (node.Primitive k y) a h = tt
step-by-not (node.Named p n) a h = tt
step-by-not (node.Pointer i m q) a h = tt
step-by-not (node.Modifier i q) a h = tt
step-by-not (node.Array i e) a h = tt
step-by-not (node.Procedure i j) a h = tt
step-by-not (node.Refused e) a h = h

step-of-not : (s : List ℕ) (σ : State) (i : ℕ) (a : Around) → StepNot (inward_step s σ i a)
unfolding inward_step
step-of-not s σ i a = step-by-not (node_of s σ i) a (node-of-not s σ i)

step-not : (s : List ℕ) (σ : State) (i : ℕ) (a : Around) (e : Refusal) → inward_step s σ i a ≡ step.Refused e → Not10 e
step-not s σ i a e h = subst (λ (o : Step). StepNot o) h (step-of-not s σ i a)

fault-not : (s : List ℕ) (σ : State) (left at : ℕ) (e : Refusal) → Fault s σ left at e → Not10 e
fault-not s σ left at e too_deep = record { other = refl }
fault-not s σ left at e (its_own h) = node-not s σ at e h
fault-not s σ left at e (its_lists {l = l} h k) = list-not s σ l.0 e k

stops-by : (w : Spelled) (k : ℕ) (e : Refusal) → w ≡ stopped k e → StopsBy e w
stops-by w k e h = rw h refl

walk-not : (s : List ℕ) (σ : State) (d i : ℕ) (a : Around) (k : ℕ) (e : Refusal) → walk s σ d i a ≡ stopped k e → Not10 e
walk-not s σ d i a k e h =
    let m : Meets s σ d i e = stopped-meets s σ e d i a (stops-by (walk s σ d i a) k e h) in
    fault-not s σ m.left m.at e m.fault

-- ---- demand 1

abbrev of_nodes : List ℕ
of_nodes = 16 ∷ 26 ∷ 13 ∷ 8 ∷ 9 ∷ 1 ∷ 11 ∷ 12 ∷ 24 ∷ []

abbrev of_walks : List ℕ
of_walks = 16 ∷ 26 ∷ 13 ∷ 8 ∷ 9 ∷ 1 ∷ 11 ∷ 12 ∷ 23 ∷ 24 ∷ []

but-10 : (e : Refusal) → Not10 e → among (number_of e) (16 ∷ 26 ∷ 13 ∷ 8 ∷ 9 ∷ 1 ∷ 10 ∷ 11 ∷ 12 ∷ 24 ∷ []) ≡ true → among (number_of e) of_nodes ≡ true
unfolding among
but-10 e h p = rw h.other at p

walk-but-10 : (n : ℕ) → eqb n 10 ≡ false → among n (19 ∷ 16 ∷ 26 ∷ 13 ∷ 8 ∷ 9 ∷ 1 ∷ 10 ∷ 11 ∷ 12 ∷ 23 ∷ 24 ∷ []) ≡ true → among n (19 ∷ of_walks) ≡ true
unfolding among
walk-but-10 n h p = rw h at p

pub node-says : (s : List ℕ) (σ : State) (i : ℕ) (e : Refusal) → node_of s σ i ≡ node.Refused e → among (number_of e) of_nodes ≡ true
node-says s σ i e h = but-10 e (node-not s σ i e h) (node-within s σ i e h)

pub list-says : (s : List ℕ) (σ : State) (i : ℕ) (e : Refusal) → list_of s σ i ≡ Err e → among (number_of e) of_nodes ≡ true
list-says s σ i e h = but-10 e (list-not s σ i e h) (list-within s σ i e h)

pub step-says : (s : List ℕ) (σ : State) (i : ℕ) (a : Around) (e : Refusal) → inward_step s σ i a ≡ step.Refused e → among (number_of e) of_nodes ≡ true
step-says s σ i a e h = but-10 e (step-not s σ i a e h) (step-within s σ i a e h)

pub walk-says : (s : List ℕ) (σ : State) (d i : ℕ) (a : Around) (k : ℕ) (e : Refusal) → walk s σ d i a ≡ stopped k e → among (number_of e) of_walks ≡ true
unfolding among
walk-says s σ d i a k e h = rw (walk-not s σ d i a k e h).other at (walk-within s σ d i a k e h)

-- in a room
abbrev WalkNot : Spelled → Type 0
WalkNot (printed l r) = Unit
WalkNot (stopped k e) = Not10 e

walk_of-not : (s : List ℕ) (σ : State) (d i : ℕ) (a : Around) → WalkNot (walk s σ d i a)
walk_of-not s σ d i a = go (walk s σ d i a) refl where
  go : (w : Spelled) → walk s σ d i a ≡ w → WalkNot w
  go (printed l r) h = tt
  go (stopped k e) h = walk-not s σ d i a k e h

abbrev MeasuredNot : Result (ℕ × ℕ) Refusal → Type 0
MeasuredNot (Ok (l, r)) = Unit
MeasuredNot (Err e) = Not10 e

measured-pick : (b : Bool) (x y : Result (ℕ × ℕ) Refusal) → MeasuredNot x → MeasuredNot y → MeasuredNot (pick b x y)
measured-pick true x y p q = p
measured-pick false x y p q = q

capped-not : (room : ℕ) (w : Spelled) → WalkNot w → MeasuredNot (capped room w)
unfolding capped
capped-not room (printed l r) g =
    measured-pick (ltb room (length l + length r)) (Err refusal.NoRoom) (Ok (length l, length r)) (record { other = refl }) tt
capped-not room (stopped k e) g = measured-pick (ltb room k) (Err refusal.NoRoom) (Err e) (record { other = refl }) g

pub capped-says : (room : ℕ) (s : List ℕ) (σ : State) (d i : ℕ) (a : Around) (e : Refusal) → capped room (walk s σ d i a) ≡ Err e
    → among (number_of e) (19 ∷ of_walks) ≡ true
capped-says room s σ d i a e h =
    let g : Not10 e = subst (λ (m : Result (ℕ × ℕ) Refusal). MeasuredNot m) h (capped-not room (walk s σ d i a) (walk_of-not s σ d i a)) in
    walk-but-10 (number_of e) g.other (capped-within room s σ d i a e h)

text-not : (room : ℕ) (w : Spelled) → WalkNot w → by 10 (text_in room w) ≡ false
unfolding text_in
text-not room (printed l r) g = go (ltb room (length (l ++ r))) where
  go : (b : Bool) → by 10 (stop b 19 (answered (l ++ r))) ≡ false
  go true = refl
  go false = refl
text-not room (stopped k e) g = go (ltb room k) where
  go : (b : Bool) → by 10 (stop {A = List ℕ} b 19 (no e)) ≡ false
  go true = refl
  go false = g.other

declare-not : (s : List ℕ) (σ : State) (i room : ℕ) → by 10 (declare_of s σ i room) ≡ false
unfolding declare_of
declare-not s σ i room = go (ltb longest (length s)) where
  go : (b : Bool) → by 10 (stop b 16 (text_in room (declaration_of s σ i))) ≡ false
  go true = refl
  go false = text-not room (declaration_of s σ i) (walk_of-not s σ 32 i around_first)

pub declare-says : (s : List ℕ) (σ : State) (i room n : ℕ) (d : List ℕ) → declare_of s σ i room ≡ refused n d → (among n (19 ∷ of_walks) ≡ true) × (listed n d ≡ true)
declare-says s σ i room n d h =
    let g : (among n (19 ∷ 16 ∷ 26 ∷ 13 ∷ 8 ∷ 9 ∷ 1 ∷ 10 ∷ 11 ∷ 12 ∷ 23 ∷ 24 ∷ []) ≡ true) × (listed n d ≡ true) = declare-within s σ i room n d h in
    (walk-but-10 n (sym (ap (λ a. by 10 a) h) ∙ declare-not s σ i room) g.0, g.1)
