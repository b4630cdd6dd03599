-- A row gives back the values of every record, and every element, that was read. Assumes nothing.
use Rattle.std.specs.Prelude.{Option, None, Some}
use Prim.Native.Nat.{ℕ, suc, ◌+◌, ◌≤◌, ◌<◌}
use native.Mathlib.Omega.{arith}
use mathlib.Core.Bool.{Bool, true, false}
use mathlib.Core.Path.{◌≡◌, refl, sym, ap, ◌∙◌, subst}
use mathlib.Core.List.{List, [], ◌∷◌, ◌++◌}
use lib.ListN.{length, get_or, set, replicate, length-set, length-replicate}
use lib.Seq.{get_or-set_same, get_or-set_other}
use lib.Dec.{leb, ltb, eqb}
use borrow.Author.Tests.{ltb-true, eqb-true, eqb-false}
use Rattle.answer.specs.Answer.{Answer, answered, refused, Read, pick, both, stop, then, and_then}
use Rattle.answer.specs.Tables.{Line, ◌is◌, find, among}
use Rattle.field.specs.Fields.{fixed_at}
use Rattle.field_text.specs.Texts.{padding_after}
use Rattle.record_layout.specs.Fields.{Shown, number, Field, id, read_fields}
use Rattle.record_layout.specs.Layouts.{type_index, Layout, Table, type_leaves, id_leaves, member_leaves, method, by_layout, read_leaf, leaf_of, read_record, record_of}
use Rattle.record_list.specs.declared.ListCursor.{ListCursor}
use Rattle.record_list.specs.Lists.{ElementValues, type_element, id_element, method_element, member_element, Step, counted_step, method_step, member_step, next_member, step_of}
use Rattle.pane_row.specs.Slots.{Slot, off, one, two, sized, three, Slots, first_of, second_of, third_of, put_slot, puts, row_by}
use Rattle.pane_row.specs.Kinds as kind
use Rattle.pane_row.specs.Kinds.{Kind, slot_kind, keeps_first, keeps_second, keeps_third, enough, fitting}
use Rattle.pane_row.specs.Stand.{places_in, places_of, apart, stands, lined}
use Rattle.pane_row.specs.TypePlaces.{type_slots}
use Rattle.pane_row.specs.IdPlaces.{id_slots}
use Rattle.pane_row.specs.ElementPlaces.{member_slots, member_row, method_slots, method_row, index_slots, index_row, element_row}
use Rattle.pane_row.specs.Back.{told, first_at, second_at, third_at, fields_back, line_back, back_by, element_back, RowsTell}
use Rattle.pane_row.proofs.LengthLaws.{put-length}
use Rattle.pane_row.proofs.FieldsTell.{Holds, after, known, Shows, AllShow, fields-tell, method-tells, type-tells, id-tells, leaf_first, fixed_on}
use Rattle.pane_row.proofs.Stands.{slots-stand}

false-true : {X : Type 0} → false ≡ true → X
false-true e = let z : ◌≡◌ {A = ℕ} 0 1 = cc in absurd (omega arith)

true-false : {X : Type 0} → true ≡ false → X
true-false e = false-true (sym e)

-- Places ------------------------------------------------------------------------------------------------------------------------------

both_true : (a b : Bool) → both a b ≡ true → (a ≡ true) × (b ≡ true)
both_true true b h = (refl, h)
both_true false b h = false-true h

among-not : (j k : ℕ) (ks : List ℕ) → among j (k ∷ ks) ≡ false → (j ≡ k → ⊥) × (among j ks ≡ false)
unfolding among
among-not j k ks h = go (eqb j k) refl h
  where
    go : (b : Bool) → eqb j k ≡ b → pick b true (among j ks) ≡ false → (j ≡ k → ⊥) × (among j ks ≡ false)
    go true e i = true-false i
    go false e i = (eqb-false j k e, i)

among-split : (j : ℕ) (xs ys : List ℕ) → among j (xs ++ ys) ≡ false → (among j xs ≡ false) × (among j ys ≡ false)
unfolding among
among-split j [] ys h = (refl, h)
among-split j (x ∷ xs) ys h = go (eqb j x) h (among-split j xs ys)
  where
    go : (b : Bool) → pick b true (among j (xs ++ ys)) ≡ false → (among j (xs ++ ys) ≡ false → (among j xs ≡ false) × (among j ys ≡ false))
        → (pick b true (among j xs) ≡ false) × (among j ys ≡ false)
    go true i f = true-false i
    go false i f = f i

-- of places that are apart, the first
pub record First (n k : ℕ) (ks : List ℕ) : Type 0 where
  pub inside : k < n
  pub alone : among k ks ≡ false
  pub rest : apart n ks ≡ true

apart-first : (n k : ℕ) (ks : List ℕ) → apart n (k ∷ ks) ≡ true → First n k ks
unfolding apart
apart-first n k ks h = go (among k ks) refl (both_true (ltb k n) _ h)
  where
    go : (b : Bool) → among k ks ≡ b → (ltb k n ≡ true) × (pick b false (apart n ks) ≡ true) → First n k ks
    go true e i = false-true i.1
    go false e i = record { inside = ltb-true k n i.0; alone = e; rest = i.1 }

-- a place that no slot has stays as it was
put_keeps : (row : List ℕ) (k : Slot) (v : Shown) (j : ℕ) → among j (places_in k) ≡ false → get_or (put_slot row k v) j 0 ≡ get_or row j 0
put_keeps row off v j h = refl
put_keeps row (one k) v j h = get_or-set_other row k j _ 0 (among-not j k [] h).0
put_keeps row (two k) v j h =
    let a = among-not j k (suc k ∷ []) h in
    get_or-set_other (set row k (first_of v)) (suc k) j _ 0 (among-not j (suc k) [] a.1).0 ∙ get_or-set_other row k j _ 0 a.0
put_keeps row (sized k i) v j h =
    let a = among-not j k (i ∷ []) h in
    get_or-set_other (set row k (first_of v)) i j _ 0 (among-not j i [] a.1).0 ∙ get_or-set_other row k j _ 0 a.0
put_keeps row (three k) v j h =
    let a = among-not j k (suc k ∷ suc (suc k) ∷ []) h in
    let b = among-not j (suc k) (suc (suc k) ∷ []) a.1 in
    get_or-set_other (set (set row k (first_of v)) (suc k) (second_of v)) (suc (suc k)) j _ 0 (among-not j (suc (suc k)) [] b.1).0
    ∙ get_or-set_other (set row k (first_of v)) (suc k) j _ 0 b.0
    ∙ get_or-set_other row k j _ 0 a.0

puts-keep : (row : List ℕ) (ks : Slots) (vs : List Shown) (j : ℕ) → among j (places_of ks) ≡ false → get_or (puts row ks vs) j 0 ≡ get_or row j 0
unfolding puts places_of
puts-keep row [] vs j h = refl
puts-keep row (k ∷ ks) [] j h = refl
puts-keep row (k ∷ ks) (v ∷ vs) j h =
    let a = among-split j (places_in k) (places_of ks) h in
    puts-keep (put_slot row k v) ks vs j a.1 ∙ put_keeps row k v j a.0

-- A slot -------------------------------------------------------------------------------------------------------------------------------

abbrev keep : Bool → ℕ → ℕ
keep true n = n
keep false n = 0

-- what a slot keeps of a value is still there after the others
record Kept (n : ℕ) (k : Slot) (ks : Slots) (row : List ℕ) (v : Shown) : Type 0 where
  first : first_at k row ≡ keep (keeps_first k) (first_of v)
  second : second_at k row ≡ keep (keeps_second k) (second_of v)
  third : third_at k row ≡ keep (keeps_third k) (third_of v)
  others : apart n (places_of ks) ≡ true

suc-not : (k : ℕ) → k ≡ suc k → ⊥
suc-not k e = absurd (omega arith)

kept : (n : ℕ) (k : Slot) (ks : Slots) (row : List ℕ) (v : Shown) (vs : List Shown) → length row ≡ n → apart n (places_in k ++ places_of ks) ≡ true → Kept n k ks (puts (put_slot row k v) ks vs) v
kept n off ks row v vs l h = record { first = refl; second = refl; third = refl; others = h }
kept n (one k) ks row v vs l h =
    let a = apart-first n k (places_of ks) h in
    record {
      first = puts-keep (set row k (first_of v)) ks vs k a.alone ∙ get_or-set_same row k (first_of v) 0 (omega (arith, a.inside));
      second = refl;
      third = refl;
      others = a.rest;
    }
kept n (two k) ks row v vs l h =
    let a = apart-first n k (suc k ∷ places_of ks) h in
    let b = apart-first n (suc k) (places_of ks) a.rest in
    let row₁ = set row k (first_of v) in
    let row₂ = set row₁ (suc k) (second_of v) in
    let l₁ : length row₁ ≡ n = length-set row k (first_of v) ∙ l in
    record {
      first = puts-keep row₂ ks vs k (among-not k (suc k) (places_of ks) a.alone).1 ∙ get_or-set_other row₁ (suc k) k (second_of v) 0 (suc-not k) ∙ get_or-set_same row k (first_of v) 0 (omega (arith, a.inside));
      second = puts-keep row₂ ks vs (suc k) b.alone ∙ get_or-set_same row₁ (suc k) (second_of v) 0 (omega (arith, b.inside, l₁));
      third = refl;
      others = b.rest;
    }
kept n (sized k j) ks row v vs l h =
    let a = apart-first n k (j ∷ places_of ks) h in
    let b = apart-first n j (places_of ks) a.rest in
    let c = among-not k j (places_of ks) a.alone in
    let row₁ = set row k (first_of v) in
    let row₂ = set row₁ j (third_of v) in
    let l₁ : length row₁ ≡ n = length-set row k (first_of v) ∙ l in
    record {
      first = puts-keep row₂ ks vs k c.1 ∙ get_or-set_other row₁ j k (third_of v) 0 c.0 ∙ get_or-set_same row k (first_of v) 0 (omega (arith, a.inside));
      second = refl;
      third = puts-keep row₂ ks vs j b.alone ∙ get_or-set_same row₁ j (third_of v) 0 (omega (arith, b.inside, l₁));
      others = b.rest;
    }
kept n (three k) ks row v vs l h =
    let a = apart-first n k (suc k ∷ suc (suc k) ∷ places_of ks) h in
    let b = apart-first n (suc k) (suc (suc k) ∷ places_of ks) a.rest in
    let c = apart-first n (suc (suc k)) (places_of ks) b.rest in
    let d = among-not k (suc k) (suc (suc k) ∷ places_of ks) a.alone in
    let e = among-not k (suc (suc k)) (places_of ks) d.1 in
    let f = among-not (suc k) (suc (suc k)) (places_of ks) b.alone in
    let row₁ = set row k (first_of v) in
    let row₂ = set row₁ (suc k) (second_of v) in
    let row₃ = set row₂ (suc (suc k)) (third_of v) in
    let l₁ : length row₁ ≡ n = length-set row k (first_of v) ∙ l in
    let l₂ : length row₂ ≡ n = length-set row₁ (suc k) (second_of v) ∙ l₁ in
    record {
      first =
          puts-keep row₃ ks vs k e.1 ∙ get_or-set_other row₂ (suc (suc k)) k (third_of v) 0 e.0 ∙ get_or-set_other row₁ (suc k) k (second_of v) 0 d.0
          ∙ get_or-set_same row k (first_of v) 0 (omega (arith, a.inside));
      second = puts-keep row₃ ks vs (suc k) f.1 ∙ get_or-set_other row₂ (suc (suc k)) (suc k) (third_of v) 0 f.0 ∙ get_or-set_same row₁ (suc k) (second_of v) 0 (omega (arith, b.inside, l₁));
      third = puts-keep row₃ ks vs (suc (suc k)) c.alone ∙ get_or-set_same row₂ (suc (suc k)) (third_of v) 0 (omega (arith, c.inside, l₂));
      others = c.rest;
    }

-- where it keeps enough, the value is told as by all three numbers
told-keeps : (κ : Kind) (a b c : Bool) (x y z : ℕ) → enough κ a b c ≡ true → told κ (keep a x) (keep b y) (keep c z) ≡ told κ x y z
told-keeps kind.nothing a b c x y z h = refl
told-keeps kind.plain true b c x y z h = refl
told-keeps kind.plain false b c x y z h = false-true h
told-keeps kind.optional true b c x y z h = refl
told-keeps kind.optional false b c x y z h = false-true h
told-keeps kind.text true true c x y z h = refl
told-keeps kind.text true false c x y z h = false-true h
told-keeps kind.text false b c x y z h = false-true h
told-keeps kind.optional_text true true c x y z h = refl
told-keeps kind.optional_text true false c x y z h = false-true h
told-keeps kind.optional_text false b c x y z h = false-true h
told-keeps kind.present true true c x y z h = refl
told-keeps kind.present true false c x y z h = false-true h
told-keeps kind.present false b c x y z h = false-true h
told-keeps kind.natural true b true x y z h = refl
told-keeps kind.natural true b false x y z h = false-true h
told-keeps kind.natural false b c x y z h = false-true h
told-keeps kind.integer true true true x y z h = refl
told-keeps kind.integer true true false x y z h = false-true h
told-keeps kind.integer true false c x y z h = false-true h
told-keeps kind.integer false b c x y z h = false-true h
told-keeps kind.other a b c x y z h = false-true h

enough-known : (κ : Kind) (a b c : Bool) → enough κ a b c ≡ true → known κ ≡ true
enough-known kind.nothing a b c h = refl
enough-known kind.plain a b c h = refl
enough-known kind.optional a b c h = refl
enough-known kind.text a b c h = refl
enough-known kind.optional_text a b c h = refl
enough-known kind.present a b c h = refl
enough-known kind.natural a b c h = refl
enough-known kind.integer a b c h = refl
enough-known kind.other a b c h = false-true h

-- A line -------------------------------------------------------------------------------------------------------------------------------

value-back : (n : ℕ) (k : Slot) (ks : Slots) (f : Field) (row : List ℕ) (v : Shown) → enough (slot_kind f) (keeps_first k) (keeps_second k) (keeps_third k) ≡ true → Shows (slot_kind f) v → Kept n k ks row v
    → told (slot_kind f) (first_at k row) (second_at k row) (third_at k row) ≡ v
value-back n k ks f row v e h t =
    rw (t.first, t.second, t.third)
    (told-keeps (slot_kind f) (keeps_first k) (keeps_second k) (keeps_third k) (first_of v) (second_of v) (third_of v) e
    ∙ h (enough-known (slot_kind f) (keeps_first k) (keeps_second k) (keeps_third k) e))

fields_back_lem : (n : ℕ) (ks : Slots) (fs : Layout) (row : List ℕ) (vs : List Shown) → length row ≡ n → apart n (places_of ks) ≡ true → fitting ks fs ≡ true → AllShow fs vs → fields_back ks fs (puts row ks vs) ≡ vs
unfolding places_of fitting AllShow fields_back puts
fields_back_lem n [] [] row [] l a e h = refl
fields_back_lem n [] [] row (v ∷ vs) l a e h = absurd h
fields_back_lem n [] (f ∷ fs) row vs l a e h = false-true e
fields_back_lem n (k ∷ ks) [] row vs l a e h = false-true e
fields_back_lem n (k ∷ ks) (f ∷ fs) row [] l a e h = absurd h
fields_back_lem n (k ∷ ks) (f ∷ fs) row (v ∷ vs) l a e h =
    let t = kept n k ks row v vs l a in
    let g = both_true (enough (slot_kind f) (keeps_first k) (keeps_second k) (keeps_third k)) (fitting ks fs) e in
    rw (value-back n k ks f (puts (put_slot row k v) ks vs) v g.0 h.0 t)
    (ap (λ (us : List Shown). v ∷ us) (fields_back_lem n ks fs (put_slot row k v) vs (put-length row k v ∙ l) t.others g.1 h.1))

-- of a row of zeros
zeros-back : (n : ℕ) (ks : Slots) (fs : Layout) (vs : List Shown) → apart n (0 ∷ places_of ks) ≡ true → fitting ks fs ≡ true → AllShow fs vs → fields_back ks fs (puts (replicate n 0) ks vs) ≡ vs
zeros-back n ks fs vs a e h = fields_back_lem n ks fs (replicate n 0) vs (length-replicate n 0) (apart-first n 0 (places_of ks) a).rest e h

-- Tables -------------------------------------------------------------------------------------------------------------------------------

-- the slots of a leaf
record Lined (n leaf : ℕ) (slots : List (Line Slots)) (fs : Layout) : Type 0 where
  places : Slots
  there : find leaf slots ≡ Some places
  fit : fitting places fs ≡ true
  alone : apart n (0 ∷ places_of places) ≡ true

some_is : {A : Type 0} {a b : A} → ◌≡◌ {A = Option A} (Some a) (Some b) → a ≡ b
some_is {A} {a} {b} e = ap (or a) e
  where
    or : A → Option A → A
    or d None = d
    or d (Some x) = x

none-some : {X A : Type 0} {a : A} → ◌≡◌ {A = Option A} None (Some a) → X
none-some {X} {A} {a} h = let z : ◌≡◌ {A = ℕ} 0 1 = cc in absurd (omega arith)

lines : (n leaf : ℕ) (table : Table) (slots : List (Line Slots)) (fs : Layout) → lined table slots ≡ true → stands n slots ≡ true → find leaf table ≡ Some fs → Lined n leaf slots fs
unfolding lined stands find
lines n leaf [] slots fs h s e = none-some e
lines n leaf ((m is gs) ∷ ls) [] fs h s e = false-true h
lines n leaf ((m is gs) ∷ ls) ((j is ks) ∷ ks') fs h s e =
    let a = both_true (eqb m j) _ h in
    let b = both_true (fitting ks gs) _ a.1 in
    let c = both_true (apart n (0 ∷ places_of ks)) _ s in
    go (eqb leaf m) (rw (sym (eqb-true m j a.0)) refl) b.0 c.0 e (lines n leaf ls ks' fs b.1 c.1)
  where
    go : (t : Bool) → eqb leaf j ≡ t → fitting ks gs ≡ true → apart n (0 ∷ places_of ks) ≡ true → pick t (Some gs) (find leaf ls) ≡ Some fs
        → (find leaf ls ≡ Some fs → Lined n leaf ks' fs) → Lined n leaf ((j is ks) ∷ ks') fs
    go true i f a d k = record { places = ks; there = rw i refl; fit = subst (λ (x : Layout). fitting ks x ≡ true) (some_is d) f; alone = a }
    go false i f a d k =
        let r = k d in
        record { places = r.places; there = rw i r.there; fit = r.fit; alone = r.alone }

-- of an answer that is given
abbrev Given : {A : Type 0} → (A → Type 0) → Answer A → Type 0
Given P (answered a) = P a
Given P (refused n d) = Unit

after-given : {A B : Type 0} (P : A → ℕ → Type 0) (Q : B → Type 0) (a : Read A) (f : A → ℕ → Answer B) → Holds P a → ((v : A) (q : ℕ) → P v q → Given Q (f v q)) → Given Q (and_then a f)
after-given P Q (answered g) f h k = k g.value g.next h
after-given P Q (refused n d) f h k = tt

stop-given : {A : Type 0} (Q : A → Type 0) (b : Bool) (n : ℕ) (a : Answer A) → Given Q a → Given Q (stop b n a)
stop-given Q true n a h = tt
stop-given Q false n a h = h

given : {A : Type 0} (Q : A → Type 0) (a : Answer A) (x : A) → Given Q a → a ≡ answered x → Q x
given Q a x h e = subst (Given Q) e h

module _ (n : ℕ) (table : Table) (slots : List (Line Slots)) (beside : lined table slots ≡ true) (standing : stands n slots ≡ true) where
  abbrev Backed : List Shown → Type 0
  Backed vs = back_by table slots (row_by slots n vs) ≡ vs

  line-back : (leaf : ℕ) (fs : Layout) (vs : List Shown) → find leaf table ≡ Some fs → AllShow fs vs → Backed (number leaf ∷ vs)
  unfolding row_by back_by
  line-back leaf fs vs e h =
      let r : Lined n leaf slots fs = lines n leaf table slots fs beside standing e in
      let a = apart-first n 0 (places_of r.places) r.alone in
      let row₀ : List ℕ = set (replicate n 0) 0 leaf in
      let row : List ℕ = puts row₀ r.places vs in
      let l : length {A = ℕ} (replicate n 0) ≡ n = length-replicate n 0 in
      let f : get_or row 0 0 ≡ leaf = puts-keep row₀ r.places vs 0 a.alone ∙ get_or-set_same (replicate n 0) 0 leaf 0 (omega (arith, a.inside)) in
      let g : fields_back r.places fs row ≡ vs = fields_back_lem n r.places fs row₀ vs (length-set (replicate n 0) 0 leaf ∙ l) a.rest r.fit h in
      rw r.there (ap (λ (x : ℕ). number x ∷ line_back (find x slots) (find x table) row) f ∙ rw (r.there, e) (ap (λ (us : List Shown). number leaf ∷ us) g))

  leaf-back : (leaf : ℕ) (s : List ℕ) (p : ℕ) → 0 < p → Holds (λ (vs : List Shown) (e : ℕ). Backed vs) (read_leaf table leaf s p)
  unfolding read_leaf
  leaf-back leaf s p l = go (find leaf table) refl
    where
      go : (o : Option Layout) → find leaf table ≡ o → Holds (λ (vs : List Shown) (e : ℕ). Backed vs) (by_layout o leaf s p)
      go None e = tt
      go (Some fs) e = after (λ (vs : List Shown) (q : ℕ). AllShow fs vs) _ (read_fields fs 0 s p) _ (fields-tell s fs 0 p l) (λ vs q h. line-back leaf fs vs e h)

  -- a record at any place, and the record that the bytes are
  record-back : (s : List ℕ) (p : ℕ) → Holds (λ (vs : List Shown) (e : ℕ). Backed vs) (read_record table s p)
  unfolding read_record
  record-back s p = leaf_first s _ p _ (λ leaf q l. leaf-back leaf s q l)

  whole_back : (s : List ℕ) (vs : List Shown) → record_of table s ≡ answered vs → Backed vs
  unfolding record_of leaf_of
  whole_back s vs e =
      given Backed (record_of table s) vs
      (after-given (λ (leaf : ℕ) (q : ℕ). 0 + 2 ≤ q) Backed (fixed_at 2 s 0) _ (fixed_on s 2 0) (λ leaf q l.
      after-given (λ (us : List Shown) (q : ℕ). Backed us) Backed (read_leaf table leaf s q) _ (leaf-back leaf s q (omega arith)) (λ us q h. h)))
      e

-- Elements -----------------------------------------------------------------------------------------------------------------------------

type-back : (vs : List Shown) → AllShow (type_index ∷ []) vs → fields_back index_slots (type_index ∷ []) (index_row vs) ≡ vs
unfolding index_row apart among places_of slot_kind fitting
type-back vs h = zeros-back 10 index_slots (type_index ∷ []) vs refl refl h

id-back : (vs : List Shown) → AllShow (id ∷ []) vs → fields_back index_slots (id ∷ []) (index_row vs) ≡ vs
unfolding index_row apart among places_of slot_kind fitting
id-back vs h = zeros-back 10 index_slots (id ∷ []) vs refl refl h

method-back : (vs : List Shown) → AllShow method vs → fields_back method_slots method (method_row vs) ≡ vs
unfolding method_row
method-back vs h = zeros-back 10 method_slots method vs slots-stand.methods_apart slots-stand.methods_fitting h

module _ (s : List ℕ) where
  -- the element of a step is what is made of its row
  abbrev Made : (List ℕ → ElementValues) → Step → Type 0
  Made back x = back (element_row x.element) ≡ x.element

  types-made : (leaf p left : ℕ) → Given (Made (λ row. type_element (fields_back index_slots (type_index ∷ []) row))) (counted_step type_index type_element leaf s p left)
  unfolding counted_step
  types-made leaf p left =
      stop-given _ (eqb left 0) 15 _
      (after-given (λ (vs : List Shown) (q : ℕ). AllShow (type_index ∷ []) vs) _ (read_fields (type_index ∷ []) 0 s p) _ (type-tells s p) (λ vs q h. ap type_element (type-back vs h)))

  ids-made : (leaf p left : ℕ) → Given (Made (λ row. id_element (fields_back index_slots (id ∷ []) row))) (counted_step id id_element leaf s p left)
  unfolding counted_step
  ids-made leaf p left =
      stop-given _ (eqb left 0) 15 _
      (after-given (λ (vs : List Shown) (q : ℕ). AllShow (id ∷ []) vs) _ (read_fields (id ∷ []) 0 s p) _ (id-tells s p) (λ vs q h. ap id_element (id-back vs h)))

  methods-made : (p : ℕ) → Given (Made (λ row. method_element (fields_back method_slots method row))) (method_step s p)
  unfolding method_step
  methods-made p =
      stop-given _ (leb (length s) p) 15 _
      (after-given (λ (vs : List Shown) (q : ℕ). AllShow method vs) _ (read_fields method 0 s p) _ (method-tells s p) (λ vs q h. ap method_element (method-back vs h)))

  member-made : (p : ℕ) → Given (Made (λ row. member_element (back_by member_leaves member_slots row))) (member_step s p)
  unfolding member_step
  member-made p =
      stop-given _ (leb (length s) p) 15 _
      (after-given (λ (vs : List Shown) (q : ℕ). back_by member_leaves member_slots (member_row vs) ≡ vs) _ (read_record member_leaves s p) _
      (record-back 10 member_leaves member_slots slots-stand.members_lined slots-stand.members_apart s p) (λ vs q h. ap member_element h))

  members-made : (p left : ℕ) (padded : Bool) → Given (Made (λ row. member_element (back_by member_leaves member_slots row))) (next_member s p left padded)
  unfolding next_member
  members-made p left padded = stop-given _ (eqb left 0) 15 _ (go (pick padded (padding_after s p) (answered p)))
    where
      go : (a : Answer ℕ) → Given (Made (λ row. member_element (back_by member_leaves member_slots row))) (then a (λ q. member_step s q))
      go (answered q) = member-made q
      go (refused n d) = tt

  step-made : (c : ListCursor) → Given (Made (element_back c.leaf)) (step_of s c)
  unfolding step_of element_back
  step-made c = go (eqb c.leaf 0x1201) (eqb c.leaf 0x1206) (eqb c.leaf 0x1203) (eqb c.leaf 0x1603) (eqb c.leaf 0x1604)
    where
      go : (a b d e g : Bool) → Given
          (Made (λ row. pick a (type_element (fields_back index_slots (type_index ∷ []) row)) (pick b (method_element (fields_back method_slots method row)) (pick d (member_element (back_by member_leaves member_slots row))
          (pick e (id_element (fields_back index_slots (id ∷ []) row)) (type_element (fields_back index_slots (type_index ∷ []) row)))))))
          (pick a (counted_step type_index type_element 0x1201 s c.at c.left) (pick b (method_step s c.at) (pick d (next_member s c.at c.left c.padded)
          (pick e (counted_step id id_element 0x1603 s c.at c.left) (pick g (counted_step type_index type_element 0x1604 s c.at c.left) (refused 10 (c.leaf ∷ [])))))))
      go true b d e g = types-made 0x1201 c.at c.left
      go false true d e g = methods-made c.at
      go false false true e g = members-made c.at c.left c.padded
      go false false false true g = ids-made 0x1603 c.at c.left
      go false false false false true = types-made 0x1604 c.at c.left
      go false false false false false = tt

pub rows_tell : RowsTell
rows_tell = record {
  types = whole_back 13 type_leaves type_slots slots-stand.types_lined slots-stand.types_apart;
  ids = whole_back 10 id_leaves id_slots slots-stand.ids_lined slots-stand.ids_apart;
  elements = λ s c x e. given (Made s (element_back c.leaf)) (step_of s c) x (step-made s c) e;
}
