-- R-9's yes says exactly its sentences, and its no names the lowest faulty record and the first rule that it breaks. Assumes nothing.
use Rattle.std.specs.Prelude.{Option, None, Some}
use Prim.Native.Nat.{ℕ, zero, suc, ◌+◌, ◌-◌, ◌≤◌, ◌<◌}
use native.Mathlib.Omega.{arith}
use mathlib.Core.Bool.{Bool, true, false}
use mathlib.Core.Path.{◌≡◌, refl, ap, sym, ◌∙◌}
use mathlib.Core.Logic.{◌⊎◌, inl, inr}
use mathlib.Core.List.{List, [], ◌∷◌}
use lib.ListN.{length}
use lib.Dec.{leb, ltb, eqb}
use borrow.Author.Tests.{le-leb, lt-leb, le-ltb, lt-ltb, leb-false, leb-true, ltb-true, ltb-false, eqb-true, eqb-false, eq-eqb}
use Rattle.answer.specs.Answer.{Answer, answered, refused, pick, both, stop}
use Rattle.field.specs.Fields.{little_at}
use Rattle.field.specs.declared.index.Stream.TheVariants as stream
use Rattle.word_primitive.specs.Primitive.{primitive_of}
use Rattle.stream_header.specs.Header.{longest, zero_header, fields_of, header_of}
use Rattle.stream_header.specs.declared.Header.{Header}
use Rattle.stream_item.specs.Iterator.{iter_of, Next, done, yielded, next_of}
use Rattle.stream_item.specs.declared.Item.{Item}
use Rattle.stream_item.specs.declared.iter.ItemIter.{ItemIter}
use Rattle.stream_item.proofs.NextLaws.{yields, passed, iter-is}
use Rattle.stream_item.proofs.LinkLaws.{whole_is}
use Rattle.record_layout.specs.Layouts.{is_answered}
use Rattle.record_reference.specs.References.{Ref, refs_of}
use Rattle.record_reference.proofs.ValueLaws.{no_answer}
use Rattle.record_reference.proofs.DecodedLaws.{has-exactly}
use Rattle.stream_fit.specs.Fit.{Verdict, fit, unfit, disorderly, bad_primitive, in_gap, some_ref, rule_in, rule_of, payload_of, unless_fault, judged_by, judged, fit_of}
use Rattle.stream_fit.specs.Sentences.{In, OrderKept, PrimitivesKept, GapKept, Good, Breaks, decode, order, primitive, gap, Visits, stays, goes, Fit, GoodBelow, Faulty, stopped, broken, counted, FitSentences}

-- One record ---------------------------------------------------------------------------------------------------------------------------

true-false : {X : Type 0} → true ≡ false → X
true-false e = let z : ◌≡◌ {A = ℕ} 0 1 = cc in absurd (omega arith)

some-none : {X : Type 0} {n : ℕ} → ◌≡◌ {A = Option ℕ} (Some n) None → X
some-none {X} {n} h = let z : ◌≡◌ {A = ℕ} 0 1 = cc in absurd (omega arith)

none-at-fault : (fault : ℕ → Bool) (rs : List Ref) → some_ref fault rs ≡ false → (r : Ref) → In r rs → fault r.index ≡ false
unfolding some_ref In
none-at-fault fault [] h r m = absurd m
none-at-fault fault (x ∷ rs) h r m = go (fault x.index) refl h m (λ g. none-at-fault fault rs g r)
  where
    go : (b : Bool) → fault x.index ≡ b → pick b true (some_ref fault rs) ≡ false → (r ≡ x) ⊎ In r rs → (some_ref fault rs ≡ false → In r rs → fault r.index ≡ false) → fault r.index ≡ false
    go true e g m ih = true-false g
    go false e g (inl i) ih = ap (λ y. fault y.index) i ∙ e
    go false e g (inr i) ih = ih g i

none-fault : (fault : ℕ → Bool) (rs : List Ref) → ((r : Ref) → In r rs → fault r.index ≡ false) → some_ref fault rs ≡ false
unfolding some_ref In
none-fault fault [] h = refl
none-fault fault (x ∷ rs) h = rw (h x (inl refl)) (none-fault fault rs (λ r m. h r (inr m)))

both_false : (a b : Bool) → both a b ≡ false → a ≡ true → b ≡ false
both_false true b h e = h
both_false false b h e = true-false (sym e)

not-false : (b : Bool) → pick b false true ≡ false → b ≡ true
not-false true h = refl
not-false false h = true-false h

-- each fault, as an order
module _ (minimum index n : ℕ) where
  ordered : disorderly minimum index n ≡ false → minimum ≤ n → n < index
  ordered h l = leb-false _ _ (both_false (leb minimum n) (leb index n) h (le-leb _ _ l))

  orderly : (minimum ≤ n → n < index) → disorderly minimum index n ≡ false
  orderly h = go (leb minimum n) refl
    where
      go : (b : Bool) → leb minimum n ≡ b → both b (leb index n) ≡ false
      go true e = lt-leb _ _ (h (leb-true _ _ e))
      go false e = refl

  good-one : bad_primitive n ≡ false → n < 0x1000 → is_answered (primitive_of n) ≡ true
  good-one h l = not-false (is_answered (primitive_of n)) (both_false (ltb n 0x1000) (pick (is_answered (primitive_of n)) false true) h (lt-ltb _ _ l))

  one-good : (n < 0x1000 → is_answered (primitive_of n) ≡ true) → bad_primitive n ≡ false
  one-good h = go (ltb n 0x1000) refl
    where
      go : (b : Bool) → ltb n 0x1000 ≡ b → both b (pick (is_answered (primitive_of n)) false true) ≡ false
      go true e = rw (h (ltb-true _ _ e))
      go false e = refl

  above : in_gap minimum n ≡ false → 0x1000 ≤ n → minimum ≤ n
  above h l = ltb-false _ _ (both_false (leb 0x1000 n) (ltb n minimum) h (le-leb _ _ l))

  no_gap : (0x1000 ≤ n → minimum ≤ n) → in_gap minimum n ≡ false
  no_gap h = go (leb 0x1000 n) refl
    where
      go : (b : Bool) → leb 0x1000 n ≡ b → both b (ltb n minimum) ≡ false
      go true e = le-ltb _ _ (h (leb-true _ _ e))
      go false e = refl

module _ (minimum index : ℕ) (p : List ℕ) where
  rule-good : rule_of minimum index p ≡ None → Good minimum index p
  unfolding rule_of
  rule-good h = go (refs_of p) refl h
    where
      tests : (rs : List Ref) → refs_of p ≡ answered rs → (a b c : Bool) → some_ref (disorderly minimum index) rs ≡ a → some_ref bad_primitive rs ≡ b → some_ref (in_gap minimum) rs ≡ c
          → pick {A = Option ℕ} a (Some 3) (pick b (Some 4) (pick c (Some 5) None)) ≡ None → Good minimum index p
      tests rs e true b c x y z g = some-none g
      tests rs e false true c x y z g = some-none g
      tests rs e false false true x y z g = some-none g
      tests rs e false false false x y z g = record {
        decodes = has-exactly.has_decoded p (record { refs = rs; are = e });
        order = λ us f r m. let i : us ≡ rs = cc in ordered minimum index r.index (none-at-fault (disorderly minimum index) rs x r (rw i at m));
        primitives = λ us f r m. let i : us ≡ rs = cc in good-one minimum index r.index (none-at-fault bad_primitive rs y r (rw i at m));
        gap = λ us f r m. let i : us ≡ rs = cc in above minimum index r.index (none-at-fault (in_gap minimum) rs z r (rw i at m));
      }

      go : (a : Answer (List Ref)) → refs_of p ≡ a → rule_in minimum index a ≡ None → Good minimum index p
      go (refused n d) e g = some-none g
      go (answered rs) e g = tests rs e (some_ref (disorderly minimum index) rs) (some_ref bad_primitive rs) (some_ref (in_gap minimum) rs) refl refl refl g

  good-rule : Good minimum index p → rule_of minimum index p ≡ None
  unfolding rule_of
  good-rule g =
      let k = has-exactly.decoded_has p g.decodes in
      let rs = k.refs in
      let x : some_ref (disorderly minimum index) rs ≡ false = none-fault (disorderly minimum index) rs (λ r m. orderly minimum index r.index (g.order rs k.are r m)) in
      let y : some_ref bad_primitive rs ≡ false = none-fault bad_primitive rs (λ r m. one-good minimum index r.index (g.primitives rs k.are r m)) in
      let z : some_ref (in_gap minimum) rs ≡ false = none-fault (in_gap minimum) rs (λ r m. no_gap minimum index r.index (g.gap rs k.are r m)) in
      rw (k.are, x, y, z)

  module _ (rs : List Ref) where
    order-of : some_ref (disorderly minimum index) rs ≡ false → OrderKept minimum index rs
    order-of x r m = ordered minimum index r.index (none-at-fault (disorderly minimum index) rs x r m)

    no-order : some_ref (disorderly minimum index) rs ≡ true → OrderKept minimum index rs → ⊥
    no-order x k = true-false (sym x ∙ none-fault (disorderly minimum index) rs (λ r m. orderly minimum index r.index (k r m)))

    primitives-of : some_ref bad_primitive rs ≡ false → PrimitivesKept rs
    primitives-of x r m = good-one minimum index r.index (none-at-fault bad_primitive rs x r m)

    no-primitives : some_ref bad_primitive rs ≡ true → PrimitivesKept rs → ⊥
    no-primitives x k = true-false (sym x ∙ none-fault bad_primitive rs (λ r m. one-good minimum index r.index (k r m)))

    no-gap-kept : some_ref (in_gap minimum) rs ≡ true → GapKept minimum rs → ⊥
    no-gap-kept x k = true-false (sym x ∙ none-fault (in_gap minimum) rs (λ r m. no_gap minimum index r.index (k r m)))

  rule-breaks : (rule : ℕ) → rule_of minimum index p ≡ Some rule → Breaks minimum index p rule
  unfolding rule_of
  rule-breaks rule h = go (refs_of p) refl h
    where
      tests : (rs : List Ref) → refs_of p ≡ answered rs → (a b c : Bool) → some_ref (disorderly minimum index) rs ≡ a → some_ref bad_primitive rs ≡ b → some_ref (in_gap minimum) rs ≡ c
          → pick {A = Option ℕ} a (Some 3) (pick b (Some 4) (pick c (Some 5) None)) ≡ Some rule → Breaks minimum index p rule
      tests rs e true b c x y z g = let i : ◌≡◌ {A = ℕ} 3 rule = cc in rw (← i) (order rs e (no-order rs x))
      tests rs e false true c x y z g = let i : ◌≡◌ {A = ℕ} 4 rule = cc in rw (← i) (primitive rs e (order-of rs x) (no-primitives rs y))
      tests rs e false false true x y z g = let i : ◌≡◌ {A = ℕ} 5 rule = cc in rw (← i) (gap rs e (order-of rs x) (primitives-of rs y) (no-gap-kept rs z))
      tests rs e false false false x y z g = some-none (sym g)

      go : (a : Answer (List Ref)) → refs_of p ≡ a → rule_in minimum index a ≡ Some rule → Breaks minimum index p rule
      go (refused n d) e g = let i : ◌≡◌ {A = ℕ} 2 rule = cc in rw (← i) (decode (λ k. no_answer (sym e ∙ (has-exactly.decoded_has p k).are)))
      go (answered rs) e g = tests rs e (some_ref (disorderly minimum index) rs) (some_ref bad_primitive rs) (some_ref (in_gap minimum) rs) refl refl refl g

-- The walk ------------------------------------------------------------------------------------------------------------------------------

unfit-fit : {X : Type 0} {i r : ℕ} → unfit i r ≡ fit → X
unfit-fit {X} {i} {r} h = let z : ◌≡◌ {A = ℕ} 0 1 = cc in absurd (omega arith)

next-apart : {X : Type 0} {i : Item} {d : ItemIter} → ◌≡◌ {A = Answer Next} (answered (yielded i d)) (answered done) → X
next-apart {X} {i} {d} h = let z : ◌≡◌ {A = ℕ} 0 1 = cc in absurd (omega arith)

-- a record takes bytes
record-onward : (s : List ℕ) (c : ItemIter) (i : Item) (d : ItemIter) → next_of s c ≡ answered (yielded i d) → (c.at < d.at) × (d.at ≤ length s)
record-onward s c i d e =
    let y = yields s c i d e in
    let w = whole_is s c.at i.place i.length y.whole in
    (omega (arith, y.at, w.start), y.inside)

-- indices go up by one
pub visits-index : (s : List ℕ) (c : ItemIter) (n : ℕ) (d : ItemIter) → Visits s c n d → d.index ≡ c.index + n
visits-index s c n d stays = omega arith
visits-index s c n d (goes {d = e} {i = i} {n = k} f v) = omega (arith, (yields s c i e f).index, visits-index s e k d v)

-- the sentences from any cursor on, the count by the index that the walk ends at
record From (s : List ℕ) (minimum maximum : ℕ) (c : ItemIter) : Type 0 where
  walks : (n : ℕ) (d : ItemIter) → Visits s c n d → (m : ℕ) (es : List ℕ) → next_of s d ≡ refused m es → ⊥
  records : (n : ℕ) (d : ItemIter) → Visits s c n d → (i : Item) (e : ItemIter) → next_of s d ≡ answered (yielded i e) → Good minimum d.index (payload_of s i)
  count : (n : ℕ) (d : ItemIter) → Visits s c n d → next_of s d ≡ answered done → d.index ≡ maximum

module _ (s : List ℕ) (minimum maximum : ℕ) where
  from-over : (c : ItemIter) → next_of s c ≡ answered done → c.index ≡ maximum → From s minimum maximum c
  from-over c i j = record { walks = walks; records = records; count = count }
    where
      walks : (n : ℕ) (d : ItemIter) → Visits s c n d → (m : ℕ) (es : List ℕ) → next_of s d ≡ refused m es → ⊥
      walks n d stays m es f = no_answer (sym f ∙ i)
      walks n d (goes f v) m es x = next-apart (sym f ∙ i)

      records : (n : ℕ) (d : ItemIter) → Visits s c n d → (k : Item) (e : ItemIter) → next_of s d ≡ answered (yielded k e) → Good minimum d.index (payload_of s k)
      records n d stays k e f = next-apart (sym f ∙ i)
      records n d (goes f v) k e x = next-apart (sym f ∙ i)

      count : (n : ℕ) (d : ItemIter) → Visits s c n d → next_of s d ≡ answered done → d.index ≡ maximum
      count n d stays f = j
      count n d (goes f v) x = next-apart (sym f ∙ i)

  from_more : (c : ItemIter) (k : Item) (d : ItemIter) → next_of s c ≡ answered (yielded k d) → Good minimum c.index (payload_of s k) → From s minimum maximum d → From s minimum maximum c
  from_more c k d i good f = record { walks = walks; records = records; count = count }
    where
      there : {m : Item} {e : ItemIter} → next_of s c ≡ answered (yielded m e) → d ≡ e
      there {m} {e} j = let z : answered (yielded k d) ≡ answered (yielded m e) = sym i ∙ j in cc

      walks : (n : ℕ) (e : ItemIter) → Visits s c n e → (m : ℕ) (es : List ℕ) → next_of s e ≡ refused m es → ⊥
      walks n e stays m es x = no_answer (sym x ∙ i)
      walks n e (goes {n = l} j v) m es x = f.walks l e (rw (← there j) at v) m es x

      records : (n : ℕ) (e : ItemIter) → Visits s c n e → (m : Item) (q : ItemIter) → next_of s e ≡ answered (yielded m q) → Good minimum e.index (payload_of s m)
      records n e stays m q x = let z : k ≡ m = cc in rw (← z) good
      records n e (goes {n = l} j v) m q x = f.records l e (rw (← there j) at v) m q x

      count : (n : ℕ) (e : ItemIter) → Visits s c n e → next_of s e ≡ answered done → e.index ≡ maximum
      count n e stays x = next-apart (sym i ∙ x)
      count n e (goes {n = l} j v) x = f.count l e (rw (← there j) at v) x

  from-after : (c : ItemIter) (k : Item) (d : ItemIter) → next_of s c ≡ answered (yielded k d) → From s minimum maximum c → From s minimum maximum d
  from-after c k d i f = record {
    walks = λ n e v. f.walks (suc n) e (goes i v);
    records = λ n e v. f.records (suc n) e (goes i v);
    count = λ n e v. f.count (suc n) e (goes i v);
  }

  walk-sound : (n : ℕ) (c : ItemIter) → judged n s minimum maximum c ≡ fit → From s minimum maximum c
  unfolding judged
  walk-sound zero c e = unfit-fit e
  walk-sound (suc n) c e = go (next_of s c) refl e (λ d. walk-sound n d)
    where
      last : next_of s c ≡ answered done → (b : Bool) → eqb c.index maximum ≡ b → pick b fit (unfit 0 1) ≡ fit → From s minimum maximum c
      last i false j g = unfit-fit g
      last i true j g = from-over c i (eqb-true _ _ j)

      rule : (k : Item) (d : ItemIter) → next_of s c ≡ answered (yielded k d) → (o : Option ℕ) → rule_of minimum c.index (payload_of s k) ≡ o
          → unless_fault o c.index (judged n s minimum maximum d) ≡ fit → ((d : ItemIter) → judged n s minimum maximum d ≡ fit → From s minimum maximum d) → From s minimum maximum c
      rule k d i None j g ih = from_more c k d i (rule-good minimum c.index (payload_of s k) j) (ih d g)
      rule k d i (Some r) j g ih = unfit-fit g

      go : (a : Answer Next) → next_of s c ≡ a → judged_by s minimum maximum c (λ d. judged n s minimum maximum d) a ≡ fit
          → ((d : ItemIter) → judged n s minimum maximum d ≡ fit → From s minimum maximum d) → From s minimum maximum c
      go (refused m d) i g ih = unfit-fit g
      go (answered done) i g ih = last i (eqb c.index maximum) refl g
      go (answered (yielded k d)) i g ih = rule k d i (rule_of minimum c.index (payload_of s k)) refl g ih

  walk-complete : (n : ℕ) (c : ItemIter) → 0 < n → length s < c.at + n → From s minimum maximum c → judged n s minimum maximum c ≡ fit
  unfolding judged
  walk-complete zero c l b f = absurd (omega arith)
  walk-complete (suc n) c l b f = go (next_of s c) refl (λ d. walk-complete n d)
    where
      go : (a : Answer Next) → next_of s c ≡ a → ((d : ItemIter) → 0 < n → length s < d.at + n → From s minimum maximum d → judged n s minimum maximum d ≡ fit)
          → judged_by s minimum maximum c (λ d. judged n s minimum maximum d) a ≡ fit
      go (refused m d) i ih = absurd (f.walks 0 c stays m d i)
      go (answered done) i ih = rw (eq-eqb _ _ (f.count 0 c stays i))
      go (answered (yielded k d)) i ih =
          let o = record-onward s c k d i in
          rw (good-rule minimum c.index (payload_of s k) (f.records 0 c stays k d i)) (ih d (omega (arith, o.0, o.1)) (omega (arith, o.0)) (from-after c k d i f))

-- The no ---------------------------------------------------------------------------------------------------------------------------------

module _ (s : List ℕ) (h : Header) where
  below-first : (c : ItemIter) → GoodBelow s h c c.index
  below-first c k x v l i e f = absurd (omega (arith, visits-index s c k x v))

  below_more : (c : ItemIter) (k : Item) (d : ItemIter) → next_of s c ≡ answered (yielded k d) → Good h.minimum_index c.index (payload_of s k) → (n : ℕ) → GoodBelow s h d n → GoodBelow s h c n
  below_more c k d i good n b j x stays l m e f =
      let z : answered (yielded k d) ≡ answered (yielded m e) = sym i ∙ f in
      let y : k ≡ m = cc in
      rw (← y) good
  below_more c k d i good n b j x (goes {d = q} {i = p} {n = t} g v) l m e f =
      let z : answered (yielded k d) ≡ answered (yielded p q) = sym i ∙ g in
      let y : d ≡ q = cc in
      b t x (rw (← y) at v) l m e f

  -- a fault from a cursor on, the count by the index that the walk ends at
  data FaultyFrom (c : ItemIter) : ℕ → ℕ → Type 0 where
    stopped_at : (n : ℕ) (d : ItemIter) → Visits s c n d → GoodBelow s h c d.index → (m : ℕ) (es : List ℕ) → next_of s d ≡ refused m es → FaultyFrom c d.index 2
    broken_at : (n : ℕ) (d : ItemIter) → Visits s c n d → GoodBelow s h c d.index → (i : Item) (e : ItemIter) → next_of s d ≡ answered (yielded i e) → {rule : ℕ}
        → Breaks h.minimum_index d.index (payload_of s i) rule → FaultyFrom c d.index rule
    counted_at : (n : ℕ) (d : ItemIter) → Visits s c n d → GoodBelow s h c d.index → next_of s d ≡ answered done → (d.index ≡ h.maximum_index → ⊥) → FaultyFrom c 0 1

  faulty-more : (c : ItemIter) (k : Item) (d : ItemIter) → next_of s c ≡ answered (yielded k d) → Good h.minimum_index c.index (payload_of s k) → (i rule : ℕ) → FaultyFrom d i rule → FaultyFrom c i rule
  faulty-more c k d e good i rule (stopped_at n x v b m es f) = stopped_at (suc n) x (goes e v) (below_more c k d e good x.index b) m es f
  faulty-more c k d e good i rule (broken_at n x v b m q f r) = broken_at (suc n) x (goes e v) (below_more c k d e good x.index b) m q f r
  faulty-more c k d e good i rule (counted_at n x v b f r) = counted_at (suc n) x (goes e v) (below_more c k d e good x.index b) f r

  walk-names : (n : ℕ) (c : ItemIter) (i rule : ℕ) → 0 < n → length s < c.at + n → judged n s h.minimum_index h.maximum_index c ≡ unfit i rule → FaultyFrom c i rule
  unfolding judged
  walk-names zero c i rule l b e = absurd (omega arith)
  walk-names (suc n) c i rule l b e = go (next_of s c) refl e (λ d. walk-names n d i rule)
    where
      verdict : ItemIter → Verdict
      verdict d = judged n s h.minimum_index h.maximum_index d

      last : next_of s c ≡ answered done → (b : Bool) → eqb c.index h.maximum_index ≡ b → pick b fit (unfit 0 1) ≡ unfit i rule → FaultyFrom c i rule
      last f true j g = unfit-fit (sym g)
      last f false j g =
          let x : ◌≡◌ {A = ℕ} 0 i = cc in
          let y : ◌≡◌ {A = ℕ} 1 rule = cc in
          rw (← x, ← y) (counted_at 0 c stays (below-first c) f (eqb-false _ _ j))

      by-rule : (k : Item) (d : ItemIter) → next_of s c ≡ answered (yielded k d) → (o : Option ℕ) → rule_of h.minimum_index c.index (payload_of s k) ≡ o
          → unless_fault o c.index (judged n s h.minimum_index h.maximum_index d) ≡ unfit i rule
          → ((d : ItemIter) → 0 < n → length s < d.at + n → judged n s h.minimum_index h.maximum_index d ≡ unfit i rule → FaultyFrom d i rule) → FaultyFrom c i rule
      by-rule k d f None j g ih =
          let o = record-onward s c k d f in
          faulty-more c k d f (rule-good h.minimum_index c.index (payload_of s k) j) i rule (ih d (omega (arith, o.0, o.1)) (omega (arith, o.0)) g)
      by-rule k d f (Some r) j g ih =
          let x : c.index ≡ i = cc in
          let y : r ≡ rule = cc in
          rw (← x, ← y) (broken_at 0 c stays (below-first c) k d f (rule-breaks h.minimum_index c.index (payload_of s k) r j))

      go : (a : Answer Next) → next_of s c ≡ a → judged_by s h.minimum_index h.maximum_index c (λ d. judged n s h.minimum_index h.maximum_index d) a ≡ unfit i rule
          → ((d : ItemIter) → 0 < n → length s < d.at + n → judged n s h.minimum_index h.maximum_index d ≡ unfit i rule → FaultyFrom d i rule) → FaultyFrom c i rule
      go (refused m d) f g ih =
          let x : c.index ≡ i = cc in
          let y : ◌≡◌ {A = ℕ} 2 rule = cc in
          rw (← x, ← y) (stopped_at 0 c stays (below-first c) m d f)
      go (answered done) f g ih = last f (eqb c.index h.maximum_index) refl g
      go (answered (yielded k d)) f g ih = by-rule k d f (rule_of h.minimum_index c.index (payload_of s k)) refl g ih

-- The whole stream ------------------------------------------------------------------------------------------------------------------------

-- an accepted header has its maximum at or above its minimum
header-order : (s : List ℕ) (h : Header) → header_of s ≡ answered h → h.minimum_index ≤ h.maximum_index
unfolding header_of
header-order s h e = go (eqb (length s) 0) (passed (ltb longest (length s)) 16 _ _ e).1
  where
    taken : (x y : Header) → answered x ≡ answered y → x ≡ y
    taken x y i = cc

    go : (b : Bool) → pick b (answered zero_header) (stop (ltb (length s) 56) 1 (stop (ltb (little_at 4 s 4) 56) 2 (stop (ltb 1024 (little_at 4 s 4)) 3 (stop (ltb (length s) (little_at 4 s 4)) 1
        (stop (ltb (little_at 4 s 8) 4096) 4 (stop (ltb (little_at 4 s 12) (little_at 4 s 8)) 5 (answered (fields_of s)))))))) ≡ answered h → h.minimum_index ≤ h.maximum_index
    go true i = rw (← taken zero_header h i) (omega arith)
    go false i =
        let t1 = passed (ltb (length s) 56) 1 _ _ i in
        let t2 = passed (ltb (little_at 4 s 4) 56) 2 _ _ t1.1 in
        let t3 = passed (ltb 1024 (little_at 4 s 4)) 3 _ _ t2.1 in
        let t4 = passed (ltb (length s) (little_at 4 s 4)) 1 _ _ t3.1 in
        let t5 = passed (ltb (little_at 4 s 8) 4096) 4 _ _ t4.1 in
        let t6 = passed (ltb (little_at 4 s 12) (little_at 4 s 8)) 5 _ _ t5.1 in
        rw (← taken (fields_of s) h t6.1) (ltb-false _ _ t6.0)

-- the first cursor stands behind the header and has the minimum
module _ (s : List ℕ) (h : Header) (c : ItemIter) (e : header_of s ≡ answered h) (i : iter_of stream.Types s ≡ answered c) where
  first-is : record { stream = stream.Types; at = h.header_size; index = h.minimum_index } ≡ c
  first-is = let z : answered (record { stream = stream.Types; at = h.header_size; index = h.minimum_index }) ≡ answered c = sym (iter-is stream.Types s h e) ∙ i in cc

  pub first-index : c.index ≡ h.minimum_index
  first-index = sym (ap (λ (x : ItemIter). x.index) first-is)

  pub first-at : h.header_size ≡ c.at
  first-at = ap (λ (x : ItemIter). x.at) first-is

module _ (s : List ℕ) (h : Header) (c : ItemIter) (e : header_of s ≡ answered h) (i : iter_of stream.Types s ≡ answered c) where
  verdict-is : fit_of s ≡ answered (judged (suc (length s)) s h.minimum_index h.maximum_index c)
  unfolding fit_of
  verdict-is = rw (e, i)

  -- so many records exactly if the walk ends at the maximum
  count-is : (n : ℕ) (d : ItemIter) → Visits s c n d → d.index ≡ h.maximum_index → n ≡ h.maximum_index - h.minimum_index
  count-is n d v j = omega (arith, visits-index s c n d v, first-index s h c e i)

  ends_at : (n : ℕ) (d : ItemIter) → Visits s c n d → n ≡ h.maximum_index - h.minimum_index → d.index ≡ h.maximum_index
  ends_at n d v j = omega (arith, visits-index s c n d v, first-index s h c e i, header-order s h e)

  fit-sound : fit_of s ≡ answered fit → Fit s h c
  fit-sound g =
      let z : answered (judged (suc (length s)) s h.minimum_index h.maximum_index c) ≡ answered fit = sym verdict-is ∙ g in
      let f = walk-sound s h.minimum_index h.maximum_index (suc (length s)) c cc in
      record { walks = f.walks; records = f.records; count = λ n d v x. count-is n d v (f.count n d v x) }

  fit-complete : Fit s h c → fit_of s ≡ answered fit
  fit-complete f =
      let from : From s h.minimum_index h.maximum_index c = record { walks = f.walks; records = f.records; count = λ n d v x. ends_at n d v (f.count n d v x) } in
      verdict-is ∙ ap answered (walk-complete s h.minimum_index h.maximum_index (suc (length s)) c (omega arith) (omega arith) from)

  fit-names : (k rule : ℕ) → fit_of s ≡ answered (unfit k rule) → Faulty s h c k rule
  fit-names k rule g =
      let z : answered (judged (suc (length s)) s h.minimum_index h.maximum_index c) ≡ answered (unfit k rule) = sym verdict-is ∙ g in
      go k rule (walk-names s h (suc (length s)) c k rule (omega arith) (omega arith) cc)
    where
      go : (k rule : ℕ) → FaultyFrom s h c k rule → Faulty s h c k rule
      go k rule (stopped_at n d v b m es f) = stopped n d v b m es f
      go k rule (broken_at n d v b m q f r) = broken n d v b m q f r
      go k rule (counted_at n d v b f r) = counted n d v b f (λ j. r (ends_at n d v j))

fit-refuses : (s : List ℕ) (n : ℕ) (d : List ℕ) → header_of s ≡ refused n d → fit_of s ≡ refused n d
unfolding fit_of
fit-refuses s n d e = rw e

no_other : (s : List ℕ) (n : ℕ) (d : List ℕ) → fit_of s ≡ refused n d → header_of s ≡ refused n d
no_other s n d g = go (header_of s) refl
  where
    go : (a : Answer Header) → header_of s ≡ a → header_of s ≡ refused n d
    go (refused m es) e =
        let z : ◌≡◌ {A = Answer Verdict} (refused m es) (refused n d) = sym (fit-refuses s m es e) ∙ g in
        let x : m ≡ n = cc in
        let y : es ≡ d = cc in
        e ∙ rw (x, y)
    go (answered h) e = no_answer (sym g ∙ verdict-is s h (record { stream = stream.Types; at = h.header_size; index = h.minimum_index }) e (iter-is stream.Types s h e))

pub sentences : FitSentences
sentences = record {
  sound = fit-sound;
  complete = fit-complete;
  names = λ s h c k rule e i. fit-names s h c e i k rule;
  refuses = fit-refuses;
  no_other = no_other;
}
