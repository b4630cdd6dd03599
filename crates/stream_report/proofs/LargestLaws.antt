-- The largest payload of a report is that of the first record that has it: indices rise along a stream, and a record takes the largest's place only if it is
-- longer. Assumes nothing.
use Prim.Native.Nat.{ℕ, zero, suc, ◌≤◌, ◌<◌}
use mathlib.Core.Path.{◌≡◌, refl, sym, ◌∙◌, subst}
use mathlib.Core.Bool.{Bool, true, false}
use mathlib.Core.List.{List, [], ◌∷◌}
use mathlib.Core.Logic.{◌⊎◌, inl, inr}
use native.Mathlib.Omega.{arith}
use lib.ListN.{length}
use lib.Dec.{ltb}
use borrow.Author.Tests.{ltb-true, ltb-false}
use Rattle.answer.specs.Answer.{Answer, answered, refused, pick, then}
use Rattle.field.specs.Fields.{little_at}
use Rattle.field.specs.declared.index.Stream.TheVariants as stream
use Rattle.stream_item.specs.Iterator.{iter_of, Next, done, yielded, next_of}
use Rattle.stream_item.specs.declared.Item.{Item}
use Rattle.stream_item.specs.declared.iter.ItemIter.{ItemIter}
use Rattle.stream_report.specs.declared.Largest.{Largest}
use Rattle.stream_report.specs.Report.{Counting, counted, larger}
use Rattle.stream_report.specs.Sums.{RecordSeen, Stream, seen_by, stream_of, count_all, Among, first, later, RecordIn, in_last, in_earlier, Precedes, NoRecord, FirstLongest}
use Rattle.stream_report.proofs.SumLaws.{never, seen_step}
use Rattle.stream_report.proofs.WalkLaws.{Further, further}

-- ---- the records of a stream: from an index on, each above the one before, none empty
data Rising : ℕ → List RecordSeen → Type 0 where
  over : {n : ℕ} → Rising n []
  up : {n : ℕ} {y : RecordSeen} {ys : List RecordSeen} → n ≤ y.index → 0 < y.bytes → Rising (suc y.index) ys → Rising n (y ∷ ys)

from : (n : ℕ) (ys : List RecordSeen) → Rising n ys → (x : RecordSeen) → Among ys x → (n ≤ x.index) × (0 < x.bytes)
from n [] r x m = elim m [ ]
from n (y ∷ ys) (up a b r) x first = (a, b)
from n (y ∷ ys) (up a b r) x (later m) = let h = from (suc y.index) ys r x m in (omega (arith, h.0, a), h.1)

none-rises : (s : List ℕ) (c : ItemIter) (xs : List RecordSeen) → seen_by zero s c ≡ answered xs → Rising c.index xs
unfolding seen_by
none-rises s c xs e = let w : [] ≡ xs = cc in subst (λ (zs : List RecordSeen). Rising c.index zs) w over

seen-rising : (k : ℕ) (s : List ℕ) (c : ItemIter) (xs : List RecordSeen) → seen_by k s c ≡ answered xs → Rising c.index xs
seen-rising zero s c xs e = none-rises s c xs e
seen-rising (suc k) s c xs e = go (λ d ys. seen-rising k s d ys) (next_of s c) refl
  where
    more : (i : Item) (d : ItemIter) (a : Answer (List RecordSeen)) → next_of s c ≡ answered (yielded i d)
        → then a (λ ys. answered (record { index = c.index; leaf = little_at 2 s i.place; bytes = i.length } ∷ ys)) ≡ answered xs
        → ((ys : List RecordSeen) → a ≡ answered ys → Rising d.index ys)
        → Rising c.index xs
    more i d (refused n x) h q on = never xs n x q
    more i d (answered ys) h q on =
        let f : Further s c i d = further s c i d h in
        let w : record { index = c.index; leaf = little_at 2 s i.place; bytes = i.length } ∷ ys ≡ xs = cc in
        let r : Rising (suc c.index) ys = subst (λ (n : ℕ). Rising n ys) (omega (arith, f.index)) (on ys refl) in
        subst (λ (zs : List RecordSeen). Rising c.index zs) w (up (omega arith) (omega (arith, f.two)) r)

    go : ((d : ItemIter) (ys : List RecordSeen) → seen_by k s d ≡ answered ys → Rising d.index ys) → (a : Answer Next) → next_of s c ≡ a → Rising c.index xs
    go on (answered done) h =
        let w : [] ≡ xs = let v = seen_step k s c (answered done) h in cc in
        subst (λ (zs : List RecordSeen). Rising c.index zs) w over
    go on (answered (yielded i d)) h = more i d (seen_by k s d) h (sym (seen_step k s c (answered (yielded i d)) h) ∙ e) (λ ys g. on d ys g)
    go on (refused n x) h = never xs n x (sym (seen_step k s c (refused n x) h) ∙ e)

-- from some index on
record Rises (z : Stream) : Type 0 where
  start : ℕ
  is : Rising start z.records

stream-rises : (s : List ℕ) (z : Stream) → stream_of s ≡ answered z → Rises z
unfolding stream_of
stream-rises s z e = go (iter_of stream.Types s) e
  where
    seen : (c : ItemIter) (a : Answer (List RecordSeen)) → seen_by (suc (length s)) s c ≡ a → then a (λ xs. answered (record { header = c.at; records = xs })) ≡ answered z → Rises z
    seen c (answered xs) h q =
        let w : record { header = c.at; records = xs } ≡ z = cc in
        subst (λ (y : Stream). Rises y) w (record { start = c.index; is = seen-rising (suc (length s)) s c xs h })
    seen c (refused n d) h q = never z n d q

    go : (a : Answer ItemIter) → then a (λ c. then (seen_by (suc (length s)) s c) (λ xs. answered (record { header = c.at; records = xs }))) ≡ answered z → Rises z
    go (answered c) q = seen c (seen_by (suc (length s)) s c) refl q
    go (refused n d) q = never z n d q

-- ---- the largest of a list of records
module _ (number : ℕ) where
  unfoldable best : Largest → List RecordSeen → Largest
  best l [] = l
  best l (y ∷ ys) = best (larger l y.bytes number y.index) ys

  is-best : (ys : List RecordSeen) (x : Counting) → (count_all number x ys).report.largest ≡ best x.report.largest ys
  unfolding count_all best
  is-best [] x = refl
  is-best (y ∷ ys) x = is-best ys (counted number y.index y.leaf y.bytes x)

  -- none was longer
  record Same (l : Largest) (ys : List RecordSeen) (m : Largest) : Type 0 where
    same : m ≡ l
    longest : (x : RecordSeen) → Among ys x → x.bytes ≤ l.length

  -- or the first of the longest has its place
  record Newer (l : Largest) (ys : List RecordSeen) (m : Largest) : Type 0 where
    has : RecordSeen
    among : Among ys has
    length : has.bytes ≡ m.length
    index : has.index ≡ m.index
    number_is : m.stream ≡ number
    more : l.length < m.length
    longest : (x : RecordSeen) → Among ys x → x.bytes ≤ m.length
    before : (x : RecordSeen) → Among ys x → x.index < m.index → x.bytes < m.length

  abbrev Taken : Largest → List RecordSeen → Largest → Type 0
  Taken l ys m = Same l ys m ⊎ Newer l ys m

  module _ (l : Largest) (y : RecordSeen) (ys : List RecordSeen) (m : Largest) where
    abbrev placed : Largest
    placed = record { length = y.bytes; stream = number; index = y.index }

    passed-by : y.bytes ≤ l.length → Taken l ys m → Taken l (y ∷ ys) m
    passed-by h (inl a) = inl (record { same = a.same; longest = all })
      where
        all : (x : RecordSeen) → Among (y ∷ ys) x → x.bytes ≤ l.length
        all x first = h
        all x (later r) = a.longest x r
    passed-by h (inr a) =
        inr (record { has = a.has; among = later a.among; length = a.length; index = a.index; number_is = a.number_is; more = a.more; longest = all; before = all-before })
      where
        all : (x : RecordSeen) → Among (y ∷ ys) x → x.bytes ≤ m.length
        all x first = omega (arith, h, a.more)
        all x (later r) = a.longest x r

        all-before : (x : RecordSeen) → Among (y ∷ ys) x → x.index < m.index → x.bytes < m.length
        all-before x first b = omega (arith, h, a.more)
        all-before x (later r) b = a.before x r b

    taken-by : l.length < y.bytes → Rising (suc y.index) ys → Taken placed ys m → Taken l (y ∷ ys) m
    taken-by h r (inl a) = subst (λ (n : Largest). Taken l (y ∷ ys) n) (sym a.same) (inr (record {
      has = y;
      among = first;
      length = refl;
      index = refl;
      number_is = refl;
      more = h;
      longest = all;
      before = all-before;
    }))
      where
        all : (x : RecordSeen) → Among (y ∷ ys) x → x.bytes ≤ y.bytes
        all x first = omega arith
        all x (later q) = a.longest x q

        all-before : (x : RecordSeen) → Among (y ∷ ys) x → x.index < y.index → x.bytes < y.bytes
        all-before x first b = absurd (omega arith)
        all-before x (later q) b = let w = from (suc y.index) ys r x q in absurd (omega (arith, w.0))
    taken-by h r (inr a) =
        inr (record { has = a.has; among = later a.among; length = a.length; index = a.index; number_is = a.number_is; more = omega (arith, h, a.more); longest = all; before = all-before })
      where
        all : (x : RecordSeen) → Among (y ∷ ys) x → x.bytes ≤ m.length
        all x first = omega (arith, a.more)
        all x (later q) = a.longest x q

        all-before : (x : RecordSeen) → Among (y ∷ ys) x → x.index < m.index → x.bytes < m.length
        all-before x first b = a.more
        all-before x (later q) b = a.before x q b

  best-is : (ys : List RecordSeen) (n : ℕ) (l : Largest) → Rising n ys → Taken l ys (best l ys)
  unfolding best
  best-is [] n l r = inl (record { same = refl; longest = λ x. none x })
    where
      none : (x : RecordSeen) → Among [] x → x.bytes ≤ l.length
      none x = elim [ ]
  best-is (y ∷ ys) n l (up a b r) = go (ltb l.length y.bytes) refl (λ k. best-is ys (suc y.index) k r)
    where
      go : (t : Bool) → ltb l.length y.bytes ≡ t → ((k : Largest) → Taken k ys (best k ys)) → Taken l (y ∷ ys) (best (pick t (record { length = y.bytes; stream = number; index = y.index }) l) ys)
      go true h on = taken-by l y ys (best (placed l y ys l) ys) (ltb-true _ _ h) r (on (placed l y ys l))
      go false h on = passed-by l y ys (best l ys) (ltb-false _ _ h) (on l)

-- ---- a stream more
below : (ss : List (List ℕ)) (number : ℕ) (y : RecordSeen) → RecordIn ss number y → number < length ss
below [] number y m = elim m [ ]
below (s ∷ ss) number y (in_last e a) = omega arith
below (s ∷ ss) number y (in_earlier c) = let h = below ss number y c in omega (arith, h)

abbrev pub LargestIs : Largest → List (List ℕ) → Type 0
LargestIs l ss = NoRecord l ss ⊎ FirstLongest l ss

nobody : {X : Type 0} (z : Stream) (n : ℕ) (d : List ℕ) → ◌≡◌ {A = Answer Stream} (refused n d) (answered z) → X
nobody z n d e = never z n d e

-- that was refused
module _ (l : Largest) (ss : List (List ℕ)) (s : List ℕ) (n : ℕ) (d : List ℕ) (e : stream_of s ≡ refused n d) where
  earlier : (number : ℕ) (y : RecordSeen) → RecordIn (s ∷ ss) number y → RecordIn ss number y
  earlier number y (in_last {z = z} h a) = nobody z n d (sym e ∙ h)
  earlier number y (in_earlier c) = c

  pub refused-largest : LargestIs l ss → LargestIs l (s ∷ ss)
  refused-largest (inl a) = inl (record { length = a.length; stream = a.stream; index = a.index; none = λ number y c. a.none number y (earlier number y c) })
  refused-largest (inr a) = inr (record {
    has = a.has;
    there = in_earlier a.there;
    index = a.index;
    length = a.length;
    longest = λ number y c. a.longest number y (earlier number y c);
    before = λ number y c b. a.before number y (earlier number y c) b;
  })

-- that was counted
module _ (ss : List (List ℕ)) (s : List ℕ) (z : Stream) (e : stream_of s ≡ answered z) where
  split : (number : ℕ) (y : RecordSeen) → RecordIn (s ∷ ss) number y → ((number ≡ length ss) × Among z.records y) ⊎ RecordIn ss number y
  split number y (in_last {z = x} h a) =
      let w : x ≡ z = let q : answered x ≡ answered z = sym h ∙ e in cc in
      inl (refl, subst (λ (v : Stream). Among v.records y) w a)
  split number y (in_earlier c) = inr c

  module _ (l : Largest) (m : Largest) where
    stays : Rises z → Same (length ss) l z.records m → LargestIs l ss → LargestIs m (s ∷ ss)
    stays r t (inl a) = subst (λ (n : Largest). LargestIs n (s ∷ ss)) (sym t.same) (inl (record { length = a.length; stream = a.stream; index = a.index; none = none }))
      where
        none : (number : ℕ) (y : RecordSeen) → RecordIn (s ∷ ss) number y → ⊥
        none number y c = go (split number y c)
          where
            go : ((number ≡ length ss) × Among z.records y) ⊎ RecordIn ss number y → ⊥
            go (inl p) = let h = from r.start z.records r.is y p.1 in let k = t.longest y p.1 in omega (arith, h.1, k, a.length)
            go (inr q) = a.none number y q
    stays r t (inr a) = subst (λ (n : Largest). LargestIs n (s ∷ ss)) (sym t.same) (inr (record {
      has = a.has;
      there = in_earlier a.there;
      index = a.index;
      length = a.length;
      longest = all;
      before = all-before;
    }))
      where
        all : (number : ℕ) (y : RecordSeen) → RecordIn (s ∷ ss) number y → y.bytes ≤ l.length
        all number y c = go (split number y c)
          where
            go : ((number ≡ length ss) × Among z.records y) ⊎ RecordIn ss number y → y.bytes ≤ l.length
            go (inl p) = t.longest y p.1
            go (inr q) = a.longest number y q

        all-before : (number : ℕ) (y : RecordSeen) → RecordIn (s ∷ ss) number y → Precedes number y.index l.stream l.index → y.bytes < l.length
        all-before number y c b = go (split number y c) b
          where
            h : l.stream < length ss
            h = below ss l.stream a.has a.there

            go : ((number ≡ length ss) × Among z.records y) ⊎ RecordIn ss number y → Precedes number y.index l.stream l.index → y.bytes < l.length
            go (inl p) (inl b₁) = absurd (omega (arith, p.0, b₁, h))
            go (inl p) (inr b₂) = absurd (omega (arith, p.0, b₂.0, h))
            go (inr q) b = a.before number y q b

    moves : Newer (length ss) l z.records m → LargestIs l ss → LargestIs m (s ∷ ss)
    moves t known = inr (record {
      has = t.has;
      there = subst (λ (n : ℕ). RecordIn (s ∷ ss) n t.has) (sym t.number_is) (in_last e t.among);
      index = t.index;
      length = t.length;
      longest = all;
      before = all-before;
    })
      where
        shorter : (number : ℕ) (y : RecordSeen) → RecordIn ss number y → LargestIs l ss → y.bytes < m.length
        shorter number y c (inl a) = absurd (a.none number y c)
        shorter number y c (inr a) = let h = a.longest number y c in omega (arith, h, t.more)

        all : (number : ℕ) (y : RecordSeen) → RecordIn (s ∷ ss) number y → y.bytes ≤ m.length
        all number y c = go (split number y c)
          where
            go : ((number ≡ length ss) × Among z.records y) ⊎ RecordIn ss number y → y.bytes ≤ m.length
            go (inl p) = t.longest y p.1
            go (inr q) = let h = shorter number y q known in omega (arith, h)

        all-before : (number : ℕ) (y : RecordSeen) → RecordIn (s ∷ ss) number y → Precedes number y.index m.stream m.index → y.bytes < m.length
        all-before number y c b = go (split number y c) b
          where
            go : ((number ≡ length ss) × Among z.records y) ⊎ RecordIn ss number y → Precedes number y.index m.stream m.index → y.bytes < m.length
            go (inl p) (inl b₁) = absurd (omega (arith, p.0, b₁, t.number_is))
            go (inl p) (inr b₂) = t.before y p.1 b₂.1
            go (inr q) b = shorter number y q known

  pub counted-largest : (x : Counting) → LargestIs x.report.largest ss → LargestIs (count_all (length ss) x z.records).report.largest (s ∷ ss)
  counted-largest x known =
      let r : Rises z = stream-rises s z e in
      subst (λ (n : Largest). LargestIs n (s ∷ ss)) (sym (is-best (length ss) z.records x)) (go r (best-is (length ss) z.records r.start x.report.largest r.is))
    where
      go : Rises z → Taken (length ss) x.report.largest z.records (best (length ss) x.report.largest z.records) → LargestIs (best (length ss) x.report.largest z.records) (s ∷ ss)
      go r (inl t) = stays x.report.largest (best (length ss) x.report.largest z.records) r t known
      go r (inr t) = moves x.report.largest (best (length ss) x.report.largest z.records) t known

pub fresh-largest : LargestIs (record { length = 0; stream = 0; index = 0 }) []
fresh-largest = inl (record { length = refl; stream = refl; index = refl; none = λ number y. none number y })
  where
    none : (number : ℕ) (y : RecordSeen) → RecordIn [] number y → ⊥
    none number y = elim [ ]
