-- A stream's records as a list: its length, what `add` is over it, and what the entries are sums of. Assumes nothing.
use Prim.Native.Nat.{ℕ, zero, suc, ◌+◌, ◌-◌, ◌*◌, ◌≤◌, ◌<◌}
use mathlib.Core.Path.{◌≡◌, refl, sym, ap, ◌∙◌, subst}
use mathlib.Core.Bool.{Bool, true, false}
use mathlib.Core.List.{List, [], ◌∷◌}
use native.Mathlib.Omega.{arith}
use lib.ListN.{length}
use lib.Dec.{ltb, eqb}
use borrow.Author.Tests.{lt-ltb, le-ltb, ltb-true, ltb-false, eq-eqb, ne_eqb, eqb-true, eqb-false}
use Rattle.answer.specs.Answer.{Answer, answered, refused, pick, then}
use Rattle.field.specs.Fields.{little_at}
use Rattle.field.specs.declared.index.Stream.TheVariants as stream
use Rattle.stream_item.specs.Iterator.{iter_of, Next, done, yielded, next_of}
use Rattle.stream_item.specs.declared.Item.{Item}
use Rattle.stream_item.specs.declared.iter.ItemIter.{ItemIter}
use Rattle.stream_report.specs.Report.{Entry, Report, Counting, counted, grown, tallied, has, room, after_step, run_by, count_run, begun, count_stream, concluded, add_of}
use Rattle.stream_report.specs.Sums.{RecordSeen, Stream, seeing, seen_by, stream_of, seen_bytes, records_with, bytes_with, AddsUp, count_all, by_records, tally_all, Exactly, records_for, bytes_for, all_records, all_bytes, distinct}
use Rattle.stream_report.proofs.WalkLaws.{Further, further, over-end}

pub never : {A : Type 0} {X : Type 0} (a : A) (n : ℕ) (x : List ℕ) → ◌≡◌ {A = Answer A} (refused n x) (answered a) → X
never a n x e = let z : ◌≡◌ {A = ℕ} 0 1 = cc in absurd (omega arith)

pub seen_step : (k : ℕ) (s : List ℕ) (c : ItemIter) (a : Answer Next) → next_of s c ≡ a → seen_by (suc k) s c ≡ then a (seeing (seen_by k s) s c)
unfolding seen_by
seen_step k s c a e = rw e

-- ---- the length
no-adds : (p m : ℕ) → p ≡ m → p + 2 * length {A = RecordSeen} [] + seen_bytes [] ≡ m
unfolding seen_bytes
no-adds p m e = omega arith

cons-adds : (p n q m j leaf : ℕ) (ys : List RecordSeen) → q ≡ p + 2 + n → q + 2 * length ys + seen_bytes ys ≡ m
    → p + 2 * length (record { index = j; leaf = leaf; bytes = n } ∷ ys) + seen_bytes (record { index = j; leaf = leaf; bytes = n } ∷ ys) ≡ m
unfolding seen_bytes
cons-adds p n q m j leaf ys a b = omega arith

seen-length : (k : ℕ) (s : List ℕ) (c : ItemIter) (xs : List RecordSeen) → length s - c.at < k → seen_by k s c ≡ answered xs → c.at + 2 * length xs + seen_bytes xs ≡ length s
seen-length zero s c xs l e = absurd (omega arith)
seen-length (suc k) s c xs l e = go (λ d ys. seen-length k s d ys) (next_of s c) refl
  where
    more : (i : Item) (d : ItemIter) (a : Answer (List RecordSeen)) → next_of s c ≡ answered (yielded i d)
        → then a (λ ys. answered (record { index = c.index; leaf = little_at 2 s i.place; bytes = i.length } ∷ ys)) ≡ answered xs
        → ((ys : List RecordSeen) → a ≡ answered ys → d.at + 2 * length ys + seen_bytes ys ≡ length s)
        → c.at + 2 * length xs + seen_bytes xs ≡ length s
    more i d (refused n x) h q on = never xs n x q
    more i d (answered ys) h q on =
        let f : Further s c i d = further s c i d h in
        let e : record { index = c.index; leaf = little_at 2 s i.place; bytes = i.length } ∷ ys ≡ xs = cc in
        subst (λ (zs : List RecordSeen). c.at + 2 * length zs + seen_bytes zs ≡ length s) e (cons-adds c.at i.length d.at (length s) c.index (little_at 2 s i.place) ys f.behind (on ys refl))

    go : ((d : ItemIter) (ys : List RecordSeen) → length s - d.at < k → seen_by k s d ≡ answered ys → d.at + 2 * length ys + seen_bytes ys ≡ length s)
        → (a : Answer Next) → next_of s c ≡ a → c.at + 2 * length xs + seen_bytes xs ≡ length s
    go on (answered done) h =
        let q : [] ≡ xs = let w = seen_step k s c (answered done) h in cc in
        subst (λ (zs : List RecordSeen). c.at + 2 * length zs + seen_bytes zs ≡ length s) q (no-adds c.at (length s) (over-end s c h).1)
    go on (answered (yielded i d)) h =
        let f : Further s c i d = further s c i d h in
        more i d (seen_by k s d) h (sym (seen_step k s c (answered (yielded i d)) h) ∙ e) (λ ys g. on d ys (omega (arith, f.behind, f.inside)) g)
    go on (refused n x) h = never xs n x (sym (seen_step k s c (refused n x) h) ∙ e)

pub adds-up : AddsUp
unfolding AddsUp stream_of
adds-up s z e = go (iter_of stream.Types s) e
  where
    seen : (c : ItemIter) (a : Answer (List RecordSeen)) → seen_by (suc (length s)) s c ≡ a → then a (λ xs. answered (record { header = c.at; records = xs })) ≡ answered z
        → z.header + 2 * length z.records + seen_bytes z.records ≡ length s
    seen c (answered xs) h q =
        let e : record { header = c.at; records = xs } ≡ z = cc in
        subst (λ (y : Stream). y.header + 2 * length y.records + seen_bytes y.records ≡ length s) e (seen-length (suc (length s)) s c xs (omega arith) h)
    seen c (refused n d) h q = never z n d q

    go : (a : Answer ItemIter) → then a (λ c. then (seen_by (suc (length s)) s c) (λ xs. answered (record { header = c.at; records = xs }))) ≡ answered z
        → z.header + 2 * length z.records + seen_bytes z.records ≡ length s
    go (answered c) q = seen c (seen_by (suc (length s)) s c) refl q
    go (refused n d) q = never z n d q

-- ---- `add` over the list
run-seen : (k : ℕ) (s : List ℕ) (number : ℕ) (c : ItemIter) (x : Counting) → run_by k s number c x ≡ then (seen_by k s c) (λ xs. answered (count_all number x xs))
unfolding run_by seen_by count_all
run-seen zero s number c x = refl
run-seen (suc k) s number c x = go (next_of s c) (λ d y. run-seen k s number d y)
  where
    inner : (i : Item) (d : ItemIter) (a : Answer (List RecordSeen))
        → then a (λ xs. answered (count_all number (counted number c.index (little_at 2 s i.place) i.length x) xs))
        ≡ then (then a (λ xs. answered (record { index = c.index; leaf = little_at 2 s i.place; bytes = i.length } ∷ xs))) (λ xs. answered (count_all number x xs))
    inner i d (answered xs) = refl
    inner i d (refused n y) = refl

    go : (a : Answer Next) → ((d : ItemIter) (y : Counting) → run_by k s number d y ≡ then (seen_by k s d) (λ xs. answered (count_all number y xs)))
        → then a (after_step (run_by k s number) s number c x) ≡ then (then a (seeing (seen_by k s) s c)) (λ xs. answered (count_all number x xs))
    go (answered done) on = refl
    go (answered (yielded i d)) on = on d (counted number c.index (little_at 2 s i.place) i.length x) ∙ inner i d (seen_by k s d)
    go (refused n y) on = refl

is-records : (ρ : Report) (s : List ℕ) → add_of ρ s ≡ by_records ρ (stream_of s)
unfolding add_of count_stream count_run stream_of
is-records ρ s = go (iter_of stream.Types s)
  where
    inner : (c : ItemIter) (a : Answer (List RecordSeen))
        → concluded ρ (then a (λ xs. answered (count_all ρ.taken (begun ρ c.at) xs))) ≡ by_records ρ (then a (λ xs. answered (record { header = c.at; records = xs })))
    inner c (answered xs) = refl
    inner c (refused n d) = refl

    go : (a : Answer ItemIter)
        → concluded ρ (then a (λ c. run_by (suc (length s)) s ρ.taken c (begun ρ c.at)))
        ≡ by_records ρ (then a (λ c. then (seen_by (suc (length s)) s c) (λ xs. answered (record { header = c.at; records = xs }))))
    go (answered c) = ap (concluded ρ) (run-seen (suc (length s)) s ρ.taken c (begun ρ c.at)) ∙ inner c (seen_by (suc (length s)) s c)
    go (refused n d) = refl

-- ---- the entries, a record more
by-leaf : (a l : ℕ) → (eqb a l ≡ true) → a ≡ l
by-leaf a l e = eqb-true _ _ e

pub tally-records : (es : List Entry) (leaf n l : ℕ) → records_for (tallied es leaf n) l ≡ records_for es l + pick (eqb leaf l) 1 0
unfolding tallied records_for
tally-records [] leaf n l = go (eqb leaf l)
  where
    go : (b : Bool) → pick b 1 0 ≡ 0 + pick b 1 0
    go true = refl
    go false = refl
tally-records (e ∷ es) leaf n l = go (eqb e.leaf leaf) refl (eqb e.leaf l) refl (tally-records es leaf n l)
  where
    go : (a : Bool) → eqb e.leaf leaf ≡ a → (b : Bool) → eqb e.leaf l ≡ b → records_for (tallied es leaf n) l ≡ records_for es l + pick (eqb leaf l) 1 0
        → records_for (pick a (grown e n ∷ es) (e ∷ tallied es leaf n)) l ≡ pick b e.records (records_for es l) + pick (eqb leaf l) 1 0
    go true p true q on = let h : leaf ≡ l = cc (by-leaf e.leaf leaf p, by-leaf e.leaf l q) in rw (q, eq-eqb _ _ h)
    go true p false q on =
        let h : e.leaf ≡ leaf = by-leaf e.leaf leaf p in
        let f : eqb leaf l ≡ false = subst (λ (x : ℕ). eqb x l ≡ false) h q in
        rw (q, f) (omega arith)
    go false p true q on =
        let h : e.leaf ≡ l = by-leaf e.leaf l q in
        let f : eqb leaf l ≡ false = ne_eqb _ _ (λ g. eqb-false _ _ p (h ∙ sym g)) in
        rw (q, f) (omega arith)
    go false p false q on = rw q on

pub tally-bytes : (es : List Entry) (leaf n l : ℕ) → bytes_for (tallied es leaf n) l ≡ bytes_for es l + pick (eqb leaf l) n 0
unfolding tallied bytes_for
tally-bytes [] leaf n l = go (eqb leaf l)
  where
    go : (b : Bool) → pick b n 0 ≡ 0 + pick b n 0
    go true = omega arith
    go false = refl
tally-bytes (e ∷ es) leaf n l = go (eqb e.leaf leaf) refl (eqb e.leaf l) refl (tally-bytes es leaf n l)
  where
    go : (a : Bool) → eqb e.leaf leaf ≡ a → (b : Bool) → eqb e.leaf l ≡ b → bytes_for (tallied es leaf n) l ≡ bytes_for es l + pick (eqb leaf l) n 0
        → bytes_for (pick a (grown e n ∷ es) (e ∷ tallied es leaf n)) l ≡ pick b e.bytes (bytes_for es l) + pick (eqb leaf l) n 0
    go true p true q on = let h : leaf ≡ l = cc (by-leaf e.leaf leaf p, by-leaf e.leaf l q) in rw (q, eq-eqb _ _ h)
    go true p false q on =
        let h : e.leaf ≡ leaf = by-leaf e.leaf leaf p in
        let f : eqb leaf l ≡ false = subst (λ (x : ℕ). eqb x l ≡ false) h q in
        rw (q, f) (omega arith)
    go false p true q on =
        let h : e.leaf ≡ l = by-leaf e.leaf l q in
        let f : eqb leaf l ≡ false = ne_eqb _ _ (λ g. eqb-false _ _ p (h ∙ sym g)) in
        rw (q, f) (omega arith)
    go false p false q on = rw q on

pub tally-all : (es : List Entry) (leaf n : ℕ) → (all_records (tallied es leaf n) ≡ all_records es + 1) × (all_bytes (tallied es leaf n) ≡ all_bytes es + n)
unfolding tallied all_records all_bytes
tally-all [] leaf n = (omega arith, omega arith)
tally-all (e ∷ es) leaf n = go (eqb e.leaf leaf) (tally-all es leaf n)
  where
    go : (b : Bool) → (all_records (tallied es leaf n) ≡ all_records es + 1) × (all_bytes (tallied es leaf n) ≡ all_bytes es + n)
        → (all_records (pick b (grown e n ∷ es) (e ∷ tallied es leaf n)) ≡ e.records + all_records es + 1) × (all_bytes (pick b (grown e n ∷ es) (e ∷ tallied es leaf n)) ≡ e.bytes + all_bytes es + n)
    go true on = (omega arith, omega arith)
    go false on = (omega (arith, on.0), omega (arith, on.1))

has_other : (es : List Entry) (leaf n l : ℕ) → eqb leaf l ≡ false → has (tallied es leaf n) l ≡ has es l
unfolding tallied has
has_other [] leaf n l h = rw h
has_other (e ∷ es) leaf n l h = go (eqb e.leaf leaf) (has_other es leaf n l h)
  where
    go : (b : Bool) → has (tallied es leaf n) l ≡ has es l → has (pick b (grown e n ∷ es) (e ∷ tallied es leaf n)) l ≡ pick (eqb e.leaf l) true (has es l)
    go true on = refl
    go false on = rw on

pub tally-distinct : (es : List Entry) (leaf n : ℕ) → distinct es ≡ true → distinct (tallied es leaf n) ≡ true
unfolding tallied distinct has
tally-distinct [] leaf n h = refl
tally-distinct (e ∷ es) leaf n h = go (eqb e.leaf leaf) refl (has es e.leaf) refl h (tally-distinct es leaf n)
  where
    go : (b : Bool) → eqb e.leaf leaf ≡ b → (a : Bool) → has es e.leaf ≡ a → pick a false (distinct es) ≡ true → (distinct es ≡ true → distinct (tallied es leaf n) ≡ true)
        → distinct (pick b (grown e n ∷ es) (e ∷ tallied es leaf n)) ≡ true
    go b p true q d on = let z : ◌≡◌ {A = ℕ} 0 1 = cc in absurd (omega arith)
    go true p false q d on = rw (q, d)
    go false p false q d on =
        let f : eqb leaf e.leaf ≡ false = ne_eqb leaf e.leaf (λ g. eqb-false e.leaf leaf p (sym g)) in
        rw (has_other es leaf n e.leaf f, q, on d)

-- how many entries there are
tally-had : (es : List Entry) (leaf n : ℕ) → has es leaf ≡ true → length (tallied es leaf n) ≡ length es
unfolding tallied has
tally-had [] leaf n h = let z : ◌≡◌ {A = ℕ} 0 1 = cc in absurd (omega arith)
tally-had (e ∷ es) leaf n h = go (eqb e.leaf leaf) h (tally-had es leaf n)
  where
    go : (b : Bool) → pick b true (has es leaf) ≡ true → (has es leaf ≡ true → length (tallied es leaf n) ≡ length es) → length (pick b (grown e n ∷ es) (e ∷ tallied es leaf n)) ≡ suc (length es)
    go true q on = refl
    go false q on = ap suc (on q)

tally-hadnt : (es : List Entry) (leaf n : ℕ) → has es leaf ≡ false → length (tallied es leaf n) ≡ suc (length es)
unfolding tallied has
tally-hadnt [] leaf n h = refl
tally-hadnt (e ∷ es) leaf n h = go (eqb e.leaf leaf) h (tally-hadnt es leaf n)
  where
    go : (b : Bool) → pick b true (has es leaf) ≡ false → (has es leaf ≡ false → length (tallied es leaf n) ≡ suc (length es)) → length (pick b (grown e n ∷ es) (e ∷ tallied es leaf n)) ≡ suc (suc (length es))
    go true q on = let z : ◌≡◌ {A = ℕ} 0 1 = cc in absurd (omega arith)
    go false q on = ap suc (on q)

pub all-longer : (ys : List RecordSeen) (es : List Entry) → length es ≤ length (tally_all es ys)
unfolding tally_all
all-longer [] es = omega arith
all-longer (y ∷ ys) es = go (has es y.leaf) refl (all-longer ys (tallied es y.leaf y.bytes))
  where
    go : (b : Bool) → has es y.leaf ≡ b → length (tallied es y.leaf y.bytes) ≤ length (tally_all (tallied es y.leaf y.bytes) ys)
        → length es ≤ length (tally_all (tallied es y.leaf y.bytes) ys)
    go true h on = omega (arith, on, tally-had es y.leaf y.bytes h)
    go false h on = omega (arith, on, tally-hadnt es y.leaf y.bytes h)

-- ---- a list of records counted
module _ (number : ℕ) where
  stays-full : (ys : List RecordSeen) (x : Counting) → x.full ≡ true → (count_all number x ys).full ≡ true
  unfolding count_all
  stays-full [] x h = h
  stays-full (y ∷ ys) x h = stays-full ys (counted number y.index y.leaf y.bytes x) (go (room x.report.entries y.leaf))
    where
      go : (b : Bool) → pick b x.full true ≡ true
      go true = h
      go false = refl

  -- what does not depend on the room
  pub record Plain (x y : Counting) (ys : List RecordSeen) : Type 0 where
    pub taken : y.report.taken ≡ x.report.taken
    pub refused : y.report.refused ≡ x.report.refused
    pub headers : y.report.headers ≡ x.report.headers
    pub records : y.report.records ≡ x.report.records + length ys
    pub bytes : y.report.bytes ≡ x.report.bytes + seen_bytes ys

  pub plain : (ys : List RecordSeen) (x : Counting) → Plain x (count_all number x ys) ys
  unfolding count_all seen_bytes
  plain [] x = record { taken = refl; refused = refl; headers = refl; records = omega arith; bytes = omega arith }
  plain (y ∷ ys) x =
      let p : Plain (counted number y.index y.leaf y.bytes x) (count_all number (counted number y.index y.leaf y.bytes x) ys) ys = plain ys (counted number y.index y.leaf y.bytes x) in
      record { taken = p.taken; refused = p.refused; headers = p.headers; records = omega (arith, p.records); bytes = omega (arith, p.bytes) }

  -- while there is room, the entries are those with room for every leaf
  pub open-entries : (ys : List RecordSeen) (x : Counting) → (count_all number x ys).full ≡ false → (count_all number x ys).report.entries ≡ tally_all x.report.entries ys
  unfolding count_all tally_all
  open-entries [] x h = refl
  open-entries (y ∷ ys) x h =
      go (room x.report.entries y.leaf) refl (open-entries ys (counted number y.index y.leaf y.bytes x) h)
    where
      go : (b : Bool) → room x.report.entries y.leaf ≡ b
          → (count_all number (counted number y.index y.leaf y.bytes x) ys).report.entries ≡ tally_all (pick (room x.report.entries y.leaf) (tallied x.report.entries y.leaf y.bytes) x.report.entries) ys
          → (count_all number (counted number y.index y.leaf y.bytes x) ys).report.entries ≡ tally_all (tallied x.report.entries y.leaf y.bytes) ys
      go true e on = on ∙ ap (λ (b : Bool). tally_all (pick b (tallied x.report.entries y.leaf y.bytes) x.report.entries) ys) e
      go false e on =
          let f : (count_all number (counted number y.index y.leaf y.bytes x) ys).full ≡ true =
          stays-full ys (counted number y.index y.leaf y.bytes x) (ap (λ (b : Bool). pick b x.full true) e) in
          let z : ◌≡◌ {A = ℕ} 0 1 = let w : ◌≡◌ {A = Bool} true false = sym f ∙ h in cc in
          absurd (omega arith)

  -- there is none exactly if the entries and the new leaves are more than 64
  no_room : (es : List Entry) (leaf : ℕ) → room es leaf ≡ false → (has es leaf ≡ false) × (64 ≤ length es)
  no_room es leaf e = go (has es leaf) refl e
    where
      go : (b : Bool) → has es leaf ≡ b → pick b true (ltb (length es) 64) ≡ false → (has es leaf ≡ false) × (64 ≤ length es)
      go true h q = let z : ◌≡◌ {A = ℕ} 0 1 = cc in absurd (omega arith)
      go false h q = (h, ltb-false _ _ q)

  some-room : (es : List Entry) (leaf n : ℕ) → room es leaf ≡ true → length es ≤ 64 → length (tallied es leaf n) ≤ 64
  some-room es leaf n e l = go (has es leaf) refl e
    where
      go : (b : Bool) → has es leaf ≡ b → pick b true (ltb (length es) 64) ≡ true → length (tallied es leaf n) ≤ 64
      go true h q = omega (arith, tally-had es leaf n h)
      go false h q = let w : length es < 64 = ltb-true _ _ q in omega (arith, tally-hadnt es leaf n h)

  pub full-leaves : (ys : List RecordSeen) (x : Counting) → x.full ≡ false → length x.report.entries ≤ 64
      → (count_all number x ys).full ≡ ltb 64 (length (tally_all x.report.entries ys))
  unfolding count_all tally_all
  full-leaves [] x h l = h ∙ sym (le-ltb _ _ l)
  full-leaves (y ∷ ys) x h l = go (room x.report.entries y.leaf) refl (full-leaves ys (counted number y.index y.leaf y.bytes x))
    where
      go : (b : Bool) → room x.report.entries y.leaf ≡ b
          → (pick (room x.report.entries y.leaf) x.full true ≡ false → length (pick (room x.report.entries y.leaf) (tallied x.report.entries y.leaf y.bytes) x.report.entries) ≤ 64
          → (count_all number (counted number y.index y.leaf y.bytes x) ys).full ≡ ltb 64 (length (tally_all (pick (room x.report.entries y.leaf) (tallied x.report.entries y.leaf y.bytes) x.report.entries) ys)))
          → (count_all number (counted number y.index y.leaf y.bytes x) ys).full ≡ ltb 64 (length (tally_all (tallied x.report.entries y.leaf y.bytes) ys))
      go true e on =
          on (ap (λ (b : Bool). pick b x.full true) e ∙ h)
          (subst (λ (b : Bool). length (pick b (tallied x.report.entries y.leaf y.bytes) x.report.entries) ≤ 64) (sym e) (some-room x.report.entries y.leaf y.bytes e l))
          ∙ ap (λ (b : Bool). ltb 64 (length (tally_all (pick b (tallied x.report.entries y.leaf y.bytes) x.report.entries) ys))) e
      go false e on =
          let q = no_room x.report.entries y.leaf e in
          stays-full ys (counted number y.index y.leaf y.bytes x) (ap (λ (b : Bool). pick b x.full true) e)
          ∙ sym (lt-ltb 64 (length (tally_all (tallied x.report.entries y.leaf y.bytes) ys)) (omega (arith, q.1, tally-hadnt x.report.entries y.leaf y.bytes q.0, all-longer ys (tallied x.report.entries y.leaf y.bytes))))

pub exactly : Exactly
exactly = record { is = is-records; leaves = λ ρ z l. full-leaves ρ.taken z.records (begun ρ z.header) refl l }

-- ---- entries as sums
pub all-tallied : (ys : List RecordSeen) (es : List Entry) → (all_records (tally_all es ys) ≡ all_records es + length ys) × (all_bytes (tally_all es ys) ≡ all_bytes es + seen_bytes ys)
unfolding tally_all seen_bytes
all-tallied [] es = (omega arith, omega arith)
all-tallied (y ∷ ys) es =
    let t = tally-all es y.leaf y.bytes in
    let r = all-tallied ys (tallied es y.leaf y.bytes) in
    (omega (arith, t.0, r.0), omega (arith, t.1, r.1))

pub each-tallied : (l : ℕ) (ys : List RecordSeen) (es : List Entry) → (records_for (tally_all es ys) l ≡ records_for es l + records_with l ys) × (bytes_for (tally_all es ys) l ≡ bytes_for es l + bytes_with l ys)
unfolding tally_all records_with bytes_with
each-tallied l [] es = (omega arith, omega arith)
each-tallied l (y ∷ ys) es =
    let r = each-tallied l ys (tallied es y.leaf y.bytes) in
    (omega (arith, tally-records es y.leaf y.bytes l, r.0), omega (arith, tally-bytes es y.leaf y.bytes l, r.1))

pub distinct-tallied : (ys : List RecordSeen) (es : List Entry) → distinct es ≡ true → distinct (tally_all es ys) ≡ true
unfolding tally_all
distinct-tallied [] es h = h
distinct-tallied (y ∷ ys) es h = distinct-tallied ys (tallied es y.leaf y.bytes) (tally-distinct es y.leaf y.bytes h)
