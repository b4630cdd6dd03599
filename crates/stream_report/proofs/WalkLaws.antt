-- A stream's walk by its steps: what is left of it from a cursor, with the report so far. Assumes nothing.
use Rattle.std.specs.Prelude.{Some, None}
use Prim.Native.Nat.{ℕ, zero, suc, ◌+◌, ◌-◌, ◌*◌, ◌≤◌, ◌<◌}
use mathlib.Core.Path.{◌≡◌, refl, ap, ◌∙◌}
use mathlib.Core.Bool.{Bool, true, false}
use mathlib.Core.List.{List}
use native.Mathlib.Omega.{arith}
use lib.ListN.{length}
use lib.Dec.{leb, ltb}
use borrow.Author.Tests.{leb-true, ltb-false}
use Rattle.answer.specs.Answer.{Answer, answered, refused, pick, stop, then}
use Rattle.field.specs.Fields.{little_at}
use Rattle.stream_header.specs.Header.{longest}
use Rattle.stream_item.specs.Iterator.{Next, done, yielded, over_record, next_of}
use Rattle.stream_item.proofs.LinkLaws.{WholeAt, whole_is}
use Rattle.stream_item.proofs.NextLaws.{passed, Yields, yields}
use Rattle.stream_item.specs.declared.Item.{Item}
use Rattle.stream_item.specs.declared.iter.ItemIter.{ItemIter}
use Rattle.stream_report.specs.Report.{Counting, counted, larger, after_step, run_by, count_run}
use Rattle.stream_report.specs.Held.{Known, Sound, KeptTable, Counts, Finished, RunRefuses, WalkCounts}
use Rattle.stream_report.specs.declared.Largest.{Largest}
use Rattle.stream_report.specs.declared.Count.{Count}

-- ---- a step goes on, and stays inside
pub record Further (s : List ℕ) (c : ItemIter) (i : Item) (d : ItemIter) : Type 0 where
  pub place : i.place ≡ c.at + 2
  pub two : 2 ≤ i.length
  pub behind : d.at ≡ c.at + 2 + i.length
  pub inside : d.at ≤ length s
  pub index : d.index ≡ c.index + 1
  pub short : length s ≤ longest

pub further : (s : List ℕ) (c : ItemIter) (i : Item) (d : ItemIter) → next_of s c ≡ answered (yielded i d) → Further s c i d
further s c i d e =
    let y : Yields s c i d = yields s c i d e in
    let w : WholeAt s c.at i.place i.length = whole_is s c.at i.place i.length y.whole in
    record { place = w.start; two = y.long; behind = omega arith; inside = y.inside; index = y.index; short = y.short }

-- where there is nothing left, the cursor stands at the end
pub over-end : (s : List ℕ) (c : ItemIter) → next_of s c ≡ answered done → (length s ≤ longest) × (c.at ≡ length s)
unfolding next_of
over-end s c e =
    let t1 = passed (ltb longest (length s)) 16 _ _ e in
    let t2 = passed (ltb (length s) c.at) 1 _ _ t1.1 in
    let a : c.at ≤ length s = ltb-false _ _ t2.0 in
    (ltb-false _ _ t1.0, go (leb (length s) c.at) refl a t2.1)
  where
    go : (b : Bool) → leb (length s) c.at ≡ b → c.at ≤ length s
        → pick b (answered done) (stop (ltb (length s) (c.at + 2)) 1 (stop (ltb (little_at 2 s c.at) 2) 6 (stop (ltb (length s) (c.at + 2 + little_at 2 s c.at)) 1 (stop (leb 4294967295 c.index) 7 (answered (over_record c (little_at 2 s c.at))))))) ≡ answered done
        → c.at ≡ length s
    go true q a h = let b : length s ≤ c.at = leb-true _ _ q in omega arith
    go false q a h =
        let t4 = passed (ltb (length s) (c.at + 2)) 1 _ _ h in
        let t5 = passed (ltb (little_at 2 s c.at) 2) 6 _ _ t4.1 in
        let t6 = passed (ltb (length s) (c.at + 2 + little_at 2 s c.at)) 1 _ _ t5.1 in
        let t7 = passed (leb 4294967295 c.index) 7 _ _ t6.1 in
        let z : ◌≡◌ {A = ℕ} 0 1 = let w = t7.1 in cc in
        absurd (omega arith)

-- ---- one step of a walk
pub run_step : (k : ℕ) (s : List ℕ) (number : ℕ) (c : ItemIter) (x : Counting) (a : Answer Next) → next_of s c ≡ a
    → run_by (suc k) s number c x ≡ then a (after_step (run_by k s number) s number c x)
unfolding run_by
run_step k s number c x a e = rw e

-- what is left of the walk from `first` with x is what is left from c with the report so far
pub record Onward (s : List ℕ) (number : ℕ) (first : ItemIter) (x : Counting) (t₀ : List ℕ) (t : List ℕ) (c : ItemIter) (k : Count) (l : Largest) : Type 0 where
  pub so : Counting
  pub steps : ℕ
  pub enough : length s - c.at < steps
  pub is : count_run s number first x ≡ run_by steps s number c so
  pub kept : KeptTable t₀ t k so.report.entries so.full
  pub largest : so.report.largest ≡ l
  pub taken : so.report.taken ≡ x.report.taken
  pub refused : so.report.refused ≡ x.report.refused
  pub headers : so.report.headers ≡ x.report.headers
  pub records : so.report.records + first.index ≡ x.report.records + c.index
  pub bytes : so.report.bytes + 2 * so.report.records + first.at ≡ x.report.bytes + 2 * x.report.records + c.at
  pub more : x.report.bytes ≤ so.report.bytes
  pub up : first.index ≤ c.index

-- the loop's invariant
pub record Going (s : List ℕ) (number : ℕ) (t₁ : List ℕ) (first : ItemIter) (k₁ : Count) (l₁ : Largest) (t : List ℕ) (c : ItemIter) (k : Count) (l : Largest) : Type 0 where
  pub sound : Sound t k
  pub from : (x : Counting) (t₀ : List ℕ) → KeptTable t₀ t₁ k₁ x.report.entries x.full → x.report.largest ≡ l₁ → Onward s number first x t₀ t c k l

pub going-first : (s : List ℕ) (number : ℕ) (t : List ℕ) (c : ItemIter) (k : Count) (l : Largest) → Sound t k → Going s number t c k l t c k l
unfolding count_run
going-first s number t c k l so = record {
  sound = so;
  from = λ x t₀ h e. record {
    so = x;
    steps = suc (length s);
    enough = omega arith;
    is = refl;
    kept = h;
    largest = e;
    taken = refl;
    refused = refl;
    headers = refl;
    records = refl;
    bytes = refl;
    more = omega arith;
    up = omega arith;
  };
}

module _ (s : List ℕ) (number : ℕ) (first : ItemIter) (x : Counting) (t₀ t : List ℕ) (c : ItemIter) (k : Count) (l : Largest) (o : Onward s number first x t₀ t c k l) where
  stepped : (a : Answer Next) → next_of s c ≡ a → (m : ℕ) × (length s - c.at ≤ m) × (count_run s number first x ≡ then a (after_step (run_by m s number) s number c o.so))
  stepped a e = go o.steps refl
    where
      go : (m : ℕ) → o.steps ≡ m → (m : ℕ) × (length s - c.at ≤ m) × (count_run s number first x ≡ then a (after_step (run_by m s number) s number c o.so))
      go zero q = absurd (omega (arith, o.enough))
      go (suc m) q = (m, omega (arith, o.enough), o.is ∙ ap (λ (j : ℕ). run_by j s number c o.so) q ∙ run_step m s number c o.so a e)

  onward-next : (i : Item) (d : ItemIter) → next_of s c ≡ answered (yielded i d) → (leaf n : ℕ) → leaf ≡ little_at 2 s i.place → n ≡ i.length
      → (r : Count) (t' : List ℕ) → Counts t k leaf n r t' → (l' : Largest) → l' ≡ larger l n number c.index
      → Onward s number first x t₀ t' d r l'
  onward-next i d h leaf n el en r t' q l' e =
      let y = stepped (answered (yielded i d)) h in
      let f : Further s c i d = further s c i d h in
      record {
        so = counted number c.index leaf n o.so;
        steps = y.0;
        enough = omega (arith, y.1, f.behind, f.inside);
        is = y.2 ∙ rw (el, en);
        kept = q.on t₀ o.so.report.entries o.so.full o.kept;
        largest = rw (e, o.largest);
        taken = o.taken;
        refused = o.refused;
        headers = o.headers;
        records = omega (arith, o.records, f.index);
        bytes = omega (arith, o.bytes, f.behind, en);
        more = omega (arith, o.more);
        up = omega (arith, o.up, f.index);
      }

  onward-done : next_of s c ≡ answered done → k.rows ≤ 64 → Known t → Finished s number first x t₀ (record { count = k; largest = l; cursor = c }) t
  onward-done h few kn =
      let e = over-end s c h in
      record {
        counting = o.so;
        is = (stepped (answered done) h).2;
        few = few;
        kept = o.kept;
        largest = o.largest;
        taken = o.taken;
        refused = o.refused;
        headers = o.headers;
        records = o.records;
        bytes = o.bytes;
        more = o.more;
        up = o.up;
        inside = omega (arith, e.0, e.1);
        known = kn;
      }

  onward-refused : (n : ℕ) (d : List ℕ) → next_of s c ≡ refused n d → RunRefuses s number first x
  onward-refused n d h = record { reason = n; details = d; is = (stepped (refused n d) h).2 }

module _ (s : List ℕ) (number : ℕ) (t₁ : List ℕ) (first : ItemIter) (k₁ : Count) (l₁ : Largest) (t : List ℕ) (c : ItemIter) (k : Count) (l : Largest) (g : Going s number t₁ first k₁ l₁ t c k l) where
  pub going_next : (i : Item) (d : ItemIter) → next_of s c ≡ answered (yielded i d) → (leaf n : ℕ) → leaf ≡ little_at 2 s i.place → n ≡ i.length
      → (r : Count) (t' : List ℕ) → Counts t k leaf n r t' → (l' : Largest) → l' ≡ larger l n number c.index
      → Going s number t₁ first k₁ l₁ t' d r l'
  going_next i d h leaf n el en r t' q l' e =
      record { sound = q.sound; from = λ x t₀ a b. onward-next s number first x t₀ t c k l (g.from x t₀ a b) i d h leaf n el en r t' q l' e }

  pub going_done : next_of s c ≡ answered done → Known t → WalkCounts s number first k₁ l₁ t₁ (Some (record { count = k; largest = l; cursor = c })) t
  going_done h kn = record { from = λ x t₀ a b. onward-done s number first x t₀ t c k l (g.from x t₀ a b) h g.sound.few kn }

  pub going-refused : (n : ℕ) (d : List ℕ) → next_of s c ≡ refused n d → WalkCounts s number first k₁ l₁ t₁ None t
  going-refused n d h = record { from = λ x t₀ a b. onward-refused s number first x t₀ t c k l (g.from x t₀ a b) n d h }
