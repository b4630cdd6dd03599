-- The outcomes of `section_start`, a law for each; a walk by its steps; and what the count of a section says. Assumes nothing.
use Rattle.std.specs.Prelude.{Option, None}
use Prim.Native.Nat.{ℕ, zero, suc, ◌+◌, ◌-◌, ◌≤◌, ◌<◌}
use mathlib.Core.Path.{◌≡◌, refl, sym, ap, ◌∙◌}
use mathlib.Core.Logic.{◌⊎◌, inl, inr}
use mathlib.Core.List.{List, []}
use mathlib.Core.Bool.{Bool, true, false}
use native.Mathlib.Omega.{arith}
use lib.ListN.{length}
use lib.Dec.{leb, ltb, eqb}
use borrow.Author.Tests.{le-ltb, lt-ltb, eq-eqb, ne_eqb, ltb-false, leb-true, eqb-true}
use Rattle.answer.specs.Answer.{Answer, answered, refused, pick, stop, then}
use Rattle.field.specs.Fields.{little_at}
use Rattle.stream_header.specs.Header.{longest}
use Rattle.stream_item.specs.Iterator.{Next, done, yielded, over_record, next_of, next_told}
use Rattle.stream_item.proofs.LinkLaws.{WholeAt, whole_is}
use Rattle.stream_item.proofs.NextLaws.{passed, Yields, yields}
use Rattle.stream_item.specs.declared.Item.{Item}
use Rattle.stream_item.specs.declared.iter.ItemIter.{ItemIter}
use Rattle.section_item.specs.Sections.{first, section_start, section_on, walk_by, last_of, count_of, SectionPassed, none, more, SectionEnds, SectionCounts}

-- ---- where a walk starts
module _ (s : List ℕ) where
  pub start-long : longest < length s → section_start s ≡ refused 16 []
  unfolding section_start
  start-long h = simp (lt-ltb _ _ h)

  pub start-short : length s ≤ longest → length s < 4 → section_start s ≡ refused 1 []
  unfolding section_start
  start-short a h = simp (le-ltb _ _ a, lt-ltb _ _ h)

  pub start-signature : length s ≤ longest → 4 ≤ length s → (little_at 4 s 0 ≡ 4 → ⊥) → section_start s ≡ refused 25 []
  unfolding section_start
  start-signature a b h = simp (le-ltb _ _ a, le-ltb _ _ b, ne_eqb _ _ h)

  pub start_first : length s ≤ longest → 4 ≤ length s → little_at 4 s 0 ≡ 4 → section_start s ≡ answered first
  unfolding section_start
  start_first a b h = simp (le-ltb _ _ a, le-ltb _ _ b, eq-eqb _ _ h)

-- back: what a start that was given says
pub record Starts (s : List ℕ) (c : ItemIter) : Type 0 where
  pub short : length s ≤ longest
  pub four : 4 ≤ length s
  pub signature : little_at 4 s 0 ≡ 4
  pub cursor : first ≡ c

picked : (b : Bool) (c : ItemIter) → ◌≡◌ {A = Answer ItemIter} (pick b (answered first) (refused 25 [])) (answered c) → (b ≡ true) × (first ≡ c)
picked true c e = (refl, cc)
picked false c e = let z : ◌≡◌ {A = ℕ} 0 1 = cc in absurd (omega arith)

pub starts : (s : List ℕ) (c : ItemIter) → section_start s ≡ answered c → Starts s c
unfolding section_start
starts s c e =
    let t1 = passed (ltb longest (length s)) 16 _ _ e in
    let t2 = passed (ltb (length s) 4) 1 _ _ t1.1 in
    let t3 = picked (eqb (little_at 4 s 0) 4) c t2.1 in
    record { short = ltb-false _ _ t1.0; four = ltb-false _ _ t2.0; signature = eqb-true _ _ t3.0; cursor = t3.1 }

-- ---- a step goes on, and stays inside
pub record Further (s : List ℕ) (c d : ItemIter) : Type 0 where
  pub on : c.at < d.at
  pub inside : d.at ≤ length s
  pub index : d.index ≡ c.index + 1
  pub left : c.index < 4294967295

pub further : (s : List ℕ) (c : ItemIter) (i : Item) (d : ItemIter) → next_of s c ≡ answered (yielded i d) → Further s c d
further s c i d e =
    let y : Yields s c i d = yields s c i d e in
    let w : WholeAt s c.at i.place i.length = whole_is s c.at i.place i.length y.whole in
    record { on = omega arith; inside = y.inside; index = y.index; left = y.left }

-- ---- a walk by its steps
module _ (s : List ℕ) (k : ℕ) (c : ItemIter) where
  walk_step : (a : Answer Next) → next_of s c ≡ a → walk_by (suc k) s c ≡ then a (section_on (walk_by k s) c)
  unfolding walk_by
  walk_step a e = rw e

-- what is left of a walk from cursor c is what is left from d: the loop's invariant
pub record Left (s : List ℕ) (c d : ItemIter) : Type 0 where
  pub steps : ℕ
  pub enough : length s - d.at < steps
  pub is : last_of s c ≡ walk_by steps s d

pub left-first : (s : List ℕ) (c : ItemIter) → Left s c c
unfolding last_of
left-first s c = record { steps = suc (length s); enough = omega arith; is = refl }

module _ (s : List ℕ) (c d : ItemIter) (l : Left s c d) where
  -- there is a step to make
  stepped : (a : Answer Next) → next_of s d ≡ a → (k : ℕ) × (length s - d.at ≤ k) × (last_of s c ≡ then a (section_on (walk_by k s) d))
  stepped a e = go l.steps refl
    where
      go : (k : ℕ) → l.steps ≡ k → (k : ℕ) × (length s - d.at ≤ k) × (last_of s c ≡ then a (section_on (walk_by k s) d))
      go zero q = absurd (omega (arith, l.enough))
      go (suc k) q = (k, omega (arith, l.enough), l.is ∙ ap (λ (n : ℕ). walk_by n s d) q ∙ walk_step s k d a e)

  pub left-next : (i : Item) (e : ItemIter) → next_of s d ≡ answered (yielded i e) → Left s c e
  left-next i e h =
      let x = stepped (answered (yielded i e)) h in
      let f : Further s d e = further s d i e h in
      record { steps = x.0; enough = omega (arith, x.1); is = x.2 }

  pub left-done : next_of s d ≡ answered done → last_of s c ≡ answered d
  left-done h = (stepped (answered done) h).2

  pub left-over : (o : Option (Item × ItemIter)) → answered (next_told o) ≡ next_of s d → o ≡ None → answered d ≡ last_of s c
  left-over o e n = sym (left-done (sym e ∙ ap (λ x. answered (next_told x)) n))

  pub left-refused : (n : ℕ) (x : List ℕ) → next_of s d ≡ refused n x → last_of s c ≡ refused n x
  left-refused n x h = (stepped (refused n x) h).2

-- ---- back: where a walk was over
never : {A : Type 0} {X : Type 0} (a : A) (n : ℕ) (x : List ℕ) → ◌≡◌ {A = Answer A} (refused n x) (answered a) → X
never a n x e = let z : ◌≡◌ {A = ℕ} 0 1 = cc in absurd (omega arith)

-- the index is as much above the first as there are records, and stays a u32
pub record Over (s : List ℕ) (c d : ItemIter) : Type 0 where
  pub ends : SectionEnds s c d
  pub index : d.index ≡ c.index + ends.records
  pub small : c.index ≤ 4294967295 → d.index ≤ 4294967295

walk-over : (k : ℕ) (s : List ℕ) (c d : ItemIter) → length s - c.at < k → walk_by k s c ≡ answered d → Over s c d
walk-over zero s c d l e = absurd (omega arith)
walk-over (suc k) s c d l e = go (λ b. walk-over k s b d) (next_of s c) refl
  where
    go : ((b : ItemIter) → length s - b.at < k → walk_by k s b ≡ answered d → Over s b d) → (a : Answer Next) → next_of s c ≡ a → Over s c d
    go on (answered done) h =
        let q : c ≡ d = let w = walk_step s k c (answered done) h in cc in
        rw (← q) (record { ends = record { records = 0; led = none; over = h }; index = omega arith; small = λ x. x })
    go on (answered (yielded i b)) h =
        let f : Further s c b = further s c i b h in
        let o : Over s b d = on b (omega arith) (sym (walk_step s k c (answered (yielded i b)) h) ∙ e) in
        record { ends = record { records = suc o.ends.records; led = more h o.ends.led; over = o.ends.over }; index = omega (arith, o.index); small = λ x. o.small (omega arith) }
    go on (refused n x) h = never d n x (sym (walk_step s k c (refused n x) h) ∙ e)

pub last-ends : (s : List ℕ) (c d : ItemIter) → last_of s c ≡ answered d → Over s c d
unfolding last_of
last-ends s c d e = walk-over (suc (length s)) s c d (omega arith) e

-- ---- back: where a walk was refused
record Stopped (s : List ℕ) (c : ItemIter) (k : ℕ) (x : List ℕ) : Type 0 where
  pub records : ℕ
  pub cursor : ItemIter
  pub led : SectionPassed s c records cursor
  pub stops : next_of s cursor ≡ refused k x

same-refusal : {A B : Type 0} (n : ℕ) (x : List ℕ) (m : ℕ) (y : List ℕ) → ◌≡◌ {A = Answer A} (refused n x) (refused m y) → ◌≡◌ {A = Answer B} (refused n x) (refused m y)
same-refusal n x m y e = let a : n ≡ m = cc in let b : x ≡ y = cc in rw (a, b)

never-refused : {A : Type 0} {X : Type 0} (a : A) (n : ℕ) (x : List ℕ) → ◌≡◌ {A = Answer A} (answered a) (refused n x) → X
never-refused a n x e = let z : ◌≡◌ {A = ℕ} 0 1 = cc in absurd (omega arith)

walk-stopped : (j : ℕ) (s : List ℕ) (c : ItemIter) (k : ℕ) (x : List ℕ) → walk_by j s c ≡ refused k x → Stopped s c k x
unfolding walk_by
walk-stopped zero s c k x e = never-refused c k x e
walk-stopped (suc j) s c k x e = go (λ b. walk-stopped j s b k x) (next_of s c) refl
  where
    go : ((b : ItemIter) → walk_by j s b ≡ refused k x → Stopped s b k x) → (a : Answer Next) → next_of s c ≡ a → Stopped s c k x
    go on (answered done) h = never-refused c k x (sym (walk_step s j c (answered done) h) ∙ e)
    go on (answered (yielded i b)) h =
        let o : Stopped s b k x = on b (sym (walk_step s j c (answered (yielded i b)) h) ∙ e) in
        record { records = suc o.records; cursor = o.cursor; led = more h o.led; stops = o.stops }
    go on (refused n y) h = record { records = 0; cursor = c; led = none; stops = h ∙ same-refusal n y k x (sym (walk_step s j c (refused n y) h) ∙ e) }

count-stopped : (s : List ℕ) (k : ℕ) (x : List ℕ) → count_of s ≡ refused k x
    → (section_start s ≡ refused k x) ⊎ ((n : ℕ) × (d : ItemIter) × (section_start s ≡ answered first) × SectionPassed s first n d × (next_of s d ≡ refused k x))
unfolding count_of last_of
count-stopped s k x e = go (section_start s) refl e
  where
    ended : section_start s ≡ answered first → (b : Answer ItemIter) → last_of s first ≡ b → then b (λ d. answered (d.index - 0x1000)) ≡ refused k x
        → (section_start s ≡ refused k x) ⊎ ((n : ℕ) × (d : ItemIter) × (section_start s ≡ answered first) × SectionPassed s first n d × (next_of s d ≡ refused k x))
    ended p (answered d) l q = never-refused (d.index - 0x1000) k x q
    ended p (refused m y) l q =
        let w : Stopped s first k x = walk-stopped (suc (length s)) s first k x (l ∙ same-refusal m y k x q) in
        inr (w.records, w.cursor, p, w.led, w.stops)

    go : (a : Answer ItemIter) → section_start s ≡ a → then a (λ c. then (last_of s c) (λ d. answered (d.index - 0x1000))) ≡ refused k x
        → (section_start s ≡ refused k x) ⊎ ((n : ℕ) × (d : ItemIter) × (section_start s ≡ answered first) × SectionPassed s first n d × (next_of s d ≡ refused k x))
    go (refused m y) p q = inl (p ∙ same-refusal m y k x q)
    go (answered c) p q = let f : c ≡ first = sym (starts s c p).cursor in ended (rw f at p) (last_of s first) refl (rw f at q)

-- ---- where there is nothing left, the cursor stands at the end
over-end : (s : List ℕ) (c : ItemIter) → next_of s c ≡ answered done → c.at ≡ length s
unfolding next_of
over-end s c e =
    let t1 = passed (ltb longest (length s)) 16 _ _ e in
    let t2 = passed (ltb (length s) c.at) 1 _ _ t1.1 in
    let a : c.at ≤ length s = ltb-false _ _ t2.0 in
    go (leb (length s) c.at) refl a t2.1
  where
    go : (b : Bool) → leb (length s) c.at ≡ b → c.at ≤ length s
        → pick b (answered done) (stop (ltb (length s) (c.at + 2)) 1 (stop (ltb (little_at 2 s c.at) 2) 6 (stop (ltb (length s) (c.at + 2 + little_at 2 s c.at)) 1 (stop (leb 4294967295 c.index) 7 (answered (over_record c (little_at 2 s c.at))))))) ≡ answered done
        → c.at ≡ length s
    go true q a h = let b : length s ≤ c.at = leb-true _ _ q in omega arith
    go false q a h =
        let t4 = passed (ltb (length s) (c.at + 2)) 1 _ _ h in
        let t5 = passed (ltb (little_at 2 s c.at) 2) 6 _ _ t4.1 in
        let t6 = passed (ltb (length s) (c.at + 2 + little_at 2 s c.at)) 1 _ _ t5.1 in
        let t7 = passed (leb 4294967295 c.index) 7 _ _ t6.1 in
        let z : ◌≡◌ {A = ℕ} 0 1 = let w = t7.1 in cc in
        absurd (omega arith)

-- ---- the count

-- what was counted: a start, and a walk that was over
pub record Counted (s : List ℕ) (n : ℕ) : Type 0 where
  pub begun : Starts s first
  pub end : ItemIter
  pub last : last_of s first ≡ answered end
  pub is : end.index ≡ 0x1000 + n
  pub small : 0x1000 + n ≤ 4294967295
  pub walk : SectionPassed s first n end
  pub over : next_of s end ≡ answered done

pub counted : (s : List ℕ) (n : ℕ) → count_of s ≡ answered n → Counted s n
unfolding count_of
counted s n e = go (section_start s) refl e
  where
    ended : Starts s first → (b : Answer ItemIter) → last_of s first ≡ b → then b (λ d. answered (d.index - 0x1000)) ≡ answered n → Counted s n
    ended st (refused m x) p q = never n m x q
    ended st (answered d) p q =
        let o : Over s first d = last-ends s first d p in
        let w : d.index - 0x1000 ≡ n = cc in
        let r : o.ends.records ≡ n = omega (arith, o.index) in
        let small : d.index ≤ 4294967295 = o.small (omega arith) in
        record { begun = st; end = d; last = p; is = omega (arith, o.index); small = omega (arith, o.index); walk = rw r at o.ends.led; over = o.ends.over }

    go : (a : Answer ItemIter) → section_start s ≡ a → then a (λ c. then (last_of s c) (λ d. answered (d.index - 0x1000))) ≡ answered n → Counted s n
    go (refused m x) p q = never n m x q
    go (answered c) p q =
        let st : Starts s c = starts s c p in
        let f : c ≡ first = sym st.cursor in
        ended (rw f at st) (last_of s first) refl (rw f at q)

-- what was counted, forward
pub count-is : (s : List ℕ) (c : ItemIter) (a : Answer ItemIter) → section_start s ≡ answered c → last_of s c ≡ a → count_of s ≡ then a (λ d. answered (d.index - 0x1000))
unfolding count_of
count-is s c a e h = rw (e, h)

pub count-refused : (s : List ℕ) (n : ℕ) (x : List ℕ) → section_start s ≡ refused n x → count_of s ≡ refused n x
unfolding count_of
count-refused s n x e = rw e

-- the last cursor is not below the first
pub counted-from : (s : List ℕ) (c d : ItemIter) → section_start s ≡ answered c → last_of s c ≡ answered d → 0x1000 ≤ d.index
counted-from s c d e h =
    let i : 0x1000 ≡ c.index = ap (λ (x : ItemIter). x.index) (starts s c e).cursor in
    omega (arith, (last-ends s c d h).index)

-- ---- the walk by steps, and back
left-on : (s : List ℕ) (c d : ItemIter) (n : ℕ) (e : ItemIter) → Left s c d → SectionPassed s d n e → Left s c e
left-on s c d zero e l none = l
left-on s c d (suc n) e l (more {d = b} {i = i} h w) = left-on s c b n e (left-next s c d l i b h) w

-- the index goes up by one with each record
passed-index : (s : List ℕ) (c : ItemIter) (n : ℕ) (d : ItemIter) → SectionPassed s c n d → d.index ≡ c.index + n
passed-index s c zero d none = omega arith
passed-index s c (suc n) d (more {d = b} {i = i} h w) = omega (arith, passed-index s b n d w, (further s c i b h).index)

pub counts : SectionCounts
counts = record {
  walked = λ s n e. let k : Counted s n = counted s n e in (k.end, k.walk, k.over, over-end s k.end k.over);
  counted = λ s n d b w o.
      let i : d.index ≡ 0x1000 + n = passed-index s first n d w in
      let j : d.index - 0x1000 ≡ n = omega arith in
      count-is s first (answered d) b (left-done s first d (left-on s first first n d (left-first s first) w) o) ∙ ap (λ (m : ℕ). answered m) j;
  own = λ s n d k x b w o. count-is s first (refused k x) b (left-refused s first d (left-on s first first n d (left-first s first) w) k x o);
  only_own = count-stopped;
}
