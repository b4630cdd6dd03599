-- The outcomes of `next_of`, a law for each, in the order of its tests; and what a yielded item says. Assumes nothing.
use Rattle.std.specs.Prelude.{Some}
use Prim.Native.Nat.{ℕ, ◌+◌, ◌≤◌, ◌<◌}
use mathlib.Core.Path.{◌≡◌, refl}
use mathlib.Core.List.{List, []}
use mathlib.Core.Bool.{Bool, true, false}
use native.Mathlib.Omega.{arith}
use lib.ListN.{length}
use lib.Dec.{leb, ltb}
use borrow.Author.Tests.{le-leb, lt-leb, le-ltb, lt-ltb, leb-false, ltb-true, ltb-false}
use Rattle.answer.specs.Answer.{Answer, answered, refused, pick, stop}
use Rattle.field.specs.Fields.{little_at}
use Rattle.stream_header.specs.Header.{longest, header_of}
use Rattle.stream_header.specs.declared.Header.{Header}
use Rattle.field.specs.Indices.{index_in}
use Rattle.stream_item.specs.Links.{link_at}
use Rattle.stream_item.specs.Iterator.{iter_of, Next, done, yielded, over_record, next_of}
use Rattle.stream_item.proofs.LinkLaws.{link-whole}
use Rattle.field.specs.declared.index.Stream.{Stream}
use Rattle.stream_item.specs.declared.Item.{Item}
use Rattle.stream_item.specs.declared.iter.ItemIter.{ItemIter}

module _ (s : List ℕ) (c : ItemIter) where
  pub next-long : longest < length s → next_of s c ≡ refused 16 []
  unfolding next_of
  next-long h = simp (lt-ltb _ _ h)

  pub next_past : length s ≤ longest → length s < c.at → next_of s c ≡ refused 1 []
  unfolding next_of
  next_past a h = simp (le-ltb _ _ a, lt-ltb _ _ h)

  pub next-done : length s ≤ longest → c.at ≤ length s → length s ≤ c.at → next_of s c ≡ answered done
  unfolding next_of
  next-done a b h = simp (le-ltb _ _ a, le-ltb _ _ b, le-leb _ _ h)

  pub next-length : length s ≤ longest → c.at < length s → length s < c.at + 2 → next_of s c ≡ refused 1 []
  unfolding next_of
  next-length a b h =
      let b' : c.at ≤ length s = omega arith in
      simp (le-ltb _ _ a, le-ltb _ _ b', lt-leb _ _ b, lt-ltb _ _ h)

  -- no length is there, and the end is another place
  pub next-cut : length s ≤ longest → (c.at ≡ length s → ⊥) → length s < c.at + 2 → next_of s c ≡ refused 1 []
  next-cut a ne h = go (ltb (length s) c.at) refl
    where
      go : (t : Bool) → ltb (length s) c.at ≡ t → next_of s c ≡ refused 1 []
      go true t = next_past a (ltb-true _ _ t)
      go false t = next-length a (omega (arith, ltb-false (length s) c.at t, ne)) h

  pub next-short : length s ≤ longest → c.at + 2 ≤ length s → little_at 2 s c.at < 2 → next_of s c ≡ refused 6 []
  unfolding next_of
  next-short a b h =
      let b' : c.at ≤ length s = omega arith in
      let b'' : c.at < length s = omega arith in
      simp (le-ltb _ _ a, le-ltb _ _ b', lt-leb _ _ b'', le-ltb _ _ b, lt-ltb _ _ h)

  pub next-payload : length s ≤ longest → c.at + 2 ≤ length s → 2 ≤ little_at 2 s c.at → length s < c.at + 2 + little_at 2 s c.at → next_of s c ≡ refused 1 []
  unfolding next_of
  next-payload a b l h =
      let b' : c.at ≤ length s = omega arith in
      let b'' : c.at < length s = omega arith in
      simp (le-ltb _ _ a, le-ltb _ _ b', lt-leb _ _ b'', le-ltb _ _ b, le-ltb _ _ l, lt-ltb _ _ h)

  pub next-used : length s ≤ longest → 2 ≤ little_at 2 s c.at → c.at + 2 + little_at 2 s c.at ≤ length s → 4294967295 ≤ c.index → next_of s c ≡ refused 7 []
  unfolding next_of
  next-used a l h u =
      let b : c.at + 2 ≤ length s = omega arith in
      let b' : c.at ≤ length s = omega arith in
      let b'' : c.at < length s = omega arith in
      simp (le-ltb _ _ a, le-ltb _ _ b', lt-leb _ _ b'', le-ltb _ _ b, le-ltb _ _ l, le-ltb _ _ h, le-leb _ _ u)

  pub next-yields : length s ≤ longest → 2 ≤ little_at 2 s c.at → c.at + 2 + little_at 2 s c.at ≤ length s → c.index < 4294967295
      → next_of s c ≡ answered (over_record c (little_at 2 s c.at))
  unfolding next_of
  next-yields a l h u =
      let b : c.at + 2 ≤ length s = omega arith in
      let b' : c.at ≤ length s = omega arith in
      let b'' : c.at < length s = omega arith in
      simp (le-ltb _ _ a, le-ltb _ _ b', lt-leb _ _ b'', le-ltb _ _ b, le-ltb _ _ l, le-ltb _ _ h, lt-leb _ _ u)

-- a fresh iterator's cursor
pub iter-is : (tag : Stream) (s : List ℕ) (h : Header) → header_of s ≡ answered h
    → iter_of tag s ≡ answered (record { stream = tag; at = h.header_size; index = h.minimum_index })
unfolding iter_of
iter-is tag s h e = rw e

-- ---- back: what an answer that was given says of the tests before it
pub passed : {A : Type 0} (b : Bool) (n : ℕ) (a : Answer A) (v : A) → stop b n a ≡ answered v → (b ≡ false) × (a ≡ answered v)
passed true n a v e = let z : ◌≡◌ {A = ℕ} 0 1 = cc in absurd (omega arith)
passed false n a v e = (refl, e)

undone : (b : Bool) (a : Answer Next) (i : Item) (d : ItemIter) → pick b (answered done) a ≡ answered (yielded i d) → (b ≡ false) × (a ≡ answered (yielded i d))
undone true a i d e = let z : ◌≡◌ {A = ℕ} 0 1 = cc in absurd (omega arith)
undone false a i d e = (refl, e)

pub record Yields (s : List ℕ) (c : ItemIter) (i : Item) (d : ItemIter) : Type 0 where
  pub short : length s ≤ longest
  pub whole : link_at s c.at ≡ Some (i.place, i.length)
  pub long : 2 ≤ i.length
  pub inside : d.at ≤ length s
  pub at : d.at ≡ i.place + i.length
  pub index : d.index ≡ c.index + 1
  pub left : c.index < 4294967295
  pub stream : d.stream ≡ c.stream
  pub named : i.index ≡ index_in c.stream c.index

pub yields : (s : List ℕ) (c : ItemIter) (i : Item) (d : ItemIter) → next_of s c ≡ answered (yielded i d) → Yields s c i d
unfolding next_of
yields s c i d e =
    let n = little_at 2 s c.at in
    let t1 = passed (ltb longest (length s)) 16 _ _ e in
    let t2 = passed (ltb (length s) c.at) 1 _ _ t1.1 in
    let t3 = undone (leb (length s) c.at) _ _ _ t2.1 in
    let t4 = passed (ltb (length s) (c.at + 2)) 1 _ _ t3.1 in
    let t5 = passed (ltb n 2) 6 _ _ t4.1 in
    let t6 = passed (ltb (length s) (c.at + 2 + n)) 1 _ _ t5.1 in
    let t7 = passed (leb 4294967295 c.index) 7 _ _ t6.1 in
    let two : 2 ≤ little_at 2 s c.at = ltb-false _ _ t5.0 in
    let w : c.at + 2 + little_at 2 s c.at ≤ length s = ltb-false _ _ t6.0 in
    let a : c.at + 2 ≡ i.place = cc in
    let l : little_at 2 s c.at ≡ i.length = cc in
    let n : c.at + 2 + little_at 2 s c.at ≡ d.at = cc in
    record {
      short = ltb-false _ _ t1.0;
      whole = cc (link-whole s c.at w);
      long = omega arith;
      inside = omega arith;
      at = omega arith;
      index = cc;
      left = leb-false _ _ t7.0;
      stream = cc;
      named = cc;
    }
