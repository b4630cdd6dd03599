-- The stream that is made of a section: its header is accepted, and what stands behind the signature stands 52 higher. Assumes nothing.
use Rattle.std.specs.Prelude.{Option, Some, None}
use Prim.Native.Nat.{ℕ, zero, suc, ◌+◌, ◌-◌, ◌*◌, ◌/◌, ◌%◌, ◌^◌, ◌≤◌, ◌<◌}
use mathlib.Core.Path.{◌≡◌, refl, sym, ap, ◌∙◌, subst}
use mathlib.Core.List.{List, [], ◌∷◌, ◌++◌}
use mathlib.Core.Bool.{Bool, true, false}
use native.Mathlib.Omega.{arith}
use lib.ListN.{length, get_or, take, drop}
use lib.Seq.{get_or-append-add, get_or-drop, drop-drop, drop-append_seam}
use lib.Dec.{leb, ltb}
use borrow.Author.Tests.{le-leb, lt-leb, le-ltb, lt-ltb, leb-true, leb-false, ltb-true, ltb-false}
use Rattle.answer.specs.Answer.{Answer, answered, refused, pick, stop, then}
use Rattle.field.specs.Fields.{little_at}
use Rattle.stream_header.specs.Header.{longest, header_of}
use Rattle.field.specs.Indices.{index_in}
use Rattle.stream_item.specs.Links.{link_at, Walk, reached, broke, passing, linked, chain, landing, land, link_of}
use Rattle.stream_item.specs.Iterator.{Next, done, over_record, next_of}
use Rattle.stream_item.proofs.LinkLaws.{chain-bounds}
use Rattle.stream_item.proofs.NextLaws.{passed, iter-is}
use Rattle.field.specs.declared.index.ItemIndex.{ItemIndex}
use Rattle.field.specs.declared.index.Stream.TheVariants.{Types}
use Rattle.stream_item.specs.declared.iter.ItemIter.{ItemIter}
use Rattle.stream_item.specs.declared.link.Hit.{Hit}
use Rattle.stream_item.specs.declared.link.Hit.TheVariants.{Landed, Missed}
use Rattle.stream_finder.specs.Finder.{State, block_of, holding_in, Found, max_index_of, find_of}
use Rattle.stream_finder.specs.declared.ItemFinder.{ItemFinder}
use Rattle.stream_finder.specs.Demand as stream
use Rattle.stream_finder.specs.Demand.{gives, looked, Demand3By, Demand3Every}
use Rattle.stream_finder.proofs.DemandProof.{demand3-every}
use Rattle.write_header.specs.Headers.{header_fields, Narrow}
use Rattle.write_header.proofs.HeaderBack.{header-reads-back}
use Rattle.section_item.specs.Sections.{count_of}
use Rattle.section_item.proofs.SectionLaws.{Counted, counted}
use Rattle.section_finder.specs.Finders.{section_records}
use Rattle.section_finder.specs.Demand.{SectionPremises, SectionDemand3}
use Rattle.section_finder.proofs.DemandProof.{of-sections}
use Rattle.section_stream.specs.Streams.{header_for, stream_bytes, section_stream}
use Rattle.section_stream.specs.Made.{up_cursor, up_next, up_hit, up_found, SectionMade, StreamMade}
use Rattle.section_stream.proofs.StreamLaws.{head-length, stream-length, head_bytes}

-- ---- tests of numbers that are both 52 higher
ltb-up : (a b x y : ℕ) → (a < b → x < y) → (b ≤ a → y ≤ x) → ltb x y ≡ ltb a b
ltb-up a b x y f g = go (ltb a b) refl
  where
    go : (t : Bool) → ltb a b ≡ t → ltb x y ≡ t
    go true q = lt-ltb _ _ (f (ltb-true _ _ q))
    go false q = le-ltb _ _ (g (ltb-false _ _ q))

leb-up : (a b x y : ℕ) → (a ≤ b → x ≤ y) → (b < a → y < x) → leb x y ≡ leb a b
leb-up a b x y f g = go (leb a b) refl
  where
    go : (t : Bool) → leb a b ≡ t → leb x y ≡ t
    go true q = le-leb _ _ (f (leb-true _ _ q))
    go false q = lt-leb _ _ (g (leb-false _ _ q))

-- ---- what stands where
-- m holds, from place 56 on, what s holds from place 4 on
record Higher (s m : List ℕ) : Type 0 where
  pub long : length m ≡ length s + 52
  pub byte : (p : ℕ) → 4 ≤ p → get_or m (p + 52) 0 ≡ get_or s p 0

byte-up : (n : ℕ) (s : List ℕ) (p : ℕ) → 4 ≤ p → get_or (stream_bytes n s) (p + 52) 0 ≡ get_or s p 0
unfolding stream_bytes
byte-up n s p l =
    let e : p + 52 ≡ length (header_fields (header_for n (length s - 4))) + (p - 4) = omega (arith, head-length n (length s - 4)) in
    let f : 4 + (p - 4) ≡ p = omega arith in
    ap (λ (k : ℕ). get_or (header_fields (header_for n (length s - 4)) ++ drop 4 s) k 0) e
    ∙ get_or-append-add (header_fields (header_for n (length s - 4))) (drop 4 s) (p - 4) 0
    ∙ get_or-drop 4 s (p - 4) 0
    ∙ ap (λ (k : ℕ). get_or s k 0) f

higher : (n : ℕ) (s : List ℕ) → 4 ≤ length s → Higher s (stream_bytes n s)
higher n s four = record { long = stream-length n s four; byte = byte-up n s }

module _ (s m : List ℕ) (h : Higher s m) where
  little-up : (k p : ℕ) → 4 ≤ p → little_at k m (p + 52) ≡ little_at k s p
  unfolding little_at
  little-up zero p l = refl
  little-up (suc k) p l =
      let e : p + 52 + 1 ≡ p + 1 + 52 = omega arith in
      rw (h.byte p l, e, little-up k (p + 1) (omega arith))

  -- ---- a step
  module _ (short : length s + 52 ≤ longest) (c : ItemIter) (l : 4 ≤ c.at) where
    n : ℕ
    n = little_at 2 s c.at

    step-up : next_of m (up_cursor c) ≡ up_next (next_of s c)
    unfolding next_of
    step-up =
        let a : length m ≤ longest = omega (arith, h.long) in
        let b : length s ≤ longest = omega arith in
        rw (
          le-ltb longest (length m) a,
          le-ltb longest (length s) b,
          little-up 2 c.at l,
          ltb-up (length s) c.at (length m) (c.at + 52) (λ x. omega (arith, h.long)) (λ x. omega (arith, h.long)),
          leb-up (length s) c.at (length m) (c.at + 52) (λ x. omega (arith, h.long)) (λ x. omega (arith, h.long)),
          ltb-up (length s) (c.at + 2) (length m) (c.at + 52 + 2) (λ x. omega (arith, h.long)) (λ x. omega (arith, h.long)),
          ltb-up (length s) (c.at + 2 + little_at 2 s c.at) (length m) (c.at + 52 + 2 + little_at 2 s c.at) (λ x. omega (arith, h.long)) (λ x. omega (arith, h.long)),
        )
        (go (ltb (length s) c.at) (leb (length s) c.at) (ltb (length s) (c.at + 2)) (ltb (little_at 2 s c.at) 2) (ltb (length s) (c.at + 2 + little_at 2 s c.at)) (leb 4294967295 c.index))
      where
        last : ◌≡◌ {A = Answer Next} (answered (over_record (up_cursor c) (little_at 2 s c.at))) (up_next (answered (over_record c (little_at 2 s c.at))))
        last =
            let e : c.at + 52 + 2 ≡ c.at + 2 + 52 = omega arith in
            let f : c.at + 52 + 2 + little_at 2 s c.at ≡ c.at + 2 + little_at 2 s c.at + 52 = omega arith in
            rw (f, e)

        go : (t2 t3 t4 t5 t6 t7 : Bool)
            → stop t2 1 (pick t3 (answered done) (stop t4 1 (stop t5 6 (stop t6 1 (stop t7 7 (answered (over_record (up_cursor c) (little_at 2 s c.at))))))))
            ≡ up_next (stop t2 1 (pick t3 (answered done) (stop t4 1 (stop t5 6 (stop t6 1 (stop t7 7 (answered (over_record c (little_at 2 s c.at)))))))))
        go true t3 t4 t5 t6 t7 = refl
        go false true t4 t5 t6 t7 = refl
        go false false true t5 t6 t7 = refl
        go false false false true t6 t7 = refl
        go false false false false true t7 = refl
        go false false false false false true = refl
        go false false false false false false = last

  -- ---- links and chains
  abbrev up_link : Option (ℕ × ℕ) → Option (ℕ × ℕ)
  up_link (Some (p, k)) = Some (p + 52, k)
  up_link None = None

  abbrev up_walk : Walk → Walk
  up_walk (reached p) = reached (p + 52)
  up_walk (broke k) = broke k

  link_up : (p : ℕ) → 4 ≤ p → link_at m (p + 52) ≡ up_link (link_at s p)
  unfolding link_at
  link_up p l =
      rw (little-up 2 p l, leb-up (p + 2 + little_at 2 s p) (length s) (p + 52 + 2 + little_at 2 s p) (length m) (λ x. omega (arith, h.long)) (λ x. omega (arith, h.long)))
      (go (leb (p + 2 + little_at 2 s p) (length s)))
    where
      go : (t : Bool) → pick t (Some (p + 52 + 2, little_at 2 s p)) None ≡ up_link (pick t (Some (p + 2, little_at 2 s p)) None)
      go true = ap (λ (k : ℕ). Some (k, little_at 2 s p)) (let e : p + 52 + 2 ≡ p + 2 + 52 = omega arith in e)
      go false = refl

  passing-up : (k : ℕ) (x : Option (ℕ × ℕ)) → passing k (up_link x) ≡ up_walk (passing k x)
  passing-up k (Some (p, j)) = ap reached (let e : p + 52 + j ≡ p + j + 52 = omega arith in e)
  passing-up k None = refl

  linked_up : (k : ℕ) (w : Walk) → ((p : ℕ) → w ≡ reached p → 4 ≤ p) → linked m k (up_walk w) ≡ up_walk (linked s k w)
  linked_up k (reached p) low = ap (passing k) (link_up p (low p refl)) ∙ passing-up k (link_at s p)
  linked_up k (broke j) low = refl

  low : (k p : ℕ) → chain s 4 k ≡ reached p → 4 ≤ p
  low k p e = omega (arith, (chain-bounds s 4 k p e).up)

  chain-up : (k : ℕ) → chain m 56 k ≡ up_walk (chain s 4 k)
  unfolding chain
  chain-up zero = refl
  chain-up (suc k) = ap (linked m k) (chain-up k) ∙ linked_up k (chain s 4 k) (low k)

  landing-up : (k : ℕ) (x : Option (ℕ × ℕ)) → landing k (up_link x) ≡ up_hit (landing k x)
  landing-up k (Some (p, j)) = refl
  landing-up k None = refl

  land-up : (k : ℕ) (w : Walk) → ((p : ℕ) → w ≡ reached p → 4 ≤ p) → land m k (up_walk w) ≡ up_hit (land s k w)
  land-up k (reached p) low = ap (landing k) (link_up p (low p refl)) ∙ landing-up k (link_at s p)
  land-up k (broke j) low = refl

  hit-up : (d : ℕ) → link_of m 56 d ≡ up_hit (link_of s 4 d)
  unfolding link_of
  hit-up d = ap (land m d) (chain-up d) ∙ land-up d (chain s 4 d) (low d)

-- ---- lookups, of one finder's numbers
gives_up : (i : ItemIndex) (k from : ℕ) (x : Hit) → gives i k from (up_hit x) ≡ up_found (gives i k from x)
gives_up i k from (Landed p n) = refl
gives_up i k from (Missed j) = refl

pick_up : (b : Bool) (x : List ℕ) (a : Answer Found) → pick b (refused 9 x) (up_found a) ≡ up_found (pick b (refused 9 x) a)
pick_up true x a = refl
pick_up false x a = refl

looked-up : (s m : List ℕ) (f : ItemFinder) (d : ℕ) → link_of m 56 d ≡ up_hit (link_of s 4 d) → looked Types m 56 f d ≡ up_found (looked Types s 4 f d)
looked-up s m f d e =
    ap (λ (x : Hit). pick (leb f.held (d / block_of f)) (refused 9 ((f.minimum_index + d) ∷ max_index_of f ∷ [])) (gives (index_in Types (f.minimum_index + d)) (d % block_of f) (d / block_of f * block_of f) x)) e
    ∙ ap (pick (leb f.held (d / block_of f)) (refused 9 ((f.minimum_index + d) ∷ max_index_of f ∷ []))) (gives_up (index_in Types (f.minimum_index + d)) (d % block_of f) (d / block_of f * block_of f) (link_of s 4 d))
    ∙ pick_up (leb f.held (d / block_of f)) _ _

-- ---- the header reads back
narrow : (n size : ℕ) → 4096 + n ≤ 4294967295 → size ≤ longest → Narrow (header_for n size)
narrow n size a b = record {
  version = omega arith;
  size = omega arith;
  minimum = omega arith;
  maximum = omega arith;
  gprec = omega arith;
  stream = omega arith;
  pad_stream = omega arith;
  key = omega arith;
  bucket = omega arith;
  values_offset = omega arith;
  values_size = omega arith;
  ti_offset = omega arith;
  ti_size = omega arith;
  adj_offset = omega arith;
  adj_size = omega arith;
}

-- ---- the records, byte for byte
records-same : (n : ℕ) (s : List ℕ) → drop 56 (stream_bytes n s) ≡ drop 4 s
unfolding stream_bytes
records-same n s =
    ap (λ (k : ℕ). drop k (header_fields (header_for n (length s - 4)) ++ drop 4 s)) (sym (head-length n (length s - 4)))
    ∙ drop-append_seam (header_fields (header_for n (length s - 4))) (drop 4 s)

bytes-kept : (n : ℕ) (s : List ℕ) (p k : ℕ) → 4 ≤ p → take k (drop (p + 52) (stream_bytes n s)) ≡ take k (drop p s)
bytes-kept n s p k l =
    let e : 56 + (p - 4) ≡ p + 52 = omega arith in
    let f : 4 + (p - 4) ≡ p = omega arith in
    ap (take k)
    (ap (λ (q : ℕ). drop q (stream_bytes n s)) (sym e)
    ∙ sym (drop-drop (p - 4) 56 (stream_bytes n s))
    ∙ ap (drop (p - 4)) (records-same n s)
    ∙ drop-drop (p - 4) 4 s
    ∙ ap (λ (q : ℕ). drop q s) f)

module _ (s : List ℕ) (n : ℕ) (e : count_of s ≡ answered n) (short : length s + 52 ≤ longest) where
  k : Counted s n
  k = counted s n e

  four : 4 ≤ length s
  four = k.begun.four

  h : Higher s (stream_bytes n s)
  h = higher n s four

  long-enough : length (stream_bytes n s) ≤ longest
  long-enough = omega (arith, stream-length n s four)

  head-accepted : header_of (stream_bytes n s) ≡ answered (header_for n (length s - 4))
  unfolding stream_bytes
  head-accepted =
      header-reads-back (header_for n (length s - 4)) (header_fields (header_for n (length s - 4))) (drop 4 s) (head_bytes n (length s - 4))
      (narrow n (length s - 4) k.small (omega arith)) long-enough

  agree : (shift N d : ℕ) (t u : List ℕ) (σ τ : State) → shift ≤ 6 → SectionPremises shift s n t N σ d → stream.Premises shift Types (stream_bytes n s) (header_for n (length s - 4)) u N τ d
      → find_of (stream_bytes n s) τ (index_in Types (4096 + d)) ≡ up_found (find_of s σ (index_in Types (4096 + d)))
  unfolding Demand3Every Demand3By SectionDemand3
  agree shift N d t u σ τ small p q =
      demand3-every shift small Types (stream_bytes n s) (header_for n (length s - 4)) u N τ d q
      ∙ looked-up s (stream_bytes n s) (holding_in (section_records n) shift (1 + N / 2 ^ shift)) d (hit-up s (stream_bytes n s) h d)
      ∙ ap up_found (sym (of-sections.demand3 shift small s n t N σ d p))

  made : SectionMade s (stream_bytes n s) n
  made = record {
    counted = e;
    long = h.long;
    records = records-same n s;
    kept = bytes-kept n s;
    accepted = head-accepted;
    begun = iter-is Types (stream_bytes n s) (header_for n (length s - 4)) head-accepted;
    walk = step-up s (stream_bytes n s) h short;
    links = hit-up s (stream_bytes n s) h;
    lookups = agree;
  }

-- what was counted, or refused
pub stream-made : StreamMade
unfolding StreamMade section_stream
stream-made s m e =
    let t = passed (ltb longest (length s + 52)) 16 _ _ e in
    let short : length s + 52 ≤ longest = ltb-false _ _ t.0 in
    go short (count_of s) refl t.1
  where
    go : length s + 52 ≤ longest → (a : Answer ℕ) → count_of s ≡ a → then a (λ n. answered (stream_bytes n s)) ≡ answered m → (n : ℕ) × SectionMade s m n
    go short (answered n) p q =
        let w : stream_bytes n s ≡ m = cc in
        (n, subst (λ (x : List ℕ). SectionMade s x n) w (made s n p short))
    go short (refused k d) p q = let z : ◌≡◌ {A = ℕ} 0 1 = cc in absurd (omega arith)
