-- Demand 3, over the shift and the records; a stream's are those of its header. The invariant: after n turns the finder holds 1 + n / 2^shift places, each the start of its block, and the cursor stands on the chain.
-- Assumes nothing.
use Prim.Native.Nat.{ℕ, zero, suc, ◌+◌, ◌-◌, ◌*◌, ◌/◌, ◌%◌, ◌^◌, ◌≤◌, ◌<◌}
use mathlib.Core.Path.{◌≡◌, refl, sym, ap, ◌∙◌, subst}
use mathlib.Core.List.{List, [], ◌∷◌}
use mathlib.Core.Bool.{Bool, true, false}
use native.Mathlib.Nat.{zero-mul, div-eq_of_lt-le, div-add-mod', mod-lt, zero-div}
use native.Mathlib.Numerals.{one-add}
use native.Mathlib.Omega.{arith}
use lib.ListN.{length, get_or, set, length-set}
use lib.Seq.{get_or-set_same}
use lib.Dec.{leb, eqb}
use lib.Pow.{pow_pos}
use borrow.Author.Tests.{eqb-true, eqb-false, leb-true, leb-false}
use Rattle.answer.specs.Answer.{Answer, answered, refused, pick}
use Rattle.stream_header.specs.Header.{header_of}
use Rattle.stream_header.specs.declared.Header.{Header}
use Rattle.field.specs.Indices.{index_in}
use Rattle.stream_item.specs.Links.{link_of, chain, reached}
use Rattle.stream_item.specs.Iterator.{iter_of, yielded, next_of}
use Rattle.stream_item.proofs.LinkLaws.{chain-none}
use Rattle.stream_item.proofs.NextLaws.{Yields, yields, iter-is}
use Rattle.field.specs.declared.index.Stream.{Stream}
use Rattle.stream_item.specs.declared.Item.{Item}
use Rattle.field.specs.declared.index.ItemIndex.{ItemIndex}
use Rattle.stream_item.specs.declared.iter.ItemIter.{ItemIter}
use Rattle.stream_item.specs.declared.link.Hit.{Hit}
use Rattle.stream_item.specs.declared.link.Hit.TheVariants.{Landed, Missed}
use Rattle.stream_finder.specs.Finder.{State, state, block_of, header_records, holding_in, begun_in, create_by, due, update_of, after, Found, max_index_of, find_of}
use Rattle.stream_finder.specs.Places.{Placed, Ready}
use Rattle.stream_finder.specs.Demand.{Walked, none, more, gives, looked, Premises, Demand3By, Demand3Every, Demand3, number_given, NotIndexedBy, NotIndexedEvery, NotIndexed}
use Rattle.stream_finder.specs.OfRecords.{start_in, PremisesIn, Demand3In, NotIndexedIn}
use Rattle.stream_finder.specs.declared.Records.{Records}
use Rattle.stream_finder.specs.declared.ItemFinder.{ItemFinder}
use Rattle.stream_finder.proofs.FinderLaws.{begun-in-full, begun-in-some, begun-is, create-is, Open, update-keeps, update-full, update-stores, due-yes, due-rest}
use Rattle.stream_finder.proofs.Accepted.{accepted}
use Rattle.stream_finder.proofs.PlaceLaws.{OnChain, update-ind, placed-update, on-start, on-next, find-placed}

-- ---- counting the places: the block's number grows exactly where a block begins
module _ (b n : ℕ) (z : 0 < b) where
  next-block : suc n % b ≡ 0 → suc n / b ≡ n / b + 1
  next-block e = go (suc n / b) refl
    where
      go : (q : ℕ) → suc n / b ≡ q → suc n / b ≡ n / b + 1
      go zero p =
          let m : suc n / b * b ≡ 0 * b = ap (λ (x : ℕ). x * b) p in
          absurd (omega (arith, div-add-mod' (suc n) b))
      go (suc q) p =
          let m : suc n / b * b ≡ suc q * b = ap (λ (x : ℕ). x * b) p in
          let a : suc n / b * b + suc n % b ≡ suc n = div-add-mod' (suc n) b in
          let r : n / b ≡ q = div-eq_of_lt-le b (omega arith) (omega arith) in
          omega arith

  same_block : (suc n % b ≡ 0 → ⊥) → suc n / b ≡ n / b
  same_block e =
      let a : suc n / b * b + suc n % b ≡ suc n = div-add-mod' (suc n) b in
      let l : suc n % b < b = mod-lt (suc n) z in
      let k : 0 < suc n % b = omega (arith, e) in
      sym (div-eq_of_lt-le b (omega arith) (omega arith))

  up-block : n / b ≤ suc n / b
  up-block = go (eqb (suc n % b) 0) refl
    where
      go : (x : Bool) → eqb (suc n % b) 0 ≡ x → n / b ≤ suc n / b
      go true q = omega (arith, next-block (eqb-true _ _ q))
      go false q = omega (arith, same_block (eqb-false _ _ q))

-- ---- after n turns
pub record Stage (shift : ℕ) (s : List ℕ) (r : Records) (t : List ℕ) (n : ℕ) (c : ItemIter) (τ : State) : Type 0 where
  pub finder : τ.finder ≡ holding_in r shift (1 + n / 2 ^ shift)
  pub room : length τ.table ≡ length t
  pub placed : Placed s r.start τ
  pub cursor : OnChain s r.start r.minimum c
  pub index : c.index ≡ r.minimum + n

module _ (shift : ℕ) (small : shift ≤ 6) (s : List ℕ) (r : Records) (t : List ℕ) where
  abbrev b : ℕ
  b = 2 ^ shift

  z : 0 < b
  z = pow_pos shift

  pub begun-placed : 0 < length t → (k : ℕ) → k < 1 → chain s r.start (k * b) ≡ reached (get_or (set t 0 r.start) k 0)
  begun-placed l k lt =
      let e : k ≡ 0 = omega arith in
      ap (chain s r.start) (ap (λ (x : ℕ). x * b) e ∙ zero-mul b) ∙ chain-none s r.start
      ∙ ap reached (sym (ap (λ (x : ℕ). get_or (set t 0 r.start) x 0) e ∙ get_or-set_same t 0 r.start 0 l))

  pub stage-none : (tag : Stream) → 0 < length t → Stage shift s r t 0 (start_in tag r) (state (holding_in r shift 1) (set t 0 r.start))
  stage-none tag l = record {
    finder = ap (holding_in r shift) (omega (arith, zero-div b));
    room = length-set t 0 r.start;
    placed = begun-placed l;
    cursor = on-start tag s r.start r.minimum;
    index = omega arith;
  }

  -- what a turn starts from, where the places before it had room
  record Turning (n : ℕ) (τ : State) (d : ItemIter) : Type 0 where
    pub minimum : τ.finder.minimum_index ≡ r.minimum
    pub held : τ.finder.held ≡ 1 + n / b
    pub block : b ≡ block_of τ.finder
    pub index : d.index ≡ r.minimum + suc n
    pub distance : d.index - τ.finder.minimum_index ≡ suc n
    pub free : Open τ d

  turning : (n : ℕ) (d : ItemIter) (τ : State) (i : Item) (d' : ItemIter) → 1 + n / b ≤ length t → Stage shift s r t n d τ → next_of s d ≡ answered (yielded i d')
      → Turning n τ d'
  turning n d τ i d' fits g e =
      let y : Yields s d i d' = yields s d i d' e in
      let mi : τ.finder.minimum_index ≡ r.minimum = ap (λ (f : ItemFinder). f.minimum_index) g.finder in
      let he : τ.finder.held ≡ 1 + n / b = ap (λ (f : ItemFinder). f.held) g.finder in
      let sh : τ.finder.shift ≡ shift = ap (λ (f : ItemFinder). f.shift) g.finder in
      record {
        minimum = mi;
        held = he;
        block = ap (λ (x : ℕ). 2 ^ x) (sym sh);
        index = omega (arith, y.index, g.index);
        distance = omega (arith, y.index, g.index);
        free = record { at = omega (arith, y.inside, y.short); shift = omega arith; held = omega (arith, g.room); index = omega (arith, y.index, g.index) };
      }

  -- at the start of a block a place is due
  now-due : (n : ℕ) (τ : State) (d : ItemIter) → Turning n τ d → suc n % b ≡ 0 → due τ.finder d.index ≡ true
  now-due n τ d k q =
      due-yes τ.finder d.index b k.block
      (ap (λ (x : ℕ). x % b) k.distance ∙ q)
      (ap (λ (x : ℕ). x / b) k.distance ∙ omega (arith, next-block b n z q, k.held))

  pub turn : (n : ℕ) (d : ItemIter) (τ : State) (i : Item) (d' : ItemIter) → 1 + suc n / b ≤ length t → Stage shift s r t n d τ → next_of s d ≡ answered (yielded i d')
      → Stage shift s r t (suc n) d' (after τ (update_of τ d'))
  turn n d τ i d' enough g e =
      record {
        finder = go (eqb (suc n % b) 0) refl;
        room = update-ind τ d' (λ (ρ : State). length ρ.table ≡ length t) g.room (λ st. length-set τ.table τ.finder.held d'.at ∙ g.room);
        placed = placed-update s r.start τ d' g.placed (subst (λ (m : ℕ). OnChain s r.start m d') (sym k.minimum) on');
        cursor = on';
        index = k.index;
      }
    where
      k : Turning n τ d'
      k = turning n d τ i d' (omega (arith, up-block b n z, enough)) g e

      on' : OnChain s r.start r.minimum d'
      on' = on-next s r.start r.minimum d i d' g.cursor e

      go : (x : Bool) → eqb (suc n % b) 0 ≡ x → (after τ (update_of τ d')).finder ≡ holding_in r shift (1 + suc n / b)
      go true q =
          let nb : suc n / b ≡ n / b + 1 = next-block b n z (eqb-true _ _ q) in
          ap (λ (a : Answer State). (after τ a).finder)
          (update-stores τ d' k.free (now-due n τ d' k (eqb-true _ _ q)) (omega (arith, nb, k.held, enough, g.room)))
          ∙ ap (λ (f : ItemFinder). record { minimum_index = f.minimum_index; maximum_index = f.maximum_index; held = f.held + 1; shift = f.shift }) g.finder
          ∙ ap (holding_in r shift) (omega (arith, nb))
      go false q =
          let sb : suc n / b ≡ n / b = same_block b n z (eqb-false _ _ q) in
          let du : due τ.finder d'.index ≡ false =
          due-rest τ.finder d'.index b k.block (λ p. eqb-false _ _ q (sym (ap (λ (x : ℕ). x % b) k.distance) ∙ p)) in
          ap (λ (a : Answer State). (after τ a).finder) (update-keeps τ d' k.free du) ∙ g.finder ∙ ap (holding_in r shift) (omega (arith, sb))

  -- an update that is answered had room
  pub turn-room : (n : ℕ) (d : ItemIter) (τ : State) (i : Item) (d' : ItemIter) (τ' : State) → 1 + n / b ≤ length t → Stage shift s r t n d τ
      → next_of s d ≡ answered (yielded i d') → update_of τ d' ≡ answered τ' → 1 + suc n / b ≤ length t
  turn-room n d τ i d' τ' fits g e a = go (eqb (suc n % b) 0) refl (leb (length τ.table) τ.finder.held) refl
    where
      k : Turning n τ d'
      k = turning n d τ i d' fits g e

      go : (x : Bool) → eqb (suc n % b) 0 ≡ x → (y : Bool) → leb (length τ.table) τ.finder.held ≡ y → 1 + suc n / b ≤ length t
      go false q y p = omega (arith, same_block b n z (eqb-false _ _ q), fits)
      go true q true p =
          let full : update_of τ d' ≡ refused 13 [] = update-full τ d' k.free (now-due n τ d' k (eqb-true _ _ q)) (leb-true _ _ p) in
          let w : ◌≡◌ {A = ℕ} 0 1 = cc in
          absurd (omega arith)
      go true q false p = omega (arith, next-block b n z (eqb-true _ _ q), leb-false (length τ.table) τ.finder.held p, k.held, g.room)

  stages : (c₀ : ItemIter) (σ : State) (n : ℕ) (c : ItemIter) (τ : State) → Stage shift s r t 0 c₀ σ → 1 + n / b ≤ length t → Walked s c₀ σ n c τ → Stage shift s r t n c τ
  stages c₀ σ zero c τ g l none = g
  stages c₀ σ (suc n) c τ g l (more {d = d} {τ = ρ} {i = i} w e) =
      let up : n / b ≤ suc n / b = up-block b n z in
      turn n d ρ i c l (stages c₀ σ n d ρ g (omega arith) w) e

-- ---- what is fresh
pub fresh-finder : (shift : ℕ) (r : Records) (t : List ℕ) (σ : State) → shift ≤ 6 → r.minimum < r.maximum → 0 < length t → begun_in shift t r ≡ answered σ
    → state (holding_in r shift 1) (set t 0 r.start) ≡ σ
fresh-finder shift r t σ z l o e = cc (begun-in-some shift t r z l o)

-- a creation that was answered had room
pub fresh-room : (shift : ℕ) (r : Records) (t : List ℕ) (σ : State) → shift ≤ 6 → r.minimum < r.maximum → begun_in shift t r ≡ answered σ → 0 < length t
fresh-room shift r t σ z l e = go (leb (length t) 0) refl
  where
    go : (x : Bool) → leb (length t) 0 ≡ x → 0 < length t
    go true q =
        let full : begun_in shift t r ≡ refused 13 [] = begun-in-full shift t r z l (leb-true _ _ q) in
        let w : ◌≡◌ {A = ℕ} 0 1 = cc in
        absurd (omega arith)
    go false q = leb-false _ _ q

-- the first stage of a finder that was begun with room
pub stage-first : (shift : ℕ) (small : shift ≤ 6) (tag : Stream) (s : List ℕ) (r : Records) (t : List ℕ) (σ : State) → r.minimum < r.maximum → 0 < length t
    → begun_in shift t r ≡ answered σ → Stage shift s r t 0 (start_in tag r) σ
stage-first shift small tag s r t σ l o e =
    subst (λ (ρ : State). Stage shift s r t 0 (start_in tag r) ρ) (fresh-finder shift r t σ small l o e) (stage-none shift small s r t tag o)

-- ---- demand 3 of any records

pub demand3-in : (shift : ℕ) → shift ≤ 6 → Demand3In shift
unfolding Demand3In
demand3-in shift small tag s r t N τ d p =
    let g₀ : Stage shift s r t 0 (start_in tag r) p.fresh = stage-first shift small tag s r t p.fresh p.counts (omega (arith, p.room)) p.created in
    let g : Stage shift s r t N p.cursor τ = stages shift small s r t (start_in tag r) p.fresh N p.cursor τ g₀ p.room p.walked in
    let he : τ.finder.held ≡ 1 + N / 2 ^ shift = ap (λ (f : ItemFinder). f.held) g.finder in
    let sh : τ.finder.shift ≡ shift = ap (λ (f : ItemFinder). f.shift) g.finder in
    let mi : τ.finder.minimum_index ≡ r.minimum = ap (λ (f : ItemFinder). f.minimum_index) g.finder in
    let ma : τ.finder.maximum_index ≡ r.maximum = ap (λ (f : ItemFinder). f.maximum_index) g.finder in
    let o : Ready s τ = record { short = p.short; shift = omega arith; held = omega (arith, he, g.room, p.room) } in
    subst (λ (f : ItemFinder). find_of s τ (index_in tag (f.minimum_index + d)) ≡ looked tag s r.start f d) g.finder
    (find-placed tag s r.start τ d o g.placed (omega (arith, mi, ma, p.upto)))

-- ---- demand 3 of a stream: its records are its header's

-- a stream's finder is begun on its records
pub created-in : (shift : ℕ) (s : List ℕ) (h : Header) (t : List ℕ) (σ : State) → header_of s ≡ answered h → create_by shift s t ≡ answered σ
    → begun_in shift t (header_records h) ≡ answered σ
created-in shift s h t σ e c = sym (begun-is shift t h) ∙ sym (create-is shift s t (answered h) e) ∙ c

-- and so is its iterator
pub fresh-iter : (tag : Stream) (s : List ℕ) (h : Header) (c : ItemIter) → header_of s ≡ answered h → iter_of tag s ≡ answered c → start_in tag (header_records h) ≡ c
fresh-iter tag s h c e i = cc (iter-is tag s h e)

pub premises-in : (shift : ℕ) (tag : Stream) (s : List ℕ) (h : Header) (t : List ℕ) (N : ℕ) (τ : State) (d : ℕ)
    → Premises shift tag s h t N τ d → PremisesIn shift tag s (header_records h) t N τ d
premises-in shift tag s h t N τ d p = record {
  short = (accepted s h p.accepted p.counts).short;
  counts = p.counts;
  room = p.room;
  fresh = p.fresh;
  created = created-in shift s h t p.fresh p.accepted p.created;
  cursor = p.cursor;
  walked = subst (λ (c : ItemIter). Walked s c p.fresh N p.cursor τ) (sym (fresh-iter tag s h p.first p.accepted p.begun)) p.walked;
  upto = p.upto;
}

pub demand3-every : Demand3Every
unfolding Demand3Every Demand3By Demand3In
demand3-every shift small tag s h t N τ d p = demand3-in shift small tag s (header_records h) t N τ d (premises-in shift tag s h t N τ d p)

pub demand3 : Demand3
unfolding Demand3 Demand3Every
demand3 = demand3-every 3 (omega arith)

-- ---- "not indexed" exactly if
gives-number : (i : ItemIndex) (k from : ℕ) (x : Hit) → eqb (number_given (gives i k from x)) 9 ≡ false
gives-number i k from (Landed p n) = refl
gives-number i k from (Missed j) = refl

pub looked-number : (x : Bool) (n m : ℕ) (i : ItemIndex) (k from : ℕ) (y : Hit) → eqb (number_given (pick x (refused 9 (n ∷ m ∷ [])) (gives i k from y))) 9 ≡ x
looked-number true n m i k from y = refl
looked-number false n m i k from y = gives-number i k from y

pub not-indexed-in : (shift : ℕ) → shift ≤ 6 → NotIndexedIn shift
unfolding NotIndexedIn Demand3In
not-indexed-in shift small tag s r t N τ d p =
    ap (λ (a : Answer Found). eqb (number_given a) 9) (demand3-in shift small tag s r t N τ d p)
    ∙ looked-number (leb (1 + N / 2 ^ shift) (d / 2 ^ shift)) (r.minimum + d) (max_index_of (holding_in r shift (1 + N / 2 ^ shift))) (index_in tag (r.minimum + d)) (d % 2 ^ shift) (d / 2 ^ shift * 2 ^ shift) (link_of s r.start d)
    ∙ ap (λ (x : ℕ). leb x (d / 2 ^ shift)) (one-add (N / 2 ^ shift))

pub not-indexed-every : NotIndexedEvery
unfolding NotIndexedEvery NotIndexedBy NotIndexedIn
not-indexed-every shift small tag s h t N τ d p = not-indexed-in shift small tag s (header_records h) t N τ d (premises-in shift tag s h t N τ d p)

pub not-indexed : NotIndexed
unfolding NotIndexed NotIndexedEvery
not-indexed = not-indexed-every 3 (omega arith)

-- ---- a walk of n turns has one outcome

pub walked_one : (s : List ℕ) (c : ItemIter) (σ : State) (n : ℕ) (d e : ItemIter) (τ ρ : State) → Walked s c σ n d τ → Walked s c σ n e ρ → (d ≡ e) × (τ ≡ ρ)
walked_one s c σ zero d e τ ρ none none = (refl, refl)
walked_one s c σ (suc n) d e τ ρ (more {d = d₀} {τ = τ₀} w p) (more {d = e₀} {τ = ρ₀} v q) =
    let h : (d₀ ≡ e₀) × (τ₀ ≡ ρ₀) = walked_one s c σ n d₀ e₀ τ₀ ρ₀ w v in
    let g : d ≡ e = cc h.0 in
    (g, ap (λ (x : ItemIter). after τ₀ (update_of τ₀ x)) g ∙ ap (λ (x : State). after x (update_of x e)) h.1)
