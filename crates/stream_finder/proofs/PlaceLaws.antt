-- Any update by a cursor on the chain, refused or not, keeps every held place the start of its block; `next` keeps a cursor on the chain; and a
-- lookup over such places answers as the chain does. Assumes nothing.
use Prim.Native.Nat.{ℕ, zero, suc, ◌+◌, ◌-◌, ◌*◌, ◌/◌, ◌%◌, ◌≤◌, ◌<◌}
use mathlib.Core.Path.{◌≡◌, refl, sym, ap, ◌∙◌, subst}
use mathlib.Core.Logic.{⊎_elim}
use mathlib.Core.List.{List, [], ◌∷◌}
use mathlib.Core.Bool.{Bool, true, false}
use native.Mathlib.Nat.{zero-mul, suc-mul, div-add-mod', add-sub_cancel_left, sub_self, eq-or-lt_of_le}
use native.Mathlib.Omega.{arith}
use lib.ListN.{length, get_or, set}
use lib.Seq.{get_or-set_same, get_or-set_other}
use lib.Dec.{leb, ltb, eqb}
use borrow.Author.Tests.{leb-true, leb-false, ltb-false, eqb-true}
use Rattle.answer.specs.Answer.{Answer, answered, refused, pick, stop, both}
use Rattle.stream_header.specs.Header.{longest}
use Rattle.field.specs.Indices.{index_in, index_number}
use Rattle.stream_item.specs.Links.{link_of, chain, reached}
use Rattle.stream_item.specs.Iterator.{yielded, next_of}
use Rattle.stream_item.proofs.LinkLaws.{chain-none, chain-pass, chain-split, more, more_hit, link_of-split}
use Rattle.stream_item.proofs.NextLaws.{Yields, yields}
use Rattle.field.specs.declared.index.Stream.{Stream}
use Rattle.field.specs.declared.index.Stream.TheVariants.{Types, Ids}
use Rattle.stream_item.specs.declared.Item.{Item}
use Rattle.field.specs.declared.index.ItemIndex.{ItemIndex}
use Rattle.stream_item.specs.declared.iter.ItemIter.{ItemIter}
use Rattle.stream_item.specs.declared.link.Hit.{Hit}
use Rattle.stream_item.specs.declared.link.Hit.TheVariants.{Landed, Missed}
use Rattle.stream_finder.specs.Finder.{State, block_of, due, stored, update_of, after, max_index_of, landed, look_of, find_of}
use Rattle.stream_finder.specs.Places.{Placed, Ready}
use Rattle.stream_finder.specs.Demand.{gives, looked}
use Rattle.stream_finder.proofs.FinderLaws.{find-unheld, find-held}

-- the cursor stands where so many links lead as its index is above m
pub record OnChain (s : List ℕ) (p m : ℕ) (c : ItemIter) : Type 0 where
  pub index : m ≤ c.index
  pub at : chain s p (c.index - m) ≡ reached c.at

-- ---- what an update may do
pub record Stores (σ : State) (c : ItemIter) : Type 0 where
  pub index : σ.finder.minimum_index ≤ c.index
  pub rest : (c.index - σ.finder.minimum_index) % block_of σ.finder ≡ 0
  pub quot : (c.index - σ.finder.minimum_index) / block_of σ.finder ≡ σ.finder.held
  pub room : σ.finder.held < length σ.table

module _ (σ : State) (P : State → Type 0) where
  stop-after : (b : Bool) (n : ℕ) (a : Answer State) → P σ → (b ≡ false → P (after σ a)) → P (after σ (stop b n a))
  stop-after true n a p q = p
  stop-after false n a p q = q refl

  pick-after : (b : Bool) (x y : Answer State) → (b ≡ true → P (after σ x)) → (b ≡ false → P (after σ y)) → P (after σ (pick b x y))
  pick-after true x y p q = p refl
  pick-after false x y p q = q refl

both-fst : (x y : Bool) → both x y ≡ true → x ≡ true
both-fst true y e = refl
both-fst false y e = e

both-snd : (x y : Bool) → both x y ≡ true → y ≡ true
both-snd true y e = e
both-snd false y e = let z : ◌≡◌ {A = ℕ} 0 1 = cc in absurd (omega arith)

-- an update leaves the state as it was, or stores
pub update-ind : (σ : State) (c : ItemIter) (P : State → Type 0) → P σ → (Stores σ c → P (stored σ c.at)) → P (after σ (update_of σ c))
unfolding update_of
update-ind σ c P keep store =
    stop-after σ P (ltb longest c.at) 16 _ keep λ t1.
    stop-after σ P (ltb 6 σ.finder.shift) 26 _ keep λ t2.
    stop-after σ P (ltb (length σ.table) σ.finder.held) 13 _ keep λ t3.
    stop-after σ P (ltb c.index σ.finder.minimum_index) 14 _ keep λ t4.
    pick-after σ P (due σ.finder c.index) _ _
    (λ y. stop-after σ P (leb (length σ.table) σ.finder.held) 13 _ keep λ t5.
    store
    (record {
      index = ltb-false _ _ t4;
      rest = eqb-true _ _ (both-fst starts holds y);
      quot = eqb-true _ _ (both-snd starts holds y);
      room = leb-false _ _ t5;
    }))
    (λ n. keep)
  where
    starts : Bool
    starts = eqb ((c.index - σ.finder.minimum_index) % block_of σ.finder) 0

    holds : Bool
    holds = eqb ((c.index - σ.finder.minimum_index) / block_of σ.finder) σ.finder.held

-- ---- the places stay the starts of their blocks
pub placed-update : (s : List ℕ) (p : ℕ) (σ : State) (c : ItemIter) → Placed s p σ → OnChain s p σ.finder.minimum_index c
    → Placed s p (after σ (update_of σ c))
placed-update s p σ c pl on = update-ind σ c (Placed s p) pl λ st k lt.
    ⊎_elim (λ e. last st k e) (λ l. older k l) (eq-or-lt_of_le (below k lt))
  where
    below : (k : ℕ) → k < σ.finder.held + 1 → k ≤ σ.finder.held
    below k l = omega arith

    last : Stores σ c → (k : ℕ) → k ≡ σ.finder.held → chain s p (k * block_of σ.finder) ≡ reached (get_or (set σ.table σ.finder.held c.at) k 0)
    last st k e =
        let x : ℕ = c.index - σ.finder.minimum_index in
        let a : x / block_of σ.finder * block_of σ.finder + x % block_of σ.finder ≡ x = div-add-mod' x (block_of σ.finder) in
        let q : k * block_of σ.finder ≡ x / block_of σ.finder * block_of σ.finder = ap (λ (n : ℕ). n * block_of σ.finder) (e ∙ sym st.quot) in
        let g : k * block_of σ.finder ≡ x = omega (arith, st.rest) in
        ap (chain s p) g ∙ on.at ∙ ap reached (sym (ap (λ (n : ℕ). get_or (set σ.table σ.finder.held c.at) n 0) e ∙ get_or-set_same σ.table σ.finder.held c.at 0 st.room))

    older : (k : ℕ) → k < σ.finder.held → chain s p (k * block_of σ.finder) ≡ reached (get_or (set σ.table σ.finder.held c.at) k 0)
    older k l = pl k l ∙ ap reached (sym (get_or-set_other σ.table σ.finder.held k c.at 0 (λ e. omega arith)))

-- places that were read back, the first the start p and each one block of links after its predecessor, are the starts of their blocks
pub placed-load : (s : List ℕ) (p : ℕ) (σ : State) → get_or σ.table 0 0 ≡ p
    → ((k : ℕ) → suc k < σ.finder.held → chain s (get_or σ.table k 0) (block_of σ.finder) ≡ reached (get_or σ.table (suc k) 0))
    → Placed s p σ
placed-load s p σ e f zero l = ap (chain s p) (zero-mul (block_of σ.finder)) ∙ chain-none s p ∙ ap reached (sym e)
placed-load s p σ e f (suc k) l =
    ap (chain s p) (suc-mul k (block_of σ.finder))
    ∙ chain-split s p (k * block_of σ.finder) (block_of σ.finder) (get_or σ.table k 0) (placed-load s p σ e f k (omega arith))
    ∙ ap (more (k * block_of σ.finder)) (f k l)

-- ---- a cursor that `next` alone moves stays on the chain
pub on-start : (tag : Stream) (s : List ℕ) (p m : ℕ) → OnChain s p m (record { stream = tag; at = p; index = m })
on-start tag s p m = record { index = omega arith; at = ap (chain s p) (sub_self m) ∙ chain-none s p }

pub on-next : (s : List ℕ) (p m : ℕ) (c : ItemIter) (i : Item) (d : ItemIter) → OnChain s p m c → next_of s c ≡ answered (yielded i d) → OnChain s p m d
on-next s p m c i d on e =
    let y : Yields s c i d = yields s c i d e in
    record {
      index = omega arith;
      at =
          ap (chain s p) (shifted y) ∙ chain-pass s p (c.index - m) c.at i.place i.length on.at y.whole ∙ ap reached (sym y.at);
    }
  where
    shifted : Yields s c i d → d.index - m ≡ c.index - m + 1
    shifted y = omega (arith, on.index)

-- ---- a lookup over held places
gives_more : (i : ItemIndex) (k a : ℕ) (x : Hit) → landed i k x ≡ gives i k a (more_hit a x)
gives_more i k a (Landed p n) = refl
gives_more i k a (Missed j) = ap (λ (n : ℕ). refused 1 (n ∷ [])) (sym (add-sub_cancel_left a j))

number_in : (tag : Stream) (n : ℕ) → index_number (index_in tag n) ≡ n
number_in Types n = refl
number_in Ids n = refl

module _ (s : List ℕ) (p : ℕ) (τ : State) (i : ItemIndex) (d : ℕ) (o : Ready s τ) (pl : Placed s p τ) (u : τ.finder.minimum_index + d ≤ τ.finder.maximum_index) where
  abbrev b : ℕ
  b = block_of τ.finder

  abbrev m : ℕ
  m = τ.finder.minimum_index

  look-unheld : τ.finder.held ≤ d / b → look_of s τ i (m + d) ≡ refused 9 ((m + d) ∷ max_index_of τ.finder ∷ [])
  look-unheld l = find-unheld s τ i (m + d) o (omega arith) u (subst (λ (x : ℕ). τ.finder.held ≤ x / b) (sym (add-sub_cancel_left m d)) l)

  look-held : d / b < τ.finder.held → look_of s τ i (m + d) ≡ landed i (d % b) (link_of s (get_or τ.table (d / b) 0) (d % b))
  look-held l =
      subst (λ (x : ℕ). look_of s τ i (m + d) ≡ landed i (x % b) (link_of s (get_or τ.table (x / b) 0) (x % b))) (add-sub_cancel_left m d)
      (find-held s τ i (m + d) _ refl o (omega arith) u (subst (λ (x : ℕ). x / b < τ.finder.held) (sym (add-sub_cancel_left m d)) l))

  look-placed : look_of s τ i (m + d) ≡ pick (leb τ.finder.held (d / b)) (refused 9 ((m + d) ∷ max_index_of τ.finder ∷ [])) (gives i (d % b) (d / b * b) (link_of s p d))
  look-placed = go (leb τ.finder.held (d / b)) refl
    where
      go : (x : Bool) → leb τ.finder.held (d / b) ≡ x
          → look_of s τ i (m + d) ≡ pick x (refused 9 ((m + d) ∷ max_index_of τ.finder ∷ [])) (gives i (d % b) (d / b * b) (link_of s p d))
      go true t = look-unheld (leb-true _ _ t)
      go false t =
          let l : d / b < τ.finder.held = leb-false _ _ t in
          let q : ℕ = get_or τ.table (d / b) 0 in
          let whole : more_hit (d / b * b) (link_of s q (d % b)) ≡ link_of s p d =
          sym (link_of-split s p (d / b * b) (d % b) q (pl (d / b) l)) ∙ ap (link_of s p) (div-add-mod' d b) in
          look-held l ∙ gives_more i (d % b) (d / b * b) (link_of s q (d % b)) ∙ ap (gives i (d % b) (d / b * b)) whole

pub find-placed : (tag : Stream) (s : List ℕ) (p : ℕ) (τ : State) (d : ℕ) → Ready s τ → Placed s p τ
    → τ.finder.minimum_index + d ≤ τ.finder.maximum_index
    → find_of s τ (index_in tag (τ.finder.minimum_index + d)) ≡ looked tag s p τ.finder d
find-placed tag s p τ d o pl u =
    ap (look_of s τ (index_in tag (τ.finder.minimum_index + d))) (number_in tag (τ.finder.minimum_index + d))
    ∙ look-placed s p τ (index_in tag (τ.finder.minimum_index + d)) d o pl u
