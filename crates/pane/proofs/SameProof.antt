-- Five functions are enough. Assumes nothing.
use Rattle.std.specs.Prelude.{Option, None, Some}
use Prim.Native.Nat.{ℕ, ◌+◌, ◌-◌, ◌/◌, ◌%◌, ◌^◌, ◌≤◌, ◌<◌}
use mathlib.Core.Bool.{Bool, true, false}
use mathlib.Core.List.{List, [], ◌∷◌}
use mathlib.Core.Path.{◌≡◌, refl, sym, ap, ◌∙◌}
use native.Mathlib.Nat.{zero-div, zero-mod}
use native.Mathlib.Omega.{arith}
use lib.Dec.{leb, ltb}
use lib.ListN.{length, get_or, set}
use borrow.Author.Tests.{lt-ltb, le-ltb}
use Rattle.answer.specs.Answer.{Answer, answered, refused, pick, stop}
use Rattle.answer.specs.Tables.{find}
use Rattle.stream_header.specs.Header.{longest, header_of}
use Rattle.stream_header.specs.declared.Header.{Header}
use Rattle.field.specs.Fields.{little_at}
use Rattle.field.specs.Indices.{index_in}
use Rattle.stream_item.specs.Links.{link_of}
use Rattle.stream_item.specs.Iterator.{next_of, over_record, done}
use Rattle.field.specs.declared.index.Stream.TheVariants.{Types, Ids}
use Rattle.field.specs.declared.index.ItemIndex.{ItemIndex}
use Rattle.stream_item.specs.declared.link.Hit.{Hit}
use Rattle.stream_item.specs.declared.link.Hit.TheVariants.{Landed, Missed}
use Rattle.stream_finder.specs.Finder.{State, state, block_of, distance, holding, begun_by, create_by, due, update_of, max_index_of, landed, look_of}
use Rattle.stream_finder.proofs.FinderLaws.{create-is, due-yes}
use Rattle.stream_finder.proofs.Accepted.{Accepted, accepted}
use Rattle.stream_finder.proofs.PlaceLaws.{update-ind}
use Rattle.word_primitive.specs.Kinds.{kinds, indirections}
use Rattle.word_primitive.specs.Primitive.{primitive_of, known, unknown}
use Rattle.word_primitive.specs.declared.PrimitiveKind.{PrimitiveKind}
use Rattle.word_primitive.specs.declared.Indirection.{Indirection}
use Rattle.word_primitive.specs.declared.PrimitiveType.{PrimitiveType}
use Rattle.pane_state.specs.Given.{cursor_at, finder_at}
use Rattle.pane.specs.Out.{out_next, out_find}
use Rattle.pane.specs.Same.{SameForC}

-- ---- what C gets of two answers is the same after the same tests
module _ {A : Type 0} (f : Answer A → ℕ × List ℕ) where
  stop-same : (x : Bool) (n : ℕ) (a b : Answer A) → f a ≡ f b → f (stop x n a) ≡ f (stop x n b)
  stop-same true n a b e = refl
  stop-same false n a b e = e

  pick_same : (x : Bool) (a b c d : Answer A) → f a ≡ f b → f c ≡ f d → f (pick x a c) ≡ f (pick x b d)
  pick_same true a b c d e g = e
  pick_same false a b c d e g = g

next-ids : (s : List ℕ) (at i : ℕ) → out_next (next_of s (record { stream = Ids; at = at; index = i })) ≡ out_next (next_of s (cursor_at at i))
unfolding next_of
next-ids s at i =
    stop-same out_next (ltb longest (length s)) 16 _ _
    (stop-same out_next (ltb (length s) at) 1 _ _
    (pick_same out_next (leb (length s) at) (answered done) (answered done) _ _ refl
    (stop-same out_next (ltb (length s) (at + 2)) 1 _ _
    (stop-same out_next (ltb (little_at 2 s at) 2) 6 _ _
    (stop-same out_next (ltb (length s) (at + 2 + little_at 2 s at)) 1 _ _
    (stop-same out_next (leb 4294967295 i) 7 (answered (over_record (record { stream = Ids; at = at; index = i }) (little_at 2 s at))) (answered (over_record (cursor_at at i) (little_at 2 s at))) refl))))))

landed-same : (i j : ItemIndex) (k : ℕ) (x : Hit) → out_find (landed i k x) ≡ out_find (landed j k x)
landed-same i j k (Landed p n) = refl
landed-same i j k (Missed m) = refl

look-same : (s : List ℕ) (τ : State) (i j : ItemIndex) (n : ℕ) → out_find (look_of s τ i n) ≡ out_find (look_of s τ j n)
unfolding look_of
look-same s τ i j n =
    stop-same out_find (ltb longest (length s)) 16 _ _
    (stop-same out_find (ltb 6 τ.finder.shift) 26 _ _
    (stop-same out_find (ltb (length τ.table) τ.finder.held) 13 _ _
    (pick_same out_find (ltb n τ.finder.minimum_index) _ _ _ _ refl
    (pick_same out_find (ltb τ.finder.maximum_index n) (refused 8 (n ∷ [])) (refused 8 (n ∷ [])) _ _ refl
    (pick_same out_find (leb τ.finder.held (distance τ.finder n / block_of τ.finder)) (refused 9 (n ∷ max_index_of τ.finder ∷ [])) (refused 9 (n ∷ max_index_of τ.finder ∷ [])) _ _ refl
    (landed-same i j (distance τ.finder n % block_of τ.finder) (link_of s (get_or τ.table (distance τ.finder n / block_of τ.finder) 0) (distance τ.finder n % block_of τ.finder))))))))

-- ---- a creation and the first update: both are the same after 26 and 13
abbrev first : ℕ → List ℕ → Header → Answer State
first shift t h = stop (ltb 6 shift) 26 (stop (leb (length t) 0) 13 (answered (state (holding h shift 1) (set t 0 h.header_size))))

begun_first : (shift : ℕ) (t : List ℕ) (h : Header) → h.minimum_index < h.maximum_index → begun_by shift t h ≡ first shift t h
unfolding begun_by
begun_first shift t h l = simp (lt-ltb _ _ l)

update-first : (shift : ℕ) (t : List ℕ) (h : Header) → h.header_size ≤ longest
    → update_of (finder_at h.minimum_index h.maximum_index 0 shift t) (cursor_at h.header_size h.minimum_index) ≡ first shift t h
unfolding update_of
update-first shift t h l =
    let m : ℕ = h.minimum_index in
    let z : m - m ≡ 0 = omega arith in
    let du : due (holding h shift 0) m ≡ true = due-yes (holding h shift 0) m (2 ^ shift) refl (ap (λ (x : ℕ). x % 2 ^ shift) z ∙ zero-mod (2 ^ shift)) (ap (λ (x : ℕ). x / 2 ^ shift) z ∙ zero-div (2 ^ shift)) in
    simp (le-ltb longest h.header_size l, le-ltb (length t) 0 (omega arith), le-ltb m m (omega arith), du)

create-first : (shift : ℕ) (s : List ℕ) (h : Header) (t : List ℕ) → header_of s ≡ answered h → h.minimum_index < h.maximum_index
    → create_by shift s t ≡ update_of (finder_at h.minimum_index h.maximum_index 0 shift t) (cursor_at h.header_size h.minimum_index)
create-first shift s h t e l =
    let ok : Accepted s h = accepted s h e l in
    create-is shift s t (answered h) e ∙ begun_first shift t h l ∙ sym (update-first shift t h (omega (arith, ok.short, ok.inside)))

-- ---- what an answered primitive says of the two lists
named : (x : Bool) (i : ℕ) (d : Option Indirection) (k : Option PrimitiveKind) (p : PrimitiveType)
    → pick x (unknown i) (known i d (λ y. known i k (λ z. answered (record { kind = z; indirection = y })))) ≡ answered p
    → (k ≡ Some p.kind) × (d ≡ Some p.indirection)
named true i d k p e = let w : ◌≡◌ {A = ℕ} 0 1 = cc in absurd (omega arith)
named false i None k p e = let w : ◌≡◌ {A = ℕ} 0 1 = cc in absurd (omega arith)
named false i (Some y) None p e = let w : ◌≡◌ {A = ℕ} 0 1 = cc in absurd (omega arith)
named false i (Some y) (Some z) p e = let w : ◌≡◌ {A = PrimitiveType} (record { kind = z; indirection = y }) p = cc in (ap (λ (q : PrimitiveType). Some q.kind) w, ap (λ (q : PrimitiveType). Some q.indirection) w)

primitive-named : (i : ℕ) (p : PrimitiveType) → primitive_of i ≡ answered p → (find (i % 2 ^ 8) kinds ≡ Some p.kind) × (find (i / 2 ^ 8 % 2 ^ 4) indirections ≡ Some p.indirection)
unfolding primitive_of
primitive-named i p e = named (leb 0x1000 i) i (find (i / 2 ^ 8 % 2 ^ 4) indirections) (find (i % 2 ^ 8) kinds) p e

pub same : SameForC
same = record {
  next_of_ids = next-ids;
  find_of_ids = λ s τ i. look-same s τ (index_in Ids i) (index_in Types i) i;
  creation = create-first;
  idle = λ σ c n. update-ind σ c (λ (ρ : State). ρ ≡ σ) refl (λ st. absurd (n st.rest));
  kind = λ i p e. (primitive-named i p e).0;
  indirection = λ i p e. (primitive-named i p e).1;
}
