-- The tally. A lookup that finds index minimum + d has passed d mod b links, whatever else the finder holds; so the sum is one of remainders.
-- Assumes nothing.
use Prim.Native.Nat.{ℕ, zero, suc, ◌+◌, ◌-◌, ◌*◌, ◌/◌, ◌%◌, ◌^◌, ◌≤◌, ◌<◌}
use mathlib.Core.Bool.{Bool, true, false, not}
use mathlib.Core.List.{List, [], ◌∷◌}
use mathlib.Core.Path.{◌≡◌, refl, sym, ap, ◌∙◌, subst}
use native.Mathlib.Omega.{arith}
use lib.Dec.{ltb, leb, eqb}
use lib.ListN.{length, get_or, set}
use lib.Pow.{pow_pos}
use borrow.Author.Tests.{le-ltb}
use Rattle.answer.specs.Answer.{Answer, answered, refused, pick, stop, both, then}
use Rattle.stream_header.specs.Header.{header_of, longest}
use Rattle.stream_header.specs.declared.Header.{Header}
use Rattle.field.specs.Indices.{index_in, index_number}
use Rattle.stream_item.specs.Links.{link_of}
use Rattle.field.specs.declared.index.Stream.{Stream}
use Rattle.field.specs.declared.index.Stream.TheVariants as stream
use Rattle.field.specs.declared.index.ItemIndex.{ItemIndex}
use Rattle.stream_item.specs.declared.iter.ItemIter.{ItemIter}
use Rattle.stream_item.specs.declared.link.Hit.{Hit}
use Rattle.stream_item.specs.declared.link.Hit.TheVariants.{Landed, Missed}
use Rattle.stream_finder.specs.Finder.{State, state, block_of, distance, header_records, holding_in, begun_in, begun_by, create_by, update_of, after, Found, landed, look_of, find_of}
use Rattle.stream_finder.specs.Demand.{Walked, none, more}
use Rattle.stream_finder.specs.Shared.{Updated, untouched, by}
use Rattle.stream_finder.specs.declared.Records.{Records}
use Rattle.stream_finder.proofs.FinderLaws.{create-is}
use Rattle.stream_finder.proofs.PlaceLaws.{update-ind}
use Rattle.stream_places.specs.File.{FileForm, narrow, words_at, trailer_by, file_form_of}
use Rattle.stream_places.specs.Places.{on_chain, load_for, load_by}
use Rattle.stream_places.specs.declared.trailer.Trailer.{Trailer}
use Rattle.stream_places.proofs.PlacesLaws.{load-header}
use Rattle.pane.specs.Tally.{is_found, passed_by, AllFound, passed_up, tally, LoadedTally, Tally}
use Rattle.pane.proofs.RestLaws.{sums, half, rests, rests-are}

-- ---- an answer that is found has passed k links: through the definition's tests
abbrev Passes : ℕ → Answer Found → Type 0
Passes k a = is_found a ≡ true → passed_by a ≡ k

not_found : (k n : ℕ) (d : List ℕ) → Passes k (refused n d)
not_found k n d e = let z : ◌≡◌ {A = ℕ} 0 1 = cc in absurd (omega arith)

stop-passes : (k : ℕ) (x : Bool) (n : ℕ) (a : Answer Found) → Passes k a → Passes k (stop x n a)
stop-passes k true n a p = not_found k n []
stop-passes k false n a p = p

pick-passes : (k : ℕ) (x : Bool) (n : ℕ) (d : List ℕ) (a : Answer Found) → Passes k a → Passes k (pick x (refused n d) a)
pick-passes k true n d a p = not_found k n d
pick-passes k false n d a p = p

past-passes : (k : ℕ) (x : Bool) (a b : Answer Found) → x ≡ false → Passes k b → Passes k (pick x a b)
past-passes k true a b e p = let z : ◌≡◌ {A = ℕ} 0 1 = cc in absurd (omega arith)
past-passes k false a b e p = p

landed-passes : (k : ℕ) (i : ItemIndex) (x : Hit) → Passes k (landed i k x)
landed-passes k i (Landed p n) e = refl
landed-passes k i (Missed j) e = not_found k 1 (j ∷ []) e

look-passes : (s : List ℕ) (τ : State) (i : ItemIndex) (n : ℕ) → τ.finder.minimum_index ≤ n → Passes (distance τ.finder n % block_of τ.finder) (look_of s τ i n)
unfolding look_of
look-passes s τ i n l =
    stop-passes _ (ltb longest (length s)) 16 _
    (stop-passes _ (ltb 6 τ.finder.shift) 26 _
    (stop-passes _ (ltb (length τ.table) τ.finder.held) 13 _
    (past-passes _ (ltb n τ.finder.minimum_index) _ _ (le-ltb _ _ l)
    (pick-passes _ (ltb τ.finder.maximum_index n) 8 _ _
    (pick-passes _ (leb τ.finder.held (distance τ.finder n / block_of τ.finder)) 9 _ _
    (landed-passes _ i (link_of s (get_or τ.table (distance τ.finder n / block_of τ.finder) 0) (distance τ.finder n % block_of τ.finder))))))))

number_of : (tag : Stream) (n : ℕ) → index_number (index_in tag n) ≡ n
number_of stream.Types n = refl
number_of stream.Ids n = refl

find-passes : (tag : Stream) (s : List ℕ) (τ : State) (d : ℕ) → Passes (d % block_of τ.finder) (find_of s τ (index_in tag (τ.finder.minimum_index + d)))
find-passes tag s τ d =
    let n : ℕ = τ.finder.minimum_index + d in
    let e : distance τ.finder n ≡ d = omega arith in
    subst (λ (m : ℕ). Passes (d % block_of τ.finder) (look_of s τ (index_in tag n) m)) (sym (number_of tag n))
    (subst (λ (m : ℕ). Passes (m % block_of τ.finder) (look_of s τ (index_in tag n) n)) e
    (look-passes s τ (index_in tag n) n (omega arith)))

-- ---- of any finder: its own minimum, its own shift
passed-up : (tag : Stream) (s : List ℕ) (τ : State) (c : ℕ) → AllFound tag s τ τ.finder.minimum_index c
    → passed_up tag s τ τ.finder.minimum_index c ≡ rests (block_of τ.finder) c
unfolding passed_up
passed-up tag s τ zero f = refl
passed-up tag s τ (suc c) f =
    omega (arith, passed-up tag s τ c (λ d l. f d (omega arith)), find-passes tag s τ c (f c (omega arith)))

tally-is : (b c : ℕ) → 0 < b → rests b c ≡ tally b c
tally-is b c z =
    rests-are b z c ∙ sym (ap (λ (x : ℕ). c / b * x + c % b * (c % b - 1) / 2) (half b) ∙ ap (λ (x : ℕ). c / b * sums b + x) (half (c % b)))

-- the finder's minimum and shift are those that it was created with
pub record Kept (m shift : ℕ) (τ : State) : Type 0 where
  pub minimum : τ.finder.minimum_index ≡ m
  pub shift_is : τ.finder.shift ≡ shift

pub tallied : (tag : Stream) (s : List ℕ) (τ : State) (m shift c : ℕ) → Kept m shift τ → AllFound tag s τ m c → passed_up tag s τ m c ≡ tally (2 ^ shift) c
tallied tag s τ m shift c k f =
    subst (λ (n : ℕ). passed_up tag s τ n c ≡ tally (2 ^ shift) c) k.minimum
    (passed-up tag s τ c (subst (λ (n : ℕ). AllFound tag s τ n c) (sym k.minimum) f)
    ∙ tally-is (block_of τ.finder) c (pow_pos τ.finder.shift)
    ∙ ap (λ (x : ℕ). tally (2 ^ x) c) k.shift_is)

pub update-kept : (m shift : ℕ) (τ : State) (c : ItemIter) → Kept m shift τ → Kept m shift (after τ (update_of τ c))
update-kept m shift τ c k = update-ind τ c (Kept m shift) k (λ st. record { minimum = k.minimum; shift_is = k.shift_is })

pub begun_kept : (shift : ℕ) (t : List ℕ) (r : Records) (σ : State) → begun_in shift t r ≡ answered σ → Kept r.minimum shift σ
begun_kept shift t r σ e = go (ltb 6 shift) (ltb r.minimum r.maximum) (leb (length t) 0) e
  where
    go : (x y z : Bool) → stop x 26 (pick y (stop z 13 (answered (state (holding_in r shift 1) (set t 0 r.start)))) (answered (state (holding_in r shift 0) t))) ≡ answered σ
        → Kept r.minimum shift σ
    go true y z q = let w : ◌≡◌ {A = ℕ} 0 1 = cc in absurd (omega arith)
    go false true true q = let w : ◌≡◌ {A = ℕ} 0 1 = cc in absurd (omega arith)
    go false true false q = let w : state (holding_in r shift 1) (set t 0 r.start) ≡ σ = cc in subst (Kept r.minimum shift) w (record { minimum = refl; shift_is = refl })
    go false false z q = let w : state (holding_in r shift 0) t ≡ σ = cc in subst (Kept r.minimum shift) w (record { minimum = refl; shift_is = refl })

created-kept : (shift : ℕ) (s t : List ℕ) (h : Header) (σ : State) → header_of s ≡ answered h → create_by shift s t ≡ answered σ → Kept h.minimum_index shift σ
unfolding begun_by
created-kept shift s t h σ e c = begun_kept shift t (header_records h) σ (sym (create-is shift s t (answered h) e) ∙ c)

walked-kept : (m shift : ℕ) (s : List ℕ) (c : ItemIter) (σ : State) (n : ℕ) (d : ItemIter) (τ : State) → Kept m shift σ → Walked s c σ n d τ → Kept m shift τ
walked-kept m shift s c σ zero d τ k none = k
walked-kept m shift s c σ (suc n) d τ k (more {d = d₀} {τ = ρ} w e) = update-kept m shift ρ d (walked-kept m shift s c σ n d₀ ρ k w)

updated-kept : (m shift : ℕ) (s : List ℕ) (σ τ : State) → Kept m shift σ → Updated s σ τ → Kept m shift τ
updated-kept m shift s σ τ k untouched = k
updated-kept m shift s σ τ k (by {τ = ρ} {c = c} w r) = update-kept m shift ρ c (updated-kept m shift s σ ρ k w)

-- ---- a finder that was loaded has the stream's minimum
abbrev Least : ℕ → Answer State → Type 0
Least m (answered τ) = τ.finder.minimum_index ≡ m
Least m (refused n d) = Unit {0}

stop-least : (m : ℕ) (x : Bool) (n : ℕ) (a : Answer State) → Least m a → Least m (stop x n a)
stop-least m true n a p = tt
stop-least m false n a p = p

load-least : (s f t : List ℕ) (h : Header) (k : Trailer) → Least h.minimum_index (load_for s f t h k)
unfolding load_for
load-least s f t h k =
    stop-least _ (both (eqb k.count 0) (ltb h.minimum_index h.maximum_index)) 20 _
    (stop-least _ (not (eqb k.minimum_index h.minimum_index)) 21 _
    (stop-least _ (not (eqb k.maximum_index h.maximum_index)) 21 _
    (stop-least _ (not (eqb k.stream_length (length s))) 21 _
    (stop-least _ (not (eqb k.header_size h.header_size)) 21 _
    (stop-least _ (ltb (length t) k.count) 13 _
    (stop-least _ (not (on_chain s (2 ^ k.shift) h.header_size (words_at k.count f 0))) 22 _ refl))))))

loaded-least : (F : FileForm) (s f t : List ℕ) (h : Header) (τ : State) → header_of s ≡ answered h → load_by F s f t ≡ answered τ → τ.finder.minimum_index ≡ h.minimum_index
loaded-least F s f t h τ e l = subst (Least h.minimum_index) (sym (load-header F s f t (answered h) e) ∙ l) (go (trailer_by F f))
  where
    go : (a : Answer Trailer) → Least h.minimum_index (then a (load_for s f t h))
    go (answered k) = load-least s f t h k
    go (refused n d) = tt

-- of any finder
any-tally : (tag : Stream) (s : List ℕ) (τ : State) (c : ℕ) → AllFound tag s τ τ.finder.minimum_index c → passed_up tag s τ τ.finder.minimum_index c ≡ tally (block_of τ.finder) c
any-tally tag s τ c f = tallied tag s τ τ.finder.minimum_index τ.finder.shift c (record { minimum = refl; shift_is = refl }) f

loaded-tally : (F : FileForm) (tag : Stream) (s f t : List ℕ) (h : Header) (τ : State) (c : ℕ) → header_of s ≡ answered h → load_by F s f t ≡ answered τ
    → AllFound tag s τ h.minimum_index c → passed_up tag s τ h.minimum_index c ≡ tally (block_of τ.finder) c
loaded-tally F tag s f t h τ c e l g =
    tallied tag s τ h.minimum_index τ.finder.shift c (record { minimum = loaded-least F s f t h τ e l; shift_is = refl }) g

pub tally-holds : Tally
unfolding LoadedTally
tally-holds = record {
  any = any-tally;
  walked = λ shift tag s h t N τ c p f.
      tallied tag s τ h.minimum_index shift c
      (walked-kept h.minimum_index shift s p.first p.fresh N p.cursor τ (created-kept shift s t h p.fresh p.accepted p.created) p.walked) f;
  shared = λ shift tag s h t σ τ c e new u f.
      tallied tag s τ h.minimum_index shift c (updated-kept h.minimum_index shift s σ τ (created-kept shift s t h σ e new) u) f;
  loaded = loaded-tally narrow;
  loaded_wide = λ tag s f. loaded-tally (file_form_of f) tag s f;
}
