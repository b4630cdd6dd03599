-- The outcomes of loading and saving, a law for each, in the order of their tests; and a turn of the loop over the places. Assumes nothing.
use Rattle.std.specs.Prelude.{Result, Ok, Err, IsErrAnd}
use Rattle.answer.specs.declared.Refusal.{Refusal}
use Prim.Native.Nat.{ℕ, suc, ◌+◌, ◌-◌, ◌*◌, ◌^◌, ◌≤◌, ◌<◌}
use native.Mathlib.Omega.{arith}
use native.Mathlib.Nat.{zero-add, add-sub_of_le}
use native.Mathlib.Numerals.{add-one}
use mathlib.Core.Path.{◌≡◌, refl, sym, ap, ◌∙◌}
use mathlib.Core.Bool.{Bool, true, false}
use mathlib.Core.List.{List, [], ◌++◌}
use lib.ListN.{length, take}
use lib.Dec.{ltb, eqb}
use borrow.Author.Tests.{lt-ltb, le-ltb, eq-eqb, ne_eqb, ltb-false, eqb-true}
use Rattle.answer.proofs.Told.{handed}
use Rattle.answer.specs.Answer.{Answer, answered, refused, pick, both, then}
use Rattle.field.specs.Fields.{little_at}
use Rattle.field_put.specs.Bytes.{bytes, put, Puts}
use Rattle.stream_header.specs.Header.{longest, header_of}
use Rattle.stream_header.specs.declared.Header.{Header}
use Rattle.stream_item.specs.Links.{Walk, reached, broke, chain}
use Rattle.stream_item.proofs.LinkLaws.{link-broken, chain-break, chain-stays, chain-bounds}
use Rattle.stream_item.proofs.NextLaws.{passed}
use Rattle.stream_finder.specs.Finder.{State, state, holding, Fills}
use Rattle.stream_finder.specs.declared.ItemFinder.{ItemFinder}
use Rattle.stream_places.specs.File.{FileForm, trailer_size, word_bytes, trailer_bytes, words_at, trailer_by}
use Rattle.stream_places.specs.Places.{ends, follows, on_chain, Takes, load_for, load_by, file_of, save_for, save_by, file_size, file_buffer_after, Saves}
use Rattle.stream_places.specs.declared.trailer.Trailer.{Trailer}
use Rattle.stream_places.proofs.FileLaws.{words-cons, words-none}
use Rattle.answer.specs.Refusals.{no, itself, said}

-- ---- a block of links: the walk came to its end, or broke before
module _ (s : List ℕ) (p k i at q : ℕ) (e : chain s p i ≡ reached at) where
  pub block-end : i ≡ k → eqb at q ≡ ends (chain s p k) q
  block-end h = sym (ap (λ (w : Walk). ends w q) (ap (chain s p) (sym h) ∙ e))

  pub block-cut : i < k → length s < at + 2 + little_at 2 s at → false ≡ ends (chain s p k) q
  block-cut h l =
      let c : chain s p (suc i) ≡ broke i = sym (ap (chain s p) (add-one i)) ∙ chain-break s p i at e (link-broken s at l) in
      let g : chain s p k ≡ broke i = ap (chain s p) (sym (add-sub_of_le h)) ∙ chain-stays s p i (suc i) (k - suc i) c in
      sym (ap (λ (w : Walk). ends w q) g)

pub ends-reached : (w : Walk) (q : ℕ) → ends w q ≡ true → w ≡ reached q
ends-reached (reached r) q e = ap reached (eqb-true _ _ e)
ends-reached (broke j) q e = let z : ◌≡◌ {A = ℕ} 0 1 = cc in absurd (omega arith)

-- and where it came to is inside
pub block_inside : (s : List ℕ) (p k q : ℕ) → p ≤ length s → true ≡ ends (chain s p k) q → q ≤ length s
block_inside s p k q l e = (chain-bounds s p k q (ends-reached (chain s p k) q (sym e))).inside l

-- ---- the places, one more each turn
module _ (s : List ℕ) (b : ℕ) (n : ℕ) (f : List ℕ) where
  pub chain-empty : (start : ℕ) → n ≡ 0 → true ≡ on_chain s b start (words_at n f 0)
  unfolding on_chain words_at
  chain-empty start e = rw e

  first-place : (start : ℕ) → 0 < n → on_chain s b start (words_at n f 0) ≡ both (eqb (little_at 4 f 0) start) (follows s b (little_at 4 f 0) (words_at (n - 1) f (4 * 1)))
  unfolding on_chain
  first-place start l =
      let e : n - 0 ≡ n = omega arith in
      ap (λ (m : ℕ). on_chain s b start (words_at m f 0)) (sym e) ∙ ap (on_chain s b start) (words-cons n f 0 l)

  -- p: the first place, as the code has it
  pub chain-other : (start p : ℕ) → 0 < n → p ≡ little_at 4 f 0 → (p ≡ start → ⊥) → false ≡ on_chain s b start (words_at n f 0)
  chain-other start p l e h = sym (first-place start l ∙ simp (← e, ne_eqb _ _ h))

  pub chain_first : (start p : ℕ) → 0 < n → p ≡ little_at 4 f 0 → p ≡ start → on_chain s b start (words_at n f 0) ≡ follows s b p (words_at (n - 1) f (4 * 1))
  chain_first start p l e h = first-place start l ∙ simp (← e, eq-eqb _ _ h)

  module _ (i p : ℕ) (l : i < n) where
    follows-cons : follows s b p (words_at (n - i) f (4 * i))
        ≡ both (ends (chain s p b) (little_at 4 f (4 * i))) (follows s b (little_at 4 f (4 * i)) (words_at (n - (i + 1)) f (4 * (i + 1))))
    unfolding follows
    follows-cons = ap (follows s b p) (words-cons n f i l)

    pub follows-miss : (q : ℕ) → q ≡ little_at 4 f (4 * i) → false ≡ ends (chain s p b) q → false ≡ follows s b p (words_at (n - i) f (4 * i))
    follows-miss q e h = sym (follows-cons ∙ simp (← e, ← h))

    pub follows-turn : (q : ℕ) → q ≡ little_at 4 f (4 * i) → true ≡ ends (chain s p b) q
        → follows s b p (words_at (n - i) f (4 * i)) ≡ follows s b q (words_at (n - (i + 1)) f (4 * (i + 1)))
    follows-turn q e h = follows-cons ∙ simp (← e, ← h)

  pub follows-end : (i p q : ℕ) → n ≤ i → true ≡ follows s b p (words_at (n - i) f q)
  unfolding follows
  follows-end i p q l = rw (words-none n f i q l)

-- ---- places that are stored if they are on the chain
module _ (t : List ℕ) (b : Bool) (ws : List ℕ) (r : Bool) (t' : List ℕ) where
  pub takes : r ≡ b → r ≡ true → t' ≡ put t 0 ws → Takes t b ws r t'
  takes e h q = record { test = e; table = rw (sym e ∙ h) q }

  pub takes_none : r ≡ b → r ≡ false → t' ≡ t → Takes t b ws r t'
  takes_none e h q = record { test = e; table = rw (sym e ∙ h) q }

  -- and back
  pub taken-all : Takes t b ws r t' → r ≡ true → t' ≡ put t 0 ws
  taken-all w h = rw (sym w.test ∙ h) at w.table

  pub taken_none : Takes t b ws r t' → r ≡ false → t' ≡ t
  taken_none w h = rw (sym w.test ∙ h) at w.table

-- ---- the outcomes of loading
module _ (s f t : List ℕ) (h : Header) (k : Trailer) where
  -- nothing before the question of room refuses
  pub record Ours : Type 0 where
    pub some : both (eqb k.count 0) (ltb h.minimum_index h.maximum_index) ≡ false
    pub minimum : k.minimum_index ≡ h.minimum_index
    pub maximum : k.maximum_index ≡ h.maximum_index
    pub bytes_are : k.stream_length ≡ length s
    pub start : k.header_size ≡ h.header_size

  pub load-lacks : both (eqb k.count 0) (ltb h.minimum_index h.maximum_index) ≡ true → load_for s f t h k ≡ refused 20 []
  unfolding load_for
  load-lacks e = simp e

  pub load-minimum : both (eqb k.count 0) (ltb h.minimum_index h.maximum_index) ≡ false
      → (k.minimum_index ≡ h.minimum_index → ⊥) → load_for s f t h k ≡ refused 21 []
  unfolding load_for
  load-minimum a e = simp (a, ne_eqb _ _ e)

  pub load-maximum : both (eqb k.count 0) (ltb h.minimum_index h.maximum_index) ≡ false
      → k.minimum_index ≡ h.minimum_index → (k.maximum_index ≡ h.maximum_index → ⊥) → load_for s f t h k ≡ refused 21 []
  unfolding load_for
  load-maximum a b e = simp (a, eq-eqb _ _ b, ne_eqb _ _ e)

  pub load-bytes : both (eqb k.count 0) (ltb h.minimum_index h.maximum_index) ≡ false
      → k.minimum_index ≡ h.minimum_index → k.maximum_index ≡ h.maximum_index → (k.stream_length ≡ length s → ⊥) → load_for s f t h k ≡ refused 21 []
  unfolding load_for
  load-bytes a b c e = simp (a, eq-eqb _ _ b, eq-eqb _ _ c, ne_eqb _ _ e)

  pub load-start : both (eqb k.count 0) (ltb h.minimum_index h.maximum_index) ≡ false
      → k.minimum_index ≡ h.minimum_index → k.maximum_index ≡ h.maximum_index → k.stream_length ≡ length s
      → (k.header_size ≡ h.header_size → ⊥) → load_for s f t h k ≡ refused 21 []
  unfolding load_for
  load-start a b c d e = simp (a, eq-eqb _ _ b, eq-eqb _ _ c, eq-eqb _ _ d, ne_eqb _ _ e)

  pub load_full : Ours → length t < k.count → load_for s f t h k ≡ refused 13 []
  unfolding load_for
  load_full o e = simp (o.some, eq-eqb _ _ o.minimum, eq-eqb _ _ o.maximum, eq-eqb _ _ o.bytes_are, eq-eqb _ _ o.start, lt-ltb _ _ e)

  pub load-off : Ours → k.count ≤ length t → on_chain s (2 ^ k.shift) h.header_size (words_at k.count f 0) ≡ false → load_for s f t h k ≡ refused 22 []
  unfolding load_for
  load-off o r e = simp (o.some, eq-eqb _ _ o.minimum, eq-eqb _ _ o.maximum, eq-eqb _ _ o.bytes_are, eq-eqb _ _ o.start, le-ltb _ _ r, e)

  pub load-done : Ours → k.count ≤ length t → on_chain s (2 ^ k.shift) h.header_size (words_at k.count f 0) ≡ true
      → load_for s f t h k ≡ answered (state (holding h k.shift k.count) (put t 0 (words_at k.count f 0)))
  unfolding load_for
  load-done o r e = simp (o.some, eq-eqb _ _ o.minimum, eq-eqb _ _ o.maximum, eq-eqb _ _ o.bytes_are, eq-eqb _ _ o.start, le-ltb _ _ r, e)

pub load-header : (F : FileForm) (s f t : List ℕ) (a : Answer Header) → header_of s ≡ a → load_by F s f t ≡ then a (λ h. then (trailer_by F f) (load_for s f t h))
unfolding load_by
load-header F s f t a e = rw e

pub load-trailer : (F : FileForm) (s f t : List ℕ) (h : Header) (a : Answer Trailer) → header_of s ≡ answered h → trailer_by F f ≡ a → load_by F s f t ≡ then a (load_for s f t h)
unfolding load_by
load-trailer F s f t h a e g = rw (e, g)

-- a file loaded by the stream's header and the file's trailer: refused by the one, or by the other, or the places loaded by both
module _ (F : FileForm) (s f t : List ℕ) (r : Result ItemFinder Refusal) where
  pub load-unheaded : (e : Refusal) → no e ≡ header_of s → IsErrAnd r (λ y. y ≡ e) → Fills t (load_by F s f t) r t
  unfolding load_by
  load-unheaded e h w = let q : r ≡ Err e = handed r e w in record { answer = rw (q, ← h) refl; table = rw (← h) refl }

  pub load-untrailed : (h : Header) (e : Refusal) → answered h ≡ header_of s → no e ≡ trailer_by F f → IsErrAnd r (λ y. y ≡ e) → Fills t (load_by F s f t) r t
  unfolding load_by
  load-untrailed h e g k w = let q : r ≡ Err e = handed r e w in record { answer = rw (q, ← g, ← k) refl; table = rw (← g, ← k) refl }

  pub load-both : (h : Header) (k : Trailer) (t' : List ℕ) → answered h ≡ header_of s → answered k ≡ trailer_by F f → Fills t (load_for s f t h k) r t' → Fills t (load_by F s f t) r t'
  unfolding load_by
  load-both h k t' g e l = record { answer = rw (← g, ← e) l.answer; table = rw (← g, ← e) l.table }

-- ---- the outcomes of saving
module _ (F : FileForm) (bytes : ℕ) (σ : State) (room : ℕ) (h : Header) where
  pub save-minimum : (σ.finder.minimum_index ≡ h.minimum_index → ⊥) → save_for F bytes σ room h ≡ refused 21 []
  unfolding save_for
  save-minimum e = simp (ne_eqb _ _ e)

  pub save-maximum : σ.finder.minimum_index ≡ h.minimum_index → (σ.finder.maximum_index ≡ h.maximum_index → ⊥) → save_for F bytes σ room h ≡ refused 21 []
  unfolding save_for
  save-maximum a e = simp (eq-eqb _ _ a, ne_eqb _ _ e)

  -- the finder has the stream's bounds
  pub record Bounds : Type 0 where
    pub minimum : σ.finder.minimum_index ≡ h.minimum_index
    pub maximum : σ.finder.maximum_index ≡ h.maximum_index

  pub save-shift : Bounds → 6 < σ.finder.shift → save_for F bytes σ room h ≡ refused 26 []
  unfolding save_for
  save-shift b e = simp (eq-eqb _ _ b.minimum, eq-eqb _ _ b.maximum, lt-ltb _ _ e)

  pub save-claims : Bounds → σ.finder.shift ≤ 6 → length σ.table < σ.finder.held → save_for F bytes σ room h ≡ refused 13 []
  unfolding save_for
  save-claims b a e = simp (eq-eqb _ _ b.minimum, eq-eqb _ _ b.maximum, le-ltb _ _ a, lt-ltb _ _ e)

  pub save-many : Bounds → σ.finder.shift ≤ 6 → σ.finder.held ≤ length σ.table → F.most < σ.finder.held → save_for F bytes σ room h ≡ refused 13 []
  unfolding save_for
  save-many b a c e = simp (eq-eqb _ _ b.minimum, eq-eqb _ _ b.maximum, le-ltb _ _ a, le-ltb _ _ c, lt-ltb _ _ e)

  pub save-room : Bounds → σ.finder.shift ≤ 6 → σ.finder.held ≤ length σ.table → σ.finder.held ≤ F.most → room < 4 * σ.finder.held + trailer_size F
      → save_for F bytes σ room h ≡ refused 19 []
  unfolding save_for
  save-room b a c d e = simp (eq-eqb _ _ b.minimum, eq-eqb _ _ b.maximum, le-ltb _ _ a, le-ltb _ _ c, le-ltb _ _ d, lt-ltb _ _ e)

  pub save-done : Bounds → σ.finder.shift ≤ 6 → σ.finder.held ≤ length σ.table → σ.finder.held ≤ F.most → 4 * σ.finder.held + trailer_size F ≤ room
      → save_for F bytes σ room h ≡ answered (file_of F h bytes σ)
  unfolding save_for
  save-done b a c d e = simp (eq-eqb _ _ b.minimum, eq-eqb _ _ b.maximum, le-ltb _ _ a, le-ltb _ _ c, le-ltb _ _ d, le-ltb _ _ e)

pub save-header : (F : FileForm) (s : List ℕ) (σ : State) (room : ℕ) (a : Answer Header) → header_of s ≡ a → save_by F s σ room ≡ then a (save_for F (length s) σ room)
unfolding save_by
save-header F s σ room a e = rw e

-- the file with its trailer as the code has it
pub file-by : (F : FileForm) (bytes : ℕ) (σ : State) (h : Header) (d : ℕ) → d ≡ 4 * σ.finder.held + trailer_size F
    → file_of F h bytes σ
    ≡ word_bytes (take σ.finder.held σ.table)
    ++ trailer_bytes F (record {
      count = σ.finder.held;
      shift = σ.finder.shift;
      minimum_index = h.minimum_index;
      maximum_index = h.maximum_index;
      stream_length = bytes;
      header_size = h.header_size;
      distance = d;
    })
unfolding file_of
file-by F bytes σ h d e = rw e

-- by the form as the code has it
pub save-by : (F G : FileForm) (s : List ℕ) (σ : State) (room : ℕ) (h : Header) → header_of s ≡ answered h → F ≡ G → save_by G s σ room ≡ save_for F (length s) σ room h
save-by F G s σ room h e g = ap (λ (H : FileForm). save_by H s σ room) (sym g) ∙ save-header F s σ room (answered h) e

-- the contract from the case that holds
pub saves : (o : List ℕ) (x : Answer (List ℕ)) (r : Result ℕ Refusal) (o' : List ℕ) (a : Answer (List ℕ)) → x ≡ a → said itself r ≡ file_size a → o' ≡ file_buffer_after o a → Saves o x r o'
saves o x r o' a e p q = record { answer = p ∙ ap file_size (sym e); buffer = q ∙ ap (file_buffer_after o) (sym e) }

pub saves-as : (o : List ℕ) (x : Answer (List ℕ)) (r : Result ℕ Refusal) (o' : List ℕ) (a : Answer (List ℕ)) → x ≡ a → Saves o a r o' → Saves o x r o'
saves-as o x r o' a e w = saves o x r o' a e w.answer w.buffer

-- the header's own refusal
pub save-refused : (F : FileForm) (s : List ℕ) (σ : State) (o : List ℕ) (r : Result ℕ Refusal) (e : Refusal) → no e ≡ header_of s → IsErrAnd r (λ y. y ≡ e) → Saves o (save_by F s σ (length o)) r o
save-refused F s σ o r e h w =
    saves o (save_by F s σ (length o)) r o (no e) (save-header F s σ (length o) (no e) (sym h)) (ap (said itself) (handed r e w)) refl

-- the file was written
pub saves-file : (o : List ℕ) (x : Answer (List ℕ)) (bs : List ℕ) (r : ℕ) (o' : List ℕ) → x ≡ answered bs → Puts o 0 bs r o' → Saves o x (Ok r) o'
saves-file o x bs r o' e w = saves o x (Ok r) o' (answered bs) e (ap (λ (n : ℕ). answered n) (w.next ∙ zero-add (length bs))) w.left

-- ---- what a header that was answered says of its stream
pub header-short : (s : List ℕ) (h : Header) → header_of s ≡ answered h → length s ≤ longest
unfolding header_of
header-short s h e = ltb-false _ _ (passed (ltb longest (length s)) 16 _ _ e).0

by-pick : (P : Type 0) (b : Bool) (x y : Answer Header) (h : Header) → pick b x y ≡ answered h → (x ≡ answered h → P) → (y ≡ answered h → P) → P
by-pick P true x y h e f g = f e
by-pick P false x y h e f g = g e

-- its fields: none of the empty stream; else where 01 has them, and the header is inside
pub header-fields : (P : Type 0) (s : List ℕ) (h : Header) → header_of s ≡ answered h
    → (0 ≡ h.header_size → 0 ≡ h.minimum_index → 0 ≡ h.maximum_index → P)
    → (little_at 4 s 4 ≤ length s → little_at 4 s 4 ≡ h.header_size → little_at 4 s 8 ≡ h.minimum_index → little_at 4 s 12 ≡ h.maximum_index → P)
    → P
unfolding header_of
header-fields P s h e none all =
    by-pick P (eqb (length s) 0) _ _ h (passed (ltb longest (length s)) 16 _ _ e).1
    (λ g.
    let x : ◌≡◌ {A = ℕ} 0 h.header_size = cc in
    let y : ◌≡◌ {A = ℕ} 0 h.minimum_index = cc in
    let z : ◌≡◌ {A = ℕ} 0 h.maximum_index = cc in
    none x y z)
    (λ g.
    let t3 = passed (ltb (length s) 56) 1 _ _ g in
    let t4 = passed (ltb (little_at 4 s 4) 56) 2 _ _ t3.1 in
    let t5 = passed (ltb 1024 (little_at 4 s 4)) 3 _ _ t4.1 in
    let t6 = passed (ltb (length s) (little_at 4 s 4)) 1 _ _ t5.1 in
    let t7 = passed (ltb (little_at 4 s 8) 4096) 4 _ _ t6.1 in
    let t8 = passed (ltb (little_at 4 s 12) (little_at 4 s 8)) 5 _ _ t7.1 in
    let x : little_at 4 s 4 ≡ h.header_size = cc in
    let y : little_at 4 s 8 ≡ h.minimum_index = cc in
    let z : little_at 4 s 12 ≡ h.maximum_index = cc in
    all (ltb-false _ _ t6.0) x y z)

pub header-inside : (s : List ℕ) (h : Header) → header_of s ≡ answered h → h.header_size ≤ length s
header-inside s h e = header-fields (h.header_size ≤ length s) s h e (λ x y z. omega arith) (λ w x y z. omega arith)
