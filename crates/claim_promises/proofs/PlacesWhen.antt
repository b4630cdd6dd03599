-- Each number of R-3 and R-10 is given exactly when 02 says, whatever the form of the file. Assumes nothing.
use Prim.Native.Nat.{ℕ, zero, suc, ◌+◌, ◌-◌, ◌*◌, ◌^◌, ◌≤◌, ◌<◌}
use native.Mathlib.Omega.{arith}
use mathlib.Core.Bool.{Bool, true, false, not}
use mathlib.Core.Path.{◌≡◌, refl, sym, ap, subst, ◌∙◌}
use mathlib.Core.Logic.{◌⊎◌, inl, inr}
use mathlib.Core.List.{List, [], ◌∷◌}
use lib.ListN.{length, get_or}
use lib.Dec.{ltb, eqb}
use borrow.Author.Tests.{ltb-true, ltb-false, lt-ltb, eqb-true, eqb-false, eq-eqb, not-true, not-false}
use Rattle.answer.specs.Answer.{Answer, answered, refused, both, stop}
use Rattle.answer.specs.Tables.{among}
use Rattle.field.specs.Fields.{little_at}
use Rattle.stream_header.specs.Header.{header_of}
use Rattle.stream_header.specs.declared.Header.{Header}
use Rattle.stream_item.specs.Links.{chain, reached}
use Rattle.field_put.specs.Bytes.{put}
use Rattle.stream_finder.specs.Finder.{State, state, holding}
use Rattle.stream_places.specs.File.{FileForm, trailer_size, words_at, trailer_at, spells, checked, trailer_by}
use Rattle.stream_places.specs.Places.{on_chain, file_of, load_for, load_by, save_for, save_by}
use Rattle.stream_places.specs.declared.trailer.Trailer.{Trailer}
use Rattle.stream_places.proofs.FileLaws.{length-words, trailer-by, checked-right, trailed}
use Rattle.stream_places.proofs.BackLaws.{words-get}
use Rattle.stream_places.proofs.PlacesLaws.{Ours, load-header, load-trailer, load-lacks, load-minimum, load-maximum, load-bytes, load-start, load_full, load-off, load-done, Bounds, save-header, save-minimum, save-maximum, save-shift, save-claims, save-many, save-room, save-done}
use Rattle.stream_places.proofs.ChainLaws.{Chained, chained, unchained}
use Rattle.claim_promises.specs.ByTable.{Refuses}
use Rattle.claim_promises.specs.Given.{by, Given, RefusedAs}
use Rattle.claim_promises.specs.PlacesWhen.{count_in, Right, RightFor, MadeFor, Onward, Bounded, PlacesWhen}
use Rattle.claim_promises.proofs.Given.{off, at-stop, at-then, denied, apart, as_first}
use Rattle.claim_promises.proofs.PlacesRefuse.{trailer-refuses, loading-refuses, save-for-refuses}

-- ---- letters, one by one
spells_at : (f : List ℕ) (p : ℕ) (bs : List ℕ) → spells f p bs ≡ true → (i : ℕ) → i < length bs → get_or f (p + i) 0 ≡ get_or bs i 0
unfolding spells
spells_at f p [] e i l = absurd (omega arith)
spells_at f p (b ∷ bs) e zero l = let q : p + 0 ≡ p = omega arith in ap (λ (n : ℕ). get_or f n 0) q ∙ eqb-true _ _ (first (eqb (get_or f p 0) b) (spells f (p + 1) bs) e)
  where
    first : (x y : Bool) → both x y ≡ true → x ≡ true
    first true y h = refl
    first false y h = h
spells_at f p (b ∷ bs) e (suc i) l =
    let q : p + suc i ≡ p + 1 + i = omega arith in
    ap (λ (n : ℕ). get_or f n 0) q ∙ spells_at f (p + 1) bs (second (eqb (get_or f p 0) b) (spells f (p + 1) bs) e) i (omega arith)
  where
    second : (x y : Bool) → both x y ≡ true → y ≡ true
    second true y h = h
    second false y h = let z : ◌≡◌ {A = ℕ} 0 1 = cc in absurd (omega arith)

spells-all : (f : List ℕ) (p : ℕ) (bs : List ℕ) → ((i : ℕ) → i < length bs → get_or f (p + i) 0 ≡ get_or bs i 0) → spells f p bs ≡ true
unfolding spells
spells-all f p [] h = refl
spells-all f p (b ∷ bs) h =
    let q : p + 0 ≡ p = omega arith in
    simp (eq-eqb _ _ (ap (λ (n : ℕ). get_or f n 0) (sym q) ∙ h 0 (omega arith)))
    (spells-all f (p + 1) bs (λ i l. let r : p + 1 + i ≡ p + suc i = omega arith in ap (λ (n : ℕ). get_or f n 0) r ∙ h (suc i) (omega arith)))

-- ---- the trailer, by its places from the file's end
abbrev from_end : FileForm → List ℕ → Trailer
from_end F f = record {
  count = count_in F f;
  shift = little_at 1 f (length f - 26);
  minimum_index = little_at 4 f (length f - 24);
  maximum_index = little_at 4 f (length f - 20);
  stream_length = little_at 4 f (length f - 16);
  header_size = little_at 4 f (length f - 12);
  distance = little_at 4 f (length f - 8);
}

-- the same place from either side, behind a count of w bytes
from_either : (n w a b : ℕ) → w + 26 ≤ n → a + b ≡ 26 → n - (w + 26) + w + a ≡ n - b
from_either n w a b l e = omega arith

from_end_lem : (F : FileForm) (f : List ℕ) → trailer_size F ≤ length f → trailer_at F f (length f - trailer_size F) ≡ from_end F f
unfolding trailer_at
from_end_lem F f l =
    let first : length f - (F.width + 26) + F.width ≡ length f - 26 = omega arith in
    rw (
      from_either (length f) F.width 2 24 l refl,
      from_either (length f) F.width 6 20 l refl,
      from_either (length f) F.width 10 16 l refl,
      from_either (length f) F.width 14 12 l refl,
      from_either (length f) F.width 18 8 l refl,
      first,
    )

right-answered : (F : FileForm) (f : List ℕ) → Right F f → trailer_by F f ≡ answered (from_end F f)
right-answered F f r =
    let z : length f - trailer_size F + F.width + 1 ≡ length f - 25 = from_either (length f) F.width 1 25 r.long refl in
    sym (trailer-by F f (length f - trailer_size F) (from_end F f) (answered (from_end F f)) (omega (arith, r.long)) (spells-all f (length f - 4) F.letters r.spelt) (sym (from_end_lem F f r.long))
    (checked-right F f (length f - trailer_size F) (from_end F f) (length f - 25) (sym z) r.zero_byte r.shift r.distance r.whole r.many))

fields-are : (F : FileForm) (f : List ℕ) (k : Trailer) → trailer_by F f ≡ answered k → k ≡ from_end F f
fields-are F f k e = let x = trailed F f k e in x.fields ∙ from_end_lem F f x.long

answered-right : (F : FileForm) (f : List ℕ) (k : Trailer) → trailer_by F f ≡ answered k → Right F f
answered-right F f k e =
    let x = trailed F f k e in
    let q : k ≡ from_end F f = fields-are F f k e in
    let z : length f - trailer_size F + F.width + 1 ≡ length f - 25 = from_either (length f) F.width 1 25 x.long refl in
    record {
      long = x.long;
      spelt = spells_at f (length f - 4) F.letters x.ends_in;
      zero_byte = ap (little_at 1 f) (sym z) ∙ x.zero_byte;
      shift = subst (λ (y : Trailer). y.shift ≤ 6) q x.shift;
      distance = subst (λ (y : Trailer). y.distance ≡ length f) q x.distance;
      whole = subst (λ (y : Trailer). length f ≡ 4 * y.count + trailer_size F) q x.whole;
      many = subst (λ (y : Trailer). F.least ≤ y.count) q x.many;
    }

-- answered, or 20
abbrev Two : Type 0 → Answer Trailer → Type 0
Two P a = ((k : Trailer) → a ≡ answered k → P) → (a ≡ refused 20 [] → P) → P

two-stop : {P : Type 0} (b : Bool) (x : Answer Trailer) → Two P x → Two P (stop b 20 x)
two-stop true x w f g = g refl
two-stop false x w f g = w f g

by-20 : {P : Type 0} (F : FileForm) (f : List ℕ) → Two P (trailer_by F f)
unfolding trailer_by checked
by-20 F f =
    two-stop (ltb (length f) (trailer_size F)) _
    (two-stop (not (spells f (length f - 4) F.letters)) _
    (two-stop (not (eqb (little_at 1 f (length f - trailer_size F + F.width + 1)) 0)) _
    (two-stop (ltb 6 (trailer_at F f (length f - trailer_size F)).shift) _
    (two-stop (not (eqb (trailer_at F f (length f - trailer_size F)).distance (length f))) _
    (two-stop (not (eqb (length f) (4 * (trailer_at F f (length f - trailer_size F)).count + trailer_size F))) _
    (two-stop (ltb (trailer_at F f (length f - trailer_size F)).count F.least) _
    (λ g n. g _ refl)))))))

never-right : {P : Type 0} (F : FileForm) (f : List ℕ) (n : ℕ) → by n (trailer_by F f) ≡ true → Right F f → P
never-right F f n y r = off (sym (ap (by n) (right-answered F f r)) ∙ y)

trailers-20 : (F : FileForm) (f : List ℕ) → Given 20 [] (trailer_by F f) (Right F f → ⊥)
trailers-20 F f = record {
  when = λ h. by-20 F f (λ k e. absurd (h (answered-right F f k e))) (λ e. e);
  only = never-right F f 20;
}

-- ---- loading
lacks-none : (n m M : ℕ) → both (eqb n 0) (ltb m M) ≡ true → (m < M → 0 < n) → ⊥
lacks-none n m M e h = go (eqb n 0) refl e
  where
    go : (b : Bool) → eqb n 0 ≡ b → both b (ltb m M) ≡ true → ⊥
    go true q r = let z : n ≡ 0 = eqb-true _ _ q in let w : 0 < n = h (ltb-true _ _ r) in omega arith
    go false q r = off r

has_some : (n m M : ℕ) → both (eqb n 0) (ltb m M) ≡ false → m < M → 0 < n
has_some n m M e l = go (eqb n 0) refl e
  where
    go : (b : Bool) → eqb n 0 ≡ b → both b (ltb m M) ≡ false → 0 < n
    go true q r = off (sym r ∙ lt-ltb m M l)
    go false q r = let z : (n ≡ 0 → ⊥) = eqb-false _ _ q in omega arith

lacks-not : (n m M : ℕ) → (m < M → 0 < n) → both (eqb n 0) (ltb m M) ≡ false
lacks-not n m M h = go (both (eqb n 0) (ltb m M)) refl
  where
    go : (b : Bool) → both (eqb n 0) (ltb m M) ≡ b → b ≡ false
    go true e = absurd (lacks-none n m M e h)
    go false e = refl

module _ (F : FileForm) (s f t : List ℕ) where
  loads-own : (n : ℕ) (d : List ℕ) → header_of s ≡ refused n d → load_by F s f t ≡ refused n d
  loads-own n d e = load-header F s f t (refused n d) e

  module _ (h : Header) (a : header_of s ≡ answered h) where
    abbrev k : Trailer
    k = from_end F f

    abbrev lacks : Bool
    lacks = both (eqb (count_in F f) 0) (ltb h.minimum_index h.maximum_index)

    is-for : Right F f → load_by F s f t ≡ load_for s f t h k
    is-for r = load-trailer F s f t h (answered k) a (right-answered F f r)

    ours : RightFor F f h → MadeFor s f h → Ours s f t h k
    ours r m = record { some = lacks-not (count_in F f) h.minimum_index h.maximum_index r.some; minimum = m.minimum; maximum = m.maximum; bytes_are = m.bytes_are; start = m.start }

    right-for : Right F f → lacks ≡ false → RightFor F f h
    right-for r e = record { right = r; some = has_some (count_in F f) h.minimum_index h.maximum_index e }

    ways : (P : Type 0) (n : ℕ) → (by n (trailer_by F f) ≡ true → P)
        → (Right F f → lacks ≡ true → eqb 20 n ≡ true → P)
        → (RightFor F f h → (MadeFor s f h → ⊥) → eqb 21 n ≡ true → P)
        → (RightFor F f h → MadeFor s f h → length t < count_in F f → eqb 13 n ≡ true → P)
        → (RightFor F f h → MadeFor s f h → count_in F f ≤ length t → on_chain s (2 ^ k.shift) h.header_size (words_at (count_in F f) f 0) ≡ false → eqb 22 n ≡ true → P)
        → by n (load_by F s f t) ≡ true → P
    unfolding load_for
    ways P n own w20 w21 w13 w22 y =
        at-then n (trailer_by F f) (load_for s f t h) own
        (λ v e g. later (answered-right F f v e) (subst (λ (x : Trailer). by n (load_for s f t h x) ≡ true) (fields-are F f v e) g))
        (sym (ap (by n) (load-header F s f t (answered h) a)) ∙ y)
      where
        later : Right F f → by n (load_for s f t h k) ≡ true → P
        later r =
            at-stop n lacks 20 _ (w20 r) (λ e₀.
            at-stop n (not (eqb k.minimum_index h.minimum_index)) 21 _ (λ e. w21 (right-for r e₀) (λ m. eqb-false _ _ (not-true _ e) m.minimum)) (λ e₁.
            at-stop n (not (eqb k.maximum_index h.maximum_index)) 21 _ (λ e. w21 (right-for r e₀) (λ m. eqb-false _ _ (not-true _ e) m.maximum)) (λ e₂.
            at-stop n (not (eqb k.stream_length (length s))) 21 _ (λ e. w21 (right-for r e₀) (λ m. eqb-false _ _ (not-true _ e) m.bytes_are)) (λ e₃.
            at-stop n (not (eqb k.header_size h.header_size)) 21 _ (λ e. w21 (right-for r e₀) (λ m. eqb-false _ _ (not-true _ e) m.start)) (λ e₄.
            let m : MadeFor s f h = record { minimum = eqb-true _ _ (not-false _ e₁); maximum = eqb-true _ _ (not-false _ e₂); bytes_are = eqb-true _ _ (not-false _ e₃); start = eqb-true _ _ (not-false _ e₄) } in
            at-stop n (ltb (length t) (count_in F f)) 13 _ (λ e. w13 (right-for r e₀) m (ltb-true _ _ e)) (λ e₅.
            at-stop n (not (on_chain s (2 ^ k.shift) h.header_size (words_at (count_in F f) f 0))) 22 _ (λ e. w22 (right-for r e₀) m (ltb-false _ _ e₅) (not-true _ e)) (λ _. off)))))))

    loads-20 : Given 20 [] (load_by F s f t) (RightFor F f h → ⊥)
    loads-20 = record {
      when = λ w. by-20 F f (λ v e. go w (answered-right F f v e) lacks refl) (λ e. load-trailer F s f t h (refused 20 []) a e);
      only = ways (RightFor F f h → ⊥) 20 (λ y w. never-right F f 20 y w.right)
          (λ r e _ w. lacks-none (count_in F f) h.minimum_index h.maximum_index e w.some)
          (λ _ _. off) (λ _ _ _. off) (λ _ _ _ _. off);
    }
      where
        go : (RightFor F f h → ⊥) → Right F f → (b : Bool) → lacks ≡ b → load_by F s f t ≡ refused 20 []
        go w r true e = is-for r ∙ load-lacks s f t h k e
        go w r false e = absurd (w (right-for r e))

    not_made : RightFor F f h → (MadeFor s f h → ⊥) → load_for s f t h k ≡ refused 21 []
    not_made r w = go₁ (eqb k.minimum_index h.minimum_index) refl
      where
        e₀ : lacks ≡ false
        e₀ = lacks-not (count_in F f) h.minimum_index h.maximum_index r.some

        go₄ : k.minimum_index ≡ h.minimum_index → k.maximum_index ≡ h.maximum_index → k.stream_length ≡ length s → (b : Bool) → eqb k.header_size h.header_size ≡ b → load_for s f t h k ≡ refused 21 []
        go₄ x y z true e = absurd (w (record { minimum = x; maximum = y; bytes_are = z; start = eqb-true _ _ e }))
        go₄ x y z false e = load-start s f t h k e₀ x y z (eqb-false _ _ e)

        go₃ : k.minimum_index ≡ h.minimum_index → k.maximum_index ≡ h.maximum_index → (b : Bool) → eqb k.stream_length (length s) ≡ b → load_for s f t h k ≡ refused 21 []
        go₃ x y true e = go₄ x y (eqb-true _ _ e) (eqb k.header_size h.header_size) refl
        go₃ x y false e = load-bytes s f t h k e₀ x y (eqb-false _ _ e)

        go₂ : k.minimum_index ≡ h.minimum_index → (b : Bool) → eqb k.maximum_index h.maximum_index ≡ b → load_for s f t h k ≡ refused 21 []
        go₂ x true e = go₃ x (eqb-true _ _ e) (eqb k.stream_length (length s)) refl
        go₂ x false e = load-maximum s f t h k e₀ x (eqb-false _ _ e)

        go₁ : (b : Bool) → eqb k.minimum_index h.minimum_index ≡ b → load_for s f t h k ≡ refused 21 []
        go₁ true e = go₂ (eqb-true _ _ e) (eqb k.maximum_index h.maximum_index) refl
        go₁ false e = load-minimum s f t h k e₀ (eqb-false _ _ e)

    loads-21 : Given 21 [] (load_by F s f t) (RightFor F f h × (MadeFor s f h → ⊥))
    unfolding among
    loads-21 = record {
      when = λ (r, w). is-for r.right ∙ not_made r w;
      only = ways _ 21 (denied 21 refl (trailer-refuses F f)) (λ _ _. off) (λ r w _. (r, w)) (λ _ _ _. off) (λ _ _ _ _. off);
    }

    loads-13 : Given 13 [] (load_by F s f t) (RightFor F f h × MadeFor s f h × (length t < count_in F f))
    unfolding among
    loads-13 = record {
      when = λ (r, m, l). is-for r.right ∙ load_full s f t h k (ours r m) l;
      only = ways _ 13 (denied 13 refl (trailer-refuses F f)) (λ _ _. off) (λ _ _. off) (λ r m l _. (r, m, l)) (λ _ _ _ _. off);
    }

    -- the places in the file's own words
    place : (i : ℕ) → i < count_in F f → get_or (words_at (count_in F f) f 0) i 0 ≡ little_at 4 f (4 * i)
    place i l = let e : 0 + 4 * i ≡ 4 * i = omega arith in words-get (count_in F f) f 0 i l ∙ ap (little_at 4 f) e

    many : length (words_at (count_in F f) f 0) ≡ count_in F f
    many = length-words (count_in F f) f 0

    onward : Chained s (2 ^ k.shift) h.header_size (words_at (count_in F f) f 0) → Onward F s f h
    onward c = record {
      first = λ l. sym (place 0 l) ∙ c.first (omega (arith, many));
      later = λ i l.
          ap (λ (p : ℕ). chain s p (2 ^ k.shift)) (sym (place i (omega arith))) ∙ c.later i (omega (arith, many)) ∙ ap reached (place (suc i) l);
    }

    chained-on : Onward F s f h → Chained s (2 ^ k.shift) h.header_size (words_at (count_in F f) f 0)
    chained-on o = record {
      first = λ l. place 0 (omega (arith, many)) ∙ o.first (omega (arith, many));
      later = λ i l.
          ap (λ (p : ℕ). chain s p (2 ^ k.shift)) (place i (omega (arith, many))) ∙ o.later i (omega (arith, many)) ∙ ap reached (sym (place (suc i) (omega (arith, many))));
    }

    off-chain : (Onward F s f h → ⊥) → on_chain s (2 ^ k.shift) h.header_size (words_at (count_in F f) f 0) ≡ false
    off-chain w = go (on_chain s (2 ^ k.shift) h.header_size (words_at (count_in F f) f 0)) refl
      where
        go : (b : Bool) → on_chain s (2 ^ k.shift) h.header_size (words_at (count_in F f) f 0) ≡ b → b ≡ false
        go true e = absurd (w (onward (chained s (2 ^ k.shift) h.header_size (words_at (count_in F f) f 0) e)))
        go false e = refl

    loads-22 : Given 22 [] (load_by F s f t) (RightFor F f h × MadeFor s f h × (count_in F f ≤ length t) × (Onward F s f h → ⊥))
    unfolding among
    loads-22 = record {
      when = λ (r, m, l, w). is-for r.right ∙ load-off s f t h k (ours r m) l (off-chain w);
      only = ways _ 22 (denied 22 refl (trailer-refuses F f)) (λ _ _. off) (λ _ _. off) (λ _ _ _. off)
          (λ r m l e _. (r, m, l, λ o. off (sym e ∙ unchained s (2 ^ k.shift) h.header_size (words_at (count_in F f) f 0) (chained-on o))));
    }

    loads-else : Refuses (20 ∷ 21 ∷ 13 ∷ 22 ∷ []) (load_by F s f t)
    loads-else = rw (load-header F s f t (answered h) a) (loading-refuses F s f t h)

    loads : RightFor F f h → MadeFor s f h → count_in F f ≤ length t → Onward F s f h
        → load_by F s f t ≡ answered (state (holding h (little_at 1 f (length f - 26)) (count_in F f)) (put t 0 (words_at (count_in F f) f 0)))
    loads r m l o = is-for r.right ∙ load-done s f t h k (ours r m) l (unchained s (2 ^ k.shift) h.header_size (words_at (count_in F f) f 0) (chained-on o))

-- ---- saving
module _ (F : FileForm) (s : List ℕ) (σ : State) (room : ℕ) where
  saves-own : (n : ℕ) (d : List ℕ) → header_of s ≡ refused n d → save_by F s σ room ≡ refused n d
  saves-own n d e = save-header F s σ room (refused n d) e

  module _ (h : Header) (a : header_of s ≡ answered h) where
    is-saved : save_by F s σ room ≡ save_for F (length s) σ room h
    is-saved = save-header F s σ room (answered h) a

    bounds : Bounded σ h → Bounds F (length s) σ room h
    bounds b = record { minimum = b.minimum; maximum = b.maximum }

    save-ways : {P : Type 0} (n : ℕ)
        → ((Bounded σ h → ⊥) → eqb 21 n ≡ true → P)
        → (Bounded σ h → 6 < σ.finder.shift → eqb 26 n ≡ true → P)
        → (Bounded σ h → σ.finder.shift ≤ 6 → (length σ.table < σ.finder.held) ⊎ (F.most < σ.finder.held) → eqb 13 n ≡ true → P)
        → (Bounded σ h → σ.finder.shift ≤ 6 → σ.finder.held ≤ length σ.table → σ.finder.held ≤ F.most → room < 4 * σ.finder.held + trailer_size F → eqb 19 n ≡ true → P)
        → by n (save_by F s σ room) ≡ true → P
    unfolding save_for
    save-ways n w21 w26 w13 w19 y =
        at-stop n (not (eqb σ.finder.minimum_index h.minimum_index)) 21 _ (λ e. w21 (λ b. eqb-false _ _ (not-true _ e) b.minimum)) (λ e₁.
        at-stop n (not (eqb σ.finder.maximum_index h.maximum_index)) 21 _ (λ e. w21 (λ b. eqb-false _ _ (not-true _ e) b.maximum)) (λ e₂.
        let b : Bounded σ h = record { minimum = eqb-true _ _ (not-false _ e₁); maximum = eqb-true _ _ (not-false _ e₂) } in
        at-stop n (ltb 6 σ.finder.shift) 26 _ (λ e. w26 b (ltb-true _ _ e)) (λ e₃.
        at-stop n (ltb (length σ.table) σ.finder.held) 13 _ (λ e. w13 b (ltb-false _ _ e₃) (inl (ltb-true _ _ e))) (λ e₄.
        at-stop n (ltb F.most σ.finder.held) 13 _ (λ e. w13 b (ltb-false _ _ e₃) (inr (ltb-true _ _ e))) (λ e₅.
        at-stop n (ltb room (4 * σ.finder.held + trailer_size F)) 19 _ (λ e. w19 b (ltb-false _ _ e₃) (ltb-false _ _ e₄) (ltb-false _ _ e₅) (ltb-true _ _ e)) (λ _. off))))))
        (sym (ap (by n) is-saved) ∙ y)

    saves-21 : Given 21 [] (save_by F s σ room) (Bounded σ h → ⊥)
    saves-21 = record {
      when = λ w. is-saved ∙ go w (eqb σ.finder.minimum_index h.minimum_index) refl (eqb σ.finder.maximum_index h.maximum_index) refl;
      only = save-ways 21 (λ w _. w) (λ _ _. off) (λ _ _ _. off) (λ _ _ _ _ _. off);
    }
      where
        go : (Bounded σ h → ⊥) → (x : Bool) → eqb σ.finder.minimum_index h.minimum_index ≡ x → (y : Bool) → eqb σ.finder.maximum_index h.maximum_index ≡ y → save_for F (length s) σ room h ≡ refused 21 []
        go w false e y q = save-minimum F (length s) σ room h (eqb-false _ _ e)
        go w true e false q = save-maximum F (length s) σ room h (eqb-true _ _ e) (eqb-false _ _ q)
        go w true e true q = absurd (w (record { minimum = eqb-true _ _ e; maximum = eqb-true _ _ q }))

    saves-26 : Given 26 [] (save_by F s σ room) (Bounded σ h × (6 < σ.finder.shift))
    saves-26 = record {
      when = λ (b, l). is-saved ∙ save-shift F (length s) σ room h (bounds b) l;
      only = save-ways 26 (λ _. off) (λ b l _. (b, l)) (λ _ _ _. off) (λ _ _ _ _ _. off);
    }

    saves-13 : Given 13 [] (save_by F s σ room) (Bounded σ h × (σ.finder.shift ≤ 6) × ((length σ.table < σ.finder.held) ⊎ (F.most < σ.finder.held)))
    saves-13 = record {
      when = λ (b, l, w). is-saved ∙ go b l w (ltb (length σ.table) σ.finder.held) refl;
      only = save-ways 13 (λ _. off) (λ _ _. off) (λ b l w _. (b, l, w)) (λ _ _ _ _ _. off);
    }
      where
        many : (length σ.table < σ.finder.held) ⊎ (F.most < σ.finder.held) → σ.finder.held ≤ length σ.table → F.most < σ.finder.held
        many (inl x) l = absurd (omega arith)
        many (inr x) l = x

        go : Bounded σ h → σ.finder.shift ≤ 6 → (length σ.table < σ.finder.held) ⊎ (F.most < σ.finder.held) → (x : Bool) → ltb (length σ.table) σ.finder.held ≡ x → save_for F (length s) σ room h ≡ refused 13 []
        go b l w true e = save-claims F (length s) σ room h (bounds b) l (ltb-true _ _ e)
        go b l w false e = save-many F (length s) σ room h (bounds b) l (ltb-false _ _ e) (many w (ltb-false _ _ e))

    saves-19 : Given 19 [] (save_by F s σ room)
        (Bounded σ h × (σ.finder.shift ≤ 6) × (σ.finder.held ≤ length σ.table) × (σ.finder.held ≤ F.most) × (room < 4 * σ.finder.held + trailer_size F))
    saves-19 = record {
      when = λ (b, l, m, n, r). is-saved ∙ save-room F (length s) σ room h (bounds b) l m n r;
      only = save-ways 19 (λ _. off) (λ _ _. off) (λ _ _ _. off) (λ b l m n r _. (b, l, m, n, r));
    }

    saves-else : Refuses (21 ∷ 26 ∷ 13 ∷ 19 ∷ []) (save_by F s σ room)
    saves-else = rw is-saved (save-for-refuses F (length s) σ room h)

    saves : Bounded σ h → σ.finder.shift ≤ 6 → σ.finder.held ≤ length σ.table → σ.finder.held ≤ F.most → 4 * σ.finder.held + trailer_size F ≤ room
        → save_by F s σ room ≡ answered (file_of F h (length s) σ)
    saves b l m n r = is-saved ∙ save-done F (length s) σ room h (bounds b) l m n r

-- by the header's numbers as the header
abbrev of_header : List ℕ
of_header = 16 ∷ 1 ∷ 2 ∷ 3 ∷ 4 ∷ 5 ∷ []

loads-as : (F : FileForm) (s f t : List ℕ) → RefusedAs of_header (load_by F s f t) (header_of s)
unfolding apart among
loads-as F s f t = as_first of_header (20 ∷ 21 ∷ 13 ∷ 22 ∷ []) (load_by F s f t) (header_of s) refl (loads-own F s f t) (loads-else F s f t)

saves-as : (F : FileForm) (s : List ℕ) (σ : State) (room : ℕ) → RefusedAs of_header (save_by F s σ room) (header_of s)
unfolding apart among
saves-as F s σ room = as_first of_header (21 ∷ 26 ∷ 13 ∷ 19 ∷ []) (save_by F s σ room) (header_of s) refl (saves-own F s σ room) (saves-else F s σ room)

pub places-when : (form : FileForm) → PlacesWhen form
places-when F = record {
  loads_own = loads-as F;
  saves_own = saves-as F;
  trailers_20 = trailers-20 F;
  loads_20 = loads-20 F;
  loads_21 = loads-21 F;
  saves_21 = saves-21 F;
  loads_13 = loads-13 F;
  saves_13 = saves-13 F;
  loads_22 = loads-22 F;
  saves_26 = saves-26 F;
  saves_19 = saves-19 F;
  loads_else = loads-else F;
  saves_else = saves-else F;
  loads = loads F;
  saves = saves F;
}
