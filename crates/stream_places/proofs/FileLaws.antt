-- Laws of a places file: its numbers and its letters, a turn of each loop over them; and each outcome of its trailer. Assumes nothing.
use Prim.Native.Nat.{ℕ, zero, suc, ◌+◌, ◌-◌, ◌*◌, ◌≤◌, ◌<◌}
use native.Mathlib.Omega.{arith}
use native.Mathlib.Nat.{min-eq_left}
use native.Mathlib.Numerals.{add-one}
use mathlib.Core.Path.{◌≡◌, refl, sym, ap, subst, ◌∙◌}
use mathlib.Core.Bool.{Bool, true, false, not}
use mathlib.Core.List.{List, [], ◌∷◌, ◌++◌}
use lib.ListN.{length, get_or, set, take, drop, get_or-eq_default, length-append, length-take, drop_of_length-le}
use lib.Seq.{drop-cons, get_or-take}
use lib.Dec.{ltb, eqb}
use borrow.Author.Tests.{lt-ltb, le-ltb, eq-eqb, ne_eqb, ltb-false, eqb-true, not-false}
use Rattle.answer.specs.Answer.{Answer, answered, refused, pick, both}
use Rattle.field.specs.Fields.{little_at}
use Rattle.field_put.specs.Bytes.{bytes, put, Room, Puts}
use Rattle.field_put.proofs.PutLaws.{length-bytes, put-none, put-put}
use Rattle.stream_item.proofs.NextLaws.{passed}
use Rattle.stream_places.specs.File.{FileForm, narrow, wide, file_form_in, trailer_size, word_bytes, trailer_bytes, words_at, trailer_at, spells, checked, trailer_by, file_form_of, trailer_of_either}
use Rattle.stream_places.specs.declared.Width.{Width}
use Rattle.stream_places.specs.declared.Width.TheVariants as width
use Rattle.stream_places.specs.declared.trailer.Trailer.{Trailer}

-- ---- numbers of four bytes
pub words-cons : (n : ℕ) (f : List ℕ) (i : ℕ) → i < n → words_at (n - i) f (4 * i) ≡ little_at 4 f (4 * i) ∷ words_at (n - (i + 1)) f (4 * (i + 1))
unfolding words_at
words-cons n f i l =
    let e : n - i ≡ suc (n - (i + 1)) = omega arith in
    let p : 4 * i + 4 ≡ 4 * (i + 1) = omega arith in
    rw (e, p)

pub words-none : (n : ℕ) (f : List ℕ) (i p : ℕ) → n ≤ i → words_at (n - i) f p ≡ []
unfolding words_at
words-none n f i p l = let e : n - i ≡ 0 = omega arith in rw e

pub words-all : (n : ℕ) (f : List ℕ) → words_at n f 0 ≡ words_at (n - 0) f (4 * 0)
words-all n f = let e : n - 0 ≡ n = omega arith in ap (λ (m : ℕ). words_at m f 0) (sym e)

pub length-words : (n : ℕ) (f : List ℕ) (p : ℕ) → length (words_at n f p) ≡ n
unfolding words_at
length-words zero f p = refl
length-words (suc n) f p = ap suc (length-words n f (p + 4))

-- a table that is filled with them, one more each turn
pub fill-turn : (t : List ℕ) (n : ℕ) (f : List ℕ) (i : ℕ) → i < n
    → put t i (words_at (n - i) f (4 * i)) ≡ put (set t i (little_at 4 f (4 * i))) (i + 1) (words_at (n - (i + 1)) f (4 * (i + 1)))
unfolding put
fill-turn t n f i l = ap (put t i) (words-cons n f i l)

pub fill_end : (t₀ t : List ℕ) (n : ℕ) (f : List ℕ) (i : ℕ) → put t₀ 0 (words_at n f 0) ≡ put t i (words_at (n - i) f (4 * i)) → n ≤ i → t ≡ put t₀ 0 (words_at n f 0)
fill_end t₀ t n f i e l = sym (e ∙ ap (put t i) (words-none n f i (4 * i) l) ∙ put-none t i)

pub length-word-bytes : (xs : List ℕ) → length (word_bytes xs) ≡ 4 * length xs
unfolding word_bytes
length-word-bytes [] = refl
length-word-bytes (x ∷ xs) = length-append (bytes 4 x) (word_bytes xs) ∙ omega (arith, length-bytes 4 x, length-word-bytes xs)

-- room for n of them
pub words-room : (s : List ℕ) (p n : ℕ) (t : List ℕ) → n ≤ length t → Room s p (word_bytes (take n t)) → p + 4 * n ≤ length s
words-room s p n t l r =
    let e : length (take n t) ≡ n = length-take n t ∙ min-eq_left l in
    omega (arith, r.room, length-word-bytes (take n t))

pub room-words : (s : List ℕ) (p n : ℕ) (t : List ℕ) → n ≤ length t → p + 4 * n ≤ length s → Room s p (word_bytes (take n t))
room-words s p n t l r =
    let e : length (take n t) ≡ n = length-take n t ∙ min-eq_left l in
    record { room = omega (arith, length-word-bytes (take n t)) }

-- a turn of the loop that writes them
pub write-turn : (s s' : List ℕ) (p r : ℕ) (t : List ℕ) (n i : ℕ) → n ≤ length t → i < n → Puts s p (bytes 4 (get_or t i 0)) r s'
    → put s p (word_bytes (drop i (take n t))) ≡ put s' r (word_bytes (drop (i + 1) (take n t)))
unfolding word_bytes
write-turn s s' p r t n i l h w =
    let e : length (take n t) ≡ n = length-take n t ∙ min-eq_left l in
    ap (λ (xs : List ℕ). put s p (word_bytes xs)) (drop-cons (take n t) i 0 (omega arith))
    ∙ ap (λ (x : ℕ). put s p (bytes 4 x ++ word_bytes (drop (suc i) (take n t)))) (get_or-take n t i 0 h)
    ∙ sym (put-put s p (bytes 4 (get_or t i 0)) (word_bytes (drop (suc i) (take n t))))
    ∙ ap (λ (xs : List ℕ). put xs (p + length (bytes 4 (get_or t i 0))) (word_bytes (drop (suc i) (take n t)))) (sym w.left)
    ∙ ap (λ (q : ℕ). put s' q (word_bytes (drop (suc i) (take n t)))) (sym w.next)
    ∙ ap (λ (m : ℕ). put s' r (word_bytes (drop m (take n t)))) (sym (add-one i))

pub write-end : (s₀ s : List ℕ) (p r : ℕ) (t : List ℕ) (n i : ℕ) → n ≤ length t → n ≤ i → r ≡ p + 4 * n
    → put s₀ p (word_bytes (take n t)) ≡ put s r (word_bytes (drop i (take n t))) → Puts s₀ p (word_bytes (take n t)) r s
unfolding word_bytes
write-end s₀ s p r t n i l h e f =
    let g : length (take n t) ≡ n = length-take n t ∙ min-eq_left l in
    record {
      next = omega (arith, length-word-bytes (take n t));
      left = sym (f ∙ ap (λ (xs : List ℕ). put s r (word_bytes xs)) (drop_of_length-le (take n t) {i = i} (omega arith)) ∙ put-none s r);
    }

pub four-letters : (w : Width) → length (file_form_in w).letters ≡ 4
four-letters width.Narrow = refl
four-letters width.Wide = refl

-- behind the count stand 26 bytes, if there are four letters
pub length-trailer : (F : FileForm) (k : Trailer) → length F.letters ≡ 4 → length (trailer_bytes F k) ≡ trailer_size F
unfolding trailer_bytes
length-trailer F k l =
    let ws : List ℕ = k.minimum_index ∷ k.maximum_index ∷ k.stream_length ∷ k.header_size ∷ k.distance ∷ [] in
    length-append (bytes F.width k.count) (bytes 1 k.shift ++ (bytes 1 0 ++ (word_bytes ws ++ F.letters)))
    ∙ omega (arith, length-bytes F.width k.count, length-append (bytes 1 k.shift) (bytes 1 0 ++ (word_bytes ws ++ F.letters)), length-bytes 1 k.shift, length-append (bytes 1 0) (word_bytes ws ++ F.letters), length-bytes 1 0, length-append (word_bytes ws) F.letters, length-word-bytes ws, l)

-- ---- letters
module _ (f : List ℕ) (p : ℕ) (text : List ℕ) (i : ℕ) (l : i < length text) where
  spells-cons : spells f (p + i) (drop i text) ≡ both (eqb (get_or f (p + i) 0) (get_or text i 0)) (spells f (p + (i + 1)) (drop (i + 1) text))
  unfolding spells
  spells-cons =
      let e : p + i + 1 ≡ p + (i + 1) = omega arith in
      ap (spells f (p + i)) (drop-cons text i 0 l)
      ∙ ap (λ (n : ℕ). both (eqb (get_or f (p + i) 0) (get_or text i 0)) (spells f n (drop (suc i) text))) e
      ∙ ap (λ (n : ℕ). both (eqb (get_or f (p + i) 0) (get_or text i 0)) (spells f (p + (i + 1)) (drop n text))) (sym (add-one i))

  pub spells-turn : get_or f (p + i) 0 ≡ get_or text i 0 → spells f (p + i) (drop i text) ≡ spells f (p + (i + 1)) (drop (i + 1) text)
  spells-turn e = spells-cons ∙ simp (eq-eqb _ _ e)

  pub spells-miss : (get_or f (p + i) 0 ≡ get_or text i 0 → ⊥) → spells f (p + i) (drop i text) ≡ false
  spells-miss e = spells-cons ∙ simp (ne_eqb _ _ e)

pub spells-end : (f : List ℕ) (p : ℕ) (text : List ℕ) (i : ℕ) → length text ≤ i → spells f (p + i) (drop i text) ≡ true
unfolding spells
spells-end f p text i l = rw (drop_of_length-le text l)

pub spells-start : (f : List ℕ) (p : ℕ) (text : List ℕ) → spells f p text ≡ spells f (p + 0) (drop 0 text)
spells-start f p text = let e : p + 0 ≡ p = omega arith in ap (λ (n : ℕ). spells f n text) (sym e)

-- a file of fewer than four bytes ends in no letters
both-none : (b : Bool) → both b false ≡ false
both-none true = refl
both-none false = refl

pub spells-short : (f : List ℕ) → length f < 4 → spells f (length f - 4) wide.letters ≡ false
unfolding spells
spells-short f l =
    let p : length f - 4 + 1 + 1 + 1 ≡ 3 = omega arith in
    let g : get_or f (length f - 4 + 1 + 1 + 1) 0 ≡ 0 = ap (λ (n : ℕ). get_or f n 0) p ∙ get_or-eq_default f 0 {n = 3} (omega arith) in
    let e : eqb (get_or f (length f - 4 + 1 + 1 + 1) 0) 0x59 ≡ false = ap (λ (n : ℕ). eqb n 0x59) g in
    simp (e, both-none (eqb (get_or f (length f - 4 + 1 + 1) 0) 0x49), both-none (eqb (get_or f (length f - 4 + 1) 0) 0x54), both-none (eqb (get_or f (length f - 4) 0) 0x50))

-- one file does not end in the letters of both forms
both-parts : (b : Bool) (c : Bool) → both b c ≡ true → (b ≡ true) × (c ≡ true)
both-parts true c e = (refl, e)
both-parts false c e = let z : ◌≡◌ {A = ℕ} 0 1 = cc in absurd (omega arith)

pub one_tag : (f : List ℕ) (p : ℕ) → spells f p narrow.letters ≡ true → spells f p wide.letters ≡ false
unfolding spells
one_tag f p e =
    let a = both-parts (eqb (get_or f p 0) 0x50) (spells f (p + 1) (0x54 ∷ 0x49 ∷ 0x58 ∷ [])) e in
    let b = both-parts (eqb (get_or f (p + 1) 0) 0x54) (spells f (p + 1 + 1) (0x49 ∷ 0x58 ∷ [])) a.1 in
    let c = both-parts (eqb (get_or f (p + 1 + 1) 0) 0x49) (spells f (p + 1 + 1 + 1) (0x58 ∷ [])) b.1 in
    let d = both-parts (eqb (get_or f (p + 1 + 1 + 1) 0) 0x58) true c.1 in
    let g : get_or f (p + 1 + 1 + 1) 0 ≡ 0x58 = eqb-true _ _ d.0 in
    let h : eqb (get_or f (p + 1 + 1 + 1) 0) 0x59 ≡ false = ap (λ (n : ℕ). eqb n 0x59) g in
    simp (h, both-none (eqb (get_or f (p + 1 + 1) 0) 0x49), both-none (eqb (get_or f (p + 1) 0) 0x54), both-none (eqb (get_or f p 0) 0x50))

pub other_tag : (f : List ℕ) (p : ℕ) → spells f p wide.letters ≡ true → spells f p narrow.letters ≡ false
unfolding spells
other_tag f p e =
    let a = both-parts (eqb (get_or f p 0) 0x50) (spells f (p + 1) (0x54 ∷ 0x49 ∷ 0x59 ∷ [])) e in
    let b = both-parts (eqb (get_or f (p + 1) 0) 0x54) (spells f (p + 1 + 1) (0x49 ∷ 0x59 ∷ [])) a.1 in
    let c = both-parts (eqb (get_or f (p + 1 + 1) 0) 0x49) (spells f (p + 1 + 1 + 1) (0x59 ∷ [])) b.1 in
    let d = both-parts (eqb (get_or f (p + 1 + 1 + 1) 0) 0x59) true c.1 in
    let g : get_or f (p + 1 + 1 + 1) 0 ≡ 0x59 = eqb-true _ _ d.0 in
    let h : eqb (get_or f (p + 1 + 1 + 1) 0) 0x58 ≡ false = ap (λ (n : ℕ). eqb n 0x58) g in
    simp (h, both-none (eqb (get_or f (p + 1 + 1) 0) 0x49), both-none (eqb (get_or f (p + 1) 0) 0x54), both-none (eqb (get_or f p 0) 0x50))

-- a test of the letters as the code has them
pub spells-by : (f : List ℕ) (p : ℕ) (text letters : List ℕ) (r b : Bool) → r ≡ spells f p text → text ≡ letters → r ≡ b → spells f p letters ≡ b
spells-by f p text letters r b e g h = ap (spells f p) (sym g) ∙ sym e ∙ h

-- ---- the outcomes of a trailer
module _ (F : FileForm) (f : List ℕ) where
  pub trailer-short : length f < trailer_size F → trailer_by F f ≡ refused 20 []
  unfolding trailer_by
  trailer-short h = simp (lt-ltb _ _ h)

  pub trailer-letters : trailer_size F ≤ length f → spells f (length f - 4) F.letters ≡ false → trailer_by F f ≡ refused 20 []
  unfolding trailer_by
  trailer-letters a h = simp (le-ltb _ _ a, h)

  trailer-checked : trailer_size F ≤ length f → spells f (length f - 4) F.letters ≡ true
      → trailer_by F f ≡ checked F f (length f - trailer_size F) (trailer_at F f (length f - trailer_size F))
  unfolding trailer_by
  trailer-checked a h = simp (le-ltb _ _ a, h)

  -- by place and trailer as the code has them
  pub trailer-by : (p : ℕ) (k : Trailer) (a : Answer Trailer) → p + trailer_size F ≡ length f → spells f (length f - 4) F.letters ≡ true
      → k ≡ trailer_at F f p → checked F f p k ≡ a → a ≡ trailer_by F f
  trailer-by p k a l s e c =
      let g : length f - trailer_size F ≡ p = omega arith in
      sym (trailer-checked (omega arith) s ∙ ap (λ (q : ℕ). checked F f q (trailer_at F f q)) g ∙ ap (checked F f p) (sym e) ∙ c)

-- of either form
pub form-wide : (f : List ℕ) → spells f (length f - 4) wide.letters ≡ true → file_form_of f ≡ wide
form-wide f e = rw e

pub form-narrow : (f : List ℕ) → spells f (length f - 4) wide.letters ≡ false → file_form_of f ≡ narrow
form-narrow f e = rw e

-- z: the zero byte's place
module _ (F : FileForm) (f : List ℕ) (p : ℕ) (k : Trailer) (z : ℕ) (at : z ≡ p + F.width + 1) where
  zero-byte : (b : Bool) → eqb (little_at 1 f z) 0 ≡ b → eqb (little_at 1 f (p + F.width + 1)) 0 ≡ b
  zero-byte b e = ap (λ (q : ℕ). eqb (little_at 1 f q) 0) (sym at) ∙ e

  pub checked_zero : (little_at 1 f z ≡ 0 → ⊥) → checked F f p k ≡ refused 20 []
  unfolding checked
  checked_zero h = simp (zero-byte false (ne_eqb _ _ h))

  pub checked-shift : little_at 1 f z ≡ 0 → 6 < k.shift → checked F f p k ≡ refused 20 []
  unfolding checked
  checked-shift a h = simp (zero-byte true (eq-eqb _ _ a), lt-ltb _ _ h)

  pub checked-distance : little_at 1 f z ≡ 0 → k.shift ≤ 6 → (k.distance ≡ length f → ⊥) → checked F f p k ≡ refused 20 []
  unfolding checked
  checked-distance a b h = simp (zero-byte true (eq-eqb _ _ a), le-ltb _ _ b, ne_eqb _ _ h)

  pub checked-length : little_at 1 f z ≡ 0 → k.shift ≤ 6 → k.distance ≡ length f → (length f ≡ 4 * k.count + trailer_size F → ⊥) → checked F f p k ≡ refused 20 []
  unfolding checked
  checked-length a b d h = simp (zero-byte true (eq-eqb _ _ a), le-ltb _ _ b, eq-eqb _ _ d, ne_eqb _ _ h)

  pub checked-few : little_at 1 f z ≡ 0 → k.shift ≤ 6 → k.distance ≡ length f → length f ≡ 4 * k.count + trailer_size F → k.count < F.least → checked F f p k ≡ refused 20 []
  unfolding checked
  checked-few a b d e h = simp (zero-byte true (eq-eqb _ _ a), le-ltb _ _ b, eq-eqb _ _ d, eq-eqb _ _ e, lt-ltb _ _ h)

  pub checked-right : little_at 1 f z ≡ 0 → k.shift ≤ 6 → k.distance ≡ length f → length f ≡ 4 * k.count + trailer_size F → F.least ≤ k.count → checked F f p k ≡ answered k
  unfolding checked
  checked-right a b d e h = simp (zero-byte true (eq-eqb _ _ a), le-ltb _ _ b, eq-eqb _ _ d, eq-eqb _ _ e, le-ltb _ _ h)

-- and back: what a trailer that was answered says of its file
pub record Trailed (F : FileForm) (f : List ℕ) (k : Trailer) : Type 0 where
  pub long : trailer_size F ≤ length f
  pub ends_in : spells f (length f - 4) F.letters ≡ true
  pub fields : k ≡ trailer_at F f (length f - trailer_size F)
  pub zero_byte : little_at 1 f (length f - trailer_size F + F.width + 1) ≡ 0
  pub shift : k.shift ≤ 6
  pub distance : k.distance ≡ length f
  pub whole : length f ≡ 4 * k.count + trailer_size F
  pub many : F.least ≤ k.count

pub trailed : (F : FileForm) (f : List ℕ) (k : Trailer) → trailer_by F f ≡ answered k → Trailed F f k
unfolding trailer_by checked
trailed F f k e =
    let r : Trailer = trailer_at F f (length f - trailer_size F) in
    let t1 = passed (ltb (length f) (trailer_size F)) 20 _ _ e in
    let t2 = passed (not (spells f (length f - 4) F.letters)) 20 _ _ t1.1 in
    let t3 = passed (not (eqb (little_at 1 f (length f - trailer_size F + F.width + 1)) 0)) 20 _ _ t2.1 in
    let t4 = passed (ltb 6 r.shift) 20 _ _ t3.1 in
    let t5 = passed (not (eqb r.distance (length f))) 20 _ _ t4.1 in
    let t6 = passed (not (eqb (length f) (4 * r.count + trailer_size F))) 20 _ _ t5.1 in
    let t7 = passed (ltb r.count F.least) 20 _ _ t6.1 in
    let q : r ≡ k = cc in
    record {
      long = ltb-false _ _ t1.0;
      ends_in = not-false _ t2.0;
      fields = sym q;
      zero_byte = eqb-true _ _ (not-false _ t3.0);
      shift = subst (λ (x : Trailer). x.shift ≤ 6) q (ltb-false _ _ t4.0);
      distance = subst (λ (x : Trailer). x.distance ≡ length f) q (eqb-true _ _ (not-false _ t5.0));
      whole = subst (λ (x : Trailer). length f ≡ 4 * x.count + trailer_size F) q (eqb-true _ _ (not-false _ t6.0));
      many = subst (λ (x : Trailer). F.least ≤ x.count) q (ltb-false _ _ t7.0);
    }

-- a file of either form, taken: it is right by one of them
pub data Taken (f : List ℕ) (k : Trailer) : Type 0 where
  as_narrow : spells f (length f - 4) wide.letters ≡ false → trailer_by narrow f ≡ answered k → Taken f k
  as_wide : spells f (length f - 4) wide.letters ≡ true → trailer_by wide f ≡ answered k → Taken f k

pub taken-either : (f : List ℕ) (k : Trailer) → trailer_of_either f ≡ answered k → Taken f k
taken-either f k e = go (spells f (length f - 4) wide.letters) refl e
  where
    go : (b : Bool) → spells f (length f - 4) wide.letters ≡ b → trailer_by (pick b wide narrow) f ≡ answered k → Taken f k
    go true g h = as_wide g h
    go false g h = as_narrow g h

-- what loading asks of it
pub either-inside : (f : List ℕ) (k : Trailer) → trailer_of_either f ≡ answered k → (k.shift ≤ 6) × (4 * k.count ≤ length f)
either-inside f k e = go (taken-either f k e)
  where
    go : Taken f k → (k.shift ≤ 6) × (4 * k.count ≤ length f)
    go (as_narrow l r) = let x = trailed narrow f k r in (x.shift, omega (arith, x.whole))
    go (as_wide l r) = let x = trailed wide f k r in (x.shift, omega (arith, x.whole))
