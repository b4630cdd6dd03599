-- R-3's promises and R-10's: a loaded finder serves; what was saved is loaded; one encoding; the two loaders agree. Each is proved once, over the form
-- of the file. The law of the held places is stream_finder's own. Assumes nothing.
use Prim.Native.Nat.{ℕ, zero, suc, ◌+◌, ◌-◌, ◌*◌, ◌/◌, ◌%◌, ◌^◌, ◌≤◌, ◌<◌}
use native.Mathlib.Omega.{arith}
use native.Mathlib.Nat.{min-eq_left, mul-div_cancel_left}
use native.Mathlib.Numerals.{one-add}
use mathlib.Core.Path.{◌≡◌, refl, sym, ap, subst, ◌∙◌}
use mathlib.Core.Bool.{Bool, true, false, not}
use mathlib.Core.Logic.{◌⊎◌, inl, inr}
use mathlib.Core.List.{List, [], ◌++◌}
use lib.ListN.{length, get_or, take, drop, length-take, length-append}
use lib.Seq.{get_or-take, take-append_seam, drop-append_seam}
use lib.Dec.{leb, ltb, eqb}
use lib.Pow.{pow_pos}
use borrow.Author.Tests.{lt-ltb, le-ltb, ltb-true, ltb-false, ne_eqb, eqb-true, not-false}
use Rattle.answer.specs.Answer.{Answer, answered, refused, both, then}
use Rattle.field.proofs.FieldLaws.{little-below}
use Rattle.field_put.specs.Bytes.{put, Octets}
use Rattle.field_put.proofs.PutLaws.{put_is, length-put}
use Rattle.stream_header.specs.Header.{header_of}
use Rattle.stream_header.specs.declared.Header.{Header}
use Rattle.field.specs.Indices.{index_in}
use Rattle.stream_item.specs.Links.{link_of}
use Rattle.field.specs.declared.index.Stream.{Stream}
use Rattle.stream_item.proofs.LinkLaws.{Bounded, chain-bounds}
use Rattle.stream_item.proofs.NextLaws.{passed}
use Rattle.stream_finder.specs.Finder.{State, state, block_of, holding, max_index_of, Found, find_of}
use Rattle.stream_finder.specs.declared.ItemFinder.{ItemFinder}
use Rattle.stream_finder.specs.Places.{Placed, Ready}
use Rattle.stream_finder.specs.Demand.{looked, number_given}
use Rattle.stream_finder.proofs.PlaceLaws.{find-placed}
use Rattle.stream_finder.proofs.DemandProof.{looked-number}
use Rattle.stream_places.specs.File.{FileForm, narrow, wide, trailer_size, word_bytes, trailer_bytes, words_at, trailer_at, spells, trailer_by, trailer_of, file_form_of, trailer_of_either}
use Rattle.stream_places.specs.Places.{on_chain, load_for, load_by, load_of, load_wide_of, trailer_for, file_of, form_for, save_for, save_wide_of, file_buffer_after}
use Rattle.stream_places.specs.Kept.{records_of, Loaded, Serving, LoadServes, WideServes, TripOf, RoundTrip, WideTrip, Encoding, OneEncoding, OneEncodingWide, LoadersAgree}
use Rattle.stream_places.specs.declared.trailer.Trailer.{Trailer}
use Rattle.stream_places.proofs.FileLaws.{length-words, length-word-bytes, length-trailer, one_tag, other_tag, trailer-letters, trailer-short, trailer-by, form-wide as letters-wide, form-narrow as letters-narrow, checked-right, Trailed, trailed, Taken, as_narrow, as_wide, taken-either}
use Rattle.stream_places.proofs.BackLaws.{words_back, words-again, Fits, Back, trailer-back, trailer-again}
use Rattle.stream_places.proofs.PlacesLaws.{Ours, load-header, load-trailer, load-done, save-header, save-by, save-done, header-short, header-fields}
use Rattle.stream_places.proofs.ChainLaws.{chained, unchained, chained-placed, placed-chained}

-- ---- what the proofs ask of a form: four letters, a count that holds the most places, a distance that fits
record Sound (F : FileForm) : Type 0 where
  pub four : length F.letters ≡ 4
  pub count : F.most < 256 ^ F.width
  pub distance : 4 * F.most + trailer_size F < 4294967296

narrow-sound : Sound narrow
narrow-sound = record { four = refl; count = omega arith; distance = omega arith }

wide-sound : Sound wide
wide-sound = record { four = refl; count = omega arith; distance = omega arith }

-- which form so many places are written in
form-narrow : (n : ℕ) → n ≤ 65535 → form_for n ≡ narrow
form-narrow n l = simp (le-ltb _ _ l)

form-wide : (n : ℕ) → 65535 < n → form_for n ≡ wide
form-wide n l = simp (lt-ltb _ _ l)

-- ---- from an answer of a loader back to what it found

-- go on from a value: what that value was
then-answered : {A B : Type 0} (a : Answer A) (g : A → Answer B) (b : B) → then a g ≡ answered b → (x : A) × ((a ≡ answered x) × (g x ≡ answered b))
then-answered (answered x) g b e = (x, (refl, e))
then-answered (refused n d) g b e = let z : ◌≡◌ {A = ℕ} 0 1 = cc in absurd (omega arith)

pub record Finds (F : FileForm) (s f t : List ℕ) (h : Header) (τ : State) : Type 0 where
  pub trailer : Trailer
  pub right : trailer_by F f ≡ answered trailer
  pub ours : Ours s f t h trailer
  pub room : trailer.count ≤ length t
  pub on_the_chain : on_chain s (2 ^ trailer.shift) h.header_size (words_at trailer.count f 0) ≡ true
  pub state_is : state (holding h trailer.shift trailer.count) (put t 0 (words_at trailer.count f 0)) ≡ τ

found : (F : FileForm) (s f t : List ℕ) (h : Header) (k : Trailer) (τ : State) → trailer_by F f ≡ answered k → load_for s f t h k ≡ answered τ → Finds F s f t h τ
unfolding load_for
found F s f t h k τ r e =
    let t1 = passed (both (eqb k.count 0) (ltb h.minimum_index h.maximum_index)) 20 _ _ e in
    let t2 = passed (not (eqb k.minimum_index h.minimum_index)) 21 _ _ t1.1 in
    let t3 = passed (not (eqb k.maximum_index h.maximum_index)) 21 _ _ t2.1 in
    let t4 = passed (not (eqb k.stream_length (length s))) 21 _ _ t3.1 in
    let t5 = passed (not (eqb k.header_size h.header_size)) 21 _ _ t4.1 in
    let t6 = passed (ltb (length t) k.count) 13 _ _ t5.1 in
    let t7 = passed (not (on_chain s (2 ^ k.shift) h.header_size (words_at k.count f 0))) 22 _ _ t6.1 in
    record {
      trailer = k;
      right = r;
      ours = record {
        some = t1.0;
        minimum = eqb-true _ _ (not-false _ t2.0);
        maximum = eqb-true _ _ (not-false _ t3.0);
        bytes_are = eqb-true _ _ (not-false _ t4.0);
        start = eqb-true _ _ (not-false _ t5.0);
      };
      room = ltb-false _ _ t6.0;
      on_the_chain = not-false _ t7.0;
      state_is = cc;
    }

pub finds : (s f t : List ℕ) (h : Header) (τ : State) → header_of s ≡ answered h → load_of s f t ≡ answered τ → Finds narrow s f t h τ
finds s f t h τ a e =
    let y = then-answered (trailer_of f) (load_for s f t h) τ (sym (load-header narrow s f t (answered h) a) ∙ e) in
    found narrow s f t h y.0 τ y.1.0 y.1.1

-- of R-10's loader, by the form that it went by
data FindsEither (s f t : List ℕ) (h : Header) (τ : State) : Type 0 where
  in_narrow : Finds narrow s f t h τ → FindsEither s f t h τ
  in_wide : Finds wide s f t h τ → FindsEither s f t h τ

finds-either : (s f t : List ℕ) (h : Header) (τ : State) → header_of s ≡ answered h → load_wide_of s f t ≡ answered τ → FindsEither s f t h τ
finds-either s f t h τ a e = go y.0 y.1.1 (taken-either f y.0 y.1.0)
  where
    y : (x : Trailer) × ((trailer_of_either f ≡ answered x) × (load_for s f t h x ≡ answered τ))
    y = then-answered (trailer_of_either f) (load_for s f t h) τ (sym (load-header (file_form_of f) s f t (answered h) a) ∙ e)

    go : (k : Trailer) → load_for s f t h k ≡ answered τ → Taken f k → FindsEither s f t h τ
    go k g (as_narrow l r) = in_narrow (found narrow s f t h k τ r g)
    go k g (as_wide l r) = in_wide (found wide s f t h k τ r g)

-- ---- a loaded finder serves

some-place : (n m M : ℕ) → both (eqb n 0) (ltb m M) ≡ false → m < M → 0 < n
some-place zero m M e l = let z : ◌≡◌ {A = Bool} true false = sym (lt-ltb m M l) ∙ e in let q : ◌≡◌ {A = ℕ} 0 1 = cc in absurd (omega arith)
some-place (suc n) m M e l = omega arith

module _ (F : FileForm) (tag : Stream) (s f t : List ℕ) (h : Header) (k : Trailer) (a : header_of s ≡ answered h) (r : trailer_by F f ≡ answered k) (o : Ours s f t h k) (room : k.count ≤ length t) (on : on_chain s (2 ^ k.shift) h.header_size (words_at k.count f 0) ≡ true) where
  abbrev ws : List ℕ
  ws = words_at k.count f 0

  abbrev σ : State
  σ = state (holding h k.shift k.count) (put t 0 ws)

  many : length ws ≡ k.count
  many = length-words k.count f 0

  placed : Placed s h.header_size σ
  placed = chained-placed s h.header_size σ t ws refl (sym many) (omega (arith, many)) (chained s (2 ^ k.shift) h.header_size ws on)

  ready : Ready s σ
  ready = record { short = header-short s h a; shift = (trailed F f k r).shift; held = rw (length-put t 0 ws) room }

  looks : (d : ℕ) → h.minimum_index + d ≤ h.maximum_index → find_of s σ (index_in tag (h.minimum_index + d)) ≡ looked tag s h.header_size σ.finder d
  looks d u = find-placed tag s h.header_size σ d ready placed u

  unheld : (d : ℕ) → h.minimum_index + d ≤ h.maximum_index
      → eqb (number_given (find_of s σ (index_in tag (h.minimum_index + d)))) 9 ≡ leb k.count (d / 2 ^ k.shift)
  unheld d u =
      ap (λ (x : Answer Found). eqb (number_given x) 9) (looks d u)
      ∙ looked-number (leb k.count (d / 2 ^ k.shift)) (h.minimum_index + d) (max_index_of σ.finder) (index_in tag (h.minimum_index + d)) (d % 2 ^ k.shift) (d / 2 ^ k.shift * 2 ^ k.shift) (link_of s h.header_size d)

  -- N is as many records as there are before the last place
  counted : h.minimum_index < h.maximum_index → k.count ≡ suc (records_of σ / 2 ^ k.shift)
  counted l =
      let z : 0 < k.count = some-place k.count h.minimum_index h.maximum_index o.some l in
      let e : records_of σ / 2 ^ k.shift ≡ k.count - 1 = mul-div_cancel_left (k.count - 1) (pow_pos k.shift) in
      omega arith

  loaded : Loaded tag s h σ
  loaded = record {
    serves = record { placed = placed; lookups = looks; not_indexed = unheld };
    some = some-place k.count h.minimum_index h.maximum_index o.some;
    lookups = λ l d u. looks d u ∙ ap (λ (n : ℕ). looked tag s h.header_size (holding h k.shift n) d) (counted l ∙ sym (one-add (records_of σ / 2 ^ k.shift)));
    not_indexed = λ l d u. unheld d u ∙ ap (λ (n : ℕ). leb n (d / 2 ^ k.shift)) (counted l);
  }

serves-found : (F : FileForm) (tag : Stream) (s f t : List ℕ) (h : Header) (τ : State) → header_of s ≡ answered h → Finds F s f t h τ → Loaded tag s h τ
serves-found F tag s f t h τ a x =
    subst (λ (ρ : State). Loaded tag s h ρ) x.state_is (loaded F tag s f t h x.trailer a x.right x.ours x.room x.on_the_chain)

pub load-serves : LoadServes
unfolding Serving
load-serves tag s f t h τ a e = serves-found narrow tag s f t h τ a (finds s f t h τ a e)

pub wide-serves : WideServes
unfolding Serving
wide-serves tag s f t h τ a e = go (finds-either s f t h τ a e)
  where
    go : FindsEither s f t h τ → Loaded tag s h τ
    go (in_narrow x) = serves-found narrow tag s f t h τ a x
    go (in_wide x) = serves-found wide tag s f t h τ a x

-- ---- one encoding

first_of : (t ws : List ℕ) → length ws ≤ length t → take (length ws) (put t 0 ws) ≡ ws
first_of t ws l = ap (take (length ws)) (put_is t 0 ws (omega arith)) ∙ take-append_seam ws (drop (0 + length ws) t)

-- what a file holds fits its form's count, and its distance 32 bits
count-below : (F : FileForm) (f : List ℕ) (k : Trailer) → Octets f → Trailed F f k → k.count < 256 ^ F.width
unfolding Octets trailer_at
count-below F f k o x = subst (λ (y : Trailer). y.count < 256 ^ F.width) (sym x.fields) (little-below F.width f (length f - trailer_size F) o)

distance-below : (F : FileForm) (f : List ℕ) (k : Trailer) → Octets f → Trailed F f k → k.distance < 4294967296
unfolding Octets trailer_at
distance-below F f k o x = subst (λ (y : Trailer). y.distance < 4294967296) (sym x.fields) (little-below 4 f (length f - trailer_size F + F.width + 18) o)

module _ (F : FileForm) (sound : Sound F) (s f t : List ℕ) (h : Header) (k : Trailer) (oct : Octets f) (a : header_of s ≡ answered h) (r : trailer_by F f ≡ answered k) (o : Ours s f t h k) (room : k.count ≤ length t) (most : k.count ≤ F.most) where
  trailer-is : trailer_for F h (length s) k.shift k.count ≡ k
  trailer-is =
      let x = trailed F f k r in
      let d : 4 * k.count + trailer_size F ≡ k.distance = sym (x.distance ∙ x.whole) in
      rw (← o.minimum, ← o.maximum, ← o.bytes_are, ← o.start, d)

  trailer-again-is : trailer_bytes F k ≡ drop (0 + 4 * k.count) f
  trailer-again-is =
      let x = trailed F f k r in
      let p : length f - trailer_size F ≡ 0 + 4 * k.count = omega (arith, x.whole) in
      let q : length f - 4 ≡ length f - trailer_size F + F.width + 22 = omega (arith, x.long) in
      ap (trailer_bytes F) x.fields
      ∙ trailer-again F f (length f - trailer_size F) oct (omega (arith, x.long)) sound.four x.zero_byte (ap (λ (n : ℕ). spells f n F.letters) (sym q) ∙ x.ends_in)
      ∙ ap (λ (n : ℕ). drop n f) p

  file-again : file_of F h (length s) (state (holding h k.shift k.count) (put t 0 (words_at k.count f 0))) ≡ f
  unfolding file_of
  file-again =
      let x = trailed F f k r in
      let ws : List ℕ = words_at k.count f 0 in
      let n : length ws ≡ k.count = length-words k.count f 0 in
      ap (λ (m : ℕ). word_bytes (take m (put t 0 ws)) ++ trailer_bytes F (trailer_for F h (length s) k.shift k.count)) (sym n)
      ∙ ap (λ (us : List ℕ). word_bytes us ++ trailer_bytes F (trailer_for F h (length s) k.shift k.count)) (first_of t ws (omega (arith, n)))
      ∙ ap (λ (y : Trailer). word_bytes ws ++ trailer_bytes F y) trailer-is
      ∙ ap (λ (bs : List ℕ). word_bytes ws ++ bs) trailer-again-is
      ∙ words-again k.count f 0 oct (omega (arith, x.whole))

  encoded : (space : ℕ) → length f ≤ space → save_for F (length s) (state (holding h k.shift k.count) (put t 0 (words_at k.count f 0))) space h ≡ answered f
  encoded space l =
      let x = trailed F f k r in
      save-done F (length s) _ space h (record { minimum = refl; maximum = refl }) x.shift (rw (length-put t 0 (words_at k.count f 0)) room) most (omega (arith, x.whole))
      ∙ ap (λ (bs : List ℕ). answered bs) file-again

-- of the state that was found
encodes : (F : FileForm) (s f t : List ℕ) (h : Header) (τ : State) (space : ℕ) → Sound F → Octets f → header_of s ≡ answered h → (x : Finds F s f t h τ)
    → x.trailer.count ≤ F.most → length f ≤ space → save_for F (length s) τ space h ≡ answered f
encodes F s f t h τ space sound oct a x m l =
    subst (λ (ρ : State). save_for F (length s) ρ space h ≡ answered f) x.state_is (encoded F sound s f t h x.trailer oct a x.right x.ours x.room m space l)

narrow-most : (s f t : List ℕ) (h : Header) (τ : State) → Octets f → (x : Finds narrow s f t h τ) → x.trailer.count ≤ 65535
narrow-most s f t h τ oct x = omega (arith, count-below narrow f x.trailer oct (trailed narrow f x.trailer x.right))

wide-most : (s f t : List ℕ) (h : Header) (τ : State) → Octets f → (x : Finds wide s f t h τ) → x.trailer.count ≤ 1073741816
wide-most s f t h τ oct x =
    let y = trailed wide f x.trailer x.right in
    omega (arith, y.whole, y.distance, distance-below wide f x.trailer oct y)

pub one-encoding : OneEncoding
unfolding Encoding load_by
one-encoding s f t τ space oct e l =
    let y = then-answered (header_of s) (λ h. then (trailer_of f) (load_for s f t h)) τ e in
    let x = finds s f t y.0 τ y.1.0 e in
    save-header narrow s τ space (answered y.0) y.1.0 ∙ encodes narrow s f t y.0 τ space narrow-sound oct y.1.0 x (narrow-most s f t y.0 τ oct x) l

-- the state's own number of places, and so the form that it is written in
held-is : (F : FileForm) (s f t : List ℕ) (h : Header) (τ : State) (x : Finds F s f t h τ) → τ.finder.held ≡ x.trailer.count
held-is F s f t h τ x = ap (λ (ρ : State). ρ.finder.held) (sym x.state_is)

pub one-encoding-wide : OneEncodingWide
unfolding Encoding load_by
one-encoding-wide s f t τ space oct e l = go (finds-either s f t h τ a e)
  where
    y : (h : Header) × ((header_of s ≡ answered h) × (then (trailer_of_either f) (load_for s f t h) ≡ answered τ))
    y = then-answered (header_of s) (λ h. then (trailer_of_either f) (load_for s f t h)) τ e

    h : Header
    h = y.0

    a : header_of s ≡ answered h
    a = y.1.0

    by_form : (F : FileForm) → form_for τ.finder.held ≡ F → save_for F (length s) τ space h ≡ answered f → save_wide_of s τ space ≡ answered f
    by_form F g w = save-by F (form_for τ.finder.held) s τ space h a (sym g) ∙ w

    go : FindsEither s f t h τ → save_wide_of s τ space ≡ answered f
    go (in_narrow x) =
        let m = narrow-most s f t h τ oct x in
        by_form narrow (form-narrow τ.finder.held (omega (arith, m, held-is narrow s f t h τ x))) (encodes narrow s f t h τ space narrow-sound oct a x m l)
    go (in_wide x) =
        let n = (trailed wide f x.trailer x.right).many in
        by_form wide (form-wide τ.finder.held (omega (arith, n, held-is wide s f t h τ x))) (encodes wide s f t h τ space wide-sound oct a x (wide-most s f t h τ oct x) l)

-- ---- what was saved is loaded

-- what a header says of bytes
record HeaderFits (s : List ℕ) (h : Header) : Type 0 where
  pub inside : h.header_size ≤ length s
  pub minimum : h.minimum_index < 4294967296
  pub maximum : h.maximum_index < 4294967296

header-fits : (s : List ℕ) (h : Header) → Octets s → header_of s ≡ answered h → HeaderFits s h
unfolding Octets
header-fits s h oct e =
    header-fields (HeaderFits s h) s h e
    (λ x y z. record { inside = omega arith; minimum = omega arith; maximum = omega arith })
    (λ w x y z. record { inside = omega arith; minimum = omega (arith, little-below 4 s 8 oct); maximum = omega (arith, little-below 4 s 12 oct) })

-- what a file that was saved says of its finder
record Kept (F : FileForm) (s : List ℕ) (h : Header) (σ : State) (space : ℕ) (f : List ℕ) : Type 0 where
  pub minimum : σ.finder.minimum_index ≡ h.minimum_index
  pub maximum : σ.finder.maximum_index ≡ h.maximum_index
  pub shift : σ.finder.shift ≤ 6
  pub held : σ.finder.held ≤ length σ.table
  pub few : σ.finder.held ≤ F.most
  pub room : 4 * σ.finder.held + trailer_size F ≤ space
  pub file : file_of F h (length s) σ ≡ f

kept : (F : FileForm) (s : List ℕ) (h : Header) (σ : State) (space : ℕ) (f : List ℕ) → save_for F (length s) σ space h ≡ answered f → Kept F s h σ space f
unfolding save_for
kept F s h σ space f e =
    let t1 = passed (not (eqb σ.finder.minimum_index h.minimum_index)) 21 _ _ e in
    let t2 = passed (not (eqb σ.finder.maximum_index h.maximum_index)) 21 _ _ t1.1 in
    let t3 = passed (ltb 6 σ.finder.shift) 26 _ _ t2.1 in
    let t4 = passed (ltb (length σ.table) σ.finder.held) 13 _ _ t3.1 in
    let t5 = passed (ltb F.most σ.finder.held) 13 _ _ t4.1 in
    let t6 = passed (ltb space (4 * σ.finder.held + trailer_size F)) 19 _ _ t5.1 in
    record {
      minimum = eqb-true _ _ (not-false _ t1.0);
      maximum = eqb-true _ _ (not-false _ t2.0);
      shift = ltb-false _ _ t3.0;
      held = ltb-false _ _ t4.0;
      few = ltb-false _ _ t5.0;
      room = ltb-false _ _ t6.0;
      file = cc;
    }

none-lacks : (n m M : ℕ) → (m < M → 0 < n) → both (eqb n 0) (ltb m M) ≡ false
none-lacks (suc n) m M h = simp (ne_eqb (suc n) 0 (λ e. omega arith))
none-lacks zero m M h = go (ltb m M) refl
  where
    go : (b : Bool) → ltb m M ≡ b → b ≡ false
    go true e = let z : 0 < zero = h (ltb-true m M e) in absurd (omega arith)
    go false e = refl

module _ (F : FileForm) (sound : Sound F) (s t : List ℕ) (h : Header) (σ : State) (f : List ℕ) (space : ℕ) (oct : Octets s) (a : header_of s ≡ answered h) (pl : Placed s h.header_size σ) (some : h.minimum_index < h.maximum_index → 0 < σ.finder.held) (many : F.least ≤ σ.finder.held) (x : Kept F s h σ space f) (l : σ.finder.held ≤ length t) where
  abbrev n : ℕ
  n = σ.finder.held

  abbrev places : List ℕ
  places = take σ.finder.held σ.table

  abbrev tail : Trailer
  tail = trailer_for F h (length s) σ.finder.shift σ.finder.held

  as_many : length places ≡ n
  as_many = length-take n σ.table ∙ min-eq_left x.held

  file-is : word_bytes places ++ trailer_bytes F tail ≡ f
  unfolding file_of
  file-is = x.file

  length-is : length f ≡ 4 * n + trailer_size F
  length-is = ap length (sym file-is) ∙ length-append (word_bytes places) (trailer_bytes F tail) ∙ omega (arith, length-word-bytes places, length-trailer F tail sound.four, as_many)

  small : (i : ℕ) → i < length places → get_or places i 0 < 4294967296
  small i g =
      let b : Bounded s h.header_size (i * block_of σ.finder) (get_or σ.table i 0) = chain-bounds s h.header_size (i * block_of σ.finder) (get_or σ.table i 0) (pl i (omega (arith, as_many))) in
      let e : get_or places i 0 ≡ get_or σ.table i 0 = get_or-take n σ.table i 0 (omega (arith, as_many)) in
      omega (arith, b.inside (header-fits s h oct a).inside, header-short s h a)

  words_are : words_at n f 0 ≡ places
  words_are = ap (λ (m : ℕ). words_at m f 0) (sym as_many) ∙ words_back places f 0 (trailer_bytes F tail) small (sym file-is)

  fits : Fits F tail
  fits =
      let g = header-fits s h oct a in
      record {
        count = omega (arith, x.few, sound.count);
        shift = omega (arith, x.shift);
        minimum = g.minimum;
        maximum = g.maximum;
        bytes_are = omega (arith, header-short s h a);
        start = omega (arith, g.inside, header-short s h a);
        distance = omega (arith, x.few, sound.distance);
      }

  tail_at : drop (length f - trailer_size F) f ≡ trailer_bytes F tail
  tail_at =
      let p : length f - trailer_size F ≡ length (word_bytes places) = omega (arith, length-is, length-word-bytes places, as_many) in
      ap (λ (m : ℕ). drop m f) p ∙ ap (drop (length (word_bytes places))) (sym file-is) ∙ drop-append_seam (word_bytes places) (trailer_bytes F tail)

  back : Back F f (length f - trailer_size F) tail
  back = trailer-back F f (length f - trailer_size F) tail fits tail_at

  tagged : spells f (length f - 4) F.letters ≡ true
  tagged =
      let q : length f - 4 ≡ length f - trailer_size F + F.width + 22 = omega (arith, length-is) in
      ap (λ (m : ℕ). spells f m F.letters) q ∙ back.ends_in

  tail-is : trailer_by F f ≡ answered tail
  tail-is =
      sym (trailer-by F f (length f - trailer_size F) tail (answered tail) (omega (arith, length-is)) tagged (sym back.fields)
      (checked-right F f (length f - trailer_size F) tail (length f - trailer_size F + F.width + 1) refl back.zero_byte x.shift (sym length-is) length-is many))

  chain-is : on_chain s (2 ^ σ.finder.shift) h.header_size (words_at n f 0) ≡ true
  chain-is = ap (on_chain s (2 ^ σ.finder.shift) h.header_size) words_are ∙ unchained s (2 ^ σ.finder.shift) h.header_size places (placed-chained s h.header_size σ x.held pl)

  finder-is : holding h σ.finder.shift n ≡ σ.finder
  finder-is = rw (← x.minimum, ← x.maximum)

  again : load_for s f t h tail ≡ answered (state σ.finder (put t 0 places))
  again =
      load-done s f t h tail (record { some = none-lacks n h.minimum_index h.maximum_index some; minimum = refl; maximum = refl; bytes_are = refl; start = refl }) l chain-is
      ∙ ap (λ (g : ItemFinder). answered (state g (put t 0 (words_at n f 0)))) finder-is
      ∙ ap (λ (us : List ℕ). answered (state σ.finder (put t 0 us))) words_are

  -- R-10's loader takes it by the same form
  either_is : (F ≡ narrow) ⊎ (F ≡ wide) → trailer_of_either f ≡ answered tail
  either_is (inl e) = ap (λ (G : FileForm). trailer_by G f) (letters-narrow f (one_tag f (length f - 4) (subst (λ (G : FileForm). spells f (length f - 4) G.letters ≡ true) e tagged)) ∙ sym e) ∙ tail-is
  either_is (inr e) = ap (λ (G : FileForm). trailer_by G f) (letters-wide f (subst (λ (G : FileForm). spells f (length f - 4) G.letters ≡ true) e tagged) ∙ sym e) ∙ tail-is

-- the first bytes of the buffer are the file
file-first : (o f : List ℕ) (a : Answer (List ℕ)) → a ≡ answered f → length f ≤ length o → take (length f) (file_buffer_after o a) ≡ f
file-first o f a e l = ap (λ (w : Answer (List ℕ)). take (length f) (file_buffer_after o w)) e ∙ first_of o f l

pub round_trip : RoundTrip
unfolding TripOf
round_trip s o t h σ f oct a pl some e l =
    let x : Kept narrow s h σ (length o) f = kept narrow s h σ (length o) f (sym (save-header narrow s σ (length o) (answered h) a) ∙ e) in
    let g : length f ≡ 4 * σ.finder.held + 28 = length-is narrow narrow-sound s t h σ f (length o) oct a pl some (omega arith) x l in
    ap (λ (bs : List ℕ). load_of s bs t) (file-first o f _ e (omega (arith, x.room)))
    ∙ load-trailer narrow s f t h _ a (tail-is narrow narrow-sound s t h σ f (length o) oct a pl some (omega arith) x l)
    ∙ again narrow narrow-sound s t h σ f (length o) oct a pl some (omega arith) x l

-- of the form that the places are written in
trip-by : (F : FileForm) (s o t : List ℕ) (h : Header) (σ : State) (f : List ℕ) → Sound F → (F ≡ narrow) ⊎ (F ≡ wide) → F.least ≤ σ.finder.held → form_for σ.finder.held ≡ F
    → Octets s → header_of s ≡ answered h → Placed s h.header_size σ → (h.minimum_index < h.maximum_index → 0 < σ.finder.held)
    → save_wide_of s σ (length o) ≡ answered f → σ.finder.held ≤ length t
    → load_wide_of s (take (length f) (file_buffer_after o (save_wide_of s σ (length o)))) t ≡ answered (state σ.finder (put t 0 (take σ.finder.held σ.table)))
trip-by F s o t h σ f sound either m g oct a pl some e l =
    let w : save_for F (length s) σ (length o) h ≡ answered f = sym (save-by F (form_for σ.finder.held) s σ (length o) h a (sym g)) ∙ e in
    let x : Kept F s h σ (length o) f = kept F s h σ (length o) f w in
    let n : length f ≡ 4 * σ.finder.held + trailer_size F = length-is F sound s t h σ f (length o) oct a pl some m x l in
    ap (λ (bs : List ℕ). load_wide_of s bs t) (file-first o f _ e (omega (arith, x.room)))
    ∙ load-trailer (file_form_of f) s f t h _ a (either_is F sound s t h σ f (length o) oct a pl some m x l either)
    ∙ again F sound s t h σ f (length o) oct a pl some m x l

pub wide-trip : WideTrip
unfolding TripOf
wide-trip s o t h σ f oct a pl some e l = go (ltb 65535 σ.finder.held) refl
  where
    go : (b : Bool) → ltb 65535 σ.finder.held ≡ b
        → load_wide_of s (take (length f) (file_buffer_after o (save_wide_of s σ (length o)))) t ≡ answered (state σ.finder (put t 0 (take σ.finder.held σ.table)))
    go true q =
        let n : 65535 < σ.finder.held = ltb-true _ _ q in
        trip-by wide s o t h σ f wide-sound (inr refl) (omega arith) (form-wide σ.finder.held n) oct a pl some e l
    go false q =
        let n : σ.finder.held ≤ 65535 = ltb-false _ _ q in
        trip-by narrow s o t h σ f narrow-sound (inl refl) (omega arith) (form-narrow σ.finder.held n) oct a pl some e l

-- ---- the two loaders
pub loaders-agree : LoadersAgree
loaders-agree = record {
  on_narrow = λ s f t e. ap (λ (F : FileForm). load_by F s f t) (letters-narrow f (one_tag f (length f - 4) e));
  on_wide = λ s f t e. other s f t (not_narrow f e);
}
  where
    other : (s f t : List ℕ) → trailer_of f ≡ refused 20 [] → load_of s f t ≡ then (header_of s) (λ h. refused 20 [])
    other s f t g = load-header narrow s f t (header_of s) refl ∙ ap (λ (k : Answer Trailer). then (header_of s) (λ h. then k (load_for s f t h))) g

    not_narrow : (f : List ℕ) → spells f (length f - 4) wide.letters ≡ true → trailer_of f ≡ refused 20 []
    not_narrow f e = go (ltb (length f) 28) refl
      where
        go : (b : Bool) → ltb (length f) 28 ≡ b → trailer_of f ≡ refused 20 []
        go true q = trailer-short narrow f (ltb-true _ _ q)
        go false q = trailer-letters narrow f (ltb-false _ _ q) (other_tag f (length f - 4) e)
