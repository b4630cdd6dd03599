-- A link reads alike wherever it stands; a stream of links is walked past its payloads, a walk's payloads are its links, and a walk has one list
-- of them. A stream is fit exactly if each of its payloads is good by its index and there are as many as its header says. Assumes nothing.
use Prim.Native.Nat.{ℕ, suc, ◌+◌, ◌-◌, ◌^◌, ◌≤◌, ◌<◌}
use native.Mathlib.Omega.{arith}
use mathlib.Core.Bool.{Bool, true, false}
use mathlib.Core.Path.{◌≡◌, refl, ap, sym, ◌∙◌}
use mathlib.Core.List.{List, [], ◌∷◌, ◌++◌, append_assoc}
use lib.ListN.{length, take, drop, length-drop, length-append, take-append-drop, drop_of_length-le}
use lib.Seq.{take-append_seam, drop-drop, length-take-le}
use lib.Dec.{leb, ltb}
use borrow.Author.Tests.{leb-true}
use Rattle.answer.specs.Answer.{Answer, answered, refused, pick, stop}
use Rattle.field.specs.Fields.{little_at}
use Rattle.field.specs.Bytes.{bytes}
use Rattle.field.proofs.FieldLaws.{field-got}
use Rattle.field.proofs.ByteLaws.{Stands, first, next, room, fixed_back, length-bytes}
use Rattle.field.proofs.RunLaws.{bytes-there}
use Rattle.field_put.specs.Bytes.{Octets}
use Rattle.field_put.proofs.BackLaws.{bytes_back}
use Rattle.stream_header.specs.Header.{longest}
use Rattle.stream_header.specs.declared.Header.{Header}
use Rattle.stream_item.specs.Iterator.{Next, done, yielded, item_at, over_record, next_of}
use Rattle.stream_item.specs.declared.Item.{Item}
use Rattle.stream_item.specs.declared.iter.ItemIter.{ItemIter}
use Rattle.stream_item.proofs.NextLaws.{next-done, next-yields, passed, yields}
use Rattle.stream_item.proofs.LinkLaws.{whole_is}
use Rattle.record_reference.proofs.ValueLaws.{no_answer}
use Rattle.stream_fit.specs.Fit.{payload_of}
use Rattle.stream_fit.specs.Sentences.{Good, Visits, stays, goes, Fit}
use Rattle.stream_prune.specs.Links.{link, links, Linkable, AllLinkable, ComesPast, ends, past, AllGood}

-- a record is not the end
pub next-apart : {X : Type 0} {i : Item} {d : ItemIter} → ◌≡◌ {A = Answer Next} (answered (yielded i d)) (answered done) → X
next-apart {X} {i} {d} h = let z : ◌≡◌ {A = ℕ} 0 1 = cc in absurd (omega arith)

-- One link ---------------------------------------------------------------------------------------------------------------------------

pub link-length : (p : List ℕ) → length (link p) ≡ 2 + length p
unfolding link
link-length p = length-append (bytes 2 (length p)) p ∙ ap (λ n. n + length p) (length-bytes 2 (length p))

-- a link that stands at the cursor is the next record, whatever is before and behind it
pub record Reads (t : List ℕ) (c : ItemIter) (p : List ℕ) : Type 0 where
  pub yields : next_of t c ≡ answered (over_record c (length p))
  pub payload : payload_of t (item_at c.stream c.index (c.at + 2) (length p)) ≡ p

pub link-reads : (t : List ℕ) (c : ItemIter) (p ys : List ℕ) → Stands t c.at (link p) ys → Linkable p → length t ≤ longest → c.index < 4294967295 → Reads t c p
unfolding link
link-reads t c p ys st k l n =
    let a = first t c.at (bytes 2 (length p)) p ys st in
    let b = next t c.at (bytes 2 (length p)) p ys st in
    let two : length (bytes 2 (length p)) ≡ 2 = length-bytes 2 (length p) in
    let small : length p < 256 ^ 2 = omega (arith, k.short) in
    let e : length p ≡ little_at 2 t c.at = (field-got 2 t c.at (length p) _ (fixed_back 2 (length p) t c.at (p ++ ys) small a)).value in
    let b' : Stands t (c.at + 2) p ys = rw two at b in
    let r : c.at + 2 + length p ≤ length t = room t (c.at + 2) p ys b'.inside b'.here in
    record {
      yields = next-yields t c l (omega (arith, k.long)) (omega arith) n ∙ ap (λ x. answered (over_record c x)) (sym e);
      payload = bytes-there (length p) t (c.at + 2) r ∙ ap (take (length p)) b'.here ∙ take-append_seam p ys;
    }

-- A stream of links ----------------------------------------------------------------------------------------------------------------------

pub links-walked : (ps : List (List ℕ)) (t : List ℕ) (c : ItemIter) → Stands t c.at (links ps) [] → AllLinkable ps → length t ≤ longest → c.index + length ps ≤ 4294967295 → ComesPast t c ps
unfolding links AllLinkable
links-walked [] t c st k l n = ends (next-done t c l st.inside (omega (arith, length-drop c.at t, ap length st.here)))
links-walked (p ∷ ps) t c st k l n =
    let r = link-reads t c p (links ps ++ []) (first t c.at (link p) (links ps) [] st) k.0 l (omega arith) in
    let z : c.at + length (link p) ≡ c.at + 2 + length p = omega (arith, link-length p) in
    past r.yields r.payload (links-walked ps t (record { stream = c.stream; at = c.at + 2 + length p; index = c.index + 1 }) (rw z at (next t c.at (link p) (links ps) [] st)) k.1 l (omega arith))

-- a record takes bytes, and they are there
pub record Onward (s : List ℕ) (c : ItemIter) (i : Item) (d : ItemIter) : Type 0 where
  pub on : c.at < d.at
  pub inside : d.at ≤ length s
  pub bytes : payload_of s i ≡ take i.length (drop i.place s)
  pub long : length (payload_of s i) ≡ i.length

pub record-onward : (s : List ℕ) (c : ItemIter) (i : Item) (d : ItemIter) → next_of s c ≡ answered (yielded i d) → Onward s c i d
record-onward s c i d e =
    let y = yields s c i d e in
    let w = whole_is s c.at i.place i.length y.whole in
    let r : i.length ≤ length (drop i.place s) = omega (arith, length-drop i.place s, y.at, y.inside) in
    let b : payload_of s i ≡ take i.length (drop i.place s) = bytes-there i.length s i.place (omega (arith, y.at, y.inside)) in
    record { on = omega (arith, y.at, w.start); inside = y.inside; bytes = b; long = ap length b ∙ length-take-le i.length (drop i.place s) r }

-- and back: what a walk came past stands there
link-stands : (s : List ℕ) (c : ItemIter) (i : Item) (d : ItemIter) → Octets s → next_of s c ≡ answered (yielded i d) → drop c.at s ≡ link (payload_of s i) ++ drop d.at s
unfolding link
link-stands s c i d o e =
    let y = yields s c i d e in
    let w = whole_is s c.at i.place i.length y.whole in
    let q = record-onward s c i d e in
    let n : length (payload_of s i) ≡ i.length = q.long in
    let a : bytes 2 (little_at 2 s c.at) ++ drop (c.at + 2) s ≡ drop c.at s = bytes_back 2 s c.at o (omega (arith, w.inside)) in
    let b : payload_of s i ++ drop i.length (drop i.place s) ≡ drop i.place s =
    ap (λ x. x ++ drop i.length (drop i.place s)) q.bytes ∙ take-append-drop i.length (drop i.place s) in
    let g : drop i.length (drop i.place s) ≡ drop d.at s = drop-drop i.length i.place s ∙ ap (λ x. drop x s) (sym y.at) in
    sym a ∙ ap (λ x. bytes 2 x ++ drop (c.at + 2) s) (sym (n ∙ w.len)) ∙ ap (λ x. bytes 2 (length (payload_of s i)) ++ drop x s) (sym w.start)
    ∙ ap (λ x. bytes 2 (length (payload_of s i)) ++ x) (sym b ∙ ap (λ x. payload_of s i ++ x) g) ∙ sym (append_assoc (bytes 2 (length (payload_of s i))) (payload_of s i) (drop d.at s))

next-over : (s : List ℕ) (c : ItemIter) → c.at ≤ length s → next_of s c ≡ answered done → length s ≤ c.at
unfolding next_of
next-over s c l e =
    let t1 = passed (ltb longest (length s)) 16 _ _ e in
    let t2 = passed (ltb (length s) c.at) 1 _ _ t1.1 in
    go (leb (length s) c.at) refl t2.1
  where
    go : (b : Bool) → leb (length s) c.at ≡ b
        → pick b (answered done) (stop (ltb (length s) (c.at + 2)) 1 (stop (ltb (little_at 2 s c.at) 2) 6 (stop (ltb (length s) (c.at + 2 + little_at 2 s c.at)) 1
        (stop (leb 4294967295 c.index) 7 (answered (over_record c (little_at 2 s c.at))))))) ≡ answered done → length s ≤ c.at
    go true i g = leb-true _ _ i
    go false i g =
        let t4 = passed (ltb (length s) (c.at + 2)) 1 _ _ g in
        let t5 = passed (ltb (little_at 2 s c.at) 2) 6 _ _ t4.1 in
        let t6 = passed (ltb (length s) (c.at + 2 + little_at 2 s c.at)) 1 _ _ t5.1 in
        let t7 = passed (leb 4294967295 c.index) 7 _ _ t6.1 in
        next-apart t7.1

pub walked-links : (s : List ℕ) (c : ItemIter) (ps : List (List ℕ)) → Octets s → c.at ≤ length s → ComesPast s c ps → drop c.at s ≡ links ps
unfolding links
walked-links s c ps o l (ends e) = drop_of_length-le s (next-over s c l e)
walked-links s c ps o l (past {d = d} {i = i} {p = p} {ps = qs} e f w) =
    link-stands s c i d o e ∙ rw (f, walked-links s d qs o (record-onward s c i d e).inside w)

-- a walk comes past one list of payloads
pub walked_one : (s : List ℕ) (c : ItemIter) (ps qs : List (List ℕ)) → ComesPast s c ps → ComesPast s c qs → ps ≡ qs
walked_one s c ps qs (ends e) (ends f) = refl
walked_one s c ps qs (ends e) (past f g w) = next-apart (sym f ∙ e)
walked_one s c ps qs (past e g v) (ends f) = next-apart (sym e ∙ f)
walked_one s c ps qs (past {d = d} {i = i} {p = p} {ps = us} e g v) (past {d = b} {i = j} {p = q} {ps = vs} f k w) =
    let z : answered (yielded i d) ≡ answered (yielded j b) = sym e ∙ f in
    let x : d ≡ b = cc in
    let y : i ≡ j = cc in
    let m : p ≡ q = sym g ∙ ap (payload_of s) y ∙ k in
    let n : us ≡ vs = walked_one s d us vs v (rw (← x) at w) in
    cc

-- Fit, payload by payload ----------------------------------------------------------------------------------------------------------------

-- a walk, one record longer at its end
pub visits-more : (s : List ℕ) (c : ItemIter) (n : ℕ) (d : ItemIter) (i : Item) (e : ItemIter) → Visits s c n d → next_of s d ≡ answered (yielded i e) → Visits s c (suc n) e
visits-more s c n d i e stays f = goes f stays
visits-more s c n d i e (goes {d = x} {n = k} g v) f = goes g (visits-more s x k d i e v f)

-- a fit stream's payloads are good, and as many as its header says: from any cursor that the walk comes to
module _ (s : List ℕ) (h : Header) (c : ItemIter) (f : Fit s h c) where
  pub walked-good : (n : ℕ) (d : ItemIter) (ps : List (List ℕ)) → Visits s c n d → ComesPast s d ps → AllGood h.minimum_index d.index ps
  unfolding AllGood
  walked-good n d ps v (ends e) = tt
  walked-good n d ps v (past {d = x} {i = i} {p = p} {ps = qs} e g w) =
      let y = yields s d i x e in
      (rw (← g) (f.records n d v i x e), rw (← y.index) (walked-good (suc n) x qs (visits-more s c n d i x v e) w))

  pub walked-count : (n : ℕ) (d : ItemIter) (ps : List (List ℕ)) → Visits s c n d → ComesPast s d ps → n + length ps ≡ h.maximum_index - h.minimum_index
  walked-count n d ps v (ends e) = omega (arith, f.count n d v e)
  walked-count n d ps v (past {d = x} {i = i} {p = p} {ps = qs} e g w) = omega (arith, walked-count (suc n) x qs (visits-more s c n d i x v e) w)

-- and back: what is left of the payloads where a walk comes to
record Left (s : List ℕ) (minimum count n : ℕ) (d : ItemIter) : Type 0 where
  payloads : List (List ℕ)
  walked : ComesPast s d payloads
  good : AllGood minimum d.index payloads
  left : n + length payloads ≡ count

module _ (s : List ℕ) (minimum count : ℕ) where
  left-more : (n : ℕ) (c : ItemIter) (i : Item) (d : ItemIter) → next_of s c ≡ answered (yielded i d) → Left s minimum count n c → Left s minimum count (suc n) d
  unfolding AllGood
  left-more n c i d e r = go r.payloads r.walked r.good r.left
    where
      go : (ps : List (List ℕ)) → ComesPast s c ps → AllGood minimum c.index ps → n + length ps ≡ count → Left s minimum count (suc n) d
      go ps (ends f) g l = next-apart (sym e ∙ f)
      go ps (past {d = x} {i = j} {p = p} {ps = qs} f q w) g l =
          let z : answered (yielded j x) ≡ answered (yielded i d) = sym f ∙ e in
          let u : x ≡ d = cc in
          let a = yields s c i d e in
          record { payloads = qs; walked = rw u at w; good = rw a.index g.1; left = omega arith }

  left_at : (c : ItemIter) (k n : ℕ) (d : ItemIter) → Left s minimum count k c → Visits s c n d → Left s minimum count (k + n) d
  left_at c k n d r stays = let z : k + 0 ≡ k = omega arith in rw z r
  left_at c k n d r (goes {d = x} {i = i} {n = m} e v) =
      let z : k + suc m ≡ suc k + m = omega arith in
      rw z (left_at x (suc k) m d (left-more k c i x e r) v)

  module _ (n : ℕ) (d : ItemIter) (r : Left s minimum count n d) where
    left-walks : (m : ℕ) (es : List ℕ) → next_of s d ≡ refused m es → ⊥
    left-walks m es e = go r.payloads r.walked
      where
        go : (ps : List (List ℕ)) → ComesPast s d ps → ⊥
        go ps (ends f) = no_answer (sym e ∙ f)
        go ps (past f g w) = no_answer (sym e ∙ f)

    left-good : (i : Item) (x : ItemIter) → next_of s d ≡ answered (yielded i x) → Good minimum d.index (payload_of s i)
    unfolding AllGood
    left-good i x e = go r.payloads r.walked r.good
      where
        go : (ps : List (List ℕ)) → ComesPast s d ps → AllGood minimum d.index ps → Good minimum d.index (payload_of s i)
        go ps (ends f) g = next-apart (sym e ∙ f)
        go ps (past {d = y} {i = j} f q w) g =
            let z : answered (yielded i x) ≡ answered (yielded j y) = sym e ∙ f in
            let u : i ≡ j = cc in
            rw (ap (payload_of s) u ∙ q) g.0

    left-count : next_of s d ≡ answered done → n ≡ count
    left-count e = go r.payloads r.walked r.left
      where
        go : (ps : List (List ℕ)) → ComesPast s d ps → n + length ps ≡ count → n ≡ count
        go ps (ends f) l = omega arith
        go ps (past f g w) l = next-apart (sym f ∙ e)

pub walked-fit : (s : List ℕ) (h : Header) (c : ItemIter) (ps : List (List ℕ)) → ComesPast s c ps → AllGood h.minimum_index c.index ps
    → length ps ≡ h.maximum_index - h.minimum_index → Fit s h c
walked-fit s h c ps w g l = record {
  walks = λ n d v. left-walks s h.minimum_index (h.maximum_index - h.minimum_index) n d (at n d v);
  records = λ n d v. left-good s h.minimum_index (h.maximum_index - h.minimum_index) n d (at n d v);
  count = λ n d v. left-count s h.minimum_index (h.maximum_index - h.minimum_index) n d (at n d v);
}
  where
    at : (n : ℕ) (d : ItemIter) → Visits s c n d → Left s h.minimum_index (h.maximum_index - h.minimum_index) n d
    at n d v =
        let z : 0 + n ≡ n = omega arith in
        rw z at (left_at s h.minimum_index (h.maximum_index - h.minimum_index) c 0 n d (record { payloads = ps; walked = w; good = g; left = omega arith }) v)
