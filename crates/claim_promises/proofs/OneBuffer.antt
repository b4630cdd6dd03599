-- Successive writes into one buffer leave the bytes of all of them, one behind the other. Assumes nothing.
use Prim.Native.Nat.{ℕ, suc, ◌+◌, ◌≤◌}
use native.Mathlib.Omega.{arith}
use mathlib.Core.Bool.{Bool, true, false}
use mathlib.Core.Path.{◌≡◌, refl, sym, ap, subst, ◌∙◌}
use mathlib.Core.List.{List, [], ◌∷◌, ◌++◌, map}
use lib.ListN.{length, take, drop, length-append}
use lib.Seq.{take_at, drop_at}
use lib.Dec.{ltb}
use borrow.Author.Tests.{ltb-false}
use Rattle.answer.specs.Answer.{Answer, answered, refused, stop, then}
use Rattle.field_put.specs.Bytes.{put}
use Rattle.field_put.proofs.PutLaws.{put_is, put-none, put-put, length-put}
use Rattle.stream_item.specs.Iterator.{iter_of}
use Rattle.write_layout.specs.Fields.{Encoded}
use Rattle.write_layout.specs.Buffer.{Written, lay}
use Rattle.write_header.specs.Headers.{header_bytes}
use Rattle.write_header.specs.Streams as streams
use Rattle.write_header.specs.Streams.{WrittenAs, AllWritten, in_order, behind_length, start, HasPayloads}
use Rattle.write_header.proofs.StreamWalks.{stream-walks}
use Rattle.claim_promises.specs.OneBuffer.{laid_all, Writing, by_table, field_list, method_list, AllWriting, InOneBuffer, OneBuffer}

abbrev said : List ℕ → Encoded
said rs = answered rs

no_answer : {X A : Type 0} {n : ℕ} {d : List ℕ} {a : A} → ◌≡◌ {A = Answer A} (refused n d) (answered a) → X
no_answer {X} {A} {n} {d} {a} h = let z : ◌≡◌ {A = ℕ} 0 1 = cc in absurd (omega arith)

-- what one write and all writes behind it left
record Laid (bs : List Encoded) (o : List ℕ) (p : ℕ) (w : Written) : Type 0 where
  pub records : List (List ℕ)
  pub are : bs ≡ map said records
  pub buffer_is : w.buffer ≡ put o p (in_order records)
  pub next_is : w.next ≡ p + length (in_order records)
  pub room : p ≤ length o → w.next ≤ length o

laid : (bs : List Encoded) (o : List ℕ) (p : ℕ) (w : Written) → laid_all bs o p ≡ answered w → Laid bs o p w
unfolding laid_all in_order lay
laid [] o p w h =
    let e : record { buffer = o; next = p } ≡ w = cc in
    record {
      records = [];
      are = refl;
      buffer_is = sym (ap (λ (x : Written). x.buffer) e) ∙ sym (put-none o p);
      next_is = let n : p ≡ w.next = ap (λ (x : Written). x.next) e in omega arith;
      room = λ l. let n : p ≡ w.next = ap (λ (x : Written). x.next) e in omega arith;
    }
laid (b ∷ bs) o p w h = go b refl h (λ s q k. laid bs s q w k)
  where
    rest : (xs : List ℕ) → b ≡ answered xs → p + length xs ≤ length o → laid_all bs (put o p xs) (p + length xs) ≡ answered w → ((s : List ℕ) (q : ℕ) → laid_all bs s q ≡ answered w → Laid bs s q w) → Laid (b ∷ bs) o p w
    rest xs e l k later =
        let r : Laid bs (put o p xs) (p + length xs) w = later (put o p xs) (p + length xs) k in
        record {
          records = xs ∷ r.records;
          are = ap (λ (x : Encoded). x ∷ bs) e ∙ ap (λ (x : List Encoded). said xs ∷ x) r.are;
          buffer_is = r.buffer_is ∙ put-put o p xs (in_order r.records);
          next_is = omega (arith, r.next_is, length-append xs (in_order r.records));
          room = λ _. let m : p + length xs ≤ length (put o p xs) = rw (length-put o p xs) l in omega (arith, r.room m, length-put o p xs);
        }

    test : (xs : List ℕ) → b ≡ answered xs → (c : Bool) → ltb (length o) (p + length xs) ≡ c
        → then (stop c 19 (answered (record { buffer = put o p xs; next = p + length xs }))) (λ (v : Written). laid_all bs v.buffer v.next) ≡ answered w → ((s : List ℕ) (q : ℕ) → laid_all bs s q ≡ answered w → Laid bs s q w) → Laid (b ∷ bs) o p w
    test xs e true f k later = no_answer k
    test xs e false f k later = rest xs e (ltb-false _ _ f) k later

    go : (a : Encoded) → b ≡ a
        → then (then a (λ xs. stop (ltb (length o) (p + length xs)) 19 (answered (record { buffer = put o p xs; next = p + length xs })))) (λ (v : Written). laid_all bs v.buffer v.next) ≡ answered w
        → ((s : List ℕ) (q : ℕ) → laid_all bs s q ≡ answered w → Laid bs s q w) → Laid (b ∷ bs) o p w
    go (answered xs) e k later = test xs e (ltb (length o) (p + length xs)) refl k later
    go (refused n d) e k later = no_answer k

-- what was written is a record, a field list or a method list
written : (b : Encoded) (rs : List ℕ) → Writing b → b ≡ answered rs → WrittenAs rs
written b rs (by_table table vs) e = streams.by_table table vs e
written b rs (field_list vss) e = streams.field_list vss e
written b rs (method_list vss) e = streams.method_list vss e

head_of : List Encoded → Encoded
head_of [] = refused 0 []
head_of (b ∷ bs) = b

tail_of : List Encoded → List Encoded
tail_of [] = []
tail_of (b ∷ bs) = bs

all-written : (bs : List Encoded) (rss : List (List ℕ)) → bs ≡ map said rss → AllWriting bs → AllWritten rss
unfolding AllWriting AllWritten head_of tail_of
all-written [] [] e a = tt
all-written [] (rs ∷ rss) e a = let z : ◌≡◌ {A = ℕ} 0 (suc (length (map said rss))) = ap length e in absurd (omega arith)
all-written (b ∷ bs) [] e a = let z : ◌≡◌ {A = ℕ} (suc (length bs)) 0 = ap length e in absurd (omega arith)
all-written (b ∷ bs) (rs ∷ rss) e a = (written b rs a.0 (ap head_of e), all-written bs rss (ap tail_of e) a.1)

map-length : (rss : List (List ℕ)) → length (map said rss) ≡ length rss
map-length [] = refl
map-length (rs ∷ rss) = ap suc (map-length rss)

pub one-buffer : OneBuffer
unfolding OneBuffer head_of tail_of in_order
one-buffer h bs o w e = go (laid (header_bytes h ∷ bs) o 0 w e)
  where
    made : (hs : List ℕ) (rss : List (List ℕ)) → header_bytes h ≡ answered hs → bs ≡ map said rss → w.buffer ≡ put o 0 (hs ++ in_order rss) → w.next ≡ 0 + length (hs ++ in_order rss)
        → w.next ≤ length o → InOneBuffer h bs o w
    made hs rss f g b n r =
        let l : length (hs ++ in_order rss) ≡ w.next = omega arith in
        let i : w.buffer ≡ (hs ++ in_order rss) ++ drop (0 + length (hs ++ in_order rss)) o = b ∙ put_is o 0 (hs ++ in_order rss) (omega arith) in
        let s : take w.next w.buffer ≡ hs ++ in_order rss = ap (take w.next) i ∙ take_at (hs ++ in_order rss) (drop (0 + length (hs ++ in_order rss)) o) w.next l in
        record {
          header = hs;
          header_is = f;
          records = rss;
          records_are = g;
          stream = s;
          rest = ap (drop w.next) i ∙ drop_at (hs ++ in_order rss) (drop (0 + length (hs ++ in_order rss)) o) w.next l ∙ ap (λ (k : ℕ). drop k o) (sym n);
          walks = λ tag small a u m.
              subst (λ (x : List ℕ). (iter_of tag x ≡ answered (start tag h)) × HasPayloads x (start tag h) (map behind_length rss)) (sym s)
              (stream-walks tag h hs rss f small (all-written bs rss g a) (omega arith)
              (let c : length bs ≡ length rss = ap length g ∙ map-length rss in omega arith));
        }

    go : Laid (header_bytes h ∷ bs) o 0 w → InOneBuffer h bs o w
    go k = split k.records k.are k.buffer_is k.next_is (k.room (omega arith))
      where
        split : (rss : List (List ℕ)) → header_bytes h ∷ bs ≡ map said rss → w.buffer ≡ put o 0 (in_order rss) → w.next ≡ 0 + length (in_order rss) → w.next ≤ length o → InOneBuffer h bs o w
        split [] f b n r = let z : ◌≡◌ {A = ℕ} (suc (length bs)) 0 = ap length f in absurd (omega arith)
        split (hs ∷ rss) f b n r = made hs rss (ap head_of f) (ap tail_of f) b n r
