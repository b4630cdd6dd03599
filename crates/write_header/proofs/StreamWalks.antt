-- A stream of a written header and written records walks to done with those items. Assumes nothing.
use Prim.Native.Nat.{ℕ, suc, ◌+◌, ◌^◌, ◌≤◌, ◌<◌}
use native.Mathlib.Omega.{arith}
use mathlib.Core.Bool.{Bool, true, false}
use mathlib.Core.Path.{◌≡◌, refl, ap, sym, ◌∙◌}
use mathlib.Core.List.{List, [], ◌∷◌, ◌++◌, map, append-nil}
use lib.ListN.{length, take, drop, length-append, length-drop}
use lib.Seq.{take-append_seam, drop-append_seam}
use lib.Dec.{ltb}
use borrow.Author.Tests.{le-leb, lt-leb, le-ltb, ltb-false}
use Rattle.answer.specs.Answer.{answered, refused, stop, then}
use Rattle.answer.specs.Tables.{find}
use Rattle.field.specs.Fields.{little_at}
use Rattle.field.specs.Bytes.{bytes}
use Rattle.field.proofs.FieldLaws.{field-got}
use Rattle.field.proofs.ByteLaws.{Stands, first, next, room, fixed_back, length-bytes}
use Rattle.stream_header.specs.Header.{longest}
use Rattle.stream_item.specs.Iterator.{done, over_record, iter_of, next_of}
use Rattle.stream_item.specs.declared.iter.ItemIter.{ItemIter}
use Rattle.record_layout.specs.Fields.{number, numeral, absent, many}
use Rattle.record_layout.specs.Layouts.{Table}
use Rattle.write_layout.specs.Runs.{pads}
use Rattle.write_layout.specs.Fields.{ToWrite, Encoded, fixed_bytes, and_also}
use Rattle.write_layout.specs.Records.{written_by, write_leaf, missing, filled, whole as whole_record, record_bytes, write_record}
use Rattle.write_layout.specs.Lists.{members_bytes, field_list_bytes, methods_bytes, method_list_bytes}
use Rattle.write_layout.proofs.Back.{refusal, passed, written_both}
use Rattle.write_header.specs.Streams.{links_of, Payload, Payloads, behind_record, HasPayloads, LinksWalk, WrittenAs, by_table, field_list, method_list, AllWritten, in_order, behind_length, StreamWalks}
use Rattle.write_header.proofs.HeaderLaws.{header-length}
use Rattle.write_header.proofs.HeaderBack.{checked, header-reads-back}

module _ (s : List ℕ) (l : length s ≤ longest) where
  at-end : (c : ItemIter) → Stands s c.at [] [] → next_of s c ≡ answered done
  unfolding next_of
  at-end c st =
      let e : length (drop c.at s) ≡ 0 = ap length st.here in
      let n : length s ≤ c.at = omega (arith, length-drop c.at s) in
      rw (le-ltb _ _ l, le-ltb _ _ st.inside, le-leb _ _ n)

  module _ (c : ItemIter) (x ys : List ℕ) (p : Payload x) (st : Stands s c.at (bytes 2 (length x) ++ x) ys) where
    whole : c.at + 2 + length x ≤ length s
    whole = omega (arith, room s c.at (bytes 2 (length x) ++ x) ys st.inside st.here, length-append (bytes 2 (length x)) x, length-bytes 2 (length x))

    length-there : little_at 2 s c.at ≡ length x
    length-there =
        let f = fixed_back 2 (length x) s c.at (x ++ ys) (omega (arith, p.short)) (first s c.at (bytes 2 (length x)) x ys st) in
        sym (field-got 2 s c.at (length x) _ f).value

    one-item : c.index < 4294967295 → next_of s c ≡ answered (over_record c (length x))
    unfolding next_of
    one-item i =
        let a : c.at < length s = omega (arith, whole) in
        let b : c.at + 2 ≤ length s = omega (arith, whole) in
        let e : c.at ≤ length s = omega arith in
        rw (le-ltb _ _ l, le-ltb _ _ e, lt-leb _ _ a, le-ltb _ _ b, length-there, le-ltb _ _ p.leaf, le-ltb _ _ whole, lt-leb _ _ i)

    its-bytes : take (length x) (drop (c.at + 2) s) ≡ x
    its-bytes =
        let n = next s c.at (bytes 2 (length x)) x ys st in
        let e : c.at + length (bytes 2 (length x)) ≡ c.at + 2 = ap (λ (k : ℕ). c.at + k) (length-bytes 2 (length x)) in
        ap (take (length x)) (ap (λ (k : ℕ). drop k s) (sym e) ∙ n.here) ∙ take-append_seam x ys

  walk : (c : ItemIter) (xs : List (List ℕ)) → Payloads xs → Stands s c.at (links_of xs) [] → c.index + length xs ≤ 4294967295 → HasPayloads s c xs
  unfolding links_of Payloads HasPayloads
  walk c [] p st i = at-end c st
  walk c (x ∷ xs) p st i =
      let f = first s c.at (bytes 2 (length x) ++ x) (links_of xs) [] st in
      let n = next s c.at (bytes 2 (length x) ++ x) (links_of xs) [] st in
      let e : c.at + length (bytes 2 (length x) ++ x) ≡ c.at + 2 + length x = omega (arith, length-append (bytes 2 (length x)) x, length-bytes 2 (length x)) in
      let m : Stands s (c.at + 2 + length x) (links_of xs) [] = rw e at n in
      (one-item c x (links_of xs ++ []) p.0 f (omega arith), its-bytes c x (links_of xs ++ []) p.0 f, walk (behind_record c (length x)) xs p.1 m (omega arith))

pub links-walk : LinksWalk
unfolding iter_of
links-walk tag h hs xs w n p l i =
    let k = checked h hs w in
    let e : length hs ≡ h.header_size = sym (ap length k.are) ∙ header-length h k.not_small in
    let s = hs ++ links_of xs in
    let st : Stands s (length hs) (links_of xs) [] = record { inside = omega (arith, length-append hs (links_of xs)); here = drop-append_seam hs (links_of xs) ∙ sym (append-nil (links_of xs)) } in
    (rw (header-reads-back h hs (links_of xs) w n l), walk s l _ xs p (rw e at st) i)

-- Written records -------------------------------------------------------------------------------------------------------------------

-- one link, whose payload has its leaf
record Link (rs : List ℕ) : Type 0 where
  payload : List ℕ
  is_link : rs ≡ bytes 2 (length payload) ++ payload
  right : Payload payload

-- every record begins with its leaf, whatever follows
record-link : (leaf : ℕ) (more : Encoded) (rs : List ℕ) → record_bytes (and_also (fixed_bytes 2 leaf) more) ≡ answered rs → Link rs
unfolding record_bytes filled fixed_bytes
record-link leaf more rs w = go (and_also (fixed_bytes 2 leaf) more) refl w
  where
    go : (b : Encoded) → and_also (fixed_bytes 2 leaf) more ≡ b → then b (λ bs. whole_record (filled bs)) ≡ answered rs → Link rs
    go (refused n d) e h = refusal h
    go (answered bs) e h = test (ltb 65535 (length (filled bs))) refl h
      where
        test : (c : Bool) → ltb 65535 (length (filled bs)) ≡ c → stop c 18 (answered (bytes 2 (length (filled bs)) ++ filled bs)) ≡ answered rs → Link rs
        test true f k = refusal k
        test false f k =
            let b = written_both (fixed_bytes 2 leaf) more bs e in
            let a = passed (ltb leaf (256 ^ 2)) (bytes 2 leaf) b.first_bytes b.first_is in
            let two : length b.first_bytes ≡ 2 = ap length (sym a.bytes_are) ∙ length-bytes 2 leaf in
            let all = length-append b.first_bytes b.more_bytes in
            let pad = length-append bs (pads (missing (length bs + 2))) in
            record {
              payload = filled bs;
              is_link = cc;
              right = record { leaf = omega (arith, two, all, pad, ap length b.all_are); short = ltb-false _ _ f };
            }

table-link : (table : Table) (vs : List ToWrite) (rs : List ℕ) → write_record table vs ≡ answered rs → Link rs
unfolding write_record write_leaf record_bytes
table-link table [] rs w = refusal w
table-link table (number leaf ∷ vs) rs w = record-link leaf (written_by (find leaf table) vs) rs w
table-link table (numeral z u ∷ vs) rs w = refusal w
table-link table (absent ∷ vs) rs w = refusal w
table-link table (many x ∷ vs) rs w = refusal w

link-of : (rs : List ℕ) → WrittenAs rs → Link rs
unfolding field_list_bytes method_list_bytes
link-of rs (by_table table vs w) = table-link table vs rs w
link-of rs (field_list vss w) = record-link 0x1203 (members_bytes false vss) rs w
link-of rs (method_list vss w) = record-link 0x1206 (methods_bytes vss) rs w

payload-is : (rs : List ℕ) (k : Link rs) → behind_length rs ≡ k.payload
unfolding bytes
payload-is rs k = ap (drop 2) k.is_link

all-links : (rss : List (List ℕ)) → AllWritten rss → links_of (map behind_length rss) ≡ in_order rss
unfolding AllWritten links_of in_order
all-links [] w = refl
all-links (rs ∷ rss) w =
    let k = link-of rs w.0 in
    let e : bytes 2 (length (behind_length rs)) ++ behind_length rs ≡ rs = rw (payload-is rs k) (sym k.is_link) in
    rw (e, all-links rss w.1)

all-payloads : (rss : List (List ℕ)) → AllWritten rss → Payloads (map behind_length rss)
unfolding AllWritten Payloads
all-payloads [] w = tt
all-payloads (rs ∷ rss) w = let k = link-of rs w.0 in (rw (payload-is rs k) k.right, all-payloads rss w.1)

as_many : (rss : List (List ℕ)) → length (map behind_length rss) ≡ length rss
as_many [] = refl
as_many (rs ∷ rss) = ap suc (as_many rss)

pub stream-walks : StreamWalks
stream-walks tag h hs rss w n a l i =
    let e : links_of (map behind_length rss) ≡ in_order rss = all-links rss a in
    let m : h.minimum_index + length (map behind_length rss) ≤ 4294967295 = rw (as_many rss) i in
    rw (← e) (links-walk tag h hs (map behind_length rss) w n (all-payloads rss a) (rw e l) m)
