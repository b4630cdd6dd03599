-- The methods of a stream, each from its bytes on: a fresh iterator, a fresh finder, the count of records; and an item's length and raw kind.
-- Assumes nothing.
use Prim.Native.Nat.{ℕ, ◌+◌, ◌-◌, ◌*◌, ◌%◌, ◌^◌, ◌≤◌, ◌<◌}
use mathlib.Core.Path.{◌≡◌, refl, ap, ◌∙◌}
use mathlib.Core.List.{List}
use native.Mathlib.Nat.{mod-eq_of_lt}
use native.Mathlib.Omega.{arith}
use lib.ListN.{length, get_or, take as front, drop, length-drop}
use lib.Seq.{length-take-le, get_or-take, get_or-drop}
use lib.Bits.{bit_or, or_shifted_r}
use lib.Dec.{eqb}
use borrow.Author.Tests.{le-leb, lt-leb, le-ltb}
use Rattle.answer.specs.Answer.{Answer, answered, refused, then}
use Rattle.field.specs.Fields.{little_at}
use Rattle.stream_header.specs.Header.{header_of}
use Rattle.stream_header.specs.declared.Header.{Header}
use Rattle.field.specs.Indices.{index_number}
use Rattle.stream_item.specs.Items.{index_of, length_of}
use Rattle.stream_view.specs.Views.{stream_named, kind_at, raw_kind_of}
use Rattle.stream_item.specs.Information.{len_of, is_empty_of}
use Rattle.stream_item.specs.Iterator.{iter_of}
use Rattle.field.specs.declared.index.Stream.{Stream}
use Rattle.stream_item.specs.declared.Entry.{Entry}
use Rattle.stream_item.specs.declared.Entry.TheVariants.{Record, Marker}
use Rattle.field.specs.declared.index.ItemIndex.{ItemIndex}
use Rattle.field.specs.declared.index.ItemIndex.TheVariants.{Types, Ids}
use Rattle.stream_finder.specs.Finder.{begun_by, create_of, create_by}
use Rattle.claim_model.specs.Rust.{gives, ◌>>=◌}
use Rattle.claim_model.specs.TpiHeader.{parse_information}
use Rattle.claim_model.specs.TpiItems.{iter, finder, item_len, item_is_empty, raw_kind, information_len, information_is_empty}
use Rattle.claim_model.specs.Equal.{Equal, Same, shown_by}
use Rattle.claim_model.specs.Shown.{information, iter_shown, finder_shown, entry_shown, Roomy, LiesIn}
use Rattle.claim_model.proofs.BufferLaws.{equal-panics, same_gives, by_order}
use Rattle.claim_model.proofs.Compose.{shown-numbered, bind-same, roomy-then}
use Rattle.claim_model.proofs.HeaderEqual.{header}
use Rattle.claim_model.proofs.CreateEqual.{first, iter-same, create-same}
use Rattle.claim_model.specs.Turns.{Lent}
use Rattle.claim_model.proofs.TurnsEqual.{Accepted, accepted}

-- ---- ItemInformation
pub start-same : (tag : Stream) (s : List ℕ) → Lent s → Same (◌>>=◌ (parse_information s) iter) (shown_by (iter_shown s) (iter_of tag s))
unfolding iter_of
start-same tag s ok =
    bind-same (parse_information s) (header_of s) (information s) iter (λ h. answered (first tag h)) (shown_by (iter_shown s)) (shown-numbered (iter_shown s)) (header s ok.short)
    λ h e. iter-same tag s h ok.short (accepted s h ok e).inside

pub creation-same : (s t : List ℕ) → Lent s → Roomy (create_of s t) → Same (◌>>=◌ (parse_information s) finder) (shown_by (finder_shown s) (create_of s t))
unfolding create_by
creation-same s t ok roomy =
    bind-same (parse_information s) (header_of s) (information s) finder (begun_by 3 t) (shown_by (finder_shown s)) (shown-numbered (finder_shown s)) (header s ok.short)
    λ h e.
    let a : Accepted s h = accepted s h ok e in
    create-same s t h a.counted a.round (roomy-then (header_of s) (begun_by 3 t) h e roomy)

module _ (s : List ℕ) (ok : Lent s) where
  pub len-same : Same (◌>>=◌ (parse_information s) information_len) (len_of s)
  unfolding information_len len_of
  len-same =
      bind-same (parse_information s) (header_of s) (information s) _ (λ h. answered (h.maximum_index - h.minimum_index)) (λ a. a) (λ e. refl) (header s ok.short)
      λ h e. same_gives _ (h.maximum_index - h.minimum_index) _ (simp (le-leb _ _ (accepted s h ok e).counted)) refl

  pub is-empty-same : Same (◌>>=◌ (parse_information s) information_is_empty) (is_empty_of s)
  unfolding information_is_empty information_len len_of is_empty_of
  is-empty-same =
      rw (regroup (header_of s))
      (bind-same (parse_information s) (header_of s) (information s) _ (λ h. answered (eqb (h.maximum_index - h.minimum_index) 0)) (λ a. a) (λ e. refl) (header s ok.short)
      λ h e. same_gives _ (eqb (h.maximum_index - h.minimum_index) 0) _ (simp (le-leb _ _ (accepted s h ok e).counted)) refl)
    where
      regroup : (a : Answer Header)
          → then (then a (λ h. answered (h.maximum_index - h.minimum_index))) (λ n. answered (eqb n 0)) ≡ then a (λ h. answered (eqb (h.maximum_index - h.minimum_index) 0))
      regroup (answered h) = refl
      regroup (refused n d) = refl

-- ---- Item
-- its payload's length is the bytes' own
pub part_length : (s : List ℕ) (p n : ℕ) → p + n ≤ length s → length (front n (drop p s)) ≡ n
part_length s p n h = length-take-le n (drop p s) (rw length-drop (omega arith))

pub item-len-is : (s : List ℕ) (e : Entry) → LiesIn s e → item_len (entry_shown s e) ≡ length_of e
item-len-is s (Record i) h = part_length s i.place i.length h
item-len-is s (Marker i) h = refl

pub item-is-empty-is : (s : List ℕ) (e : Entry) → LiesIn s e → item_is_empty (entry_shown s e) ≡ eqb (length_of e) 0
item-is-empty-is s e h = ap (λ (n : ℕ). eqb n 0) (item-len-is s e h)

-- two bytes with `|` and `<<`
joined : (a b : ℕ) → a < 256 → b < 256 → bit_or a (b * 2 ^ 8 % 2 ^ 16) ≡ a + 256 * b
joined a b ha hb =
    let c : b * 2 ^ 8 % 2 ^ 16 ≡ b * 2 ^ 8 = mod-eq_of_lt (omega arith) in
    ap (bit_or a) c ∙ or_shifted_r b 8 a ha ∙ omega arith

module _ (s : List ℕ) (ok : Lent s) (p n x : ℕ) (h : p + n ≤ length s) where
  kind-equal : Equal (raw_kind (record { index = x; bytes = front n (drop p s) })) (kind_at s p n)
  unfolding raw_kind kind_at little_at
  kind-equal =
      by_order 2 n
      (λ g.
      let a : get_or (front n (drop p s)) 0 0 ≡ get_or s p 0 = get_or-take n (drop p s) 0 0 (omega arith) ∙ get_or-drop p s 0 0 ∙ ap (λ (m : ℕ). get_or s m 0) (omega arith) in
      let b : get_or (front n (drop p s)) 1 0 ≡ get_or s (p + 1) 0 = get_or-take n (drop p s) 1 0 (omega arith) ∙ get_or-drop p s 1 0 in
      let c : get_or s p 0 + 256 * get_or s (p + 1) 0 ≡ get_or s p 0 + 256 * (get_or s (p + 1) 0 + 256 * 0) = omega arith in
      (same_gives (raw_kind (record { index = x; bytes = front n (drop p s) })) (get_or s p 0 + 256 * (get_or s (p + 1) 0 + 256 * 0)) _
      (rw (part_length s p n h, le-leb _ _ g, a, b) (ap gives (joined (get_or s p 0) (get_or s (p + 1) 0) (ok.bytes.bytes p) (ok.bytes.bytes (p + 1)) ∙ c)))
      (rw (le-ltb _ _ h, le-ltb _ _ g))).equal)
      (λ g. equal-panics (raw_kind (record { index = x; bytes = front n (drop p s) })) _ (rw (part_length s p n h, lt-leb _ _ g)))

-- an item's raw kind is that of its bytes in the stream that it names; below two bytes the crate panics
pub raw-kind-equal : (t p : List ℕ) → Lent t → Lent p → (e : Entry) → LiesIn (stream_named t p (index_of e)) e
    → Equal (raw_kind (entry_shown (stream_named t p (index_of e)) e)) (raw_kind_of t p e)
unfolding raw_kind
raw-kind-equal t p okt okp (Marker i) w = rw (le-ltb _ _ okt.short, le-ltb _ _ okp.short) refl
raw-kind-equal t p okt okp (Record i) w = rw (le-ltb _ _ okt.short, le-ltb _ _ okp.short) (go i.index (index_number i.index) w)
  where
    go : (x : ItemIndex) (m : ℕ) → i.place + i.length ≤ length (stream_named t p x)
        → Equal (raw_kind (record { index = m; bytes = front i.length (drop i.place (stream_named t p x)) })) (kind_at (stream_named t p x) i.place i.length)
    go (Types y) m v = kind-equal t okt i.place i.length m v
    go (Ids y) m v = kind-equal p okp i.place i.length m v
