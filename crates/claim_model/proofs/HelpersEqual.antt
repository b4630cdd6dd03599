-- The helpers at any place within the bytes: optional indices, strings by leaf, padding. And the cross-module test of an index.
-- Assumes nothing.
use Rattle.std.specs.Prelude.{Option, None, Some}
use Prim.Native.Nat.{ℕ, zero, suc, ◌+◌, ◌-◌, ◌/◌, ◌%◌, ◌≤◌, ◌<◌}
use mathlib.Core.Path.{◌≡◌, refl, sym, ap, ◌∙◌}
use mathlib.Core.List.{List, [], ◌∷◌}
use mathlib.Core.Bool.{Bool, true, false}
use native.Mathlib.Omega.{arith}
use lib.ListN.{length, get_or, take as front, drop, length-drop}
use lib.Dec.{leb, eqb}
use lib.Bits.{bit_and, and_mask}
use borrow.Author.Tests.{le-leb, lt-leb, le-ltb, lt-ltb, eq-eqb, ne_eqb}
use Rattle.answer.specs.Answer.{got, ended, pick}
use Rattle.answer.specs.Tables.{among}
use Rattle.field.specs.Fields.{little_at}
use Rattle.field.specs.Indices.{no_type, no_id, optional_of, optional_at}
use Rattle.field.specs.Runs.{bytes_after}
use Rattle.field_text.specs.Texts.{to_zero, string_at, counted_string_at, string_of, more, pad, padding_after}
use Rattle.field_text.proofs.PadLaws.{pad-end, pad-stop, pad-more, pad-cut}
use Rattle.claim_model.specs.Rust.{Rust, gives, errs, if, either_true, unexpected_eof, usize_top}
use Rattle.claim_model.specs.ParseBuffer.{ParseBuffer, at, Bytes, beyond, parse, position, parse_cstring, parse_u8_pascal_string}
use Rattle.claim_model.specs.TpiHelpers.{parse_optional_type_index, parse_optional_id_index, parse_string, pad_byte, padding_loop, parse_padding, is_cross_module}
use Rattle.claim_model.specs.Equal.{Same, shown_by}
use Rattle.claim_model.specs.Shown.{read_shown, text_shown}
use Rattle.claim_model.proofs.BufferLaws.{some_left, none_left, parse-in, parse-out, peek-in, fixed_in, fixed_out, take_in, take_out, same, same_end, by_order}
use Rattle.claim_model.proofs.WordsEqual.{flag}

module _ (s : List ℕ) where
  -- ---- optional indices
  module _ (p : ℕ) where
    pub type-in : p + 4 ≤ length s → parse_optional_type_index (at s p) ≡ gives (optional_of no_type (little_at 4 s p), at s (p + 4))
    unfolding parse_optional_type_index optional_of among
    type-in h = rw (parse-in s p 4 h) (go (little_at 4 s p) (eqb (little_at 4 s p) 0) (eqb (little_at 4 s p) 0xffff))
      where
        go : (n : ℕ) (a b : Bool) → if {A = Rust (Option ℕ × ParseBuffer)} (either_true a b) (gives (None, at s (p + 4))) (gives (Some n, at s (p + 4))) ≡ gives (pick (pick a true (pick b true false)) None (Some n), at s (p + 4))
        go n true b = refl
        go n false true = refl
        go n false false = refl

    pub id-in : p + 4 ≤ length s → parse_optional_id_index (at s p) ≡ gives (optional_of no_id (little_at 4 s p), at s (p + 4))
    unfolding parse_optional_id_index optional_of among
    id-in h = rw (parse-in s p 4 h) (go (little_at 4 s p) (eqb (little_at 4 s p) 0))
      where
        go : (n : ℕ) (a : Bool) → if {A = Rust (Option ℕ × ParseBuffer)} a (gives (None, at s (p + 4))) (gives (Some n, at s (p + 4))) ≡ gives (pick (pick a true false) None (Some n), at s (p + 4))
        go n true = refl
        go n false = refl

    pub id-out : length s < p + 4 → parse_optional_id_index (at s p) ≡ errs unexpected_eof
    unfolding parse_optional_id_index
    id-out h = rw (parse-out s p 4 h)

    pub optional-in : (nones : List ℕ) → p + 4 ≤ length s → optional_at nones s p ≡ got (optional_of nones (little_at 4 s p)) (p + 4)
    unfolding optional_at
    optional-in nones h = rw (fixed_in s p 4 h)

    pub optional-out : (nones : List ℕ) → length s < p + 4 → optional_at nones s p ≡ ended
    unfolding optional_at
    optional-out nones h = rw (fixed_out s p 4 h)

    pub optional-type : Same (parse_optional_type_index (at s p)) (shown_by (read_shown s) (optional_at no_type s p))
    unfolding parse_optional_type_index
    optional-type =
        by_order (p + 4) (length s)
        (λ h. rw (type-in h, optional-in no_type h) (same _))
        (λ h. rw (parse-out s p 4 h, optional-out no_type h) same_end)

    pub optional-id : Same (parse_optional_id_index (at s p)) (shown_by (read_shown s) (optional_at no_id s p))
    optional-id =
        by_order (p + 4) (length s)
        (λ h. rw (id-in h, optional-in no_id h) (same _))
        (λ h. rw (id-out h, optional-out no_id h) same_end)

-- ---- strings
-- the search for a zero byte, counting from n
abbrev counted : ℕ → Option ℕ → Option ℕ
counted n None = None
counted n (Some i) = Some (n + i)

to-zero : (bs : List ℕ) (n : ℕ) → to_zero bs n ≡ counted n (position bs)
unfolding to_zero position
to-zero [] n = refl
to-zero (zero ∷ bs) n = ap Some (omega arith)
to-zero (suc b ∷ bs) n =
    let z : eqb (suc b) 0 ≡ false = ne_eqb (suc b) 0 (λ (e : suc b ≡ 0). omega arith) in
    rw z (to-zero bs (suc n) ∙ go (position bs))
  where
    go : (o : Option ℕ) → counted (suc n) o ≡ counted n (beyond o)
    go None = refl
    go (Some i) = ap Some (omega arith)

-- the zero byte is among the bytes
position-within : (bs : List ℕ) (i : ℕ) → position bs ≡ Some i → i < length bs
unfolding position
position-within [] i e = let z : ◌≡◌ {A = ℕ} 0 1 = cc in absurd (omega arith)
position-within (b ∷ bs) i e = go (eqb b 0) (position bs) (position-within bs) e
  where
    go : (t : Bool) (o : Option ℕ) → ((j : ℕ) → o ≡ Some j → j < length bs) → if t (Some 0) (beyond o) ≡ Some i → i < length (b ∷ bs)
    go true o f q = let z : 0 ≡ i = cc in omega arith
    go false None f q = let z : ◌≡◌ {A = ℕ} 0 1 = cc in absurd (omega arith)
    go false (Some j) f q = let z : suc j ≡ i = cc in omega (arith, f j refl)

module _ (s : List ℕ) (l : length s < usize_top) (p : ℕ) (inside : p ≤ length s) where
  there : (n : ℕ) → position (drop p s) ≡ Some n → parse_cstring (at s p) ≡ gives (front n (drop p s), at s (p + n + 1))
  unfolding parse_cstring
  there n e =
      let a : n < length (drop p s) = position-within (drop p s) n e in
      let b : n < length s - p = rw length-drop at a in
      let c : p + (n + 1) < usize_top = omega arith in
      let f : p + (n + 1) ≡ p + n + 1 = omega arith in
      rw (le-leb _ _ inside, e, lt-ltb _ _ c, f)

  shown : (n : ℕ) → position (drop p s) ≡ Some n → string_at s p ≡ got (record { place = p; length = n }) (p + n + 1)
  unfolding string_at
  shown n e =
      let d : 0 + n ≡ n = omega arith in
      rw (to-zero (drop p s) 0, e, d)

  lost : position (drop p s) ≡ None → parse_cstring (at s p) ≡ errs unexpected_eof
  unfolding parse_cstring
  lost e = rw (le-leb _ _ inside, e)

  unshown : position (drop p s) ≡ None → string_at s p ≡ ended
  unfolding string_at
  unshown e = rw (to-zero (drop p s) 0, e)

  -- a string up to its zero byte, n bytes before it; or there is none
  pub by-text : {X : Type 0}
      → ((n : ℕ) → parse_cstring (at s p) ≡ gives (front n (drop p s), at s (p + n + 1)) → string_at s p ≡ got (record { place = p; length = n }) (p + n + 1) → X)
      → (parse_cstring (at s p) ≡ errs unexpected_eof → string_at s p ≡ ended → X)
      → X
  by-text {X = X} f g = go (position (drop p s)) refl
    where
      go : (o : Option ℕ) → position (drop p s) ≡ o → X
      go None e = g (lost e) (unshown e)
      go (Some n) e = f n (there n e) (shown n e)

  pub cstring : Same (parse_cstring (at s p)) (shown_by (text_shown s) (string_at s p))
  cstring = by-text (λ n e f. rw (e, f) (same _)) (λ e f. rw (e, f) same_end)

  pub pascal-string : Same (parse_u8_pascal_string (at s p)) (shown_by (text_shown s) (counted_string_at s p))
  unfolding parse_u8_pascal_string counted_string_at bytes_after
  pascal-string =
      by_order (p + 1) (length s)
      (λ h. by_order (p + 1 + little_at 1 s p) (length s)
      (λ g. rw (parse-in s p 1 h, fixed_in s p 1 h, take_in s (p + 1) (little_at 1 s p) l g, le-ltb _ _ g) (same _))
      (λ g. rw (parse-in s p 1 h, fixed_in s p 1 h, take_out s (p + 1) (little_at 1 s p) h g, lt-ltb _ _ g) same_end))
      (λ h. rw (parse-out s p 1 h, fixed_out s p 1 h) same_end)

  pub string : (leaf : ℕ) → Same (parse_string leaf (at s p)) (shown_by (text_shown s) (string_of leaf s p))
  unfolding parse_string string_of
  string leaf =
      by_order leaf 0x1500
      (λ h. rw (le-ltb _ _ h, le-leb _ _ h) pascal-string)
      (λ h. rw (lt-ltb _ _ h, lt-leb _ _ h) cstring)

-- ---- padding
module _ (s : List ℕ) (ok : Bytes s) where
  abbrev Padded : ℕ → ℕ → Type 0
  Padded n p = Same (padding_loop n (at s p)) (shown_by (at s) (pad 0 p (drop p s)))

  byte : (p : ℕ) → little_at 1 s p ≡ get_or s p 0
  unfolding little_at
  byte p = omega arith

  -- a pad byte at p, its value b: what it takes is there, or not
  module _ (p : ℕ) (h : p < length s) (b : 0xf0 ≤ get_or s p 0) where
    abbrev all : ℕ
    all = more (get_or s p 0) + 1

    pad-in : p + all ≤ length s → pad_byte (at s p) ≡ gives (at s (p + all))
    unfolding pad_byte
    pad-in f = by_order (get_or s p 0) 0xf0 one Some
      where
        read : parse 1 (at s p) ≡ gives (get_or s p 0, at s (p + 1))
        read = parse-in s p 1 (omega arith) ∙ ap (λ (n : ℕ). gives (n, at s (p + 1))) (byte p)

        one : get_or s p 0 ≤ 0xf0 → pad_byte (at s p) ≡ gives (at s (p + all))
        one g =
            let e : all ≡ 1 = omega arith in
            rw (read, le-ltb _ _ g, e)

        Some : 0xf0 < get_or s p 0 → pad_byte (at s p) ≡ gives (at s (p + all))
        Some g =
            let w = ok.bytes p in
            let m : bit_and (get_or s p 0) 15 ≡ get_or s p 0 % 16 = and_mask (get_or s p 0) 4 in
            let o : 1 ≤ get_or s p 0 % 16 = omega arith in
            let q : p + 1 + more (get_or s p 0) ≤ length s = omega arith in
            let e : p + 1 + more (get_or s p 0) ≡ p + all = omega arith in
            rw (read, lt-ltb _ _ g, m, le-leb _ _ o, take_in s (p + 1) (more (get_or s p 0)) ok.sized q, e)

    pad-out : length s < p + all → pad_byte (at s p) ≡ errs unexpected_eof
    unfolding pad_byte
    pad-out f =
        let w = ok.bytes p in
        let g : 0xf0 < get_or s p 0 = omega arith in
        let m : bit_and (get_or s p 0) 15 ≡ get_or s p 0 % 16 = and_mask (get_or s p 0) 4 in
        let o : 1 ≤ get_or s p 0 % 16 = omega arith in
        rw (parse-in s p 1 (omega arith), byte p, lt-ltb _ _ g, m, le-leb _ _ o, take_out s (p + 1) (more (get_or s p 0)) (omega arith) (omega arith))

  loop : (n p : ℕ) → p ≤ length s → length s < p + n → Padded n p
  unfolding padding_loop
  loop zero p a b = absurd (omega arith)
  loop (suc n) p a b =
      by_order (length s) p
      (λ e. rw (none_left s p (omega arith), sym (pad-end s p e)) (same (at s p)))
      λ h. by_order 0xf0 (get_or s p 0)
      (λ g. by_order (p + all p h g) (length s)
      (λ f.
      rw (some_left s p h, peek-in s p 1 (omega arith), byte p, le-leb _ _ g, pad-in p h g f, sym (pad-more s p (all p h g) h g refl f))
      (loop n (p + all p h g) f (omega arith)))
      (λ f. rw (some_left s p h, peek-in s p 1 (omega arith), byte p, le-leb _ _ g, pad-out p h g f, sym (pad-cut s p (all p h g) h g refl f)) same_end))
      (λ g. rw (some_left s p h, peek-in s p 1 (omega arith), byte p, lt-leb _ _ g, sym (pad-stop s p h g)) (same (at s p)))

  pub padding : (p : ℕ) → p ≤ length s → Same (parse_padding (at s p)) (shown_by (at s) (padding_after s p))
  unfolding parse_padding padding_after
  padding p h = rw (le-ltb _ _ h) (loop (suc (length s)) p h (omega arith))

-- ---- an index that refers to another module
pub cross-module : (i : ℕ) → i < 4294967296 → is_cross_module i ≡ leb 0x80000000 i
cross-module i h =
    flag 31 i
    ∙ by_order 0x80000000 i
    (λ g. let e : i / 0x80000000 % 2 ≡ 1 = omega arith in rw (eq-eqb _ _ e, le-leb _ _ g))
    (λ g. let e : i / 0x80000000 % 2 ≡ 0 = omega arith in rw (e, lt-leb _ _ g))
