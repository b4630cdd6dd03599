-- R-1 of a header: reading back gives the fields. Assumes nothing.
use Prim.Native.Nat.{ℕ, suc, ◌+◌, ◌-◌, ◌*◌, ◌/◌, ◌%◌, ◌^◌, ◌≤◌, ◌<◌}
use native.Mathlib.Omega.{arith}
use mathlib.Core.Bool.{Bool, true, false}
use mathlib.Core.Path.{◌≡◌, refl, ap}
use mathlib.Core.List.{List, ◌++◌}
use lib.ListN.{length, length-append}
use lib.Dec.{ltb}
use lib.IntN.{ℤ, pos, negsuc}
use borrow.Author.Tests.{lt-ltb, le-ltb, ne_eqb, ltb-false}
use Rattle.answer.specs.Answer.{answered, stop}
use Rattle.field.specs.Fields.{little_at, twos}
use Rattle.field.specs.Bytes.{bytes}
use Rattle.stream_header.specs.declared.Header.{Header}
use Rattle.stream_header.specs.Header.{header_of, fields_of}
use Rattle.write_layout.specs.Fields.{Encoded}
use Rattle.write_header.specs.Headers.{offset_bits, header_fields, header_bytes, Fits32, Narrow, HeaderReadsBack}
use Rattle.write_header.proofs.HeaderLaws.{header-length}

-- an i32's bits are a u32, and read as two's complement they are it
small-bits : (z : ℤ) → Fits32 z → offset_bits z < 2 ^ 32
small-bits (pos n) h = omega arith
small-bits (negsuc n) h = omega arith

signed_back : (z : ℤ) → Fits32 z → twos 4 (offset_bits z) ≡ z
signed_back (pos n) h = rw (lt-ltb n (2 ^ 31) h)
signed_back (negsuc n) h =
    let e : 2 ^ 32 - suc (2 ^ 32 - suc n) ≡ n = omega arith in
    rw (le-ltb (2 ^ 32 - suc n) (2 ^ 31) (omega arith), e)

digits4 : (x : ℕ) → x < 2 ^ 32 → x % 256 + 256 * (x / 256 % 256 + 256 * (x / 256 / 256 % 256 + 256 * (x / 256 / 256 / 256 % 256 + 256 * 0))) ≡ x
digits4 x h = omega arith

digits2 : (x : ℕ) → x < 2 ^ 16 → x % 256 + 256 * (x / 256 % 256 + 256 * 0) ≡ x
digits2 x h = omega arith

fields_back : (h : Header) (ys : List ℕ) → Narrow h → fields_of (header_fields h ++ ys) ≡ h
unfolding header_fields bytes little_at
fields_back h ys n =
    simp (
      digits4 _ n.version,
      digits4 _ n.size,
      digits4 _ n.minimum,
      digits4 _ n.maximum,
      digits4 _ n.gprec,
      digits2 _ n.stream,
      digits2 _ n.pad_stream,
      digits4 _ n.key,
      digits4 _ n.bucket,
      digits4 _ (small-bits h.hash_values.offset n.values_offset),
      signed_back h.hash_values.offset n.values_offset,
      digits4 _ n.values_size,
      digits4 _ (small-bits h.ti_off.offset n.ti_offset),
      signed_back h.ti_off.offset n.ti_offset,
      digits4 _ n.ti_size,
      digits4 _ (small-bits h.hash_adj.offset n.adj_offset),
      signed_back h.hash_adj.offset n.adj_offset,
      digits4 _ n.adj_size,
    )

-- what the checks have shown
pub record Checked (h : Header) (bs : List ℕ) : Type 0 where
  pub not_small : 56 ≤ h.header_size
  pub not_large : h.header_size ≤ 1024
  pub not_low : 4096 ≤ h.minimum_index
  pub in_order : h.minimum_index ≤ h.maximum_index
  pub are : header_fields h ≡ bs

pub checked : (h : Header) (bs : List ℕ) → header_bytes h ≡ answered bs → Checked h bs
unfolding header_bytes
checked h bs e = go _ refl _ refl _ refl _ refl e
  where
    go : (a : Bool) → ltb h.header_size 56 ≡ a → (b : Bool) → ltb 1024 h.header_size ≡ b → (c : Bool) → ltb h.minimum_index 4096 ≡ c
        → (d : Bool) → ltb h.maximum_index h.minimum_index ≡ d
        → ◌≡◌ {A = Encoded} (stop a 2 (stop b 3 (stop c 4 (stop d 5 (answered (header_fields h)))))) (answered bs) → Checked h bs
    go true ea b eb c ec d ed f = let z : ◌≡◌ {A = ℕ} 0 1 = cc in absurd (omega arith)
    go false ea true eb c ec d ed f = let z : ◌≡◌ {A = ℕ} 0 1 = cc in absurd (omega arith)
    go false ea false eb true ec d ed f = let z : ◌≡◌ {A = ℕ} 0 1 = cc in absurd (omega arith)
    go false ea false eb false ec true ed f = let z : ◌≡◌ {A = ℕ} 0 1 = cc in absurd (omega arith)
    go false ea false eb false ec false ed f = record {
      not_small = ltb-false _ _ ea;
      not_large = ltb-false _ _ eb;
      not_low = ltb-false _ _ ec;
      in_order = ltb-false _ _ ed;
      are = cc;
    }

-- R-1: "Reading back gives the fields", with whatever bytes after the header
pub header-reads-back : HeaderReadsBack
unfolding header_of
header-reads-back h bs ys w n l =
    let k = checked h bs w in
    let f : fields_of (bs ++ ys) ≡ h = rw (← k.are) (fields_back h ys n) in
    let s = bs ++ ys in
    let size : little_at 4 s 4 ≡ h.header_size = ap (λ (x : Header). x.header_size) f in
    let low : little_at 4 s 8 ≡ h.minimum_index = ap (λ (x : Header). x.minimum_index) f in
    let high : little_at 4 s 12 ≡ h.maximum_index = ap (λ (x : Header). x.maximum_index) f in
    let long : h.header_size ≤ length s = omega (arith, length-append bs ys, ap length k.are, header-length h k.not_small) in
    let some : (length s ≡ 0 → ⊥) = λ e. omega (arith, k.not_small) in
    let a1 : 56 ≤ length s = omega (arith, k.not_small) in
    let t2 : ltb (little_at 4 s 4) 56 ≡ false = rw size (le-ltb _ _ k.not_small) in
    let t3 : ltb 1024 (little_at 4 s 4) ≡ false = rw size (le-ltb _ _ k.not_large) in
    let t1 : ltb (length s) (little_at 4 s 4) ≡ false = rw size (le-ltb _ _ long) in
    let t4 : ltb (little_at 4 s 8) 4096 ≡ false = rw low (le-ltb _ _ k.not_low) in
    let t5 : ltb (little_at 4 s 12) (little_at 4 s 8) ≡ false = rw (low, high) (le-ltb _ _ k.in_order) in
    rw (le-ltb _ _ l, ne_eqb _ _ some, le-ltb _ _ a1, t2, t3, t1, t4, t5) (ap answered f)
