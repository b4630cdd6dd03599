-- The shortest form, and the forms that numeric leaves are read in. Assumes nothing.
use Rattle.std.specs.Prelude.{Option, None, Some}
use Prim.Native.Nat.{ℕ, ◌+◌, ◌-◌, ◌*◌, ◌≤◌, ◌<◌, ◌^◌, suc}
use native.Mathlib.Omega.{arith}
use mathlib.Core.Bool.{Bool, true, false}
use mathlib.Core.Path.{◌≡◌, refl, ap, sym, ◌∙◌}
use mathlib.Core.List.{List, [], ◌++◌}
use lib.ListN.{length, length-append}
use lib.Dec.{leb, ltb, eqb, lit≤}
use lib.IntN.{ℤ, pos, negsuc}
use borrow.Author.Tests.{lt-ltb, le-ltb, ltb-true, ltb-false}
use Rattle.answer.specs.Answer.{answered, refused, Read, got, ended, pick, and_then}
use Rattle.answer.specs.Tables.{find}
use Rattle.field.specs.Fields.{little_at, fixed_at, twos, signed_at}
use Rattle.field.specs.Bytes.{bytes}
use Rattle.field.proofs.FieldLaws.{little-below, field-got}
use Rattle.field.proofs.ByteLaws.{length-bytes, Stands, first, next, fixed_back}
use Rattle.field_number.specs.Numbers.{Wide, signed, unsigned, prefixes, unsigned_at, wide_at, numeric_at, natural, size_at}
use Rattle.field_number.specs.Forms.{prefixed, shortest, carried, Form, form_of, Numeral, numeral_by, numeral_at, sized_by, sized_at, AllBytes}

-- How long the shortest form is -------------------------------------------------------------------------------------------------

wide-length : (prefix k n : ℕ) → length (prefixed prefix k n) ≡ 2 + k
wide-length prefix k n = length-append (bytes 2 prefix) (bytes k n) ∙ rw (length-bytes 2 prefix, length-bytes k n)

module _ (n : ℕ) where
  pub natural-2 : n < 0x8000 → 2 ≡ length (shortest (pos n))
  unfolding shortest
  natural-2 h = rw (lt-ltb n 0x8000 h) (sym (length-bytes 2 n))

  pub natural-4 : 0x8000 ≤ n → n < 2 ^ 16 → 4 ≡ length (shortest (pos n))
  unfolding shortest
  natural-4 g h = rw (le-ltb n 0x8000 g, lt-ltb n (2 ^ 16) h) (sym (wide-length 0x8002 2 n))

  pub natural-6 : 2 ^ 16 ≤ n → n < 2 ^ 32 → 6 ≡ length (shortest (pos n))
  unfolding shortest
  natural-6 g h = rw (le-ltb n 0x8000 (omega arith), le-ltb n (2 ^ 16) g, lt-ltb n (2 ^ 32) h) (sym (wide-length 0x8004 4 n))

  pub natural-10 : 2 ^ 32 ≤ n → 10 ≡ length (shortest (pos n))
  unfolding shortest
  natural-10 g = rw (le-ltb n 0x8000 (omega arith), le-ltb n (2 ^ 16) (omega arith), le-ltb n (2 ^ 32) g) (sym (wide-length 0x800a 8 n))

  pub negative-3 : n < 2 ^ 7 → 3 ≡ length (shortest (negsuc n))
  unfolding shortest
  negative-3 h = rw (lt-ltb n (2 ^ 7) h) (sym (wide-length 0x8000 1 (2 ^ 8 - suc n)))

  pub negative-4 : 2 ^ 7 ≤ n → n < 2 ^ 15 → 4 ≡ length (shortest (negsuc n))
  unfolding shortest
  negative-4 g h = rw (le-ltb n (2 ^ 7) g, lt-ltb n (2 ^ 15) h) (sym (wide-length 0x8001 2 (2 ^ 16 - suc n)))

  pub negative-6 : 2 ^ 15 ≤ n → n < 2 ^ 31 → 6 ≡ length (shortest (negsuc n))
  unfolding shortest
  negative-6 g h = rw (le-ltb n (2 ^ 7) (omega arith), le-ltb n (2 ^ 15) g, lt-ltb n (2 ^ 31) h) (sym (wide-length 0x8003 4 (2 ^ 32 - suc n)))

  pub negative-10 : 2 ^ 31 ≤ n → 10 ≡ length (shortest (negsuc n))
  unfolding shortest
  negative-10 g = rw (le-ltb n (2 ^ 7) (omega arith), le-ltb n (2 ^ 15) (omega arith), le-ltb n (2 ^ 31) g) (sym (wide-length 0x8009 8 (2 ^ 64 - suc n)))

-- no longer than a form that carries it, for a form that is k bytes long below a, 4 below b, 6 below c, and else 10
pub record AtMost (n m k a b c : ℕ) : Type 0 where
  pub most : n < a → m ≤ k
  pub most_4 : n < b → m ≤ 4
  pub most_6 : n < c → m ≤ 6
  pub most_10 : m ≤ 10

at_most : (n m k a b c : ℕ) → k ≤ 4 → (n < a → k ≡ m) → (a ≤ n → n < b → 4 ≡ m) → (b ≤ n → n < c → 6 ≡ m) → (c ≤ n → 10 ≡ m) → AtMost n m k a b c
at_most n m k a b c small few four six ten = go (ltb n a) refl (ltb n b) refl (ltb n c) refl
  where
    go : (t : Bool) → ltb n a ≡ t → (u : Bool) → ltb n b ≡ u → (v : Bool) → ltb n c ≡ v → AtMost n m k a b c
    go true t u hu v hv =
        let e = few (ltb-true n a t) in
        record { most = λ h. omega arith; most_4 = λ h. omega arith; most_6 = λ h. omega arith; most_10 = omega arith }
    go false t true u v hv =
        let f = ltb-false n a t in
        let e = four f (ltb-true n b u) in
        record { most = λ h. omega arith; most_4 = λ h. omega arith; most_6 = λ h. omega arith; most_10 = omega arith }
    go false t false u true v =
        let f = ltb-false n a t in
        let g = ltb-false n b u in
        let e = six g (ltb-true n c v) in
        record { most = λ h. omega arith; most_4 = λ h. omega arith; most_6 = λ h. omega arith; most_10 = omega arith }
    go false t false u false v =
        let f = ltb-false n a t in
        let g = ltb-false n b u in
        let i = ltb-false n c v in
        let e = ten i in
        record { most = λ h. omega arith; most_4 = λ h. omega arith; most_6 = λ h. omega arith; most_10 = omega arith }

natural-most : (n : ℕ) → AtMost n (length (shortest (pos n))) 2 0x8000 (2 ^ 16) (2 ^ 32)
natural-most n = at_most n (length (shortest (pos n))) 2 0x8000 (2 ^ 16) (2 ^ 32) (lit≤ tt) (natural-2 n) (natural-4 n) (natural-6 n) (natural-10 n)

negative-most : (n : ℕ) → AtMost n (length (shortest (negsuc n))) 3 (2 ^ 7) (2 ^ 15) (2 ^ 31)
negative-most n = at_most n (length (shortest (negsuc n))) 3 (2 ^ 7) (2 ^ 15) (2 ^ 31) (lit≤ tt) (negative-3 n) (negative-4 n) (negative-6 n) (negative-10 n)

-- What a leaf was read as -------------------------------------------------------------------------------------------------------

pub refusal : {X : Type 0} {A : Type 0} {n : ℕ} {d : List ℕ} {z : A} {q : ℕ} → ◌≡◌ {A = Read A} (refused n d) (got z q) → X
refusal {X} {A} {n} {d} {z} {q} h = let e : ◌≡◌ {A = ℕ} 0 1 = cc in absurd (omega arith)

value_in : Read ℤ → ℤ
value_in (answered g) = g.value
value_in (refused n d) = pos 0

next-in : Read ℤ → ℕ
next-in (answered g) = g.next
next-in (refused n d) = 0

-- a property of a number and its width that each of the eight forms has
pub record Each (P : ℤ → ℕ → Type 0) (s : List ℕ) : Type 0 where
  pub plain : (x : ℕ) → x < 0x8000 → P (pos x) 2
  pub i8 : (x : ℕ) → (AllBytes s → x < 2 ^ 8) → P (twos 1 x) 3
  pub i16 : (x : ℕ) → (AllBytes s → x < 2 ^ 16) → P (twos 2 x) 4
  pub u16 : (x : ℕ) → (AllBytes s → x < 2 ^ 16) → P (pos x) 4
  pub i32 : (x : ℕ) → (AllBytes s → x < 2 ^ 32) → P (twos 4 x) 6
  pub u32 : (x : ℕ) → (AllBytes s → x < 2 ^ 32) → P (pos x) 6
  pub i64 : (x : ℕ) → (AllBytes s → x < 2 ^ 64) → P (twos 8 x) 10
  pub u64 : (x : ℕ) → (AllBytes s → x < 2 ^ 64) → P (pos x) 10

-- the leaf that began at p took this many bytes, and has the property
pub record Took (P : ℤ → ℕ → Type 0) (p : ℕ) (z : ℤ) (e : ℕ) : Type 0 where
  pub width : ℕ
  pub behind : p + width ≡ e
  pub holds : P z width

module _ (P : ℤ → ℕ → Type 0) (s : List ℕ) where
  either : (p : ℕ) (z : ℤ) (e : ℕ) (t : Bool) (w : Wide) (rest : Option Wide) → (wide_at (Some w) s (p + 2) ≡ got z e → Took P p z e)
      → (wide_at rest s (p + 2) ≡ got z e → Took P p z e) → wide_at (pick t (Some w) rest) s (p + 2) ≡ got z e → Took P p z e
  either p z e true w rest f g h = f h
  either p z e false w rest f g h = g h

  -- k bytes behind a prefix, whatever is made of them
  of-fixed : (k : ℕ) (f : ℕ → ℤ) (p : ℕ) (z : ℤ) (e : ℕ) → ((x : ℕ) → (AllBytes s → x < 256 ^ k) → P (f x) (2 + k))
      → and_then (fixed_at k s (p + 2)) (λ x q. got (f x) q) ≡ got z e → Took P p z e
  unfolding fixed_at value_in next-in
  of-fixed k f p z e holds r = go (leb (p + 2 + k) (length s)) r
    where
      go : (t : Bool) → and_then (pick t (got (little_at k s (p + 2)) (p + 2 + k)) ended) (λ x q. got (f x) q) ≡ got z e → Took P p z e
      go true h =
          let a : f (little_at k s (p + 2)) ≡ z = ap value_in h in
          let c : p + 2 + k ≡ e = ap next-in h in
          record { width = 2 + k; behind = omega arith; holds = rw (← a) (holds (little_at k s (p + 2)) (λ b. little-below k s (p + 2) b)) }
      go false h = refusal h

  pub of-wide : Each P s → (p n : ℕ) (z : ℤ) (e : ℕ) → wide_at (find n prefixes) s (p + 2) ≡ got z e → Took P p z e
  unfolding find prefixes signed_at unsigned_at
  of-wide h p n z e =
      either p z e (eqb n 0x8000) (signed 1) _ (of-fixed 1 (λ x. twos 1 x) p z e h.i8)
      (either p z e (eqb n 0x8001) (signed 2) _ (of-fixed 2 (λ x. twos 2 x) p z e h.i16)
      (either p z e (eqb n 0x8002) (unsigned 2) _ (of-fixed 2 (λ x. pos x) p z e h.u16)
      (either p z e (eqb n 0x8003) (signed 4) _ (of-fixed 4 (λ x. twos 4 x) p z e h.i32)
      (either p z e (eqb n 0x8004) (unsigned 4) _ (of-fixed 4 (λ x. pos x) p z e h.u32)
      (either p z e (eqb n 0x8009) (signed 8) _ (of-fixed 8 (λ x. twos 8 x) p z e h.i64)
      (either p z e (eqb n 0x800a) (unsigned 8) None (of-fixed 8 (λ x. pos x) p z e h.u64)
      (λ r. refusal r)))))))

  pub of-numeric : Each P s → (p : ℕ) (z : ℤ) (e : ℕ) → numeric_at s p ≡ got z e → Took P p z e
  unfolding numeric_at fixed_at value_in next-in
  of-numeric h p z e r = there (leb (p + 2) (length s)) r
    where
      itself : (n : ℕ) (t : Bool) → ltb n 0x8000 ≡ t → pick t (got (pos n) (p + 2)) (wide_at (find n prefixes) s (p + 2)) ≡ got z e → Took P p z e
      itself n true t f =
          let a : pos n ≡ z = ap value_in f in
          let c : p + 2 ≡ e = ap next-in f in
          record { width = 2; behind = c; holds = rw (← a) (h.plain n (ltb-true n 0x8000 t)) }
      itself n false t f = of-wide h p n z e f

      there : (t : Bool) → and_then (pick t (got (little_at 2 s p) (p + 2)) ended) (λ n q. pick (ltb n 0x8000) (got (pos n) q) (wide_at (find n prefixes) s q)) ≡ got z e
          → Took P p z e
      there true f = itself (little_at 2 s p) (ltb (little_at 2 s p) 0x8000) refl f
      there false f = refusal f

-- two's complement is a natural number below the half, and a negative one from there up
twos-is : (Q : ℤ → Type 0) (half x : ℕ) → x < 2 * half → ((n : ℕ) → n < half → Q (pos n)) → ((n : ℕ) → n < half → Q (negsuc n))
    → Q (pick (ltb x half) (pos x) (negsuc (2 * half - suc x)))
twos-is Q half x h f g = go (ltb x half) refl
  where
    go : (t : Bool) → ltb x half ≡ t → Q (pick t (pos x) (negsuc (2 * half - suc x)))
    go true t = f x (ltb-true x half t)
    go false t = g (2 * half - suc x) (omega (arith, ltb-false x half t))

-- No form is shorter, and what reads is carried -----------------------------------------------------------------------------------

-- the property that a form of this width is no shorter than the shortest
abbrev Enough : ℤ → ℕ → Type 0
Enough z w = length (shortest z) ≤ w

enough : (s : List ℕ) → AllBytes s → Each Enough s
enough s b = record {
  plain = λ x h. (natural-most x).most h;
  i8 = λ x h. twos-is (λ z. Enough z 3) (2 ^ 7) x (h b) (λ n u. omega (arith, (natural-most n).most (omega arith))) (λ n u. (negative-most n).most u);
  i16 = λ x h. twos-is (λ z. Enough z 4) (2 ^ 15) x (h b) (λ n u. (natural-most n).most_4 (omega arith)) (λ n u. (negative-most n).most_4 u);
  u16 = λ x h. (natural-most x).most_4 (h b);
  i32 = λ x h. twos-is (λ z. Enough z 6) (2 ^ 31) x (h b) (λ n u. (natural-most n).most_6 (omega arith)) (λ n u. (negative-most n).most_6 u);
  u32 = λ x h. (natural-most x).most_6 (h b);
  i64 = λ x h. twos-is (λ z. Enough z 10) (2 ^ 63) x (h b) (λ n u. (natural-most n).most_10) (λ n u. (negative-most n).most_10);
  u64 = λ x h. (natural-most x).most_10;
}

abbrev Carried : ℤ → ℕ → Type 0
Carried z w = carried z ≡ true

natural-carried : (n : ℕ) → n < 2 ^ 64 → carried (pos n) ≡ true
unfolding carried
natural-carried n h = lt-ltb n (2 ^ 64) h

negative-carried : (n : ℕ) → n < 2 ^ 63 → carried (negsuc n) ≡ true
unfolding carried
negative-carried n h = lt-ltb n (2 ^ 63) h

all-carried : (s : List ℕ) → AllBytes s → Each Carried s
all-carried s b = record {
  plain = λ x h. natural-carried x (omega arith);
  i8 = λ x h. twos-is (λ z. Carried z 3) (2 ^ 7) x (h b) (λ n u. natural-carried n (omega arith)) (λ n u. negative-carried n (omega arith));
  i16 = λ x h. twos-is (λ z. Carried z 4) (2 ^ 15) x (h b) (λ n u. natural-carried n (omega arith)) (λ n u. negative-carried n (omega arith));
  u16 = λ x h. natural-carried x (omega (arith, h b));
  i32 = λ x h. twos-is (λ z. Carried z 6) (2 ^ 31) x (h b) (λ n u. natural-carried n (omega arith)) (λ n u. negative-carried n (omega arith));
  u32 = λ x h. natural-carried x (omega (arith, h b));
  i64 = λ x h. twos-is (λ z. Carried z 10) (2 ^ 63) x (h b) (λ n u. natural-carried n (omega arith)) (λ n u. negative-carried n u);
  u64 = λ x h. natural-carried x (h b);
}

pub fewest : (s : List ℕ) (p : ℕ) (z : ℤ) (e : ℕ) → AllBytes s → numeric_at s p ≡ got z e → p + length (shortest z) ≤ e
fewest s p z e b r = let t = of-numeric Enough s (enough s b) p z e r in omega (arith, t.behind, t.holds)

pub read-carried : (s : List ℕ) (p : ℕ) (z : ℤ) (e : ℕ) → AllBytes s → numeric_at s p ≡ got z e → carried z ≡ true
read-carried s p z e b r = (of-numeric Carried s (all-carried s b) p z e r).holds

-- from 2 to 10 bytes, whatever the bytes are
abbrev Wide10 : ℤ → ℕ → Type 0
Wide10 z w = w ≤ 10

wide10 : (s : List ℕ) → Each Wide10 s
wide10 s = record {
  plain = λ x h. lit≤ tt;
  i8 = λ x h. lit≤ tt;
  i16 = λ x h. lit≤ tt;
  u16 = λ x h. lit≤ tt;
  i32 = λ x h. lit≤ tt;
  u32 = λ x h. lit≤ tt;
  i64 = λ x h. lit≤ tt;
  u64 = λ x h. lit≤ tt;
}

pub wide-took : (s : List ℕ) (p n : ℕ) (z : ℤ) (e : ℕ) → wide_at (find n prefixes) s (p + 2) ≡ got z e → Took Wide10 p z e
wide-took s = of-wide Wide10 s (wide10 s)

pub numeric-took : (s : List ℕ) (p : ℕ) (z : ℤ) (e : ℕ) → numeric_at s p ≡ got z e → Took Wide10 p z e
numeric-took s = of-numeric Wide10 s (wide10 s)

-- What a leaf is answered with: the u16 n stands at p, and q is the place after it
module _ (s : List ℕ) (p n q : ℕ) (there : fixed_at 2 s p ≡ got n q) where
  pub plain_form : n < 0x8000 → got (record { value = pos n; form = record { width = 2; shorter = false } }) q ≡ numeral_at s p
  unfolding numeral_by numeric_at form_of
  plain_form h =
      let w : q - p ≡ 2 = omega (arith, (field-got 2 s p n q there).next) in
      let l : 2 ≤ length (shortest (pos n)) = omega (arith, natural-2 n h) in
      rw (there, lt-ltb n 0x8000 h, w, le-ltb _ _ l)

  wide-here : (z : ℤ) (e : ℕ) → wide_at (find n prefixes) s q ≡ got z e → Took Wide10 p z e
  wide-here z e r = wide-took s p n z e (rw (← (field-got 2 s p n q there).next) r)

  pub wide_from : (z : ℤ) (e : ℕ) → wide_at (find n prefixes) s q ≡ got z e → p ≤ e
  wide_from z e r = let t = wide-here z e r in omega (arith, t.behind)

  pub wide-upto : (z : ℤ) (e : ℕ) → wide_at (find n prefixes) s q ≡ got z e → e - p ≤ 10
  wide-upto z e r = let t = wide-here z e r in omega (arith, t.behind, t.holds)

  pub wide_form : 0x8000 ≤ n → (z : ℤ) (e k : ℕ) → wide_at (find n prefixes) s q ≡ got z e → k ≡ length (shortest z)
      → got (record { value = z; form = record { width = e - p; shorter = ltb k (e - p) } }) e ≡ numeral_at s p
  unfolding numeral_by numeric_at form_of
  wide_form h z e k r l = rw (there, le-ltb n 0x8000 h, r, l)

  pub wide-refused : 0x8000 ≤ n → (m : ℕ) (d : List ℕ) → wide_at (find n prefixes) s q ≡ refused m d → refused m d ≡ numeral_at s p
  unfolding numeral_by numeric_at
  wide-refused h m d r = rw (there, le-ltb n 0x8000 h, r)

-- Values, places and refusals are those of 01, and a size is a numeric leaf that is not negative -------------------------------------------

module _ {W : Type 0} (form : ℤ → ℕ → W) (s : List ℕ) (p : ℕ) where
  formed : ℤ → ℕ → Read (Numeral ℤ W)
  formed z q = got (record { value = z; form = form z (q - p) }) q

  pub numerals-before : and_then (numeral_by form s p) (λ x q. got x.value q) ≡ numeric_at s p
  unfolding numeral_by formed
  numerals-before = go (numeric_at s p)
    where
      go : (a : Read ℤ) → and_then (and_then a formed) (λ x q. got x.value q) ≡ a
      go (answered g) = refl
      go (refused n d) = refl

  sized : ℕ → ℕ → Read (Numeral ℕ W)
  sized n q = got (record { value = n; form = form (pos n) (q - p) }) q

  pub sizes-before : and_then (sized_by form s p) (λ x q. got x.value q) ≡ size_at s p
  unfolding sized_by sized
  sizes-before = go (size_at s p)
    where
      go : (a : Read ℕ) → and_then (and_then a sized) (λ x q. got x.value q) ≡ a
      go (answered g) = refl
      go (refused n d) = refl

-- the size, or 11
abbrev pub natural_of : {W : Type 0} → Numeral ℤ W → ℕ → Read (Numeral ℕ W)
natural_of x q = and_then (natural x.value q) (λ n e. got (record { value = n; form = x.form }) e)

pub sized-is : {W : Type 0} (form : ℤ → ℕ → W) (s : List ℕ) (p : ℕ) → and_then (numeral_by form s p) natural_of ≡ sized_by form s p
unfolding sized_by numeral_by size_at formed sized
sized-is {W} form s p = go (numeric_at s p)
  where
    sign : (z : ℤ) (q : ℕ) → and_then (formed form s p z q) natural_of ≡ and_then (natural z q) (sized form s p)
    sign (pos n) q = refl
    sign (negsuc n) q = refl

    go : (a : Read ℤ) → and_then (and_then a (formed form s p)) natural_of ≡ and_then (and_then a natural) (sized form s p)
    go (answered g) = sign g.value g.next
    go (refused n d) = refl

module _ (s : List ℕ) (p : ℕ) where
  pub size-refused : (n : ℕ) (d : List ℕ) → numeral_at s p ≡ refused n d → refused n d ≡ sized_at s p
  size-refused n d h = ap (λ a. and_then a natural_of) (sym h) ∙ sized-is form_of s p

  -- where not even the first two bytes are there
  pub size-short : (n : ℕ) (d : List ℕ) → refused n d ≡ fixed_at 2 s p → refused n d ≡ sized_at s p
  unfolding numeral_by numeric_at
  size-short n d h = size-refused n d (rw (sym h) refl)

  module _ (x : Numeral ℤ Form) (q n : ℕ) (h : numeral_at s p ≡ got x q) where
    either-sign : (z : ℤ) → x.value ≡ z → and_then (natural z q) (λ n e. got (record { value = n; form = x.form }) e) ≡ sized_at s p
    either-sign z e = ap (λ y. and_then (natural y q) (λ n e. got (record { value = n; form = x.form }) e)) (sym e)
        ∙ ap (λ a. and_then a natural_of) (sym h) ∙ sized-is form_of s p

    pub size-natural : x.value ≡ pos n → got (record { value = n; form = x.form }) q ≡ sized_at s p
    size-natural e = either-sign (pos n) e

    pub size-negative : x.value ≡ negsuc n → refused 11 [] ≡ sized_at s p
    size-negative e = either-sign (negsuc n) e

-- The shortest form carries its number --------------------------------------------------------------------------------------------

module _ (s : List ℕ) (p : ℕ) (ys : List ℕ) where
  -- a prefix and the k bytes x after it, read by what the table says of the prefix
  wide_back : (prefix k x : ℕ) (z : ℤ) (how : Wide) → find prefix prefixes ≡ Some how
      → ltb prefix 0x8000 ≡ false → prefix < 256 ^ 2 → x < 256 ^ k
      → ((q e : ℕ) → fixed_at k s q ≡ got x e → wide_at (Some how) s q ≡ got z e)
      → Stands s p (prefixed prefix k x) ys → numeric_at s p ≡ got z (p + length (prefixed prefix k x))
  unfolding numeric_at
  wide_back prefix k x z how t b h hx g st =
      let f = first s p (bytes 2 prefix) (bytes k x) ys st in
      let n = next s p (bytes 2 prefix) (bytes k x) ys st in
      let q = p + length (bytes 2 prefix) in
      let l : q + length (bytes k x) ≡ p + length (prefixed prefix k x) = omega (arith, length-append (bytes 2 prefix) (bytes k x)) in
      rw (fixed_back 2 prefix s p (bytes k x ++ ys) h f, b, t, g q _ (fixed_back k x s q ys hx n), l)

  unsigned_back : (prefix k n : ℕ) → find prefix prefixes ≡ Some (unsigned k) → ltb prefix 0x8000 ≡ false → prefix < 256 ^ 2 → n < 256 ^ k
      → Stands s p (prefixed prefix k n) ys → numeric_at s p ≡ got (pos n) (p + length (prefixed prefix k n))
  unfolding unsigned_at
  unsigned_back prefix k n t b h hn st = wide_back prefix k n (pos n) (unsigned k) t b h hn (λ q e f. rw f) st

  signed_back : (prefix k n half : ℕ) → find prefix prefixes ≡ Some (signed k) → ltb prefix 0x8000 ≡ false → prefix < 256 ^ 2
      → 2 ^ (8 * k - 1) ≡ half → 2 ^ (8 * k) ≡ 2 * half → 256 ^ k ≡ 2 * half → n < half
      → Stands s p (prefixed prefix k (2 * half - suc n)) ys → numeric_at s p ≡ got (negsuc n) (p + length (prefixed prefix k (2 * half - suc n)))
  unfolding signed_at
  signed_back prefix k n half t b h e1 e2 e3 hn st =
      let x = 2 * half - suc n in
      let big : half ≤ x = omega arith in
      let same : 2 * half - suc x ≡ n = omega arith in
      wide_back prefix k x (negsuc n) (signed k) t b h (omega arith) (λ q e f. rw (f, e1, e2, le-ltb _ _ big, same)) st

  plain_back : (n : ℕ) → ltb n 0x8000 ≡ true → Stands s p (bytes 2 n) ys → numeric_at s p ≡ got (pos n) (p + length (bytes 2 n))
  unfolding numeric_at
  plain_back n e st = rw (fixed_back 2 n s p ys (omega (arith, ltb-true n 0x8000 e)) st, e)

  -- a number, at each outcome of the three tests that choose its form
  natural-forms : (n : ℕ) → n < 2 ^ 64 → (a : Bool) → ltb n 0x8000 ≡ a → (b : Bool) → ltb n (2 ^ 16) ≡ b → (c : Bool) → ltb n (2 ^ 32) ≡ c
      → Stands s p (pick a (bytes 2 n) (pick b (prefixed 0x8002 2 n) (pick c (prefixed 0x8004 4 n) (prefixed 0x800a 8 n)))) ys
      → numeric_at s p ≡ got (pos n) (p + length (pick a (bytes 2 n) (pick b (prefixed 0x8002 2 n) (pick c (prefixed 0x8004 4 n) (prefixed 0x800a 8 n)))))
  unfolding find prefixes
  natural-forms n h true ea b eb c ec st = plain_back n ea st
  natural-forms n h false ea true eb c ec st = unsigned_back 0x8002 2 n refl refl (omega arith) (omega (arith, ltb-true n (2 ^ 16) eb)) st
  natural-forms n h false ea false eb true ec st = unsigned_back 0x8004 4 n refl refl (omega arith) (omega (arith, ltb-true n (2 ^ 32) ec)) st
  natural-forms n h false ea false eb false ec st = unsigned_back 0x800a 8 n refl refl (omega arith) (omega arith) st

  negative-forms : (n : ℕ) → n < 2 ^ 63 → (a : Bool) → ltb n (2 ^ 7) ≡ a → (b : Bool) → ltb n (2 ^ 15) ≡ b → (c : Bool) → ltb n (2 ^ 31) ≡ c
      → Stands s p (pick a (prefixed 0x8000 1 (2 ^ 8 - suc n)) (pick b (prefixed 0x8001 2 (2 ^ 16 - suc n)) (pick c (prefixed 0x8003 4 (2 ^ 32 - suc n)) (prefixed 0x8009 8 (2 ^ 64 - suc n))))) ys
      → numeric_at s p ≡ got (negsuc n) (p + length (pick a (prefixed 0x8000 1 (2 ^ 8 - suc n)) (pick b (prefixed 0x8001 2 (2 ^ 16 - suc n)) (pick c (prefixed 0x8003 4 (2 ^ 32 - suc n)) (prefixed 0x8009 8 (2 ^ 64 - suc n))))))
  unfolding find prefixes
  negative-forms n h true ea b eb c ec st = signed_back 0x8000 1 n (2 ^ 7) refl refl (omega arith) refl refl refl (ltb-true n (2 ^ 7) ea) st
  negative-forms n h false ea true eb c ec st = signed_back 0x8001 2 n (2 ^ 15) refl refl (omega arith) refl refl refl (ltb-true n (2 ^ 15) eb) st
  negative-forms n h false ea false eb true ec st = signed_back 0x8003 4 n (2 ^ 31) refl refl (omega arith) refl refl refl (ltb-true n (2 ^ 31) ec) st
  negative-forms n h false ea false eb false ec st = signed_back 0x8009 8 n (2 ^ 63) refl refl (omega arith) refl refl refl h st

  pub numeric-back : (z : ℤ) → carried z ≡ true → Stands s p (shortest z) ys → numeric_at s p ≡ got z (p + length (shortest z))
  unfolding shortest carried
  numeric-back (pos n) h st = natural-forms n (ltb-true _ _ h) _ refl _ refl _ refl st
  numeric-back (negsuc n) h st = negative-forms n (ltb-true _ _ h) _ refl _ refl _ refl st
