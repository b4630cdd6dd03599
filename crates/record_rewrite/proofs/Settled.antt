-- Reading is settled by the bytes from where it starts to where it ends: any other bytes that agree there are read alike. Each reader of a
-- number, a string or padding. Assumes nothing.
use Rattle.std.specs.Prelude.{Option, None, Some}
use Prim.Native.Nat.{ℕ, zero, suc, ◌+◌, ◌-◌, ◌≤◌, ◌<◌}
use native.Mathlib.Omega.{arith}
use mathlib.Core.Bool.{Bool, true, false}
use mathlib.Core.Path.{◌≡◌, refl, sym, ◌∙◌}
use mathlib.Core.List.{List, [], ◌∷◌}
use lib.ListN.{length, get_or, drop, length-drop}
use lib.Seq.{get_or-drop}
use lib.Dec.{leb, ltb}
use lib.IntN.{ℤ, pos, negsuc}
use borrow.Author.Tests.{le-leb, le-ltb, ltb-false}
use Rattle.answer.specs.Answer.{answered, Read, got, pick, stop, and_then}
use Rattle.answer.specs.Tables.{find}
use Rattle.field.specs.Fields.{little_at, fixed_at, twos, signed_at}
use Rattle.field.proofs.FieldLaws.{field-got}
use Rattle.field_text.specs.Texts.{Part, to_zero, part_or, string_at, more, pad, padding_after}
use Rattle.field_number.specs.Numbers.{Wide, signed, unsigned, prefixes, unsigned_at, wide_at, numeric_at, natural, size_at}
use Rattle.field_number.specs.Forms.{Form, form_of, Numeral, numeral_by, sized_by}
use Rattle.record_rewrite.specs.Rewrite.{Agree}
use Rattle.record_reference.proofs.ValueLaws.{no_answer}
use Rattle.record_rewrite.proofs.Taken.{from, same_place}

pub record Settled {A : Type 0} (s : List ℕ) (p : ℕ) (v : A) (q : ℕ) (read : List ℕ → Read A) : Type 0 where
  pub onward : p ≤ q
  pub inside : q ≤ length s
  pub alike : (t : List ℕ) → length t ≡ length s → Agree s t p q → read t ≡ got v q

-- Steps ---------------------------------------------------------------------------------------------------------------------------

-- one after the other
settled-then : {A B : Type 0} (s : List ℕ) (p : ℕ) (v : A) (m : ℕ) (u : B) (q : ℕ) (read : List ℕ → Read A) (f : List ℕ → A → ℕ → Read B)
    → Settled s p v m read → Settled s m u q (λ t. f t v m) → Settled s p u q (λ t. and_then (read t) (f t))
settled-then s p v m u q read f h k = record {
  onward = omega (arith, h.onward, k.onward);
  inside = k.inside;
  alike = λ t l a. rw (h.alike t l (λ i x y. a i x (omega (arith, k.onward)))) (k.alike t l (λ i x y. a i (omega (arith, h.onward)) y));
}

pub settled-from : {A B : Type 0} (s : List ℕ) (p : ℕ) (read : List ℕ → Read A) (f : List ℕ → A → ℕ → Read B) (u : B) (q : ℕ)
    → ((v : A) (m : ℕ) → read s ≡ got v m → Settled s p v m read)
    → ((v : A) (m : ℕ) → m ≤ length s → f s v m ≡ got u q → Settled s m u q (λ t. f t v m))
    → and_then (read s) (f s) ≡ got u q → Settled s p u q (λ t. and_then (read t) (f t))
settled-from s p read f u q h k e =
    let w = from (read s) (f s) _ e in
    let a = h w.value w.place w.was in
    settled-then s p w.value w.place u q read f a (k w.value w.place a.inside w.gives)

-- where nothing more is read
pub settled_here : {A : Type 0} (s : List ℕ) (p : ℕ) (v u : A) (q : ℕ) → p ≤ length s → got v p ≡ got u q → Settled s p u q (λ t. got v p)
settled_here s p v u q l h = record {
  onward = omega (arith, same_place v u p q h);
  inside = omega (arith, same_place v u p q h);
  alike = λ t i a. h;
}

-- what is made of a value
pub settled-map : {A B : Type 0} (s : List ℕ) (p : ℕ) (read : List ℕ → Read A) (g : A → ℕ → B) (u : B) (q : ℕ)
    → ((v : A) (m : ℕ) → read s ≡ got v m → Settled s p v m read)
    → and_then (read s) (λ x e. got (g x e) e) ≡ got u q → Settled s p u q (λ t. and_then (read t) (λ x e. got (g x e) e))
settled-map s p read g u q h e = settled-from s p read (λ t x e. got (g x e) e) u q h (λ v m l i. settled_here s m (g v m) u q l i) e

-- Numbers -------------------------------------------------------------------------------------------------------------------------

pub little-alike : (k : ℕ) (s t : List ℕ) (p : ℕ) → Agree s t p (p + k) → little_at k t p ≡ little_at k s p
unfolding little_at
little-alike zero s t p a = refl
little-alike (suc k) s t p a = rw (a p (omega arith) (omega arith), little-alike k s t (p + 1) (λ i x y. a i (omega arith) (omega arith)))

pub fixed-settled : (k : ℕ) (s : List ℕ) (p n q : ℕ) → fixed_at k s p ≡ got n q → Settled s p n q (λ t. fixed_at k t p)
unfolding fixed_at
fixed-settled k s p n q h =
    let g = field-got k s p n q h in
    record {
      onward = omega (arith, g.next);
      inside = omega (arith, g.next, g.room);
      alike = λ t l a.
          let r : p + k ≤ length t = omega (arith, g.room) in
          rw (le-leb _ _ r, little-alike k s t p (λ i x y. a i x (omega (arith, g.next))), g.value, g.next);
    }

unsigned-settled : (k : ℕ) (s : List ℕ) (p : ℕ) (z : ℤ) (q : ℕ) → unsigned_at k s p ≡ got z q → Settled s p z q (λ t. unsigned_at k t p)
unfolding unsigned_at
unsigned-settled k s p z q h = settled-map s p (λ t. fixed_at k t p) (λ x e. pos x) z q (fixed-settled k s p) h

signed-settled : (k : ℕ) (s : List ℕ) (p : ℕ) (z : ℤ) (q : ℕ) → signed_at k s p ≡ got z q → Settled s p z q (λ t. signed_at k t p)
unfolding signed_at
signed-settled k s p z q h = settled-map s p (λ t. fixed_at k t p) (λ x e. twos k x) z q (fixed-settled k s p) h

wide-settled : (o : Option Wide) (s : List ℕ) (p : ℕ) (z : ℤ) (q : ℕ) → wide_at o s p ≡ got z q → Settled s p z q (λ t. wide_at o t p)
wide-settled None s p z q h = no_answer h
wide-settled (Some (signed k)) s p z q h = signed-settled k s p z q h
wide-settled (Some (unsigned k)) s p z q h = unsigned-settled k s p z q h

pub numeric-settled : (s : List ℕ) (p : ℕ) (z : ℤ) (q : ℕ) → numeric_at s p ≡ got z q → Settled s p z q (λ t. numeric_at t p)
unfolding numeric_at
numeric-settled s p z q h =
    settled-from s p (λ t. fixed_at 2 t p) (λ t n e. pick (ltb n 0x8000) (got (pos n) e) (wide_at (find n prefixes) t e)) z q
    (fixed-settled 2 s p) (λ n e l g. go n e (ltb n 0x8000) l g) h
  where
    go : (n e : ℕ) (b : Bool) → e ≤ length s → pick b (got (pos n) e) (wide_at (find n prefixes) s e) ≡ got z q
        → Settled s e z q (λ t. pick b (got (pos n) e) (wide_at (find n prefixes) t e))
    go n e true l g = settled_here s e (pos n) z q l g
    go n e false l g = wide-settled (find n prefixes) s e z q g

pub size-settled : (s : List ℕ) (p n q : ℕ) → size_at s p ≡ got n q → Settled s p n q (λ t. size_at t p)
unfolding size_at
size-settled s p n q h = settled-from s p (λ t. numeric_at t p) (λ t. natural) n q (numeric-settled s p) go h
  where
    go : (z : ℤ) (e : ℕ) → e ≤ length s → natural z e ≡ got n q → Settled s e n q (λ t. natural z e)
    go (pos m) e l g = settled_here s e m n q l g
    go (negsuc m) e l g = no_answer g

-- Strings and padding -------------------------------------------------------------------------------------------------------------

none-some : {X : Type 0} {n : ℕ} → ◌≡◌ {A = Option ℕ} None (Some n) → X
none-some {X} {n} h = let z : ◌≡◌ {A = ℕ} 0 1 = cc in absurd (omega arith)

-- the zero byte is the one numbered n, where m bytes stand before these
record Zero (xs : List ℕ) (m n : ℕ) : Type 0 where
  low : m ≤ n
  high : n < m + length xs
  alike : (ys : List ℕ) → length ys ≡ length xs → ((i : ℕ) → m + i ≤ n → get_or ys i 0 ≡ get_or xs i 0) → to_zero ys m ≡ Some n

zero_settled : (xs : List ℕ) (m n : ℕ) → to_zero xs m ≡ Some n → Zero xs m n
unfolding to_zero
zero_settled [] m n h = none-some h
zero_settled (zero ∷ xs) m n h =
    let e : m ≡ n = cc in
    record { low = omega arith; high = omega arith; alike = λ ys l a. go ys l (a 0 (omega arith)) }
  where
    go : (ys : List ℕ) → length ys ≡ suc (length xs) → get_or ys 0 0 ≡ 0 → to_zero ys m ≡ Some n
    go [] l a = absurd (omega arith)
    go (zero ∷ ys) l a = h
    go (suc y ∷ ys) l a = absurd (omega arith)
zero_settled (suc x ∷ xs) m n h =
    let z = zero_settled xs (suc m) n h in
    record { low = omega (arith, z.low); high = omega (arith, z.high); alike = λ ys l a. go z ys l (a 0 (omega (arith, z.low))) (λ i b. a (suc i) (omega arith)) }
  where
    go : Zero xs (suc m) n → (ys : List ℕ) → length ys ≡ suc (length xs) → get_or ys 0 0 ≡ suc x → ((i : ℕ) → suc m + i ≤ n → get_or ys (suc i) 0 ≡ get_or xs i 0) → to_zero ys m ≡ Some n
    go z [] l a b = absurd (omega arith)
    go z (zero ∷ ys) l a b = absurd (omega arith)
    go z (suc y ∷ ys) l a b = z.alike ys (omega arith) b

pub string-settled : (s : List ℕ) (p : ℕ) (x : Part) (q : ℕ) → string_at s p ≡ got x q → Settled s p x q (λ t. string_at t p)
unfolding string_at
string-settled s p x q h = go (to_zero (drop p s) 0) refl h
  where
    go : (o : Option ℕ) → to_zero (drop p s) 0 ≡ o → part_or o p ≡ got x q → Settled s p x q (λ t. part_or (to_zero (drop p t) 0) p)
    go None e g = no_answer g
    go (Some n) e g =
        let z = zero_settled (drop p s) 0 n e in
        let k = same_place (record { place = p; length = n }) x (p + n + 1) q g in
        record {
          onward = omega arith;
          inside = omega (arith, z.high, length-drop p s);
          alike = λ t l a.
              let m : length (drop p t) ≡ length (drop p s) = omega (arith, length-drop p t, length-drop p s) in
              let f : to_zero (drop p t) 0 ≡ Some n = z.alike (drop p t) m (λ i b. get_or-drop p t i 0 ∙ a (p + i) (omega arith) (omega arith) ∙ sym (get_or-drop p s i 0)) in
              rw f g;
        }

-- where the padding at p ends: its bytes, and the byte that it ends at
record Padded (k p : ℕ) (xs : List ℕ) (q : ℕ) : Type 0 where
  onward : p ≤ q
  inside : q ≤ p + length xs
  alike : (ys : List ℕ) → length ys ≡ length xs → ((i : ℕ) → p + i ≤ q → i < length xs → get_or ys i 0 ≡ get_or xs i 0) → pad k p ys ≡ answered q

pad-settled : (k p : ℕ) (xs : List ℕ) (q : ℕ) → pad k p xs ≡ answered q → Padded k p xs q
unfolding pad
pad-settled zero p [] q h =
    let e : p ≡ q = cc in
    record { onward = omega arith; inside = omega arith; alike = λ ys l a. go ys l }
  where
    go : (ys : List ℕ) → length ys ≡ 0 → pad zero p ys ≡ answered q
    go [] l = h
    go (y ∷ ys) l = absurd (omega arith)
pad-settled (suc k) p [] q h = no_answer h
pad-settled zero p (x ∷ xs) q h = go (leb 0xf0 x) refl h (pad-settled (more x) (p + 1) xs q)
  where
    go : (b : Bool) → leb 0xf0 x ≡ b → pick b (pad (more x) (p + 1) xs) (answered p) ≡ answered q → (pad (more x) (p + 1) xs ≡ answered q → Padded (more x) (p + 1) xs q)
        → Padded zero p (x ∷ xs) q
    go true e g ih =
        let w = ih g in
        record { onward = omega (arith, w.onward); inside = omega (arith, w.inside); alike = λ ys l a. to w ys l (a 0 (omega (arith, w.onward)) (omega arith)) (λ i b c. a (suc i) (omega arith) (omega arith)) }
      where
        to : Padded (more x) (p + 1) xs q → (ys : List ℕ) → length ys ≡ suc (length xs) → get_or ys 0 0 ≡ x → ((i : ℕ) → p + 1 + i ≤ q → i < length xs → get_or ys (suc i) 0 ≡ get_or xs i 0)
            → pad zero p ys ≡ answered q
        to w [] l a b = absurd (omega arith)
        to w (y ∷ ys) l a b = rw (a, e) (w.alike ys (omega arith) b)
    go false e g ih =
        let f : p ≡ q = cc in
        record { onward = omega arith; inside = omega arith; alike = λ ys l a. to ys l (a 0 (omega arith) (omega arith)) }
      where
        to : (ys : List ℕ) → length ys ≡ suc (length xs) → get_or ys 0 0 ≡ x → pad zero p ys ≡ answered q
        to [] l a = absurd (omega arith)
        to (y ∷ ys) l a = rw (a, e) g
pad-settled (suc k) p (x ∷ xs) q h =
    let w = pad-settled k (p + 1) xs q h in
    record { onward = omega (arith, w.onward); inside = omega (arith, w.inside); alike = λ ys l a. to w ys l (λ i b c. a (suc i) (omega arith) (omega arith)) }
  where
    to : Padded k (p + 1) xs q → (ys : List ℕ) → length ys ≡ suc (length xs) → ((i : ℕ) → p + 1 + i ≤ q → i < length xs → get_or ys (suc i) 0 ≡ get_or xs i 0) → pad (suc k) p ys ≡ answered q
    to w [] l b = absurd (omega arith)
    to w (y ∷ ys) l b = w.alike ys (omega arith) b

pub record Skipped (s : List ℕ) (p q : ℕ) : Type 0 where
  pub onward : p ≤ q
  pub inside : q ≤ length s
  pub alike : (t : List ℕ) → length t ≡ length s → ((i : ℕ) → p ≤ i → i ≤ q → i < length s → get_or t i 0 ≡ get_or s i 0) → padding_after t p ≡ answered q

pub padding-settled : (s : List ℕ) (p q : ℕ) → padding_after s p ≡ answered q → Skipped s p q
unfolding padding_after
padding-settled s p q h = go (ltb (length s) p) refl h
  where
    go : (b : Bool) → ltb (length s) p ≡ b → stop b 1 (pad 0 p (drop p s)) ≡ answered q → Skipped s p q
    go true e g = no_answer g
    go false e g =
        let w = pad-settled 0 p (drop p s) q g in
        let r : p ≤ length s = ltb-false _ _ e in
        record {
          onward = w.onward;
          inside = omega (arith, w.inside, length-drop p s);
          alike = λ t l a.
              let m : length (drop p t) ≡ length (drop p s) = omega (arith, length-drop p t, length-drop p s) in
              let n : p ≤ length t = omega arith in
              rw (le-ltb _ _ n) (w.alike (drop p t) m (λ i b c. get_or-drop p t i 0 ∙ a (p + i) (omega arith) (omega arith) (omega (arith, length-drop p s)) ∙ sym (get_or-drop p s i 0)));
        }

-- What is made of a number --------------------------------------------------------------------------------------------------------

pub numeral-settled : (s : List ℕ) (p : ℕ) (x : Numeral ℤ Form) (q : ℕ) → numeral_by form_of s p ≡ got x q → Settled s p x q (λ t. numeral_by form_of t p)
unfolding numeral_by
numeral-settled s p x q h = settled-map s p (λ t. numeric_at t p) (λ z e. record { value = z; form = form_of z (e - p) }) x q (numeric-settled s p) h

pub sized-settled : (s : List ℕ) (p : ℕ) (x : Numeral ℕ Form) (q : ℕ) → sized_by form_of s p ≡ got x q → Settled s p x q (λ t. sized_by form_of t p)
unfolding sized_by
sized-settled s p x q h = settled-map s p (λ t. size_at t p) (λ n e. record { value = n; form = form_of (pos n) (e - p) }) x q (size-settled s p) h
