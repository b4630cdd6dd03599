-- The laws of the tokens' lengths. Assumes nothing.
use Rattle.std.specs.Prelude.{Option}
use Prim.Native.Nat.{ℕ, suc, ◌+◌, ◌-◌, ◌/◌, ◌%◌, ◌≤◌, ◌<◌}
use native.Mathlib.Omega.{arith}
use mathlib.Core.Path.{◌≡◌, refl, ap, ◌∙◌}
use mathlib.Core.Bool.{Bool, true, false}
use mathlib.Core.List.{List, [], ◌∷◌, ◌++◌}
use lib.ListN.{length, take, drop, length-append, length-take, length-drop}
use borrow.Author.Tests.{lt-ltb, le-ltb, ne_eqb}
use Rattle.word_primitive.specs.declared.PrimitiveKind.{PrimitiveKind}
use Rattle.word_primitive.specs.declared.Indirection.{Indirection}
use Rattle.declare_spelling.specs.declared.Quals.{Quals}
use Rattle.declare_type.specs.declared.token.Token.{Token}
use Rattle.declare_type.specs.declared.token.Token.TheVariants as token
use Rattle.declare_spelling.specs.Spellings.{quoted, kind_text, indirection_text, mode_text, quals_text}
use Rattle.declare_type.specs.Tokens.{spaced, space_before, quals_in, space, decimal, extent_text, closing, text_of}
use Rattle.declare_type.specs.Lengths.{spaced_length, quals_length}

pub length-spaced : (l : List ℕ) → length (spaced l) ≡ spaced_length (length l)
length-spaced [] = refl
length-spaced (a ∷ l) = rw (ne_eqb (length (a ∷ l)) 0 (λ e. omega arith)) (length-append (a ∷ l) (quoted " "))

pub length-quals : (b : Bool) (l : List ℕ) → length (quals_in b l) ≡ quals_length b (length l)
length-quals true l = refl
length-quals false l = length-spaced l

pub length-behind : (l : List ℕ) → length (space_before l) ≡ spaced_length (length l)
length-behind [] = refl
length-behind (a ∷ l) = rw (ne_eqb (length (a ∷ l)) 0 (λ e. omega arith)) (omega arith)

-- a name: none of it, what is there of it, all of it
pub no_name : (s : List ℕ) (p n : ℕ) → length s < p → 0 ≡ length (take n (drop p s))
no_name s p n h = simp (length-take, length-drop) (omega arith)

pub cut-name : (s : List ℕ) (p n : ℕ) → length s - p < n → length s - p ≡ length (take n (drop p s))
cut-name s p n h = simp (length-take, length-drop) (omega arith)

pub whole-name : (s : List ℕ) (p n : ℕ) → n ≤ length s - p → n ≡ length (take n (drop p s))
whole-name s p n h = simp (length-take, length-drop) (omega arith)

-- one digit; one more digit
more : (k n : ℕ) → 10 ≤ n → decimal (suc k) n ≡ decimal k (n / 10) ++ (48 + n % 10) ∷ []
unfolding decimal
more k n e = rw (le-ltb n 10 e)

module _ (k n : ℕ) where
  pub decimal-none : k ≡ 0 → decimal k n ≡ []
  unfolding decimal
  decimal-none e = rw e

  pub decimal-one : 0 < k → n < 10 → decimal k n ≡ (48 + n) ∷ []
  unfolding decimal
  decimal-one h e =
      let f : k ≡ suc (k - 1) = omega arith in
      rw (f, lt-ltb _ _ e)

  pub no_digit : k ≡ 0 → length (decimal k n) ≡ 0
  unfolding decimal
  no_digit e = rw e

  pub one-digit : 0 < k → n < 10 → length (decimal k n) ≡ 1
  unfolding decimal
  one-digit h e =
      let f : k ≡ suc (k - 1) = omega arith in
      rw (f, lt-ltb _ _ e)

  pub more-is : 0 < k → 10 ≤ n → decimal k n ≡ decimal (k - 1) (n / 10) ++ (48 + n % 10) ∷ []
  more-is h e =
      let f : k ≡ suc (k - 1) = omega arith in
      ap (λ j. decimal j n) f ∙ more (k - 1) n e

  pub more-digits : 0 < k → 10 ≤ n → length (decimal k n) ≡ length (decimal (k - 1) (n / 10)) + 1
  more-digits h e = ap length (more-is h e) ∙ length-append (decimal (k - 1) (n / 10)) ((48 + n % 10) ∷ [])

module _ (s : List ℕ) (p : Token) (q : Quals) (b : Bool) where
  pub pointer-length :
      (m x y z : ℕ) → p ≡ token.Pointer m q b → x ≡ length (mode_text m) → y ≡ quals_length b z → z ≡ length (quals_text q) → x + y ≡ length (text_of s p)
  unfolding text_of
  pointer-length m x y z e ex ey ez = rw (e, ex, ey, ez, length-append (mode_text m), length-quals)

  pub primitive-length :
      (k : PrimitiveKind) (x y z u : ℕ) → p ≡ token.Primitive k q b → x ≡ spaced_length u → u ≡ length (quals_text q) → y ≡ length (kind_text k) → z ≡ length (space b)
      → x + y + z ≡ length (text_of s p)
  unfolding text_of
  primitive-length k x y z u e ex eu ey ez = rw (e, ex, eu, ey, ez, length-append (spaced (quals_text q) ++ kind_text k), length-append (spaced (quals_text q)), length-spaced)

  pub pointed-length :
      (k : PrimitiveKind) (d : Indirection) (x z y u : ℕ) → p ≡ token.Pointed k d q b → x ≡ length (kind_text k) → z ≡ length (indirection_text d) → y ≡ quals_length b u → u ≡ length (quals_text q)
      → x + 1 + z + y ≡ length (text_of s p)
  unfolding text_of
  pointed-length k d x z y u e ex ez ey eu =
      rw (e, ex, ez, ey, eu, length-append (kind_text k ++ quoted " " ++ indirection_text d), length-append (kind_text k ++ quoted " "), length-append (kind_text k), length-quals)

  pub tag-length :
      (a n x y z u : ℕ) → p ≡ token.Tag a n q b → x ≡ spaced_length u → u ≡ length (quals_text q) → y ≡ length (take n (drop a s)) → z ≡ length (space b)
      → x + y + z ≡ length (text_of s p)
  unfolding text_of
  tag-length a n x y z u e ex eu ey ez = rw (e, ex, eu, ey, ez, length-append (spaced (quals_text q) ++ take n (drop a s)), length-append (spaced (quals_text q)), length-spaced)

pub end-length : (s : List ℕ) (p : Token) (q : Quals) (x u : ℕ) → p ≡ token.End q → x ≡ spaced_length u → u ≡ length (quals_text q) → 1 + x ≡ length (text_of s p)
unfolding text_of
end-length s p q x u e ex eu = rw (e, ex, eu, length-append (quoted ")"), length-behind)

module _ (s : List ℕ) (p : Token) (c : Bool) where
  pub extent-length :
      (e : Option ℕ) (x y : ℕ) → p ≡ token.Length c e → x ≡ length (closing c) → y ≡ length (extent_text e) → x + 2 + y ≡ length (text_of s p)
  unfolding text_of
  extent-length e x y h ex ey =
      rw (h, ex, ey, length-append (closing c ++ quoted "[" ++ extent_text e), length-append (closing c ++ quoted "["), length-append (closing c)) (omega arith)

  pub begin-length : (x : ℕ) → p ≡ token.Begin c → x ≡ length (closing c) → x + 1 ≡ length (text_of s p)
  unfolding text_of
  begin-length x h ex = rw (h, ex, length-append (closing c))
