-- What a piece of the crate's Rust does: it gives a value, returns an error, panics or wraps. The transcriptions are written in these words.
-- A function of `&mut self` gives the new self beside its value; after an error none is given: an iterator is compared up to its first
-- refusal. Aborts (memory, stack) are not modelled.
use Rattle.std.specs.Prelude.{ℕ, ◌-◌, ◌%◌, Bool, true, false, List, [], ◌∷◌, leb, ltb, eqb}
use Rattle.answer.specs.Tables.{Line, ◌is◌}

-- the texts of header.rs 94, 98, 108 and 113
pub data Message : Type 0 where
  impossibly_small unreasonably_large minimum_low maximum_low : Message

-- common.rs 24 to 111: the errors that the parts carried over can return
pub data Error : Type 0 where
  unexpected_eof : Error
  invalid_type_information_header : Message → Error
  type_too_short : Error
  type_not_found : ℕ → Error
  type_not_indexed : ℕ → ℕ → Error
  unimplemented_type_kind : ℕ → Error

pub data Rust (A : Type 0) : Type 0 where
  gives : A → Rust A
  errs : Error → Rust A
  panics : Rust A
  wraps : Rust A

-- `?`, and the next statement
infixr 20 ◌>>=◌
infixr 20 ◌>>◌
abbrev pub ◌>>=◌ : {A B : Type 0} → Rust A → (A → Rust B) → Rust B
◌>>=◌ (gives a) k = k a
◌>>=◌ (errs e) k = errs e
◌>>=◌ panics k = panics
◌>>=◌ wraps k = wraps

abbrev pub ◌>>◌ : {A B : Type 0} → Rust A → Rust B → Rust B
◌>>◌ m k = ◌>>=◌ m (λ _. k)

abbrev pub if : {A : Type 0} → Bool → A → A → A
if true a b = a
if false a b = b

-- `!`, `&&`, `||`
abbrev pub not : Bool → Bool
not b = if b false true

abbrev pub and : Bool → Bool → Bool
and a b = if a b false

abbrev pub either_true : Bool → Bool → Bool
either_true a b = if a true b

-- `if b { return Err(e); }`
abbrev pub err_if : Bool → Error → Rust (Unit {0})
err_if true e = errs e
err_if false e = gives tt

-- `assert!(b)`, and the bounds of a slice `&s[p..]`
abbrev pub assert : Bool → Rust (Unit {0})
assert true = gives tt
assert false = panics

-- `.expect(..)`
abbrev pub expect : {A : Type 0} → Rust A → Rust A
expect (gives a) = gives a
expect (errs e) = panics
expect panics = panics
expect wraps = wraps

-- `match n { k => .., .., _ => other }`: the first arm of that number
unfoldable pub match : {A : Type 0} → ℕ → List (Line A) → A → A
match n [] other = other
match n ((k is a) ∷ arms) other = if (eqb n k) a (match n arms other)

-- a sum that fits below the top of its type, or a wrap
abbrev pub fits_below : ℕ → ℕ → Rust ℕ
fits_below top n = if (ltb n top) (gives n) wraps

-- a difference that is not below zero, or a wrap
abbrev pub lessens : ℕ → ℕ → Rust ℕ
lessens a b = if (leb b a) (gives (a - b)) wraps

-- `as`: the low bits
abbrev pub as_u8 : ℕ → ℕ
as_u8 n = n % 256

abbrev pub as_u32 : ℕ → ℕ
as_u32 n = n % 4294967296

abbrev pub u32_top : ℕ
u32_top = 4294967296

abbrev pub usize_top : ℕ
usize_top = 18446744073709551616
