-- Demand 2's word "equal": the crate's outcome and the port's answer to the same question. What panics or wraps is outside the domain.
use Rattle.std.specs.Prelude.{ℕ, ◌<◌, ◌≡◌, List, [], ◌∷◌}
use Rattle.answer.specs.Answer.{Answer, answered, refused}
use Rattle.claim_model.specs.Rust.{Rust, gives, errs, panics, wraps, Error, unexpected_eof, invalid_type_information_header, impossibly_small, unreasonably_large, minimum_low, maximum_low, type_too_short, type_not_found, type_not_indexed, unimplemented_type_kind}

-- 01's number for each of the crate's errors
abbrev pub number : Error → ℕ
number unexpected_eof = 1
number (invalid_type_information_header impossibly_small) = 2
number (invalid_type_information_header unreasonably_large) = 3
number (invalid_type_information_header minimum_low) = 4
number (invalid_type_information_header maximum_low) = 5
number type_too_short = 6
number (type_not_found i) = 8
number (type_not_indexed i h) = 9
number (unimplemented_type_kind leaf) = 10

-- and its details
abbrev pub details : Error → List ℕ
details unexpected_eof = []
details (invalid_type_information_header m) = []
details type_too_short = []
details (type_not_found i) = i ∷ []
details (type_not_indexed i h) = i ∷ h ∷ []
details (unimplemented_type_kind leaf) = leaf ∷ []

abbrev pub numbered : {A : Type 0} → Error → Answer A
numbered e = refused (number e) (details e)

-- the port's answer is the crate's, wherever the crate neither panics nor wraps
abbrev pub Equal : {A : Type 0} → Rust A → Answer A → Type 0
Equal (gives v) a = a ≡ answered v
Equal (errs e) a = a ≡ numbered e
Equal panics a = Unit
Equal wraps a = Unit

-- the crate neither panics nor wraps
abbrev pub StaysInDomain : {A : Type 0} → Rust A → Type 0
StaysInDomain (gives v) = Unit
StaysInDomain (errs e) = Unit
StaysInDomain panics = ⊥
StaysInDomain wraps = ⊥

-- the crate stays in the domain, and the answers are the same
pub record Same {A : Type 0} (r : Rust A) (a : Answer A) : Type 0 where
  pub stays : StaysInDomain r
  pub equal : Equal r a

-- an answer's value shown as another
abbrev pub shown_by : {A B : Type 0} → (A → B) → Answer A → Answer B
shown_by f (answered a) = answered (f a)
shown_by f (refused n d) = refused n d

-- "12 replaces `unreachable!()`": the same, and 12 exactly where the crate panics
abbrev pub Replaced : {A : Type 0} → Rust A → Answer A → Type 0
Replaced (gives v) a = a ≡ answered v
Replaced (errs e) a = ⊥
Replaced panics a = a ≡ refused 12 []
Replaced wraps a = ⊥

-- a method of a word that a later request excepts: what the crate gives instead of the port's answer, for every word; the two are one below the
-- smallest word that shows it, and not at that word
pub record Excepted {A : Type 0} (crate instead port : ℕ → A) (smallest : ℕ) : Type 0 where
  pub gives_instead : (w : ℕ) → crate w ≡ instead w
  pub alike_below : (w : ℕ) → w < smallest → crate w ≡ port w
  pub differs : crate smallest ≡ port smallest → ⊥

-- a step of an iterator, the crate's r and the port's a: the same, or the crate's index wraps and the port gives 7
pub data Stepwise {A B : Type 0} (f : B → A) (r : Rust A) (a : Answer B) : Type 0 where
  alike : Same r (shown_by f a) → Stepwise f r a
  used_up : r ≡ wraps → a ≡ refused 7 [] → Stepwise f r a
