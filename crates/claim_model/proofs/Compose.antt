-- One equality after another: where a part is equal, and what is done next with its value is, the whole is. Assumes nothing.
use Prim.Native.Nat.{ℕ}
use mathlib.Core.Path.{◌≡◌, refl, ap, ◌∙◌, subst}
use mathlib.Core.List.{List, []}
use native.Mathlib.Omega.{arith}
use Rattle.answer.specs.Answer.{Answer, answered, refused, then}
use Rattle.claim_model.specs.Rust.{Rust, gives, errs, panics, wraps, ◌>>=◌, Error, unexpected_eof, invalid_type_information_header, impossibly_small, unreasonably_large, minimum_low, maximum_low, type_too_short, type_not_found, type_not_indexed, unimplemented_type_kind}
use Rattle.claim_model.specs.Equal.{numbered, Equal, StaysInDomain, Same, shown_by}
use Rattle.claim_model.specs.Shown.{unlinked, Roomy}

-- a refusal of one kind of answer as one of another kind
abbrev recast : {A B : Type 0} → Answer A → Answer B
recast (answered a) = refused 0 []
recast (refused n d) = refused n d

-- what shows an answer leaves an error's number and details
pub shown-numbered : {A B : Type 0} (f : A → B) (e : Error) → shown_by f (numbered e) ≡ numbered e
shown-numbered f e = refl

pub unlinked-numbered : (s : List ℕ) (e : Error) → unlinked s (numbered e) ≡ numbered e
unlinked-numbered s unexpected_eof = refl
unlinked-numbered s (invalid_type_information_header impossibly_small) = refl
unlinked-numbered s (invalid_type_information_header unreasonably_large) = refl
unlinked-numbered s (invalid_type_information_header minimum_low) = refl
unlinked-numbered s (invalid_type_information_header maximum_low) = refl
unlinked-numbered s type_too_short = refl
unlinked-numbered s (type_not_found i) = refl
unlinked-numbered s (type_not_indexed i h) = refl
unlinked-numbered s (unimplemented_type_kind leaf) = refl

-- r and then k in the crate, a and then j in the port; f and g show the port's values as the crate's
pub bind-equal : {A B C D : Type 0} (r : Rust A) (a : Answer B) (f : B → A) (k : A → Rust C) (j : B → Answer D) (g : Answer D → Answer C)
    → ((e : Error) → g (numbered e) ≡ numbered e)
    → Equal r (shown_by f a) → ((b : B) → a ≡ answered b → Equal (k (f b)) (g (j b)))
    → Equal (◌>>=◌ r k) (g (then a j))
bind-equal (gives v) (answered b) f k j g nu q c =
    let e : f b ≡ v = cc in
    subst (λ x. Equal (k x) (g (j b))) e (c b refl)
bind-equal (gives v) (refused n d) f k j g nu q c = let z : ◌≡◌ {A = ℕ} 0 1 = cc in absurd (omega arith)
bind-equal (errs e) (answered b) f k j g nu q c = let z : ◌≡◌ {A = ℕ} 0 1 = cc in absurd (omega arith)
bind-equal (errs e) (refused n d) f k j g nu q c = ap g (ap recast q) ∙ nu e
bind-equal panics a f k j g nu q c = tt
bind-equal wraps a f k j g nu q c = tt

pub stays-bind : {A B : Type 0} (r : Rust A) (k : A → Rust B) → StaysInDomain r → ((a : A) → StaysInDomain (k a)) → StaysInDomain (◌>>=◌ r k)
stays-bind (gives a) k s h = h a
stays-bind (errs e) k s h = tt
stays-bind panics k s h = s
stays-bind wraps k s h = s

pub bind-same : {A B C D : Type 0} (r : Rust A) (a : Answer B) (f : B → A) (k : A → Rust C) (j : B → Answer D) (g : Answer D → Answer C)
    → ((e : Error) → g (numbered e) ≡ numbered e)
    → Same r (shown_by f a)
    → ((b : B) → a ≡ answered b → Same (k (f b)) (g (j b)))
    → Same (◌>>=◌ r k) (g (then a j))
bind-same (gives v) (answered b) f k j g nu q c =
    let e : f b ≡ v = cc q.equal in
    subst (λ x. Same (k x) (g (j b))) e (c b refl)
bind-same (gives v) (refused n d) f k j g nu q c = let y = q.equal in let z : ◌≡◌ {A = ℕ} 0 1 = cc in absurd (omega arith)
bind-same (errs e) a f k j g nu q c = record { stays = tt; equal = bind-equal (errs e) a f k j g nu q.equal (λ b h. (c b h).equal) }
bind-same panics a f k j g nu q c = absurd q.stays
bind-same wraps a f k j g nu q c = absurd q.stays

-- room for the whole is room for the parts
pub roomy-first : {A B : Type 0} (a : Answer A) (j : A → Answer B) → Roomy (then a j) → Roomy a
roomy-first (answered x) j h d e = let z : ◌≡◌ {A = ℕ} 0 1 = cc in absurd (omega arith)
roomy-first (refused n d₀) j h d e = h d (ap recast e)

pub roomy-then : {A B : Type 0} (a : Answer A) (j : A → Answer B) (x : A) → a ≡ answered x → Roomy (then a j) → Roomy (j x)
roomy-then a j x e h = rw e at h
