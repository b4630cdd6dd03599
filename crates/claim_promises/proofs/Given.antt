-- How being refused by a number is traced through a definition: at each test it is this one that refuses, or a later one. Assumes nothing.
use Prim.Native.Nat.{ℕ}
use mathlib.Core.Bool.{Bool, true, false, not}
use mathlib.Core.Path.{◌≡◌, refl, sym, ap, ◌∙◌}
use mathlib.Core.List.{List, [], ◌∷◌}
use native.Mathlib.Omega.{arith}
use lib.Dec.{eqb}
use borrow.Author.Tests.{eqb-true, eq-eqb, not-true}
use Rattle.answer.specs.Answer.{Answer, answered, refused, pick, stop, both, then}
use Rattle.answer.specs.Tables.{among}
use Rattle.answer.specs.Refusals.{listed}
use Rattle.claim_promises.specs.Given.{by, Given, RefusedAs, refusal_of}
use Rattle.claim_promises.specs.ByTable.{Links, links_fit, fits, By, gives, refuses}
use Rattle.claim_promises.proofs.ByTable.{both_first, both-second}

-- another number, or none
pub off : {P : Type 0} → false ≡ true → P
off e = let z : ◌≡◌ {A = ℕ} 0 1 = cc in absurd (omega arith)

module _ {A : Type 0} {P : Type 0} (n : ℕ) where
  pub at-stop : (b : Bool) (m : ℕ) (x : Answer A) → (b ≡ true → eqb m n ≡ true → P) → (b ≡ false → by n x ≡ true → P) → by n (stop b m x) ≡ true → P
  at-stop true m x this later e = this refl e
  at-stop false m x this later e = later refl e

  pub at-pick : (b : Bool) (x y : Answer A) → (b ≡ true → by n x ≡ true → P) → (b ≡ false → by n y ≡ true → P) → by n (pick b x y) ≡ true → P
  at-pick true x y this later e = this refl e
  at-pick false x y this later e = later refl e

  pub at-then : {B : Type 0} (m : Answer B) (f : B → Answer A) → (by n m ≡ true → P) → ((v : B) → m ≡ answered v → by n (f v) ≡ true → P) → by n (then m f) ≡ true → P
  at-then (answered v) f this later e = later v refl e
  at-then (refused k d) f this later e = this e

-- refused by some numbers is refused by no other
pub not-by : {A : Type 0} {l : Links} {ns : List ℕ} {a : Answer A} (n : ℕ) → among n ns ≡ false → By l ns a → by n a ≡ false
unfolding fits
not-by n h gives = refl
not-by {l = l} {ns = ns} n h (refuses {n = m} {d = d} p) = go (eqb m n) refl (both_first (among m ns) (both (listed m d) (links_fit l m d)) p)
  where
    go : (b : Bool) → eqb m n ≡ b → among m ns ≡ true → b ≡ false
    go false e q = refl
    go true e q = sym (ap (λ k. among k ns) (sym (eqb-true m n e)) ∙ q) ∙ h

pub denied : {P A : Type 0} {l : Links} {ns : List ℕ} {a : Answer A} (n : ℕ) → among n ns ≡ false → By l ns a → by n a ≡ true → P
denied n h r e = off (sym (not-by n h r) ∙ e)

-- none of these numbers is one of those
unfoldable pub apart : List ℕ → List ℕ → Bool
apart [] ms = true
apart (n ∷ ns) ms = both (not (among n ms)) (apart ns ms)

apart-among : (n : ℕ) (ns ms : List ℕ) → apart ns ms ≡ true → among n ns ≡ true → among n ms ≡ false
unfolding among apart
apart-among n [] ms w p = off p
apart-among n (m ∷ ns) ms w p = go (eqb n m) refl (apart-among n ns ms (both-second (not (among m ms)) (apart ns ms) w)) p
  where
    go : (b : Bool) → eqb n m ≡ b → (among n ns ≡ true → among n ms ≡ false) → pick b true (among n ns) ≡ true → among n ms ≡ false
    go true e later q = ap (λ (k : ℕ). among k ms) (eqb-true n m e) ∙ not-true _ (both_first (not (among m ms)) (apart ns ms) w)
    go false e later q = later q

-- what b refuses a does; and where b is answered, a is refused by numbers apart from these
pub as_first : {A B : Type 0} {l : Links} (ns ms : List ℕ) (a : Answer A) (b : Answer B) → apart ns ms ≡ true → ((n : ℕ) (d : List ℕ) → b ≡ refused n d → a ≡ refused n d)
    → ((v : B) → b ≡ answered v → By l ms a) → RefusedAs ns a b
as_first {A = A} {B = B} ns ms a b w f g = record { when = f; only = λ n d i e. go b refl n d i e }
  where
    go : (c : Answer B) → b ≡ c → (n : ℕ) (d : List ℕ) → among n ns ≡ true → a ≡ refused n d → b ≡ refused n d
    go (answered v) q n d i e = off (sym (not-by n (apart-among n ns ms w i) (g v q)) ∙ (ap (by n) e ∙ eq-eqb n n refl))
    go (refused m x) q n d i e =
        let r : ◌≡◌ {A = Answer A} (refused m x) (refused n d) = sym (f m x q) ∙ e in
        let j : m ≡ n = cc in
        let k : x ≡ d = cc in
        q ∙ (ap (λ (y : ℕ). refused y x) j ∙ ap (λ (y : List ℕ). refused n y) k)

-- what follows an answer, if it is never refused by n, leaves n to it
pub given-then : {A B P : Type 0} {n : ℕ} {d : List ℕ} {m : Answer A} (f : A → Answer B) → Given n d m P → ((v : A) → by n (f v) ≡ false) → Given n d (then m f) P
given-then {n = n} {m = m} f g h = record {
  when = λ x. ap (λ y. then y f) (g.when x);
  only = at-then n m f g.only (λ v _ e. off (sym (h v) ∙ e));
}

-- an answer that is carried on is refused as it was
pub carried : {A B : Type 0} (f : A → B) (m : Answer A) → refusal_of (then m (λ a. answered (f a))) ≡ refusal_of m
carried f (answered a) = refl
carried f (refused n d) = refl
