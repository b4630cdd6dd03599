-- How being refused by the table passes from the parts of a definition to the whole. Assumes nothing.
use Prim.Native.Nat.{ℕ}
use mathlib.Core.Bool.{Bool, true, false}
use mathlib.Core.Path.{◌≡◌, refl, sym, subst}
use mathlib.Core.List.{List, [], ◌∷◌}
use lib.Dec.{eqb}
use native.Mathlib.Omega.{arith}
use borrow.Author.Tests.{eqb-true}
use Rattle.answer.specs.Answer.{Answer, pick, stop, both, then}
use Rattle.answer.specs.Tables.{among}
use Rattle.answer.specs.Refusals.{listed}
use Rattle.claim_promises.specs.ByTable.{Links, links_fit, fits, By, gives, refuses}

module _ {A : Type 0} {l : Links} {ns : List ℕ} where
  pub by-pick : (b : Bool) {x y : Answer A} → By l ns x → By l ns y → By l ns (pick b x y)
  by-pick true p q = p
  by-pick false p q = q

  pub by-stop : (b : Bool) (n : ℕ) {x : Answer A} → fits l ns n [] ≡ true → By l ns x → By l ns (stop b n x)
  by-stop true n p q = refuses p
  by-stop false n p q = q

pub by-then : {A B : Type 0} {l : Links} {ns : List ℕ} {m : Answer A} {f : A → Answer B} → By l ns m → ((a : A) → By l ns (f a)) → By l ns (then m f)
by-then gives q = q _
by-then (refuses p) q = refuses p

-- these numbers are among those
unfoldable pub within : List ℕ → List ℕ → Bool
within [] ms = true
within (n ∷ ns) ms = both (among n ms) (within ns ms)

pub both_first : (a b : Bool) → both a b ≡ true → a ≡ true
both_first true b p = refl
both_first false b p = p

pub both-second : (a b : Bool) → both a b ≡ true → b ≡ true
both-second true b p = p
both-second false b p = let z : ◌≡◌ {A = ℕ} 0 1 = cc in absurd (omega arith)

both_true : (a b : Bool) → a ≡ true → b ≡ true → both a b ≡ true
both_true true b p q = q
both_true false b p q = p

pub among-within : (n : ℕ) (ns ms : List ℕ) → within ns ms ≡ true → among n ns ≡ true → among n ms ≡ true
unfolding among within
among-within n [] ms w p = let z : ◌≡◌ {A = ℕ} 0 1 = cc in absurd (omega arith)
among-within n (m ∷ ns) ms w p = go (eqb n m) refl (among-within n ns ms (both-second (among m ms) (within ns ms) w)) p
  where
    go : (b : Bool) → eqb n m ≡ b → (among n ns ≡ true → among n ms ≡ true) → pick b true (among n ns) ≡ true → among n ms ≡ true
    go true e later q = subst (λ (k : ℕ). among k ms ≡ true) (sym (eqb-true n m e)) (both_first (among m ms) (within ns ms) w)
    go false e later q = later q

-- refused by some numbers is refused by more
pub wider : {A : Type 0} {l : Links} {ns ms : List ℕ} {a : Answer A} → within ns ms ≡ true → By l ns a → By l ms a
unfolding fits
wider w gives = gives
wider {l = l} {ns = ns} {ms = ms} w (refuses {n = n} {d = d} p) = refuses (
    both_true (among n ms) (both (listed n d) (links_fit l n d))
    (among-within n ns ms w (both_first (among n ns) (both (listed n d) (links_fit l n d)) p))
    (both-second (among n ns) (both (listed n d) (links_fit l n d)) p))
