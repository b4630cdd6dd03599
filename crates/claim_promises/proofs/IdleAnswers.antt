-- What PlacesWhen, CreatedWhen and SectionsWhen deny: a definition that refuses by one number whatever it should answer, and is right else. Demand1's lists
-- let it pass. Assumes nothing.
use Prim.Native.Nat.{ℕ}
use native.Mathlib.Omega.{arith}
use mathlib.Core.Bool.{true, false}
use mathlib.Core.Path.{◌≡◌, refl, sym, subst, ◌∙◌}
use mathlib.Core.List.{List, [], ◌∷◌}
use lib.Dec.{eqb}
use borrow.Author.Tests.{eq-eqb}
use Rattle.answer.specs.Answer.{Answer, answered, refused}
use Rattle.answer.specs.Tables.{among}
use Rattle.stream_finder.specs.Finder.{State, create_by}
use Rattle.stream_places.specs.File.{FileForm}
use Rattle.stream_places.specs.Places.{load_by, save_by}
use Rattle.section_finder.specs.Finders as section
use Rattle.claim_promises.specs.ByTable.{elsewhere, Refuses, fits, gives, refuses}
use Rattle.claim_promises.specs.Given.{Given}
use Rattle.claim_promises.proofs.Given.{off, denied}

-- ---- a definition that refuses by k where it should answer, and is right else

abbrev idle : {A : Type 0} → ℕ → Answer A → Answer A
idle k (answered x) = refused k []
idle k (refused n d) = refused n d

-- it meets the list that has k, and each "given exactly when" of another number
pub still-listed : {A : Type 0} {ns : List ℕ} (k : ℕ) {a : Answer A} → fits elsewhere ns k [] ≡ true → Refuses ns a → Refuses ns (idle k a)
still-listed k h gives = refuses h
still-listed k h (refuses p) = refuses p

pub still-given : {A P : Type 0} (k n : ℕ) (d : List ℕ) (a : Answer A) → eqb k n ≡ false → Given n d a P → Given n d (idle k a) P
still-given k n d (answered x) h g = record {
  when = λ p. let e = g.when p in let z : ◌≡◌ {A = ℕ} 0 1 = cc in absurd (omega arith);
  only = λ y. off (sym h ∙ y);
}
still-given k n d (refused m x) h g = g

-- a list without k denies it, wherever there is an answer
no-idle : {A : Type 0} (ns : List ℕ) (k : ℕ) (a : Answer A) (x : A) → among k ns ≡ false → a ≡ answered x → Refuses ns (idle k a) → ⊥
no-idle ns k a x h e r = denied k h (subst (λ (y : Answer _). Refuses ns (idle k y)) e r) (eq-eqb k k refl)

-- so `loads-else`, `saves-else` and the two `creations-else` do: 16 is the header's, and 25 the section's
pub no-idle-load : (form : FileForm) (s f t : List ℕ) (σ : State) → load_by form s f t ≡ answered σ → Refuses (20 ∷ 21 ∷ 13 ∷ 22 ∷ []) (idle 16 (load_by form s f t)) → ⊥
unfolding among
no-idle-load form s f t σ e = no-idle (20 ∷ 21 ∷ 13 ∷ 22 ∷ []) 16 (load_by form s f t) σ refl e

pub no-idle-save : (form : FileForm) (s : List ℕ) (σ : State) (room : ℕ) (bs : List ℕ) → save_by form s σ room ≡ answered bs
    → Refuses (21 ∷ 26 ∷ 13 ∷ 19 ∷ []) (idle 16 (save_by form s σ room)) → ⊥
unfolding among
no-idle-save form s σ room bs e = no-idle (21 ∷ 26 ∷ 13 ∷ 19 ∷ []) 16 (save_by form s σ room) bs refl e

pub no-idle-creation : (shift : ℕ) (s t : List ℕ) (σ : State) → create_by shift s t ≡ answered σ → Refuses (26 ∷ 13 ∷ []) (idle 16 (create_by shift s t)) → ⊥
unfolding among
no-idle-creation shift s t σ e = no-idle (26 ∷ 13 ∷ []) 16 (create_by shift s t) σ refl e

pub no-idle-section : (shift : ℕ) (s t : List ℕ) (σ : State) → section.section_create_by shift s t ≡ answered σ → Refuses (26 ∷ 13 ∷ []) (idle 25 (section.section_create_by shift s t)) → ⊥
unfolding among
no-idle-section shift s t σ e = no-idle (26 ∷ 13 ∷ []) 25 (section.section_create_by shift s t) σ refl e
