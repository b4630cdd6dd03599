-- What is said of references fixes the answers of `record_references` and `element_references`. Assumes nothing.
use Prim.Native.Nat.{ℕ, zero, suc, ◌+◌}
use mathlib.Core.Bool.{Bool, true, false}
use native.Mathlib.Omega.{arith}
use mathlib.Core.List.{List, [], ◌∷◌}
use mathlib.Core.Path.{◌≡◌, refl, ap, sym, ◌∙◌}
use Rattle.answer.proofs.OneOutcome.{one_of}
use Rattle.record_reference.specs.References.{Ref}
use Rattle.record_reference.specs.Said.{said_reference, said_references, said_of_element}
use Rattle.record_reference.specs.declared.Reference.{Reference}
use Rattle.record_reference.specs.declared.Reference.TheVariants as reference
use Rattle.record_reference.specs.declared.References.{References}
use Rattle.record_reference.specs.declared.ElementReferences.{ElementReferences}
use Rattle.record_reference.specs.declared.ElementReferences.TheVariants as element

-- Of a record ------------------------------------------------------------------------------------------------------------------------

abbrev kind_in : Bool → ℕ → ℕ → Reference
kind_in true p i = reference.Optional p i
kind_in false p i = reference.Type p i

abbrev hear_reference : List Ref → Reference
hear_reference [] = reference.None
hear_reference (r ∷ rs) = kind_in r.optional r.place r.index

back-reference : (r : Reference) → hear_reference (said_reference r) ≡ r
back-reference reference.None = refl
back-reference (reference.Type p i) = refl
back-reference (reference.Optional p i) = refl

abbrev slot_in : ℕ → List (List Ref) → List Ref
slot_in k [] = []
slot_in zero (x ∷ xs) = x
slot_in (suc k) (x ∷ xs) = slot_in k xs

abbrev hear_references : List (List Ref) → References
hear_references l = record { first = hear_reference (slot_in 0 l); second = hear_reference (slot_in 1 l); third = hear_reference (slot_in 2 l); fourth = hear_reference (slot_in 3 l) }

back-references : (r : References) → hear_references (said_references r) ≡ r
back-references r = rw (back-reference r.first, back-reference r.second, back-reference r.third, back-reference r.fourth)

pub one-references : (r q : References) → said_references r ≡ said_references q → r ≡ q
one-references = one_of said_references hear_references back-references

-- Of an element -----------------------------------------------------------------------------------------------------------------------

abbrev hear_element : List Ref → ElementReferences
hear_element [] = element.None
hear_element (a ∷ []) = element.One a.place a.index
hear_element (a ∷ b ∷ rs) = element.Two a.place a.index b.index

back-element : (r : ElementReferences) → hear_element (said_of_element r 0) ≡ r
back-element element.None = refl
back-element (element.One k a) = let e : 0 + k ≡ k = omega arith in ap (λ x. element.One x a) e
back-element (element.Two k a b) = let e : 0 + k ≡ k = omega arith in ap (λ x. element.Two x a b) e

one-element : (r q : ElementReferences) → said_of_element r 0 ≡ said_of_element q 0 → r ≡ q
one-element = one_of (λ r. said_of_element r 0) hear_element back-element

-- wherever the element's first field stands
pub one-element-references : (refs : ℕ → List Ref) (r q : ElementReferences) → ((p : ℕ) → said_of_element r p ≡ refs p) → ((p : ℕ) → said_of_element q p ≡ refs p) → r ≡ q
one-element-references refs r q a b = one-element r q (a 0 ∙ sym (b 0))
