-- What the answers say.
use Rattle.std.specs.Prelude.{ℕ, ◌+◌, true, false, List, [], ◌∷◌}
use Rattle.record_reference.specs.References.{Ref, ref}
use Rattle.record_reference.specs.declared.Reference.{Reference}
use Rattle.record_reference.specs.declared.Reference.TheVariants as reference
use Rattle.record_reference.specs.declared.References.{References}
use Rattle.record_reference.specs.declared.ElementReferences.{ElementReferences}
use Rattle.record_reference.specs.declared.ElementReferences.TheVariants as element

abbrev pub said_reference : Reference → List Ref
said_reference reference.None = []
said_reference (reference.Type p i) = ref p false i ∷ []
said_reference (reference.Optional p i) = ref p true i ∷ []

abbrev pub said_references : References → List (List Ref)
said_references r = said_reference r.first ∷ said_reference r.second ∷ said_reference r.third ∷ said_reference r.fourth ∷ []

-- of an element whose first field stands at p
abbrev pub said_of_element : ElementReferences → ℕ → List Ref
said_of_element element.None p = []
said_of_element (element.One k a) p = ref (p + k) false a ∷ []
said_of_element (element.Two k a b) p = ref (p + k) false a ∷ ref (p + k + 4) false b ∷ []
