-- R-9 of document 02: "every record and every list element decodes". And that a payload has references exactly then.
use Rattle.std.specs.Prelude.{ℕ, ◌≡◌, List}
use Rattle.answer.specs.Answer.{Answer, answered, refused}
use Rattle.record_layout.specs.Fields.{Shown}
use Rattle.record_layout.specs.Layouts.{type_leaves, record_of}
use Rattle.record_list.specs.declared.ListCursor.{ListCursor}
use Rattle.record_list.specs.Lists.{ElementValues, start_types, step_of, element_by}
use Rattle.record_reference.specs.References.{Ref, refs_of}

-- an element is there, or "there is no such element", 15, which ends a list
abbrev pub Decodes : Answer ElementValues → Type 0
Decodes (answered x) = Unit
Decodes (refused n d) = n ≡ 15

pub record Decoded (payload : List ℕ) : Type 0 where
  pub values : List Shown
  pub reads : record_of type_leaves payload ≡ answered values
  pub elements : (c : ListCursor) → start_types payload ≡ answered c → (k : ℕ) → Decodes (element_by (step_of payload) k c)

pub record Has (payload : List ℕ) : Type 0 where
  pub refs : List Ref
  pub are : refs_of payload ≡ answered refs

pub record HasExactly : Type 0 where
  pub decoded_has : (s : List ℕ) → Decoded s → Has s
  pub has_decoded : (s : List ℕ) → Has s → Decoded s
