-- Document 01: a list reader "walks" its bytes. What a step of a lent reader answers, and the cursor after it.
use Rattle.std.specs.Prelude.{Result, ◌≡◌}
use Rattle.record_list.specs.declared.Element.{Element}
use Rattle.answer.specs.declared.Refusal.{Refusal}
use Rattle.answer.specs.Answer.{Answer, answered, refused}
use Rattle.record_list.specs.Lists.{ElementValues, Step}
use Rattle.record_list.specs.declared.ListCursor.{ListCursor}
use Rattle.answer.specs.Refusals.{said}
use Rattle.record_list.specs.Said.{element_values}

-- of a step's answer the element, and the cursor after it: a refusal leaves the cursor
abbrev pub element_in : Answer Step → Answer ElementValues
element_in (answered x) = answered x.element
element_in (refused n d) = refused n d

abbrev pub cursor_after : ListCursor → Answer Step → ListCursor
cursor_after c (answered x) = x.next
cursor_after c (refused n d) = c

-- the contract of a step from the cursor c: a is the definition's answer, r the function's, c' the cursor after it
pub record Steps (c : ListCursor) (a : Answer Step) (r : Result Element Refusal) (c' : ListCursor) : Type 0 where
  pub answer : (said element_values) r ≡ element_in a
  pub cursor : c' ≡ cursor_after c a
