-- What the answers of the list readers say: document 01's number, or the element's values and the cursor for the next one.
use Rattle.std.specs.Prelude.{Result, [], ◌∷◌}
use Rattle.answer.specs.declared.Refusal.{Refusal}
use Rattle.answer.specs.Answer.{Answer}
use Rattle.answer.specs.Refusals.{said}
use Rattle.record_layout.specs.Fields.{number}
use Rattle.record_member.specs.Said.{member_values, entry_values}
use Rattle.record_list.specs.Lists.{ElementValues, type_element, id_element, method_element, member_element, Step}
use Rattle.record_list.specs.declared.ListCursor.{ListCursor}
use Rattle.record_list.specs.declared.Element.{Element}
use Rattle.record_list.specs.declared.Element.TheVariants as element

abbrev pub element_values : Element → ElementValues
element_values (element.Type t) = type_element (number t.0 ∷ [])
element_values (element.Id i) = id_element (number i.0 ∷ [])
element_values (element.Method m) = method_element (entry_values m)
element_values (element.Member m) = member_element (member_values m)

abbrev pub step_said : Element × ListCursor → Step
step_said (e, c) = record { element = element_values e; next = c }

abbrev pub said_step : Result (Element × ListCursor) Refusal → Answer Step
said_step = said step_said
