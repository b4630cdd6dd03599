-- What an answer about a list says fixes the answer, so that each contract admits one outcome: the answer is read back from what it says.
-- Assumes nothing.
use Rattle.std.specs.Prelude.{Result}
use Rattle.answer.specs.declared.Refusal.{Refusal}
use mathlib.Core.Path.{◌≡◌, refl, ap}
use Rattle.answer.proofs.OneOutcome.{one_answer, one_said}
use Rattle.record_layout.specs.Values.{nth, number_in}
use Rattle.record_member.proofs.OneOutcome.{member_in, member_back, entry_in, entry-back}
use Rattle.record_list.specs.Lists.{ElementValues, type_element, id_element, method_element, member_element, Step}
use Rattle.record_list.specs.Said.{element_values, said_step, step_said}
use Rattle.record_list.specs.declared.ListCursor.{ListCursor}
use Rattle.record_list.specs.declared.Element.{Element}
use Rattle.record_list.specs.declared.Element.TheVariants as element
use Rattle.answer.specs.Refusals.{itself, said}

pub one-start : (r q : Result ListCursor Refusal) → said itself r ≡ said itself q → r ≡ q
one-start = one_answer

abbrev element_in : ElementValues → Element
element_in (type_element vs) = element.Type (record { 0 = number_in (nth 0 vs) })
element_in (id_element vs) = element.Id (record { 0 = number_in (nth 0 vs) })
element_in (method_element vs) = element.Method (entry_in vs)
element_in (member_element vs) = element.Member (member_in vs)

element-back : (e : Element) → element_in (element_values e) ≡ e
element-back (element.Type t) = refl
element-back (element.Id i) = refl
element-back (element.Method m) = ap element.Method (entry-back m)
element-back (element.Member m) = ap element.Member (member_back m)

abbrev step_in : Step → Element × ListCursor
step_in x = (element_in x.element, x.next)

step-back : (x : Element × ListCursor) → step_in (step_said x) ≡ x
step-back (e, c) = ap (λ x. (x, c)) (element-back e)

pub one-step : (r q : Result (Element × ListCursor) Refusal) → said_step r ≡ said_step q → r ≡ q
one-step = one_said step_said step_in step-back

pub one-element : (r q : Result Element Refusal) → said element_values r ≡ said element_values q → r ≡ q
one-element = one_said element_values element_in element-back
