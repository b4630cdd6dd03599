-- Lists are refused by each number exactly when document 01 says. Assumes nothing.
use Rattle.claim_promises.specs.ListsWhen.{CutElement, BadElement, NoElement, ListsWhen}
use Rattle.claim_promises.proofs.GivenLists as lists

pub lists-when : ListsWhen
lists-when = record {
  type_lists_1 = lists.type-lists-1;
  id_lists_1 = lists.id-lists-1;
  steps_1 = lists.steps-1;
  steps_10 = lists.steps-10;
  steps_11 = lists.steps-11;
  steps_15 = lists.steps-15;
  elements_on_when = lists.elements-on-when;
  elements_on_only = λ s k c n d. lists.elements-on-only s n d k c;
  elements_on_1 = λ s. lists.elements-on-given s 1 (CutElement s) (lists.steps-1 s);
  elements_on_11 = λ s. lists.elements-on-given s 11 (BadElement s) (lists.steps-11 s);
  elements_on_15 = λ s. lists.elements-on-given s 15 (NoElement s) (lists.steps-15 s);
  elements_start = λ tag s. lists.elements-start s tag;
  elements_when = λ tag s. lists.elements-when s tag;
  elements_only = λ tag s. lists.elements-only s tag;
  elements_1 = λ tag s. lists.elements-1 s tag;
  elements_11 = λ tag s. lists.elements-11 s tag;
  elements_15 = λ tag s. lists.elements-15 s tag;
}
