-- A reader is its bytes and its cursor, and a step fixes its answer and the cursor after it, so that the contracts of `new` and of the steps
-- admit one outcome. Assumes nothing.
use Rattle.std.specs.Prelude.{Result}
use Rattle.record_list.specs.declared.Element.{Element}
use Rattle.answer.specs.declared.Refusal.{Refusal}
use mathlib.Core.Path.{◌≡◌, sym, ◌∙◌}
use Rattle.answer.specs.Answer.{Answer}
use Rattle.record_list.specs.Lists.{Step}
use Rattle.record_list.proofs.OneOutcome.{one-element}
use Rattle.record_list.specs.declared.ListCursor.{ListCursor}
use Rattle.record_reader.specs.Reader.{Steps}
use Rattle.record_reader.specs.declared.ListReader.{ListReader}

pub one_reader : (r q : ListReader) → r.bytes ≡ q.bytes → r.cursor ≡ q.cursor → r ≡ q
one_reader r q b c = λ i. record { bytes = b i; cursor = c i }

pub one-steps : (c : ListCursor) (a : Answer Step) (r q : Result Element Refusal) (c' c'' : ListCursor) → Steps c a r c' → Steps c a q c'' → (r ≡ q) × (c' ≡ c'')
one-steps c a r q c' c'' x y = (one-element r q (x.answer ∙ sym y.answer), x.cursor ∙ sym y.cursor)
