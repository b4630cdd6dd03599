-- `field_number::number_at` meets its contract: a leaf that is itself the number, or the number behind a prefix. Assumes nothing.
use mathlib.Core.Path.{sym}
use Rattle.field_number.proofs.FormLaws.{wide_form}
use Rattle.field_number.proofs.number_at.Goals as goal

pub returns : goal.returns
returns c = wide_form _ _ _ _ (sym c.in_ok-n.ensures) c.if-n-lt32768.false _ _ _ (sym c.in_ok-value.ensures) c.shortest_width.ensures
