-- `field_text::string_at` meets its contract: the search came to the zero byte, or to the end. Assumes nothing.
use Rattle.std.proofs.Common.{arith}
use Rattle.field_text.proofs.ZeroLaws.{came-to-none}
use Rattle.field_text.proofs.string_at.Goals as goal

pub returns : goal.returns
returns c = came-to-none _ _ _ c.zero_from-e.ensures (omega arith)
