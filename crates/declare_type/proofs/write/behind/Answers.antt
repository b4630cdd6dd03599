-- `declare_type::write::behind` meets its contract. Assumes nothing.
use mathlib.Core.Path.{sym, ◌∙◌}
use Rattle.declare_spelling.specs.Spellings.{quals_text}
use Rattle.declare_type.proofs.TokenPutLaws.{puts_none, puts-as, puts-two, behind-none, behind-some}
use Rattle.declare_type.proofs.write.behind.Goals as goal

pub returns-then-n-eq0 : goal.returns-then-n-eq0
returns-then-n-eq0 c = puts-as _ _ _ _ _ _ (sym (behind-none (quals_text c.args.q) (sym c.quals_len-n.ensures.0 ∙ c.if-n-eq0.true))) (puts_none _ _)

pub returns : goal.returns
returns c = puts-as _ _ _ _ _ _ (sym (behind-some (quals_text c.args.q) (λ e. c.if-n-eq0.false (c.quals_len-n.ensures.0 ∙ e)))) (puts-two _ _ _ _ _ _ _ _ c.byte-e.ensures c.quals.ensures)
