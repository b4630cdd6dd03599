-- `declare_type::write::quals_in` meets its contract. Assumes nothing.
use Rattle.declare_spelling.specs.Spellings.{quals_text}
use Rattle.declare_type.proofs.TokenPutLaws.{ending-puts}
use Rattle.declare_type.proofs.write.quals_in.Goals as goal

pub returns : goal.returns
returns c = ending-puts c.args.last (quals_text c.args.q) _ _ _ _ _ _ c.quals-e.ensures c.end_quals.ensures
