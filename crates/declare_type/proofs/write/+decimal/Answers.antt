-- `declare_type::write::decimal`, which calls itself, meets its contract: the digits left fall. Assumes nothing.
use native.Mathlib.Omega.{arith}
use mathlib.Core.Path.{sym}
use Rattle.declare_type.proofs.TokenLaws.{decimal-none, decimal-one, more-is}
use Rattle.declare_type.proofs.TokenPutLaws.{fits-as, puts-as, puts_none, puts-two, fits-first, fits-second}
use Rattle.declare_type.proofs.write.+decimal.Goals as goal

pub returns-then-k-eq0 : goal.returns-then-k-eq0
returns-then-k-eq0 t c = puts-as _ _ _ _ _ _ (sym (decimal-none _ _ c.if-k-eq0.true)) (puts_none _ _)

pub byte-requires : goal.byte-requires
byte-requires t c = fits-as _ _ _ _ (decimal-one c.args.k c.args.n (omega arith) (omega arith)) c.requires

pub returns-then-n-lt10 : goal.returns-then-n-lt10
returns-then-n-lt10 t c = puts-as _ _ _ _ _ _ (sym (decimal-one _ _ (omega arith) (omega arith))) c.byte.ensures

pub decimal-e-requires : goal.decimal-e-requires
decimal-e-requires t c = (omega arith, fits-first _ _ _ _ (fits-as _ _ _ _ (more-is c.args.k c.args.n (omega arith) (omega arith)) c.requires))

pub byte-requires-2 : goal.byte-requires-2
byte-requires-2 t c = fits-second _ _ _ _ _ _ (fits-as _ _ _ _ (more-is c.args.k c.args.n (omega arith) (omega arith)) c.requires) c.decimal-e.ensures

pub returns : goal.returns
returns t c = puts-as _ _ _ _ _ _ (sym (more-is _ _ (omega arith) (omega arith))) (puts-two _ _ _ _ _ _ _ _ c.decimal-e.ensures c.byte-2.ensures)
