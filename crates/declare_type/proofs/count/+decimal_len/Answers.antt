-- `declare_type::count::decimal_len`, which calls itself, meets its contract: the digits left fall. Assumes nothing.
use native.Mathlib.Omega.{arith}
use mathlib.Core.Path.{ap, sym, ◌∙◌}
use Prim.Native.Nat.{◌+◌}
use Rattle.declare_type.proofs.TokenLaws.{no_digit, one-digit, more-digits}
use Rattle.declare_type.proofs.count.+decimal_len.Goals as goal

pub returns-then-k-eq0 : goal.returns-then-k-eq0
returns-then-k-eq0 t c = (sym (no_digit _ _ (omega arith)), omega arith)

pub returns-then-n-lt10 : goal.returns-then-n-lt10
returns-then-n-lt10 t c = (sym (one-digit _ _ (omega arith) (omega arith)), omega arith)

pub returns : goal.returns
returns t c = (ap (λ x. x + 1) c.decimal_len.ensures.0 ∙ sym (more-digits _ _ (omega arith) (omega arith)), omega arith)
