-- `declare_type::write::decimal`, which calls itself, meets its contract: the digits left fall. Assumes nothing.
use Rattle.declare_type.proofs.write.+decimal.Given as goal

abbrev pub decreases-decimal : goal.decreases-decimal
decreases-decimal l = l.k
