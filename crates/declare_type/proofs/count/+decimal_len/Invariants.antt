-- `declare_type::count::decimal_len`, which calls itself, meets its contract: the digits left fall. Assumes nothing.
use Rattle.declare_type.proofs.count.+decimal_len.Given as goal

abbrev pub decreases-decimal_len : goal.decreases-decimal_len
decreases-decimal_len l = l.k
