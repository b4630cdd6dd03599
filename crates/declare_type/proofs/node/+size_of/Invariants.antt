-- `declare_type::node::size_of`, which calls itself, meets its contract: the types left to go through fall. Assumes nothing.
use Rattle.declare_type.proofs.node.+size_of.Given as goal

abbrev pub decreases-size_of : goal.decreases-size_of
decreases-size_of l = l.k
