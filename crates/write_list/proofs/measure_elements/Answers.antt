-- `write_list::measure_elements` meets its contract: what is left to measure stands in the invariant. Assumes nothing.
use Rattle.write_list.proofs.ElementLaws.{size-held}
use Rattle.write_list.proofs.measure_elements.Goals as goal

pub filled_size-requires : goal.filled_size-requires
filled_size-requires c = size-held _ _ c.in_ok-k.ensures
