-- `stream_places::save_wide` meets its contract where the header is refused. Assumes nothing.
use Rattle.stream_places.proofs.PlacesLaws.{save-refused}
use Rattle.stream_places.proofs.save_wide.Goals as goal

pub returns-in_err-h : goal.returns-in_err-h
returns-in_err-h c = save-refused _ _ _ _ _ _ c.in_err-h.ensures c.from_residual.ensures.1
