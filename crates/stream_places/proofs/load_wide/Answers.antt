-- `stream_places::load_wide` meets its contract: the header's own answer, the trailer's, or the places loaded by both. Assumes nothing.
use Rattle.stream_places.proofs.PlacesLaws.{load-unheaded, load-untrailed, load-both}
use Rattle.stream_places.proofs.load_wide.Goals as goal

pub returns-in_err-h : goal.returns-in_err-h
returns-in_err-h c = load-unheaded _ _ _ _ _ _ c.in_err-h.ensures c.from_residual.ensures.1

pub returns-in_err-k : goal.returns-in_err-k
returns-in_err-k c = load-untrailed _ _ _ _ _ _ _ c.in_ok-h.ensures c.in_err-k.ensures c.from_residual-in_err-k.ensures.1

pub returns : goal.returns
returns c = load-both _ _ _ _ _ _ _ _ c.in_ok-h.ensures c.in_ok-k.ensures c.loaded.ensures
