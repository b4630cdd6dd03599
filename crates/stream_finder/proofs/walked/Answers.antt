-- `stream_finder::walked` meets its contract: the two last outcomes of `look_of`. Assumes nothing.
use native.Mathlib.Omega.{arith}
use mathlib.Core.Path.{sym, ap, ◌∙◌}
use Rattle.stream_finder.specs.Finder.{state, landed}
use Rattle.stream_finder.proofs.FinderLaws.{find-held}
use Rattle.stream_finder.proofs.walked.Goals as goal

pub returns-in-Landed : goal.returns-in-Landed
returns-in-Landed c =
    let a = c.args in
    let k = c.rest_of-k in
    sym (find-held a.s.now (state a.f a.t.now) a.i a.n k.result k.ensures (omega arith) (omega arith) (omega arith) (omega arith)
    ∙ ap (landed a.i k.result) (sym c.link_of.ensures ∙ c.in-Landed.is))

pub returns-in-Missed : goal.returns-in-Missed
returns-in-Missed c =
    let a = c.args in
    let k = c.rest_of-k in
    sym (find-held a.s.now (state a.f a.t.now) a.i a.n k.result k.ensures (omega arith) (omega arith) (omega arith) (omega arith)
    ∙ ap (landed a.i k.result) (sym c.link_of.ensures ∙ c.in-Missed.is))
