-- `stream_drop::drop` meets its contract: the header's refusals, 29, and then those of a fit stream. Assumes nothing.
use Rattle.std.specs.Prelude.{Ok}
use mathlib.Core.Path.{refl, ap, sym, ◌∙◌}
use Rattle.answer.proofs.Told.{told}
use Rattle.stream_fit.specs.Fit.{said_fit}
use Rattle.stream_drop.proofs.DropLaws.{by-header, by-iter, by-fit, not-fit, by-yes}
use Rattle.stream_drop.proofs.drop.Goals as goal

pub returns-in_err-h : goal.returns-in_err-h
returns-in_err-h c = by-header _ _ _ _ _ _ c.in_err-h.ensures c.from_residual.ensures.1

pub returns-in_err-c : goal.returns-in_err-c
returns-in_err-c c = by-iter _ _ _ _ _ _ c.in_ok-h.ensures _ c.in_err-c.ensures c.from_residual-in_err-c.ensures.1

pub returns-in_err-fit : goal.returns-in_err-fit
returns-in_err-fit c = by-fit _ _ _ _ _ _ c.in_ok-h.ensures _ c.in_ok-c.ensures _ c.in_err-fit.ensures c.from_residual-in_err-fit.ensures.1

pub returns-in-Unfit : goal.returns-in-Unfit
returns-in-Unfit c = not-fit _ _ _ _ _ _ c.in_ok-h.ensures _ c.in_ok-c.ensures _ _ (sym (told said_fit c.fit.ensures (c.in_ok-fit.was ∙ ap Ok c.in-Unfit.is))) refl

pub returns-in-Fit : goal.returns-in-Fit
returns-in-Fit c = by-yes _ _ _ _ _ _ c.in_ok-h.ensures _ c.in_ok-c.ensures (sym (told said_fit c.fit.ensures (c.in_ok-fit.was ∙ ap Ok c.in-Fit.is))) _ _ c.dropped.ensures
