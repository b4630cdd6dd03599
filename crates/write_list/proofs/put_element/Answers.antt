-- `write_list::put_element` meets its contract: writing it cannot be refused. Assumes nothing.
use mathlib.Core.Path.{◌∙◌, sym, ap}
use Rattle.write_list.proofs.ElementLaws.{element-put, written-put, not_written}
use Rattle.write_list.proofs.put_element.Goals as goal
use Rattle.answer.specs.Refusals.{itself, said}

pub returns-in-Ok : goal.returns-in-Ok
returns-in-Ok c =
    let a = c.requires in
    let w = element-put _ _ _ _ _ a.0 a.1 a.2 (rw (c.element_pieces-xs.ensures _) at c.write_filled.ensures) in
    written-put _ _ _ _ _ (sym (ap (said itself) c.in-Ok.is) ∙ w.0) w.1

pub returns-in-Err : goal.returns-in-Err
returns-in-Err c =
    let a = c.requires in
    let w = element-put _ _ _ _ _ a.0 a.1 a.2 (rw (c.element_pieces-xs.ensures _) at c.write_filled.ensures) in
    not_written (sym (ap (said itself) c.in-Err.is) ∙ w.0)
