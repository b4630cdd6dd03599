-- `pane_section::pdb_section_index` meets its contract. Assumes nothing.
use Rattle.std.proofs.Common.{rules}
use Rattle.pane_state.proofs.WalkLaws.{out-done, out-refused}
use Rattle.pane_section.proofs.WalkLaws.{index_done, index_refused}
use Rattle.pane_section.proofs.pdb_section_index.Goals as goal

pub returns-in-Ok : goal.returns-in-Ok
returns-in-Ok c = out-done _ _ _ _ _ (index_done _ _ _ _ _ c.in-Ok.ensures) c.walk_out.ensures

pub returns-in-Err : goal.returns-in-Err
returns-in-Err c = out-refused _ _ _ _ _ _ _ (index_refused _ _ _ _ _ c.in-Err.ensures) c.in-Err.ensures.1 c.refused.ensures (search rules)
