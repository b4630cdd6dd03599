-- Each function has the clauses of the library's function that it calls, all of them and no others. Written by tools/exports.
use Rattle.std.proofs.Common.{◌≡◌, refl}
use base.Logic.{SProp}
use contract.Monad.{Fun}
use prog.Memory.{Memory}
use prog.Routine.{Routine}
use seplogic.Ra.Ura.{Ura}
use types.Logic.{Logic}
use Rattle.pane_record_c.specs.contracts.pdb_type
use Rattle.pane_record_c.specs.contracts.pdb_id
use Rattle.pane_record_c.specs.contracts.pdb_list
use Rattle.pane_record_c.specs.contracts.pdb_step
use Rattle.pane_record.specs.contracts.pdb_type as pdb_type'
use Rattle.pane_record.specs.contracts.pdb_id as pdb_id'
use Rattle.pane_record.specs.contracts.pdb_list as pdb_list'
use Rattle.pane_record.specs.contracts.pdb_step as pdb_step'

pub record Tied (M : Type 1) (𝓤 : Ura M) (𝓛 : Logic 𝓤) (mem : Memory → SProp 𝓤) (run : Routine → Fun 𝓤) : Type 2 where
  pub pdb_type : pdb_type.clauses 𝓛 mem run ≡ pdb_type'.clauses 𝓛 mem run
  pub pdb_id : pdb_id.clauses 𝓛 mem run ≡ pdb_id'.clauses 𝓛 mem run
  pub pdb_list : pdb_list.clauses 𝓛 mem run ≡ pdb_list'.clauses 𝓛 mem run
  pub pdb_step : pdb_step.clauses 𝓛 mem run ≡ pdb_step'.clauses 𝓛 mem run

pub tied : (M : Type 1) (𝓤 : Ura M) (𝓛 : Logic 𝓤) (mem : Memory → SProp 𝓤) (run : Routine → Fun 𝓤) → Tied M 𝓤 𝓛 mem run
tied M 𝓤 𝓛 mem run = record {
  pdb_type = refl;
  pdb_id = refl;
  pdb_list = refl;
  pdb_step = refl;
}
