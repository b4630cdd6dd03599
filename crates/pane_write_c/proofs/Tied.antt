-- Each function has the clauses of the library's function that it calls, all of them and no others. Written by tools/exports.
use Rattle.std.proofs.Common.{◌≡◌, refl}
use base.Logic.{SProp}
use contract.Monad.{Fun}
use prog.Memory.{Memory}
use prog.Routine.{Routine}
use seplogic.Ra.Ura.{Ura}
use types.Logic.{Logic}
use Rattle.pane_write_c.specs.contracts.pdb_write_type
use Rattle.pane_write_c.specs.contracts.pdb_write_id
use Rattle.pane_write_c.specs.contracts.pdb_write_fields
use Rattle.pane_write_c.specs.contracts.pdb_write_methods
use Rattle.pane_write_c.specs.contracts.pdb_write_header
use Rattle.pane_write_c.specs.contracts.pdb_cells
use Rattle.pane_write_c.specs.contracts.pdb_layout
use Rattle.pane_write.specs.contracts.pdb_write_type as pdb_write_type'
use Rattle.pane_write.specs.contracts.pdb_write_id as pdb_write_id'
use Rattle.pane_write.specs.contracts.pdb_write_fields as pdb_write_fields'
use Rattle.pane_write.specs.contracts.pdb_write_methods as pdb_write_methods'
use Rattle.pane_write.specs.contracts.pdb_write_header as pdb_write_header'
use Rattle.pane_write.specs.contracts.pdb_cells as pdb_cells'
use Rattle.pane_write.specs.contracts.pdb_layout as pdb_layout'

pub record Tied (M : Type 1) (𝓤 : Ura M) (𝓛 : Logic 𝓤) (mem : Memory → SProp 𝓤) (run : Routine → Fun 𝓤) : Type 2 where
  pub pdb_write_type : pdb_write_type.clauses 𝓛 mem run ≡ pdb_write_type'.clauses 𝓛 mem run
  pub pdb_write_id : pdb_write_id.clauses 𝓛 mem run ≡ pdb_write_id'.clauses 𝓛 mem run
  pub pdb_write_fields : pdb_write_fields.clauses 𝓛 mem run ≡ pdb_write_fields'.clauses 𝓛 mem run
  pub pdb_write_methods : pdb_write_methods.clauses 𝓛 mem run ≡ pdb_write_methods'.clauses 𝓛 mem run
  pub pdb_write_header : pdb_write_header.clauses 𝓛 mem run ≡ pdb_write_header'.clauses 𝓛 mem run
  pub pdb_cells : pdb_cells.clauses 𝓛 mem run ≡ pdb_cells'.clauses 𝓛 mem run
  pub pdb_layout : pdb_layout.clauses 𝓛 mem run ≡ pdb_layout'.clauses 𝓛 mem run

pub tied : (M : Type 1) (𝓤 : Ura M) (𝓛 : Logic 𝓤) (mem : Memory → SProp 𝓤) (run : Routine → Fun 𝓤) → Tied M 𝓤 𝓛 mem run
tied M 𝓤 𝓛 mem run = record {
  pdb_write_type = refl;
  pdb_write_id = refl;
  pdb_write_fields = refl;
  pdb_write_methods = refl;
  pdb_write_header = refl;
  pdb_cells = refl;
  pdb_layout = refl;
}
