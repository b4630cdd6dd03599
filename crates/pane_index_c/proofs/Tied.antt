-- Each function has the clauses of the library's function that it calls, all of them and no others. Written by tools/exports.
use Rattle.std.proofs.Common.{◌≡◌, refl}
use base.Logic.{SProp}
use contract.Monad.{Fun}
use prog.Memory.{Memory}
use prog.Routine.{Routine}
use seplogic.Ra.Ura.{Ura}
use types.Logic.{Logic}
use Rattle.pane_index_c.specs.contracts.pdb_create
use Rattle.pane_index_c.specs.contracts.pdb_index
use Rattle.pane_index_c.specs.contracts.pdb_max_index
use Rattle.pane_index_c.specs.contracts.pdb_view
use Rattle.pane_index_c.specs.contracts.pdb_kind
use Rattle.pane_index_c.specs.contracts.pdb_load
use Rattle.pane_index_c.specs.contracts.pdb_load_short
use Rattle.pane_index_c.specs.contracts.pdb_save
use Rattle.pane_index_c.specs.contracts.pdb_save_short
use Rattle.pane_index.specs.contracts.pdb_create as pdb_create'
use Rattle.pane_index.specs.contracts.pdb_index as pdb_index'
use Rattle.pane_index.specs.contracts.pdb_max_index as pdb_max_index'
use Rattle.pane_index.specs.contracts.pdb_view as pdb_view'
use Rattle.pane_index.specs.contracts.pdb_kind as pdb_kind'
use Rattle.pane_index.specs.contracts.pdb_load as pdb_load'
use Rattle.pane_index.specs.contracts.pdb_load_short as pdb_load_short'
use Rattle.pane_index.specs.contracts.pdb_save as pdb_save'
use Rattle.pane_index.specs.contracts.pdb_save_short as pdb_save_short'

pub record Tied (M : Type 1) (𝓤 : Ura M) (𝓛 : Logic 𝓤) (mem : Memory → SProp 𝓤) (run : Routine → Fun 𝓤) : Type 2 where
  pub pdb_create : pdb_create.clauses 𝓛 mem run ≡ pdb_create'.clauses 𝓛 mem run
  pub pdb_index : pdb_index.clauses 𝓛 mem run ≡ pdb_index'.clauses 𝓛 mem run
  pub pdb_max_index : pdb_max_index.clauses 𝓛 mem run ≡ pdb_max_index'.clauses 𝓛 mem run
  pub pdb_view : pdb_view.clauses 𝓛 mem run ≡ pdb_view'.clauses 𝓛 mem run
  pub pdb_kind : pdb_kind.clauses 𝓛 mem run ≡ pdb_kind'.clauses 𝓛 mem run
  pub pdb_load : pdb_load.clauses 𝓛 mem run ≡ pdb_load'.clauses 𝓛 mem run
  pub pdb_load_short : pdb_load_short.clauses 𝓛 mem run ≡ pdb_load_short'.clauses 𝓛 mem run
  pub pdb_save : pdb_save.clauses 𝓛 mem run ≡ pdb_save'.clauses 𝓛 mem run
  pub pdb_save_short : pdb_save_short.clauses 𝓛 mem run ≡ pdb_save_short'.clauses 𝓛 mem run

pub tied : (M : Type 1) (𝓤 : Ura M) (𝓛 : Logic 𝓤) (mem : Memory → SProp 𝓤) (run : Routine → Fun 𝓤) → Tied M 𝓤 𝓛 mem run
tied M 𝓤 𝓛 mem run = record {
  pdb_create = refl;
  pdb_index = refl;
  pdb_max_index = refl;
  pdb_view = refl;
  pdb_kind = refl;
  pdb_load = refl;
  pdb_load_short = refl;
  pdb_save = refl;
  pdb_save_short = refl;
}
